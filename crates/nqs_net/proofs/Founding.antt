-- A host that was formatted and booted on empty disks without a fuse is a new one.
use Rattle.std.proofs.Common.{◌≡◌, ◌⊎◌, inl, inr, IsTrue, Bool, true≢false, ℕ, zero, suc, ◌+◌, ◌<◌, ◌≤◌, false, true, List, [], ◌∷◌, ◌++◌, take, length, None}
use Rattle.std.proofs.Common.{Some, refl, sym, ap, subst, ◌∙◌, arith}
use Rattle.nqs_types.specs.declared.change.Change.TheVariants.{Boot}
use Rattle.nqs_types.specs.declared.ids.HostId.{HostId}
use Rattle.nqs_base.specs.Want.{want}
use Rattle.nqs_base.specs.declared.tear.Tear.{Tear}
use Rattle.nqs_base.specs.declared.tear.Tear.TheVariants.{Old}
use Rattle.nqs_types.specs.declared.world.Which.{Which}
use Rattle.nqs_types.specs.declared.world.Which.TheVariants.{Root, First, Second, Spool}
use Rattle.nqs_outside.specs.History.{History, content, moment, extended, IsQuiet}
use Rattle.nqs_journal.specs.Plan.{begin_calls}
use Rattle.nqs_journal.specs.Either.{StandsBy}
use Rattle.nqs_disk.specs.MemDisk as mem
use Rattle.nqs_disk.specs.contracts.mem_disk.MemDiskDisk.TheImpl.{ghosts}
use Rattle.nqs_disk.specs.declared.mem_disk.MemDisk.{MemDisk}
use Rattle.nqs_rules.specs.Applied.{applied}
use Rattle.nqs_rules.specs.Format.{formatted}
use Rattle.nqs_rules.specs.Journals.{is_second, active}
use Rattle.nqs_rules.specs.World.{Host, no_fuses, no_calls, new_host, hosts_from}
use Rattle.nqs_store.specs.Active.{Active, IsActive, recorded, ready}
use Rattle.nqs_store.specs.Commits.{IsKept}
use Rattle.nqs_node.specs.Carried.{IsCutBy, IsBlown, IsOneOrOther}
use Rattle.nqs_store.specs.Disks.{histories_of, failing_of, contents}
use Rattle.nqs_store.specs.declared.fault.StoreFault.{StoreFault}
use Rattle.nqs_store.specs.Formatted.{IsFormatted}
use Rattle.nqs_store.specs.Images.{IsTold}
use Rattle.nqs_store.specs.Sound.{IsSoundHost}
use Rattle.nqs_store.specs.declared.disks.Disks.{Disks}
use Rattle.nqs_store.proofs.LeftAlone.{unused}
use Rattle.nqs_node.specs.Nodes.{history_of, fails_of, active_of, content_of, Tells}
use Rattle.nqs_node.specs.declared.node.Node.{Node}
use Rattle.nqs_net.specs.Worlds.{IsDisk, AreInTurn, AreDisks, IsUp, IsSlot, AreSlots}
use Rattle.nqs_net.specs.declared.slot.Slot.{Slot}
use Rattle.nqs_net.specs.declared.slot.Slot.TheVariants.{Up}
use Rattle.nqs_net.specs.declared.slot.UpHost.{UpHost}
use Rattle.nqs_net.proofs.Coming.{told_here, uncalled_quiet}
use Rattle.nqs_net.proofs.Turning.{kept_up}
use Rattle.nqs_net.specs.Pasts.{HasCome}

-- a disk that is as it was made
still : (disk : MemDisk) → mem.history_of disk ≡ unused → ((i : ℕ) → mem.fails_of disk i ≡ false) → IsDisk None 0 (mem.history_of disk) (mem.fails_of disk)
still disk bare unfused = record { fuse = unfused; count = ap moment bare; turn = subst (λ h. AreInTurn h.calls) (sym bare) tt }

-- a disk without a fuse was not formatted: it is starved
pub format_starved : (fault : StoreFault) (fails : ℕ → Bool) (starved : Bool) (which : Which) → ((i : ℕ) → fails i ≡ false)
    → (fault ≡ StoreFault.Disk First) ⊎ (fault ≡ StoreFault.Memory want)
    → (fault ≡ StoreFault.Disk First → IsTrue starved ⊎ ((i : ℕ) × IsTrue (fails i))) → fault ≡ StoreFault.Disk which → IsTrue starved
format_starved fault fails starved which unfused (inr memory) cause is = absurd (let no : ⊥ = cc in no)
format_starved fault fails starved which unfused (inl first) cause is = by (cause first)
  where
    by : IsTrue starved ⊎ ((i : ℕ) × IsTrue (fails i)) → IsTrue starved
    by (inl hungry) = hungry
    by (inr (i, due)) = absurd (true≢false (sym due ∙ unfused i))

-- the first journal is active, and has one record
abbrev pub formatted_active : Active
formatted_active = record { second = false; records = 1; is_old = false }

module _ (me : HostId) (site : List (List ℕ)) where
  module _ (disks : Disks MemDisk) (empty : mem.history_of disks.root ≡ unused) (is : IsFormatted (mem.history_of disks.first) me site) where
    abbrev bytes : Which → List ℕ
    bytes = contents (histories_of mem.history_of disks)

    no_root : bytes Root ≡ []
    no_root = ap content empty

    pub formatted_told : IsTold bytes (formatted me site)
    formatted_told = record {
      host = formatted me site;
      is = record {
        form = 0;
        snapshot = [];
        payloads = is.payload ∷ [];
        stands = subst (λ root. StandsBy (bytes (active root)) 0 [] (is.payload ∷ [])) (sym no_root) (refl, is.opened.stands);
        tells = is.tells;
        sound = record { apart = tt; within = tt };
      };
      bytes = refl;
    }

    pub formatted_is_active : IsActive bytes formatted_active
    formatted_is_active = record {
      named = ap is_second no_root;
      form = 0;
      snapshot = [];
      payloads = is.payload ∷ [];
      stands = (refl, is.opened.stands);
      many = refl;
      old = refl;
    }

  module _ (new disks : Disks MemDisk)
      (bare : (which : Which) → histories_of mem.history_of new which ≡ unused)
      (unfused : (which : Which) (i : ℕ) → failing_of mem.fails_of new which i ≡ false)
      (root : disks.root ≡ new.root) (second : disks.second ≡ new.second) (spool : disks.spool ≡ new.spool)
      (text : List ℕ) (made : mem.history_of disks.first ≡ extended (mem.history_of new.first) (begin_calls text))
      (fuse : (i : ℕ) → mem.fails_of disks.first i ≡ mem.fails_of new.first i) where
    abbrev host : Host
    host = record {
      up = true;
      state = formatted me site;
      told = [];
      tear = Old;
      fuses = no_fuses;
      calls = record no_calls { first = 2 };
      root = [];
      records = 1;
      is_old = false;
    }

    two_calls : AreDisks host (histories_of mem.history_of disks) (failing_of mem.fails_of disks)
    two_calls Root = still disks.root (ap mem.history_of root ∙ bare Root) (λ i. ap (λ d. mem.fails_of d i) root ∙ unfused Root i)
    two_calls First =
        let begun : mem.history_of disks.first ≡ extended unused (begin_calls text) = made ∙ ap (λ h. extended h (begin_calls text)) (bare First) in
        record { fuse = λ i. fuse i ∙ unfused First i; count = ap moment begun; turn = subst (λ h. AreInTurn h.calls) (sym begun) tt }
    two_calls Second = still disks.second (ap mem.history_of second ∙ bare Second) (λ i. ap (λ d. mem.fails_of d i) second ∙ unfused Second i)
    two_calls Spool = still disks.spool (ap mem.history_of spool ∙ bare Spool) (λ i. ap (λ d. mem.fails_of d i) spool ∙ unfused Spool i)

    unfused_now : (which : Which) (i : ℕ) → failing_of mem.fails_of disks which i ≡ false
    unfused_now Root = (two_calls Root).fuse
    unfused_now First = (two_calls First).fuse
    unfused_now Second = (two_calls Second).fuse
    unfused_now Spool = (two_calls Spool).fuse

    -- nothing is pending on them
    pub formatted_quiet : IsFormatted (mem.history_of disks.first) me site → (which : Which) → IsQuiet (histories_of mem.history_of disks which)
    formatted_quiet is Root = uncalled_quiet (mem.history_of disks.root) (ap (λ (h : History). h.calls) (ap mem.history_of root ∙ bare Root))
    formatted_quiet is First = is.opened.quiet
    formatted_quiet is Second = uncalled_quiet (mem.history_of disks.second) (ap (λ (h : History). h.calls) (ap mem.history_of second ∙ bare Second))
    formatted_quiet is Spool = uncalled_quiet (mem.history_of disks.spool) (ap (λ (h : History). h.calls) (ap mem.history_of spool ∙ bare Spool))

    -- a call of its boot failed only where the disk is starved
    pub boot_starved : (which : Which) (now : Which → History) (starved : Bool)
        → IsTrue starved ⊎ (IsBlown (failing_of mem.fails_of disks which) (histories_of mem.history_of disks which)
        ⊎ IsCutBy formatted_active (failing_of mem.fails_of disks) (histories_of mem.history_of disks) now (Some Boot) (formatted me site) which)
        → IsTrue starved
    boot_starved which now starved (inl hungry) = hungry
    boot_starved which now starved (inr (inl blown)) = absurd (true≢false (sym blown.2 ∙ unfused_now which blown.0))
    boot_starved Root now starved (inr (inr cut)) = absurd (true≢false (sym cut.1.failed.due ∙ unfused_now Root _))
    boot_starved First now starved (inr (inr (inl cut))) = absurd (true≢false (sym cut.2.failed.due ∙ unfused_now Second _))
    boot_starved First now starved (inr (inr (inr cut))) = absurd (true≢false (sym cut.1.failed.due ∙ unfused_now First _))
    boot_starved Second now starved (inr (inr (inl cut))) = absurd (true≢false (sym cut.2.failed.due ∙ unfused_now Second _))
    boot_starved Second now starved (inr (inr (inr cut))) = absurd (true≢false (sym cut.1.failed.due ∙ unfused_now First _))
    boot_starved Spool now starved (inr (inr cut)) = absurd (true≢false (sym cut.failed.due ∙ unfused_now Spool _))

    abbrev made_so : Which → History
    made_so = histories_of mem.history_of disks

    empty_root : mem.history_of disks.root ≡ unused
    empty_root = ap mem.history_of root ∙ bare Root

    formatted_come : IsFormatted (mem.history_of disks.first) me site → HasCome made_so formatted_active [] (formatted me site)
    formatted_come is = (
      [],
      refl,
      record {
        root = (two_calls Root).count;
        first = (let two : moment (made_so First) ≡ 2 = (two_calls First).count in let few : moment (made_so First) ≤ 2 = omega (arith, two) in few);
        second = (two_calls Second).count;
        spool = (two_calls Spool).count;
        told = told_here made_so (formatted me site) formatted_active (formatted_quiet is) (formatted_told disks empty_root is)
            (formatted_is_active disks empty_root is);
      },
    )

    pub booted : IsFormatted (mem.history_of disks.first) me site → (node : Node MemDisk ghosts) → Tells node (applied Boot (formatted me site))
        → IsSoundHost (content_of node) → active_of node ≡ recorded (ready formatted_active)
        → IsKept formatted_active (failing_of mem.fails_of disks) [] made_so (history_of node)
        → IsOneOrOther formatted_active made_so (history_of node) (Some Boot) (formatted me site)
        → ((which : Which) (i : ℕ) → fails_of node which i ≡ failing_of mem.fails_of disks which i) → IsUp node (new_host site me.0)
    booted is node tells sound goes kept moments same = kept_up host (failing_of mem.fails_of disks) made_so two_calls node Boot (formatted_quiet is Root)
        (ap content empty_root) (formatted_come is) moments kept goes tells sound same

-- one host more

more_slots : (slots : List Slot) (tears : List Tear) (hosts : List Host) (slot : Slot) (tear : Tear) (one : Host) → AreSlots slots tears hosts → IsSlot slot one
    → tear ≡ one.tear
    → AreSlots (slots ++ slot ∷ []) (tears ++ tear ∷ []) (hosts ++ one ∷ [])
more_slots [] [] [] slot tear one are stands same = (stands, same, tt)
more_slots [] [] (h ∷ hs) slot tear one are stands same = absurd are
more_slots [] (t ∷ ts) hosts slot tear one are stands same = absurd are
more_slots (s ∷ ss) [] hosts slot tear one are stands same = absurd are
more_slots (s ∷ ss) (t ∷ ts) [] slot tear one are stands same = absurd are
more_slots (s ∷ ss) (t ∷ ts) (h ∷ hs) slot tear one are stands same = (are.0, are.1, more_slots ss ts hs slot tear one are.2 stands same)

pub more_up : (slots more : List Slot) (tears more_tears : List Tear) (hosts : List Host) (up : UpHost) (one : Host) → AreSlots slots tears hosts
    → more ≡ slots ++ Up up ∷ [] → more_tears ≡ tears ++ Old ∷ [] → IsUp up.node.value one → Old ≡ one.tear
    → AreSlots more more_tears (hosts ++ one ∷ [])
more_up slots more tears more_tears hosts up one are pushed pushed_tear stands same =
    subst (λ ss. AreSlots ss more_tears (hosts ++ one ∷ [])) (sym pushed)
    (subst (λ ts. AreSlots (slots ++ Up up ∷ []) ts (hosts ++ one ∷ [])) (sym pushed_tear) (more_slots slots tears hosts (Up up) Old one are stands same))

next_host : (site : List (List ℕ)) (names : List (List ℕ)) (from i : ℕ) → i < length names
    → hosts_from from site (take (suc i) names) ≡ hosts_from from site (take i names) ++ new_host site (from + i) ∷ []
next_host site [] from i lt = absurd (let no : ⊥ = omega (arith, lt) in no)
next_host site (name ∷ names) from zero lt = ap (λ n. new_host site n ∷ []) (let e : from ≡ from + 0 = omega arith in e)
next_host site (name ∷ names) from (suc i) lt =
    let moved : from + 1 + i ≡ from + suc i = omega arith in
    ap (λ hosts. new_host site from ∷ hosts) (next_host site names (from + 1) i (omega (arith, lt))
    ∙ ap (λ n. hosts_from (from + 1) site (take i names) ++ new_host site n ∷ []) moved)

pub host_more : (site : List (List ℕ)) (i : ℕ) → i < length site → hosts_from 0 site (take (i + 1) site)
    ≡ hosts_from 0 site (take i site) ++ new_host site i ∷ []
host_more site i lt =
    let next : i + 1 ≡ suc i = omega arith in
    let here : 0 + i ≡ i = omega arith in
    ap (λ n. hosts_from 0 site (take n site)) next ∙ next_host site site 0 i lt ∙ ap (λ n. hosts_from 0 site (take i site) ++ new_host site n ∷ []) here
