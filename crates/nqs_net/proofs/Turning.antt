-- What a step of a host makes of a network.
use Rattle.std.proofs.Common.{◌≡◌, ◌⊎◌, inl, inr, IsTrue, true≢false, ℕ, ◌+◌, Bool, true, false, List, [], ◌∷◌, ◌++◌, length, map, Option, None, Some, refl}
use Rattle.std.proofs.Common.{sym, ap, subst, ◌∙◌}
use Rattle.std.proofs.lemmas.List.{append_assoc}
use Rattle.nqs_state.specs.State.{Plain}
use Rattle.nqs_types.specs.declared.ids.HostId.{HostId}
use Rattle.nqs_types.specs.declared.message.Message.{Message}
use Rattle.nqs_types.specs.declared.change.Change.{Change}
use Rattle.nqs_types.specs.declared.event.Output.{Output}
use Rattle.nqs_base.specs.declared.tear.Tear.{Tear}
use Rattle.nqs_types.specs.declared.world.Seen.{Seen}
use Rattle.nqs_types.specs.declared.world.Seen.TheVariants as seen
use Rattle.nqs_types.specs.declared.world.Which.{Which}
use Rattle.nqs_types.specs.declared.world.Which.TheVariants.{Root, First, Second, Spool}
use Rattle.nqs_outside.specs.History.{History, content, moment, state, IsImage, IsQuiet}
use Rattle.nqs_disk.specs.MemDisk as mem
use Rattle.nqs_disk.specs.Torn.{torn}
use Rattle.nqs_disk.specs.declared.mem_disk.MemDisk.{MemDisk}
use Rattle.nqs_rules.specs.Applied.{applied}
use Rattle.nqs_rules.specs.Starts.{after_change, after_step}
use Rattle.nqs_rules.specs.Stepped.{Stepped, shown, stored_parts}
use Rattle.nqs_rules.specs.Notes.{Why, Note, Saw, Kept, saws, sights}
use Rattle.nqs_rules.specs.World.{World as Network, Host, Ran, seen_of, Fate, Made, StoppedBefore, StoppedAfter, fate, host_of, put_host, emits, of_disk}
use Rattle.nqs_rules.specs.World.{ready, recorded, cut_off, stopped, used, change_fated, makes_change, carries_out, steps, then_noted, then_ran}
use Rattle.nqs_rules.proofs.OutputsOrder.{put_twice}
use Rattle.nqs_store.specs.Active.{IsActive, ready as ready_in, recorded as recorded_in}
use Rattle.nqs_store.specs.Commits.{IsKept, IsCutAt}
use Rattle.nqs_store.specs.Disks.{disk_at, histories_of, failing_of, contents}
use Rattle.nqs_store.specs.Images.{IsTold}
use Rattle.nqs_store.specs.declared.disks.Disks.{Disks}
use Rattle.nqs_node.specs.Carried.{after_kept, IsMade, IsCutBy, IsBlown, IsOneOrOther}
use Rattle.nqs_node.specs.Nodes.{disk_of, history_of, fails_of, is_starved, active_of, content_of, Tells}
use Rattle.nqs_disk.specs.contracts.mem_disk.MemDiskDisk.TheImpl.{ghosts}
use Rattle.nqs_node.specs.declared.node.Node.{Node}
use Rattle.nqs_store.specs.Sound.{IsSoundHost}
use Rattle.nqs_laws.proofs.Frame.{emits_notes, emits_world}
use Rattle.nqs_laws.proofs.Sound.{get-here}
use Rattle.nqs_laws.proofs.Told.{all_seen, sights-append}
use Rattle.nqs_laws.proofs.AlikeRuns.{ready_tear}
use Rattle.nqs_laws.specs.Outputs.{sent_in, seen_from}
use Rattle.nqs_net.specs.Pasts.{HasCome}
use Rattle.nqs_net.specs.Worlds.{AreInTurn, AreDisks, IsUp, IsDown, IsSlot, active_in}
use Rattle.nqs_net.specs.Turns.{IsTorn, IsStopped, IsTaken, IsDownSlot, Faces, IsSameBut, Turns}
use Rattle.nqs_net.specs.declared.slot.Slot.{Slot}
use Rattle.nqs_net.specs.declared.slot.Slot.TheVariants.{Up, Down}
use Rattle.nqs_net.proofs.Fates.{unblown}
use Rattle.nqs_net.proofs.Burns.{kept_disks, same_disks}
use Rattle.nqs_net.proofs.Roots.{kept_root}
use Rattle.nqs_net.proofs.Stops.{AreFound, CutsTo, cut_tear, kept_fate, cut_fate}
use Rattle.nqs_net.proofs.Coming.{come_more, come_still, used_active}

-- outputs

pub emits_seen : (h : HostId) (os : List Output) (w : Network) → seen_of (emits h os w) ≡ seen_from h (length w.packets) os
emits_seen h os w = ap sights (emits_notes h os w) ∙ all_seen (seen_from h (length w.packets) os)

-- what is the same but for a place

pub same_self : (h : HostId) (w : Network) → IsSameBut h w w
same_self h w = record { hosts = λ host. refl; site = refl; now = refl }

pub same_after : (h : HostId) (w v u : Network) → IsSameBut h w v → IsSameBut h v u → IsSameBut h w u
same_after h w v u a b = record { hosts = λ host. b.hosts host ∙ a.hosts host; site = b.site ∙ a.site; now = b.now ∙ a.now }

same_put : (h : HostId) (x : Host) (w : Network) → IsSameBut h w (put_host h x w)
same_put h x w = record { hosts = λ host. put_twice h.0 (λ _. x) host w.hosts; site = refl; now = refl }

module _ (h : HostId) (w : Network) where
  -- a host is put at the place, and outputs go out
  module _ (host x : Host) (there : host_of h w ≡ Some host) (P : Host → Type 0) (p : P x) (tear : Tear) (same : tear ≡ x.tear) where
    -- nothing goes out, and this is noted
    pub put_turn : (notes : List Note) (before after : List Seen) → after ≡ before ++ sights notes
        → Turns h P tear w.packets before after w (record { world = put_host h x w; notes = notes })
    put_turn notes before after saw = record {
      at = record { host = x; stands = p; faces = record { there = get-here h.0 x host w.hosts there; tear = same; packets = refl } };
      rest = same_put h x w;
      seen = saw;
    }

    pub out_turn : (os : List Output) (notes : List Note) (first before after : List Seen) (packets : List Message) → packets ≡ w.packets ++ sent_in os
        → sights notes ≡ first → after ≡ before ++ (first ++ seen_from h (length w.packets) os)
        → Turns h P tear packets before after w (then_noted notes (emits h os (put_host h x w)))
    out_turn os notes first before after packets sent shows saw =
        subst (λ (v : Network). Turns h P tear packets before after w (record { world = v; notes = notes ++ (emits h os (put_host h x w)).notes }))
        (sym (emits_world h os (put_host h x w))) (record {
          at = record { host = x; stands = p; faces = record { there = get-here h.0 x host w.hosts there; tear = same; packets = sent } };
          rest = record { hosts = λ y. put_twice h.0 (λ _. x) y w.hosts; site = refl; now = refl };
          seen = saw ∙ (λ j. before ++ (sym shows j ++ sym (emits_seen h os (put_host h x w)) j))
              ∙ ap (λ l. before ++ l) (sym (sights-append notes (emits h os (put_host h x w)).notes));
        })

  -- without a change
  pub idle_turn : (host : Host) (there : host_of h w ≡ Some host) (P : Host → Type 0) (p : P host) (tear : Tear) (same : tear ≡ host.tear)
      → (os : List Output) (before after : List Seen) (packets : List Message) → packets ≡ w.packets ++ sent_in os
      → after ≡ before ++ seen_from h (length w.packets) os
      → Turns h P tear packets before after w (emits h os w)
  idle_turn host there P p tear same os before after packets sent saw =
      subst (λ (v : Network). Turns h P tear packets before after w (record { world = v; notes = (emits h os w).notes })) (sym (emits_world h os w)) (record {
        at = record { host = host; stands = p; faces = record { there = there; tear = same; packets = sent } };
        rest = record { hosts = λ y. refl; site = refl; now = refl };
        seen = saw ∙ ap (λ l. before ++ l) (sym (emits_seen h os w));
      })

-- one thing after the other
pub turn_after : (h : HostId) (P Q : Host → Type 0) (tear also : Tear) (packets sent : List Message) (a b c : List Seen) (w : Network) (r : Ran)
    (f : Network → Ran)
    → Turns h P tear packets a b w r → Turns h Q also sent b c r.world (f r.world) → Turns h Q also sent a c w (then_ran r f)
turn_after h P Q tear also packets sent a b c w r f one two = record {
  at = two.at;
  rest = same_after h w r.world (f r.world).world one.rest two.rest;
  seen = two.seen ∙ ap (λ l. l ++ seen_of (f r.world)) one.seen ∙ append_assoc a (seen_of r) (seen_of (f r.world))
      ∙ ap (λ l. a ++ l) (sym (sights-append r.notes (f r.world).notes));
}

-- what a stop leaves
module _ (tear : Tear) (now : Which → History) (disks : Disks MemDisk) (is : IsTorn tear now disks) where
  no_fuse : (host : Host) (s : Plain) → AreDisks (stopped s host) (histories_of mem.history_of disks) (failing_of mem.fails_of disks)
  no_fuse host s Root = record {
    fuse = is.fuses Root;
    count = ap moment (is.histories Root);
    turn =
        subst (λ (x : History). AreInTurn x.calls) (sym (is.histories Root)) tt;
  }
  no_fuse host s First = record {
    fuse = is.fuses First;
    count = ap moment (is.histories First);
    turn =
        subst (λ (x : History). AreInTurn x.calls) (sym (is.histories First)) tt;
  }
  no_fuse host s Second = record {
    fuse = is.fuses Second;
    count = ap moment (is.histories Second);
    turn =
        subst (λ (x : History). AreInTurn x.calls) (sym (is.histories Second)) tt;
  }
  no_fuse host s Spool = record {
    fuse = is.fuses Spool;
    count = ap moment (is.histories Spool);
    turn =
        subst (λ (x : History). AreInTurn x.calls) (sym (is.histories Spool)) tt;
  }

  abbrev left : Which → List ℕ
  left which = torn tear (state (now which))

  pub torn_down : (host : Host) (s : Plain) → AreFound left s host → IsDown disks (stopped s host)
  torn_down host s found =
      let same : left ≡ contents (histories_of mem.history_of disks) = λ j which. sym (ap content (is.histories which)) j in
      record {
        down = refl;
        told = refl;
        tells = subst (λ bytes. IsTold bytes s) same found.told;
        disks = no_fuse host s;
        root = ap content (is.histories Root) ∙ found.root;
        active = subst (λ bytes. IsActive bytes (active_in host)) same found.active;
        calls = λ which. ap (λ (x : History). x.calls) (is.histories which);
      }

-- a change of a host over its disks

module _ (h : HostId) (w : Network) (host : Host) (tear : Tear) (packets : List Message) (faces : Faces h host tear packets w) (first : List Seen)
    (os : List Output) (why : Why) (c : Change (List ℕ))
    (fails : Which → ℕ → Bool) (old : Which → History) (disks : AreDisks host old fails) where
  -- it was kept
  pub kept_turn : (now : Which → History) (P : Host → Type 0) → IsKept (active_in host) fails (stored_parts c) old now
      → P (used (stored_parts c) (applied c host.state) host)
      → (sent : List Message) (before after : List Seen) → sent ≡ packets ++ sent_in os → after ≡ before ++ (first ++ seen_from h (length packets) os)
      → Turns h P tear sent before after w (makes_change h host why c first os w)
  kept_turn now P kept p sent before after sends saw =
      subst (λ (f : Fate). Turns h P tear sent before after w (change_fated f h host why c first os w))
      (sym (kept_fate host fails old disks (stored_parts c) now kept))
      (out_turn h w host (used (stored_parts c) (applied c host.state) host) faces.there P p tear
      (faces.tear ∙ sym (ready_tear host)) os (Kept h why c ∷ saws first) first before after sent
      (sends ∙ ap (λ l. l ++ sent_in os) faces.packets) (all_seen first) (saw ∙ ap (λ l. before ++ (first ++ seen_from h (length l) os)) faces.packets))

  -- it was cut off
  module _ (now : Which → History) (before after : List Seen) (saw : after ≡ before ++ seen.Stop h ∷ []) where
    stop_turn : (notes : List Note) → after ≡ before ++ sights notes → (slot : Slot) (x : Host) → IsSlot slot x → host.tear ≡ x.tear
        → Turns h (IsSlot slot) tear packets before after w (record { world = put_host h x w; notes = notes })
    stop_turn notes shows slot x p same = subst (λ l. Turns h (IsSlot slot) tear l before after w (record { world = put_host h x w; notes = notes }))
        (sym faces.packets) (put_turn h w host x faces.there (IsSlot slot) p tear (faces.tear ∙ same) notes before after shows)

    by_fate : (slot : Slot) → IsStopped host.tear now slot → (f : Fate) →
        ((down : _) → slot ≡ Down down → CutsTo host.state (applied c host.state) (λ which. torn host.tear (state (now which))) host f)
        → Turns h (IsSlot slot) tear packets before after w (change_fated f h host why c first os w)
    by_fate (Up up) is f cuts = absurd is
    by_fate (Down down) is Made cuts = absurd (cuts down refl)
    by_fate (Down down) is StoppedBefore cuts = stop_turn (Saw (seen.Stop h) ∷ []) saw (Down down) (stopped host.state (cut_off host))
        (torn_down host.tear now down.disks.value is (cut_off host) host.state (cuts down refl)) (sym (cut_tear host))
    by_fate (Down down) is StoppedAfter cuts = stop_turn (Kept h why c ∷ Saw (seen.Stop h) ∷ []) saw (Down down)
        (stopped (applied c host.state) (recorded (ready host)))
        (torn_down host.tear now down.disks.value is (recorded (ready host)) (applied c host.state) (cuts down refl)) (sym (ready_tear host))

    images_of : (slot : Slot) → IsStopped host.tear now slot → (which : Which) → IsImage (state (now which)) (torn host.tear (state (now which)))
    images_of (Up up) is = absurd is
    images_of (Down down) is = is.images

    pub cut_turn : (slot : Slot) (which : Which) → IsStopped tear now slot → IsQuiet (old Root) → content (old Root) ≡ host.root
        → IsCutAt (active_in host) fails (stored_parts c) old now host.state (applied c host.state) which
        → Turns h (IsSlot slot) tear packets before after w (makes_change h host why c first os w)
    cut_turn slot which is quiet holds cut =
        let here : IsStopped host.tear now slot = subst (λ t. IsStopped t now slot) faces.tear is in
        by_fate slot here (fate (stored_parts c) host) (λ down e. cut_fate host fails old disks (stored_parts c) now host.state (applied c host.state)
        (images_of slot here) quiet holds which cut)

-- a host whose node kept a change
pub kept_up : (host : Host) (fails : Which → ℕ → Bool) (old : Which → History) → AreDisks host old fails → (node : Node MemDisk ghosts) (c : Change (List ℕ))
    → IsQuiet (old Root) → content (old Root) ≡ host.root → HasCome old (active_in host) host.told host.state
    → IsOneOrOther (active_in host) old (history_of node) (Some c) host.state → IsKept (active_in host) fails (stored_parts c) old (history_of node)
    → active_of node ≡ recorded_in (ready_in (active_in host)) → Tells node (applied c host.state) → IsSoundHost (content_of node)
    → ((which : Which) (i : ℕ) → fails_of node which i ≡ fails which i) → IsUp node (used (stored_parts c) (applied c host.state) host)
kept_up host fails old disks node c quiet holds past moments kept goes told sound same =
    let is_active = used_active (stored_parts c) (applied c host.state) host in
    record {
      up = refl;
      tells = told;
      sound = sound;
      disks = kept_disks host fails (fails_of node) old (history_of node) disks same (stored_parts c) kept (applied c host.state);
      root = kept_root host fails (stored_parts c) old (history_of node) quiet holds kept;
      active = goes ∙ sym is_active;
      past = subst (λ a. HasCome (history_of node) a (host.state ∷ host.told) (applied c host.state)) (sym is_active)
          (come_more old (active_in host) node host.told host.state c past kept.calls moments told goes);
    }

-- a step of a host over its disks

module _ (h : HostId) (w : Network) (host : Host) (tear : Tear) (packets : List Message) (faces : Faces h host tear packets w) (why : Why)
    (x : Stepped (List ℕ)) (fails : Which → ℕ → Bool) (old : Which → History) (disks : AreDisks host old fails) where
  pub made_turn : (node : Node MemDisk ghosts) → host.up ≡ true → IsQuiet (old Root) → content (old Root) ≡ host.root
      → HasCome old (active_in host) host.told host.state → IsOneOrOther (active_in host) old (history_of node) x.change host.state
      → IsMade (active_in host) fails old (history_of node) x.change → active_of node ≡ after_kept x.change (active_in host)
      → Tells node (after_step x host.state) → IsSoundHost (content_of node) → ((which : Which) (i : ℕ) → fails_of node which i ≡ fails which i)
      → (sent : List Message) (before after : List Seen) → sent ≡ packets ++ sent_in (map shown x.outputs)
      → after ≡ before ++ seen_from h (length packets) (map shown x.outputs)
      → Turns h (IsUp node) tear sent before after w (steps h host why x w)
  made_turn node up quiet holds past moments made is_active tells sound same sent before after sends saw = by x.change moments made is_active tells
    where
      by : (o : Option (Change (List ℕ))) → IsOneOrOther (active_in host) old (history_of node) o host.state
          → IsMade (active_in host) fails old (history_of node) o → active_of node ≡ after_kept o (active_in host)
          → Tells node (after_change o host.state) → Turns h (IsUp node) tear sent before after w (carries_out h host why o (map shown x.outputs) w)
      by None each idle goes told =
          idle_turn h w host faces.there (IsUp node) (record {
            up = up;
            tells = told;
            sound = sound;
            disks =
                same_disks host fails (fails_of node) old (history_of node) disks same idle;
            root = ap content (idle Root) ∙ holds;
            active = goes;
            past =
                come_still old (history_of node) (active_in host) host.told host.state idle past;
          }) tear faces.tear (map shown x.outputs) before after sent
          (sends ∙ ap (λ l. l ++ sent_in (map shown x.outputs)) faces.packets)
          (saw ∙ ap (λ l. before ++ seen_from h (length l) (map shown x.outputs)) faces.packets)
      by (Some c) each kept goes told =
          kept_turn h w host tear packets faces [] (map shown x.outputs) why c fails old disks (history_of node) (IsUp node) kept
          (kept_up host fails old disks node c quiet holds past each kept goes told sound same) sent before after sends saw

  pub cut_step : (now : Which → History) (slot : Slot) (which : Which) (before after : List Seen) → after ≡ before ++ seen.Stop h ∷ [] → IsStopped tear now slot
      → IsQuiet (old Root) → content (old Root) ≡ host.root → IsCutBy (active_in host) fails old now x.change host.state which
      → Turns h (IsSlot slot) tear packets before after w (steps h host why x w)
  cut_step now slot which before after saw is quiet holds cut = by x.change cut
    where
      by : (o : Option (Change (List ℕ))) → IsCutBy (active_in host) fails old now o host.state which
          → Turns h (IsSlot slot) tear packets before after w (carries_out h host why o (map shown x.outputs) w)
      by None cut = absurd cut
      by (Some c) cut = cut_turn h w host tear packets faces [] (map shown x.outputs) why c fails old disks now before after saw slot which is quiet holds cut

  -- which of the ways a failed call stops a host: the fuse's alone
  pub stopped_step : (now : Which → History) (slot : Slot) (which : Which) (starved : Bool) (before after : List Seen) → after ≡ before ++ seen.Stop h ∷ []
      → IsStopped tear now slot → starved ≡ false → IsQuiet (old Root) → content (old Root) ≡ host.root
      → IsTrue starved ⊎ (IsBlown (fails which) (old which) ⊎ IsCutBy (active_in host) fails old now x.change host.state which)
      → Turns h (IsSlot slot) tear packets before after w (steps h host why x w)
  stopped_step now slot which starved before after saw is fed quiet holds (inl hungry) = absurd (true≢false (sym hungry ∙ fed))
  stopped_step now slot which starved before after saw is fed quiet holds (inr (inl blown)) =
      absurd (unblown (of_disk which host.fuses) (old which) (fails which) (disks which).fuse blown)
  stopped_step now slot which starved before after saw is fed quiet holds (inr (inr cut)) =
      cut_step now slot which before after saw is quiet holds cut

-- what a call of a node did, by its answer
module _ (node now : Node MemDisk ghosts) (host : Host) (is : IsUp node host) (x : Stepped (List ℕ)) (out : List Output)
    (moments : IsOneOrOther (active_of node) (history_of node) (history_of now) x.change host.state)
    (same : (which : Which) (i : ℕ) → fails_of now which i ≡ fails_of node which i) where
  here : IsOneOrOther (active_in host) (history_of node) (history_of now) x.change host.state
  here = subst (λ a. IsOneOrOther a (history_of node) (history_of now) x.change host.state) is.active moments

  pub took_step : Tells now (after_step x host.state) → IsMade (active_of node) (fails_of node) (history_of node) (history_of now) x.change
      → out ≡ map shown x.outputs → active_of now ≡ after_kept x.change (active_of node) → IsTaken host x (fails_of node) (history_of node) now out true
  took_step tells made shows goes = record {
    up = is.up;
    disks = is.disks;
    root = is.root;
    quiet = is.tells.told.root;
    past = is.past;
    moments = here;
    same = same;
    ended = (
      tells,
      subst (λ a. IsMade a (fails_of node) (history_of node) (history_of now) x.change) is.active made,
      shows,
      goes ∙ ap (after_kept x.change) is.active,
    );
  }

  pub broke_step : (which : Which) → IsTrue (is_starved now which) ⊎ (IsBlown (fails_of node which) (history_of node which)
      ⊎ IsCutBy (active_of node) (fails_of node) (history_of node) (history_of now) x.change host.state which)
      → IsTaken host x (fails_of node) (history_of node) now out false
  broke_step which cut = record {
    up = is.up;
    disks = is.disks;
    root = is.root;
    quiet = is.tells.told.root;
    past = is.past;
    moments = here;
    same = same;
    ended = (
      which,
      subst (λ a. IsTrue (is_starved now which) ⊎ (IsBlown (fails_of node which) (history_of node which)
          ⊎ IsCutBy a (fails_of node) (history_of node) (history_of now) x.change host.state which)) is.active cut,
    );
  }

-- what a node's call did is what the step does
module _ (h : HostId) (w : Network) (host : Host) (tear : Tear) (packets : List Message) (faces : Faces h host tear packets w) (why : Why)
    (x : Stepped (List ℕ)) (fails : Which → ℕ → Bool) (old : Which → History) (node : Node MemDisk ghosts) (out : List Output) where
  pub took_turn : IsTaken host x fails old node out true → IsSoundHost (content_of node) → (sent : List Message) (before after : List Seen)
      → sent ≡ packets ++ sent_in out → after ≡ before ++ seen_from h (length packets) out
      → Turns h (IsUp node) tear sent before after w (steps h host why x w)
  took_turn t sound sent before after sends saw =
      made_turn h w host tear packets faces why x fails old t.disks node t.up t.quiet t.root t.past t.moments t.ended.1 t.ended.3 t.ended.0 sound t.same sent
      before after (sends ∙ ap (λ l. packets ++ sent_in l) t.ended.2) (saw ∙ ap (λ l. before ++ seen_from h (length packets) l) t.ended.2)

  -- what there is to see of the step
  pub took_seen : IsTaken host x fails old node out true → IsSoundHost (content_of node) → seen_from h (length packets) out ≡ seen_of (steps h host why x w)
  took_seen t sound = (took_turn t sound (packets ++ sent_in out) [] (seen_from h (length packets) out) refl refl).seen

  pub broke_turn : IsTaken host x fails old node out false → (slot : Slot) (before after : List Seen) → after ≡ before ++ seen.Stop h ∷ []
      → IsStopped tear (history_of node) slot → ((which : Which) → is_starved node which ≡ false)
      → Turns h (IsSlot slot) tear packets before after w (steps h host why x w)
  broke_turn t slot before after saw is fed =
      let which = t.ended.0 in
      stopped_step h w host tear packets faces why x fails old t.disks (history_of node) slot which (is_starved node which) before after saw is
      (fed which) t.quiet t.root t.ended.1

  -- the node was closed, and its disks were torn
  pub closed_turn : IsTaken host x fails old node out false → (disks : Disks MemDisk) → ((which : Which) → disk_at which disks ≡ disk_of which node)
      → (slot : Slot) (before after : List Seen) → after ≡ before ++ seen.Stop h ∷ []
      → IsStopped tear (histories_of mem.history_of disks) slot → ((which : Which) → mem.is_starved (disk_at which disks) ≡ false)
      → Turns h (IsSlot slot) tear packets before after w (steps h host why x w)
  closed_turn t disks closed slot before after saw is fed =
      broke_turn t slot before after saw (subst (λ (now : Which → History). IsStopped tear now slot) (λ j which. mem.history_of (closed which j)) is)
      (λ which. sym (ap mem.is_starved (closed which)) ∙ fed which)

pub down_stopped : (tear : Tear) (now : Which → History) (slot : Slot) → IsStopped tear now slot → IsDownSlot slot
down_stopped tear now (Up up) is = absurd is
down_stopped tear now (Down down) is = tt
