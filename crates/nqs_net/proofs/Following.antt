-- Disks that go on, one thing after the other.
use Rattle.std.proofs.Common.{◌≡◌, inl, inr, ℕ, zero, suc, ◌<◌, Bool, List, [], ◌∷◌, ◌++◌, map, take, drop, length, get_or, Option, None, Some, Result, Ok, Err}
use Rattle.std.proofs.Common.{refl, sym, ap, subst, ◌∙◌, arith}
use Rattle.std.specs.List.{insert, remove}
use Rattle.std.proofs.lemmas.List.{append_assoc, append-nil, length-map, take_all, drop_all}
use Rattle.nqs_types.specs.declared.change.Change.{Change}
use Rattle.nqs_types.specs.declared.ids.HostId.{HostId}
use Rattle.nqs_types.specs.declared.message.Message.{Message}
use Rattle.nqs_types.specs.declared.world.Seen.{Seen}
use Rattle.nqs_types.specs.declared.world.Which.{Which}
use Rattle.nqs_base.specs.declared.tear.Tear.{Tear}
use Rattle.nqs_outside.specs.History.{History, extended}
use Rattle.nqs_disk.specs.MemDisk as mem
use Rattle.nqs_disk.specs.contracts.mem_disk.MemDiskDisk.TheImpl.{ghosts}
use Rattle.nqs_disk.specs.declared.lack.Lack.{Lack}
use Rattle.nqs_disk.specs.declared.mem_disk.MemDisk.{MemDisk}
use Rattle.nqs_rules.specs.World.{Host, Ran, World as Network, all_starts, halts}
use Rattle.nqs_store.specs.Active.{Active}
use Rattle.nqs_store.specs.Disks.{disk_at, histories_of}
use Rattle.nqs_store.specs.declared.disks.Disks.{Disks}
use Rattle.nqs_store.specs.Hosts.{HostCall, Runs, part}
use Rattle.nqs_state.specs.State.{Plain}
use Rattle.nqs_store.proofs.Runs.{none_more}
use Rattle.nqs_node.specs.Carried.{IsOneOrOther, IsBrokenOff}
use Rattle.nqs_node.specs.Nodes.{disk_of, history_of}
use Rattle.nqs_node.specs.declared.node.Node.{Node}
use Rattle.nqs_net.specs.Followed.{GoOn, disks_in, Follows, FollowEach, StandsAfter, IsTurnAt, IsTurned, IsDone, IsStarted}
use Rattle.nqs_net.specs.Turns.{IsStopped, IsSameTurn, Turns, Starts}
use Rattle.nqs_net.specs.Worlds.{IsSlot}
use Rattle.nqs_net.specs.declared.slot.Slot.{Slot}
use Rattle.nqs_net.specs.declared.slot.Slot.TheVariants.{Up, Down}
use Rattle.nqs_net.specs.declared.turn.Turn.{Turn}

-- disks

pub still : (old now : Which → History) → ((which : Which) → now which ≡ old which) → GoOn old now
still old now same = λ which. ([], same which ∙ none_more (old which))

pub by_run : (old now : Which → History) (run : List HostCall) → Runs old now run → GoOn old now
by_run old now run runs = λ which. (part which run, runs which)

pub goes : (a : Active) (old now : Which → History) (o : Option (Change (List ℕ))) (s : Plain) → IsOneOrOther a old now o s → GoOn old now
goes a old now None s (same, told) = still old now same
goes a old now (Some c) s keeping = by_run old now keeping.calls.run keeping.calls.made

pub broke_off : (a : Active) (old now : Which → History) (o : Option (Change (List ℕ))) → IsBrokenOff a old now o → GoOn old now
broke_off a old now None same = still old now same
broke_off a old now (Some c) broken = by_run old now broken.run broken.made

pub further : (old mid now : Which → History) → GoOn old mid → GoOn mid now → GoOn old now
further old mid now one two = λ which.
    let a = one which in
    let b = two which in (
      a.0 ++ b.0,
      b.1 ∙ ap (λ h. extended h b.0) a.1 ∙ (let e : extended (extended (old which) a.0) b.0 ≡ extended (old which) (a.0 ++ b.0) =
          λ j. record { start = (old which).start; calls = append_assoc (old which).calls a.0 b.0 j } in e),
    )

-- slots

module _ (tear : Tear) where
  pub follow_on : (old mid : Which → History) (slot : Slot) → GoOn old mid → Follows tear mid slot → Follows tear old slot
  follow_on old mid (Up up) one two = further old mid (disks_in (Up up)) one two
  follow_on old mid (Down down) one (inl two) = inl (further old mid (disks_in (Down down)) one two)
  follow_on old mid (Down down) one (inr (last, two, torn)) = inr (last, further old mid last one two, torn)

  pub follow_same : (old : Which → History) (slot : Slot) → GoOn old (disks_in slot) → Follows tear old slot
  follow_same old (Up up) goes = goes
  follow_same old (Down down) goes = inl goes

  pub follow_self : (slot : Slot) → Follows tear (disks_in slot) slot
  follow_self slot = follow_same (disks_in slot) slot (still (disks_in slot) (disks_in slot) (λ which. refl))

  pub follow_stopped : (old now : Which → History) (slot : Slot) → GoOn old now → IsStopped tear now slot → Follows tear old slot
  follow_stopped old now (Up up) goes is = absurd is
  follow_stopped old now (Down down) goes is = inr (now, goes, is)

-- the disks of a node that was closed, and that were torn then
pub follow_closed : (tear : Tear) (old : Which → History) (node : Node MemDisk ghosts) (disks : Disks MemDisk) (slot : Slot)
    → ((which : Which) → disk_at which disks ≡ disk_of which node) → GoOn old (history_of node)
    → IsStopped tear (histories_of mem.history_of disks) slot → Follows tear old slot
follow_closed tear old node disks slot closed goes is =
    follow_stopped tear old (history_of node) slot goes (subst (λ (now : Which → History). IsStopped tear now slot)
    (λ j which. mem.history_of (closed which j)) is)

-- what was done at a place

module _ (h : HostId) (tear : Tear) (packets : List Message) (before after : List Seen) (w : Network) where
  pub turn_weaker : (P Q : Host → Type 0) (r : Ran) → ((host : Host) → P host → Q host) → Turns h P tear packets before after w r
      → Turns h Q tear packets before after w r
  turn_weaker P Q r weaker turn = record {
    at = record { host = turn.at.host; stands = weaker turn.at.host turn.at.stands; faces = turn.at.faces };
    rest = turn.rest;
    seen = turn.seen;
  }

  pub starts_weaker : (P Q : Host → Type 0) (more : Bool) → ((host : Host) → P host → Q host) → Starts h more P tear packets before after w
      → Starts h more Q tear packets before after w
  starts_weaker P Q more weaker starts = record {
    ran = starts.ran;
    turn = turn_weaker P Q starts.ran weaker starts.turn;
    goes_on = starts.goes_on;
    last = starts.last;
  }

  module _ (by : Tear) (old : Which → History) (slot : Slot) where
    pub turn_follows : (r : Ran) → Follows by old slot → Turns h (IsSlot slot) tear packets before after w r
        → Turns h (StandsAfter by old slot) tear packets before after w r
    turn_follows r follows turn = turn_weaker (IsSlot slot) (StandsAfter by old slot) r (λ host stands. record { stands = stands; follows = follows }) turn

    pub turn_stands : (r : Ran) → Turns h (StandsAfter by old slot) tear packets before after w r → Turns h (IsSlot slot) tear packets before after w r
    turn_stands r turn = turn_weaker (StandsAfter by old slot) (IsSlot slot) r (λ host after. after.stands) turn

    pub turn_on : (mid : Which → History) (r : Ran) → GoOn old mid → Turns h (StandsAfter by mid slot) tear packets before after w r
        → Turns h (StandsAfter by old slot) tear packets before after w r
    turn_on mid r one turn = turn_weaker (StandsAfter by mid slot) (StandsAfter by old slot) r
        (λ host after. record { stands = after.stands; follows = follow_on by old mid slot one after.follows }) turn

    pub starts_follow : (more : Bool) → Follows by old slot → Starts h more (IsSlot slot) tear packets before after w
        → Starts h more (StandsAfter by old slot) tear packets before after w
    starts_follow more follows starts = starts_weaker (IsSlot slot) (StandsAfter by old slot) more
        (λ host stands. record { stands = stands; follows = follows }) starts

    pub starts_on : (mid : Which → History) (more : Bool) → GoOn old mid → Starts h more (StandsAfter by mid slot) tear packets before after w
        → Starts h more (StandsAfter by old slot) tear packets before after w
    starts_on mid more one starts = starts_weaker (StandsAfter by mid slot) (StandsAfter by old slot) more
        (λ host after. record { stands = after.stands; follows = follow_on by old mid slot one after.follows }) starts

-- what is answered

module _ (before after : Turn) where
  pub done_on : (old mid : Which → History) (w : Network) (ran : Ran) (result : Result Slot Lack) → GoOn old mid → IsDone before after mid w ran result
      → IsDone before after old w ran result
  done_on old mid w ran (Ok slot) one done =
      turn_on before.me before.tear after.packets.now.items before.seen.now.items after.seen.now.items w before.tear old slot mid ran one done
  done_on old mid w ran (Err e) one done = done

  pub started_on : (old mid : Which → History) (w : Network) (result : Result (Bool × Slot) Lack) → GoOn old mid → IsStarted before after mid w result
      → IsStarted before after old w result
  started_on old mid w (Ok r) one started =
      starts_on before.me before.tear after.packets.now.items before.seen.now.items after.seen.now.items w before.tear old r.1 mid r.0 one started
  started_on old mid w (Err e) one started = started

  -- what makes the same of a network
  pub done_as : (old : Which → History) (w : Network) (x y : Ran) (result : Result Slot Lack) → x ≡ y → IsDone before after old w x result
      → IsDone before after old w y result
  done_as old w x y result same done = subst (λ r. IsDone before after old w r result) same done

  -- where the disks were the same
  pub done_from : (old other : Which → History) (w : Network) (x : Ran) (result : Result Slot Lack) → old ≡ other → IsDone before after old w x result
      → IsDone before after other w x result
  done_from old other w x result same done = subst (λ o. IsDone before after o w x result) same done

-- a turn that sent nothing
pub turn_packets : (before after : Turn) (old : Which → History) (w : Network) (ran : Ran) (slot : Slot) → after.packets.now ≡ before.packets.now
    → Turns before.me (StandsAfter before.tear old slot) before.tear before.packets.now.items before.seen.now.items after.seen.now.items w ran
    → IsTurned before after old w ran slot
turn_packets before after old w ran slot same turn = subst (λ (l : List Message). Turns before.me (StandsAfter before.tear old slot) before.tear l
    before.seen.now.items after.seen.now.items w ran) (sym (ap (λ v. v.items) same)) turn

-- a turn that goes on

pub same_turn : (a : Turn) → IsSameTurn a a
same_turn a = record { me = refl; tear = refl; now = refl; packets = refl; seen = refl }

pub same_on : (a b c : Turn) → IsSameTurn a b → IsSameTurn b c → IsSameTurn a c
same_on a b c one two = record {
  me = two.me ∙ one.me;
  tear = two.tear ∙ one.tear;
  now = two.now ∙ one.now;
  packets = two.packets ∙ one.packets;
  seen = two.seen ∙ one.seen;
}

-- the turn of one, with the lists of another
abbrev pub later : (a b : Turn) → Turn
later a b = record { me = a.me; tear = a.tear; now = a.now; packets = b.packets; seen = b.seen }

-- what holds of a turn, of the one before it where that went on
pub as_before : (a b : Turn) (P : Turn → Type 0) → IsSameTurn a b → P b → P (later a b)
as_before a b P same holds = subst P (λ j. record { me = same.me j; tear = same.tear j; now = same.now j; packets = b.packets; seen = b.seen }) holds

-- the next start of a host in a turn that went on
pub next_then : (a b c : Turn) (slot : Slot) (result : Result (Bool × Slot) Lack) → IsSameTurn a b
    → ((w : Network) (old : Which → History) → IsTurnAt b old slot w → w.now ≡ b.now → IsStarted b c old w result)
    → (w : Network) (old : Which → History) → IsTurnAt (later a b) old slot w → w.now ≡ a.now → IsStarted (later a b) c old w result
next_then a b c slot result same holds = as_before a b (λ t. (w : Network) (old : Which → History) → IsTurnAt t old slot w → w.now ≡ t.now
    → IsStarted t c old w result) same holds

-- whether it halts
pub halts_then : (a b c : Turn) (stops : Bool) (slot : Slot) (result : Result Slot Lack) → IsSameTurn a b
    → ((w : Network) (old : Which → History) → IsTurnAt b old slot w → IsDone b c old w (halts stops b.me w) result)
    → (w : Network) (old : Which → History) → IsTurnAt (later a b) old slot w → IsDone (later a b) c old w (halts stops a.me w) result
halts_then a b c stops slot result same holds = as_before a b (λ t. (w : Network) (old : Which → History) → IsTurnAt t old slot w
    → IsDone t c old w (halts stops t.me w) result) same holds

-- all its starts
pub starts_then : (a b c : Turn) (slot : Slot) (result : Result Slot Lack) → IsSameTurn a b
    → ((w : Network) (old : Which → History) → IsTurnAt b old slot w → w.now ≡ b.now → IsDone b c old w (all_starts b.me w) result)
    → (w : Network) (old : Which → History) → IsTurnAt (later a b) old slot w → w.now ≡ a.now → IsDone (later a b) c old w (all_starts a.me w) result
starts_then a b c slot result same holds = as_before a b (λ t. (w : Network) (old : Which → History) → IsTurnAt t old slot w → w.now ≡ t.now
    → IsDone t c old w (all_starts t.me w) result) same holds

-- the slots of a world

pub follow_selves : (tears : List Tear) (slots : List Slot) → length tears ≡ length slots → FollowEach tears slots slots
follow_selves [] [] as_many = tt
follow_selves [] (slot ∷ slots) as_many = absurd (let no : ⊥ = omega (arith, as_many) in no)
follow_selves (tear ∷ tears) [] as_many = absurd (let no : ⊥ = omega (arith, as_many) in no)
follow_selves (tear ∷ tears) (slot ∷ slots) as_many = (follow_self tear slot, follow_selves tears slots (omega (arith, as_many)))

-- where the disks of each slot are as they were
pub follow_each : (tears : List Tear) (slots nexts : List Slot) → length tears ≡ length slots → map disks_in nexts ≡ map disks_in slots
    → FollowEach tears slots nexts
follow_each [] [] [] as_many same = tt
follow_each [] [] (next ∷ nexts) as_many same = absurd (let no : ⊥ = cc in no)
follow_each [] (slot ∷ slots) nexts as_many same = absurd (let no : ⊥ = omega (arith, as_many) in no)
follow_each (tear ∷ tears) [] nexts as_many same = absurd (let no : ⊥ = omega (arith, as_many) in no)
follow_each (tear ∷ tears) (slot ∷ slots) [] as_many same = absurd (let no : ⊥ = cc in no)
follow_each (tear ∷ tears) (slot ∷ slots) (next ∷ nexts) as_many same =
    let here : disks_in next ≡ disks_in slot = cc in
    let rest : map disks_in nexts ≡ map disks_in slots = cc in (
      follow_same tear (disks_in slot) next (still (disks_in slot) (disks_in next) (λ which j. here j which)),
      follow_each tears slots nexts
          (omega (arith, as_many)) rest,
    )

-- where one slot was taken out, and what follows it put back
pub follow_put : (tears : List Tear) (slots : List Slot) (n : ℕ) (old new : Slot) (tear : Tear) → length tears ≡ length slots → n < length slots
    → old ≡ get_or slots n old → tear ≡ get_or tears n tear
    → Follows tear (disks_in old) new → FollowEach tears slots (insert (remove slots n) n new)
follow_put [] [] n old new tear as_many within here also follows = absurd (let no : ⊥ = omega (arith, within) in no)
follow_put [] (slot ∷ slots) n old new tear as_many within here also follows = absurd (let no : ⊥ = omega (arith, as_many) in no)
follow_put (t ∷ tears) [] n old new tear as_many within here also follows = absurd (let no : ⊥ = omega (arith, as_many) in no)
follow_put (t ∷ tears) (slot ∷ slots) zero old new tear as_many within here also follows =
    (subst (λ s. Follows t (disks_in s) new) here (subst (λ t. Follows t (disks_in old) new) also follows), follow_selves tears slots (omega (arith, as_many)))
follow_put (t ∷ tears) (slot ∷ slots) (suc n) old new tear as_many within here also follows =
    (follow_self t slot, follow_put tears slots n old new tear (omega (arith, as_many)) (omega (arith, within)) here also follows)

-- slots that were gone over one by one
pub disks_back : (slots now : List Slot) (len : ℕ) → len ≡ length slots → map disks_in now ≡ map disks_in slots
    → map disks_in (take len (now ++ drop (length now) slots)) ≡ map disks_in slots
disks_back slots now len as_long same =
    let many : length now ≡ length slots = sym (length-map now disks_in) ∙ ap length same ∙ length-map slots disks_in in
    let none : drop (length now) slots ≡ [] = drop_all (length now) slots (omega (arith, many)) in
    ap (λ l. map disks_in (take len (now ++ l))) none ∙ ap (λ l. map disks_in (take len l)) (append-nil now)
    ∙ ap (map disks_in) (take_all len now (omega (arith, many, as_long))) ∙ same
