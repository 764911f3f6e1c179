-- Starts of a host go on until there is none, and a host that stops starts nothing.
use Rattle.std.proofs.Common.{◌≡◌, ◌⊎◌, inl, inr, ℕ, zero, suc, ◌<◌, ◌≤◌, Bool, true, false, true≢false, option_map, List, [], map, Option}
use Rattle.std.proofs.Common.{None, Some, is_some, refl, sym, ap, subst, ◌∙◌, arith}
use Rattle.std.proofs.lemmas.List.{append_assoc, append-nil}
use Rattle.nqs_state.specs.State.{Plain}
use Rattle.nqs_types.specs.declared.ids.HostId.{HostId}
use Rattle.nqs_types.specs.declared.change.Change.{Change}
use Rattle.nqs_types.specs.declared.event.Output.{Output}
use Rattle.nqs_rules.specs.Applied.{applied}
use Rattle.nqs_rules.specs.Measure.{starts_left}
use Rattle.nqs_rules.specs.Start.{start}
use Rattle.nqs_rules.specs.Stepped.{Stepped, quiet, shown, stored_parts}
use Rattle.nqs_rules.specs.Notes.{ByStart}
use Rattle.nqs_rules.specs.World.{World as Network, Host, Ran, Fate, Made, StoppedBefore, StoppedAfter, fate, host_of, put_host}
use Rattle.nqs_rules.specs.World.{ready, recorded, cut_off, stopped, used, change_fated}
use Rattle.nqs_rules.specs.World.{carries_out, steps, starts, all_starts, left_of, then_noted, then_ran, unseen}
use Rattle.nqs_rules.proofs.StartIs.{IsSteady, start_is}
use Rattle.nqs_rules.proofs.StartFits.{steady_plain}
use Rattle.nqs_rules.proofs.Lowers.{lower, stays}
use Rattle.nqs_laws.proofs.Sound.{get-here}
use Rattle.nqs_node.specs.Carried.{started}
use Rattle.nqs_laws.proofs.Frame.{emits_world}
use Rattle.nqs_net.proofs.Turning.{turn_after}
use Rattle.nqs_base.specs.declared.extent.Extent.{Extent}
use Rattle.nqs_types.specs.declared.message.Message.{Message}
use Rattle.nqs_base.specs.declared.tear.Tear.{Tear}
use Rattle.nqs_types.specs.declared.world.Seen.{Seen}
use Rattle.nqs_disk.specs.contracts.mem_disk.MemDiskDisk.TheImpl.{ghosts}
use Rattle.nqs_disk.specs.declared.mem_disk.MemDisk.{MemDisk}
use Rattle.nqs_store.specs.Stores.{bytes_of}
use Rattle.nqs_node.specs.Nodes.{content_of}
use Rattle.nqs_node.specs.declared.node.Node.{Node}
use Rattle.nqs_rules.specs.Stepped.{map_stepped}
use Rattle.nqs_rules.proofs.StartPlain.{start-map}
use Rattle.nqs_rules.proofs.Until.{idle}
use Rattle.nqs_net.specs.Worlds.{IsUp, IsSlot}
use Rattle.nqs_net.specs.Turns.{IsDownSlot, IsAt, Turns, Starts}
use Rattle.nqs_net.specs.declared.slot.Slot.{Slot}
use Rattle.nqs_net.specs.declared.slot.Slot.TheVariants.{Up, Down}

-- the starts from a world on, by its host, by whether that is up, and by what starts

abbrev by_start : ℕ → HostId → Network → Host → Option (Stepped (List ℕ)) → Ran
by_start n h w host o = elim o [ None ↦ unseen w | Some s ↦ (let r = steps h host ByStart s w in then_noted r.notes (starts n h r.world)) ]

abbrev by_up : ℕ → HostId → Network → Host → Bool → Ran
by_up n h w host up = elim up [ false ↦ unseen w | true ↦ by_start n h w host (start w.now host.state) ]

abbrev by_host : ℕ → HostId → Network → Option Host → Ran
by_host n h w o = elim o [ None ↦ unseen w | Some host ↦ by_up n h w host host.up ]

pub down_starts : (n : ℕ) (h : HostId) (w : Network) (host : Host) → host_of h w ≡ Some host → host.up ≡ false → starts n h w ≡ unseen w
down_starts zero h w host there down = refl
down_starts (suc n) h w host there down = ap (by_host n h w) there ∙ ap (by_up n h w host) down

none_starts : (n : ℕ) (h : HostId) (w : Network) (host : Host) → host_of h w ≡ Some host → start w.now host.state ≡ None → starts n h w ≡ unseen w
none_starts zero h w host there none = refl
none_starts (suc n) h w host there none = ap (by_host n h w) there ∙ by host.up
  where
    by : (up : Bool) → by_up n h w host up ≡ unseen w
    by false = refl
    by true = ap (by_start n h w host) none

-- the host after a start: it is down, or fewer starts are left
record Lowered (h : HostId) (s : Plain) (w : Network) : Type 0 where
  host : Host
  there : host_of h w ≡ Some host
  fewer : (host.up ≡ false) ⊎ (IsSteady host.state × (starts_left host.state < starts_left s))

module _ (h : HostId) (w : Network) (host : Host) (there : host_of h w ≡ Some host) (calm : IsSteady host.state) where
  fated : (f : Fate) (c : Change (List ℕ)) (os : List Output) → IsSteady (applied c host.state) → starts_left (applied c host.state) < starts_left host.state
      → Lowered h host.state (change_fated f h host ByStart c [] os w).world
  fated Made c os steady less =
      let next = used (stored_parts c) (applied c host.state) host in
      subst (λ v. Lowered h host.state v) (sym (emits_world h os (put_host h next w)))
      (record { host = next; there = get-here h.0 next host w.hosts there; fewer = inr (steady, less) })
  fated StoppedBefore c os steady less =
      let next = stopped host.state (cut_off host) in
      record { host = next; there = get-here h.0 next host w.hosts there; fewer = inl refl }
  fated StoppedAfter c os steady less =
      let next = stopped (applied c host.state) (recorded (ready host)) in
      record { host = next; there = get-here h.0 next host w.hosts there; fewer = inl refl }

  step_lowers : (x : Stepped (List ℕ)) → start w.now host.state ≡ Some x → Lowered h host.state (steps h host ByStart x w).world
  step_lowers x e =
      let is = start_is w.now host.state x calm e in
      subst (λ (o : Option (Change (List ℕ))). Lowered h host.state (carries_out h host ByStart o (map shown x.outputs) w).world) (sym is.makes)
      (fated (fate (stored_parts is.change) host) is.change (map shown x.outputs) (stays host.state calm is.row is.found is.ready is.change is.starts)
      (lower host.state calm is.row is.found is.ready is.change is.starts))

-- more than there may be changes nothing
enough : (n m : ℕ) (h : HostId) (w : Network) (host : Host) → host_of h w ≡ Some host → IsSteady host.state → starts_left host.state ≤ n
    → starts_left host.state ≤ m → starts n h w ≡ starts m h w
enough zero m h w host there calm few also = sym (none_starts m h w host there (idle w.now host.state calm few))
enough (suc n) zero h w host there calm few also = none_starts (suc n) h w host there (idle w.now host.state calm also)
enough (suc n) (suc m) h w host there calm few also = ap (by_host n h w) there ∙ of host.up (enough n m) ∙ sym (ap (by_host m h w) there)
  where
    next : (v : Network) → Lowered h host.state v → ((h : HostId) (w : Network) (host : Host) → host_of h w ≡ Some host → IsSteady host.state
        → starts_left host.state ≤ n → starts_left host.state ≤ m → starts n h w ≡ starts m h w)
        → starts n h v ≡ starts m h v
    next v low rest = which low.fewer
      where
        which : (low.host.up ≡ false) ⊎ (IsSteady low.host.state × (starts_left low.host.state < starts_left host.state)) → starts n h v ≡ starts m h v
        which (inl down) = down_starts n h v low.host low.there down ∙ sym (down_starts m h v low.host low.there down)
        which (inr fewer) = rest h v low.host low.there fewer.0 (omega (arith, fewer.1, few)) (omega (arith, fewer.1, also))

    by : (o : Option (Stepped (List ℕ))) → start w.now host.state ≡ o → ((h : HostId) (w : Network) (host : Host) → host_of h w ≡ Some host
        → IsSteady host.state → starts_left host.state ≤ n → starts_left host.state ≤ m → starts n h w ≡ starts m h w)
        → by_start n h w host o ≡ by_start m h w host o
    by None e rest = refl
    by (Some x) e rest = ap (then_noted (steps h host ByStart x w).notes) (next (steps h host ByStart x w).world (step_lowers h w host there calm x e) rest)

    of : (up : Bool) → ((h : HostId) (w : Network) (host : Host) → host_of h w ≡ Some host → IsSteady host.state → starts_left host.state ≤ n
        → starts_left host.state ≤ m → starts n h w ≡ starts m h w)
        → by_up n h w host up ≡ by_up m h w host up
    of false rest = refl
    of true rest = by (start w.now host.state) refl rest

module _ (h : HostId) (w : Network) (host : Host) (there : host_of h w ≡ Some host) where
  pub down_all : host.up ≡ false → all_starts h w ≡ unseen w
  down_all down = down_starts (left_of (host_of h w)) h w host there down

  pub none_all : start w.now host.state ≡ None → all_starts h w ≡ unseen w
  none_all none = none_starts (left_of (host_of h w)) h w host there none

  module _ (calm : IsSteady host.state) (up : host.up ≡ true) where
    some_all : (x : Stepped (List ℕ)) → start w.now host.state ≡ Some x → all_starts h w ≡ then_ran (steps h host ByStart x w) (all_starts h)
    some_all x e =
        let left = starts_left host.state in
        let v : Network = (steps h host ByStart x w).world in
        ap (λ o. starts (left_of o) h w) there
        ∙ enough left (suc left) h w host there calm (omega arith) (omega arith)
        ∙ ap (by_host left h w) there ∙ ap (by_up left h w host) up ∙ ap (by_start left h w host) e
        ∙ ap (then_noted (steps h host ByStart x w).notes) (of (step_lowers h w host there calm x e))
      where
        of : Lowered h host.state (steps h host ByStart x w).world
            → starts (starts_left host.state) h (steps h host ByStart x w).world ≡ all_starts h (steps h host ByStart x w).world
        of low = which low.fewer
          where
            v : Network
            v = (steps h host ByStart x w).world

            which : (low.host.up ≡ false) ⊎ (IsSteady low.host.state × (starts_left low.host.state < starts_left host.state))
                → starts (starts_left host.state) h v ≡ all_starts h v
            which (inl down) = down_starts (starts_left host.state) h v low.host low.there down
                ∙ sym (down_starts (left_of (host_of h v)) h v low.host low.there down)
            which (inr fewer) = enough (starts_left host.state) (starts_left low.host.state) h v low.host low.there fewer.0 (omega (arith, fewer.1))
                (omega arith) ∙ sym (ap (λ o. starts (left_of o) h v) low.there)

    -- the next start, or nothing, and then the others
    pub next_all : all_starts h w ≡ then_ran (steps h host ByStart (started w.now host.state) w) (all_starts h)
    next_all = by (start w.now host.state) refl
      where
        by : (o : Option (Stepped (List ℕ))) → start w.now host.state ≡ o
            → all_starts h w ≡ then_ran (steps h host ByStart (elim o [ None ↦ quiet | Some x ↦ x ]) w) (all_starts h)
        by None e = refl
        by (Some x) e = some_all x e

pub ran_assoc : (r : Ran) (f g : Network → Ran) → then_ran (then_ran r f) g ≡ then_ran r (λ v. then_ran (f v) g)
ran_assoc r f g = let last = g (f r.world).world in λ j. record { world = last.world; notes = append_assoc r.notes (f r.world).notes last.notes j }

-- what a node may start, its host may
pub none_of : (now : ℕ) (node : Node MemDisk ghosts) (host : Host) → IsUp node host → is_some (start now (content_of node)) ≡ false
    → start now host.state ≡ None
none_of now node host is none =
    ap (start now) (sym is.tells.is) ∙ start-map (bytes_of node.store) now (content_of node) ∙ by (start now (content_of node)) none
  where
    by : (o : Option (Stepped Extent)) → is_some o ≡ false → option_map (map_stepped (bytes_of node.store)) o ≡ None
    by None e = refl
    by (Some x) e = absurd (true≢false e)

pub steady_up : (node : Node MemDisk ghosts) (host : Host) → IsUp node host → IsSteady host.state
steady_up node host is = subst IsSteady is.tells.is (steady_plain (bytes_of node.store) (content_of node) is.sound.order)

module _ (h : HostId) (w : Network) (host : Host) (there : host_of h w ≡ Some host) (calm : IsSteady host.state) (up : host.up ≡ true) (tear : Tear) where
  down_next : (slot : Slot) (packets : List Message) (v : Network) → IsAt h (IsSlot slot) tear packets v → IsDownSlot slot → all_starts h v ≡ unseen v
  down_next (Up s) packets v at down = absurd down
  down_next (Down s) packets v at down = down_all h v at.host at.faces.there at.stands.down

  pub starting : (slot : Slot) (took more : Bool) (packets : List Message) (before after : List Seen)
      → Turns h (IsSlot slot) tear packets before after w (steps h host ByStart (started w.now host.state) w)
      → (took ≡ false → IsDownSlot slot) → (took ≡ true → more ≡ false → start w.now host.state ≡ None)
      → Starts h more (IsSlot slot) tear packets before after w
  starting slot took more packets before after turn down none = record {
    ran = steps h host ByStart (started w.now host.state) w;
    turn = turn;
    goes_on = next_all h w host there calm up;
    last = by took down none;
  }
    where
      idle_next : start w.now host.state ≡ None → all_starts h (steps h host ByStart (started w.now host.state) w).world
          ≡ unseen (steps h host ByStart (started w.now host.state) w).world
      idle_next e = subst (λ (o : Option (Stepped (List ℕ))). let v = (steps h host ByStart (elim o [ None ↦ quiet | Some x ↦ x ]) w).world in
          all_starts h v ≡ unseen v) (sym e) (none_all h w host there e)

      by : (took : Bool) → (took ≡ false → IsDownSlot slot) → (took ≡ true → more ≡ false → start w.now host.state ≡ None) → more ≡ false
          → all_starts h (steps h host ByStart (started w.now host.state) w).world ≡ unseen (steps h host ByStart (started w.now host.state) w).world
      by false down none e = down_next slot packets (steps h host ByStart (started w.now host.state) w).world turn.at (down refl)
      by true down none e = idle_next (none refl e)

-- what was started so far, and one more
module _ (h : HostId) (P Q : Host → Type 0) (tear : Tear) (packets sent : List Message) (a b c : List Seen) (w : Network) (r : Ran)
    (turn : Turns h P tear packets a b w r) (goes : all_starts h w ≡ then_ran r (all_starts h)) (more : Bool) (s : Starts h more Q tear sent b c r.world) where
  abbrev both : Ran
  both = then_ran r (λ _. s.ran)

  pub both_turn : Turns h Q tear sent a c w both
  both_turn = turn_after h P Q tear tear packets sent a b c w r (λ _. s.ran) turn s.turn

  pub both_goes : all_starts h w ≡ then_ran both (all_starts h)
  both_goes = goes ∙ ap (then_noted r.notes) s.goes_on ∙ sym (ran_assoc r (λ _. s.ran) (all_starts h))

  pub both_last : more ≡ false → Turns h Q tear sent a c w (all_starts h w)
  both_last none =
      subst (λ x. Turns h Q tear sent a c w x) (sym (both_goes ∙ ap (then_noted both.notes) (s.last none)
      ∙ (λ j. record { world = s.ran.world; notes = append-nil both.notes j }))) both_turn
