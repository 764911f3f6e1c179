-- After an event that a host took, or its boot, nothing is left to start, unless it was stopped.
use Rattle.std.proofs.Common.{◌≡◌, ℕ, ◌<◌, ◌≤◌, Bool, true, false, List, [], map, Option, None, Some, true≢false, zero, suc, refl, sym, ap, subst, ◌∙◌, arith}
use Rattle.std.proofs.Common.{if◌then◌else◌}
use Rattle.std.proofs.lemmas.Option.{same_Some, none-some}
use Rattle.nqs_state.specs.State.{Plain}
use Rattle.nqs_rules.specs.Applied.{applied}
use Rattle.nqs_rules.specs.InOrder.{IsInOrder}
use Rattle.nqs_rules.specs.Measure.{starts_left}
use Rattle.nqs_rules.specs.Starts.{after_change}
use Rattle.nqs_rules.specs.Step.{step}
use Rattle.nqs_rules.specs.Start.{start}
use Rattle.nqs_rules.specs.Stepped.{Stepped, shown, stored_parts}
use Rattle.nqs_rules.specs.Notes.{Why, ByEvent, ByStart}
use Rattle.nqs_rules.specs.World.{World, Host, Fate, Made, StoppedBefore, StoppedAfter, fate, host_of, put_host, then_noted, seeing, unseen, stopped, used}
use Rattle.nqs_rules.specs.World.{ready, cut_off, recorded}
use Rattle.nqs_rules.specs.World.{emits, change_fated, makes_change, carries_out, steps, starts, all_starts, left_of, halted_host, halts, takes_up}
use Rattle.nqs_rules.proofs.ChangesOrder.{applied_order}
use Rattle.nqs_rules.proofs.StartIs.{start_is}
use Rattle.nqs_rules.proofs.Until.{steady, start_lowers, idle}
use Rattle.nqs_laws.proofs.Frame.{world_of, emits_world}
use Rattle.nqs_laws.proofs.Sound.{get-here}
use Rattle.nqs_types.specs.declared.ids.HostId.{HostId}
use Rattle.nqs_types.specs.declared.change.Change.{Change}
use Rattle.nqs_types.specs.declared.event.Event.{Event}
use Rattle.nqs_types.specs.declared.event.Output.{Output}
use Rattle.nqs_types.specs.declared.world.Seen.{Seen}
use Rattle.nqs_types.specs.declared.world.Seen.TheVariants as seen

-- the host, if it is up, has such a state
abbrev pub Holds : HostId → (Plain → Type 0) → World → Type 0
Holds h P w = (g : Host) → host_of h w ≡ Some g → g.up ≡ true → P g.state

abbrev pub Rests : HostId → ℕ → World → Type 0
Rests h now w = Holds h (λ s. IsInOrder s × (start now s ≡ None)) w

-- one change

module _ (h : HostId) (host : Host) (w : World) (there : host_of h w ≡ Some host) (P : Plain → Type 0) where
  down : (g u : Host) → u.up ≡ false → host_of h (put_host h u w) ≡ Some g → g.up ≡ true → P g.state
  down g u is_down at up = absurd (true≢false (sym up ∙ ap (λ v. v.up) (sym (same_Some u g (sym (get-here h.0 u host w.hosts there) ∙ at))) ∙ is_down))

  emitted : (os : List Output) (v : World) → Holds h P v → Holds h P (emits h os v).world
  emitted os v k g at up = k g (sym (ap (host_of h) (emits_world h os v)) ∙ at) up

  fated : (f : Fate) (why : Why) (c : Change (List ℕ)) (first : List Seen) (os : List Output) → P (applied c host.state)
      → Holds h P (change_fated f h host why c first os w).world
  fated Made why c first os p =
      let u : Host = used (stored_parts c) (applied c host.state) host in
      emitted os (put_host h u w) (λ g at up. subst (λ g. P g.state) (same_Some u g (sym (get-here h.0 u host w.hosts there) ∙ at)) p)
  fated StoppedBefore why c first os p = λ g at up. down g (stopped host.state (cut_off host)) refl at up
  fated StoppedAfter why c first os p = λ g at up. down g (stopped (applied c host.state) (recorded (ready host))) refl at up

  carried : (why : Why) (o : Option (Change (List ℕ))) (os : List Output) → P (after_change o host.state) → Holds h P (carries_out h host why o os w).world
  carried why None os p = emitted os w (λ g at up. subst (λ g. P g.state) (same_Some host g (sym there ∙ at)) p)
  carried why (Some c) os p = fated (fate (stored_parts c) host) why c [] os p

fated_now : (f : Fate) (h : HostId) (host : Host) (why : Why) (c : Change (List ℕ)) (first : List Seen) (os : List Output) (w : World)
    → (change_fated f h host why c first os w).world.now ≡ w.now
fated_now Made h host why c first os w = ap (λ v. v.now) (emits_world h os (put_host h (used (stored_parts c) (applied c host.state) host) w))
fated_now StoppedBefore h host why c first os w = refl
fated_now StoppedAfter h host why c first os w = refl

carried_now : (h : HostId) (host : Host) (why : Why) (o : Option (Change (List ℕ))) (os : List Output) (w : World)
    → (carries_out h host why o os w).world.now ≡ w.now
carried_now h host why None os w = ap (λ v. v.now) (emits_world h os w)
carried_now h host why (Some c) os w = fated_now (fate (stored_parts c) host) h host why c [] os w

-- starts

-- the state after a start is in order, and fewer starts are left
begun : (now : ℕ) (s : Plain) → IsInOrder s → (x : Stepped (List ℕ)) → start now s ≡ Some x
    → IsInOrder (after_change x.change s) × (starts_left (after_change x.change s) < starts_left s)
begun now s order x e =
    let is = start_is now s x (steady s order) e in
    let c : Change (List ℕ) = is.change in
    subst (λ o. IsInOrder (after_change o s) × (starts_left (after_change o s) < starts_left s)) (sym is.makes)
    (applied_order c s order is.may.1 is.may.0, start_lowers now s x c order e is.makes)

abbrev Few : HostId → ℕ → World → Type 0
Few h n w = Holds h (λ s. IsInOrder s × (starts_left s ≤ n)) w

starts_now : (n : ℕ) (h : HostId) (w : World) → (starts n h w).world.now ≡ w.now
starts_now zero h w = refl
starts_now (suc n) h w = of (host_of h w) (starts_now n h)
  where
    by : (host : Host) (up : Bool) (o : Option (Stepped (List ℕ))) → ((v : World) → (starts n h v).world.now ≡ v.now)
        → (world_of (elim up [
          | false ↦ unseen w
          | true ↦ elim o [
            | None ↦ unseen w
            | Some s ↦ (let r = steps h host ByStart s w in then_noted r.notes (starts n h r.world))
          ]
        ])).now ≡ w.now
    by host false o rest = refl
    by host true None rest = refl
    by host true (Some s) rest = rest (steps h host ByStart s w).world ∙ carried_now h host ByStart s.change (map shown s.outputs) w

    of : (o : Option Host) → ((v : World) → (starts n h v).world.now ≡ v.now)
        → (world_of (elim o [
          | None ↦ unseen w
          | Some host ↦ elim host.up [
            | false ↦ unseen w
            | true ↦ elim (start w.now host.state) [
              | None ↦ unseen w
              | Some s ↦ (let r = steps h host ByStart s w in then_noted r.notes (starts n h r.world))
            ]
          ]
        ])).now ≡ w.now
    of None rest = refl
    of (Some host) rest = by host host.up (start w.now host.state) rest

starts_rest : (n : ℕ) (h : HostId) (w : World) → Few h n w → Rests h w.now (starts n h w).world
starts_rest zero h w few = λ g at up. (let k = few g at up in (k.0, idle w.now g.state (steady g.state k.0) k.1))
starts_rest (suc n) h w few = of (host_of h w) refl (starts_rest n h)
  where
    by : (host : Host) → host_of h w ≡ Some host → (up : Bool) → host.up ≡ up → (o : Option (Stepped (List ℕ))) → start w.now host.state ≡ o
        → ((v : World) → Few h n v → Rests h v.now (starts n h v).world)
        → Rests h w.now (world_of (elim up [
          | false ↦ unseen w
          | true ↦ elim o [
            | None ↦ unseen w
            | Some s ↦ (let r = steps h host ByStart s w in then_noted r.notes (starts n h r.world))
          ]
        ]))
    by host there false is_down o e rest = λ g at up. absurd (true≢false (sym up ∙ ap (λ v. v.up) (same_Some g host (sym at ∙ there)) ∙ is_down))
    by host there true is_up None e rest = λ g at up. ((few g at up).0, ap (λ v. start w.now v.state) (same_Some g host (sym at ∙ there)) ∙ e)
    by host there true is_up (Some x) e rest =
        let k = few host there is_up in
        let b = begun w.now host.state k.0 x e in
        let v : World = (steps h host ByStart x w).world in
        let fewer : starts_left (after_change x.change host.state) ≤ n = (let l = b.1 in let m = k.1 in omega arith) in
        subst (λ now. Rests h now (starts n h v).world) (carried_now h host ByStart x.change (map shown x.outputs) w)
        (rest v (carried h host w there (λ s. IsInOrder s × (starts_left s ≤ n)) ByStart x.change (map shown x.outputs) (b.0, fewer)))

    of : (o : Option Host) → host_of h w ≡ o → ((v : World) → Few h n v → Rests h v.now (starts n h v).world)
        → Rests h w.now (world_of (elim o [
          | None ↦ unseen w
          | Some host ↦ elim host.up [
            | false ↦ unseen w
            | true ↦ elim (start w.now host.state) [
              | None ↦ unseen w
              | Some s ↦ (let r = steps h host ByStart s w in then_noted r.notes (starts n h r.world))
            ]
          ]
        ]))
    of None e rest = λ g at up. absurd (none-some g (sym e ∙ at))
    of (Some host) e rest = by host e host.up refl (start w.now host.state) refl rest

pub all_starts_rest : (h : HostId) (w : World) → Holds h IsInOrder w → Rests h w.now (all_starts h w).world
all_starts_rest h w order = starts_rest (left_of (host_of h w)) h w (λ g at up.
    (order g at up, subst (λ o. starts_left g.state ≤ left_of o) (sym at) (omega arith)))

pub all_starts_now : (h : HostId) (w : World) → (all_starts h w).world.now ≡ w.now
all_starts_now h w = starts_now (left_of (host_of h w)) h w

-- a stop of its own

halts_rest : (b : Bool) (h : HostId) (now : ℕ) (w : World) → Rests h now w → Rests h now (halts b h w).world
halts_rest false h now w k = k
halts_rest true h now w k = of (host_of h w) refl
  where
    by : (host : Host) → host_of h w ≡ Some host → (up : Bool) → Rests h now
        (if up then seeing (seen.Stop h) (put_host h (stopped host.state host) w) else unseen w).world
    by host there true = λ g at up. down h host w there (λ s. IsInOrder s × (start now s ≡ None)) g (stopped host.state host) refl at up
    by host there false = k

    of : (o : Option Host) → host_of h w ≡ o → Rests h now (halted_host h o w).world
    of None e = k
    of (Some host) e = by host e host.up

halts_now : (b : Bool) (h : HostId) (w : World) → (halts b h w).world.now ≡ w.now
halts_now false h w = refl
halts_now true h w = of (host_of h w)
  where
    of : (o : Option Host) → (halted_host h o w).world.now ≡ w.now
    of None = refl
    of (Some host) = by host.up
      where
        by : (up : Bool) → (if up then seeing (seen.Stop h) (put_host h (stopped host.state host) w) else unseen w).world.now ≡ w.now
        by true = refl
        by false = refl

-- An event that a host takes, and a boot

-- a world in which the host rests, at its own moment
abbrev pub RestsNow : HostId → World → Type 0
RestsNow h w = Rests h w.now w

pub event_rests : (h : HostId) (host : Host) (e : Event) (w : World) → host_of h w ≡ Some host → IsInOrder (after_change (step e host.state).change host.state)
    → RestsNow h (takes_up h host e w).world
event_rests h host e w there order =
    let s = step e host.state in
    let v : World = (steps h host (ByEvent e) s w).world in
    let u : World = (all_starts h v).world in
    let b : Bool = (step e host.state).halts in
    subst (λ now. Rests h now (halts b h u).world) (sym (all_starts_now h v) ∙ sym (halts_now b h u))
    (halts_rest b h v.now u (all_starts_rest h v (carried h host w there IsInOrder (ByEvent e) s.change (map shown s.outputs) order)))

pub change_rests : (h : HostId) (host : Host) (why : Why) (c : Change (List ℕ)) (first : List Seen) (os : List Output) (w : World) → host_of h w ≡ Some host
    → IsInOrder (applied c host.state)
    → RestsNow h (all_starts h (makes_change h host why c first os w).world).world
change_rests h host why c first os w there order =
    let v : World = (makes_change h host why c first os w).world in
    subst (λ now. Rests h now (all_starts h v).world) (sym (all_starts_now h v))
    (all_starts_rest h v (fated h host w there IsInOrder (fate (stored_parts c) host) why c first os order))
