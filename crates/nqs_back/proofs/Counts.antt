-- How many events come back: at most one of a start, and as many of outputs without their bytes.
use Rattle.std.proofs.Common.{◌≡◌, ℕ, ◌≤◌, suc, Bool, true, false, cond, List, [], ◌∷◌, map, filter, length, slice_get, Option, None, Some, option_map, Result}
use Rattle.std.proofs.Common.{Ok, Err, refl, ap, ◌∙◌, arith}
use Rattle.std.specs.Option.{IfSome, option_and_then}
use Rattle.nqs_state.specs.State.{Plain}
use Rattle.nqs_types.specs.declared.ids.Dest.{Dest}
use Rattle.nqs_types.specs.declared.request.Row.{Row}
use Rattle.nqs_types.specs.declared.request.Peer.{Peer}
use Rattle.nqs_types.specs.declared.refusal.Refusal.{Refusal}
use Rattle.nqs_types.specs.declared.rule.Choice.{Choice}
use Rattle.nqs_types.specs.declared.rule.Choice.TheVariants.{Launch, Print, TooFar, Local, Hand as HandTo}
use Rattle.nqs_types.specs.declared.event.Output.{Output}
use Rattle.nqs_types.specs.declared.event.Output.TheVariants as out
use Rattle.nqs_rules.specs.Causes.{first_refusal}
use Rattle.nqs_rules.specs.Find.{find_peer}
use Rattle.nqs_rules.specs.Handover.{opened_with, open_hand}
use Rattle.nqs_rules.specs.Order.{pick}
use Rattle.nqs_rules.specs.Start.{launching, printing, local_causes, moving_by, moving, holding, with_row, device_at, dest_at, started, start_by, start}
use Rattle.nqs_rules.specs.Stepped.{Stepped, shown}
use Rattle.nqs_back.specs.Back.{brings_back, comebacks}
use Rattle.nqs_back.specs.Bare.{without_bytes}

-- a start

abbrev FewBack : Stepped (List ℕ) → Type 0
FewBack x = comebacks (map shown x.outputs) ≤ 1

module _ (s : Plain) where
  one_few : {V : Type 0} (f : V → Stepped (List ℕ)) → ((v : V) → FewBack (f v)) → (o : Option V) → IfSome (option_map f o) FewBack
  one_few f few None = tt
  one_few f few (Some v) = few v

  row_few : (place : ℕ) (f : Row (List ℕ) → Option (Stepped (List ℕ))) → ((r : Row (List ℕ)) → IfSome (f r) FewBack) → IfSome (with_row place s f) FewBack
  row_few place f few = by (slice_get s.rows place)
    where
      by : (o : Option (Row (List ℕ))) → IfSome (option_and_then f o) FewBack
      by None = tt
      by (Some r) = few r

  moving_few : (r : Row (List ℕ)) (d : Dest) → FewBack (moving d s r)
  moving_few r d = by (first_refusal (local_causes d.queue s r))
    where
      by : (o : Result (Unit {0}) Refusal) → FewBack (moving_by o d.queue r)
      by (Ok u) = omega arith
      by (Err e) = omega arith

  hand_few : (now : ℕ) (r : Row (List ℕ)) (d : Dest) → FewBack (open_hand d now s r)
  hand_few now r d = by (find_peer d.host s)
    where
      by : (o : Option Peer) → FewBack (opened_with o d now s r)
      by None = omega arith
      by (Some p) = omega arith

  started_few : (c : Choice) (now : ℕ) → IfSome (started c now s) FewBack
  started_few (Launch row) now = row_few row (λ r. Some (launching r s)) (λ r. omega arith)
  started_few (Print row device) now = row_few row (λ r. option_map (λ d. printing d r s) (device_at device r s))
      (λ r. one_few (λ d. printing d r s) (λ d. omega arith) (device_at device r s))
  started_few (TooFar row) now = row_few row (λ r. Some (holding r)) (λ r. omega arith)
  started_few (Local row dest) now = row_few row (λ r. option_map (λ d. moving d s r) (dest_at dest r s))
      (λ r. one_few (λ d. moving d s r) (moving_few r) (dest_at dest r s))
  started_few (HandTo row dest) now = row_few row (λ r. option_map (λ d. open_hand d now s r) (dest_at dest r s))
      (λ r. one_few (λ d. open_hand d now s r) (hand_few now r) (dest_at dest r s))

  pub start_few : (now : ℕ) → IfSome (start now s) FewBack
  start_few now = by (pick now s)
    where
      by : (o : Option Choice) → IfSome (start_by o now s) FewBack
      by None = tt
      by (Some c) = started_few c now

-- outputs without their bytes

alike : (o : Output) → brings_back (without_bytes o) ≡ brings_back o
alike (out.Reply port token reply) = refl
alike (out.Send m) = refl
alike (out.Launch order script) = refl
alike (out.Print device order script) = refl
alike (out.Kill id start) = refl
alike (out.File file path bytes) = refl
alike (out.Ended id start status) = refl
alike (out.Unlaunched id start) = refl
alike (out.Again id) = refl
alike (out.Lost id) = refl
alike (out.Ack port id start) = refl

one_more : (b : Bool) (o p : Output) (os ps : List Output) → length os ≡ length ps → length (cond b (o ∷ os) os) ≡ length (cond b (p ∷ ps) ps)
one_more true o p os ps e = ap suc e
one_more false o p os ps e = e

pub bare_counted : (os : List Output) → comebacks (map without_bytes os) ≡ comebacks os
bare_counted [] = refl
bare_counted (o ∷ os) =
    ap (λ b. length (cond b (without_bytes o ∷ filter brings_back (map without_bytes os)) (filter brings_back (map without_bytes os)))) (alike o)
    ∙ one_more (brings_back o) (without_bytes o) o (filter brings_back (map without_bytes os)) (filter brings_back os) (bare_counted os)
