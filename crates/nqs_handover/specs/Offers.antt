-- Why an offer is refused, part by part.
use Rattle.std.specs.Prelude.{ℕ, not, List, [], ◌∷◌, ◌++◌, Result, Ok, Err}
use Rattle.nqs_state.specs.State.{State}
use Rattle.nqs_rules.specs.Causes.{Cause, cause, refusal_number}
use Rattle.nqs_rules.specs.Find.{has_queue, find_queue}
use Rattle.nqs_rules.specs.Fits.{offer_full}
use Rattle.nqs_rules.specs.Rows.{causes_of, arrivals_used}
use Rattle.nqs_rules.specs.Handover.{offer_entry_causes}
use Rattle.nqs_types.specs.declared.ids.HostId.{HostId}
use Rattle.nqs_types.specs.declared.request.Carried.{Carried}
use Rattle.nqs_types.specs.declared.refusal.Refusal.{Refusal}
use Rattle.nqs_types.specs.declared.refusal.Refusal.TheVariants.{NoQueue, HostFull, NumbersUsed}

-- a refusal by its number
abbrev pub by_number : Result (Unit {0}) Refusal → Result (Unit {0}) ℕ
by_number (Ok done) = Ok done
by_number (Err refusal) = Err (refusal_number refusal)

module _ {E : Type 0} where
  -- why the host has no room or no number for an offered request
  abbrev pub host_causes : HostId → ℕ → State E → List Cause
  host_causes peer low s = cause (offer_full peer low s) HostFull ∷ cause (arrivals_used s) NumbersUsed ∷ []

  -- why an offer into a queue is refused, where its request isn't known
  abbrev pub into_causes : HostId → ℕ → List ℕ → Carried → State E → List Cause
  into_causes peer low queue c s =
      cause (not (has_queue queue s)) (NoQueue queue) ∷ causes_of (offer_entry_causes c) (find_queue queue s) ++ host_causes peer low s
