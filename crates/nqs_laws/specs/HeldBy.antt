-- Why the system holds a request.
use Rattle.std.specs.Prelude.{◌≡◌, Bool, true, false, ◌||◌, ◌==◌, List, ℕ, Some}
use Rattle.nqs_state.specs.State.{Plain}
use Rattle.nqs_rules.specs.Tests.{passes}
use Rattle.nqs_rules.specs.Find.{find_row}
use Rattle.nqs_rules.specs.Applied.{applied}
use Rattle.nqs_rules.specs.Routing.{all_refused, dests_for}
use Rattle.nqs_types.specs.declared.ids.RequestId.{RequestId}
use Rattle.nqs_types.specs.declared.request.Hold.{Hold}
use Rattle.nqs_types.specs.declared.request.Hold.TheVariants.{No, User, System}
use Rattle.nqs_types.specs.declared.request.Row.{Row}
use Rattle.nqs_laws.specs.Each.{OfChange}
use Rattle.nqs_laws.specs.Closed.{HasState}

-- the hold is the system's
abbrev pub is_systems : Hold → Bool
is_systems No = false
is_systems User = false
is_systems System = true

-- the system holds the request
abbrev pub is_held : Row (List ℕ) → Bool
is_held r = is_systems r.hold

-- the request has come 32 hops far, or each destination that its queue has now refused it
abbrev pub has_cause : Plain → Row (List ℕ) → Bool
has_cause s r = r.hops == 32 || all_refused (dests_for r s) r.refused

-- Where a change leaves a request held by the system, it was so before, or there is cause now.
abbrev pub HoldsForCause : OfChange
HoldsForCause states h why c = (t : Plain) → HasState states h t → (x : RequestId) (r : Row (List ℕ)) → find_row x (applied c t) ≡ Some r → is_held r ≡ true
    → (passes is_held (find_row x t) || has_cause (applied c t) r) ≡ true
