-- A list of destinations with one of them put first.
use Rattle.std.specs.Prelude.{◌≡◌, not, List, filter, length, slice_get, Some}
use Rattle.nqs_rules.specs.Tests.{same_dest}
use Rattle.nqs_types.specs.declared.ids.Dest.{Dest}

-- One stands first, the others stand behind it as they stood, and there are as many as before.
pub record IsPutFirst (dest : Dest) (old new : List Dest) : Type 0 where
  pub first : slice_get new 0 ≡ Some dest
  pub others : filter (λ d. not (same_dest dest d)) new ≡ filter (λ d. not (same_dest dest d)) old
  pub as_many : length new ≡ length old
