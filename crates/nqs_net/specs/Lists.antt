-- What was seen, as plain lists.
use Rattle.std.specs.Prelude.{◌≡◌, List, ◌++◌}
use Rattle.nqs_types.specs.declared.world.Seen.{Seen}

-- what was seen grew by a front of all that there is to see
abbrev pub GrowsByFront : (old now all : List Seen) → Type 0
GrowsByFront old now all = (shown : List Seen) × (rest : List Seen) × (now ≡ old ++ shown) × (all ≡ shown ++ rest)
