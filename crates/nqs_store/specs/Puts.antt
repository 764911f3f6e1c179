-- Bytes to be stored.
use Rattle.std.specs.Prelude.{◌≡◌, ℕ, ◌≤◌, true, List, [], ◌∷◌, length}
use Rattle.nqs_base.specs.declared.extent.Extent.{Extent}
use Rattle.nqs_types.specs.Scripts.{longest_script}
use Rattle.nqs_types.specs.declared.change.Change.{Change}
use Rattle.nqs_rules.specs.Filled.{filled}
use Rattle.nqs_rules.specs.Sane.{is_short_change}
use Rattle.nqs_spool.specs.Extents.{Holds}

-- they are no more than a script may have
abbrev pub IsShortPut : List ℕ → Type 0
IsShortPut bytes = length bytes ≤ longest_script

-- the bytes that are stored for a change are no more than its parts may have, a script or outputs
abbrev pub AreShortFor : Change Extent → List (List ℕ) → Type 0
AreShortFor change puts = is_short_change length (filled change puts) ≡ true

-- where an extent begins
abbrev pub place_of : Extent → ℕ
place_of extent = extent.place

-- how many bytes it has
abbrev pub length_of : Extent → ℕ
length_of extent = extent.length

-- each extent holds the bytes of its place in the list
abbrev pub HoldEach : List ℕ → List Extent → List (List ℕ) → Type 0
HoldEach spool [] [] = Unit {0}
HoldEach spool [] (put ∷ puts) = ⊥
HoldEach spool (extent ∷ extents) [] = ⊥
HoldEach spool (extent ∷ extents) (put ∷ puts) = Holds spool extent put × HoldEach spool extents puts
