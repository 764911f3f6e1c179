-- How an output that can't be written where it should be is named: by its path, as a name without
-- folders.
use Rattle.std.specs.Prelude.{◌≡◌, ℕ, ◌+◌, ◌/◌, ◌%◌, ◌≤◌, Bool, not, ◌&&◌, ◌==◌, nat_lt, if◌then◌else◌, List, [], ◌∷◌, ◌++◌, length, take}
use Rattle.std.specs.List.{flat_map}

-- a byte that stands for itself: one that is seen, but for `%`, `/` and `~`
abbrev pub is_plain : ℕ → Bool
is_plain byte = nat_lt 32 byte && nat_lt byte 126 && not (byte == 37) && not (byte == 47)

-- a digit to the base of 16
abbrev pub digit : ℕ → ℕ
digit n = if nat_lt n 10 then 48 + n else 55 + n

-- a byte as `%` and two digits
abbrev pub spelled : ℕ → List ℕ
spelled byte = 37 ∷ digit (byte / 16) ∷ digit (byte % 16) ∷ []

-- a byte as it stands in a name
abbrev pub coded : ℕ → List ℕ
coded byte = if is_plain byte then byte ∷ [] else spelled byte

-- the first one: no name begins with `.`
abbrev pub coded_first : ℕ → List ℕ
coded_first byte = if byte == 46 then spelled byte else coded byte

-- a path as a name without folders
unfoldable pub flat_name : List ℕ → List ℕ
flat_name [] = []
flat_name (byte ∷ more) = coded_first byte ++ flat_map coded more

-- how much of it a file system takes as a name, with a number behind it
abbrev pub longest_name : ℕ
longest_name = 240

-- two paths never share a name, but where it is cut
abbrev pub NamesDiffer : Type 0
NamesDiffer = (path other : List ℕ) → length (flat_name path) ≤ longest_name → length (flat_name other) ≤ longest_name
    → take longest_name (flat_name path) ≡ take longest_name (flat_name other) → path ≡ other
