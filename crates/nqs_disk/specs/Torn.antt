-- What a stop leaves, by its tear.
use Rattle.std.specs.Prelude.{ℕ, ◌+◌, ◌*◌, ◌/◌, ◌%◌, ◌^◌, ◌==◌, nat_le, Bool, ◌||◌, List, [], ◌∷◌, length, take, slice_index, if◌then◌else◌}
use Rattle.nqs_outside.specs.History.{State, covers}
use Rattle.nqs_base.specs.Tears.{torn_byte}
use Rattle.nqs_base.specs.declared.tear.Tear.{Tear}
use Rattle.nqs_base.specs.declared.tear.Tear.TheVariants.{Old, New, Mixed}

-- the two bits of n for the i-th free byte
abbrev pub bits : ℕ → ℕ → ℕ
bits n i = (n / 2 ^ (2 * (i % 32))) % 4

-- a place that is written since the last sync, or past its end
abbrev pub is_free : State → ℕ → Bool
is_free s place = covers s.ranges place || nat_le (length s.synced) place

-- From a place on, after i free bytes. Bytes that aren't free stay as they were synced.
abbrev pub mixed_from : (ℕ → Bool) → ℕ → List ℕ → ℕ → ℕ → List ℕ → List ℕ
mixed_from free n synced place i [] = []
mixed_from free n synced place i (new ∷ content) =
    (if free place then torn_byte (bits n i) (slice_index synced place) new else slice_index synced place)
    ∷ mixed_from free n synced (place + 1) (if free place then i + 1 else i) content

-- what is left where a stop mixes old bytes with new ones
abbrev pub mixed : ℕ → State → List ℕ
mixed n s = take (if n % 2 == 1 then length s.content else length s.synced) (mixed_from (is_free s) n s.synced 0 0 s.content)

-- what is left, by the tear
abbrev pub torn : Tear → State → List ℕ
torn Old s = s.synced
torn New s = s.content
torn (Mixed n) s = mixed n s
