use Rattle.std.proofs.Common.{◌≡◌, ℕ, ◌+◌, ◌<◌, not, List, [], ◌∷◌, length, Some, ap, refl}
use Rattle.std.specs.Option.{option_map}
use Rattle.std.proofs.lemmas.List.Quantifiers.{position-Some}
use Rattle.nqs_base.specs.Name.{is_digit}
use Rattle.nqs_text.specs.Number.{first_other}
use Rattle.nqs_limits.specs.Size.{digits_end}
use Rattle.nqs_limits.specs.Time.{part_fault}

-- a byte that is no digit is wrong in a part
pub other_is_wrong : (place i : ℕ) (part : List ℕ) → first_other part ≡ Some i → part_fault place part ≡ Some (place + i)
unfolding first_other
other_is_wrong place i [] h = cc
other_is_wrong place i (b ∷ bs) h = ap (option_map (λ i. place + i)) h

-- it is one of the bytes
pub other_is_inside : (bytes : List ℕ) (i : ℕ) → first_other bytes ≡ Some i → i < length bytes
unfolding first_other
other_is_inside bytes i h = (position-Some (λ b. not (is_digit b)) bytes i 0 h).0

-- without bytes there are no digits
pub nothing_ends_at_0 : (bytes : List ℕ) → bytes ≡ [] → 0 ≡ digits_end bytes
unfolding first_other
nothing_ends_at_0 [] h = refl
nothing_ends_at_0 (b ∷ bs) h = cc
