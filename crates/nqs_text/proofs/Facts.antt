-- The number that the first digits of a text write, and what the rest of it makes of it.
use Rattle.std.proofs.Common.{◌≡◌, ℕ, suc, ◌+◌, ◌-◌, ◌*◌, ◌<◌, ◌≤◌, List, [], ◌∷◌, length, arith, refl, drop, drop-cons, get_or}
use Rattle.std.proofs.lemmas.List.{drop_all}
use Rattle.nqs_text.specs.Number.{decimal_from}

grows : (n : ℕ) (bs : List ℕ) → n ≤ decimal_from n bs
grows n [] = omega arith
grows n (b ∷ bs) = let h = grows (n * 10 + (b - 48)) bs in omega arith

pub next_digit : (n i : ℕ) (bs : List ℕ) → i < length bs → n * 10 + (get_or bs i 0 - 48) ≤ decimal_from n (drop i bs)
next_digit n i bs inside = rw (drop-cons bs i 0) (grows (n * 10 + (get_or bs i 0 - 48)) (drop (suc i) bs))

pub all_read : (n i : ℕ) (bs : List ℕ) → length bs ≤ i → n ≡ decimal_from n (drop i bs)
all_read n i bs past = rw (drop_all i bs past) refl
