-- The whole lines of a text.
use Rattle.std.proofs.Common.{◌≡◌, ℕ, ◌+◌, ◌-◌, ◌<◌, ◌≤◌, List, [], ◌∷◌, ◌++◌, length, take, get_or, refl, ap, sym, ◌∙◌, ◌==◌, true, false, arith}
use Rattle.std.specs.Prelude.{if◌then◌else◌}
use Rattle.std.proofs.lemmas.Bool.Decides.{nat_tests}
use Rattle.std.proofs.lemmas.List.{take_more}
use Rattle.nqs_serve.specs.Letters.{with_lines, whole_lines}

line_ends : (xs : List ℕ) (b : ℕ) → (b == 10) ≡ true → whole_lines (xs ++ b ∷ []) ≡ xs ++ b ∷ []
line_ends [] b e = ap (λ t. if t then b ∷ [] else []) e
line_ends (x ∷ xs) b e = ap (with_lines x) (line_ends xs b e) ∙ by xs
  where
    by : (ys : List ℕ) → with_lines x (ys ++ b ∷ []) ≡ x ∷ ys ++ b ∷ []
    by [] = refl
    by (y ∷ ys) = refl

line_goes_on : (xs : List ℕ) (b : ℕ) → (b == 10) ≡ false → whole_lines (xs ++ b ∷ []) ≡ whole_lines xs
line_goes_on [] b e = ap (λ t. if t then b ∷ [] else []) e
line_goes_on (x ∷ xs) b e = ap (with_lines x) (line_goes_on xs b e)

-- the last byte of a front
last_of : (text : List ℕ) (end : ℕ) → 0 < end → end ≤ length text → take end text ≡ take (end - 1) text ++ get_or text (end - 1) 0 ∷ []
last_of text end some within =
    let same : end ≡ (end - 1) + 1 = omega (arith, some) in
    ap (λ n. take n text) same ∙ take_more text (end - 1) 0 (omega (arith, some, within))

pub ends_here : (text : List ℕ) (end : ℕ) → 0 < end → end ≤ length text → get_or text (end - 1) 0 ≡ 10 → whole_lines (take end text) ≡ take end text
ends_here text end some within is =
    let test : (get_or text (end - 1) 0 == 10) ≡ true = ap (λ b. b == 10) is in
    ap whole_lines (last_of text end some within) ∙ line_ends (take (end - 1) text) (get_or text (end - 1) 0) test ∙ sym (last_of text end some within)

pub goes_on_here : (text : List ℕ) (end : ℕ) → 0 < end → end ≤ length text → (get_or text (end - 1) 0 ≡ 10 → ⊥)
    → whole_lines (take end text) ≡ whole_lines (take (end - 1) text)
goes_on_here text end some within other =
    let test : (get_or text (end - 1) 0 == 10) ≡ false = is_not (get_or text (end - 1) 0) other in
    ap whole_lines (last_of text end some within) ∙ line_goes_on (take (end - 1) text) (get_or text (end - 1) 0) test
  where
    is_not : (b : ℕ) → (b ≡ 10 → ⊥) → (b == 10) ≡ false
    is_not b other = grind (arith, nat_tests)
