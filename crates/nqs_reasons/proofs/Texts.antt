-- Texts appended piece by piece.
use Rattle.std.proofs.Common.{◌≡◌, ℕ, List, ◌++◌, ap, ◌∙◌, append_assoc}

pub three : (o a b c x y z : List ℕ) → x ≡ o ++ a → y ≡ x ++ b → z ≡ y ++ c → z ≡ o ++ (a ++ b ++ c)
three o a b c x y z p q r =
    let moved : ((o ++ a) ++ b) ++ c ≡ o ++ (a ++ b ++ c) = simp append_assoc in
    r ∙ (ap (λ (l : List ℕ). l ++ c) (q ∙ ap (λ (l : List ℕ). l ++ b) p) ∙ moved)
