-- Fronts of texts that are put piece by piece.
use Rattle.std.proofs.Common.{◌≡◌, ℕ, List, [], ◌++◌, refl, sym, ap, ◌∙◌, append_assoc}
use Rattle.std.proofs.lemmas.List.{append-nil}
use Rattle.nqs_put.specs.Puts.{IsFrontPut}

-- nothing was put
pub none_put : (old text now : List ℕ) → now ≡ old → IsFrontPut old text now
none_put old text now same = record { front = []; rest = text; put = same ∙ sym (append-nil old); of_text = refl }

-- a front of the first piece
pub first_put : (old a b now : List ℕ) → IsFrontPut old a now → IsFrontPut old (a ++ b) now
first_put old a b now by = record {
  front = by.front;
  rest = by.rest ++ b;
  put = by.put;
  of_text = ap (λ (l : List ℕ). l ++ b) by.of_text ∙ append_assoc by.front by.rest b;
}

-- the first piece, and a front of what comes behind it
pub behind_put : (old a b mid now : List ℕ) → mid ≡ old ++ a → IsFrontPut mid b now → IsFrontPut old (a ++ b) now
behind_put old a b mid now whole by = record {
  front = a ++ by.front;
  rest = by.rest;
  put = by.put ∙ ap (λ (l : List ℕ). l ++ by.front) whole ∙ append_assoc old a by.front;
  of_text = ap (λ (l : List ℕ). a ++ l) by.of_text ∙ sym (append_assoc a by.front by.rest);
}

-- a text that is named otherwise
pub same_put : (old a b now : List ℕ) → a ≡ b → IsFrontPut old a now → IsFrontPut old b now
same_put old a b now same by = record { front = by.front; rest = by.rest; put = by.put; of_text = sym same ∙ by.of_text }

-- two whole pieces, and a front of the third
pub behind_two : (old a b c x y now : List ℕ) → x ≡ old ++ a → y ≡ x ++ b → IsFrontPut y c now → IsFrontPut old (a ++ b ++ c) now
behind_two old a b c x y now first second by =
    behind_put old (a ++ b) c y now (second ∙ ap (λ (l : List ℕ). l ++ b) first ∙ append_assoc old a b) by
