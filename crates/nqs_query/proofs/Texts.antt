-- Texts appended piece by piece.
use Rattle.std.proofs.Common.{◌≡◌, ℕ, ◌+◌, ◌<◌, List, [], ◌∷◌, ◌++◌, take, drop, get_or, length, ap, sym, ◌∙◌, append_assoc, take-append-drop}
use Rattle.std.proofs.lemmas.List.{append-nil, take_more}
use Rattle.std.proofs.lemmas.Grind.{flat_map-append}
use Rattle.nqs_rules.specs.Transcript.{line, lines}
use Rattle.nqs_put.specs.Puts.{IsFrontPut}
use Rattle.nqs_put.proofs.Fronts.{same_put, first_put, behind_put}

pub four : (o a b c d x y z w : List ℕ) → x ≡ o ++ a → y ≡ x ++ b → z ≡ y ++ c → w ≡ z ++ d → w ≡ o ++ (a ++ b ++ c ++ d)
four o a b c d x y z w p q r s =
    let moved : (((o ++ a) ++ b) ++ c) ++ d ≡ o ++ (a ++ b ++ c ++ d) = simp append_assoc in
    s ∙ (ap (λ (l : List ℕ). l ++ d) (r ∙ ap (λ (l : List ℕ). l ++ c) (q ∙ ap (λ (l : List ℕ). l ++ b) p)) ∙ moved)

-- three whole pieces, and a front of the fourth
pub behind_three : (o a b c d x y z now : List ℕ) → x ≡ o ++ a → y ≡ x ++ b → z ≡ y ++ c → IsFrontPut z d now → IsFrontPut o (a ++ b ++ c ++ d) now
behind_three o a b c d x y z now p q r by =
    behind_put o (a ++ b ++ c) d z now
    (r ∙ ap (λ (l : List ℕ). l ++ c) (q ∙ ap (λ (l : List ℕ). l ++ b) p ∙ append_assoc o a b) ∙ append_assoc o (a ++ b) c) by

-- four whole pieces, and a front of the fifth
pub behind_four : (o a b c d e x y z w now : List ℕ) → x ≡ o ++ a → y ≡ x ++ b → z ≡ y ++ c → w ≡ z ++ d → IsFrontPut w e now
    → IsFrontPut o (a ++ b ++ c ++ d ++ e) now
behind_four o a b c d e x y z w now p q r s by =
    behind_put o (a ++ b ++ c ++ d) e w now
    (s ∙ ap (λ (l : List ℕ). l ++ d) (r ∙ ap (λ (l : List ℕ). l ++ c) (q ∙ ap (λ (l : List ℕ). l ++ b) p ∙ append_assoc o a b)
    ∙ append_assoc o (a ++ b) c) ∙ append_assoc o (a ++ b ++ c) d) by

pub lines_more : (texts : List (List ℕ)) (i : ℕ) (d : List ℕ) → i < length texts
    → lines (take (i + 1) texts) ≡ lines (take i texts) ++ (get_or texts i d ++ 10 ∷ [])
lines_more texts i d less =
    ap lines (take_more texts i d less) ∙ (flat_map-append line (take i texts) (get_or texts i d ∷ [])
    ∙ ap (λ (l : List ℕ). lines (take i texts) ++ l) (append-nil (line (get_or texts i d))))

pub line_put : (texts : List (List ℕ)) (i : ℕ) (d o before x y : List ℕ) → i < length texts → d ≡ get_or texts i d → before ≡ o ++ lines (take i texts)
    → x ≡ before ++ d → y ≡ x ++ 10 ∷ [] → y ≡ o ++ lines (take (i + 1) texts)
line_put texts i d o before x y less there so_far p q =
    let more : lines (take (i + 1) texts) ≡ lines (take i texts) ++ (d ++ 10 ∷ []) = lines_more texts i d less
    ∙ ap (λ (t : List ℕ). lines (take i texts) ++ (t ++ 10 ∷ [])) (sym there) in
    let moved : ((o ++ lines (take i texts)) ++ d) ++ 10 ∷ [] ≡ o ++ (lines (take i texts) ++ (d ++ 10 ∷ [])) = simp append_assoc in
    q ∙ (ap (λ (l : List ℕ). l ++ 10 ∷ []) (p ∙ ap (λ (l : List ℕ). l ++ d) so_far) ∙ (moved ∙ ap (λ (l : List ℕ). o ++ l) (sym more)))

-- a front of a line, behind those before it
pub front_in : (texts : List (List ℕ)) (i : ℕ) (d o before now : List ℕ) → i < length texts → d ≡ get_or texts i d → before ≡ o ++ lines (take i texts)
    → IsFrontPut before (d ++ 10 ∷ []) now → IsFrontPut o (lines texts) now
front_in texts i d o before now less there so_far by =
    let more : lines (take (i + 1) texts) ≡ lines (take i texts) ++ (d ++ 10 ∷ []) = lines_more texts i d less
    ∙ ap (λ (t : List ℕ). lines (take i texts) ++ (t ++ 10 ∷ [])) (sym there) in
    let whole : lines (take i texts) ++ (d ++ 10 ∷ []) ++ lines (drop (i + 1) texts) ≡ lines texts =
    ap (λ (l : List ℕ). l ++ lines (drop (i + 1) texts)) (sym more) ∙ (sym (flat_map-append line (take (i + 1) texts) (drop (i + 1) texts))
    ∙ ap lines (take-append-drop (i + 1) texts)) in
    same_put o (lines (take i texts) ++ (d ++ 10 ∷ []) ++ lines (drop (i + 1) texts)) (lines texts) now whole
    (first_put o (lines (take i texts) ++ (d ++ 10 ∷ [])) (lines (drop (i + 1) texts)) now
    (behind_put o (lines (take i texts)) (d ++ 10 ∷ []) before now so_far by))
