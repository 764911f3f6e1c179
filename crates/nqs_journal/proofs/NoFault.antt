-- Records that are followed by a closed gate don't end badly.
use Rattle.std.proofs.Common.{◌≡◌, ◌≢◌, ◌⊎◌, inl, inr, ℕ, List, [], ◌∷◌, ◌++◌, sym, ◌∙◌, append_assoc}
use Rattle.std.specs.List.{AllByRecursion}
use Rattle.nqs_journal.specs.Text.{frame, records, IsShort, IsNoFrame}
use Rattle.nqs_journal.proofs.Frames.{frame_cancel}

-- behind the records the bytes end, or a gate is open with no payload behind it
abbrev pub IsBadEnd : List ℕ → Type 0
IsBadEnd rest = (rest ≡ []) ⊎ ((more : List ℕ) × (rest ≡ 1 ∷ more) × IsNoFrame more)

pub not_both : (ps qs : List (List ℕ)) (gate : ℕ) (x rest : List ℕ) → AllByRecursion IsShort ps → AllByRecursion IsShort qs → gate ≢ 1
    → records ps ++ gate ∷ x ≡ records qs ++ rest → IsBadEnd rest → ⊥
not_both [] [] gate x rest short_p short_q shut same (inl none) = let no : ⊥ = cc in no
not_both [] [] gate x rest short_p short_q shut same (inr wide) = let e : gate ≡ 1 = cc (same, wide.1) in shut e
not_both [] (q ∷ qs) gate x rest short_p short_q shut same bad = let e : gate ≡ 1 = cc in shut e
not_both (p ∷ ps) [] gate x rest short_p short_q shut same (inl none) = let no : ⊥ = cc in no
not_both (p ∷ ps) [] gate x rest short_p short_q shut same (inr wide) =
    let behind : wide.0 ≡ frame p ++ records ps ++ gate ∷ x = cc (same, wide.1) in
    wide.2 p (records ps ++ gate ∷ x) short_p.0 (behind ∙ append_assoc (frame p) (records ps) (gate ∷ x))
not_both (p ∷ ps) (q ∷ qs) gate x rest short_p short_q shut same bad =
    let behind : frame p ++ records ps ++ gate ∷ x ≡ frame q ++ records qs ++ rest = cc in
    let both = frame_cancel p q (records ps ++ gate ∷ x) (records qs ++ rest) short_p.0 short_q.0
    (sym (append_assoc (frame p) (records ps) (gate ∷ x)) ∙ behind ∙ append_assoc (frame q) (records qs) rest) in
    not_both ps qs gate x rest short_p.1 short_q.1 shut both.1 bad
