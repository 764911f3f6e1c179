-- A text has one first fault at most.
use Rattle.std.proofs.Common.{◌≡◌, inl, inr, ℕ, ◌+◌, ◌<◌, ◌≤◌, List, [], ◌∷◌, ◌++◌, length, take, refl, sym, ap, ◌∙◌, arith, append_assoc}
use Rattle.std.specs.List.{AllByRecursion}
use Rattle.std.proofs.lemmas.List.{take-take}
use Rattle.nqs_journal.specs.Text.{frame, records, IsShort, LeavesRecordsAfter}
use Rattle.nqs_journal.specs.Either.{header_of, front_of, IsSnapshot, IsEitherFaultAt, LeavesHeaders}
use Rattle.nqs_journal.proofs.Frames.{frame_cancel}
use Rattle.nqs_journal.proofs.NoFault.{IsBadEnd}
use Rattle.nqs_journal.proofs.Fronts.{front_cancel}
use Rattle.nqs_journal.proofs.Eithers.{headers, no_header, cut}

-- what one list begins with, shorter
shorter : (bytes other : List ℕ) (m n : ℕ) → m ≤ n → take n bytes ≡ take n other → take m bytes ≡ take m other
shorter bytes other m n le same = sym (take-take m n bytes le) ∙ ap (take m) same ∙ take-take m n other le

-- where the bytes leave all headers they agree with none further on
not_before : (bytes : List ℕ) (p q : ℕ) → LeavesHeaders bytes p → LeavesHeaders bytes q → p < q → ⊥
not_before bytes p q one two lt = one.none two.same.0 (shorter bytes (header_of two.same.0) (p + 1) q (omega (arith, lt)) two.same.1)

same_place : (p q : ℕ) → (p < q → ⊥) → (q < p → ⊥) → p ≡ q
same_place p q no_less no_more = grind (arith, no_less, no_more)

-- two ends that are bad stand behind the same records
same_ends : (ps qs : List (List ℕ)) (x y : List ℕ) → AllByRecursion IsShort ps → AllByRecursion IsShort qs → records ps ++ x ≡ records qs ++ y
    → IsBadEnd x → IsBadEnd y → ps ≡ qs
same_ends [] [] x y short_p short_q same bad worse = refl
same_ends [] (q ∷ qs) x y short_p short_q same (inl none) worse = let no : ⊥ = cc (same, none) in absurd no
same_ends [] (q ∷ qs) x y short_p short_q same (inr wide) worse =
    let behind : wide.0 ≡ frame q ++ records qs ++ y = cc (same, wide.1) in
    absurd (wide.2 q (records qs ++ y) short_q.0 (behind ∙ append_assoc (frame q) (records qs) y))
same_ends (p ∷ ps) [] x y short_p short_q same bad (inl none) = let no : ⊥ = cc (same, none) in absurd no
same_ends (p ∷ ps) [] x y short_p short_q same bad (inr wide) =
    let behind : wide.0 ≡ frame p ++ records ps ++ x = cc (same, wide.1) in
    absurd (wide.2 p (records ps ++ x) short_p.0 (behind ∙ append_assoc (frame p) (records ps) x))
same_ends (p ∷ ps) (q ∷ qs) x y short_p short_q same bad worse =
    let behind : frame p ++ records ps ++ x ≡ frame q ++ records qs ++ y = cc in
    let both = frame_cancel p q (records ps ++ x) (records qs ++ y) short_p.0 short_q.0
    (sym (append_assoc (frame p) (records ps) x) ∙ behind ∙ append_assoc (frame q) (records qs) y) in
    let rest : ps ≡ qs = same_ends ps qs x y short_p.1 short_q.1 both.1 bad worse in
    ap (λ l. l ∷ ps) both.0 ∙ ap (λ l. q ∷ l) rest

-- a front that stands behind one fault of the bytes
front_text : (front bytes : List ℕ) (place : ℕ) (leaves : LeavesRecordsAfter front bytes place) → bytes ≡ front ++ (records leaves.payloads ++ leaves.rest)
front_text front bytes place leaves = leaves.text ∙ append_assoc front (records leaves.payloads) leaves.rest

same_records_fault : (bytes : List ℕ) (p q v w : ℕ) (s t : List ℕ) → IsSnapshot v s → IsSnapshot w t
    → LeavesRecordsAfter (front_of v s) bytes p → LeavesRecordsAfter (front_of w t) bytes q → p ≡ q
same_records_fault bytes p q v w s t is was one two =
    let fronts = front_cancel v w s t (records one.payloads ++ one.rest) (records two.payloads ++ two.rest) is was
    (sym (front_text _ bytes p one) ∙ front_text _ bytes q two) in
    let payloads = same_ends one.payloads two.payloads one.rest two.rest one.short two.short fronts.2 one.bad two.bad in
    one.is_place ∙ ap (λ ps. length (front_of v s ++ records ps)) payloads ∙ ap (λ f. length (front_of f s ++ records two.payloads)) fronts.0
    ∙ ap (λ l. length (front_of w l ++ records two.payloads)) fronts.1 ∙ sym two.is_place

pub one_fault : (bytes : List ℕ) (place other : ℕ) → IsEitherFaultAt bytes place → IsEitherFaultAt bytes other → place ≡ other
one_fault bytes p q (inl (inl one)) (inl (inl two)) = same_place p q (not_before bytes p q one two) (not_before bytes q p two one)
one_fault bytes p q (inl (inl one)) (inl (inr two)) = absurd (no_header bytes two.rest two.form p two.text one)
one_fault bytes p q (inl (inl one)) (inr (w, t, was, two)) = absurd (headers bytes _ w t p (front_text _ bytes q two) one)
one_fault bytes p q (inl (inr one)) (inl (inl two)) = absurd (no_header bytes one.rest one.form q one.text two)
one_fault bytes p q (inl (inr one)) (inl (inr two)) = one.is_place ∙ sym two.is_place
one_fault bytes p q (inl (inr one)) (inr (w, t, was, two)) = absurd (cut bytes _ w t p was (front_text _ bytes q two) one)
one_fault bytes p q (inr (v, s, is, one)) (inl (inl two)) = absurd (headers bytes _ v s q (front_text _ bytes p one) two)
one_fault bytes p q (inr (v, s, is, one)) (inl (inr two)) = absurd (cut bytes _ v s q is (front_text _ bytes p one) two)
one_fault bytes p q (inr (v, s, is, one)) (inr (w, t, was, two)) = same_records_fault bytes p q v w s t is was one two
