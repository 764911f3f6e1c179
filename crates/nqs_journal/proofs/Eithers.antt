-- Bytes stand by one form for one snapshot, or none, and one list of payloads, and are then at
-- fault nowhere.
use Rattle.std.proofs.Common.{◌≡◌, inl, inr, ℕ, ◌+◌, ◌≤◌, Bool, true, false, true≢false, List, [], ◌∷◌, ◌++◌, length, take, refl, sym, ap, subst, ◌∙◌, arith}
use Rattle.std.proofs.Common.{append_assoc}
use Rattle.std.proofs.lemmas.List.{take-append-le}
use Rattle.nqs_journal.specs.Text.{header_by, records, StandsAfter, StandsFor}
use Rattle.nqs_journal.specs.Either.{header_of, has_snapshot, is_old_form, long_frame, front_of, IsSnapshot, StandsBy, IsEitherFaultAt, LeavesHeaders}
use Rattle.nqs_journal.specs.Either.{LeavesSnapshot}
use Rattle.nqs_journal.proofs.OneReading.{same_records}
use Rattle.nqs_journal.proofs.NoFault.{not_both}
use Rattle.nqs_journal.proofs.Fronts.{front_begins, front_cancel, front_text, has_known, is_known, is_small, length-header_of, one_header}
use Rattle.std.proofs.lemmas.List.{append_cancel_left}

pub one_reading : (bytes : List ℕ) (v w : ℕ) (snapshot other : List ℕ) (payloads others : List (List ℕ)) → StandsBy bytes v snapshot payloads
    → StandsBy bytes w other others → (v ≡ w) × (snapshot ≡ other) × (payloads ≡ others)
one_reading bytes v w snapshot other payloads others (is, stands) (was, stood) =
    let fronts = front_cancel v w snapshot other (records payloads ++ stands.gate ∷ stands.rest) (records others ++ stood.gate ∷ stood.rest) is was
    (sym (append_assoc (front_of v snapshot) (records payloads) (stands.gate ∷ stands.rest)) ∙ sym stands.text ∙ stood.text
    ∙ append_assoc (front_of w other) (records others) (stood.gate ∷ stood.rest)) in (
      fronts.0,
      fronts.1,
      same_records payloads others stands.gate stood.gate stands.rest stood.rest stands.short stood.short stands.closed stood.closed fronts.2,
    )

-- the form of a text without a snapshot, and its front
pub plain_form : (is_old : Bool) → (form : ℕ) × (has_snapshot form ≡ false) × (front_of form [] ≡ header_by is_old) × IsSnapshot form []
    × (is_old ≡ is_old_form form)
plain_form false = (0, refl, refl, refl, refl)
plain_form true = (3, refl, refl, refl, refl)

-- without a snapshot bytes stand by one of the forms
pub stands_plain : (bytes : List ℕ) (payloads : List (List ℕ)) (stands : StandsFor bytes payloads)
    → StandsBy bytes (plain_form stands.0).0 [] payloads
stands_plain bytes payloads stands =
    let plain = plain_form stands.0 in
    (plain.3, subst (λ (front : List ℕ). StandsAfter front bytes payloads) (sym plain.2) stands.1)

pub one_plain : (bytes : List ℕ) (ps qs : List (List ℕ)) → StandsFor bytes ps → StandsFor bytes qs → ps ≡ qs
one_plain bytes ps qs p q = (one_reading bytes (plain_form p.0).0 (plain_form q.0).0 [] [] ps qs (stands_plain bytes ps p) (stands_plain bytes qs q)).2

pub one_form : (bytes : List ℕ) (form : ℕ) (snapshot : List ℕ) (payloads others : List (List ℕ)) → has_snapshot form ≡ true → StandsFor bytes payloads
    → StandsBy bytes form snapshot others → ⊥
one_form bytes form snapshot payloads others has first second =
    let plain = plain_form first.0 in
    let same = (one_reading bytes plain.0 form [] snapshot payloads others (stands_plain bytes payloads first) second).0 in
    true≢false (sym has ∙ ap has_snapshot (sym same) ∙ plain.1)

-- bytes that begin with a list of 16 or more begin so at each place before
pub begins : (front rest bytes : List ℕ) (place : ℕ) → bytes ≡ front ++ rest → place ≤ length front → take place bytes ≡ take place front
begins front rest bytes place is within = ap (take place) is ∙ take-append-le place front rest within

-- bytes that go on as no header begin with none
pub no_header : (bytes rest : List ℕ) (form place : ℕ) → bytes ≡ header_of form ++ rest → LeavesHeaders bytes place → ⊥
no_header bytes rest form place is leaves =
    leaves.none form (begins (header_of form) rest bytes (place + 1) is (omega (arith, leaves.within, length-header_of form)))

pub headers : (bytes rest : List ℕ) (form : ℕ) (snapshot : List ℕ) (place : ℕ) → bytes ≡ front_of form snapshot ++ rest → LeavesHeaders bytes place → ⊥
headers bytes rest form snapshot place is leaves =
    let begun = front_begins form snapshot rest in
    no_header bytes begun.0 form place (is ∙ begun.1) leaves

pub cut : (bytes rest : List ℕ) (form : ℕ) (snapshot : List ℕ) (place : ℕ) → IsSnapshot form snapshot → bytes ≡ front_of form snapshot ++ rest
    → LeavesSnapshot bytes place → ⊥
cut bytes rest form snapshot place is text leaves =
    let begun = front_begins form snapshot rest in
    let same : leaves.form ≡ form = one_header leaves.form form leaves.rest begun.0 (has_known leaves.form leaves.among) (is_known form snapshot is)
    (sym leaves.text ∙ text ∙ begun.1) in
    let has : has_snapshot form ≡ true = ap has_snapshot (sym same) ∙ leaves.among in
    leaves.bad snapshot rest (is_small form snapshot has is)
    (append_cancel_left (header_of form) leaves.rest (long_frame snapshot ++ rest)
    (ap (λ n. header_of n ++ leaves.rest) (sym same) ∙ sym leaves.text ∙ text ∙ front_text form snapshot rest has))

pub no_fault : (bytes : List ℕ) (form : ℕ) (snapshot : List ℕ) (payloads : List (List ℕ)) (place : ℕ) → StandsBy bytes form snapshot payloads
    → IsEitherFaultAt bytes place → ⊥
no_fault bytes form snapshot payloads place (is, stands) fault =
    let behind = records payloads ++ stands.gate ∷ stands.rest in
    let text : bytes ≡ front_of form snapshot ++ behind =
    stands.text ∙ append_assoc (front_of form snapshot) (records payloads) (stands.gate ∷ stands.rest) in
    elim fault [
      | inl (inl leaves) ↦ headers bytes behind form snapshot place text leaves
      | inl (inr leaves) ↦ cut bytes behind form snapshot place is text leaves
      | inr (other, found, was, leaves) ↦
          let fronts = front_cancel form other snapshot found behind (records leaves.payloads ++ leaves.rest) is was
          (sym text ∙ leaves.text ∙ append_assoc (front_of other found) (records leaves.payloads) leaves.rest) in
          not_both payloads leaves.payloads stands.gate stands.rest leaves.rest stands.short leaves.short stands.closed fronts.2 leaves.bad
    ]
