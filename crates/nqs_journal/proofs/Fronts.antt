-- What comes before the records, by any form.
use Rattle.std.proofs.Common.{◌≡◌, ◌≢◌, ◌⊎◌, inl, inr, ℕ, zero, suc, ◌+◌, ◌<◌, ◌≤◌, ◌^◌, max, List, [], ◌∷◌, ◌++◌, length, take, drop, get_or}
use Rattle.std.proofs.Common.{◌||◌, ◌==◌, slice_get, Bool, true, false, true≢false, refl, sym, ap, subst, ◌∙◌, arith, length-append}
use Rattle.std.proofs.lemmas.Bool.{eqb-true}
use Rattle.std.proofs.lemmas.List.{append_cancel_left, take_at}
use Rattle.nqs_journal.specs.Text.{header, old_header, header_by, snapshot_front, old_snapshot_front, LeavesHeader}
use Rattle.nqs_journal.specs.Either.{header_of, has_snapshot, version_of, long_frame, front_of, IsSnapshot, LeavesHeaders}
use Rattle.nqs_journal.proofs.LongFrames.{long_frame_cancel}

-- two forms have a snapshot
between : (form : ℕ) → has_snapshot form ≡ true → (1 ≤ form) × (form ≤ 2)
between form has = by (form == 1) refl has
  where
    by : (b : Bool) → (form == 1) ≡ b → (b || form == 2) ≡ true → (1 ≤ form) × (form ≤ 2)
    by true e k = let one = eqb-true form 1 e in (omega (arith, one), omega (arith, one))
    by false e k = let two = eqb-true form 2 k in (omega (arith, two), omega (arith, two))

-- the first one hasn't, nor any behind the third
not_first : has_snapshot 0 ≡ true → ⊥
not_first has = let some = (between 0 has).0 in omega (arith, some)

not_later : (more : ℕ) → has_snapshot (suc (suc (suc more))) ≡ true → ⊥
not_later more has = let few = (between (suc (suc (suc more))) has).1 in omega (arith, few)

-- the front of a snapshot
pub front_text : (form : ℕ) (snapshot rest : List ℕ) → has_snapshot form ≡ true
    → front_of form snapshot ++ rest ≡ header_of form ++ (long_frame snapshot ++ rest)
unfolding snapshot_front old_snapshot_front long_frame
front_text zero snapshot rest has = absurd (not_first has)
front_text (suc zero) snapshot rest has = refl
front_text (suc (suc zero)) snapshot rest has = refl
front_text (suc (suc (suc more))) snapshot rest has = absurd (not_later more has)

-- the front where there is no snapshot
pub front_alone : (form : ℕ) (snapshot : List ℕ) → has_snapshot form ≡ false → front_of form snapshot ≡ header_of form
front_alone zero snapshot none = refl
front_alone (suc zero) snapshot none = absurd (true≢false none)
front_alone (suc (suc zero)) snapshot none = absurd (true≢false none)
front_alone (suc (suc (suc more))) snapshot none = refl

pub length-front : (snapshot : List ℕ) → length (snapshot_front snapshot) ≡ 24 + length snapshot
unfolding snapshot_front
length-front snapshot = omega arith

pub length-front_of : (form : ℕ) (snapshot : List ℕ) → has_snapshot form ≡ true → length (front_of form snapshot) ≡ 24 + length snapshot
unfolding old_snapshot_front
length-front_of zero snapshot has = absurd (not_first has)
length-front_of (suc zero) snapshot has = omega arith
length-front_of (suc (suc zero)) snapshot has = length-front snapshot
length-front_of (suc (suc (suc more))) snapshot has = absurd (not_later more has)

pub is_snapshot : (form : ℕ) (snapshot : List ℕ) → has_snapshot form ≡ true → length snapshot < 2 ^ 64 → IsSnapshot form snapshot
is_snapshot zero snapshot has small = absurd (not_first has)
is_snapshot (suc zero) snapshot has small = small
is_snapshot (suc (suc zero)) snapshot has small = small
is_snapshot (suc (suc (suc more))) snapshot has small = absurd (not_later more has)

-- no snapshot, by a form that has none
pub is_none : (form : ℕ) → has_snapshot form ≡ false → form ≤ 3 → IsSnapshot form []
is_none zero none known = refl
is_none (suc zero) none known = absurd (true≢false none)
is_none (suc (suc zero)) none known = absurd (true≢false none)
is_none (suc (suc (suc zero))) none known = refl
is_none (suc (suc (suc (suc more)))) none known = absurd (omega (arith, known))

-- a snapshot that stands behind its header is the front
pub front_stands : (form : ℕ) (bytes snapshot rest : List ℕ) → has_snapshot form ≡ true → bytes ≡ header_of form ++ drop 16 bytes
    → drop 16 bytes ≡ long_frame snapshot ++ rest → bytes ≡ front_of form snapshot ++ rest
front_stands form bytes snapshot rest has begins behind =
    begins ∙ ap (λ (l : List ℕ). header_of form ++ l) behind ∙ sym (front_text form snapshot rest has)

pub front_taken : (form : ℕ) (bytes snapshot rest : List ℕ) → has_snapshot form ≡ true → bytes ≡ front_of form snapshot ++ rest
    → take (24 + length snapshot) bytes ≡ front_of form snapshot
front_taken form bytes snapshot rest has is =
    ap (λ (l : List ℕ). take (24 + length snapshot) l) is
    ∙ take_at (front_of form snapshot) rest (24 + length snapshot) (length-front_of form snapshot has)

pub front_within : (form : ℕ) (bytes snapshot rest : List ℕ) → has_snapshot form ≡ true → bytes ≡ front_of form snapshot ++ rest
    → 24 + length snapshot ≤ length bytes
front_within form bytes snapshot rest has is =
    omega (arith, ap length is, length-append (front_of form snapshot) rest, length-front_of form snapshot has)

pub length-header_of : (form : ℕ) → length (header_of form) ≡ 16
length-header_of zero = refl
length-header_of (suc zero) = refl
length-header_of (suc (suc zero)) = refl
length-header_of (suc (suc (suc more))) = refl

-- a text without a snapshot begins with its header
pub header_taken : (form : ℕ) (bytes : List ℕ) → bytes ≡ header_of form ++ drop 16 bytes → has_snapshot form ≡ false → take 16 bytes ≡ front_of form []
header_taken form bytes begins none =
    ap (λ (l : List ℕ). take 16 l) begins ∙ take_at (header_of form) (drop 16 bytes) 16 (length-header_of form)
    ∙ sym (front_alone form [] none)

pub header_within : (form : ℕ) (bytes : List ℕ) → bytes ≡ header_of form ++ drop 16 bytes → 16 ≤ length bytes
header_within form bytes begins =
    omega (arith, ap length begins, length-append (header_of form) (drop 16 bytes), length-header_of form)

-- within its first bytes a list has what it has there
within_taken : (n i : ℕ) (xs : List ℕ) → i < n → slice_get (take n xs) i ≡ slice_get xs i
within_taken zero i xs lt = absurd (omega (arith, lt))
within_taken (suc n) i [] lt = refl
within_taken (suc n) zero (x ∷ xs) lt = refl
within_taken (suc n) (suc i) (x ∷ xs) lt = within_taken n i xs (omega (arith, lt))

differs_on : (bytes other : List ℕ) (i n : ℕ) → i ≤ n → slice_get bytes i ≢ slice_get other i → take (n + 1) bytes ≢ take (n + 1) other
differs_on bytes other i n le differs = λ same.
    differs (sym (within_taken (n + 1) i bytes (omega (arith, le))) ∙ ap (λ (l : List ℕ). slice_get l i) same
    ∙ within_taken (n + 1) i other (omega (arith, le)))

either_one : (i j : ℕ) → (max i j ≡ i) ⊎ (max i j ≡ j)
either_one zero j = inr (omega arith)
either_one (suc i) zero = inl (omega arith)
either_one (suc i) (suc j) = elim (either_one i j) [ inl is ↦ inl (omega (arith, is)) | inr is ↦ inr (omega (arith, is)) ]

-- up to the place the bytes are those of a header, and at it they aren't
pub record Differs (bytes line : List ℕ) (place : ℕ) : Type 0 where
  pub within : place < 16
  pub same : take place bytes ≡ take place line
  pub differs : slice_get bytes place ≢ slice_get line place

same_at : (bytes line : List ℕ) (i n : ℕ) → n ≡ i → Differs bytes line i → take n bytes ≡ take n line
same_at bytes line i n is at = ap (λ m. take m bytes) is ∙ at.same ∙ ap (λ m. take m line) (sym is)

-- the greatest of the places at which the bytes leave the four headers
pub leaves : (bytes : List ℕ) (i j k l n : ℕ) → Differs bytes (header_of 0) i → Differs bytes (header_of 1) j → Differs bytes (header_of 2) k
    → Differs bytes (header_of 3) l → n ≡ max (max (max i j) k) l → LeavesHeaders bytes n
leaves bytes i j k l n none old new first greatest = record {
  within = omega (arith, greatest, none.within, old.within, new.within, first.within);
  same = elim (either_one (max (max i j) k) l) [
    | inl is ↦ elim (either_one (max i j) k) [
      | inl was ↦ elim (either_one i j) [
        | inl so ↦ (0, same_at bytes (header_of 0) i n (greatest ∙ is ∙ was ∙ so) none)
        | inr so ↦ (1, same_at bytes (header_of 1) j n (greatest ∙ is ∙ was ∙ so) old)
      ]
      | inr was ↦ (2, same_at bytes (header_of 2) k n (greatest ∙ is ∙ was) new)
    ]
    | inr is ↦ (3, same_at bytes (header_of 3) l n (greatest ∙ is) first)
  ];
  none = no_header;
} where
  no_header : (form : ℕ) → take (n + 1) bytes ≢ take (n + 1) (header_of form)
  no_header zero = differs_on bytes (header_of 0) i n (omega (arith, greatest)) none.differs
  no_header (suc zero) = differs_on bytes (header_of 1) j n (omega (arith, greatest)) old.differs
  no_header (suc (suc zero)) = differs_on bytes (header_of 2) k n (omega (arith, greatest)) new.differs
  no_header (suc (suc (suc more))) = differs_on bytes (header_of 3) l n (omega (arith, greatest)) first.differs

-- the greater of the places at which the bytes leave the two headers of a text without a snapshot
pub leaves_both : (bytes : List ℕ) (i j n : ℕ) → Differs bytes header i → Differs bytes old_header j → n ≡ max i j → LeavesHeader bytes n
leaves_both bytes i j n new old greatest = record {
  within = omega (arith, greatest, new.within, old.within);
  same = elim (either_one i j) [
    | inl is ↦ (false, same_at bytes header i n (greatest ∙ is) new)
    | inr is ↦ (true, same_at bytes old_header j n (greatest ∙ is) old)
  ];
  none = no_header;
} where
  no_header : (is_old : Bool) → take (n + 1) bytes ≢ take (n + 1) (header_by is_old)
  no_header false = differs_on bytes header i n (omega (arith, greatest)) new.differs
  no_header true = differs_on bytes old_header j n (omega (arith, greatest)) old.differs

-- the fifth byte tells a snapshot's header, and the byte before the line's end the version
pub one_header : (v w : ℕ) (x y : List ℕ) → v ≤ 3 → w ≤ 3 → header_of v ++ x ≡ header_of w ++ y → v ≡ w
one_header zero zero x y known knew same = refl
one_header zero (suc zero) x y known knew same = let fifth : 74 ≡ 83 = ap (λ (l : List ℕ). get_or l 4 0) same in absurd (omega (arith, fifth))
one_header zero (suc (suc zero)) x y known knew same = let fifth : 74 ≡ 83 = ap (λ (l : List ℕ). get_or l 4 0) same in absurd (omega (arith, fifth))
one_header zero (suc (suc (suc more))) x y known knew same = let last : 50 ≡ 49 = ap (λ (l : List ℕ). get_or l 13 0) same in absurd (omega (arith, last))
one_header (suc zero) zero x y known knew same = let fifth : 83 ≡ 74 = ap (λ (l : List ℕ). get_or l 4 0) same in absurd (omega (arith, fifth))
one_header (suc zero) (suc zero) x y known knew same = refl
one_header (suc zero) (suc (suc zero)) x y known knew same = let last : 49 ≡ 50 = ap (λ (l : List ℕ). get_or l 14 0) same in absurd (omega (arith, last))
one_header (suc zero) (suc (suc (suc more))) x y known knew same = let fifth : 83 ≡ 74 = ap (λ (l : List ℕ). get_or l 4 0) same in absurd (omega (arith, fifth))
one_header (suc (suc zero)) zero x y known knew same = let fifth : 83 ≡ 74 = ap (λ (l : List ℕ). get_or l 4 0) same in absurd (omega (arith, fifth))
one_header (suc (suc zero)) (suc zero) x y known knew same = let last : 50 ≡ 49 = ap (λ (l : List ℕ). get_or l 14 0) same in absurd (omega (arith, last))
one_header (suc (suc zero)) (suc (suc zero)) x y known knew same = refl
one_header (suc (suc zero)) (suc (suc (suc more))) x y known knew same = let fifth : 83 ≡ 74 = ap (λ (l : List ℕ). get_or l 4 0) same in
    absurd (omega (arith, fifth))
one_header (suc (suc (suc more))) zero x y known knew same = let last : 49 ≡ 50 = ap (λ (l : List ℕ). get_or l 13 0) same in absurd (omega (arith, last))
one_header (suc (suc (suc more))) (suc zero) x y known knew same = let fifth : 74 ≡ 83 = ap (λ (l : List ℕ). get_or l 4 0) same in absurd (omega (arith, fifth))
one_header (suc (suc (suc more))) (suc (suc zero)) x y known knew same = let fifth : 74 ≡ 83 = ap (λ (l : List ℕ). get_or l 4 0) same in
    absurd (omega (arith, fifth))
one_header (suc (suc (suc more))) (suc (suc (suc many))) x y known knew same = omega (arith, known, knew)

-- a front begins with the header of its form
pub front_begins : (form : ℕ) (snapshot rest : List ℕ) → (behind : List ℕ) × (front_of form snapshot ++ rest ≡ header_of form ++ behind)
front_begins zero snapshot rest = (rest, refl)
front_begins (suc zero) snapshot rest = (long_frame snapshot ++ rest, front_text 1 snapshot rest refl)
front_begins (suc (suc zero)) snapshot rest = (long_frame snapshot ++ rest, front_text 2 snapshot rest refl)
front_begins (suc (suc (suc more))) snapshot rest = (rest, refl)

pub is_known : (form : ℕ) (snapshot : List ℕ) → IsSnapshot form snapshot → form ≤ 3
is_known zero snapshot is = omega arith
is_known (suc zero) snapshot is = omega arith
is_known (suc (suc zero)) snapshot is = omega arith
is_known (suc (suc (suc zero))) snapshot is = omega arith
is_known (suc (suc (suc (suc more)))) snapshot is = absurd is

pub has_known : (form : ℕ) → has_snapshot form ≡ true → form ≤ 3
has_known zero has = omega arith
has_known (suc zero) has = omega arith
has_known (suc (suc zero)) has = omega arith
has_known (suc (suc (suc more))) has = absurd (not_later more has)

pub is_small : (form : ℕ) (snapshot : List ℕ) → has_snapshot form ≡ true → IsSnapshot form snapshot → length snapshot < 2 ^ 64
is_small zero snapshot has is = absurd (not_first has)
is_small (suc zero) snapshot has is = is
is_small (suc (suc zero)) snapshot has is = is
is_small (suc (suc (suc more))) snapshot has is = absurd (not_later more has)

long_behind : (form : ℕ) (p q x y : List ℕ) → has_snapshot form ≡ true → IsSnapshot form p → IsSnapshot form q
    → front_of form p ++ x ≡ front_of form q ++ y → (p ≡ q) × (x ≡ y)
long_behind form p q x y has is_p is_q same =
    long_frame_cancel p q x y (is_small form p has is_p) (is_small form q has is_q)
    (append_cancel_left (header_of form) (long_frame p ++ x) (long_frame q ++ y)
    (sym (front_text form p x has) ∙ same ∙ front_text form q y has))

cancel_behind : (form : ℕ) (p q x y : List ℕ) → IsSnapshot form p → IsSnapshot form q → front_of form p ++ x ≡ front_of form q ++ y
    → (p ≡ q) × (x ≡ y)
cancel_behind zero p q x y none_p none_q same = (none_p ∙ sym none_q, append_cancel_left header x y same)
cancel_behind (suc zero) p q x y is_p is_q same = long_behind 1 p q x y refl is_p is_q same
cancel_behind (suc (suc zero)) p q x y is_p is_q same = long_behind 2 p q x y refl is_p is_q same
cancel_behind (suc (suc (suc zero))) p q x y none_p none_q same = (none_p ∙ sym none_q, append_cancel_left old_header x y same)
cancel_behind (suc (suc (suc (suc more)))) p q x y is_p is_q same = absurd is_p

-- no front begins another
pub front_cancel : (v w : ℕ) (p q x y : List ℕ) → IsSnapshot v p → IsSnapshot w q → front_of v p ++ x ≡ front_of w q ++ y
    → (v ≡ w) × (p ≡ q) × (x ≡ y)
front_cancel v w p q x y is_p is_q same =
    let one = front_begins v p x in
    let other = front_begins w q y in
    let form : v ≡ w = one_header v w one.0 other.0 (is_known v p is_p) (is_known w q is_q) (sym one.1 ∙ same ∙ other.1) in
    let both = cancel_behind w p q x y (subst (λ n. IsSnapshot n p) form is_p) is_q
    (ap (λ n. front_of n p ++ x) (sym form) ∙ same) in
    (form, both.0, both.1)

-- what comes before the records is as long by the version alone
pub by_version : (form : ℕ) (snapshot behind : List ℕ) (most : ℕ) → IsSnapshot form snapshot → length (front_of form snapshot ++ behind) ≤ most
    → IsSnapshot (version_of form) snapshot × (length (front_of (version_of form) snapshot ++ behind) ≤ most)
by_version zero snapshot behind most is few = (is, few)
by_version (suc zero) snapshot behind most is few = (is, few)
by_version (suc (suc zero)) snapshot behind most is few = (is, few)
by_version (suc (suc (suc zero))) snapshot behind most is few = (is, few)
by_version (suc (suc (suc (suc more)))) snapshot behind most is few = absurd is
