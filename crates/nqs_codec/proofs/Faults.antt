-- At one place of a list there is one fault.
use Rattle.std.proofs.Common.{◌≡◌, ℕ, ◌+◌, ◌<◌, ◌≤◌, ◌⊎◌, inl, inr, Bool, true, false, IsTrue, List, [], ◌∷◌, length, drop, refl, sym, ap, ◌∙◌, subst, arith}
use Rattle.std.proofs.Common.{length-append, Err, slice_index, nat_lt}
use Rattle.std.proofs.lemmas.Bool.Decides.{nat_tests}
use Rattle.nqs_base.specs.Name.{IsFirstBad, allowed_at}
use Rattle.nqs_base.specs.Path.{IsFirstBadOfPath, path_allowed_at, PathAllowedBelow}
use Rattle.nqs_base.proofs.Plain.{refuted}
use Rattle.nqs_codec.specs.Fields.{short_field}
use Rattle.nqs_codec.specs.Takes.{TakesBool, TakesName, TakesPath, IsOther, IsCutShort, IsBadLength, IsShortFault, IsShortAt, HasBadByte, HasParentAt}
use Rattle.nqs_codec.specs.declared.fault.FieldFault.{FieldFault}
use Rattle.nqs_codec.specs.declared.fault.FieldFault.TheVariants.{Short, Bad}
use Rattle.nqs_codec.proofs.One.{one_short}

same_end : (e f n : ℕ) → e ≡ n → f ≡ n → Short e ≡ Short f
same_end e f n is was = ap (λ (k : ℕ). Short k) (is ∙ sym was)

same_place : (e f n : ℕ) → e ≡ n → f ≡ n → Bad e ≡ Bad f
same_place e f n is was = ap (λ (k : ℕ). Bad k) (is ∙ sym was)

pub bool_fault : (bytes : List ℕ) (place : ℕ) (e f : FieldFault) → TakesBool bytes place (Err e) → TakesBool bytes place (Err f) → e ≡ f
bool_fault bytes place (Short e) (Short f) a b = same_end e f (length bytes) a.0 b.0
bool_fault bytes place (Short e) (Bad f) a b = absurd (subst IsOther a.1 b.1)
bool_fault bytes place (Bad e) (Short f) a b = absurd (subst IsOther b.1 a.1)
bool_fault bytes place (Bad e) (Bad f) a b = same_place e f place a.0 b.0

-- ---- bytes behind one byte of length

cut_or_bad : (most : ℕ) (l : List ℕ) → IsCutShort most l → IsBadLength most l → ⊥
cut_or_bad most [] cut bad = bad
cut_or_bad most (n ∷ rest) cut (inl none) = omega (arith, none, cut.0)
cut_or_bad most (n ∷ rest) cut (inr long) = omega (arith, long, cut.1)

cut_or_there : (most : ℕ) (bytes : List ℕ) (place : ℕ) (value : List ℕ) → IsCutShort most (drop place bytes) → IsShortAt most bytes place value → ⊥
unfolding short_field
cut_or_there most bytes place value cut there =
    let here = subst (IsCutShort most) there.stands.text cut in
    omega (arith, here.2, length-append value (drop (place + 1 + length value) bytes))

bad_length : (most n : ℕ) → 0 < n → n ≤ most → (n ≡ 0) ⊎ (most < n) → ⊥
bad_length most n some few (inl none) = omega (arith, none, some)
bad_length most n some few (inr long) = omega (arith, long, few)

bad_or_there : (most : ℕ) (bytes : List ℕ) (place : ℕ) (value : List ℕ) → IsBadLength most (drop place bytes) → IsShortAt most bytes place value → ⊥
unfolding short_field
bad_or_there most bytes place value bad there = bad_length most (length value) there.some there.few (subst (IsBadLength most) there.stands.text bad)

same_there : (most : ℕ) (bytes : List ℕ) (place : ℕ) (value other : List ℕ) → IsShortAt most bytes place value → IsShortAt most bytes place other
    → value ≡ other
same_there most bytes place value other there here = (one_short value other (drop (place + 1 + length value) bytes) (drop (place + 1 + length other) bytes)
    (sym there.stands.text ∙ here.stands.text)).0

short_fault : (most : ℕ) (bytes : List ℕ) (place : ℕ) (e f : FieldFault) → IsShortFault most bytes place e → IsShortFault most bytes place f → e ≡ f
short_fault most bytes place (Short e) (Short f) a b = same_end e f (length bytes) a.0 b.0
short_fault most bytes place (Short e) (Bad f) a b = absurd (cut_or_bad most (drop place bytes) a.1 b.1)
short_fault most bytes place (Bad e) (Short f) a b = absurd (cut_or_bad most (drop place bytes) b.1 a.1)
short_fault most bytes place (Bad e) (Bad f) a b = same_place e f place a.0 b.0

first_same : (allowed : ℕ → ℕ → Bool) (value : List ℕ) (i j : ℕ) → ((k : ℕ) → k < i → IsTrue (allowed k (slice_index value k)))
    → ((k : ℕ) → k < j → IsTrue (allowed k (slice_index value k))) → allowed i (slice_index value i) ≡ false → allowed j (slice_index value j) ≡ false → i ≡ j
first_same allowed value i j before_i before_j bad_i bad_j = by (nat_lt i j) (nat_lt j i) refl refl
  where
    by : (less more : Bool) → nat_lt i j ≡ less → nat_lt j i ≡ more → i ≡ j
    by true more is was = absurd (refuted (allowed i (slice_index value i)) (before_j i (grind (arith, nat_tests))) bad_i)
    by false true is was = absurd (refuted (allowed j (slice_index value j)) (before_i j (grind (arith, nat_tests))) bad_j)
    by false false is was = grind (arith, nat_tests)

bad_byte_same : (IsFirst : List ℕ → ℕ → Type 0) → ((value : List ℕ) (i j : ℕ) → IsFirst value i → IsFirst value j → i ≡ j)
    → (most : ℕ) (bytes : List ℕ) (place e f : ℕ) → HasBadByte IsFirst most bytes place e → HasBadByte IsFirst most bytes place f → Bad e ≡ Bad f
bad_byte_same IsFirst one most bytes place e f a b =
    let same = same_there most bytes place b.value a.value b.is_there a.is_there in
    let offset = one a.value a.offset b.offset a.first (subst (λ (l : List ℕ). IsFirst l b.offset) same b.first) in
    ap (λ (k : ℕ). Bad k) (a.is_place ∙ ap (λ (k : ℕ). place + 1 + k) offset ∙ sym b.is_place)

name_first : (value : List ℕ) (i j : ℕ) → IsFirstBad value i → IsFirstBad value j → i ≡ j
name_first value i j a b = first_same allowed_at value i j a.before b.before a.bad b.bad

path_first : (value : List ℕ) (i j : ℕ) → IsFirstBadOfPath value i → IsFirstBadOfPath value j → i ≡ j
path_first value i j a b = first_same path_allowed_at value i j a.before b.before a.bad b.bad

pub name_fault : (bytes : List ℕ) (place : ℕ) (e f : FieldFault) → TakesName bytes place (Err e) → TakesName bytes place (Err f) → e ≡ f
name_fault bytes place (Short e) (Short f) a b = short_fault 15 bytes place (Short e) (Short f) a b
name_fault bytes place (Short e) (Bad f) a (inl b) = short_fault 15 bytes place (Short e) (Bad f) a b
name_fault bytes place (Short e) (Bad f) a (inr b) = absurd (cut_or_there 15 bytes place b.value a.1 b.is_there)
name_fault bytes place (Bad e) (Short f) (inl a) b = short_fault 15 bytes place (Bad e) (Short f) a b
name_fault bytes place (Bad e) (Short f) (inr a) b = absurd (cut_or_there 15 bytes place a.value b.1 a.is_there)
name_fault bytes place (Bad e) (Bad f) (inl a) (inl b) = same_place e f place a.0 b.0
name_fault bytes place (Bad e) (Bad f) (inl a) (inr b) = absurd (bad_or_there 15 bytes place b.value a.1 b.is_there)
name_fault bytes place (Bad e) (Bad f) (inr a) (inl b) = absurd (bad_or_there 15 bytes place a.value b.1 a.is_there)
name_fault bytes place (Bad e) (Bad f) (inr a) (inr b) = bad_byte_same IsFirstBad name_first 15 bytes place e f a b

byte_or_parent : (bytes : List ℕ) (place e f : ℕ) → HasBadByte IsFirstBadOfPath 255 bytes place e → HasParentAt bytes place f → ⊥
byte_or_parent bytes place e f a b =
    let same = same_there 255 bytes place b.value a.value b.is_there a.is_there in
    let allowed = subst (λ (l : List ℕ). PathAllowedBelow l (length l)) same b.allowed in
    refuted (path_allowed_at a.offset (slice_index a.value a.offset)) (allowed a.offset a.first.inside) a.first.bad

-- a path whose length and bytes are there has a byte that is not allowed, or a component `..`
there_fault : (bytes : List ℕ) (place e f : ℕ) → HasBadByte IsFirstBadOfPath 255 bytes place e ⊎ HasParentAt bytes place e
    → HasBadByte IsFirstBadOfPath 255 bytes place f ⊎ HasParentAt bytes place f → Bad e ≡ Bad f
there_fault bytes place e f (inl a) (inl b) = bad_byte_same IsFirstBadOfPath path_first 255 bytes place e f a b
there_fault bytes place e f (inl a) (inr b) = absurd (byte_or_parent bytes place e f a b)
there_fault bytes place e f (inr a) (inl b) = absurd (byte_or_parent bytes place f e b a)
there_fault bytes place e f (inr a) (inr b) = same_place e f place a.is_place b.is_place

value_there : (bytes : List ℕ) (place e : ℕ) → HasBadByte IsFirstBadOfPath 255 bytes place e ⊎ HasParentAt bytes place e
    → (value : List ℕ) × IsShortAt 255 bytes place value
value_there bytes place e (inl a) = (a.value, a.is_there)
value_there bytes place e (inr a) = (a.value, a.is_there)

pub path_fault : (bytes : List ℕ) (place : ℕ) (e f : FieldFault) → TakesPath bytes place (Err e) → TakesPath bytes place (Err f) → e ≡ f
path_fault bytes place (Short e) (Short f) a b = short_fault 255 bytes place (Short e) (Short f) a b
path_fault bytes place (Short e) (Bad f) a (inl b) = short_fault 255 bytes place (Short e) (Bad f) a b
path_fault bytes place (Short e) (Bad f) a (inr b) = let there = value_there bytes place f b in absurd (cut_or_there 255 bytes place there.0 a.1 there.1)
path_fault bytes place (Bad e) (Short f) (inl a) b = short_fault 255 bytes place (Bad e) (Short f) a b
path_fault bytes place (Bad e) (Short f) (inr a) b = let there = value_there bytes place e a in absurd (cut_or_there 255 bytes place there.0 b.1 there.1)
path_fault bytes place (Bad e) (Bad f) (inl a) (inl b) = same_place e f place a.0 b.0
path_fault bytes place (Bad e) (Bad f) (inl a) (inr b) = let there = value_there bytes place f b in absurd (bad_or_there 255 bytes place there.0 a.1 there.1)
path_fault bytes place (Bad e) (Bad f) (inr a) (inl b) = let there = value_there bytes place e a in absurd (bad_or_there 255 bytes place there.0 b.1 there.1)
path_fault bytes place (Bad e) (Bad f) (inr a) (inr b) = there_fault bytes place e f a b
