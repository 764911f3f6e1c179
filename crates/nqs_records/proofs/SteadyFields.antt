-- Single fields are read the same whatever follows.
use Rattle.std.proofs.Common.{◌≡◌, ℕ, ◌+◌, ◌<◌, ◌≤◌, Bool, true, false, cond, ◌==◌, nat_lt, List, [], ◌∷◌, ◌++◌, length, drop, take, refl, sym, ap, ◌∙◌, subst}
use Rattle.std.proofs.Common.{arith, length-append, Ok, Err}
use Rattle.std.proofs.lemmas.Bool.{ltb-true, ltb-false}
use Rattle.std.proofs.lemmas.List.{length-drop, take-append-le, drop-append-le}
use Rattle.std.proofs.lemmas.Bool.Decides.{nat_tests}
use Rattle.nqs_codec.specs.declared.fault.FieldFault.TheVariants as field
use Rattle.nqs_records.specs.Reading.{Reading, if_there}
use Rattle.nqs_records.specs.Fields.{or_short, or_fault, number_at, u8_at, u16_at, u32_at, u64_at, bool_of, bool_at, opt_at}
use Rattle.nqs_records.proofs.Steady.{Stays, IsSteady, TakesSome, then, there_steady}

-- ---- bytes behind a place

-- where a byte stands there is a place
pub some_behind : (bytes : List ℕ) (place b : ℕ) (rest : List ℕ) → drop place bytes ≡ b ∷ rest → place < length bytes
some_behind bytes place b rest is = omega (arith, length-drop place bytes, ap length is)

-- what follows stands behind
pub behind : (bytes more : List ℕ) (place b : ℕ) (rest : List ℕ) → drop place bytes ≡ b ∷ rest → drop place (bytes ++ more) ≡ b ∷ (rest ++ more)
behind bytes more place b rest is = drop-append-le place bytes more (omega (arith, some_behind bytes place b rest is)) ∙ ap (λ (l : List ℕ). l ++ more) is

pub same_test : (n m size : ℕ) → nat_lt n size ≡ false → nat_lt (n + m) size ≡ false
same_test n m size is = grind (arith, nat_tests)

-- ---- numbers

long_enough : (bytes : List ℕ) (place size : ℕ) → 0 < size → size ≤ length (drop place bytes) → place < length bytes
long_enough bytes place size some few = omega (arith, length-drop place bytes, some, few)

pub number_steady : (size : ℕ) (number : List ℕ → ℕ) → 0 < size → IsSteady (λ bytes place. or_short (number_at size number bytes place))
unfolding number_at
number_steady size number some bytes more place = by (nat_lt (length (drop place bytes)) size) refl
  where
    by : (t : Bool) → nat_lt (length (drop place bytes)) size ≡ t
        → Stays {A = ℕ × ℕ} bytes (or_short (cond t (Err (record { 0 = length bytes })) (Ok (number (take size (drop place bytes)), place + size))))
        (or_short (cond (nat_lt (length (drop place (bytes ++ more))) size) (Err (record { 0 = length (bytes ++ more) }))
        (Ok (number (take size (drop place (bytes ++ more))), place + size))))
    by true is = refl
    by false is =
        let enough = ltb-false (length (drop place bytes)) size is in
        let here = drop-append-le place bytes more (omega (arith, long_enough bytes place size some enough)) in
        let test =
        ap (λ (l : List ℕ). nat_lt (length l) size) here ∙ ap (λ (n : ℕ). nat_lt n size) (length-append (drop place bytes) more)
        ∙ same_test (length (drop place bytes)) (length more) size is in
        let value = ap (take size) here ∙ take-append-le size (drop place bytes) more enough in
        ap (λ (t : Bool). or_short {A = ℕ × ℕ} (cond t (Err (record { 0 = length (bytes ++ more) }))
        (Ok (number (take size (drop place (bytes ++ more))), place + size)))) test
        ∙ ap (λ (l : List ℕ). Ok (number l, place + size)) value

pub number_some : (size : ℕ) (number : List ℕ → ℕ) → 0 < size → TakesSome (λ bytes place. or_short (number_at size number bytes place))
unfolding number_at
number_some size number some bytes place v e = by (nat_lt (length (drop place bytes)) size) refl e
  where
    by : (t : Bool) → nat_lt (length (drop place bytes)) size ≡ t
        → or_short (cond t (Err (record { 0 = length bytes })) (Ok (number (take size (drop place bytes)), place + size))) ≡ Ok v → place < length bytes
    by true is f = cc
    by false is f = long_enough bytes place size some (ltb-false (length (drop place bytes)) size is)

pub u8_steady : IsSteady u8_at
unfolding u8_at
u8_steady = number_steady 1 _ (ltb-true 0 1 refl)

pub u16_steady : IsSteady u16_at
unfolding u16_at
u16_steady = number_steady 2 _ (ltb-true 0 2 refl)

pub u32_steady : IsSteady u32_at
unfolding u32_at
u32_steady = number_steady 4 _ (ltb-true 0 4 refl)

pub u64_steady : IsSteady u64_at
unfolding u64_at
u64_steady = number_steady 8 _ (ltb-true 0 8 refl)

pub u8_some : TakesSome u8_at
unfolding u8_at
u8_some = number_some 1 _ (ltb-true 0 1 refl)

pub u16_some : TakesSome u16_at
unfolding u16_at
u16_some = number_some 2 _ (ltb-true 0 2 refl)

pub u32_some : TakesSome u32_at
unfolding u32_at
u32_some = number_some 4 _ (ltb-true 0 4 refl)

pub u64_some : TakesSome u64_at
unfolding u64_at
u64_some = number_some 8 _ (ltb-true 0 8 refl)

-- ---- yes and no

pub bool_steady : IsSteady bool_at
unfolding bool_at bool_of
bool_steady bytes more place = by (drop place bytes) refl
  where
    told : (zero_it one_it : Bool) → place < length bytes
        → Stays {A = Bool × ℕ} bytes (or_fault (cond zero_it (Ok (false, place + 1)) (cond one_it (Ok (true, place + 1)) (Err (field.Bad place)))))
        (or_fault (cond zero_it (Ok (false, place + 1)) (cond one_it (Ok (true, place + 1)) (Err (field.Bad place)))))
    told true one_it some = refl
    told false true some = refl
    told false false some = (some, refl)

    by : (l : List ℕ) → drop place bytes ≡ l
        → Stays bytes (or_fault (bool_of (length bytes) place l)) (or_fault (bool_of (length (bytes ++ more)) place (drop place (bytes ++ more))))
    by [] is = refl
    by (b ∷ rest) is =
        subst (λ (l : List ℕ). Stays bytes (or_fault (bool_of (length bytes) place (b ∷ rest))) (or_fault (bool_of (length (bytes ++ more)) place l)))
        (sym (behind bytes more place b rest is))
        (told (b == 0) (b == 1) (some_behind bytes place b rest is))

pub opt_steady : {A : Type 0} (r : Reading A) → IsSteady r → IsSteady (opt_at r)
unfolding opt_at
opt_steady r one bytes more place =
    then bytes (bool_at bytes place) (bool_at (bytes ++ more) place) (λ tag. if_there tag.0 r bytes tag.1) (λ tag. if_there tag.0 r (bytes ++ more) tag.1)
    (bool_steady bytes more place)
    (λ tag is. there_steady tag.0 r one bytes more tag.1)
