-- Fields are refused as fields: short at the end of the bytes, or bad.
use Rattle.std.proofs.Common.{◌≡◌, ℕ, zero, suc, ◌+◌, Bool, true, false, cond, ◌&&◌, ◌==◌, nat_lt, nat_le, List, [], ◌∷◌, length, drop, take, Option, Some}
use Rattle.std.proofs.Common.{None, refl, Result, Ok, Err}
use Rattle.std.specs.Prelude.{⊤}
use Rattle.nqs_base.specs.Name.{allowed_at}
use Rattle.nqs_base.specs.Path.{path_allowed_at, has_parent}
use Rattle.nqs_codec.specs.declared.fault.FieldFault.{FieldFault}
use Rattle.nqs_codec.specs.declared.fault.FieldFault.TheVariants as field
use Rattle.nqs_records.specs.declared.fault.RecordFault.{RecordFault}
use Rattle.nqs_records.specs.declared.fault.RecordFault.TheVariants as fault
use Rattle.nqs_records.specs.Reading.{◌>>=◌, Read, Reading, mapped, both, within, repeated, counted, if_there}
use Rattle.nqs_records.specs.Fields.{or_short, or_fault, number_at, u8_at, u16_at, u32_at, u64_at, bool_of, bool_at, opt_at, short_of, first_bad, named, pathed}
use Rattle.nqs_records.specs.Fields.{name_of, path_of, name_at, path_at}
use Rattle.nqs_records.specs.Parts.{host_at, seq_at, id_at, job_at, carried_at}

-- what is wrong with a field
abbrev pub IsOfField : List ℕ → RecordFault → Type 0
IsOfField bytes (fault.Short end) = end ≡ length bytes
IsOfField bytes (fault.BadField place) = ⊤
IsOfField bytes _ = ⊥

-- an answer that is right, or wrong as a field is
abbrev pub IsField : {A : Type 0} → List ℕ → Read A → Type 0
IsField {A} bytes (Ok a) = ⊤
IsField {A} bytes (Err e) = IsOfField bytes e

abbrev pub AreFields : {A : Type 0} → Reading A → Type 0
AreFields {A} r = (bytes : List ℕ) (place : ℕ) → IsField bytes (r bytes place)

pub then : {A B : Type 0} (bytes : List ℕ) (r : Read A) (f : A → Read B) → IsField bytes r → ((a : A) → IsField bytes (f a)) → IsField bytes (r >>= f)
then bytes (Ok a) f one other = other a
then bytes (Err e) f one other = one

pub mapped_fields : {A B : Type 0} (make : A → B) (r : Reading A) → AreFields r → AreFields (mapped make r)
mapped_fields make r one bytes place = then bytes (r bytes place) (λ a. Ok (make a.0, a.1)) (one bytes place) (λ a. tt)

pub both_fields : {A B : Type 0} (ra : Reading A) (rb : A → Reading B) → AreFields ra → ((a : A) → AreFields (rb a)) → AreFields (both ra rb)
both_fields ra rb one other bytes place =
    then bytes (ra bytes place) (λ a. rb a.0 bytes a.1 >>= (λ b. Ok ((a.0, b.0), b.1))) (one bytes place)
    (λ a. then bytes (rb a.0 bytes a.1) (λ b. Ok ((a.0, b.0), b.1)) (other a.0 bytes a.1) (λ b. tt))

passes_or_bad : {A : Type 0} (bytes : List ℕ) (place : ℕ) (t : Bool) (a : A) → IsField bytes (cond t (Ok a) (Err (fault.BadField place)))
passes_or_bad bytes place true a = tt
passes_or_bad bytes place false a = tt

pub within_fields : {A : Type 0} (test : A → Bool) (r : Reading A) → AreFields r → AreFields (within test r)
within_fields test r one bytes place = then bytes (r bytes place) (λ a. cond (test a.0) (Ok a) (Err (fault.BadField place))) (one bytes place)
    (λ a. passes_or_bad bytes place (test a.0) a)

repeated_fields : {A : Type 0} (n : ℕ) (r : Reading A) → AreFields r → AreFields (repeated n r)
unfolding repeated
repeated_fields zero r one bytes place = tt
repeated_fields (suc n) r one bytes place =
    then bytes (r bytes place) (λ x. repeated n r bytes x.1 >>= (λ xs. Ok (x.0 ∷ xs.0, xs.1))) (one bytes place)
    (λ x. then bytes (repeated n r bytes x.1) (λ xs. Ok (x.0 ∷ xs.0, xs.1)) (repeated_fields n r one bytes x.1) (λ xs. tt))

pub counted_fields : {A : Type 0} (count : Reading ℕ) (r : Reading A) → AreFields count → AreFields r → AreFields (counted count r)
counted_fields count r one other bytes place = then bytes (count bytes place) (λ n. repeated n.0 r bytes n.1) (one bytes place)
    (λ n. repeated_fields n.0 r other bytes n.1)

-- ---- single fields

short_or : {A : Type 0} (bytes : List ℕ) (t : Bool) (a : A) → IsField bytes (or_short (cond t (Err (record { 0 = length bytes })) (Ok a)))
short_or bytes true a = refl
short_or bytes false a = tt

pub number_fields : (size : ℕ) (number : List ℕ → ℕ) → AreFields (λ bytes place. or_short (number_at size number bytes place))
unfolding number_at
number_fields size number bytes place = short_or bytes (nat_lt (length (drop place bytes)) size) (number (take size (drop place bytes)), place + size)

pub u8_fields : AreFields u8_at
unfolding u8_at
u8_fields = number_fields 1 _

pub u16_fields : AreFields u16_at
unfolding u16_at
u16_fields = number_fields 2 _

pub u32_fields : AreFields u32_at
unfolding u32_at
u32_fields = number_fields 4 _

pub u64_fields : AreFields u64_at
unfolding u64_at
u64_fields = number_fields 8 _

pub bool_fields : AreFields bool_at
unfolding bool_at bool_of
bool_fields bytes place = by (drop place bytes)
  where
    told : (zero_it one_it : Bool) → IsField {A = Bool × ℕ} bytes (or_fault
        (cond zero_it (Ok (false, place + 1)) (cond one_it (Ok (true, place + 1)) (Err (field.Bad place)))))
    told true one_it = tt
    told false true = tt
    told false false = tt

    by : (l : List ℕ) → IsField bytes (or_fault (bool_of (length bytes) place l))
    by [] = refl
    by (b ∷ rest) = told (b == 0) (b == 1)

-- what is wrong with bytes behind a byte of length
abbrev IsShortly : {A : Type 0} → List ℕ → Result A FieldFault → Type 0
IsShortly {A} bytes r = IsField bytes (or_fault r)

short_fields : (most : ℕ) (bytes : List ℕ) (place : ℕ) (l : List ℕ) → IsShortly bytes (short_of most (length bytes) place l)
unfolding short_of
short_fields most bytes place [] = refl
short_fields most bytes place (count ∷ rest) = told (nat_le 1 count && nat_le count most) (nat_lt (length rest) count)
  where
    told : (good short : Bool) → IsShortly bytes (cond good (cond short (Err (field.Short (length bytes))) (Ok (take count rest))) (Err (field.Bad place)))
    told false short = tt
    told true true = refl
    told true false = tt

after_short : {A B : Type 0} (bytes : List ℕ) (r : Result A FieldFault) (f : A → Result B FieldFault) → IsShortly bytes r → ((a : A) → IsShortly bytes (f a))
    → IsShortly bytes (r >>= f)
after_short bytes (Ok a) f one other = other a
after_short bytes (Err e) f one other = one

named_fields : (bytes : List ℕ) (place : ℕ) (value : List ℕ) (bad : Option ℕ) → IsShortly bytes (named place value bad)
named_fields bytes place value None = tt
named_fields bytes place value (Some k) = tt

pub name_fields : AreFields name_at
unfolding name_at name_of
name_fields bytes place =
    after_short bytes (short_of 15 (length bytes) place (drop place bytes)) (λ value. named place value (first_bad allowed_at value))
    (short_fields 15 bytes place (drop place bytes))
    (λ value. named_fields bytes place value (first_bad allowed_at value))

pathed_fields : (bytes : List ℕ) (place : ℕ) (value : List ℕ) (bad : Option ℕ) → IsShortly bytes (pathed place value bad)
pathed_fields bytes place value None = told (has_parent value)
  where
    told : (t : Bool) → IsShortly bytes (cond t (Err (field.Bad place)) (named place value None))
    told true = tt
    told false = tt
pathed_fields bytes place value (Some k) = tt

pub path_fields : AreFields path_at
unfolding path_at path_of
path_fields bytes place =
    after_short bytes (short_of 255 (length bytes) place (drop place bytes)) (λ value. pathed place value (first_bad path_allowed_at value))
    (short_fields 255 bytes place (drop place bytes))
    (λ value. pathed_fields bytes place value (first_bad path_allowed_at value))

opt_fields : {A : Type 0} (r : Reading A) → AreFields r → AreFields (opt_at r)
unfolding opt_at
opt_fields {A} r one bytes place = then bytes (bool_at bytes place) (λ tag. if_there tag.0 r bytes tag.1) (bool_fields bytes place) (λ tag. by tag.0 tag.1)
  where
    by : (t : Bool) (next : ℕ) → IsField bytes (if_there t r bytes next)
    by true next = mapped_fields (λ a. Some a) r one bytes next
    by false next = tt

-- ---- what records are made of

pub host_fields : AreFields host_at
unfolding host_at
host_fields = mapped_fields _ _ (within_fields _ _ u8_fields)

pub id_fields : AreFields id_at
unfolding id_at seq_at
id_fields = mapped_fields _ _ (both_fields _ _ (within_fields _ _ u32_fields) (λ _. host_fields))

job_fields : AreFields job_at
unfolding job_at
job_fields =
    mapped_fields _ _
    (both_fields _ _ name_fields λ _. both_fields _ _ name_fields λ _. both_fields _ _
    (within_fields _ _ u8_fields) λ _. both_fields _ _ u64_fields λ _. both_fields _ _ bool_fields λ _.
    both_fields _ _ (opt_fields _ u64_fields) λ _. both_fields _ _ (opt_fields _ u64_fields) λ _. both_fields _ _ (opt_fields _ name_fields) λ _.
    both_fields _ _ path_fields λ _. both_fields _ _ path_fields λ _. bool_fields)

pub carried_fields : AreFields carried_at
unfolding carried_at
carried_fields =
    mapped_fields _ _
    (both_fields _ _ id_fields λ _. both_fields _ _ job_fields λ _. both_fields _ _ (within_fields _ _ u16_fields) λ starts.
    both_fields _ _ (within_fields _ _ u16_fields) λ _. within_fields _ _ u8_fields)
