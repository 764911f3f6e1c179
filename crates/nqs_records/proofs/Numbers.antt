-- Numbers: what is read at a place is what is taken from there.
use Rattle.std.proofs.Common.{◌≡◌, ℕ, ◌+◌, ◌<◌, ◌≤◌, ◌^◌, Bool, true, false, cond, nat_lt, List, [], ◌∷◌, length, take, drop, slice_index, refl, arith, Result}
use Rattle.std.proofs.Common.{Ok, Err}
use Rattle.std.proofs.lemmas.Bool.{ltb-true, ltb-false}
use Rattle.std.specs.Int.{w16, w32, w64, from_be_bytes}
use Rattle.nqs_codec.specs.Fields.{u8_field, u16_field, u32_field, u64_field}
use Rattle.nqs_codec.specs.Takes.{StandsNone, TakesNumber}
use Rattle.nqs_codec.specs.declared.fault.Short.{Short}
use Rattle.nqs_codec.proofs.Places.{part_fits, part_stands, none_stands}
use Rattle.nqs_codec.proofs.Numbers.{none_u16, none_u32, none_u64, stands_u16, stands_u32, stands_u64}
use Rattle.nqs_codec.proofs.ReadBack.{u8_back, u16_back, u32_back, u64_back}
use Rattle.nqs_records.specs.Fields.{number_at, u8_at, u16_at, u32_at, u64_at, or_short}
use Rattle.nqs_records.specs.Changes.{AreBytes}
use Rattle.nqs_records.proofs.IsRead.{IsRead, short_read, short_same}

module _ (size limit : ℕ) (number : List ℕ → ℕ) (field : ℕ → List ℕ)
    (none : (bytes : List ℕ) (place : ℕ) → length (drop place bytes) < size → StandsNone (λ n. n < limit) field bytes place)
    (some : (bytes : List ℕ) (place : ℕ) → AreBytes bytes → size ≤ length (drop place bytes)
    → TakesNumber limit field bytes place (Ok (number (take size (drop place bytes)), place + size))) where
  takes : (bytes : List ℕ) (place : ℕ) → AreBytes bytes → TakesNumber limit field bytes place (number_at size number bytes place)
  unfolding number_at
  takes bytes place fits = by (nat_lt (length (drop place bytes)) size) refl
    where
      by : (short : Bool) → nat_lt (length (drop place bytes)) size ≡ short
          → TakesNumber limit field bytes place (cond short (Err (record { 0 = length bytes })) (Ok (number (take size (drop place bytes)), place + size)))
      by true is = (refl, none bytes place (ltb-true (length (drop place bytes)) size is))
      by false is = some bytes place fits (ltb-false (length (drop place bytes)) size is)

one_byte : (l : List ℕ) → 1 ≤ length l → slice_index (take 1 l) 0 ∷ [] ≡ take 1 l
one_byte [] long = absurd (omega (arith, long))
one_byte (b ∷ bs) long = refl

none_u8 : (bytes : List ℕ) (place : ℕ) → length (drop place bytes) < 1 → StandsNone (λ n. n < 2 ^ 8) u8_field bytes place
unfolding u8_field
none_u8 bytes place short = none_stands (λ n. n < 2 ^ 8) u8_field bytes place (λ value small. short)

some_u8 : (bytes : List ℕ) (place : ℕ) → AreBytes bytes → 1 ≤ length (drop place bytes)
    → TakesNumber (2 ^ 8) u8_field bytes place (Ok (slice_index (take 1 (drop place bytes)) 0, place + 1))
unfolding u8_field
some_u8 bytes place fits long = (part_fits bytes place 1 fits 0, part_stands bytes place 1 _ (one_byte (drop place bytes) long) long)

some_u16 : (bytes : List ℕ) (place : ℕ) → AreBytes bytes → 2 ≤ length (drop place bytes)
    → TakesNumber (2 ^ 16) u16_field bytes place (Ok (from_be_bytes w16 (take 2 (drop place bytes)), place + 2))
some_u16 bytes place fits long =
    let f = part_fits bytes place 2 fits in
    (omega (arith, f 0, f 1), stands_u16 bytes place _ _ fits refl long refl)

some_u32 : (bytes : List ℕ) (place : ℕ) → AreBytes bytes → 4 ≤ length (drop place bytes)
    → TakesNumber (2 ^ 32) u32_field bytes place (Ok (from_be_bytes w32 (take 4 (drop place bytes)), place + 4))
some_u32 bytes place fits long =
    let f = part_fits bytes place 4 fits in
    (omega (arith, f 0, f 1, f 2, f 3), stands_u32 bytes place _ _ fits refl long refl)

some_u64 : (bytes : List ℕ) (place : ℕ) → AreBytes bytes → 8 ≤ length (drop place bytes)
    → TakesNumber (2 ^ 64) u64_field bytes place (Ok (from_be_bytes w64 (take 8 (drop place bytes)), place + 8))
some_u64 bytes place fits long =
    let f = part_fits bytes place 8 fits in
    (omega (arith, f 0, f 1, f 2, f 3, f 4, f 5, f 6, f 7), stands_u64 bytes place _ _ fits refl long refl)

takes_u8 : (bytes : List ℕ) (place : ℕ) → AreBytes bytes → TakesNumber (2 ^ 8) u8_field bytes place (number_at 1 (λ part. slice_index part 0) bytes place)
takes_u8 = takes 1 (2 ^ 8) (λ part. slice_index part 0) u8_field none_u8 some_u8

takes_u16 : (bytes : List ℕ) (place : ℕ) → AreBytes bytes → TakesNumber (2 ^ 16) u16_field bytes place (number_at 2 (from_be_bytes w16) bytes place)
takes_u16 = takes 2 (2 ^ 16) (from_be_bytes w16) u16_field none_u16 some_u16

takes_u32 : (bytes : List ℕ) (place : ℕ) → AreBytes bytes → TakesNumber (2 ^ 32) u32_field bytes place (number_at 4 (from_be_bytes w32) bytes place)
takes_u32 = takes 4 (2 ^ 32) (from_be_bytes w32) u32_field none_u32 some_u32

takes_u64 : (bytes : List ℕ) (place : ℕ) → AreBytes bytes → TakesNumber (2 ^ 64) u64_field bytes place (number_at 8 (from_be_bytes w64) bytes place)
takes_u64 = takes 8 (2 ^ 64) (from_be_bytes w64) u64_field none_u64 some_u64

pub u8_read : IsRead (λ n. n < 2 ^ 8) u8_field u8_at
unfolding u8_at
u8_read = short_read u8_back (number_at 1 (λ part. slice_index part 0)) takes_u8 (λ bytes place value next took. took)

pub u16_read : IsRead (λ n. n < 2 ^ 16) u16_field u16_at
unfolding u16_at
u16_read = short_read u16_back (number_at 2 (from_be_bytes w16)) takes_u16 (λ bytes place value next took. took)

pub u32_read : IsRead (λ n. n < 2 ^ 32) u32_field u32_at
unfolding u32_at
u32_read = short_read u32_back (number_at 4 (from_be_bytes w32)) takes_u32 (λ bytes place value next took. took)

pub u64_read : IsRead (λ n. n < 2 ^ 64) u64_field u64_at
unfolding u64_at
u64_read = short_read u64_back (number_at 8 (from_be_bytes w64)) takes_u64 (λ bytes place value next took. took)

-- ---- what the calls answer

pub u8_same : (bytes : List ℕ) (place : ℕ) (answer : Result (ℕ × ℕ) Short) → AreBytes bytes → TakesNumber (2 ^ 8) u8_field bytes place answer
    → or_short answer ≡ u8_at bytes place
unfolding u8_at
u8_same = short_same u8_back (number_at 1 (λ part. slice_index part 0)) takes_u8 (λ bytes place value next took. took)

pub u16_same : (bytes : List ℕ) (place : ℕ) (answer : Result (ℕ × ℕ) Short) → AreBytes bytes → TakesNumber (2 ^ 16) u16_field bytes place answer
    → or_short answer ≡ u16_at bytes place
unfolding u16_at
u16_same = short_same u16_back (number_at 2 (from_be_bytes w16)) takes_u16 (λ bytes place value next took. took)

pub u32_same : (bytes : List ℕ) (place : ℕ) (answer : Result (ℕ × ℕ) Short) → AreBytes bytes → TakesNumber (2 ^ 32) u32_field bytes place answer
    → or_short answer ≡ u32_at bytes place
unfolding u32_at
u32_same = short_same u32_back (number_at 4 (from_be_bytes w32)) takes_u32 (λ bytes place value next took. took)

pub u64_same : (bytes : List ℕ) (place : ℕ) (answer : Result (ℕ × ℕ) Short) → AreBytes bytes → TakesNumber (2 ^ 64) u64_field bytes place answer
    → or_short answer ≡ u64_at bytes place
unfolding u64_at
u64_same = short_same u64_back (number_at 8 (from_be_bytes w64)) takes_u64 (λ bytes place value next took. took)
