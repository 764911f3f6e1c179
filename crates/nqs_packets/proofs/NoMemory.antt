-- Readings that take no memory.
use Rattle.std.proofs.Common.{◌≡◌, ℕ, Bool, true, false, List, Result, Ok, Err, refl, sym, ap, ◌∙◌}
use Rattle.std.specs.Prelude.{if◌then◌else◌}
use Rattle.nqs_codec.specs.declared.fault.Short.{Short}
use Rattle.nqs_records.specs.declared.fault.RecordFault.{RecordFault}
use Rattle.nqs_records.specs.declared.fault.RecordFault.TheVariants.{Short as short_at, Kind, BadField, Trailing, Memory}
use Rattle.nqs_records.specs.Reading.{◌>>=◌, Read, within, is_memory}
use Rattle.nqs_records.specs.Fields.{or_short, number_at, u32_at}

tested : (test : ℕ → Bool) (place : ℕ) (a : ℕ × ℕ) (t : Bool) → is_memory (if t then Ok a else Err (BadField place)) ≡ false
tested test place a true = refl
tested test place a false = refl

by_number : (test : ℕ → Bool) (place : ℕ) (n : Result (ℕ × ℕ) Short) → is_memory (do
  a ← or_short n
  if test a.0 then Ok a else Err (BadField place)) ≡ false
by_number test place (Ok a) = tested test place a (test a.0)
by_number test place (Err short) = refl

-- a number of four bytes that passes a test
tested_takes_none : (test : ℕ → Bool) (bytes : List ℕ) (place : ℕ) → is_memory (within test u32_at bytes place) ≡ false
unfolding u32_at
tested_takes_none test bytes place = by_number test place (number_at 4 _ bytes place)

either : (n : Result (ℕ × ℕ) Short) → is_memory (or_short n) ≡ false
either (Ok a) = refl
either (Err short) = refl

-- a number of four bytes
takes_none : (bytes : List ℕ) (place : ℕ) → is_memory (u32_at bytes place) ≡ false
unfolding u32_at
takes_none bytes place = either (number_at 4 _ bytes place)

wants_none : (read : Read (ℕ × ℕ)) (A : Type 0) (fault : RecordFault) (answer : Read A) (X : Type 0) → is_memory read ≡ false → Err fault ≡ read
    → answer ≡ Err fault → is_memory answer ≡ true → X
wants_none read A fault answer X none is same wants =
    let other : is_memory {A = ℕ × ℕ} (Err fault) ≡ false = ap (λ (r : Read (ℕ × ℕ)). is_memory r) is ∙ none in
    let one : is_memory {A = A} (Err fault) ≡ true = ap (λ (r : Read A). is_memory r) (sym same) ∙ wants in
    by fault other one
  where
    by : (f : RecordFault) → is_memory {A = ℕ × ℕ} (Err f) ≡ false → is_memory {A = A} (Err f) ≡ true → X
    by (short_at end) none told = absurd cc
    by (Kind place) none told = absurd cc
    by (BadField place) none told = absurd cc
    by (Trailing place) none told = absurd cc
    by (Memory memory) none told = absurd cc

-- so no fault of such a number is want of memory
pub number_wants_none : (bytes : List ℕ) (place : ℕ) (A : Type 0) (fault : RecordFault) (answer : Read A) (X : Type 0) → Err fault ≡ u32_at bytes place
    → answer ≡ Err fault → is_memory answer ≡ true → X
number_wants_none bytes place A fault answer X = wants_none (u32_at bytes place) A fault answer X (takes_none bytes place)

pub tested_wants_none : (test : ℕ → Bool) (bytes : List ℕ) (place : ℕ) (A : Type 0) (fault : RecordFault) (answer : Read A) (X : Type 0)
    → Err fault ≡ within test u32_at bytes place → answer ≡ Err fault → is_memory answer ≡ true → X
tested_wants_none test bytes place A fault answer X = wants_none (within test u32_at bytes place) A fault answer X (tested_takes_none test bytes place)
