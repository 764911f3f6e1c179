-- Which calls of a source or a sink in memory fail, and what a sink keeps of its calls.
use Rattle.std.specs.Prelude.{ℕ, ◌+◌, ◌-◌, ◌^◌, ◌==◌, min, Bool, List, map, Option}
use Rattle.std.specs.List.{list_any}
use Rattle.nqs_outside.specs.declared.memory.SinkCall.{SinkCall}

-- the number of the next call after so many, from 1 on; the greatest number is not passed
abbrev pub next : ℕ → ℕ
next calls = min (calls + 1) (2 ^ 64 - 1)

-- the number of the next call is one of these
abbrev pub is_due : List ℕ → ℕ → Bool
is_due fails calls = list_any (λ n. n == next calls) fails

-- what was offered in a call of a sink, and how many bytes of it were taken, where it didn't fail
pub record Offer : Type 0 where
  pub bytes : List ℕ
  pub taken : Option ℕ

-- what was offered in a call, made of its parts
abbrev pub offer : List ℕ → Option ℕ → Offer
offer bytes taken = record { bytes = bytes; taken = taken }

-- what was offered in each call, in order
abbrev pub offers_of : List SinkCall → List Offer
offers_of calls = map (λ call. offer call.offered call.taken) calls
