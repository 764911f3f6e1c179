-- Readings: a value that stands at a place of bytes and the place behind it, or the first fault
-- from the left.
use Rattle.std.specs.Prelude.{◌≡◌, ℕ, zero, suc, Bool, true, false, nat_lt, List, [], ◌∷◌, length, Option, Some, None, if◌then◌else◌, Ok, Err}
use Rattle.std.specs.declared.result.Result.{Result}
pub use Rattle.nqs_base.specs.Reads.{◌>>=◌}
use Rattle.nqs_records.specs.declared.fault.RecordFault.{RecordFault}
use Rattle.nqs_records.specs.declared.fault.RecordFault.TheVariants.{BadField, Trailing, Memory}

-- a value, or a fault
abbrev pub Read : Type 0 → Type 0
Read A = Result A RecordFault

-- what stands at a place of bytes, with the place behind it
abbrev pub Reading : Type 0 → Type 0
Reading A = List ℕ → ℕ → Read (A × ℕ)

-- what is made of a value
abbrev pub mapped : {A B : Type 0} → (A → B) → Reading A → Reading B
mapped {A} {B} make reading bytes place = do
  a ← reading bytes place
  Ok (make a.0, a.1)

-- a value, and behind it one whose limits it may set
abbrev pub both : {A B : Type 0} → Reading A → (A → Reading B) → Reading (A × B)
both {A} {B} first second bytes place = do
  a ← first bytes place
  b ← second a.0 bytes a.1
  Ok ((a.0, b.0), b.1)

-- a value that passes a test; where it fails its first byte is at fault
abbrev pub within : {A : Type 0} → (A → Bool) → Reading A → Reading A
within {A} test reading bytes place = do
  a ← reading bytes place
  if test a.0 then Ok a else Err (BadField place)

-- a value, and nothing behind it
abbrev pub alone : {A : Type 0} → Reading A → List ℕ → ℕ → Read A
alone {A} reading bytes place = do
  a ← reading bytes place
  if nat_lt a.1 (length bytes) then Err (Trailing a.1) else Ok a.0

-- so many values
unfoldable pub repeated : {A : Type 0} → ℕ → Reading A → Reading (List A)
repeated {A} zero item bytes place = Ok ([], place)
repeated {A} (suc n) item bytes place = do
  x ← item bytes place
  xs ← repeated n item bytes x.1
  Ok (x.0 ∷ xs.0, xs.1)

-- a count, and as many values
abbrev pub counted : {A : Type 0} → Reading ℕ → Reading A → Reading (List A)
counted {A} count item bytes place = do
  n ← count bytes place
  repeated n.0 item bytes n.1

-- a value where there is one
abbrev pub if_there : {A : Type 0} → Bool → Reading A → Reading (Option A)
if_there {A} true item bytes place = mapped (λ a. Some a) item bytes place
if_there {A} false item bytes place = Ok (None, place)

-- whether memory was wanting
abbrev pub is_memory : {A : Type 0} → Read A → Bool
is_memory {A} (Err (Memory memory)) = true
is_memory {A} _ = false

-- what is read, unless memory is wanting
abbrev pub Answers : {A : Type 0} → Read A → Read A → Type 0
Answers {A} read answer = is_memory answer ≡ false → answer ≡ read

-- the one at that place of the list, from 0
abbrev pub nth_of : {A : Type 0} → List A → ℕ → A → A
nth_of {A} [] n other = other
nth_of {A} (x ∷ xs) zero other = x
nth_of {A} (x ∷ xs) (suc n) other = nth_of xs n other

-- the one with that number, from 1
abbrev pub numbered : {A : Type 0} → List A → ℕ → A → A
numbered {A} xs zero other = other
numbered {A} xs (suc n) other = nth_of xs n other

-- nothing may stand there
abbrev pub bad_at : {A : Type 0} → ℕ → Reading A
bad_at {A} at bytes place = Err (BadField at)
