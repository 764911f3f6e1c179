-- Bytes are read as a change exactly where they are its spelling.
use Rattle.std.proofs.Common.{◌≡◌, ◌≢◌, ℕ, false, List, refl, sym, Ok, Err, IfOk, IfErr}
use Rattle.nqs_base.specs.Want.{want}
use Rattle.nqs_base.proofs.Readings.{never}
use Rattle.nqs_records.specs.Reading.{Read, is_memory, Answers}
use Rattle.nqs_records.specs.KindTable.{HostChange}
use Rattle.nqs_records.specs.Kinds.{record_of}
use Rattle.nqs_records.specs.Changes.{AreBytes, MayStand, spelling, ReadsTheSpelling, IsSpelledBy, SpellsNone}
use Rattle.nqs_records.specs.declared.fault.RecordFault.{RecordFault}
use Rattle.nqs_records.specs.declared.fault.RecordFault.TheVariants.{Short, Kind, BadField, Trailing, Memory}
use Rattle.nqs_records.proofs.KindLaws.{change_law}
use Rattle.nqs_records.proofs.Whole.{alone_found, alone_taken}

is_spelled : (bytes : List ℕ) (c : HostChange) → AreBytes bytes → record_of bytes ≡ Ok c → (bytes ≡ spelling c) × MayStand c
unfolding record_of
is_spelled bytes c fits e = alone_found change_law bytes 0 c fits e

spelled_is : (bytes : List ℕ) (c : HostChange) → AreBytes bytes → bytes ≡ spelling c → MayStand c → record_of bytes ≡ Ok c
unfolding record_of
spelled_is bytes c fits is ok = alone_taken change_law bytes 0 c fits is ok

pub reads_the_spelling : ReadsTheSpelling
reads_the_spelling bytes c fits = (λ e. is_spelled bytes c fits e, λ p. spelled_is bytes c fits p.0 p.1)

-- ---- what the call answers

pub if_read : (bytes : List ℕ) (answer : Read HostChange) → AreBytes bytes → Answers (record_of bytes) answer → IfOk answer (IsSpelledBy bytes)
if_read bytes (Ok c) fits answers = is_spelled bytes c fits (sym (answers refl))
if_read bytes (Err fault) fits answers = tt

pub not_memory : (A : Type 0) (fault : RecordFault) → fault ≢ Memory want → is_memory {A = A} (Err fault) ≡ false
not_memory A (Short place) other = refl
not_memory A (Kind place) other = refl
not_memory A (BadField place) other = refl
not_memory A (Trailing place) other = refl
not_memory A (Memory memory) other = absurd (other refl)

pub if_refused : (bytes : List ℕ) (answer : Read HostChange) → AreBytes bytes → Answers (record_of bytes) answer
    → IfErr answer (λ fault. fault ≢ Memory want → SpellsNone bytes)
if_refused bytes (Ok c) fits answers = tt
if_refused bytes (Err fault) fits answers = λ other c ok is.
    never (record_of bytes) c fault (spelled_is bytes c fits is ok) (sym (answers (not_memory HostChange fault other)))
