-- What it is to be read: what is found stands there, and what stands there is found.
use Rattle.std.proofs.Common.{◌≡◌, ℕ, ◌+◌, List, ◌++◌, length, drop, ap, subst, Result, Ok, Err}
use Rattle.nqs_codec.specs.Takes.{Stands}
use Rattle.nqs_codec.specs.Laws.{IsReadBack}
use Rattle.nqs_codec.specs.declared.fault.Short.{Short}
use Rattle.nqs_codec.specs.declared.fault.FieldFault.{FieldFault}
use Rattle.nqs_records.specs.Reading.{Reading}
use Rattle.nqs_records.specs.Fields.{or_short, or_fault}
use Rattle.nqs_records.specs.Changes.{AreBytes}

pub record IsRead {A : Type 0} (IsValue : A → Type 0) (field : A → List ℕ) (reading : Reading A) : Type 0 where
  pub found : (bytes : List ℕ) (place : ℕ) (value : A) (next : ℕ) → AreBytes bytes → reading bytes place ≡ Ok (value, next)
      → IsValue value × Stands bytes place (field value) next
  pub taken : (bytes rest : List ℕ) (place : ℕ) (value : A) → AreBytes bytes → IsValue value → drop place bytes ≡ field value ++ rest
      → reading bytes place ≡ Ok (value, place + length (field value))

short_Ok : {A : Type 0} (r : Result A Short) (a : A) → or_short r ≡ Ok a → r ≡ Ok a
short_Ok (Ok b) a e = cc
short_Ok (Err x) a e = cc

fault_Ok : {A : Type 0} (r : Result A FieldFault) (a : A) → or_fault r ≡ Ok a → r ≡ Ok a
fault_Ok (Ok b) a e = cc
fault_Ok (Err x) a e = cc

module _ {A : Type 0} {IsValue : A → Type 0} {field : A → List ℕ} {Takes : List ℕ → ℕ → Result (A × ℕ) Short → Type 0} (back : IsReadBack IsValue field Takes)
    (answer : List ℕ → ℕ → Result (A × ℕ) Short)
    (takes : (bytes : List ℕ) (place : ℕ) → AreBytes bytes → Takes bytes place (answer bytes place))
    (stands : (bytes : List ℕ) (place : ℕ) (value : A) (next : ℕ) → Takes bytes place (Ok (value, next))
    → IsValue value × Stands bytes place (field value) next) where
  pub short_read : IsRead IsValue field (λ bytes place. or_short (answer bytes place))
  short_read = record {
    found = λ bytes place value next fits e. stands bytes place value next
        (subst (Takes bytes place) (short_Ok (answer bytes place) (value, next) e) (takes bytes place fits));
    taken = λ bytes rest place value fits is_value is. ap or_short (back.taken bytes rest place value (answer bytes place) is_value is
        (takes bytes place fits));
  }

  pub short_same : (bytes : List ℕ) (place : ℕ) (other : Result (A × ℕ) Short) → AreBytes bytes → Takes bytes place other
      → or_short other ≡ or_short (answer bytes place)
  short_same bytes place other fits took = ap or_short (back.one_answer bytes place other (answer bytes place) took (takes bytes place fits))

module _ {A : Type 0} {IsValue : A → Type 0} {field : A → List ℕ} {Takes : List ℕ → ℕ → Result (A × ℕ) FieldFault → Type 0}
    (back : IsReadBack IsValue field Takes)
    (answer : List ℕ → ℕ → Result (A × ℕ) FieldFault)
    (takes : (bytes : List ℕ) (place : ℕ) → Takes bytes place (answer bytes place))
    (stands : (bytes : List ℕ) (place : ℕ) (value : A) (next : ℕ) → Takes bytes place (Ok (value, next))
    → IsValue value × Stands bytes place (field value) next) where
  pub fault_read : IsRead IsValue field (λ bytes place. or_fault (answer bytes place))
  fault_read = record {
    found = λ bytes place value next fits e. stands bytes place value next
        (subst (Takes bytes place) (fault_Ok (answer bytes place) (value, next) e) (takes bytes place));
    taken = λ bytes rest place value fits is_value is. ap or_fault (back.taken bytes rest place value (answer bytes place) is_value is (takes bytes place));
  }

  pub fault_same : (bytes : List ℕ) (place : ℕ) (other : Result (A × ℕ) FieldFault) → Takes bytes place other → or_fault other ≡ or_fault (answer bytes place)
  fault_same bytes place other took = ap or_fault (back.one_answer bytes place other (answer bytes place) took (takes bytes place))
