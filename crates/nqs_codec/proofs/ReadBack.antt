-- Putting and taking undo each other: from what an answer says, from refusals, and from fields that
-- are one value's.
use Rattle.std.proofs.Common.{◌≡◌, ℕ, ◌+◌, ◌<◌, ◌^◌, List, ◌++◌, length, drop, refl, sym, ap, ◌∙◌, Result, Ok, Err}
use Rattle.std.proofs.lemmas.List.{drop_at}
use Rattle.std.specs.Prelude.{⊤, true, false}
use Rattle.nqs_base.specs.Name.{IsName}
use Rattle.nqs_base.proofs.Plain.{rest_behind}
use Rattle.nqs_codec.specs.Fields.{u8_field, u16_field, u32_field, u64_field, bool_field, short_field}
use Rattle.nqs_codec.specs.Takes.{Stands, StandsNone, TakesNumber, TakesBool, TakesName}
use Rattle.nqs_codec.specs.Laws.{IsOne, IsReadBack, HasOneAnswer}
use Rattle.nqs_codec.specs.declared.fault.Short.{Short}
use Rattle.nqs_codec.proofs.One.{one_u8, one_u16, one_u32, one_u64, one_short}
use Rattle.nqs_codec.proofs.Faults.{bool_fault, name_fault}
use Rattle.nqs_codec.proofs.Refusals.{refused_bool, refused_name}

module _ {A E : Type 0} (IsValue : A → Type 0) (field : A → List ℕ) (Takes : List ℕ → ℕ → Result (A × ℕ) E → Type 0)
    (stands : (bytes : List ℕ) (place : ℕ) (value : A) (next : ℕ) → Takes bytes place (Ok (value, next))
    → IsValue value × Stands bytes place (field value) next)
    (refused : (bytes : List ℕ) (place : ℕ) (fault : E) → Takes bytes place (Err fault) → StandsNone IsValue field bytes place)
    (one : IsOne IsValue field)
    (one_fault : (bytes : List ℕ) (place : ℕ) (e f : E) → Takes bytes place (Err e) → Takes bytes place (Err f) → e ≡ f) where
  taken : (bytes rest : List ℕ) (place : ℕ) (value : A) (answer : Result (A × ℕ) E) → IsValue value → drop place bytes ≡ field value ++ rest
      → Takes bytes place answer → answer ≡ Ok (value, place + length (field value))
  taken bytes rest place value (Ok (v, next)) is_value is takes =
      let there = stands bytes place v next takes in
      let same = (one v value (drop next bytes) rest there.0 is_value (sym there.1.text ∙ is)).0 in
      let behind = there.1.behind ∙ ap (λ (w : A). place + length (field w)) same in
      λ j. Ok (same j, behind j)
  taken bytes rest place value (Err fault) is_value is takes = absurd (refused bytes place fault takes value rest is_value is)

  one_answer : HasOneAnswer Takes
  one_answer bytes place (Ok (value, next)) other takes again =
      let there = stands bytes place value next takes in
      taken bytes (drop next bytes) place value (Ok (value, next)) there.0 there.1.text takes
      ∙ sym (taken bytes (drop next bytes) place value other there.0 there.1.text again)
  one_answer bytes place (Err e) (Ok (value, next)) takes again =
      let there = stands bytes place value next again in
      absurd (refused bytes place e takes value (drop next bytes) there.0 there.1.text)
  one_answer bytes place (Err e) (Err f) takes again = ap (λ (fault : E). Err fault) (one_fault bytes place e f takes again)

  pub read_back : IsReadBack IsValue field Takes
  read_back = record {
    taken = taken;
    left = λ bytes rest place value is. rest_behind bytes place (field value) rest is;
    put_taken = λ front rest value answer is_value takes. taken (front ++ (field value ++ rest)) rest (length front) value answer is_value
        (drop_at front (field value ++ rest) (length front) refl) takes;
    refused = refused;
    one = one;
    one_answer = one_answer;
  }

-- both places are the end of the list
pub same_short : (end : ℕ) (e f : Short) → e.0 ≡ end → f.0 ≡ end → e ≡ f
same_short end e f is was = let same = is ∙ sym was in λ j. record { 0 = same j }

number_back : (limit : ℕ) (field : ℕ → List ℕ) → IsOne (λ n. n < limit) field → IsReadBack (λ n. n < limit) field (TakesNumber limit field)
number_back limit field one = read_back (λ n. n < limit) field (TakesNumber limit field) (λ bytes place value next takes. takes)
    (λ bytes place fault takes. takes.1) one (λ bytes place e f is was. same_short (length bytes) e f is.0 was.0)

pub u8_back : IsReadBack (λ n. n < 2 ^ 8) u8_field (TakesNumber (2 ^ 8) u8_field)
u8_back = number_back (2 ^ 8) u8_field (λ m n x y small few. one_u8 m n x y)

pub u16_back : IsReadBack (λ n. n < 2 ^ 16) u16_field (TakesNumber (2 ^ 16) u16_field)
u16_back = number_back (2 ^ 16) u16_field (λ m n x y. one_u16 m n x y)

pub u32_back : IsReadBack (λ n. n < 2 ^ 32) u32_field (TakesNumber (2 ^ 32) u32_field)
u32_back = number_back (2 ^ 32) u32_field (λ m n x y. one_u32 m n x y)

pub u64_back : IsReadBack (λ n. n < 2 ^ 64) u64_field (TakesNumber (2 ^ 64) u64_field)
u64_back = number_back (2 ^ 64) u64_field (λ m n x y. one_u64 m n x y)

one_bool : IsOne (λ _. ⊤) bool_field
unfolding bool_field
one_bool true true x y _ _ same = (refl, cc)
one_bool true false x y _ _ same = absurd (let no : ⊥ = cc in no)
one_bool false true x y _ _ same = absurd (let no : ⊥ = cc in no)
one_bool false false x y _ _ same = (refl, cc)

pub bool_back : IsReadBack (λ _. ⊤) bool_field TakesBool
bool_back = read_back (λ _. ⊤) bool_field TakesBool (λ bytes place value next takes. (tt, takes)) refused_bool one_bool bool_fault

pub name_back : IsReadBack IsName short_field TakesName
name_back = read_back IsName short_field TakesName (λ bytes place value next takes. takes) refused_name (λ p q x y _ _. one_short p q x y) name_fault
