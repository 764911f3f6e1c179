-- Putting and taking undo each other, for bytes that are taken by their extent.
use Rattle.std.proofs.Common.{◌≡◌, ℕ, ◌+◌, List, ◌++◌, length, take, drop, refl, sym, ap, ◌∙◌, Result, Ok, Err}
use Rattle.std.proofs.lemmas.List.{drop_at}
use Rattle.nqs_base.specs.Extents.{extent_bytes}
use Rattle.nqs_base.specs.Path.{IsPath}
use Rattle.nqs_base.specs.declared.extent.Extent.{Extent}
use Rattle.nqs_base.proofs.Plain.{rest_behind}
use Rattle.nqs_codec.specs.Fields.{bytes_field, short_field}
use Rattle.nqs_codec.specs.Takes.{Stands, StandsNone, TakesBytes, TakesPath, IsLong, IsExtentAt}
use Rattle.nqs_codec.specs.Laws.{IsOne, IsReadInPlace, HasOneAnswer, extent_of}
use Rattle.nqs_codec.proofs.One.{one_bytes, one_short}
use Rattle.nqs_codec.proofs.Shorts.{short_lies, bytes_lie}
use Rattle.nqs_codec.proofs.ReadBack.{same_short}
use Rattle.nqs_codec.proofs.Faults.{path_fault}
use Rattle.nqs_codec.proofs.Refusals.{refused_path}

module _ {E : Type 0} (head : ℕ) (IsValue : List ℕ → Type 0) (field : List ℕ → List ℕ) (Takes : List ℕ → ℕ → Result (Extent × ℕ) E → Type 0)
    (stands : (bytes : List ℕ) (place : ℕ) (extent : Extent) (next : ℕ) → Takes bytes place (Ok (extent, next))
    → IsValue (extent_bytes bytes extent) × Stands bytes place (field (extent_bytes bytes extent)) next × IsExtentAt bytes (place + head) extent)
    (lies : (bytes : List ℕ) (place : ℕ) (value rest : List ℕ) → drop place bytes ≡ field value ++ rest
    → take (length value) (drop (place + head) bytes) ≡ value)
    (refused : (bytes : List ℕ) (place : ℕ) (fault : E) → Takes bytes place (Err fault) → StandsNone IsValue field bytes place)
    (one : IsOne IsValue field)
    (one_fault : (bytes : List ℕ) (place : ℕ) (e f : E) → Takes bytes place (Err e) → Takes bytes place (Err f) → e ≡ f) where
  taken : (bytes rest : List ℕ) (place : ℕ) (value : List ℕ) (answer : Result (Extent × ℕ) E) → IsValue value → drop place bytes ≡ field value ++ rest
      → Takes bytes place answer → answer ≡ Ok (extent_of head place value, place + length (field value))
  taken bytes rest place value (Ok (extent, next)) is_value is takes =
      let there = stands bytes place extent next takes in
      let found = extent_bytes bytes extent in
      let same = (one found value (drop next bytes) rest there.0 is_value (sym there.1.text ∙ is)).0 in
      let behind = there.1.behind ∙ ap (λ (w : List ℕ). place + length (field w)) same in
      let size = sym there.2.whole ∙ ap length same in
      λ j. Ok (record { place = there.2.first j; length = size j }, behind j)
  taken bytes rest place value (Err fault) is_value is takes = absurd (refused bytes place fault takes value rest is_value is)

  one_answer : HasOneAnswer Takes
  one_answer bytes place (Ok (extent, next)) other takes again =
      let there = stands bytes place extent next takes in
      let value = extent_bytes bytes extent in
      taken bytes (drop next bytes) place value (Ok (extent, next)) there.0 there.1.text takes
      ∙ sym (taken bytes (drop next bytes) place value other there.0 there.1.text again)
  one_answer bytes place (Err e) (Ok (extent, next)) takes again =
      let there = stands bytes place extent next again in
      absurd (refused bytes place e takes (extent_bytes bytes extent) (drop next bytes) there.0 there.1.text)
  one_answer bytes place (Err e) (Err f) takes again = ap (λ (fault : E). Err fault) (one_fault bytes place e f takes again)

  pub read_in_place : IsReadInPlace head IsValue field Takes
  read_in_place = record {
    taken = taken;
    in_place = λ bytes rest value place is. lies bytes place value rest is;
    left = λ bytes rest value place is. rest_behind bytes place (field value) rest is;
    put_taken = λ front rest value answer is_value takes. taken (front ++ (field value ++ rest)) rest (length front) value answer is_value
        (drop_at front (field value ++ rest) (length front) refl) takes;
    refused = refused;
    one = one;
    one_answer = one_answer;
  }

pub bytes_in_place : IsReadInPlace 4 IsLong bytes_field TakesBytes
bytes_in_place = read_in_place 4 IsLong bytes_field TakesBytes (λ bytes place extent next takes. takes) bytes_lie (λ bytes place fault takes. takes.1)
    (λ p q x y. one_bytes p q x y) (λ bytes place e f is was. same_short (length bytes) e f is.0 was.0)

pub path_in_place : IsReadInPlace 1 IsPath short_field TakesPath
path_in_place = read_in_place 1 IsPath short_field TakesPath (λ bytes place extent next takes. takes) short_lies refused_path
    (λ p q x y _ _. one_short p q x y) path_fault
