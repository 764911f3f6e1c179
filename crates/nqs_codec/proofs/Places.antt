-- What stands at a place.
use Rattle.std.proofs.Common.{◌≡◌, ℕ, ◌+◌, ◌<◌, ◌≤◌, List, ◌++◌, length, take, drop, get_or, sym, ap, ◌∙◌, arith, length-append}
use Rattle.std.proofs.Common.{take-append-drop, subst}
use Rattle.std.proofs.lemmas.List.{drop-drop, get_or-drop, length-take-le}
use Rattle.nqs_base.proofs.Plain.{taken}
use Rattle.nqs_codec.specs.Takes.{Stands, StandsNone}

pub part_fits : (bytes : List ℕ) (place n : ℕ) → ((i : ℕ) → get_or bytes i 0 < 256) → (i : ℕ) → get_or (take n (drop place bytes)) i 0 < 256
part_fits bytes place n fits = taken n (drop place bytes) (λ i. subst (λ (b : ℕ). b < 256) (sym (get_or-drop place bytes i 0)) (fits (place + i)))

-- a part that is all there, as a field
pub part_stands : (bytes : List ℕ) (place n : ℕ) (field : List ℕ) → field ≡ take n (drop place bytes) → n ≤ length (drop place bytes)
    → Stands bytes place field (place + n)
part_stands bytes place n field is long = record {
  text =
      sym (take-append-drop n (drop place bytes))
      ∙ ap (λ (l : List ℕ). l ++ drop n (drop place bytes)) (sym is)
      ∙ ap (λ (l : List ℕ). field ++ l) (drop-drop n place bytes);
  behind = ap (λ (k : ℕ). place + k) (sym (ap length is ∙ length-take-le n (drop place bytes) long));
}

-- fields longer than what is left
pub none_stands : {A : Type 0} (IsValue : A → Type 0) (field : A → List ℕ) (bytes : List ℕ) (place : ℕ)
    → ((value : A) → IsValue value → length (drop place bytes) < length (field value)) → StandsNone IsValue field bytes place
none_stands IsValue field bytes place short = λ value rest is_value is. omega (arith, short value is_value, ap length is, length-append (field value) rest)
