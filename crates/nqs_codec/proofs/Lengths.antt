-- Bytes behind their length.
use Rattle.std.proofs.Common.{◌≡◌, ℕ, ◌+◌, ◌<◌, ◌≤◌, ◌^◌, List, ◌++◌, length, take, drop, refl, sym, ap, ◌∙◌, subst, arith, append_assoc, length-append}
use Rattle.std.proofs.lemmas.List.{length-take-le}
use Rattle.nqs_codec.specs.Fields.{u32_field, bytes_field}
use Rattle.nqs_codec.specs.Takes.{Stands, StandsNone, IsLong}
use Rattle.nqs_codec.proofs.Places.{part_stands}
use Rattle.nqs_codec.proofs.One.{one_u32, bytes_from}

-- a field right behind another
pub two_stand : (bytes : List ℕ) (place middle next : ℕ) (first second : List ℕ) → Stands bytes place first middle → Stands bytes middle second next
    → Stands bytes place (first ++ second) next
two_stand bytes place middle next first second one other = record {
  text = one.text ∙ ap (λ (l : List ℕ). first ++ l) other.text ∙ sym (append_assoc first second (drop next bytes));
  behind = omega (arith, one.behind, other.behind, length-append first second);
}

pub bytes_stand : (bytes : List ℕ) (place n start : ℕ) → Stands bytes place (u32_field n) start → n ≤ length (drop start bytes)
    → Stands bytes place (bytes_field (take n (drop start bytes))) (start + n)
unfolding bytes_field
bytes_stand bytes place n start stands long =
    let value = take n (drop start bytes) in
    let size = length-take-le n (drop start bytes) long in
    two_stand bytes place start (start + n) (u32_field (length value)) value
    (subst (λ (k : ℕ). Stands bytes place (u32_field k) start) (sym size) stands)
    (part_stands bytes start n value refl long)

pub behind_length : (bytes : List ℕ) (place n start : ℕ) → Stands bytes place (u32_field n) start → start ≡ place + 4
unfolding u32_field
behind_length bytes place n start stands = stands.behind

pub none_without_length : (bytes : List ℕ) (place : ℕ) → StandsNone (λ n. n < 2 ^ 32) u32_field bytes place → StandsNone IsLong bytes_field bytes place
none_without_length bytes place none = λ value rest long is. none (length value) (value ++ rest) long (is ∙ bytes_from value rest)

pub none_behind_length : (bytes : List ℕ) (place n start : ℕ) → n < 2 ^ 32 → Stands bytes place (u32_field n) start → length (drop start bytes) < n
    → StandsNone IsLong bytes_field bytes place
none_behind_length bytes place n start small stands short = λ value rest long is.
    let behind = one_u32 n (length value) (drop start bytes) (value ++ rest) small long (sym stands.text ∙ is ∙ bytes_from value rest) in
    omega (arith, short, behind.0, ap length behind.1, length-append value rest)
