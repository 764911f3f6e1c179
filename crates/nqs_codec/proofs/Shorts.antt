-- Bytes behind one byte of length, and single bytes.
use Rattle.std.proofs.Common.{◌≡◌, ℕ, ◌+◌, ◌<◌, ◌≤◌, ◌^◌, false, List, [], ◌∷◌, ◌++◌, length, take, drop, get_or, refl, sym, ap, ◌∙◌, subst, arith}
use Rattle.std.proofs.Common.{append_assoc}
use Rattle.std.proofs.lemmas.List.{length-take-le, get_or-drop, take_at}
use Rattle.nqs_base.specs.Path.{IsPath, PathAllowedBelow, has_parent}
use Rattle.nqs_base.proofs.Plain.{rest_behind}
use Rattle.nqs_codec.specs.Fields.{u8_field, short_field, bytes_field, u32_field}
use Rattle.nqs_codec.specs.Takes.{Stands, StandsNone, IsShortAt, IsExtentAt}
use Rattle.nqs_codec.proofs.Places.{part_stands}
use Rattle.nqs_codec.proofs.Lengths.{two_stand}

pub byte_there : (bytes : List ℕ) (place n next : ℕ) → Stands bytes place (u8_field n) next → (drop place bytes ≡ n ∷ drop next bytes) × (next ≡ place + 1)
unfolding u8_field
byte_there bytes place n next stands = (stands.text, stands.behind)

none_in : (l : List ℕ) → ((i : ℕ) → get_or l i 0 < 256) → ((n : ℕ) (rest : List ℕ) → n < 256 → l ≡ u8_field n ++ rest → ⊥) → l ≡ []
unfolding u8_field
none_in [] fits none = refl
none_in (b ∷ bs) fits none = absurd (none b bs (fits 0) refl)

-- where no byte stands the list has ended
pub no_byte : (bytes : List ℕ) (place : ℕ) → ((i : ℕ) → get_or bytes i 0 < 256) → StandsNone (λ n. n < 2 ^ 8) u8_field bytes place → drop place bytes ≡ []
no_byte bytes place fits none = none_in (drop place bytes) (λ i. subst (λ (b : ℕ). b < 256) (sym (get_or-drop place bytes i 0)) (fits (place + i))) none

pub short_stands : (most : ℕ) (bytes : List ℕ) (place n start : ℕ) (part : List ℕ) → Stands bytes place (u8_field n) start → part ≡ take n (drop start bytes)
    → n ≤ length (drop start bytes) → 0 < n → n ≤ most → IsShortAt most bytes place part
unfolding u8_field short_field
short_stands most bytes place n start part stands is long some few =
    let size : length part ≡ n = ap length is ∙ length-take-le n (drop start bytes) long in
    let both = two_stand bytes place start (start + n) (n ∷ []) part stands (part_stands bytes start n part is long) in
    let next : start + n ≡ place + 1 + length part = omega (arith, stands.behind, size) in
    record {
      some = omega (arith, size, some);
      few = omega (arith, size, few);
      stands = record { text = both.text ∙ (λ j. (sym size j) ∷ part ++ drop (next j) bytes); behind = omega arith };
    }

-- where a value lies behind the head of its field
pub value_lies : (bytes : List ℕ) (place : ℕ) (head value rest : List ℕ) → drop place bytes ≡ (head ++ value) ++ rest
    → take (length value) (drop (place + length head) bytes) ≡ value
value_lies bytes place head value rest is =
    ap (λ (l : List ℕ). take (length value) l) (rest_behind bytes place head (value ++ rest) (is ∙ append_assoc head value rest))
    ∙ take_at value rest (length value) refl

pub short_lies : (bytes : List ℕ) (place : ℕ) (value rest : List ℕ) → drop place bytes ≡ short_field value ++ rest
    → take (length value) (drop (place + 1) bytes) ≡ value
unfolding short_field
short_lies bytes place value rest is = value_lies bytes place (length value ∷ []) value rest is

pub bytes_lie : (bytes : List ℕ) (place : ℕ) (value rest : List ℕ) → drop place bytes ≡ bytes_field value ++ rest
    → take (length value) (drop (place + 4) bytes) ≡ value
unfolding bytes_field u32_field
bytes_lie bytes place value rest is = value_lies bytes place (u32_field (length value)) value rest is

pub path_found : (bytes : List ℕ) (place : ℕ) (path : List ℕ) → IsShortAt 255 bytes place path → PathAllowedBelow path (length path) → has_parent path ≡ false →
    (at : List ℕ) → at ≡ take (length path) (drop (place + 1) bytes) → IsPath at × Stands bytes place (short_field at) (place + 1 + length path)
    × IsExtentAt bytes (place + 1) (record { place = place + 1; length = length path })
path_found bytes place path there allowed below at is =
    let lies = short_lies bytes place path _ there.stands.text in
    let same : at ≡ path = is ∙ lies in (
      subst IsPath (sym same) (record { some = there.some; few = there.few; allowed = allowed; below = below }),
      subst (λ (l : List ℕ). Stands bytes place (short_field l) (place + 1 + length path)) (sym same) there.stands,
      record { first = refl; whole = ap length lies },
    )
