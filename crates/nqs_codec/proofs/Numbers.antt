-- Numbers at a place.
use Rattle.std.proofs.Common.{◌≡◌, ℕ, ◌<◌, ◌≤◌, ◌+◌, ◌^◌, List, length, take, drop, get_or, ap, ◌∙◌}
use Rattle.std.proofs.lemmas.List.{length-take-le}
use Rattle.std.proofs.lemmas.Nat.{be_bytes_2, be_bytes_4, be_bytes_8}
use Rattle.std.specs.Int.{w16, w32, w64, from_be_bytes}
use Rattle.nqs_codec.specs.Fields.{u16_field, u32_field, u64_field}
use Rattle.nqs_codec.specs.Takes.{Stands, StandsNone}
use Rattle.nqs_codec.proofs.Places.{part_fits, part_stands, none_stands}

pub none_u16 : (bytes : List ℕ) (place : ℕ) → length (drop place bytes) < 2 → StandsNone (λ n. n < 2 ^ 16) u16_field bytes place
unfolding u16_field
none_u16 bytes place short = none_stands (λ n. n < 2 ^ 16) u16_field bytes place (λ value small. short)

pub none_u32 : (bytes : List ℕ) (place : ℕ) → length (drop place bytes) < 4 → StandsNone (λ n. n < 2 ^ 32) u32_field bytes place
unfolding u32_field
none_u32 bytes place short = none_stands (λ n. n < 2 ^ 32) u32_field bytes place (λ value small. short)

pub none_u64 : (bytes : List ℕ) (place : ℕ) → length (drop place bytes) < 8 → StandsNone (λ n. n < 2 ^ 64) u64_field bytes place
unfolding u64_field
none_u64 bytes place short = none_stands (λ n. n < 2 ^ 64) u64_field bytes place (λ value small. short)

pub stands_u16 : (bytes : List ℕ) (place n : ℕ) (part : List ℕ) → ((i : ℕ) → get_or bytes i 0 < 256) → part ≡ take 2 (drop place bytes)
    → 2 ≤ length (drop place bytes) → n ≡ from_be_bytes w16 part → Stands bytes place (u16_field n) (place + 2)
unfolding u16_field
stands_u16 bytes place n part fits is long reads =
    let whole = take 2 (drop place bytes) in
    part_stands bytes place 2 _ (be_bytes_2 whole n (length-take-le 2 (drop place bytes) long) (part_fits bytes place 2 fits)
    (reads ∙ ap (from_be_bytes w16) is)) long

pub stands_u32 : (bytes : List ℕ) (place n : ℕ) (part : List ℕ) → ((i : ℕ) → get_or bytes i 0 < 256) → part ≡ take 4 (drop place bytes)
    → 4 ≤ length (drop place bytes) → n ≡ from_be_bytes w32 part → Stands bytes place (u32_field n) (place + 4)
unfolding u32_field
stands_u32 bytes place n part fits is long reads =
    let whole = take 4 (drop place bytes) in
    part_stands bytes place 4 _ (be_bytes_4 whole n (length-take-le 4 (drop place bytes) long) (part_fits bytes place 4 fits)
    (reads ∙ ap (from_be_bytes w32) is)) long

pub stands_u64 : (bytes : List ℕ) (place n : ℕ) (part : List ℕ) → ((i : ℕ) → get_or bytes i 0 < 256) → part ≡ take 8 (drop place bytes)
    → 8 ≤ length (drop place bytes) → n ≡ from_be_bytes w64 part → Stands bytes place (u64_field n) (place + 8)
unfolding u64_field
stands_u64 bytes place n part fits is long reads =
    let whole = take 8 (drop place bytes) in
    part_stands bytes place 8 _ (be_bytes_8 whole n (length-take-le 8 (drop place bytes) long) (part_fits bytes place 8 fits)
    (reads ∙ ap (from_be_bytes w64) is)) long
