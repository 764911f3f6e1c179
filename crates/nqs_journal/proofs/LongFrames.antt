-- Where a snapshot's length and bytes stand.
use Rattle.std.proofs.Common.{◌≡◌, ℕ, ◌+◌, ◌^◌, ◌<◌, ◌≤◌, List, ◌++◌, length, take, drop, get_or, refl, sym, ap, ◌∙◌, arith, append_assoc}
use Rattle.std.proofs.Common.{length-append, length-drop, take-append-drop}
use Rattle.std.proofs.lemmas.List.{take_at, drop_at, length-take}
use Rattle.std.proofs.lemmas.Nat.{be_bytes_8, from_be_bytes-to_be_bytes_8}
use Rattle.std.specs.Int.{w64, to_be_bytes, from_be_bytes}
use Rattle.nqs_base.proofs.Plain.{taken}
use Rattle.nqs_journal.specs.Either.{long_frame, IsNoSnapshot}

pub length-long_frame : (snapshot : List ℕ) → length (long_frame snapshot) ≡ 8 + length snapshot
unfolding long_frame
length-long_frame snapshot = omega arith

length_field : (snapshot rest bytes : List ℕ) → length snapshot < 2 ^ 64 → bytes ≡ long_frame snapshot ++ rest
    → from_be_bytes w64 (take 8 bytes) ≡ length snapshot
unfolding long_frame
length_field snapshot rest bytes small is =
    ap (λ (l : List ℕ). from_be_bytes w64 (take 8 l)) (is ∙ append_assoc (to_be_bytes w64 (length snapshot)) snapshot rest)
    ∙ from_be_bytes-to_be_bytes_8 (length snapshot) small

pub no_snapshot_short : (bytes : List ℕ) → length bytes < 8 → IsNoSnapshot bytes
no_snapshot_short bytes few = λ snapshot rest small is.
    omega (arith, few, ap length is, length-append (long_frame snapshot) rest, length-long_frame snapshot)

pub no_snapshot_past : (bytes : List ℕ) (n : ℕ) → n ≡ from_be_bytes w64 (take 8 bytes) → length (drop 8 bytes) < n → IsNoSnapshot bytes
no_snapshot_past bytes n is_length past = λ snapshot rest small is.
    omega (
      arith,
      is_length,
      past,
      length-drop 8 bytes,
      length_field snapshot rest bytes small is,
      ap length is,
      length-append (long_frame snapshot) rest,
      length-long_frame snapshot,
    )

pub long_frame_stands : (bytes : List ℕ) (n : ℕ) → ((i : ℕ) → get_or bytes i 0 < 256) → 8 ≤ length bytes → n ≡ from_be_bytes w64 (take 8 bytes)
    → n ≤ length (drop 8 bytes) → bytes ≡ long_frame (take n (drop 8 bytes)) ++ drop n (drop 8 bytes)
unfolding long_frame
long_frame_stands bytes n fits long is_length within =
    let size : length (take n (drop 8 bytes)) ≡ n = omega (arith, length-take n (drop 8 bytes), within) in
    let field_size : length (take 8 bytes) ≡ 8 = omega (arith, length-take 8 bytes, long) in
    let field : to_be_bytes w64 n ≡ take 8 bytes = be_bytes_8 (take 8 bytes) n field_size (taken 8 bytes fits) is_length in
    sym (take-append-drop 8 bytes)
    ∙ ap (λ (l : List ℕ). l ++ drop 8 bytes) (sym field ∙ ap (to_be_bytes w64) (sym size))
    ∙ ap (λ (l : List ℕ). to_be_bytes w64 (length (take n (drop 8 bytes))) ++ l) (sym (take-append-drop n (drop 8 bytes)))
    ∙ sym (append_assoc (to_be_bytes w64 (length (take n (drop 8 bytes)))) (take n (drop 8 bytes)) (drop n (drop 8 bytes)))

after_length : (snapshot rest : List ℕ) → drop 8 (long_frame snapshot ++ rest) ≡ snapshot ++ rest
unfolding long_frame
after_length snapshot rest = refl

-- no snapshot's frame begins another's
pub long_frame_cancel : (p q x y : List ℕ) → length p < 2 ^ 64 → length q < 2 ^ 64 → long_frame p ++ x ≡ long_frame q ++ y → (p ≡ q) × (x ≡ y)
long_frame_cancel p q x y small_p small_q same =
    let sizes : length p ≡ length q = sym (length_field p x (long_frame q ++ y) small_p (sym same)) ∙ length_field q y (long_frame q ++ y) small_q refl in
    let behind : p ++ x ≡ q ++ y = sym (after_length p x) ∙ ap (λ (l : List ℕ). drop 8 l) same ∙ after_length q y in (
      sym (take_at p x (length p) refl) ∙ ap (λ (l : List ℕ). take (length p) l) behind ∙ take_at q y (length p) (sym sizes),
      sym (drop_at p x (length p) refl) ∙ ap (λ (l : List ℕ). drop (length p) l) behind ∙ drop_at q y (length p) (sym sizes),
    )
