-- A field determines its value and what follows it.
use Rattle.std.proofs.Common.{◌≡◌, ℕ, ◌<◌, ◌^◌, List, ◌++◌, length, take, drop, refl, sym, ap, ◌∙◌, append_assoc}
use Rattle.std.proofs.lemmas.List.{take_at, drop_at}
use Rattle.std.proofs.lemmas.Nat.{from_be_bytes-to_be_bytes_2, from_be_bytes-to_be_bytes_4, from_be_bytes-to_be_bytes_8}
use Rattle.std.specs.Int.{w16, w32, w64, from_be_bytes}
use Rattle.nqs_codec.specs.Fields.{u8_field, u16_field, u32_field, u64_field, bytes_field, short_field}

pub one_u8 : (m n : ℕ) (x y : List ℕ) → u8_field m ++ x ≡ u8_field n ++ y → (m ≡ n) × (x ≡ y)
unfolding u8_field
one_u8 m n x y same = (cc, cc)

pub one_u16 : (m n : ℕ) (x y : List ℕ) → m < 2 ^ 16 → n < 2 ^ 16 → u16_field m ++ x ≡ u16_field n ++ y → (m ≡ n) × (x ≡ y)
unfolding u16_field
one_u16 m n x y small_m small_n same = (
  sym (from_be_bytes-to_be_bytes_2 m small_m) ∙ ap (λ (l : List ℕ). from_be_bytes w16 (take 2 l)) same ∙ from_be_bytes-to_be_bytes_2 n small_n,
  ap (λ (l : List ℕ). drop 2 l) same,
)

pub one_u32 : (m n : ℕ) (x y : List ℕ) → m < 2 ^ 32 → n < 2 ^ 32 → u32_field m ++ x ≡ u32_field n ++ y → (m ≡ n) × (x ≡ y)
unfolding u32_field
one_u32 m n x y small_m small_n same = (
  sym (from_be_bytes-to_be_bytes_4 m small_m) ∙ ap (λ (l : List ℕ). from_be_bytes w32 (take 4 l)) same ∙ from_be_bytes-to_be_bytes_4 n small_n,
  ap (λ (l : List ℕ). drop 4 l) same,
)

pub one_u64 : (m n : ℕ) (x y : List ℕ) → m < 2 ^ 64 → n < 2 ^ 64 → u64_field m ++ x ≡ u64_field n ++ y → (m ≡ n) × (x ≡ y)
unfolding u64_field
one_u64 m n x y small_m small_n same = (
  sym (from_be_bytes-to_be_bytes_8 m small_m) ∙ ap (λ (l : List ℕ). from_be_bytes w64 (take 8 l)) same ∙ from_be_bytes-to_be_bytes_8 n small_n,
  ap (λ (l : List ℕ). drop 8 l) same,
)

-- lists of one length before others
same_fronts : (p q x y : List ℕ) → length p ≡ length q → p ++ x ≡ q ++ y → (p ≡ q) × (x ≡ y)
same_fronts p q x y sizes same = (
  sym (take_at p x (length p) refl) ∙ ap (λ (l : List ℕ). take (length p) l) same ∙ take_at q y (length p) (sym sizes),
  sym (drop_at p x (length p) refl) ∙ ap (λ (l : List ℕ). drop (length p) l) same ∙ drop_at q y (length p) (sym sizes),
)

pub bytes_from : (p x : List ℕ) → bytes_field p ++ x ≡ u32_field (length p) ++ (p ++ x)
unfolding bytes_field
bytes_from p x = append_assoc (u32_field (length p)) p x

pub one_bytes : (p q x y : List ℕ) → length p < 2 ^ 32 → length q < 2 ^ 32 → bytes_field p ++ x ≡ bytes_field q ++ y → (p ≡ q) × (x ≡ y)
one_bytes p q x y small_p small_q same =
    let behind = one_u32 (length p) (length q) (p ++ x) (q ++ y) small_p small_q (sym (bytes_from p x) ∙ same ∙ bytes_from q y) in
    same_fronts p q x y behind.0 behind.1

pub one_short : (p q x y : List ℕ) → short_field p ++ x ≡ short_field q ++ y → (p ≡ q) × (x ≡ y)
unfolding short_field
one_short p q x y same =
    let sizes : length p ≡ length q = cc in
    let behind : p ++ x ≡ q ++ y = cc in
    same_fronts p q x y sizes behind
