-- A tear of a root's first byte: the other bytes stay, and the length is one of two.
use Rattle.std.proofs.Common.{◌≡◌, ℕ, suc, ◌+◌, ◌<◌, ◌%◌, ◌==◌, nat_le, nat_lt, Bool, true, false, not, ◌&&◌, ◌||◌, List, [], ◌∷◌, length, take, get_or}
use Rattle.std.proofs.Common.{refl, sym, ap, ◌∙◌, arith}
use Rattle.std.specs.Prelude.{if◌then◌else◌}
use Rattle.std.proofs.lemmas.Bool.Decides.{nat_tests}
use Rattle.nqs_base.specs.declared.tear.Tear.{Tear}
use Rattle.nqs_base.specs.declared.tear.Tear.TheVariants.{Old, New, Mixed}
use Rattle.nqs_rules.specs.Journals.{is_second, byte_of, torn_byte, torn_root}
use Rattle.nqs_outside.specs.History.{fresh, step, write}
use Rattle.nqs_disk.specs.Torn.{bits, is_free, mixed_from, torn}
use Rattle.nqs_storage_tears.specs.Roots.{turning}
use Rattle.nqs_storage_tears.proofs.TornGates.{no_bits}

pub write_turns : (root : List ℕ) (ok : Bool) → step (fresh root) (write 0 (byte_of (not (is_second root)) ∷ []) ok) ≡ turning root
write_turns [] ok = refl
write_turns (byte ∷ bytes) ok = refl

-- bytes that aren't free stay as they were synced
module _ (free : ℕ → Bool) (n : ℕ) (synced : List ℕ) where
  stays : (bytes : List ℕ) (place i : ℕ) → ((j : ℕ) → j < length bytes → free (place + j) ≡ false)
      → ((j : ℕ) → j < length bytes → get_or synced (place + j) 0 ≡ get_or bytes j 0) → mixed_from free n synced place i bytes ≡ bytes
  stays [] place i shut same = refl
  stays (byte ∷ bytes) place i shut same =
      let start : place + 0 ≡ place = omega arith in
      let next : (j : ℕ) → (place + 1) + j ≡ place + suc j = λ j. omega arith in
      ap (λ b. (if b then torn_byte (bits n i) (get_or synced place 0) byte else get_or synced place 0)
      ∷ mixed_from free n synced (place + 1) (if b then i + 1 else i) bytes) (sym (ap free start) ∙ shut 0 (omega arith))
      ∙ ap (λ b. b ∷ mixed_from free n synced (place + 1) i bytes) (ap (λ p. get_or synced p 0) (sym start) ∙ same 0 (omega arith))
      ∙ ap (λ l. byte ∷ l) (stays bytes (place + 1) i (λ j below. ap free (next j) ∙ shut (suc j) (omega (arith, below)))
      (λ j below. ap (λ p. get_or synced p 0) (next j) ∙ same (suc j) (omega (arith, below))))

take_all : (bytes : List ℕ) → take (length bytes) bytes ≡ bytes
take_all [] = refl
take_all (byte ∷ bytes) = ap (λ l. byte ∷ l) (take_all bytes)

-- an empty root becomes one byte long, or stays empty
mixed_empty : (n : ℕ) → torn (Mixed n) (turning []) ≡ torn_root (Mixed n) []
mixed_empty n = ap (λ m. take (if n % 2 == 1 then 1 else 0) (torn_byte m 0 1 ∷ [])) (no_bits n) ∙ by (n % 2 == 1)
  where
    by : (b : Bool) → take (if b then 1 else 0) (torn_byte (n % 4) 0 1 ∷ []) ≡ (if b then torn_byte (n % 4) 0 1 ∷ [] else [])
    by true = refl
    by false = refl

-- of a root with bytes the first becomes another
module _ (byte : ℕ) (bytes : List ℕ) where
  abbrev new : ℕ
  new = byte_of (not (is_second (byte ∷ bytes)))

  behind : (j : ℕ) → j < length bytes → is_free (turning (byte ∷ bytes)) (1 + j) ≡ false
  behind j below = let no : ((nat_le 0 (1 + j) && nat_lt (1 + j) 1) || false || nat_le (suc (length bytes)) (1 + j)) ≡ false =
      grind (arith, nat_tests, below) in no

  mixed_bytes : (n : ℕ) → torn (Mixed n) (turning (byte ∷ bytes)) ≡ torn_root (Mixed n) (byte ∷ bytes)
  mixed_bytes n =
      ap (λ l. take (if n % 2 == 1 then suc (length bytes) else suc (length bytes)) (torn_byte (bits n 0) byte new ∷ l))
      (stays (is_free (turning (byte ∷ bytes))) n (byte ∷ bytes) bytes 1 1 behind
      (λ j below. ap (λ place. get_or (byte ∷ bytes) place 0) (let e : 1 + j ≡ suc j = omega arith in e)))
      ∙ by (n % 2 == 1)
      ∙ ap (λ first. first ∷ bytes) (ap (λ m. torn_byte m byte new) (no_bits n))
    where
      by : (b : Bool) → take (if b then suc (length bytes) else suc (length bytes)) (torn_byte (bits n 0) byte new ∷ bytes)
          ≡ torn_byte (bits n 0) byte new ∷ bytes
      by true = ap (λ l. torn_byte (bits n 0) byte new ∷ l) (take_all bytes)
      by false = ap (λ l. torn_byte (bits n 0) byte new ∷ l) (take_all bytes)

pub torn_turning : (root : List ℕ) (tear : Tear) → torn tear (turning root) ≡ torn_root tear root
torn_turning root Old = refl
torn_turning root New = refl
torn_turning [] (Mixed n) = mixed_empty n
torn_turning (byte ∷ bytes) (Mixed n) = mixed_bytes byte bytes n
