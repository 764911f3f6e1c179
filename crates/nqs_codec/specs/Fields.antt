-- The bytes of each kind of field. Numbers are written with their highest byte first.
use Rattle.std.specs.Prelude.{ℕ, Bool, true, false, List, [], ◌∷◌, ◌++◌, length}
use Rattle.std.specs.Int.{to_be_bytes, w16, w32, w64}

-- one byte
unfoldable pub u8_field : ℕ → List ℕ
u8_field n = n ∷ []

-- two bytes
unfoldable pub u16_field : ℕ → List ℕ
u16_field n = to_be_bytes w16 n

-- four bytes
unfoldable pub u32_field : ℕ → List ℕ
u32_field n = to_be_bytes w32 n

-- eight bytes
unfoldable pub u64_field : ℕ → List ℕ
u64_field n = to_be_bytes w64 n

-- four bytes of length, and that many bytes
unfoldable pub bytes_field : List ℕ → List ℕ
bytes_field bytes = u32_field (length bytes) ++ bytes

-- a byte of length, and that many bytes: a name or a path
unfoldable pub short_field : List ℕ → List ℕ
short_field bytes = length bytes ∷ bytes

-- 0 for no and 1 for yes; also the tag before what may be there or not
unfoldable pub bool_field : Bool → List ℕ
bool_field false = 0 ∷ []
bool_field true = 1 ∷ []
