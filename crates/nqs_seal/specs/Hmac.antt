-- HMAC-SHA-256 on lists of bytes.
use Rattle.std.specs.Prelude.{ℕ, ◌-◌, List, ◌++◌, length, map, replicate, bit_xor, nat_le, if◌then◌else◌}
use Rattle.sha2.specs.Sha256.{sha256}

-- the bytes, and zeros up to a block of 64
abbrev pub filled : List ℕ → List ℕ
filled bytes = bytes ++ replicate (64 - length bytes) 0

-- the key as a block: one that is longer is hashed first
abbrev pub block_of : List ℕ → List ℕ
block_of key = if nat_le (length key) 64 then filled key else (filled (sha256 key))

-- the block with each byte xored with this one
abbrev pub padded : ℕ → List ℕ → List ℕ
padded byte block = map (λ b. bit_xor b byte) block

-- the tag of a message under a key
unfoldable pub hmac : List ℕ → List ℕ → List ℕ
hmac key message =
    sha256 (padded 0x5c (block_of key) ++ sha256 (padded 0x36 (block_of key) ++ message))
