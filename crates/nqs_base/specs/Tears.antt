-- What a stop makes of one byte that isn't synced.
use Rattle.std.specs.Prelude.{ℕ, zero, suc}

-- by a number below 4: the old byte, the new one, 7 or 255
abbrev pub torn_byte : ℕ → ℕ → ℕ → ℕ
torn_byte zero old new = old
torn_byte (suc zero) old new = new
torn_byte (suc (suc zero)) old new = 7
torn_byte (suc (suc (suc more))) old new = 255
