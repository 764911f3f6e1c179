-- The calls of a spool.
use Rattle.std.specs.Prelude.{ℕ, true, List, [], ◌∷◌}
use Rattle.nqs_outside.specs.History.{Call, write, sync}

-- bytes, on the disk before the answer
abbrev pub written_through : ℕ → List ℕ → List Call
written_through place bytes = write place bytes true ∷ sync true ∷ []

-- no bytes make no call
abbrev pub put_calls : ℕ → List ℕ → List Call
put_calls place [] = []
put_calls place (byte ∷ bytes) = written_through place (byte ∷ bytes)
