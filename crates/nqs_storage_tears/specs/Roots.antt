-- What a tear leaves of a root while a checkpoint turns over to the other journal.
use Rattle.std.specs.Prelude.{◌≡◌, ℕ, Bool, not, List, [], ◌∷◌}
use Rattle.nqs_base.specs.declared.tear.Tear.{Tear}
use Rattle.nqs_rules.specs.Journals.{is_second, byte_of, turned, torn_root}
use Rattle.nqs_outside.specs.History.{State, fresh, step, write}
use Rattle.nqs_disk.specs.Torn.{torn}

-- a root of which the byte that names the other journal is pending, and nothing else
abbrev pub turning : List ℕ → State
turning root = record { synced = root; content = turned root; ranges = (0, 1) ∷ [] }

-- a root is so once that byte was written, whatever the write was answered
abbrev pub WritesTurn : Type 0
WritesTurn = (root : List ℕ) (ok : Bool) → step (fresh root) (write 0 (byte_of (not (is_second root)) ∷ []) ok) ≡ turning root

-- the torn bytes are those of the rules
abbrev pub TearsTurn : Type 0
TearsTurn = (root : List ℕ) (tear : Tear) → torn tear (turning root) ≡ torn_root tear root
