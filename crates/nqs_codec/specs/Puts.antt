-- What putting a field at the end of a list answers.
use Rattle.std.specs.Prelude.{◌≡◌, ℕ, List, ◌++◌, Ok, Err}
use Rattle.std.specs.declared.result.Result.{Result}
use Rattle.nqs_base.specs.declared.memory.Memory.{Memory}

-- the list with the field behind it; at want of memory the list
abbrev pub Puts : List ℕ → List ℕ → Result (Unit {0}) Memory → List ℕ → Type 0
Puts old field (Ok done) new = new ≡ old ++ field
Puts old field (Err memory) new = new ≡ old
