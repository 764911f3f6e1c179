-- What is added at the end of a list.
use Rattle.std.specs.Prelude.{◌≡◌, ℕ, List, ◌++◌, OnOk}
use Rattle.std.specs.declared.result.Result.{Result}
use Rattle.nqs_base.specs.declared.memory.Memory.{Memory}

-- after Ok the field stands behind what was there
abbrev pub Adds : List ℕ → List ℕ → Result (Unit {0}) Memory → List ℕ → Type 0
Adds old field result new = OnOk result (new ≡ old ++ field)
