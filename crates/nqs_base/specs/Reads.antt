-- Reading from the left: the first step that fails gives the answer.
use Rattle.std.specs.Prelude.{Option, Some, None, Ok, Err}
use Rattle.std.specs.declared.result.Result.{Result}

infixl 10 ◌>>=◌
-- one step and then the next, where the first succeeds
abbrev pub ◌>>=◌ : {A B E : Type 0} → Result A E → (A → Result B E) → Result B E
◌>>=◌ {A} {B} {E} (Ok a) f = f a
◌>>=◌ {A} {B} {E} (Err e) f = Err e

-- what stands there, or the fault
abbrev pub or_fault : {A E : Type 0} → Option A → E → Result A E
or_fault {A} {E} (Some a) e = Ok a
or_fault {A} {E} None e = Err e
