-- Which calls of a fake fail.
use Rattle.std.specs.Prelude.{◌≡◌, Bool, is_err, OnOk}
use Rattle.std.specs.declared.result.Result.{Result}
use Rattle.nqs_outside.specs.Causes.{HasCause}
use Rattle.nqs_outside.specs.Memory.{next, is_due}
use Rattle.nqs_outside.specs.declared.source.Failed.{Failed}
use Rattle.nqs_fakes.specs.declared.failures.Failures.{Failures}

-- is the next call to fail?
abbrev pub fails_next : Failures → Bool
fails_next f = is_due f.numbers.items f.calls

-- A call was counted, and it failed just where its number is one of the list.
pub record GoesAsListed {T : Type 0} (old new : Failures) (result : Result T Failed) : Type 0 where
  pub due : is_err result ≡ fails_next old
  pub numbers : new.numbers.items ≡ old.numbers.items
  pub calls : new.calls ≡ next old.calls
  pub cause : HasCause old.faults new.faults result
  pub unmoved : OnOk result (new.faults ≡ old.faults)
