-- What stands in an option that is not empty.
use Rattle.std.specs.Prelude.{◌≡◌, true, Option, Some, None, is_some}
use Rattle.std.proofs.Common.{sym, true≢false}

-- what stands in an option that isn't empty
abbrev pub the : {V : Type 0} → (o : Option V) → is_some o ≡ true → V
the (Some v) _ = v
the None h = absurd (true≢false (sym h))
