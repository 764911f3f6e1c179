use Rattle.std.proofs.Common.{◌≡◌, true, Option, Some, None, is_some, sym, true≢false}
use Rattle.std.proofs.lemmas.Option.{same_Some}
use Rattle.nqs_base_tables.specs.Held.{the}

pub the-is : {V : Type 0} (o : Option V) (h : is_some o ≡ true) (v : V) → o ≡ Some v → the o h ≡ v
the-is (Some w) h v e = same_Some w v e
the-is None h v e = absurd (true≢false (sym h))
