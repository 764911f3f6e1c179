-- What is kept in mind of a look is so.
use Rattle.std.proofs.Common.{◌≡◌, ℕ, true, IsTrue, not, nat_eq, is_some, Option, None, Some, true≢false, refl, sym, ap, subst}
use Rattle.std.specs.Option.{option_eq}
use Rattle.std.proofs.lemmas.Bool.{eqb-true}
use Rattle.nqs_base.specs.declared.extent.Extent.{Extent}
use Rattle.nqs_rules.specs.Start.{start}
use Rattle.nqs_rules.specs.Stepped.{Stepped}
use Rattle.nqs_store.specs.Told.{Host}
use Rattle.nqs_node.specs.Idle.{starts_none, is_idle}

-- nothing was found, so it is kept in mind
pub none_found : (moment : ℕ) (host : Host) → start moment host ≡ None → IsTrue (starts_none moment host)
unfolding starts_none
none_found moment host none = ap (λ (o : Option (Stepped Extent)). not (is_some o)) none

none_starts : (moment : ℕ) (host : Host) → IsTrue (starts_none moment host) → start moment host ≡ None
unfolding starts_none
none_starts moment host = by (start moment host)
  where
    by : (o : Option (Stepped Extent)) → IsTrue (not (is_some o)) → o ≡ None
    by None rests = refl
    by (Some x) rests = absurd (true≢false (sym rests))

-- it is kept in mind, so nothing would be found
pub known_idle : (idle : Option ℕ) (now : ℕ) (host : Host) → option_eq nat_eq idle (Some now) ≡ true → IsTrue (is_idle idle host) → start now host ≡ None
known_idle None now host same idle = absurd (true≢false (sym same))
known_idle (Some moment) now host same idle = none_starts now host (subst (λ n. IsTrue (starts_none n host)) (eqb-true moment now same) idle)
