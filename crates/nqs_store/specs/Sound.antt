-- Hosts in order.
use Rattle.std.specs.Prelude.{◌≡◌, true}
use Rattle.std.proofs.Props.{props}
use Rattle.nqs_base.specs.declared.extent.Extent.{Extent}
use Rattle.nqs_rules.specs.InOrder.{IsInOrder, IsConsistent, are_parts_short}
use Rattle.nqs_store.specs.Told.{Host}

-- what holds of each host that records tell
pub record IsSoundHost (host : Host) : Type 0 where
  pub order : IsInOrder host
  pub consistent : IsConsistent host
  pub short : are_parts_short (λ (x : Extent). x.length) host ≡ true

-- a host is in order in one way
pub IsSoundHost-prop : (host : Host) → IsProp (IsSoundHost host)
IsSoundHost-prop host = Prim.hlevel props
