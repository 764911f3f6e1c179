-- What a plan does, and when it may be carried out.
use Rattle.std.specs.Prelude.{◌≡◌, ℕ, List, Option, length, map, IsTrue, IfSome}
use Rattle.std.specs.List.{AllByRecursion}
use Rattle.std.specs.Option.{option_map}
use Rattle.nqs_base.specs.declared.extent.Extent.{Extent}
use Rattle.nqs_types.specs.declared.change.Change.{Change}
use Rattle.nqs_types.specs.declared.event.Plan.{Plan}
use Rattle.nqs_records.specs.Values.{IsPlaced}
use Rattle.nqs_rules.specs.Filled.{filled}
use Rattle.nqs_rules.specs.Fits.{fits}
use Rattle.nqs_rules.specs.Sane.{is_sane_change, is_short_change}
use Rattle.nqs_rules.specs.Stepped.{Stepped, puts_of, stored_parts, shown}
use Rattle.nqs_store.specs.Puts.{AreShortFor, length_of}
use Rattle.nqs_store.specs.Told.{Host}
use Rattle.nqs_host_laws.specs.Offers.{takes_back_few}
use Rattle.nqs_node.specs.Carried.{Kept}
use Rattle.nqs_node.specs.Reading.{read_into, AreLiveReads}

-- the change may be kept at a host, with these bytes
pub record MayBeKept (host : Host) (bytes : List (List ℕ)) (change : Change Extent) : Type 0 where
  pub fit : IsTrue (fits change host)
  pub sane : IsTrue (is_sane_change change)
  pub few : IsTrue (takes_back_few change)
  pub extents : AllByRecursion IsPlaced (stored_parts change)
  pub small : IsTrue (is_short_change length_of change)
  pub as_many : length bytes ≡ length (stored_parts change)
  pub short : AreShortFor change bytes

-- with these bytes it is what is to be kept
pub record IsKeptWith (change : Option (Change Extent)) (bytes : List (List ℕ)) (kept : Kept) : Type 0 where
  pub is : option_map (λ c. filled c bytes) change ≡ kept
  pub stored : bytes ≡ puts_of kept

-- the plan may be carried out at a host
pub record MayBeDone (host : Host) (plan : Plan) : Type 0 where
  pub kept : IfSome plan.change (MayBeKept host plan.puts)
  pub live : AreLiveReads host plan.reads

-- the plan does this, where its extents have these bytes
pub record Does (bytes : Extent → List ℕ) (plan : Plan) (done : Stepped (List ℕ)) : Type 0 where
  pub kept : IsKeptWith plan.change plan.puts done.change
  pub said : read_into bytes plan.reads plan.outputs ≡ map shown done.outputs
