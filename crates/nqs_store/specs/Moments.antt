-- What holds at each moment of calls of a host's disks.
use Rattle.std.specs.Prelude.{◌≢◌, ◌⊎◌, ℕ, List, take}
use Rattle.nqs_types.specs.declared.world.Which.{Which}
use Rattle.nqs_outside.specs.History.{History}
use Rattle.nqs_store.specs.Hosts.{HostCall, EachPrefix}
use Rattle.nqs_store.specs.Commits.{IsSettled}

-- At each moment of the run whatever images the disks may leave have P, and at most one of the
-- disks has writes pending.
pub record Moments (old : Which → History) (run : List HostCall) (P : (Which → List ℕ) → Type 0) : Type 0 where
  pub told : EachPrefix old run P
  pub settled : (j : ℕ) (v w : Which) → v ≢ w → IsSettled old (take j run) v ⊎ IsSettled old (take j run) w
