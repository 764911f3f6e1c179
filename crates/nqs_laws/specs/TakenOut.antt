-- Why a request goes out of the network.
use Rattle.std.specs.Prelude.{◌≡◌, ◌⊎◌, ℕ, false, List, Some, slice_get}
use Rattle.nqs_state.specs.State.{Plain}
use Rattle.nqs_rules.specs.Applied.{applied}
use Rattle.nqs_rules.specs.Edits.{change_at}
use Rattle.nqs_rules.specs.Licence.{Delete, End, IsIdle, MayStartAgain}
use Rattle.nqs_rules.specs.Net.{Entry, entry_of}
use Rattle.nqs_types.specs.declared.ids.RequestId.{RequestId}
use Rattle.nqs_types.specs.declared.ids.HostId.{HostId}
use Rattle.nqs_types.specs.declared.change.Change.{Change}
use Rattle.nqs_types.specs.declared.table_row.NetState.TheVariants.{Running}
use Rattle.nqs_rules.specs.Notes.{Why, ByBoot}
use Rattle.nqs_laws.specs.Launches.{lies}
use Rattle.nqs_laws.specs.Licensed.{Licenses}

-- a deletion of it or a purge of its queue, while it doesn't run
abbrev pub WasDeleted : Why → Plain → RequestId → Entry → Type 0
WasDeleted why s x a = Licenses why s x Delete × IsIdle a.state

-- its job ended, or couldn't be launched
abbrev pub HasFinished : Why → Plain → RequestId → Entry → Type 0
HasFinished why s x a = Licenses why s x End × (a.state ≡ Running)

-- a boot found it running, and it may not start again: it isn't rerunnable, its job was told to
-- end, or it has no start left
abbrev pub WasLost : Why → Entry → Type 0
WasLost why a = (why ≡ ByBoot) × (a.state ≡ Running) × (MayStartAgain a → ⊥)

-- a change of the host that it lay with took the request out of the network, and why it could
pub record WentOut (x : RequestId) (states : List Plain) (h : HostId) (why : Why) (c : Change (List ℕ)) : Type 0 where
  pub state : Plain
  pub there : slice_get states h.0 ≡ Some state
  pub entry : Entry
  pub lay : entry_of x states ≡ Some entry
  pub here : entry.host ≡ h
  pub gone : lies x (change_at h.0 (applied c) states) ≡ false
  pub cause : (WasDeleted why state x entry) ⊎ (HasFinished why state x entry) ⊎ (WasLost why entry)
