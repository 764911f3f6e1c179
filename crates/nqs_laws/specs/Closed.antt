-- How the numbers of handovers are closed. A number is closed at a receiver where `is_closed_for`
-- says so.
use Rattle.std.specs.Prelude.{◌≡◌, ◌<◌, ℕ, true, false, List, Some, is_some, slice_get}
use Rattle.nqs_state.specs.State.{Plain}
use Rattle.nqs_rules.specs.Applied.{applied}
use Rattle.nqs_rules.specs.Find.{find_hand}
use Rattle.nqs_types.specs.declared.ids.HostId.{HostId}
use Rattle.nqs_types.specs.declared.change.Change.{Change}
use Rattle.nqs_types.specs.declared.change.Change.TheVariants.{Promised, Accepted, Dropped}
use Rattle.nqs_laws.specs.Handovers.{is_closed_for}

-- the states of all hosts have this one of a host
abbrev pub HasState : List Plain → HostId → Plain → Type 0
HasState states h s = slice_get states h.0 ≡ Some s

-- a change closes a number of a sender that was open at the host until then
abbrev pub IsClosedBy : Change (List ℕ) → HostId → ℕ → Plain → Type 0
IsClosedBy c from n t = (is_closed_for from n t ≡ false) × (is_closed_for from n (applied c t) ≡ true)

-- the sender has no handover of this number to the host, offered or committed
abbrev pub HasNoHand : List Plain → HostId → HostId → ℕ → Type 0
HasNoHand states from to n = (s : Plain) → HasState states from s → is_some (find_hand to n s) ≡ false

-- the numbers that a change may close: a promise that is accepted or dropped closes its own, a new
-- promise those below its low, which have no handover, and no other change any
abbrev pub MayClose : Change (List ℕ) → List Plain → HostId → HostId → ℕ → Type 0
MayClose (Accepted peer number) states h from n = (from ≡ peer) × (n ≡ number)
MayClose (Dropped peer number) states h from n = (from ≡ peer) × (n ≡ number)
MayClose (Promised peer number low queue c script) states h from n = (from ≡ peer) × (n < low) × HasNoHand states from h n
MayClose c states h from n = ⊥

-- the number that a change does close
abbrev pub ClosesOwn : Change (List ℕ) → Plain → Type 0
ClosesOwn (Accepted peer number) t = is_closed_for peer number (applied (Accepted peer number) t) ≡ true
ClosesOwn (Dropped peer number) t = is_closed_for peer number (applied (Dropped peer number) t) ≡ true
ClosesOwn c t = Unit {0}
