-- What each event may change of the network table, step by step.
use Rattle.std.specs.Prelude.{◌≡◌, ◌+◌, ◌<◌, true, false, Option, None, Some}
use Rattle.nqs_rules.specs.Net.{Entry}
use Rattle.nqs_types.specs.declared.table_row.NetState.{NetState}
use Rattle.nqs_types.specs.declared.table_row.NetState.TheVariants.{Queued, Held, Routing, Arriving, Running}

-- The kinds of step of one request. Each changes its entry alone.
pub data Kind : Type 0 where
  Submit : Kind
  Delete : Kind
  Doom : Kind
  Hold : Kind
  Release : Kind
  Move : Kind
  Open : Kind
  Back : Kind
  Route : Kind
  Arrive : Kind
  Start : Kind
  End : Kind
  Again : Kind
  Gone : Kind

-- the same entry in another state
abbrev pub in_state : NetState → Entry → Entry
in_state state e = record e { state = state }

-- a submitted request: queued at its host, never started
pub record IsNew (e : Entry) : Type 0 where
  pub here : e.host ≡ e.id.host
  pub state : e.state ≡ Queued
  pub doomed : e.doomed ≡ false
  pub starts : e.starts ≡ 0
  pub lost : e.lost ≡ 0

-- a request that runs nothing and lies with its host: queued, held or routing
abbrev pub IsIdle : NetState → Type 0
IsIdle Queued = Unit {0}
IsIdle Held = Unit {0}
IsIdle Routing = Unit {0}
IsIdle Arriving = ⊥
IsIdle Running = ⊥

-- a request that waits in its queue: queued or held
abbrev pub IsWaiting : NetState → Type 0
IsWaiting Queued = Unit {0}
IsWaiting Held = Unit {0}
IsWaiting Routing = ⊥
IsWaiting Arriving = ⊥
IsWaiting Running = ⊥

-- a running request that may start again: rerunnable, not doomed, and with a start left
abbrev pub MayStartAgain : Entry → Type 0
MayStartAgain e = (e.rerun ≡ true) × (e.doomed ≡ false) × (e.starts < 65535)

-- what goes from host to host with a request
abbrev pub IsCarried : Entry → Entry → Type 0
IsCarried a b = (b.id ≡ a.id) × (b.owner ≡ a.owner) × (b.rerun ≡ a.rerun) × (b.doomed ≡ a.doomed) × (b.starts ≡ a.starts) × (b.lost ≡ a.lost)

-- one step of one request, from its entry to its entry; none where it isn't in the table
abbrev pub Steps : Kind → Option Entry → Option Entry → Type 0
Steps Submit None (Some b) = IsNew b
Steps Delete (Some a) None = IsIdle a.state
Steps Doom (Some a) (Some b) = (a.state ≡ Running) × (b ≡ record a { doomed = true })
Steps Hold (Some a) (Some b) = (a.state ≡ Queued) × (b ≡ in_state Held a)
Steps Release (Some a) (Some b) = (a.state ≡ Held) × (b ≡ in_state Queued a)
Steps Move (Some a) (Some b) = IsWaiting a.state × (b ≡ record a { queue = b.queue })
Steps Open (Some a) (Some b) = (a.state ≡ Queued) × (b ≡ in_state Routing a)
Steps Back (Some a) (Some b) = (a.state ≡ Routing) × IsWaiting b.state × (b ≡ in_state b.state a)
Steps Route (Some a) (Some b) = (a.state ≡ Routing) × (b.state ≡ Arriving) × ((b.host ≡ a.host) → ⊥) × IsCarried a b
Steps Arrive (Some a) (Some b) = (a.state ≡ Arriving) × (b ≡ in_state Queued a)
Steps Start (Some a) (Some b) = (a.state ≡ Queued) × (b ≡ record (in_state Running a) { starts = a.starts + 1 })
Steps End (Some a) None = a.state ≡ Running
Steps Again (Some a) (Some b) = (a.state ≡ Running) × MayStartAgain a × (b ≡ record (in_state Queued a) { lost = a.lost + 1 })
Steps Gone (Some a) None = (a.state ≡ Running) × (MayStartAgain a → ⊥)
Steps _ _ _ = ⊥
