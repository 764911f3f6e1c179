-- What one change does to all the requests that it means, at once.
use Rattle.std.specs.Prelude.{◌≡◌, ℕ, Bool, true, false, not, ◌&&◌, List, Option, None, Some}
use Rattle.std.specs.List.{list_any}
use Rattle.nqs_base.specs.Same.{name_eq}
use Rattle.nqs_state.specs.State.{Plain}
use Rattle.nqs_rules.specs.Applied.{applied}
use Rattle.nqs_rules.specs.Edits.{change_at}
use Rattle.nqs_rules.specs.Handover.{is_silent}
use Rattle.nqs_rules.specs.Net.{Entry, entry_of}
use Rattle.nqs_types.specs.declared.ids.HostId.{HostId}
use Rattle.nqs_types.specs.declared.ids.RequestId.{RequestId}
use Rattle.nqs_types.specs.declared.table_row.NetState.{NetState}
use Rattle.nqs_types.specs.declared.table_row.NetState.TheVariants.{Queued, Held, Running}
use Rattle.nqs_types.specs.declared.change.Change.TheVariants.{Boot, Edited}
use Rattle.nqs_types.specs.declared.edit.Edit.TheVariants.{Conf, Rows as RowsOf}
use Rattle.nqs_types.specs.declared.edit.ConfEdit.TheVariants.{PurgeQueue}
use Rattle.nqs_types.specs.declared.edit.RowsEdit.TheVariants.{AbortQueue}
use Rattle.nqs_types.specs.declared.event.Command.TheVariants as command
use Rattle.nqs_types.specs.declared.event.Event.TheVariants as event
use Rattle.nqs_rules.specs.Notes.{Why, ByEvent}
use Rattle.nqs_laws.specs.Each.{OfChange}
use Rattle.nqs_laws.specs.Closed.{HasState}

-- running
abbrev pub is_run : NetState → Bool
is_run Running = true
is_run _ = false

-- queued, held or not
abbrev pub is_waiting : NetState → Bool
is_waiting Queued = true
is_waiting Held = true
is_waiting _ = false

-- a request that runs
abbrev pub runs : Entry → Bool
runs e = is_run e.state

-- a request that waits in this queue
abbrev pub waits_in : List ℕ → Entry → Bool
waits_in q e = is_waiting e.state && name_eq q e.queue

-- a request that runs from this queue, and isn't doomed
abbrev pub runs_on_in : List ℕ → Entry → Bool
runs_on_in q e = is_run e.state && name_eq q e.queue && not e.doomed

-- no request that lies with this host passes the test
abbrev pub NoneAt : (Entry → Bool) → HostId → List Plain → Type 0
NoneAt test h states = (x : RequestId) (e : Entry) → entry_of x states ≡ Some e → e.host ≡ h → test e ≡ false

-- A boot leaves none running on its host, a purge none waiting in its queue, an abort none running
-- from its queue that isn't doomed.
abbrev pub LeavesNone : OfChange
LeavesNone states h why Boot = NoneAt runs h (change_at h.0 (applied Boot) states)
LeavesNone states h why (Edited (Conf (PurgeQueue q))) = NoneAt (waits_in q) h (change_at h.0 (applied (Edited (Conf (PurgeQueue q)))) states)
LeavesNone states h why (Edited (RowsOf (AbortQueue q))) = NoneAt (runs_on_in q) h (change_at h.0 (applied (Edited (RowsOf (AbortQueue q)))) states)
LeavesNone states h why c = Unit {0}

-- none of the host's offers is silent at this moment
abbrev pub has_no_silence : ℕ → Plain → Bool
has_no_silence now s = not (list_any (is_silent now s) s.hands)

-- the moment of a tick
abbrev pub tick_moment : Why → Option ℕ
tick_moment (ByEvent (event.Tick now)) = Some now
tick_moment (ByEvent (event.Ask now port token user command.Tick)) = Some now
tick_moment why = None

-- A tick that is kept takes back each offer that is silent.
abbrev pub TakesBackAll : OfChange
TakesBackAll states h why c = (now : ℕ) → tick_moment why ≡ Some now → (t : Plain) → HasState states h t → has_no_silence now (applied c t) ≡ true
