-- Which steps a change of a host may take, and of which requests.
use Rattle.std.specs.Prelude.{◌≡◌, ◌⊎◌, ℕ, true, ◌&&◌, List, [], ◌∷◌, Option, None, Some, slice_get}
use Rattle.std.specs.List.{list_any}
use Rattle.nqs_types.specs.Ids.{id_eq}
use Rattle.nqs_state.specs.State.{Plain}
use Rattle.nqs_rules.specs.Tests.{passes}
use Rattle.nqs_rules.specs.Find.{find_row, find_hand, find_promise, meant_request}
use Rattle.nqs_rules.specs.Conf.{row_in, is_queued_in}
use Rattle.nqs_rules.specs.Applied.{applied, next_id}
use Rattle.nqs_rules.specs.Handover.{is_silent}
use Rattle.nqs_rules.specs.Step.{is_start}
use Rattle.nqs_rules.specs.Edits.{change_at}
use Rattle.nqs_rules.specs.Net.{Entry, entry_of, is_table}
use Rattle.nqs_rules.specs.Licence.{Kind, Submit, Delete, Doom, Hold, Release, Move, Open, Back, Route, Arrive, Start, End, Again, Gone, Steps}
use Rattle.nqs_types.specs.declared.ids.HostId.{HostId}
use Rattle.nqs_types.specs.declared.ids.RequestId.{RequestId}
use Rattle.nqs_types.specs.declared.edit.Edit.{Edit}
use Rattle.nqs_types.specs.declared.edit.Edit.TheVariants.{Conf, Rows as RowsOf}
use Rattle.nqs_types.specs.declared.edit.ConfEdit.TheVariants.{PurgeQueue}
use Rattle.nqs_types.specs.declared.edit.RowsEdit.TheVariants.{AbortQueue, HoldRequest, ReleaseRequest, MoveRequest}
use Rattle.nqs_types.specs.declared.message.Body.{Body}
use Rattle.nqs_types.specs.declared.message.Body.TheVariants as body
use Rattle.nqs_types.specs.declared.event.Command.{Command}
use Rattle.nqs_types.specs.declared.event.Command.TheVariants as command
use Rattle.nqs_types.specs.declared.event.Event.{Event}
use Rattle.nqs_types.specs.declared.event.Event.TheVariants as event
use Rattle.nqs_rules.specs.Notes.{Why, ByEvent, ByStart, ByBoot, Note, Saw, Kept}

-- a purge deletes what is queued in its queue, held or not, and nothing on its way; an abort dooms
-- what runs there; and other edits are of the named request
abbrev pub LicensesEdit : Edit → Plain → RequestId → Kind → Type 0
LicensesEdit (Conf (PurgeQueue q)) s x Delete = passes (is_queued_in q) (find_row x s) ≡ true
LicensesEdit (RowsOf (AbortQueue q)) s x Doom = passes (row_in q) (find_row x s) ≡ true
LicensesEdit (RowsOf (HoldRequest id)) s x Hold = meant_request id s ≡ Some x
LicensesEdit (RowsOf (ReleaseRequest id)) s x Release = meant_request id s ≡ Some x
LicensesEdit (RowsOf (MoveRequest id q)) s x Move = meant_request id s ≡ Some x
LicensesEdit _ s x k = ⊥

-- the request is the one that is handed to a peer under this number
abbrev pub IsHanded : HostId → ℕ → Plain → RequestId → Type 0
IsHanded peer n s x = passes (λ y. id_eq x y.id) (find_hand peer n s) ≡ true

-- the request is the one that was promised to a peer under this number
abbrev pub IsPromised : HostId → ℕ → Plain → RequestId → Type 0
IsPromised peer n s x = passes (λ p. id_eq x p.row.id) (find_promise peer n s) ≡ true

-- a message of a peer: what was handed to it goes there or comes back, what was promised to it
-- arrives
abbrev pub LicensesMessage : Body → HostId → Plain → RequestId → Kind → Type 0
LicensesMessage (body.Ready n) peer s x Route = IsHanded peer n s x
LicensesMessage (body.Inquire n) peer s x Route = IsHanded peer n s x
LicensesMessage (body.Refused n refusal) peer s x Back = IsHanded peer n s x
LicensesMessage (body.Commit n) peer s x Arrive = IsPromised peer n s x
LicensesMessage _ peer s x k = ⊥

-- a tick takes back the offers that are silent
abbrev pub LicensesTick : ℕ → Plain → RequestId → Kind → Type 0
LicensesTick now s x Back = list_any (λ y. is_silent now s y && id_eq x y.id) s.hands ≡ true
LicensesTick now s x k = ⊥

-- a command: a submission makes the next request, a deletion takes the one it names, edits and
-- ticks do as above
abbrev pub LicensesCommand : ℕ → Command → Plain → RequestId → Kind → Type 0
LicensesCommand now (command.Submit sub) s x Submit = x ≡ next_id s
LicensesCommand now (command.Delete id forced) s x Delete = meant_request id s ≡ Some x
LicensesCommand now (command.Delete id forced) s x Doom = meant_request id s ≡ Some x
LicensesCommand now (command.Edit e) s x k = LicensesEdit e s x k
LicensesCommand now command.Tick s x k = LicensesTick now s x k
LicensesCommand now _ s x k = ⊥

-- the end of the named request's named start
abbrev pub LicensesEnd : RequestId → ℕ → Plain → RequestId → Kind → Type 0
LicensesEnd id start s x End = (x ≡ id) × (passes (is_start start) (find_row id s) ≡ true)
LicensesEnd id start s x k = ⊥

-- what an event does, by its command, its message, the start that ended, or its tick
abbrev pub LicensesEvent : Event → Plain → RequestId → Kind → Type 0
LicensesEvent (event.Ask now port token user c) s x k = LicensesCommand now c s x k
LicensesEvent (event.Arrived now m) s x k = LicensesMessage m.body m.from s x k
LicensesEvent (event.Ended now port id start status output error) s x k = LicensesEnd id start s x k
LicensesEvent (event.Unlaunched now id start) s x k = LicensesEnd id start s x k
LicensesEvent (event.Tick now) s x k = LicensesTick now s x k
LicensesEvent _ s x k = ⊥

-- what starts or goes on by itself: it is started, offered, moved in its host, or held
abbrev pub LicensesStart : Kind → Type 0
LicensesStart Open = Unit {0}
LicensesStart Move = Unit {0}
LicensesStart Hold = Unit {0}
LicensesStart Start = Unit {0}
LicensesStart _ = ⊥

-- what a boot does with what was running: it is queued again, or goes
abbrev pub LicensesBoot : Kind → Type 0
LicensesBoot Again = Unit {0}
LicensesBoot Gone = Unit {0}
LicensesBoot _ = ⊥

-- what a host in this state may do, for this reason, with this request
abbrev pub Licenses : Why → Plain → RequestId → Kind → Type 0
Licenses (ByEvent e) s x k = LicensesEvent e s x k
Licenses ByStart s x k = LicensesStart k
Licenses ByBoot s x k = LicensesBoot k

-- a request that lies anywhere lies with this host
abbrev pub LiesWith : HostId → Option Entry → Type 0
LiesWith h None = Unit {0}
LiesWith h (Some e) = e.host ≡ h

-- an entry stays as it is, or lies with the host that makes the change and takes one licensed step
abbrev pub IsLicensed : Why → Plain → RequestId → Option Entry → Option Entry → Type 0
IsLicensed why s x a b = (b ≡ a) ⊎ ((k : Kind) × Licenses why s x k × Steps k a b × LiesWith s.me a)

-- After each kept change no request lies in two places, and the change has taken each request by a
-- licensed step at most.
abbrev pub AreLicensed : List Plain → List Note → Type 0
AreLicensed states [] = Unit {0}
AreLicensed states (Saw x ∷ ns) = AreLicensed states ns
AreLicensed states (Kept h why c ∷ ns) =
    let later = change_at h.0 (applied c) states in
    (is_table later ≡ true) × ((s : Plain) → slice_get states h.0 ≡ Some s → (x : RequestId) → IsLicensed why s x (entry_of x states) (entry_of x later))
    × AreLicensed later ns
