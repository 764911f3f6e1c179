-- Which changes each event of a schedule may make: at which host, for which cause, of which kind.
use Rattle.std.specs.Prelude.{◌≡◌, ◌⊎◌, ℕ, not, List, [], ◌∷◌, ◌++◌, Option, None, Some, if◌then◌else◌}
use Rattle.std.specs.Option.{option_map, option_and_then}
use Rattle.nqs_base_tables.specs.Table.{best_from}
use Rattle.nqs_state.specs.Least.{runs_now, is_less_row}
use Rattle.nqs_rules.specs.Notes.{Why, ByEvent, ByStart, ByBoot, Note, Saw, Kept}
use Rattle.nqs_rules.specs.Run.{happens}
use Rattle.nqs_rules.specs.Step.{completed}
use Rattle.nqs_rules.specs.Tests.{passes}
use Rattle.nqs_rules.specs.World.{World, Host, Act, Asks, Ends, Finishes, Fails, Writes, Leaves, Delivers, Newest, Ticks, Boots, host_of, packet_at}
use Rattle.nqs_rules.specs.World.{newest_between}
use Rattle.nqs_types.specs.declared.ids.HostId.{HostId}
use Rattle.nqs_types.specs.declared.ids.PeerNumber.{PeerNumber}
use Rattle.nqs_types.specs.declared.ids.RequestId.{RequestId}
use Rattle.nqs_types.specs.declared.change.Change.{Change}
use Rattle.nqs_types.specs.declared.change.Change.TheVariants.{Submitted, Deleted, Doomed, Started, Ended, Unlaunched, Boot, Edited, HandOpened}
use Rattle.nqs_types.specs.declared.change.Change.TheVariants.{HandCommitted, HandRefused, HandsSilent, HandDone, Promised, Accepted, Dropped, MovedLocal}
use Rattle.nqs_types.specs.declared.change.Change.TheVariants.{RefusedLocal, HeldFar, StageGot, StageGone, FileGone}
use Rattle.nqs_types.specs.declared.change.OutPart.{OutPart}
use Rattle.nqs_types.specs.declared.event.Command.{Command}
use Rattle.nqs_types.specs.declared.event.Command.TheVariants as command
use Rattle.nqs_types.specs.declared.event.Event.{Event}
use Rattle.nqs_types.specs.declared.event.Event.TheVariants as event
use Rattle.nqs_types.specs.declared.message.Body.{Body}
use Rattle.nqs_types.specs.declared.message.Body.TheVariants as body
use Rattle.nqs_types.specs.declared.message.Message.{Message}
use Rattle.nqs_types.specs.declared.world.Seen.TheVariants as seen

-- the kinds of change

-- silent offers are taken back
abbrev pub TakesBack : Change (List ℕ) → Type 0
TakesBack c = (until : ℕ) × (hands : List PeerNumber) × (c ≡ HandsSilent until hands)

-- a command keeps the job that it submits, deletes or dooms the request of its number, makes its
-- edit, or ticks; what only asks changes nothing
abbrev pub IsByCommand : Command → Change (List ℕ) → Type 0
IsByCommand (command.Submit sub) c = (queue : List ℕ) × (seq : ℕ) × (c ≡ Submitted queue (completed seq sub.folder sub.job) sub.script)
IsByCommand (command.Delete id forced) c = (x : RequestId) × (x.seq ≡ id.seq) × ((c ≡ Deleted x) ⊎ (c ≡ Doomed x))
IsByCommand (command.Edit e) c = c ≡ Edited e
IsByCommand command.Tick c = TakesBack c
IsByCommand _ c = ⊥

-- a datagram moves the handover, the promise or the stage of its sender that has its number; the
-- bytes of a stage go where no number is left for its file
abbrev pub IsByMessage : Body → HostId → Change (List ℕ) → Type 0
IsByMessage (body.Offer n low queue load script) peer c = c ≡ Promised peer n low queue load script
IsByMessage (body.Ready n) peer c = c ≡ HandCommitted peer n
IsByMessage (body.Refused n refusal) peer c = c ≡ HandRefused peer n refusal
IsByMessage (body.Commit n) peer c = c ≡ Accepted peer n
IsByMessage (body.Done n) peer c = c ≡ HandDone peer n
IsByMessage (body.Inquire n) peer c = c ≡ HandCommitted peer n
IsByMessage (body.Abort n) peer c = c ≡ Dropped peer n
IsByMessage (body.Stage n path bytes) peer c = (c ≡ StageGot peer n path bytes) ⊎ (c ≡ StageGot peer n path [])
IsByMessage (body.Staged n) peer c = c ≡ StageGone peer n
IsByMessage _ peer c = ⊥

-- the end of a job ends its request, a failed launch too, a written file is forgotten; one that
-- wasn't written changes nothing
abbrev pub IsByEvent : Event → Change (List ℕ) → Type 0
IsByEvent (event.Ask now port token user command) c = IsByCommand command c
IsByEvent (event.Arrived now m) c = IsByMessage m.body m.from c
IsByEvent (event.Ended now port id start status output error) c = (parts : List (OutPart (List ℕ))) × (c ≡ Ended id parts)
IsByEvent (event.Unlaunched now id start) c = c ≡ Unlaunched id
IsByEvent (event.Written now file) c = c ≡ FileGone file
IsByEvent (event.Unwritten now file) c = ⊥
IsByEvent (event.Tick now) c = TakesBack c

-- a start launches or prints a request, offers it, moves it in its host, or holds it
abbrev pub IsByStart : Change (List ℕ) → Type 0
IsByStart (Started id device) = Unit {0}
IsByStart (HandOpened peer number id queue since) = Unit {0}
IsByStart (MovedLocal id queue) = Unit {0}
IsByStart (RefusedLocal id queue refusal) = Unit {0}
IsByStart (HeldFar id) = Unit {0}
IsByStart _ = ⊥

-- a change is of a kind that its cause makes
abbrev pub IsOfKind : Why → Change (List ℕ) → Type 0
IsOfKind (ByEvent e) c = IsByEvent e c
IsOfKind ByStart c = IsByStart c
IsOfKind ByBoot c = c ≡ Boot

-- the events

-- the host of an event, and why it may change something
abbrev pub Cause : Type 0
Cause = HostId × Why

-- a cause of a host that is up
abbrev pub while_up : HostId → Option Why → World → Option Cause
while_up h why w = if passes (λ host. host.up) (host_of h w) then option_map (λ y. (h, y)) why else None

-- a cause of a host that is down
abbrev pub while_down : HostId → Why → World → Option Cause
while_down h why w = if passes (λ host. not host.up) (host_of h w) then Some (h, why) else None

-- the end of the first job that runs on a host, if one runs
abbrev pub first_end : ℕ → Host → Option Why
first_end now host = option_map (λ p. ByEvent (event.Ended now 0 p.1.id p.1.starts 0 [] [])) (best_from runs_now is_less_row 0 host.state.rows)

-- the arrival of a packet at the host that it was sent to, if there is a packet
abbrev pub arrival : Option Message → World → Option Cause
arrival None w = None
arrival (Some m) w = while_up m.to (Some (ByEvent (event.Arrived w.now m))) w

-- The one host that an event of a schedule may change, and why. None for what only moves the clock,
-- lays a fuse, stops or shows, for an event of a host that is down, and for a boot of one that is
-- up.
abbrev pub cause_of : Act → World → Option Cause
cause_of (Asks h user c) w = while_up h (Some (ByEvent (event.Ask w.now 0 0 user c))) w
cause_of (Ends h id start status output error) w = while_up h (Some (ByEvent (event.Ended w.now 0 id start status output error))) w
cause_of (Finishes h) w = while_up h (option_and_then (first_end w.now) (host_of h w)) w
cause_of (Fails h id start) w = while_up h (Some (ByEvent (event.Unlaunched w.now id start))) w
cause_of (Writes h file) w = while_up h (Some (ByEvent (event.Written w.now file))) w
cause_of (Leaves h file) w = while_up h (Some (ByEvent (event.Unwritten w.now file))) w
cause_of (Delivers k) w = arrival (packet_at k w) w
cause_of (Newest a b) w = arrival (newest_between a b w) w
cause_of (Ticks h) w = while_up h (Some (ByEvent (event.Tick w.now))) w
cause_of (Boots h) w = while_down h ByBoot w
cause_of _ w = None

-- what is noted of an event

-- no change is kept
abbrev pub KeepsNone : List Note → Type 0
KeepsNone [] = Unit {0}
KeepsNone (Saw x ∷ ns) = KeepsNone ns
KeepsNone (Kept h why c ∷ ns) = ⊥

-- This host alone keeps changes: one for this cause at most, which comes first, and then starts,
-- each of its cause's kind, and none behind a stop.
abbrev pub KeepsOwn : HostId → Why → List Note → Type 0
KeepsOwn h own [] = Unit {0}
KeepsOwn h own (Saw (seen.Stop g) ∷ ns) = KeepsNone ns
KeepsOwn h own (Saw x ∷ ns) = KeepsOwn h own ns
KeepsOwn h own (Kept g why c ∷ ns) = (g ≡ h) × ((why ≡ own) ⊎ (why ≡ ByStart)) × IsOfKind why c × KeepsOwn h ByStart ns

-- what a cause lets be kept; without one nothing is
abbrev pub KeepsBy : Option Cause → List Note → Type 0
KeepsBy None ns = KeepsNone ns
KeepsBy (Some (h, why)) ns = KeepsOwn h why ns

-- The notes are those of these events, one after the other from this world on, and each of the
-- events keeps what its cause lets it.
abbrev pub IsCaused : List Act → World → List Note → Type 0
IsCaused [] w ns = ns ≡ []
IsCaused (a ∷ acts) w ns = (rest : List Note) × (ns ≡ (happens a w).notes ++ rest) × KeepsBy (cause_of a w) (happens a w).notes
    × IsCaused acts (happens a w).world rest
