-- The values that may stand in a snapshot: those that have a field.
use Rattle.std.specs.Prelude.{◌≡◌, ℕ, zero, suc, ◌-◌, IsTrue, List, [], ◌∷◌}
use Rattle.nqs_base.specs.Name.{IsName}
use Rattle.nqs_base.specs.Path.{IsPath}
use Rattle.nqs_base.specs.declared.extent.Extent.{Extent}
use Rattle.nqs_types.specs.declared.ids.Dest.{Dest}
use Rattle.nqs_types.specs.declared.request.Limits.{Limits}
use Rattle.nqs_types.specs.declared.request.Refused.{Refused}
use Rattle.nqs_types.specs.declared.request.Row.{Row}
use Rattle.nqs_types.specs.declared.request.Hand.{Hand}
use Rattle.nqs_types.specs.declared.request.Promise.{Promise}
use Rattle.nqs_types.specs.declared.request.Peer.{Peer}
use Rattle.nqs_types.specs.declared.request.Stage.{Stage}
use Rattle.nqs_types.specs.declared.request.FileOut.{FileOut}
use Rattle.nqs_types.specs.declared.queue.Access.{Access}
use Rattle.nqs_types.specs.declared.queue.Access.TheVariants.{All, Users}
use Rattle.nqs_types.specs.declared.queue.QueueDef.{QueueDef}
use Rattle.nqs_types.specs.declared.queue.ComplexDef.{ComplexDef}
use Rattle.nqs_types.specs.declared.queue.DeviceDef.{DeviceDef}
use Rattle.nqs_state.specs.State.{State}
use Rattle.nqs_snapshot.specs.Spelling.{closed_up_to}
use Rattle.nqs_records.specs.Values.{is_at_most, IsU8, IsU16, IsU32, IsU64, IsAny, IsOpt, IsList, IsHost, IsId, IsScript, IsOutput, IsJob}

-- as many values as a number of 64 bits counts
abbrev pub IsMany : {A : Type 0} → (A → Type 0) → List A → Type 0
IsMany {A} IsValue xs = IsList IsU64 IsValue xs

-- everybody, or the users of a list
abbrev pub IsAccess : Access → Type 0
IsAccess All = Unit {0}
IsAccess (Users users) = IsMany IsName users

-- numbers of 64 bits, or nothing
abbrev pub IsLimits : Limits → Type 0
IsLimits l = IsOpt IsU64 l.cpu × IsOpt IsU64 l.memory

-- a queue of a host
abbrev pub IsDest : Dest → Type 0
IsDest d = IsName d.queue × IsHost d.host

-- a queue's settings: its priority is at most 63
abbrev pub AreSettings : QueueDef → Type 0
AreSettings q = IsName q.name × IsTrue (is_at_most 63 q.priority) × IsU16 q.run_limit × IsOpt IsU16 q.user_limit × IsLimits q.limits

-- a queue, with lists that can be counted
abbrev pub IsQueue : QueueDef → Type 0
IsQueue q = AreSettings q × IsAccess q.access × IsMany IsDest q.dests × IsMany IsName q.devices

-- a complex: names, and a limit of 16 bits
abbrev pub IsComplex : ComplexDef → Type 0
IsComplex c = IsName c.name × IsU16 c.limit × IsMany IsName c.queues

-- a device: names
abbrev pub IsDevice : DeviceDef → Type 0
IsDevice d = IsName d.name × IsName d.forms × IsAny d.enabled

-- a destination, and a number of one byte
abbrev pub IsRefused : Refused → Type 0
IsRefused r = IsDest r.dest × IsU8 r.cause

-- where a request stands: it has moved 32 times at most
abbrev pub IsCourse : Row Extent → Type 0
IsCourse r =
    IsName r.queue × IsU64 r.arrival × IsU16 r.starts × IsU16 r.lost × IsTrue (is_at_most 32 r.hops) × IsOpt IsName r.device

-- a request whose fields are within their limits
abbrev pub IsRow : Row Extent → Type 0
IsRow r = IsId r.id × IsJob r.job × IsCourse r × IsMany IsRefused r.refused × IsScript r.script

-- a handover of a request to a host
abbrev pub IsHand : Hand → Type 0
IsHand h = IsHost h.peer × IsU64 h.number × IsId h.id × IsName h.queue × IsU64 h.since

-- a request of a host
abbrev pub IsPromise : Promise Extent → Type 0
IsPromise p = IsHost p.peer × IsU64 p.number × IsRow p.row

-- numbers of 64 bits
abbrev pub IsPeer : Peer → Type 0
IsPeer p = IsU64 p.next × IsU64 p.floor × IsMany IsU64 p.closed × IsU64 p.wait × IsU64 p.stage_next × IsU64 p.stage_got

-- the numbers up to this one are closed: the floor is the one below it
abbrev pub floor_below : ℕ → ℕ
floor_below number = number - 1

-- and it stands alone above the floor, unless no number is closed
abbrev pub alone_above : ℕ → List ℕ
alone_above zero = []
alone_above (suc n) = suc n ∷ []

-- each number up to one of 64 bits is closed, and no other
abbrev pub IsClosedUpTo : Peer → ℕ → Type 0
IsClosedUpTo p number = IsU64 number × (p.floor ≡ floor_below number) × (p.closed ≡ alone_above number)

-- what an old peer became
abbrev pub IsOldPeer : Peer → Type 0
IsOldPeer p = IsU64 p.next × IsClosedUpTo p (closed_up_to p.closed) × IsU64 p.wait × IsU64 p.stage_next × IsU64 p.stage_got

-- an output on its way to a path of a host
abbrev pub IsStage : Stage Extent → Type 0
IsStage t = IsHost t.peer × IsU64 t.number × IsPath t.path × IsOutput t.bytes

-- an output that is to be written to a path
abbrev pub IsFile : FileOut Extent → Type 0
IsFile f = IsU64 f.number × IsPath f.path × IsOutput f.bytes

-- the values of the first part
abbrev pub MayStandSite : State Extent → Type 0
MayStandSite s = IsHost s.me × IsMany IsName s.site × IsMany IsQueue s.queues × IsMany IsComplex s.complexes × IsMany IsDevice s.devices

-- those of the requests
abbrev pub MayStandRequests : State Extent → Type 0
MayStandRequests s = IsMany IsRow s.rows × IsMany IsHand s.hands × IsMany IsPromise s.promises

-- those of the dealings
abbrev pub MayStandDealings : State Extent → Type 0
MayStandDealings s = IsMany IsStage s.stages × IsMany IsFile s.files × IsMany IsName s.managers × IsMany IsName s.operators

-- those of the parameters and counters
abbrev pub MayStandCounters : State Extent → Type 0
MayStandCounters s =
    IsOpt IsName s.default_queue × IsU16 s.global_limit × IsU64 s.patience × IsU64 s.retry_wait × IsU32 s.seq × IsU64 s.arrivals
    × IsU64 s.file_next

-- each value of a state has a field, and its peers are such
abbrev pub MayStandBy : (Peer → Type 0) → State Extent → Type 0
MayStandBy IsKnown s = MayStandSite s × MayStandRequests s × IsMany IsKnown s.peers × MayStandDealings s × MayStandCounters s

-- each value of a state has a field
abbrev pub MayStand : State Extent → Type 0
MayStand s = MayStandBy IsPeer s

-- the same by the spelling of version 1
abbrev pub MayStandOld : State Extent → Type 0
MayStandOld s = MayStandBy IsOldPeer s
