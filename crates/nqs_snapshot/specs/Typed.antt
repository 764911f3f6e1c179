-- What their types say of the values of a state: names are names, numbers fit, and lists can be
-- counted.
use Rattle.std.specs.Prelude.{IsTrue}
use Rattle.nqs_base.specs.Name.{IsName}
use Rattle.nqs_base.specs.declared.extent.Extent.{Extent}
use Rattle.nqs_types.specs.declared.ids.Dest.{Dest}
use Rattle.nqs_types.specs.declared.request.Job.{Job}
use Rattle.nqs_types.specs.declared.request.Refused.{Refused}
use Rattle.nqs_types.specs.declared.request.Row.{Row}
use Rattle.nqs_types.specs.declared.request.Hand.{Hand}
use Rattle.nqs_types.specs.declared.request.Promise.{Promise}
use Rattle.nqs_types.specs.declared.request.Stage.{Stage}
use Rattle.nqs_types.specs.declared.request.FileOut.{FileOut}
use Rattle.nqs_types.specs.declared.queue.QueueDef.{QueueDef}
use Rattle.nqs_state.specs.State.{State}
use Rattle.nqs_rules.specs.Sane.{is_sane_job}
use Rattle.nqs_records.specs.Values.{IsU8, IsU16, IsU64, IsOpt, IsJob}
use Rattle.nqs_snapshot.specs.Values.{IsMany, IsAccess, IsLimits, IsComplex, IsDevice, IsPeer, MayStandCounters}

-- a destination: its queue's name
abbrev pub IsTypedDest : Dest → Type 0
IsTypedDest d = IsName d.queue

-- a queue's settings
abbrev pub AreTypedSettings : QueueDef → Type 0
AreTypedSettings q = IsName q.name × IsU16 q.run_limit × IsOpt IsU16 q.user_limit × IsLimits q.limits

-- a queue
abbrev pub IsTypedQueue : QueueDef → Type 0
IsTypedQueue q = AreTypedSettings q × IsAccess q.access × IsMany IsTypedDest q.dests × IsMany IsName q.devices

-- a job: one that the rules call sane has fields
abbrev pub IsTypedJob : Job → Type 0
IsTypedJob j = IsTrue (is_sane_job j) → IsJob j

-- a destination that refused
abbrev pub IsTypedRefused : Refused → Type 0
IsTypedRefused r = IsName r.dest.queue × IsU8 r.cause

-- where a request stands
abbrev pub IsTypedCourse : Row Extent → Type 0
IsTypedCourse r = IsName r.queue × IsU64 r.arrival × IsU16 r.starts × IsU16 r.lost × IsOpt IsName r.device

-- a request
abbrev pub IsTypedRow : Row Extent → Type 0
IsTypedRow r = IsTypedJob r.job × IsTypedCourse r × IsMany IsTypedRefused r.refused × IsU64 r.script.place

-- a handover
abbrev pub IsTypedHand : Hand → Type 0
IsTypedHand h = IsU64 h.number × IsName h.queue × IsU64 h.since

-- a promise
abbrev pub IsTypedPromise : Promise Extent → Type 0
IsTypedPromise p = IsU64 p.number × IsTypedRow p.row

-- an output on its way
abbrev pub IsTypedStage : Stage Extent → Type 0
IsTypedStage t = IsU64 t.number × IsU64 t.bytes.place

-- an output that is to be written
abbrev pub IsTypedFile : FileOut Extent → Type 0
IsTypedFile f = IsU64 f.number × IsU64 f.bytes.place

-- the values of the first part
abbrev pub IsTypedSite : State Extent → Type 0
IsTypedSite s = IsMany IsName s.site × IsMany IsTypedQueue s.queues × IsMany IsComplex s.complexes × IsMany IsDevice s.devices

-- those of the requests
abbrev pub AreTypedRequests : State Extent → Type 0
AreTypedRequests s = IsMany IsTypedRow s.rows × IsMany IsTypedHand s.hands × IsMany IsTypedPromise s.promises

-- those of the dealings
abbrev pub AreTypedDealings : State Extent → Type 0
AreTypedDealings s =
    IsMany IsPeer s.peers × IsMany IsTypedStage s.stages × IsMany IsTypedFile s.files × IsMany IsName s.managers × IsMany IsName s.operators

-- each value of a state
abbrev pub IsTyped : State Extent → Type 0
IsTyped s = IsTypedSite s × AreTypedRequests s × AreTypedDealings s × MayStandCounters s
