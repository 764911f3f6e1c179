-- What a shepherd sends, and how its wait ends.
use Rattle.std.specs.Prelude.{◌≡◌, ℕ, ◌≤◌, Bool, true, false, ◌&&◌, ◌==◌, List, [], ◌∷◌, ◌++◌, length, take}
use Rattle.std.specs.List.{list_any, flat_map}
use Rattle.std.specs.declared.option.Option.{Option}
use Rattle.std.specs.declared.option.Option.TheVariants.{None, Some}
use Rattle.nqs_types.specs.Ids.{id_eq}
use Rattle.nqs_types.specs.declared.ids.HostId.{HostId}
use Rattle.nqs_types.specs.declared.ids.RequestId.{RequestId}
use Rattle.nqs_types.specs.declared.message.Body.{Body}
use Rattle.nqs_types.specs.declared.message.Body.TheVariants.{Ended, EndedAck}
use Rattle.nqs_types.specs.declared.message.Message.{Message}
use Rattle.nqs_outside.specs.Asked.{Arrival, Packet, Traffic, inbound, outbound, Job, ran}
use Rattle.nqs_outside.specs.Causes.{Rose}
use Rattle.nqs_outside.specs.Told.{Extends}
use Rattle.nqs_outside.specs.declared.runner.RunEnd.{RunEnd}
use Rattle.nqs_clients.specs.Datagrams.{message_in, datagram, UpTo}
use Rattle.nqs_clients.specs.declared.datagram.WaitStop.{WaitStop}
use Rattle.nqs_clients.specs.declared.datagram.WaitStop.TheVariants as stop
use Rattle.nqs_clients.specs.declared.shepherding.ShepherdEnd.{ShepherdEnd}
use Rattle.nqs_clients.specs.declared.shepherding.ShepherdEnd.TheVariants.{Told, NoAnswer, WireFault, Unread, Memory}

-- what is told of a job that ended so: its outputs as far as their first 16,384 bytes, and status
-- 127 where it was not run
abbrev pub ended : ℕ → RequestId → ℕ → Option RunEnd → Body
ended port id start (Some end) = Ended port id start end.status (take 16384 end.out) (take 16384 end.err)
ended port id start None = Ended port id start 127 [] []

-- what is said is that the end of this start of the request is known
abbrev pub is_ack_body : RequestId → ℕ → Body → Bool
is_ack_body id start (EndedAck other at) = id_eq other id && at == start
is_ack_body id start _ = false

-- the host acknowledges the end of this job to itself
abbrev pub is_ack : HostId → RequestId → ℕ → Option Message → Bool
is_ack host id start None = false
is_ack host id start (Some message) = message.from.0 == host.0 && message.to.0 == host.0 && is_ack_body id start message.body

-- does the arrival bring that acknowledgement?
abbrev pub acknowledges : HostId → RequestId → ℕ → Arrival → Bool
acknowledges host id start arrival = is_ack host id start (message_in arrival)

-- how a wait ends that stopped
abbrev pub stopped : WaitStop → ShepherdEnd
stopped stop.Fault = WireFault
stopped (stop.Unread unread) = Unread unread
stopped (stop.Memory memory) = Memory memory

-- the datagram was sent before each receive, and this came
abbrev pub rounds : Packet → List Arrival → List Traffic
rounds told arrivals = flat_map (λ a. outbound told ∷ inbound a ∷ []) arrivals

-- where the last receive failed, the last datagram stands alone
abbrev pub unanswered : Packet → ShepherdEnd → List Traffic
unanswered told WireFault = outbound told ∷ []
unanswered told _ = []

-- The wait ended so, by what came: with the first acknowledgement, or after ten receives that
-- brought none. Memory may be wanting to read the last that came; or for the datagram, and then
-- nothing came.
abbrev pub EndsBy : (Arrival → Bool) → List Arrival → ShepherdEnd → Type 0
EndsBy test arrivals Told = (last : Arrival) × UpTo test arrivals last × (test last ≡ true)
EndsBy test arrivals NoAnswer = (length arrivals ≡ 10) × (list_any test arrivals ≡ false)
EndsBy test arrivals WireFault = (length arrivals ≤ 9) × (list_any test arrivals ≡ false)
EndsBy test arrivals (Unread unread) = (last : Arrival) × UpTo test arrivals last
EndsBy test arrivals (Memory memory) = arrivals ≡ []

-- These came, the datagram was sent once before each receive, and the wait ended so.
abbrev pub Waits : (Arrival → Bool) → Packet → Option (List Traffic) → Option (List Traffic) → ShepherdEnd → Type 0
Waits test told was now end = (arrivals : List Arrival) × Extends was now (rounds told arrivals ++ unanswered told end) × EndsBy test arrivals end

-- the count of receives that failed has not fallen, and it rose at a fault of the wire; at any other
-- end none failed
abbrev pub EndsWith : ℕ → ℕ → ShepherdEnd → Type 0
EndsWith before now WireFault = (before ≤ now) × Rose before now
EndsWith before now _ = now ≡ before

-- The job was run once, and what was told is its end.
abbrev pub Shepherds : HostId → ℕ → RequestId → ℕ → Option (List Job) → Option (List Job) → Option (List Traffic) → Option (List Traffic) → ShepherdEnd
    → Type 0
Shepherds host port id start runs runs' was now result = (end : Option RunEnd) × Extends runs runs' (ran id start end ∷ [])
    × Waits (acknowledges host id start) (datagram host (ended port id start end)) was now result
