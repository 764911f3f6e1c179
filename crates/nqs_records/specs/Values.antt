-- The values that may stand in a record.
use Rattle.std.specs.Prelude.{ℕ, ◌<◌, ◌^◌, Bool, ◌&&◌, ◌==◌, nat_lt, nat_le, List, length, Option, Some, None, IsTrue}
use Rattle.std.specs.List.{AllByRecursion}
use Rattle.nqs_base.specs.Name.{IsName}
use Rattle.nqs_base.specs.Path.{IsPath}
use Rattle.nqs_rules.specs.Tests.{last_seq}
use Rattle.nqs_types.specs.Scripts.{longest_script}
use Rattle.nqs_types.specs.declared.ids.HostId.{HostId}
use Rattle.nqs_types.specs.declared.ids.RequestId.{RequestId}
use Rattle.nqs_types.specs.declared.ids.PeerNumber.{PeerNumber}
use Rattle.nqs_types.specs.declared.ids.Named.{Named}
use Rattle.nqs_types.specs.declared.ids.NamedDest.{NamedDest}
use Rattle.nqs_base.specs.declared.extent.Extent.{Extent}
use Rattle.nqs_types.specs.declared.request.Job.{Job}
use Rattle.nqs_types.specs.declared.request.Carried.{Carried}
use Rattle.nqs_types.specs.declared.change.OutPart.{OutPart}

-- numbers of one, two, four and eight bytes
abbrev pub IsU8 : ℕ → Type 0
IsU8 n = n < 2 ^ 8

-- a number of 16 bits
abbrev pub IsU16 : ℕ → Type 0
IsU16 n = n < 2 ^ 16

-- a number of 32 bits
abbrev pub IsU32 : ℕ → Type 0
IsU32 n = n < 2 ^ 32

-- a number of 64 bits
abbrev pub IsU64 : ℕ → Type 0
IsU64 n = n < 2 ^ 64

-- either yes or no
abbrev pub IsAny : Bool → Type 0
IsAny b = Unit {0}

-- the limits of numbers
abbrev pub is_host : ℕ → Bool
is_host n = nat_lt n 16

-- the number of a request: from 1 to the greatest
abbrev pub is_seq : ℕ → Bool
is_seq n = nat_le 1 n && nat_le n last_seq

-- whether a number is within a limit
abbrev pub is_at_most : ℕ → ℕ → Bool
is_at_most limit n = nat_le n limit

-- a number is within a limit
abbrev pub IsAtMost : ℕ → ℕ → Type 0
IsAtMost limit n = IsTrue (is_at_most limit n)

-- how many hosts a site may have that has this one
abbrev pub is_site_count : HostId → ℕ → Bool
is_site_count me n = nat_le 1 n && nat_le n 16 && nat_lt me.0 n

-- nothing, or such a value
abbrev pub IsOpt : {A : Type 0} → (A → Type 0) → Option A → Type 0
IsOpt {A} IsValue None = Unit {0}
IsOpt {A} IsValue (Some a) = IsValue a

-- a list of such values, as many as may be
abbrev pub IsList : {A : Type 0} → (ℕ → Type 0) → (A → Type 0) → List A → Type 0
IsList {A} IsCount IsValue xs = IsCount (length xs) × AllByRecursion IsValue xs

-- a host of a site of 16 at most
abbrev pub IsHost : HostId → Type 0
IsHost host = IsTrue (is_host host.0)

-- a request: its number and its host
abbrev pub IsId : RequestId → Type 0
IsId id = IsTrue (is_seq id.seq) × IsHost id.host

-- a place in a spool
abbrev pub IsPlaced : Extent → Type 0
IsPlaced e = IsU64 e.place

-- the range of a spool that a script has
abbrev pub IsScript : Extent → Type 0
IsScript e = IsU64 e.place × IsTrue (is_at_most longest_script e.length)

-- the range of a spool that an output has
abbrev pub IsOutput : Extent → Type 0
IsOutput e = IsU64 e.place × IsTrue (is_at_most 32768 e.length)

-- a job whose fields are within their limits
abbrev pub IsJob : Job → Type 0
IsJob j =
    IsName j.name × IsName j.owner × IsTrue (is_at_most 63 j.priority) × IsU64 j.earliest × IsAny j.rerun
    × IsOpt IsU64 j.limits.cpu × IsOpt IsU64 j.limits.memory × IsOpt IsName j.forms
    × IsPath j.out × IsPath j.err × IsAny j.join

-- it was started as often as it was lost
abbrev pub IsCarried : Carried → Type 0
IsCarried c = IsId c.id × IsJob c.job × IsTrue (is_at_most 65534 c.starts) × IsTrue (c.lost == c.starts) × IsTrue (is_at_most 32 c.hops)

-- an output of a job whose path is one
abbrev pub IsPart : OutPart Extent → Type 0
IsPart p = IsPath p.path × IsOutput p.bytes

-- a handover: its peer and its number
abbrev pub IsHand : PeerNumber → Type 0
IsHand h = IsHost h.peer × IsU64 h.number

-- a destination of two names
abbrev pub IsDest : NamedDest → Type 0
IsDest d = IsName d.queue × IsName d.host

-- a request as people name it: a number from 1 on and a host
abbrev pub IsNamed : Named → Type 0
IsNamed n = IsTrue (is_seq n.seq) × IsName n.host
