-- The one spelling of each value. Fields stand one behind the other, and numbers with their highest
-- byte first.
use Rattle.std.specs.Prelude.{ℕ, Bool, true, false, List, [], ◌∷◌, ◌++◌, length, flat_map, Option, Some, None}
use Rattle.nqs_codec.specs.Fields.{u8_field, u16_field, u32_field, u64_field, short_field, bool_field}
use Rattle.nqs_types.specs.declared.ids.RequestId.{RequestId}
use Rattle.nqs_types.specs.declared.ids.PeerNumber.{PeerNumber}
use Rattle.nqs_types.specs.declared.ids.Named.{Named}
use Rattle.nqs_types.specs.declared.ids.NamedDest.{NamedDest}
use Rattle.nqs_base.specs.declared.extent.Extent.{Extent}
use Rattle.nqs_types.specs.declared.request.Job.{Job}
use Rattle.nqs_types.specs.declared.request.Carried.{Carried}
use Rattle.nqs_types.specs.declared.change.OutPart.{OutPart}

-- fields one behind the other
abbrev pub fields : List (List ℕ) → List ℕ
fields [] = []
fields (f ∷ fs) = f ++ fields fs

-- 0, or 1 and the field of what is there
abbrev pub opt_field : {A : Type 0} → (A → List ℕ) → Option A → List ℕ
opt_field {A} field None = bool_field false
opt_field {A} field (Some a) = bool_field true ++ field a

-- a byte that counts the values, and their fields
unfoldable pub list_field : {A : Type 0} → (A → List ℕ) → List A → List ℕ
list_field {A} field xs = u8_field (length xs) ++ flat_map field xs

-- a request: its number, and the host of its submission
unfoldable pub id_field : RequestId → List ℕ
id_field id = fields (u32_field id.seq ∷ u8_field id.host.0 ∷ [])

-- an extent of the spool: its place and its length
unfoldable pub extent_field : Extent → List ℕ
extent_field e = fields (u64_field e.place ∷ u32_field e.length ∷ [])

-- a job, by its fields in order
unfoldable pub job_field : Job → List ℕ
job_field j = fields (
    short_field j.name ∷ short_field j.owner ∷ u8_field j.priority ∷ u64_field j.earliest ∷ bool_field j.rerun
    ∷ opt_field u64_field j.limits.cpu ∷ opt_field u64_field j.limits.memory ∷ opt_field short_field j.forms
    ∷ short_field j.out ∷ short_field j.err ∷ bool_field j.join ∷ []
    )

-- what goes from host to host with a request
unfoldable pub carried_field : Carried → List ℕ
carried_field c = fields (id_field c.id ∷ job_field c.job ∷ u16_field c.starts ∷ u16_field c.lost ∷ u8_field c.hops ∷ [])

-- an output of a job: its path, and where its bytes are
unfoldable pub part_field : OutPart Extent → List ℕ
part_field p = fields (short_field p.path ∷ extent_field p.bytes ∷ [])

-- a handover, by its peer and its number
unfoldable pub hand_field : PeerNumber → List ℕ
hand_field h = fields (u8_field h.peer.0 ∷ u64_field h.number ∷ [])

-- 1 where it is so, else nothing
abbrev pub one_if : Bool → Option ℕ
one_if true = Some 1
one_if false = None

-- a flag: the number 1, which may be left out
unfoldable pub flag_field : Bool → List ℕ
flag_field is_set = opt_field u64_field (one_if is_set)

-- a destination: the names of a queue and of a host
unfoldable pub dest_field : NamedDest → List ℕ
dest_field d = fields (short_field d.queue ∷ short_field d.host ∷ [])

-- a request as it was typed: its number and the name of its host
unfoldable pub named_field : Named → List ℕ
named_field n = fields (u32_field n.seq ∷ short_field n.host ∷ [])
