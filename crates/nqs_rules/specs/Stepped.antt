-- What one step of a host does: at most one change, what goes out, and whether the host halts.
use Rattle.std.specs.Prelude.{ℕ, ◌+◌, Bool, false, List, [], ◌∷◌, ◌++◌, map, Option, None, Some}
use Rattle.std.specs.Option.{option_map}
use Rattle.nqs_base.specs.declared.extent.Extent.{Extent}
use Rattle.nqs_types.specs.declared.ids.HostId.{HostId}
use Rattle.nqs_types.specs.declared.message.Body.{Body}
use Rattle.nqs_types.specs.declared.message.Body.TheVariants as body
use Rattle.nqs_types.specs.declared.change.OutPart.{OutPart}
use Rattle.nqs_types.specs.declared.change.Change.{Change}
use Rattle.nqs_types.specs.declared.change.Change.TheVariants.{Site, Submitted, Deleted, Doomed, Started, Ended, Unlaunched, Boot, Edited, HandOpened}
use Rattle.nqs_types.specs.declared.change.Change.TheVariants.{HandCommitted, HandRefused, HandsSilent, HandDone, OldPromised, Promised, Accepted, Dropped}
use Rattle.nqs_types.specs.declared.change.Change.TheVariants.{MovedLocal}
use Rattle.nqs_types.specs.declared.change.Change.TheVariants.{RefusedLocal, HeldFar, StageGot, StageGone, FileGone}
use Rattle.nqs_types.specs.declared.event.Reply.{Reply}
use Rattle.nqs_types.specs.declared.event.Output.{Output}
use Rattle.nqs_types.specs.declared.event.Output.TheVariants as out
use Rattle.nqs_types.specs.declared.event.Plan.{Plan}
use Rattle.nqs_types.specs.declared.event.PlanRead.{PlanRead}

-- an output with its bytes mapped
abbrev pub map_part : {E F : Type 0} → (E → F) → OutPart E → OutPart F
map_part f part = record { path = part.path; bytes = f part.bytes }

-- a change, with each stored part replaced
abbrev pub map_change : {E F : Type 0} → (E → F) → Change E → Change F
map_change f (Site me site) = Site me site
map_change f (Submitted queue job script) = Submitted queue job (f script)
map_change f (Deleted id) = Deleted id
map_change f (Doomed id) = Doomed id
map_change f (Started id device) = Started id device
map_change f (Ended id parts) = Ended id (map (map_part f) parts)
map_change f (Unlaunched id) = Unlaunched id
map_change f Boot = Boot
map_change f (Edited e) = Edited e
map_change f (HandOpened peer number id queue since) = HandOpened peer number id queue since
map_change f (HandCommitted peer number) = HandCommitted peer number
map_change f (HandRefused peer number refusal) = HandRefused peer number refusal
map_change f (HandsSilent until hands) = HandsSilent until hands
map_change f (HandDone peer number) = HandDone peer number
map_change f (OldPromised peer number queue c script) = OldPromised peer number queue c (f script)
map_change f (Promised peer number low queue c script) = Promised peer number low queue c (f script)
map_change f (Accepted peer number) = Accepted peer number
map_change f (Dropped peer number) = Dropped peer number
map_change f (MovedLocal id queue) = MovedLocal id queue
map_change f (RefusedLocal id queue refusal) = RefusedLocal id queue refusal
map_change f (HeldFar id) = HeldFar id
map_change f (StageGot peer number path bytes) = StageGot peer number path (f bytes)
map_change f (StageGone peer number) = StageGone peer number
map_change f (FileGone file) = FileGone file

-- the bytes of an output
abbrev pub part_bytes : {E : Type 0} → OutPart E → E
part_bytes part = part.bytes

-- the stored parts of a change, in order
abbrev pub stored_parts : {E : Type 0} → Change E → List E
stored_parts (Submitted queue job script) = script ∷ []
stored_parts (Ended id parts) = map part_bytes parts
stored_parts (OldPromised peer number queue c script) = script ∷ []
stored_parts (Promised peer number low queue c script) = script ∷ []
stored_parts (StageGot peer number path bytes) = bytes ∷ []
stored_parts _ = []

-- an output, and what stands for its bytes in the spool, if they are kept there
abbrev pub Pending : Type 0 → Type 0
Pending E = Output × Option E

-- a message with the bytes that it sends
abbrev pub sent_with : List ℕ → Body → Body
sent_with bytes (body.Offer number low queue c _) = body.Offer number low queue c bytes
sent_with bytes (body.Stage number path _) = body.Stage number path bytes
sent_with bytes b = b

-- an output with the bytes that were kept for it
abbrev pub with_bytes : List ℕ → Output → Output
with_bytes bytes (out.Launch order _) = out.Launch order bytes
with_bytes bytes (out.Print device order _) = out.Print device order bytes
with_bytes bytes (out.File file path _) = out.File file path bytes
with_bytes bytes (out.Send m) = out.Send (record { from = m.from; to = m.to; body = sent_with bytes m.body })
with_bytes bytes o = o

-- an output whose bytes aren't kept
abbrev pub ready : {E : Type 0} → Output → Pending E
ready o = (o, None)

-- what goes out, where the kept bytes are known
abbrev pub shown : Pending (List ℕ) → Output
shown (o, None) = o
shown (o, Some bytes) = with_bytes bytes o

-- an output of a step with what its bytes are read of mapped
abbrev pub map_pending : {E F : Type 0} → (E → F) → Pending E → Pending F
map_pending f p = (p.0, option_map f p.1)

-- E is what stands for the bytes that the spool keeps; bytes to be stored are the bytes themselves.
-- A host that halts stops when all that may start has started.
pub record Stepped (E : Type 0) : Type 0 where
  pub change : Option (Change (List ℕ))
  pub outputs : List (Pending E)
  pub halts : Bool

-- a step with what the bytes of its outputs are read of mapped
abbrev pub map_stepped : {E F : Type 0} → (E → F) → Stepped E → Stepped F
map_stepped f s = record { change = s.change; outputs = map (map_pending f) s.outputs; halts = s.halts }

-- the plan of a step

-- the extent of no bytes
abbrev pub no_extent : Extent
no_extent = record { place = 0; length = 0 }

-- the bytes that a step stores
abbrev pub puts_of : Option (Change (List ℕ)) → List (List ℕ)
puts_of None = []
puts_of (Some change) = stored_parts change

-- what is read for the output at a place, if it has bytes
abbrev pub read_at : ℕ → Option Extent → List PlanRead
read_at n None = []
read_at n (Some x) = record { output = n; extent = x } ∷ []

-- what is to be read for the outputs, the first of which has this place
abbrev pub reads_from : ℕ → List (Pending Extent) → List PlanRead
reads_from n [] = []
reads_from n (p ∷ ps) = read_at n p.1 ++ reads_from (n + 1) ps

-- an output without what its bytes are read of
abbrev pub output_of : Pending Extent → Output
output_of p = p.0

-- The change without extents, the bytes to be stored in their order, the outputs, what is to be
-- read for them, and whether the host halts.
abbrev pub plan_of : Stepped Extent → Plan
plan_of s = record {
  change = option_map (map_change (λ _. no_extent)) s.change;
  puts = puts_of s.change;
  outputs = map output_of s.outputs;
  reads = reads_from 0 s.outputs;
  halts = s.halts;
}

-- small steps

-- nothing happens
abbrev pub quiet : {E : Type 0} → Stepped E
quiet = record { change = None; outputs = []; halts = false }

-- something goes out
abbrev pub says : {E : Type 0} → List (Pending E) → Stepped E
says outputs = record { change = None; outputs = outputs; halts = false }

-- a step that makes a change and gives outputs
abbrev pub makes : {E : Type 0} → Change (List ℕ) → List (Pending E) → Stepped E
makes change outputs = record { change = Some change; outputs = outputs; halts = false }

-- a message to a host, as an output
abbrev pub message : HostId → HostId → Body → Output
message from to b = out.Send (record { from = from; to = to; body = b })

-- a reply to a client, as an output; it carries no stored bytes
abbrev pub replied : {E : Type 0} → ℕ → ℕ → Reply → Pending E
replied port token reply = (out.Reply port token reply, None)

-- a reply and nothing else
abbrev pub answer : {E : Type 0} → ℕ → ℕ → Reply → Stepped E
answer port token reply = says (replied port token reply ∷ [])
