-- Bytes that are read for outputs.
use Rattle.std.specs.Prelude.{◌≡◌, ℕ, ◌+◌, Bool, true, List, [], ◌∷◌, Option, None, Some, replicate}
use Rattle.std.specs.List.{AllByRecursion, list_all}
use Rattle.nqs_base.specs.declared.extent.Extent.{Extent}
use Rattle.nqs_types.specs.declared.event.Output.{Output}
use Rattle.nqs_types.specs.declared.event.Output.TheVariants.{Send}
use Rattle.nqs_types.specs.declared.message.Body.{Body}
use Rattle.nqs_types.specs.declared.message.Body.TheVariants.{Offer, Stage}
use Rattle.nqs_types.specs.declared.event.PlanRead.{PlanRead}
use Rattle.nqs_rules.specs.Edits.{change_at}
use Rattle.nqs_rules.specs.Sane.{is_short_script, is_short_file}
use Rattle.nqs_rules.specs.Stepped.{Pending, with_bytes}
use Rattle.nqs_spool.specs.Extents.{Has}
use Rattle.nqs_store.specs.Live.{live}
use Rattle.nqs_store.specs.Told.{Host}

-- how many reads the bytes of an output take
abbrev pub reads_of : {E : Type 0} → Option E → ℕ
reads_of None = 0
reads_of (Some x) = 1

-- how many reads of the spool what goes out takes: one for each output whose bytes are kept there
abbrev pub reads_for : {E : Type 0} → List (Pending E) → ℕ
reads_for [] = 0
reads_for (p ∷ ps) = reads_of p.1 + reads_for ps

-- what is read at a place goes into the output of that place
abbrev pub read_into : (Extent → List ℕ) → List PlanRead → List Output → List Output
read_into bytes [] outputs = outputs
read_into bytes (read ∷ reads) outputs = read_into bytes reads (change_at read.output (with_bytes (bytes read.extent)) outputs)

-- the extent that is to be read is a live one of the host
abbrev pub IsLiveRead : Host → PlanRead → Type 0
IsLiveRead host read = Has (live host) read.extent

-- the extents that are to be read are the host's
abbrev pub AreLiveReads : Host → List PlanRead → Type 0
AreLiveReads host reads = AllByRecursion (IsLiveRead host) reads

-- as many zeros as an extent has bytes, in their place
abbrev pub zeros : Extent → List ℕ
zeros extent = replicate extent.length 0

-- the script or output that a message carries is short enough
abbrev pub carries_short : Body → Bool
carries_short (Offer _ _ _ _ script) = is_short_script script
carries_short (Stage _ _ bytes) = is_short_file bytes
carries_short _ = true

-- so it is with what is sent
abbrev pub sends_short : Output → Bool
sends_short (Send m) = carries_short m.body
sends_short _ = true

-- all that is sent carries short scripts and outputs
abbrev pub AreShort : List Output → Type 0
AreShort outputs = list_all sends_short outputs ≡ true
