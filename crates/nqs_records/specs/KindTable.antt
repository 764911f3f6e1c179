-- The kinds of record by their numbers: what stands behind each number, and the change that it
-- makes.
use Rattle.std.specs.Prelude.{ℕ, List, [], ◌∷◌, ◌++◌}
use Rattle.nqs_base.specs.declared.extent.Extent.{Extent}
use Rattle.nqs_types.specs.declared.change.Change.{Change}
use Rattle.nqs_types.specs.declared.change.Change.TheVariants.{Site, Submitted, Deleted, Doomed, Started, Ended, Unlaunched, Boot, Edited, HandOpened}
use Rattle.nqs_types.specs.declared.change.Change.TheVariants.{HandCommitted, HandRefused, HandsSilent, HandDone, OldPromised, Promised, Accepted, Dropped}
use Rattle.nqs_types.specs.declared.change.Change.TheVariants.{MovedLocal}
use Rattle.nqs_types.specs.declared.change.Change.TheVariants.{RefusedLocal, HeldFar, StageGot, StageGone, FileGone}
use Rattle.nqs_records.specs.Tables.{Values, Row, Entry, shape_of}
use Rattle.nqs_records.specs.KindFields.{Field, ValueOf, one_byte, eight_bytes, a_name, a_path, maybe, a_host, an_id, a_script, an_output, a_job, a_carried}
use Rattle.nqs_records.specs.KindFields.{a_site}
use Rattle.nqs_records.specs.KindFields.{an_edit, outputs, handovers, with_low}

-- a change of a host
abbrev pub HostChange : Type 0
HostChange = Change Extent

-- a kind's number, the fields behind it, and the change that their values make
abbrev pub row : (code : ℕ) (shape : List Field) → (Values ValueOf shape → HostChange) → Row ValueOf HostChange
row code shape make = record { code = code; shape = shape; make = make }

-- ---- the table, in parts

-- changes of the host itself, and of its files
abbrev pub host_part : List (Row ValueOf HostChange)
host_part =
    row 1 (a_site ∷ []) (λ v. Site v.0 v.1)
    ∷ row 8 [] (λ _. Boot)
    ∷ row 9 (an_edit ∷ []) (λ edit. Edited edit)
    ∷ row 23 (eight_bytes ∷ []) (λ file. FileGone file)
    ∷ []

-- changes of handovers and stages
abbrev pub hand_part : List (Row ValueOf HostChange)
hand_part =
    row 10 (a_host ∷ eight_bytes ∷ an_id ∷ a_name ∷ eight_bytes ∷ []) (λ v. HandOpened v.0 v.1.0 v.1.1.0 v.1.1.1.0 v.1.1.1.1)
    ∷ row 11 (a_host ∷ eight_bytes ∷ []) (λ v. HandCommitted v.0 v.1)
    ∷ row 12 (a_host ∷ eight_bytes ∷ one_byte ∷ []) (λ v. HandRefused v.0 v.1.0 v.1.1)
    ∷ row 13 (eight_bytes ∷ handovers ∷ []) (λ v. HandsSilent v.0 v.1)
    ∷ row 14 (a_host ∷ eight_bytes ∷ []) (λ v. HandDone v.0 v.1)
    ∷ row 15 (a_host ∷ eight_bytes ∷ a_name ∷ a_carried ∷ a_script ∷ []) (λ v. OldPromised v.0 v.1.0 v.1.1.0 v.1.1.1.0 v.1.1.1.1)
    ∷ row 16 (a_host ∷ eight_bytes ∷ []) (λ v. Accepted v.0 v.1)
    ∷ row 17 (a_host ∷ eight_bytes ∷ []) (λ v. Dropped v.0 v.1)
    ∷ row 21 (a_host ∷ eight_bytes ∷ a_path ∷ an_output ∷ []) (λ v. StageGot v.0 v.1.0 v.1.1.0 v.1.1.1)
    ∷ row 22 (a_host ∷ eight_bytes ∷ []) (λ v. StageGone v.0 v.1)
    ∷ row 24 (a_host ∷ with_low ∷ a_name ∷ a_carried ∷ a_script ∷ []) (λ v. Promised v.0 v.1.0.0 v.1.0.1 v.1.1.0 v.1.1.1.0 v.1.1.1.1)
    ∷ []

-- changes of requests
abbrev pub request_part : List (Row ValueOf HostChange)
request_part =
    row 2 (a_name ∷ a_job ∷ a_script ∷ []) (λ v. Submitted v.0 v.1.0 v.1.1)
    ∷ row 3 (an_id ∷ []) (λ id. Deleted id)
    ∷ row 4 (an_id ∷ []) (λ id. Doomed id)
    ∷ row 5 (an_id ∷ maybe a_name ∷ []) (λ v. Started v.0 v.1)
    ∷ row 6 (an_id ∷ outputs ∷ []) (λ v. Ended v.0 v.1)
    ∷ row 7 (an_id ∷ []) (λ id. Unlaunched id)
    ∷ row 18 (an_id ∷ a_name ∷ []) (λ v. MovedLocal v.0 v.1)
    ∷ row 19 (an_id ∷ a_name ∷ one_byte ∷ []) (λ v. RefusedLocal v.0 v.1.0 v.1.1)
    ∷ row 20 (an_id ∷ []) (λ id. HeldFar id)
    ∷ []

-- all kinds
abbrev pub rows : List (Row ValueOf HostChange)
rows = request_part ++ hand_part ++ host_part

-- ---- what is left of the table from each part on, as it is looked up part by part

-- the last part
unfoldable pub host_kinds : List (Row ValueOf HostChange)
host_kinds = host_part

-- from the changes of handovers and stages on
unfoldable pub hand_kinds : List (Row ValueOf HostChange)
hand_kinds = hand_part ++ host_kinds

-- all of it
unfoldable pub kinds : List (Row ValueOf HostChange)
kinds = request_part ++ hand_kinds

-- ---- each change's number and values

-- a kind's number and the values of the fields that its row has
abbrev pub entry : (code : ℕ) → Values ValueOf (shape_of rows code) → Entry ValueOf
entry code values = record { code = code; shape = shape_of rows code; values = values }

-- the kind's number of a change, and its values
abbrev pub kind_entry : HostChange → Entry ValueOf
kind_entry (Site me site) = entry 1 (me, site)
kind_entry (Submitted queue job script) = entry 2 (queue, (job, script))
kind_entry (Deleted id) = entry 3 id
kind_entry (Doomed id) = entry 4 id
kind_entry (Started id device) = entry 5 (id, device)
kind_entry (Ended id parts) = entry 6 (id, parts)
kind_entry (Unlaunched id) = entry 7 id
kind_entry Boot = entry 8 tt
kind_entry (Edited edit) = entry 9 edit
kind_entry (HandOpened peer number id queue since) = entry 10 (peer, (number, (id, (queue, since))))
kind_entry (HandCommitted peer number) = entry 11 (peer, number)
kind_entry (HandRefused peer number cause) = entry 12 (peer, (number, cause))
kind_entry (HandsSilent until hands) = entry 13 (until, hands)
kind_entry (HandDone peer number) = entry 14 (peer, number)
kind_entry (OldPromised peer number queue carried script) =
    entry 15 (peer, (number, (queue, (carried, script))))
kind_entry (Promised peer number low queue carried script) =
    entry 24 (peer, ((number, low), (queue, (carried, script))))
kind_entry (Accepted peer number) = entry 16 (peer, number)
kind_entry (Dropped peer number) = entry 17 (peer, number)
kind_entry (MovedLocal id queue) = entry 18 (id, queue)
kind_entry (RefusedLocal id queue cause) = entry 19 (id, (queue, cause))
kind_entry (HeldFar id) = entry 20 id
kind_entry (StageGot peer number path bytes) = entry 21 (peer, (number, (path, bytes)))
kind_entry (StageGone peer number) = entry 22 (peer, number)
kind_entry (FileGone file) = entry 23 file
