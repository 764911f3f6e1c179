-- What stands behind the kind of a record: fields, each with its values, their limits, their
-- spelling and its reading.
use Rattle.std.specs.Prelude.{ℕ, IsTrue, List, ◌++◌, Option}
use Rattle.nqs_base.specs.Name.{IsName}
use Rattle.nqs_base.specs.Path.{IsPath}
use Rattle.nqs_base.specs.declared.extent.Extent.{Extent}
use Rattle.nqs_types.specs.declared.ids.HostId.{HostId}
use Rattle.nqs_types.specs.declared.ids.RequestId.{RequestId}
use Rattle.nqs_types.specs.declared.ids.PeerNumber.{PeerNumber}
use Rattle.nqs_types.specs.declared.request.Job.{Job}
use Rattle.nqs_types.specs.declared.request.Carried.{Carried}
use Rattle.nqs_types.specs.declared.change.OutPart.{OutPart}
use Rattle.nqs_types.specs.declared.edit.Edit.{Edit}
use Rattle.nqs_codec.specs.Fields.{u8_field, u64_field, short_field}
use Rattle.nqs_rules.specs.Sane.{is_sane_low}
use Rattle.nqs_records.specs.Values.{is_at_most, is_site_count, IsU8, IsU64, IsOpt, IsList, IsHost, IsId, IsScript, IsOutput, IsJob, IsCarried, IsPart, IsHand}
use Rattle.nqs_records.specs.EditValues.{IsEdit}
use Rattle.nqs_records.specs.Spelling.{opt_field, list_field, id_field, extent_field, job_field, carried_field, part_field, hand_field}
use Rattle.nqs_records.specs.EditSpelling.{edit_field}
use Rattle.nqs_records.specs.Reading.{Reading, both, within, counted}
use Rattle.nqs_records.specs.Fields.{u8_at, u64_at, opt_at, name_at, path_at}
use Rattle.nqs_records.specs.Parts.{host_at, id_at, script_at, output_at, job_at, carried_at, part_at, hand_at, low_at}
use Rattle.nqs_records.specs.Edits.{edit_at}

-- a field of a change
pub data Field : Type 0 where
  -- a number of one byte
  one_byte : Field
  -- a number of eight bytes
  eight_bytes : Field
  -- a name
  a_name : Field
  -- a path
  a_path : Field
  -- what may be left out
  maybe : Field → Field
  -- a host
  a_host : Field
  -- a request
  an_id : Field
  -- the extent of a script in the spool
  a_script : Field
  -- the extent of an output in the spool
  an_output : Field
  -- a job
  a_job : Field
  -- what goes from host to host with a request
  a_carried : Field
  -- a host, and the names of the hosts of its site
  a_site : Field
  -- an edit
  an_edit : Field
  -- outputs of a job, at most two
  outputs : Field
  -- handovers
  handovers : Field
  -- the number of a handover, and its low
  with_low : Field

-- what stands in a field
abbrev pub ValueOf : Field → Type 0
ValueOf one_byte = ℕ
ValueOf eight_bytes = ℕ
ValueOf a_name = List ℕ
ValueOf a_path = List ℕ
ValueOf (maybe f) = Option (ValueOf f)
ValueOf a_host = HostId
ValueOf an_id = RequestId
ValueOf a_script = Extent
ValueOf an_output = Extent
ValueOf a_job = Job
ValueOf a_carried = Carried
ValueOf a_site = HostId × List (List ℕ)
ValueOf an_edit = Edit
ValueOf outputs = List (OutPart Extent)
ValueOf handovers = List PeerNumber
ValueOf with_low = ℕ × ℕ

-- a value is within its field's limits
abbrev pub IsValue : (f : Field) → ValueOf f → Type 0
IsValue one_byte n = IsU8 n
IsValue eight_bytes n = IsU64 n
IsValue a_name bytes = IsName bytes
IsValue a_path bytes = IsPath bytes
IsValue (maybe f) v = IsOpt (IsValue f) v
IsValue a_host h = IsHost h
IsValue an_id id = IsId id
IsValue a_script e = IsScript e
IsValue an_output e = IsOutput e
IsValue a_job j = IsJob j
IsValue a_carried c = IsCarried c
IsValue a_site v = IsHost v.0 × IsList (λ n. IsTrue (is_site_count v.0 n)) IsName v.1
IsValue an_edit e = IsEdit e
IsValue outputs parts = IsList (λ n. IsTrue (is_at_most 2 n)) IsPart parts
IsValue handovers hands = IsList IsU8 IsHand hands
IsValue with_low v = IsU64 v.0 × IsTrue (is_sane_low v.1 v.0)

-- how it is spelled
abbrev pub value_field : (f : Field) → ValueOf f → List ℕ
value_field one_byte n = u8_field n
value_field eight_bytes n = u64_field n
value_field a_name bytes = short_field bytes
value_field a_path bytes = short_field bytes
value_field (maybe f) v = opt_field (value_field f) v
value_field a_host h = u8_field h.0
value_field an_id id = id_field id
value_field a_script e = extent_field e
value_field an_output e = extent_field e
value_field a_job j = job_field j
value_field a_carried c = carried_field c
value_field a_site v = u8_field v.0.0 ++ list_field short_field v.1
value_field an_edit e = edit_field e
value_field outputs parts = list_field part_field parts
value_field handovers hands = list_field hand_field hands
value_field with_low v = u64_field v.0 ++ u64_field v.1

-- how it is read
abbrev pub value_at : (f : Field) → Reading (ValueOf f)
value_at one_byte = u8_at
value_at eight_bytes = u64_at
value_at a_name = name_at
value_at a_path = path_at
value_at (maybe f) = opt_at (value_at f)
value_at a_host = host_at
value_at an_id = id_at
value_at a_script = script_at
value_at an_output = output_at
value_at a_job = job_at
value_at a_carried = carried_at
value_at a_site = both host_at (λ me. counted (within (is_site_count me) u8_at) name_at)
value_at an_edit = edit_at
value_at outputs = counted (within (is_at_most 2) u8_at) part_at
value_at handovers = counted u8_at hand_at
value_at with_low = both u64_at low_at
