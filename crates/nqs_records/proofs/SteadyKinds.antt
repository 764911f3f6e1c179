-- Each kind of record is read the same whatever follows.
use Rattle.std.proofs.Common.{◌≡◌, ℕ, true, false}
use Rattle.nqs_records.specs.Tables.{by_code}
use Rattle.nqs_types.specs.Scripts.{longest_script}
use Rattle.nqs_records.specs.KindFields.{Field, one_byte, eight_bytes, a_name, a_path, maybe, a_host, an_id, a_script, an_output, a_job, a_carried, a_site}
use Rattle.nqs_records.specs.KindFields.{an_edit}
use Rattle.nqs_records.specs.KindFields.{outputs, handovers, with_low, value_at}
use Rattle.nqs_records.specs.KindTable.{kinds}
use Rattle.nqs_records.specs.Kinds.{no_kind}
use Rattle.nqs_records.specs.Faults.{is_kind}
use Rattle.nqs_records.proofs.Steady.{IsSteady, both_steady}
use Rattle.nqs_records.proofs.SteadyFields.{u8_steady, u64_steady, opt_steady}
use Rattle.nqs_records.proofs.SteadyNames.{name_steady, path_steady}
use Rattle.nqs_records.proofs.SteadyParts.{host_steady, id_steady, extent_steady, job_steady, carried_steady, site_steady, parts_steady, hands_steady}
use Rattle.nqs_records.proofs.SteadyParts.{low_steady}
use Rattle.nqs_records.proofs.SteadyEdits.{edit_steady}
use Rattle.nqs_records.proofs.SteadyTables.{no_row, table_steady}

field_steady : (f : Field) → IsSteady (value_at f)
field_steady one_byte = u8_steady
field_steady eight_bytes = u64_steady
field_steady a_name = name_steady
field_steady a_path = path_steady
field_steady (maybe f) = opt_steady _ (field_steady f)
field_steady a_host = host_steady
field_steady an_id = id_steady
field_steady a_script = extent_steady longest_script
field_steady an_output = extent_steady 32768
field_steady a_job = job_steady
field_steady a_carried = carried_steady
field_steady a_site = both_steady _ _ host_steady site_steady
field_steady an_edit = edit_steady
field_steady outputs = parts_steady
field_steady handovers = hands_steady
field_steady with_low = both_steady _ _ u64_steady low_steady

pub kind_steady : (kind : ℕ) → is_kind kind ≡ true → IsSteady (by_code value_at kinds kind no_kind)
unfolding is_kind
kind_steady kind is = table_steady value_at field_steady kinds kind no_kind is

-- where no kind is
pub kind_none : (kind : ℕ) → is_kind kind ≡ false → by_code value_at kinds kind no_kind ≡ no_kind
unfolding is_kind
kind_none kind is = no_row value_at kinds kind no_kind is
