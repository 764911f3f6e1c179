-- Each field of a change is read as it is spelled.
use Rattle.std.proofs.Common.{Bool, true}
use Rattle.nqs_records.specs.KindFields.{Field, one_byte, eight_bytes, a_name, a_path, maybe, a_host, an_id, a_script, an_output, a_job, a_carried, a_site}
use Rattle.nqs_records.specs.KindFields.{an_edit}
use Rattle.nqs_records.specs.KindFields.{outputs, handovers, with_low, IsValue, value_field, value_at}
use Rattle.nqs_records.proofs.Numbers.{u8_read, u64_read}
use Rattle.nqs_records.proofs.Named.{name_read, path_read}
use Rattle.nqs_records.proofs.Chains.{both_read, opt_read}
use Rattle.nqs_records.proofs.PartLaws.{host_law, id_law, script_law, output_law, job_law, carried_law, site_law, parts_law, hands_law, low_law}
use Rattle.nqs_records.proofs.ShapeLaws.{FieldsAreRead}
use Rattle.nqs_records.proofs.EditLaws.{edit_law}

-- no field has limits that a row sets
abbrev pub is_any : Field → Bool
is_any f = true

pub kind_fields_are_read : FieldsAreRead IsValue value_field value_at is_any
kind_fields_are_read one_byte sound = u8_read
kind_fields_are_read eight_bytes sound = u64_read
kind_fields_are_read a_name sound = name_read
kind_fields_are_read a_path sound = path_read
kind_fields_are_read (maybe f) sound = opt_read (kind_fields_are_read f sound)
kind_fields_are_read a_host sound = host_law
kind_fields_are_read an_id sound = id_law
kind_fields_are_read a_script sound = script_law
kind_fields_are_read an_output sound = output_law
kind_fields_are_read a_job sound = job_law
kind_fields_are_read a_carried sound = carried_law
kind_fields_are_read a_site sound = both_read host_law (λ me _. site_law me)
kind_fields_are_read an_edit sound = edit_law
kind_fields_are_read outputs sound = parts_law
kind_fields_are_read handovers sound = hands_law
kind_fields_are_read with_low sound = both_read u64_read (λ number fits. low_law number fits)
