-- A record is short, since its fields are.
use Rattle.std.proofs.Common.{◌≡◌, ℕ, ◌+◌, ◌≤◌, ◌<◌, true, ◌&&◌, nat_le, nat_lt, length, length-append, sym, subst, arith, rules}
use Rattle.std.proofs.lemmas.Bool.{and_parts, leb-true}
use Rattle.std.specs.List.{AllByRecursion}
use Rattle.nqs_base.specs.Name.{IsName}
use Rattle.nqs_base.specs.declared.extent.Extent.{Extent}
use Rattle.nqs_types.specs.declared.ids.HostId.{HostId}
use Rattle.nqs_types.specs.declared.change.Change.{Change}
use Rattle.nqs_codec.specs.Fields.{u8_field, u64_field, short_field}
use Rattle.nqs_records.specs.Spelling.{list_field, part_field, hand_field}
use Rattle.nqs_records.specs.Values.{is_site_count, IsPart, IsHand}
use Rattle.nqs_records.specs.KindFields.{Field, one_byte, eight_bytes, a_name, a_path, maybe, a_host, an_id, a_script, an_output, a_job, a_carried, a_site}
use Rattle.nqs_records.specs.KindFields.{an_edit}
use Rattle.nqs_records.specs.KindFields.{outputs, handovers, with_low, IsValue, value_field}
use Rattle.nqs_records.specs.KindTable.{kinds, hand_kinds, host_kinds}
use Rattle.nqs_records.specs.Changes.{spelling, MayStand}
use Rattle.nqs_records.proofs.KindLaws.{kinds_agree, spelled, limited}
use Rattle.nqs_records.proofs.PutBack.{length-extent}
use Rattle.nqs_records.proofs.ShortFields.{length-u8, length-u64, length-id, opt_short, list_short, name_short, path_short, hand_short, job_short}
use Rattle.nqs_records.proofs.ShortFields.{carried_short, part_short}
use Rattle.nqs_records.proofs.ShortTables.{FieldsAreShort, IsShort, entry_short}
use Rattle.nqs_records.proofs.ShortEdits.{edit_short}

-- how many bytes a field takes at most
abbrev most : Field → ℕ
most one_byte = 1
most eight_bytes = 8
most a_name = 16
most a_path = 256
most (maybe f) = 1 + most f
most a_host = 1
most an_id = 5
most a_script = 12
most an_output = 12
most a_job = 590
most a_carried = 600
most a_site = 258
most an_edit = 1000
most outputs = 537
most handovers = 2305
most with_low = 16

few_hosts : (me : HostId) (n : ℕ) → is_site_count me n ≡ true → n ≤ 16
few_hosts me n few = leb-true n 16 (and_parts (nat_le 1 n) (nat_le n 16) (and_parts (nat_le 1 n && nat_le n 16) (nat_lt me.0 n) few).0).1

fields_short : FieldsAreShort IsValue value_field most
fields_short one_byte n is = omega (arith, length-u8 n)
fields_short eight_bytes n is = omega (arith, length-u64 n)
fields_short a_name bytes is = name_short bytes is
fields_short a_path bytes is = path_short bytes is
fields_short (maybe f) v is = opt_short (IsValue f) (value_field f) (most f) (fields_short f) v is
fields_short a_host h is = omega (arith, length-u8 h.0)
fields_short an_id id is = omega (arith, length-id id)
fields_short a_script e is = omega (arith, length-extent e)
fields_short an_output e is = omega (arith, length-extent e)
fields_short a_job j is = job_short j is
fields_short a_carried c is = carried_short c is
fields_short a_site v is =
    let hosts = list_short IsName short_field 16 name_short v.1 16 is.1.1 (few_hosts v.0 (length v.1) is.1.0) in
    omega (arith, length-append (u8_field v.0.0) (list_field short_field v.1), length-u8 v.0.0, hosts)
fields_short an_edit e is = edit_short e is
fields_short outputs parts is = list_short IsPart part_field 268 part_short parts 2 is.1 (leb-true (length parts) 2 is.0)
fields_short handovers hands is =
    list_short IsHand hand_field 9 hand_short hands 256 is.1 (let few : length hands < 256 = is.0 in omega arith)
fields_short with_low v is = omega (arith, length-append (u64_field v.0) (u64_field v.1), length-u64 v.0, length-u64 v.1)

-- no row's fields take more than 65535 bytes
rows_short : AllByRecursion (IsShort most 65535) kinds
unfolding kinds hand_kinds host_kinds
rows_short = search rules

-- the record of a change
pub short_spelling : (change : Change Extent) → MayStand change → length (spelling change) ≤ 65536
short_spelling change is =
    let there = subst (λ (T : Type 0). T) (limited change) is in
    let short = entry_short IsValue value_field most fields_short kinds kinds_agree 65535 rows_short change there in
    subst (λ bytes. length bytes ≤ 65536) (sym (spelled change)) short
