-- The spelling of an edit is short, since its fields are.
use Rattle.std.proofs.Common.{ℕ, ◌+◌, ◌≤◌, length, sym, subst, arith, rules}
use Rattle.std.specs.List.{AllByRecursion}
use Rattle.nqs_types.specs.declared.edit.Edit.{Edit}
use Rattle.nqs_records.specs.EditFields.{Field, eight_bytes, at_most, a_wait, a_flag, a_name, maybe, a_dest, a_named, IsValue, value_field}
use Rattle.nqs_records.specs.EditTable.{edits, setting_edits, limits_edits, access_edits, devices_edits, rows_edits}
use Rattle.nqs_records.specs.EditSpelling.{edit_field}
use Rattle.nqs_records.specs.EditValues.{IsEdit}
use Rattle.nqs_records.proofs.EditLaws.{edits_agree, spelled, limited}
use Rattle.nqs_records.proofs.ShortFields.{length-u64, opt_short, flag_short, name_short, dest_short, named_short}
use Rattle.nqs_records.proofs.ShortTables.{FieldsAreShort, IsShort, entry_short}

-- how many bytes a field takes at most
abbrev most : Field → ℕ
most eight_bytes = 8
most (at_most limit) = 8
most a_wait = 8
most a_flag = 9
most a_name = 16
most (maybe f) = 1 + most f
most a_dest = 32
most a_named = 20

fields_short : FieldsAreShort IsValue value_field most
fields_short eight_bytes n is = omega (arith, length-u64 n)
fields_short (at_most limit) n is = omega (arith, length-u64 n)
fields_short a_wait n is = omega (arith, length-u64 n)
fields_short a_flag is_set is = flag_short is_set
fields_short a_name bytes is = name_short bytes is
fields_short (maybe f) v is = opt_short (IsValue f) (value_field f) (most f) (fields_short f) v is
fields_short a_dest d is = dest_short d is
fields_short a_named n is = named_short n is

-- no row's fields take more than 999 bytes
rows_short : AllByRecursion (IsShort most 999) edits
unfolding edits setting_edits limits_edits access_edits devices_edits rows_edits
rows_short = search rules

pub edit_short : (e : Edit) → IsEdit e → length (edit_field e) ≤ 1000
edit_short e is =
    let there = subst (λ (T : Type 0). T) (limited e) is in
    let short = entry_short IsValue value_field most fields_short edits edits_agree 999 rows_short e there in
    subst (λ bytes. length bytes ≤ 1000) (sym (spelled e)) short
