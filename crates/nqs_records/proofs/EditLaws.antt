-- Each edit is read as it is spelled: the table's rows and the entries of edits agree.
use Rattle.std.proofs.Common.{rules, ◌≡◌, ℕ, [], ◌∷◌, refl}
use Rattle.std.specs.List.{AllByRecursion}
use Rattle.nqs_base.proofs.Readings.{bind}
use Rattle.nqs_types.specs.declared.edit.Edit.{Edit}
use Rattle.nqs_types.specs.declared.edit.Edit.TheVariants.{Conf, Limits as LimitsOf, Access as AccessOf, Devices as DevicesOf, Rows as RowsOf}
use Rattle.nqs_types.specs.declared.edit.ConfEdit.{ConfEdit}
use Rattle.nqs_types.specs.declared.edit.ConfEdit.TheVariants.{SetNoDefaultQueue}
use Rattle.nqs_types.specs.declared.edit.LimitsEdit.{LimitsEdit}
use Rattle.nqs_types.specs.declared.edit.LimitsEdit.TheVariants.{CreateComplex}
use Rattle.nqs_types.specs.declared.edit.AccessEdit.{AccessEdit}
use Rattle.nqs_types.specs.declared.edit.AccessEdit.TheVariants.{AddManager}
use Rattle.nqs_types.specs.declared.edit.DevicesEdit.{DevicesEdit}
use Rattle.nqs_types.specs.declared.edit.DevicesEdit.TheVariants.{DeleteDevice}
use Rattle.nqs_types.specs.declared.edit.RowsEdit.{RowsEdit}
use Rattle.nqs_types.specs.declared.edit.RowsEdit.TheVariants.{AbortQueue}
use Rattle.nqs_records.specs.Reading.{bad_at}
use Rattle.nqs_records.specs.Tables.{values_at, IsEntry, entry_field}
use Rattle.nqs_records.specs.EditFields.{a_name, IsValue, value_field, value_at, is_sound}
use Rattle.nqs_records.specs.EditTable.{edits, setting_edits, limits_edits, access_edits, devices_edits, rows_edits}
use Rattle.nqs_records.specs.EditTable.{conf_entry, limits_entry, access_entry, devices_entry, rows_entry, edit_entry}
use Rattle.nqs_records.specs.EditSpelling.{edit_field, conf_field, limits_field, access_field, devices_field, rows_field}
use Rattle.nqs_records.specs.EditValues.{IsEdit, IsConfEdit, IsLimitsEdit, IsAccessEdit, IsDevicesEdit, IsRowsEdit}
use Rattle.nqs_records.specs.Edits.{edit_at}
use Rattle.nqs_records.proofs.IsRead.{IsRead}
use Rattle.nqs_records.proofs.EditFieldLaws.{edit_fields_are_read}
use Rattle.nqs_records.proofs.Tables.{IsMade, IsRow, IsTable, IsNever, table_law, named}

-- ---- each edit is made by the row of its code: one line for all of them

conf_made : (e : ConfEdit) → IsMade value_at edits (conf_entry e) (Conf e)
unfolding edits setting_edits
conf_made SetNoDefaultQueue = (λ other bytes start end h. bind (values_at value_at [] bytes start) _ _ _ h refl, refl, refl)
conf_made e = (λ other bytes start end h. bind (values_at value_at (conf_entry e).shape bytes start) _ _ _ h refl, refl, refl)

limits_made : (e : LimitsEdit) → IsMade value_at edits (limits_entry e) (LimitsOf e)
unfolding edits setting_edits limits_edits
limits_made (CreateComplex complex) = (λ other bytes start end h. bind (values_at value_at (a_name ∷ []) bytes start) _ _ _ h refl, refl, refl)
limits_made e = (λ other bytes start end h. bind (values_at value_at (limits_entry e).shape bytes start) _ _ _ h refl, refl, refl)

access_made : (e : AccessEdit) → IsMade value_at edits (access_entry e) (AccessOf e)
unfolding edits setting_edits limits_edits access_edits
access_made (AddManager user) = (λ other bytes start end h. bind (values_at value_at (a_name ∷ []) bytes start) _ _ _ h refl, refl, refl)
access_made e = (λ other bytes start end h. bind (values_at value_at (access_entry e).shape bytes start) _ _ _ h refl, refl, refl)

devices_made : (e : DevicesEdit) → IsMade value_at edits (devices_entry e) (DevicesOf e)
unfolding edits setting_edits limits_edits access_edits devices_edits
devices_made (DeleteDevice device) = (λ other bytes start end h. bind (values_at value_at (a_name ∷ []) bytes start) _ _ _ h refl, refl, refl)
devices_made e = (λ other bytes start end h. bind (values_at value_at (devices_entry e).shape bytes start) _ _ _ h refl, refl, refl)

rows_made : (e : RowsEdit) → IsMade value_at edits (rows_entry e) (RowsOf e)
unfolding edits setting_edits limits_edits access_edits devices_edits rows_edits
rows_made (AbortQueue queue) = (λ other bytes start end h. bind (values_at value_at (a_name ∷ []) bytes start) _ _ _ h refl, refl, refl)
rows_made e = (λ other bytes start end h. bind (values_at value_at (rows_entry e).shape bytes start) _ _ _ h refl, refl, refl)

edit_made : (e : Edit) → IsMade value_at edits (edit_entry e) e
edit_made (Conf e) = conf_made e
edit_made (LimitsOf e) = limits_made e
edit_made (AccessOf e) = access_made e
edit_made (DevicesOf e) = devices_made e
edit_made (RowsOf e) = rows_made e

-- ---- each row makes an edit of its code and its values

edits_rows : AllByRecursion (IsRow is_sound edit_entry) edits
unfolding edits setting_edits limits_edits access_edits devices_edits rows_edits
edits_rows = search rules

no_edit : (at : ℕ) → IsNever (bad_at {A = Edit} at)
no_edit at bytes place v e = cc

pub edits_agree : IsTable value_at is_sound edit_entry edits
edits_agree = record { all_rows = edits_rows; all_made = edit_made }

-- ---- spellings and limits by cases are those of the entries

conf_spelled : (e : ConfEdit) → conf_field e ≡ entry_field value_field (conf_entry e)
unfolding conf_field
conf_spelled SetNoDefaultQueue = refl
conf_spelled e = refl

limits_spelled : (e : LimitsEdit) → limits_field e ≡ entry_field value_field (limits_entry e)
unfolding limits_field
limits_spelled (CreateComplex complex) = refl
limits_spelled e = refl

access_spelled : (e : AccessEdit) → access_field e ≡ entry_field value_field (access_entry e)
unfolding access_field
access_spelled (AddManager user) = refl
access_spelled e = refl

devices_spelled : (e : DevicesEdit) → devices_field e ≡ entry_field value_field (devices_entry e)
unfolding devices_field
devices_spelled (DeleteDevice device) = refl
devices_spelled e = refl

rows_spelled : (e : RowsEdit) → rows_field e ≡ entry_field value_field (rows_entry e)
unfolding rows_field
rows_spelled (AbortQueue queue) = refl
rows_spelled e = refl

pub spelled : (e : Edit) → edit_field e ≡ entry_field value_field (edit_entry e)
unfolding edit_field
spelled (Conf e) = conf_spelled e
spelled (LimitsOf e) = limits_spelled e
spelled (AccessOf e) = access_spelled e
spelled (DevicesOf e) = devices_spelled e
spelled (RowsOf e) = rows_spelled e

conf_limited : (e : ConfEdit) → IsConfEdit e ≡ IsEntry IsValue (conf_entry e)
conf_limited SetNoDefaultQueue = refl
conf_limited e = refl

limits_limited : (e : LimitsEdit) → IsLimitsEdit e ≡ IsEntry IsValue (limits_entry e)
limits_limited (CreateComplex complex) = refl
limits_limited e = refl

access_limited : (e : AccessEdit) → IsAccessEdit e ≡ IsEntry IsValue (access_entry e)
access_limited (AddManager user) = refl
access_limited e = refl

devices_limited : (e : DevicesEdit) → IsDevicesEdit e ≡ IsEntry IsValue (devices_entry e)
devices_limited (DeleteDevice device) = refl
devices_limited e = refl

rows_limited : (e : RowsEdit) → IsRowsEdit e ≡ IsEntry IsValue (rows_entry e)
rows_limited (AbortQueue queue) = refl
rows_limited e = refl

pub limited : (e : Edit) → IsEdit e ≡ IsEntry IsValue (edit_entry e)
limited (Conf e) = conf_limited e
limited (LimitsOf e) = limits_limited e
limited (AccessOf e) = access_limited e
limited (DevicesOf e) = devices_limited e
limited (RowsOf e) = rows_limited e

pub edit_law : IsRead IsEdit edit_field edit_at
unfolding edit_at
edit_law = named IsEdit edit_field edit_at limited spelled
    (table_law IsValue value_field value_at is_sound edit_fields_are_read edit_entry edits (λ at. bad_at at) edits_agree no_edit)
