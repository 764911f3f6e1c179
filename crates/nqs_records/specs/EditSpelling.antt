-- The one spelling of each edit: its code, and its values, as the table of edits has them. Each
-- goes by cases, of which one is written out.
use Rattle.std.specs.Prelude.{ℕ, List}
use Rattle.nqs_types.specs.declared.edit.Edit.{Edit}
use Rattle.nqs_types.specs.declared.edit.Edit.TheVariants.{Conf, Limits as LimitsOf, Access as AccessOf, Devices as DevicesOf, Rows as RowsOf}
use Rattle.nqs_types.specs.declared.edit.ConfEdit.{ConfEdit}
use Rattle.nqs_types.specs.declared.edit.ConfEdit.TheVariants.{SetNoDefaultQueue}
use Rattle.nqs_types.specs.declared.edit.LimitsEdit.{LimitsEdit}
use Rattle.nqs_types.specs.declared.edit.LimitsEdit.TheVariants.{CreateComplex}
use Rattle.nqs_types.specs.declared.edit.AccessEdit.{AccessEdit}
use Rattle.nqs_types.specs.declared.edit.AccessEdit.TheVariants.{AddManager}
use Rattle.nqs_types.specs.declared.edit.DevicesEdit.{DevicesEdit}
use Rattle.nqs_types.specs.declared.edit.DevicesEdit.TheVariants.{DeleteDevice}
use Rattle.nqs_types.specs.declared.edit.RowsEdit.{RowsEdit}
use Rattle.nqs_types.specs.declared.edit.RowsEdit.TheVariants.{AbortQueue}
use Rattle.nqs_records.specs.Tables.{entry_field}
use Rattle.nqs_records.specs.EditFields.{value_field}
use Rattle.nqs_records.specs.EditTable.{conf_entry, limits_entry, access_entry, devices_entry, rows_entry}
unfoldable pub use Rattle.nqs_records.specs.Spelling.{one_if, flag_field, dest_field, named_field}

-- the edits of queues and of the host's parameters
unfoldable pub conf_field : ConfEdit → List ℕ
conf_field SetNoDefaultQueue = entry_field value_field (conf_entry SetNoDefaultQueue)
conf_field e = entry_field value_field (conf_entry e)

-- the edits of limits and complexes
unfoldable pub limits_field : LimitsEdit → List ℕ
limits_field (CreateComplex complex) = entry_field value_field (limits_entry (CreateComplex complex))
limits_field e = entry_field value_field (limits_entry e)

-- the edits of who may do what
unfoldable pub access_field : AccessEdit → List ℕ
access_field (AddManager user) = entry_field value_field (access_entry (AddManager user))
access_field e = entry_field value_field (access_entry e)

-- the edits of devices
unfoldable pub devices_field : DevicesEdit → List ℕ
devices_field (DeleteDevice device) = entry_field value_field (devices_entry (DeleteDevice device))
devices_field e = entry_field value_field (devices_entry e)

-- the edits of requests
unfoldable pub rows_field : RowsEdit → List ℕ
rows_field (AbortQueue queue) = entry_field value_field (rows_entry (AbortQueue queue))
rows_field e = entry_field value_field (rows_entry e)

-- an edit of any kind
unfoldable pub edit_field : Edit → List ℕ
edit_field (Conf e) = conf_field e
edit_field (LimitsOf e) = limits_field e
edit_field (AccessOf e) = access_field e
edit_field (DevicesOf e) = devices_field e
edit_field (RowsOf e) = rows_field e
