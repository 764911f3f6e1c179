-- The edits that may stand in a record: their values are within the limits of the table of edits.
-- Each goes by cases, of which one is written out.
use Rattle.nqs_types.specs.declared.edit.Edit.{Edit}
use Rattle.nqs_types.specs.declared.edit.Edit.TheVariants.{Conf, Limits as LimitsOf, Access as AccessOf, Devices as DevicesOf, Rows as RowsOf}
use Rattle.nqs_types.specs.declared.edit.ConfEdit.{ConfEdit}
use Rattle.nqs_types.specs.declared.edit.ConfEdit.TheVariants.{SetNoDefaultQueue}
use Rattle.nqs_types.specs.declared.edit.LimitsEdit.{LimitsEdit}
use Rattle.nqs_types.specs.declared.edit.LimitsEdit.TheVariants.{CreateComplex}
use Rattle.nqs_types.specs.declared.edit.AccessEdit.{AccessEdit}
use Rattle.nqs_types.specs.declared.edit.AccessEdit.TheVariants.{AddManager}
use Rattle.nqs_types.specs.declared.edit.DevicesEdit.{DevicesEdit}
use Rattle.nqs_types.specs.declared.edit.DevicesEdit.TheVariants.{DeleteDevice}
use Rattle.nqs_types.specs.declared.edit.RowsEdit.{RowsEdit}
use Rattle.nqs_types.specs.declared.edit.RowsEdit.TheVariants.{AbortQueue}
use Rattle.nqs_records.specs.Tables.{IsEntry}
use Rattle.nqs_records.specs.EditFields.{IsValue}
use Rattle.nqs_records.specs.EditTable.{conf_entry, limits_entry, access_entry, devices_entry, rows_entry}
pub use Rattle.nqs_records.specs.Values.{IsAtMost, IsDest, IsNamed}

-- what an edit of queues brings is within the limits of its fields
abbrev pub IsConfEdit : ConfEdit → Type 0
IsConfEdit SetNoDefaultQueue = IsEntry IsValue (conf_entry SetNoDefaultQueue)
IsConfEdit e = IsEntry IsValue (conf_entry e)

-- what an edit of limits and complexes brings is within the limits of its fields
abbrev pub IsLimitsEdit : LimitsEdit → Type 0
IsLimitsEdit (CreateComplex complex) = IsEntry IsValue (limits_entry (CreateComplex complex))
IsLimitsEdit e = IsEntry IsValue (limits_entry e)

-- what an edit of ranks and access brings is within the limits of its fields
abbrev pub IsAccessEdit : AccessEdit → Type 0
IsAccessEdit (AddManager user) = IsEntry IsValue (access_entry (AddManager user))
IsAccessEdit e = IsEntry IsValue (access_entry e)

-- what an edit of devices brings is within the limits of its fields
abbrev pub IsDevicesEdit : DevicesEdit → Type 0
IsDevicesEdit (DeleteDevice device) = IsEntry IsValue (devices_entry (DeleteDevice device))
IsDevicesEdit e = IsEntry IsValue (devices_entry e)

-- what an edit of requests brings is within the limits of its fields
abbrev pub IsRowsEdit : RowsEdit → Type 0
IsRowsEdit (AbortQueue queue) = IsEntry IsValue (rows_entry (AbortQueue queue))
IsRowsEdit e = IsEntry IsValue (rows_entry e)

-- what an edit brings is within the limits of its fields
abbrev pub IsEdit : Edit → Type 0
IsEdit (Conf e) = IsConfEdit e
IsEdit (LimitsOf e) = IsLimitsEdit e
IsEdit (AccessOf e) = IsAccessEdit e
IsEdit (DevicesOf e) = IsDevicesEdit e
IsEdit (RowsOf e) = IsRowsEdit e
