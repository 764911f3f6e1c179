-- The edits by their codes: what stands behind each code, and what it makes. Codes are looked up,
-- so that some may be left out.
use Rattle.std.specs.Prelude.{ℕ, List, [], ◌∷◌, ◌++◌}
use Rattle.nqs_types.specs.declared.edit.Edit.{Edit}
use Rattle.nqs_types.specs.declared.edit.Edit.TheVariants.{Conf, Limits as LimitsOf, Access as AccessOf, Devices as DevicesOf, Rows as RowsOf}
use Rattle.nqs_types.specs.declared.edit.ConfEdit.{ConfEdit}
use Rattle.nqs_types.specs.declared.edit.ConfEdit.TheVariants.{CreateBatchQueue, CreateDeviceQueue, CreatePipeQueue, DeleteQueue, EnableQueue, DisableQueue}
use Rattle.nqs_types.specs.declared.edit.ConfEdit.TheVariants.{StartQueue, StopQueue, PurgeQueue, SetPriority, SetRunLimit, AddDestination, RemoveDestination}
use Rattle.nqs_types.specs.declared.edit.ConfEdit.TheVariants.{FirstDestination}
use Rattle.nqs_types.specs.declared.edit.ConfEdit.TheVariants.{SetDefaultQueue, SetNoDefaultQueue, SetPatience, SetRetryWait}
use Rattle.nqs_types.specs.declared.edit.LimitsEdit.{LimitsEdit}
use Rattle.nqs_types.specs.declared.edit.LimitsEdit.TheVariants.{SetUserLimit, SetCpuLimit, SetMemoryLimit, CreateComplex, DeleteComplex, AddQueue, RemoveQueue}
use Rattle.nqs_types.specs.declared.edit.LimitsEdit.TheVariants.{SetComplexLimit, SetGlobalLimit}
use Rattle.nqs_types.specs.declared.edit.AccessEdit.{AccessEdit}
use Rattle.nqs_types.specs.declared.edit.AccessEdit.TheVariants.{SetUnrestrictedAccess, SetNoAccess, AddUser, RemoveUser, AddManager, RemoveManager}
use Rattle.nqs_types.specs.declared.edit.AccessEdit.TheVariants.{AddOperator, RemoveOperator}
use Rattle.nqs_types.specs.declared.edit.DevicesEdit.{DevicesEdit}
use Rattle.nqs_types.specs.declared.edit.DevicesEdit.TheVariants.{CreateDevice, DeleteDevice, EnableDevice, DisableDevice, SetForms, AddDevice, RemoveDevice}
use Rattle.nqs_types.specs.declared.edit.RowsEdit.{RowsEdit}
use Rattle.nqs_types.specs.declared.edit.RowsEdit.TheVariants.{AbortQueue, HoldRequest, ReleaseRequest, MoveRequest, ModifyRequest}
use Rattle.nqs_records.specs.Tables.{Values, Row, Entry, shape_of}
use Rattle.nqs_records.specs.EditFields.{Field, ValueOf, eight_bytes, at_most, a_wait, a_flag, a_name, maybe, a_dest, a_named}

-- a code, the fields behind it, and the edit that their values make
abbrev pub row : (code : ℕ) (shape : List Field) → (Values ValueOf shape → Edit) → Row ValueOf Edit
row code shape make = record { code = code; shape = shape; make = make }

-- what creates a batch or a device queue: its name, priority and run limit where given, and whether
-- it is for pipe queues alone
abbrev pub created : List Field
created = a_name ∷ maybe (at_most 63) ∷ maybe (at_most 10000) ∷ a_flag ∷ []

-- what creates a pipe queue: the same, and a destination where one is given
abbrev pub pipe_created : List Field
pipe_created = a_name ∷ maybe (at_most 63) ∷ maybe (at_most 10000) ∷ a_flag ∷ maybe a_dest ∷ []

-- ---- the table, in parts

-- the edits of requests
abbrev pub rows_part : List (Row ValueOf Edit)
rows_part =
    row 10 (a_name ∷ []) (λ queue. RowsOf (AbortQueue queue))
    ∷ row 43 (a_named ∷ []) (λ request. RowsOf (HoldRequest request))
    ∷ row 44 (a_named ∷ []) (λ request. RowsOf (ReleaseRequest request))
    ∷ row 45 (a_named ∷ a_name ∷ []) (λ v. RowsOf (MoveRequest v.0 v.1))
    ∷ row 46 (a_named ∷ at_most 63 ∷ []) (λ v. RowsOf (ModifyRequest v.0 v.1))
    ∷ []

-- the edits of devices
abbrev pub devices_part : List (Row ValueOf Edit)
devices_part =
    row 24 (a_name ∷ a_name ∷ []) (λ v. DevicesOf (CreateDevice v.0 v.1))
    ∷ row 25 (a_name ∷ []) (λ device. DevicesOf (DeleteDevice device))
    ∷ row 26 (a_name ∷ []) (λ device. DevicesOf (EnableDevice device))
    ∷ row 27 (a_name ∷ []) (λ device. DevicesOf (DisableDevice device))
    ∷ row 28 (a_name ∷ a_name ∷ []) (λ v. DevicesOf (SetForms v.0 v.1))
    ∷ row 29 (a_name ∷ a_name ∷ []) (λ v. DevicesOf (AddDevice v.0 v.1))
    ∷ row 30 (a_name ∷ a_name ∷ []) (λ v. DevicesOf (RemoveDevice v.0 v.1))
    ∷ []

-- the edits of who may do what
abbrev pub access_part : List (Row ValueOf Edit)
access_part =
    row 31 (a_name ∷ []) (λ queue. AccessOf (SetUnrestrictedAccess queue))
    ∷ row 32 (a_name ∷ []) (λ queue. AccessOf (SetNoAccess queue))
    ∷ row 33 (a_name ∷ a_name ∷ []) (λ v. AccessOf (AddUser v.0 v.1))
    ∷ row 34 (a_name ∷ a_name ∷ []) (λ v. AccessOf (RemoveUser v.0 v.1))
    ∷ row 35 (a_name ∷ []) (λ user. AccessOf (AddManager user))
    ∷ row 36 (a_name ∷ []) (λ user. AccessOf (RemoveManager user))
    ∷ row 37 (a_name ∷ []) (λ user. AccessOf (AddOperator user))
    ∷ row 38 (a_name ∷ []) (λ user. AccessOf (RemoveOperator user))
    ∷ []

-- the edits of limits and complexes
abbrev pub limits_part : List (Row ValueOf Edit)
limits_part =
    row 13 (maybe (at_most 10000) ∷ a_name ∷ []) (λ v. LimitsOf (SetUserLimit v.0 v.1))
    ∷ row 14 (maybe eight_bytes ∷ a_name ∷ []) (λ v. LimitsOf (SetCpuLimit v.0 v.1))
    ∷ row 15 (maybe eight_bytes ∷ a_name ∷ []) (λ v. LimitsOf (SetMemoryLimit v.0 v.1))
    ∷ row 18 (a_name ∷ []) (λ complex. LimitsOf (CreateComplex complex))
    ∷ row 19 (a_name ∷ []) (λ complex. LimitsOf (DeleteComplex complex))
    ∷ row 20 (a_name ∷ a_name ∷ []) (λ v. LimitsOf (AddQueue v.0 v.1))
    ∷ row 21 (a_name ∷ a_name ∷ []) (λ v. LimitsOf (RemoveQueue v.0 v.1))
    ∷ row 22 (at_most 10000 ∷ a_name ∷ []) (λ v. LimitsOf (SetComplexLimit v.0 v.1))
    ∷ row 23 (at_most 10000 ∷ []) (λ limit. LimitsOf (SetGlobalLimit limit))
    ∷ []

-- the edits of a queue's settings and of the host's parameters
abbrev pub setting_part : List (Row ValueOf Edit)
setting_part =
    row 11 (at_most 63 ∷ a_name ∷ []) (λ v. Conf (SetPriority v.0 v.1))
    ∷ row 12 (at_most 10000 ∷ a_name ∷ []) (λ v. Conf (SetRunLimit v.0 v.1))
    ∷ row 16 (a_dest ∷ a_name ∷ []) (λ v. Conf (AddDestination v.0 v.1))
    ∷ row 17 (a_dest ∷ a_name ∷ []) (λ v. Conf (RemoveDestination v.0 v.1))
    ∷ row 39 (a_name ∷ []) (λ queue. Conf (SetDefaultQueue queue))
    ∷ row 40 [] (λ _. Conf SetNoDefaultQueue)
    ∷ row 41 (a_wait ∷ []) (λ seconds. Conf (SetPatience seconds))
    ∷ row 42 (a_wait ∷ []) (λ seconds. Conf (SetRetryWait seconds))
    ∷ row 54 (a_dest ∷ a_name ∷ []) (λ v. Conf (FirstDestination v.0 v.1))
    ∷ []

-- the edits of queues
abbrev pub queue_part : List (Row ValueOf Edit)
queue_part =
    row 1 created (λ v. Conf (CreateBatchQueue v.0 v.1.0 v.1.1.0 v.1.1.1))
    ∷ row 2 created (λ v. Conf (CreateDeviceQueue v.0 v.1.0 v.1.1.0 v.1.1.1))
    ∷ row 3 pipe_created (λ v. Conf (CreatePipeQueue v.0 v.1.0 v.1.1.0 v.1.1.1.0 v.1.1.1.1))
    ∷ row 4 (a_name ∷ []) (λ queue. Conf (DeleteQueue queue))
    ∷ row 5 (a_name ∷ []) (λ queue. Conf (EnableQueue queue))
    ∷ row 6 (a_name ∷ []) (λ queue. Conf (DisableQueue queue))
    ∷ row 7 (a_name ∷ []) (λ queue. Conf (StartQueue queue))
    ∷ row 8 (a_name ∷ []) (λ queue. Conf (StopQueue queue))
    ∷ row 9 (a_name ∷ []) (λ queue. Conf (PurgeQueue queue))
    ∷ []

-- all edits
abbrev pub rows : List (Row ValueOf Edit)
rows = queue_part ++ setting_part ++ limits_part ++ access_part ++ devices_part ++ rows_part

-- ---- what is left of the table from each part on, as it is looked up part by part

-- the last part
unfoldable pub rows_edits : List (Row ValueOf Edit)
rows_edits = rows_part

-- from the edits of devices on
unfoldable pub devices_edits : List (Row ValueOf Edit)
devices_edits = devices_part ++ rows_edits

-- from those of who may do what on
unfoldable pub access_edits : List (Row ValueOf Edit)
access_edits = access_part ++ devices_edits

-- from those of limits and complexes on
unfoldable pub limits_edits : List (Row ValueOf Edit)
limits_edits = limits_part ++ access_edits

-- from those of settings and parameters on
unfoldable pub setting_edits : List (Row ValueOf Edit)
setting_edits = setting_part ++ limits_edits

-- all of it
unfoldable pub edits : List (Row ValueOf Edit)
edits = queue_part ++ setting_edits

-- ---- each edit's code and values

-- a code and the values of the fields that its row has
abbrev pub entry : (code : ℕ) → Values ValueOf (shape_of rows code) → Entry ValueOf
entry code values = record { code = code; shape = shape_of rows code; values = values }

-- the code and the values of an edit of queues and of the host's parameters
abbrev pub conf_entry : ConfEdit → Entry ValueOf
conf_entry (CreateBatchQueue queue priority run_limit pipe_only) = entry 1 (queue, (priority, (run_limit, pipe_only)))
conf_entry (CreateDeviceQueue queue priority run_limit pipe_only) = entry 2 (queue, (priority, (run_limit, pipe_only)))
conf_entry (CreatePipeQueue queue priority run_limit pipe_only destination) = entry 3 (queue, (priority, (run_limit, (pipe_only, destination))))
conf_entry (DeleteQueue queue) = entry 4 queue
conf_entry (EnableQueue queue) = entry 5 queue
conf_entry (DisableQueue queue) = entry 6 queue
conf_entry (StartQueue queue) = entry 7 queue
conf_entry (StopQueue queue) = entry 8 queue
conf_entry (PurgeQueue queue) = entry 9 queue
conf_entry (SetPriority priority queue) = entry 11 (priority, queue)
conf_entry (SetRunLimit limit queue) = entry 12 (limit, queue)
conf_entry (AddDestination destination queue) = entry 16 (destination, queue)
conf_entry (RemoveDestination destination queue) = entry 17 (destination, queue)
conf_entry (SetDefaultQueue queue) = entry 39 queue
conf_entry SetNoDefaultQueue = entry 40 tt
conf_entry (SetPatience seconds) = entry 41 seconds
conf_entry (SetRetryWait seconds) = entry 42 seconds
conf_entry (FirstDestination destination queue) = entry 54 (destination, queue)

-- the code and the values of an edit of limits and complexes
abbrev pub limits_entry : LimitsEdit → Entry ValueOf
limits_entry (SetUserLimit limit queue) = entry 13 (limit, queue)
limits_entry (SetCpuLimit limit queue) = entry 14 (limit, queue)
limits_entry (SetMemoryLimit limit queue) = entry 15 (limit, queue)
limits_entry (CreateComplex complex) = entry 18 complex
limits_entry (DeleteComplex complex) = entry 19 complex
limits_entry (AddQueue queue complex) = entry 20 (queue, complex)
limits_entry (RemoveQueue queue complex) = entry 21 (queue, complex)
limits_entry (SetComplexLimit limit complex) = entry 22 (limit, complex)
limits_entry (SetGlobalLimit limit) = entry 23 limit

-- the code and the values of an edit of who may do what
abbrev pub access_entry : AccessEdit → Entry ValueOf
access_entry (SetUnrestrictedAccess queue) = entry 31 queue
access_entry (SetNoAccess queue) = entry 32 queue
access_entry (AddUser user queue) = entry 33 (user, queue)
access_entry (RemoveUser user queue) = entry 34 (user, queue)
access_entry (AddManager user) = entry 35 user
access_entry (RemoveManager user) = entry 36 user
access_entry (AddOperator user) = entry 37 user
access_entry (RemoveOperator user) = entry 38 user

-- the code and the values of an edit of devices
abbrev pub devices_entry : DevicesEdit → Entry ValueOf
devices_entry (CreateDevice device forms) = entry 24 (device, forms)
devices_entry (DeleteDevice device) = entry 25 device
devices_entry (EnableDevice device) = entry 26 device
devices_entry (DisableDevice device) = entry 27 device
devices_entry (SetForms forms device) = entry 28 (forms, device)
devices_entry (AddDevice device queue) = entry 29 (device, queue)
devices_entry (RemoveDevice device queue) = entry 30 (device, queue)

-- the code and the values of an edit of requests
abbrev pub rows_entry : RowsEdit → Entry ValueOf
rows_entry (AbortQueue queue) = entry 10 queue
rows_entry (HoldRequest request) = entry 43 request
rows_entry (ReleaseRequest request) = entry 44 request
rows_entry (MoveRequest request queue) = entry 45 (request, queue)
rows_entry (ModifyRequest request priority) = entry 46 (request, priority)

-- the code and the values of an edit
abbrev pub edit_entry : Edit → Entry ValueOf
edit_entry (Conf e) = conf_entry e
edit_entry (LimitsOf e) = limits_entry e
edit_entry (AccessOf e) = access_entry e
edit_entry (DevicesOf e) = devices_entry e
edit_entry (RowsOf e) = rows_entry e
