-- Short schedules of one host: edits of queues, complexes, devices and users, and lists.
use Rattle.std.specs.Prelude.{true, false, List, [], ◌∷◌, codes, None, Some}
use Rattle.nqs_rules.specs.World.{Act, Asks, Ends, Shows}
use Rattle.nqs_worked.specs.ScheduleWords.{host, request, named, typed, job_of, submission, edits, submits}
use Rattle.nqs_types.specs.declared.event.Command.TheVariants.{Edit, Stat, Delete, Show}
use Rattle.nqs_types.specs.declared.edit.Edit.TheVariants.{Conf, Limits, Access, Devices}
use Rattle.nqs_types.specs.declared.edit.ConfEdit.TheVariants.{CreateBatchQueue, CreateDeviceQueue, CreatePipeQueue, DeleteQueue, EnableQueue, StartQueue}
use Rattle.nqs_types.specs.declared.edit.ConfEdit.TheVariants.{StopQueue, SetPriority, SetRunLimit, AddDestination, RemoveDestination, SetDefaultQueue}
use Rattle.nqs_types.specs.declared.edit.ConfEdit.TheVariants.{SetNoDefaultQueue, SetPatience, SetRetryWait}
use Rattle.nqs_types.specs.declared.edit.LimitsEdit.TheVariants.{CreateComplex, DeleteComplex, AddQueue, RemoveQueue, SetComplexLimit, SetGlobalLimit}
use Rattle.nqs_types.specs.declared.edit.AccessEdit.TheVariants.{SetUnrestrictedAccess, SetNoAccess, AddUser, RemoveUser, AddManager, RemoveManager}
use Rattle.nqs_types.specs.declared.edit.AccessEdit.TheVariants.{AddOperator, RemoveOperator}
use Rattle.nqs_types.specs.declared.edit.DevicesEdit.TheVariants.{CreateDevice, DeleteDevice, EnableDevice, DisableDevice, SetForms, AddDevice, RemoveDevice}

-- complexes, with queues and without, and one that lets nothing run
abbrev pub complexes_are_edited : List Act
complexes_are_edited =
    edits (Limits (CreateComplex (codes "c")))
    ∷ Asks (host 0) (codes "ann") (Show 50)
    ∷ edits (Limits (CreateComplex (codes "c")))
    ∷ edits (Limits (AddQueue (codes "batch") (codes "c")))
    ∷ edits (Limits (AddQueue (codes "batch") (codes "c")))
    ∷ edits (Limits (AddQueue (codes "nope") (codes "c")))
    ∷ edits (Limits (AddQueue (codes "nope") (codes "d")))
    ∷ edits (Conf (CreatePipeQueue (codes "p") None None false None))
    ∷ edits (Limits (AddQueue (codes "p") (codes "c")))
    ∷ Asks (host 0) (codes "ann") (Show 50)
    ∷ edits (Limits (SetComplexLimit 0 (codes "c")))
    ∷ edits (Limits (SetComplexLimit 0 (codes "d")))
    ∷ edits (Conf (StartQueue (codes "batch")))
    ∷ submits (codes "ann") (codes "batch")
    ∷ edits (Limits (RemoveQueue (codes "batch") (codes "c")))
    ∷ edits (Limits (RemoveQueue (codes "batch") (codes "c")))
    ∷ edits (Limits (RemoveQueue (codes "batch") (codes "d")))
    ∷ edits (Limits (DeleteComplex (codes "c")))
    ∷ edits (Limits (DeleteComplex (codes "c")))
    ∷ Asks (host 0) (codes "ann") (Show 50)
    ∷ []

-- a queue that holds nothing is deleted, out of complexes and as the default
abbrev pub queue_is_deleted : List Act
queue_is_deleted =
    edits (Conf (CreateBatchQueue (codes "night") (Some 40) None false))
    ∷ edits (Conf (CreateBatchQueue (codes "night") None None false))
    ∷ edits (Conf (CreateDeviceQueue (codes "night") None None false))
    ∷ edits (Conf (EnableQueue (codes "night")))
    ∷ edits (Limits (CreateComplex (codes "c")))
    ∷ edits (Limits (AddQueue (codes "night") (codes "c")))
    ∷ edits (Limits (AddQueue (codes "batch") (codes "c")))
    ∷ edits (Conf (SetDefaultQueue (codes "night")))
    ∷ Asks (host 0) (codes "ann") (submission None (job_of (codes "ann")) [])
    ∷ edits (Conf (DeleteQueue (codes "night")))
    ∷ Asks (host 0) (codes "ann") (Delete (named 1 (codes "alpha")) false)
    ∷ edits (Conf (DeleteQueue (codes "night")))
    ∷ Asks (host 0) (codes "ann") (Show 50)
    ∷ Asks (host 0) (codes "ann") (Show 52)
    ∷ Asks (host 0) (codes "ann") (submission None (job_of (codes "ann")) [])
    ∷ edits (Conf (DeleteQueue (codes "night")))
    ∷ edits (Conf (SetDefaultQueue (codes "night")))
    ∷ edits (Conf (SetDefaultQueue (codes "batch")))
    ∷ edits (Conf (SetPatience 5))
    ∷ edits (Conf (SetRetryWait 7))
    ∷ edits (Limits (SetGlobalLimit 2))
    ∷ Asks (host 0) (codes "ann") (Show 52)
    ∷ Asks (host 0) (codes "ann") (submission None (job_of (codes "ann")) [])
    ∷ edits (Conf SetNoDefaultQueue)
    ∷ Asks (host 0) (codes "ann") (submission None (job_of (codes "ann")) [])
    ∷ []

-- destinations of a pipe queue: what refuses them, and in which order
abbrev pub destinations_are_edited : List Act
destinations_are_edited =
    edits (Conf (CreatePipeQueue (codes "p") None None false (Some (typed (codes "q") (codes "zed")))))
    ∷ edits (Conf (CreatePipeQueue (codes "batch") None None false (Some (typed (codes "q") (codes "zed")))))
    ∷ edits (Conf (CreatePipeQueue (codes "batch") None None false (Some (typed (codes "q") (codes "alpha")))))
    ∷ edits (Conf (CreatePipeQueue (codes "p") None None false (Some (typed (codes "q") (codes "alpha")))))
    ∷ edits (Conf (AddDestination (typed (codes "q") (codes "zed")) (codes "nope")))
    ∷ edits (Conf (AddDestination (typed (codes "q") (codes "zed")) (codes "batch")))
    ∷ edits (Conf (AddDestination (typed (codes "q") (codes "alpha")) (codes "batch")))
    ∷ edits (Conf (AddDestination (typed (codes "q") (codes "alpha")) (codes "p")))
    ∷ edits (Conf (AddDestination (typed (codes "r") (codes "alpha")) (codes "p")))
    ∷ edits (Conf (RemoveDestination (typed (codes "q") (codes "alpha")) (codes "nope")))
    ∷ edits (Conf (RemoveDestination (typed (codes "q") (codes "alpha")) (codes "batch")))
    ∷ edits (Conf (RemoveDestination (typed (codes "q") (codes "zed")) (codes "p")))
    ∷ edits (Conf (RemoveDestination (typed (codes "q") (codes "alpha")) (codes "p")))
    ∷ edits (Conf (RemoveDestination (typed (codes "q") (codes "alpha")) (codes "p")))
    ∷ edits (Conf (SetPriority 3 (codes "p")))
    ∷ edits (Conf (SetPriority 3 (codes "nope")))
    ∷ edits (Conf (SetRunLimit 0 (codes "nope")))
    ∷ Asks (host 0) (codes "ann") (Show 48)
    ∷ []

-- users of a queue, managers and operators
abbrev pub users_are_listed : List Act
users_are_listed =
    edits (Access (AddUser (codes "ann") (codes "batch")))
    ∷ edits (Access (RemoveUser (codes "ann") (codes "batch")))
    ∷ edits (Access (SetNoAccess (codes "batch")))
    ∷ submits (codes "root") (codes "batch")
    ∷ edits (Access (AddUser (codes "ann") (codes "batch")))
    ∷ edits (Access (AddUser (codes "ann") (codes "batch")))
    ∷ submits (codes "ann") (codes "batch")
    ∷ edits (Access (RemoveUser (codes "ann") (codes "batch")))
    ∷ edits (Access (RemoveUser (codes "ann") (codes "batch")))
    ∷ submits (codes "ann") (codes "batch")
    ∷ edits (Access (SetUnrestrictedAccess (codes "batch")))
    ∷ submits (codes "bob") (codes "batch")
    ∷ edits (Access (AddUser (codes "ann") (codes "x")))
    ∷ edits (Access (RemoveUser (codes "ann") (codes "x")))
    ∷ edits (Access (SetNoAccess (codes "x")))
    ∷ edits (Access (SetUnrestrictedAccess (codes "x")))
    ∷ edits (Access (AddManager (codes "mia")))
    ∷ edits (Access (AddManager (codes "mia")))
    ∷ Asks (host 0) (codes "mia") (Edit (Access (AddOperator (codes "op"))))
    ∷ edits (Access (AddOperator (codes "op")))
    ∷ Asks (host 0) (codes "ann") (Show 51)
    ∷ Asks (host 0) (codes "mia") (Edit (Access (RemoveManager (codes "root"))))
    ∷ edits (Access (RemoveManager (codes "zed")))
    ∷ edits (Access (RemoveManager (codes "mia")))
    ∷ Asks (host 0) (codes "mia") (Edit (Limits (CreateComplex (codes "c"))))
    ∷ Asks (host 0) (codes "op") (Edit (Access (AddOperator (codes "x"))))
    ∷ Asks (host 0) (codes "op") (Edit (Conf (StopQueue (codes "batch"))))
    ∷ Asks (host 0) (codes "op") (Delete (named 1 (codes "alpha")) false)
    ∷ edits (Access (RemoveOperator (codes "op")))
    ∷ edits (Access (RemoveOperator (codes "op")))
    ∷ Asks (host 0) (codes "op") (Edit (Conf (StopQueue (codes "batch"))))
    ∷ Asks (host 0) (codes "op") (Delete (named 2 (codes "alpha")) false)
    ∷ Asks (host 0) (codes "ann") (Show 51)
    ∷ []

-- each list of qmgr, and a queue that takes requests from pipe queues only
abbrev pub lists_are_shown : List Act
lists_are_shown =
    Asks (host 0) (codes "ann") (Show 49)
    ∷ Asks (host 0) (codes "ann") (Show 50)
    ∷ Asks (host 0) (codes "ann") (Show 48)
    ∷ Asks (host 0) (codes "ann") (Show 51)
    ∷ Asks (host 0) (codes "ann") (Show 52)
    ∷ edits (Devices (CreateDevice (codes "laser") (codes "plain")))
    ∷ Asks (host 0) (codes "ann") (Show 49)
    ∷ edits (Conf (CreateDeviceQueue (codes "lp") (Some 40) (Some 2) true))
    ∷ edits (Conf (EnableQueue (codes "lp")))
    ∷ submits (codes "ann") (codes "lp")
    ∷ edits (Conf (CreatePipeQueue (codes "link") None None false (Some (typed (codes "lp") (codes "alpha")))))
    ∷ Asks (host 0) (codes "ann") (Show 48)
    ∷ edits (Devices (AddDevice (codes "laser") (codes "lp")))
    ∷ edits (Devices (EnableDevice (codes "laser")))
    ∷ edits (Conf (StartQueue (codes "lp")))
    ∷ edits (Conf (EnableQueue (codes "link")))
    ∷ edits (Conf (StartQueue (codes "link")))
    ∷ submits (codes "ann") (codes "link")
    ∷ Asks (host 0) (codes "ann") (Show 49)
    ∷ Asks (host 0) (codes "ann") (Show 48)
    ∷ Asks (host 0) (codes "ann") (Stat None ((codes "lp") ∷ (codes "nope") ∷ (codes "none") ∷ []))
    ∷ Asks (host 0) (codes "ann") (Stat None ((codes "lp") ∷ (codes "lp") ∷ []))
    ∷ Asks (host 0) (codes "ann") (Stat (Some (codes "bob")) [])
    ∷ []

-- devices that are disabled, busy, removed and deleted
abbrev pub devices_are_edited : List Act
devices_are_edited =
    edits (Devices (CreateDevice (codes "a") (codes "plain")))
    ∷ edits (Devices (CreateDevice (codes "b") (codes "red")))
    ∷ edits (Devices (CreateDevice (codes "a") (codes "red")))
    ∷ edits (Conf (CreateDeviceQueue (codes "lp") None (Some 3) false))
    ∷ edits (Devices (AddDevice (codes "a") (codes "lp")))
    ∷ edits (Devices (AddDevice (codes "b") (codes "lp")))
    ∷ edits (Devices (AddDevice (codes "a") (codes "lp")))
    ∷ edits (Devices (AddDevice (codes "z") (codes "nope")))
    ∷ edits (Devices (AddDevice (codes "a") (codes "nope")))
    ∷ edits (Devices (AddDevice (codes "a") (codes "batch")))
    ∷ edits (Devices (EnableDevice (codes "b")))
    ∷ edits (Devices (EnableDevice (codes "z")))
    ∷ edits (Conf (EnableQueue (codes "lp")))
    ∷ edits (Conf (StartQueue (codes "lp")))
    ∷ submits (codes "ann") (codes "lp")
    ∷ submits (codes "ann") (codes "lp")
    ∷ edits (Devices (EnableDevice (codes "a")))
    ∷ edits (Devices (DeleteDevice (codes "a")))
    ∷ edits (Devices (SetForms (codes "red") (codes "a")))
    ∷ edits (Devices (DisableDevice (codes "a")))
    ∷ edits (Devices (RemoveDevice (codes "a") (codes "lp")))
    ∷ edits (Devices (RemoveDevice (codes "a") (codes "lp")))
    ∷ edits (Devices (RemoveDevice (codes "a") (codes "nope")))
    ∷ Ends (host 0) (request 1 0) 1 0 [] []
    ∷ edits (Devices (DeleteDevice (codes "b")))
    ∷ Asks (host 0) (codes "ann") (Show 49)
    ∷ edits (Devices (DeleteDevice (codes "b")))
    ∷ edits (Devices (DisableDevice (codes "b")))
    ∷ edits (Devices (SetForms (codes "x") (codes "b")))
    ∷ submits (codes "ann") (codes "lp")
    ∷ Ends (host 0) (request 2 0) 1 0 [] []
    ∷ edits (Devices (SetForms (codes "x") (codes "a")))
    ∷ Asks (host 0) (codes "ann") (Show 49)
    ∷ Shows
    ∷ []
