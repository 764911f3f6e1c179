-- Schedules of one host, their words read.
use Rattle.std.specs.Prelude.{false, List, [], ◌∷◌, codes, None, Some}
use Rattle.nqs_rules.specs.World.{Act, Asks, Ends, Writes, Delivers, Ticks, Fuse, Crashes, Boots, Shows}
use Rattle.nqs_worked.specs.ScheduleWords.{host, request, named, typed, job_of, submission, unread_words}
use Rattle.nqs_base.specs.declared.tear.Tear.TheVariants.{Old, New}
use Rattle.nqs_types.specs.declared.world.Which.TheVariants.{First}
use Rattle.nqs_types.specs.declared.fault.GrammarFault.TheVariants.{Ambiguous}
use Rattle.nqs_types.specs.declared.fault.WordsCause.TheVariants.{BadNumber, Both}
use Rattle.nqs_types.specs.declared.event.Command.TheVariants.{Edit, Stat, Delete, UnreadLine}
use Rattle.nqs_types.specs.declared.edit.Edit.TheVariants.{Conf, Limits, Access, Devices, Rows}
use Rattle.nqs_types.specs.declared.edit.ConfEdit.TheVariants.{CreateBatchQueue, CreateDeviceQueue, CreatePipeQueue, EnableQueue, DisableQueue, StartQueue}
use Rattle.nqs_types.specs.declared.edit.ConfEdit.TheVariants.{StopQueue, SetRunLimit, AddDestination}
use Rattle.nqs_types.specs.declared.edit.LimitsEdit.TheVariants.{CreateComplex, AddQueue, SetComplexLimit}
use Rattle.nqs_types.specs.declared.edit.AccessEdit.TheVariants.{SetNoAccess, AddOperator, AddUser}
use Rattle.nqs_types.specs.declared.edit.DevicesEdit.TheVariants.{CreateDevice, EnableDevice, SetForms, AddDevice}
use Rattle.nqs_types.specs.declared.edit.RowsEdit.TheVariants.{ReleaseRequest}

-- one submission, and the table
abbrev pub submission_is_shown : List Act
submission_is_shown =
    Asks (host 0) (codes "ann") (submission None (record (job_of (codes "ann")) { name = codes "sim" }) [])
    ∷ Shows
    ∷ []

-- the greater priority starts first, and among equals the earlier
abbrev pub priority_starts_first : List Act
priority_starts_first =
    Asks (host 0) (codes "ann") (submission None (record (job_of (codes "ann")) { priority = 10 }) [])
    ∷ Asks (host 0) (codes "bob") (submission None (record (job_of (codes "bob")) { priority = 63 }) [])
    ∷ Asks (host 0) (codes "cy") (submission None (record (job_of (codes "cy")) { priority = 63 }) [])
    ∷ Asks (host 0) (codes "root") (Edit (Conf (StartQueue (codes "batch"))))
    ∷ Ends (host 0) (request 2 0) 1 0 [] []
    ∷ Shows
    ∷ []

-- a complex limits its queues together
abbrev pub complex_limits_its_queues : List Act
complex_limits_its_queues =
    Asks (host 0) (codes "root") (Edit (Conf (CreateBatchQueue (codes "night") None None false)))
    ∷ Asks (host 0) (codes "root") (Edit (Conf (EnableQueue (codes "night"))))
    ∷ Asks (host 0) (codes "root") (Edit (Conf (StartQueue (codes "night"))))
    ∷ Asks (host 0) (codes "root") (Edit (Limits (CreateComplex (codes "both"))))
    ∷ Asks (host 0) (codes "root") (Edit (Limits (AddQueue (codes "batch") (codes "both"))))
    ∷ Asks (host 0) (codes "root") (Edit (Limits (AddQueue (codes "night") (codes "both"))))
    ∷ Asks (host 0) (codes "root") (Edit (Limits (SetComplexLimit 1 (codes "both"))))
    ∷ Asks (host 0) (codes "root") (Edit (Conf (StartQueue (codes "batch"))))
    ∷ Asks (host 0) (codes "ann") (submission None (job_of (codes "ann")) [])
    ∷ Asks (host 0) (codes "ann") (submission (Some (codes "night")) (job_of (codes "ann")) [])
    ∷ Shows
    ∷ []

-- the run limit counts what already runs
abbrev pub limit_counts_what_runs : List Act
limit_counts_what_runs =
    Asks (host 0) (codes "root") (Edit (Conf (SetRunLimit 3 (codes "batch"))))
    ∷ Asks (host 0) (codes "root") (Edit (Conf (StartQueue (codes "batch"))))
    ∷ Asks (host 0) (codes "ann") (submission None (record (job_of (codes "ann")) { name = codes "a" }) [])
    ∷ Asks (host 0) (codes "ann") (submission None (record (job_of (codes "ann")) { name = codes "a" }) [])
    ∷ Asks (host 0) (codes "ann") (submission None (record (job_of (codes "ann")) { name = codes "a" }) [])
    ∷ Asks (host 0) (codes "ann") (submission None (record (job_of (codes "ann")) { name = codes "a" }) [])
    ∷ Asks (host 0) (codes "root") (Edit (Conf (SetRunLimit 1 (codes "batch"))))
    ∷ Ends (host 0) (request 1 0) 1 0 [] []
    ∷ Ends (host 0) (request 2 0) 1 0 [] []
    ∷ Ends (host 0) (request 3 0) 1 0 [] []
    ∷ []

-- a request that isn't rerunnable is lost with its host
abbrev pub request_is_lost : List Act
request_is_lost =
    Asks (host 0) (codes "root") (Edit (Conf (StartQueue (codes "batch"))))
    ∷ Asks (host 0) (codes "ann") (submission None (record (job_of (codes "ann")) { rerun = false }) [])
    ∷ Fuse (host 0) First 3 Old
    ∷ Ends (host 0) (request 1 0) 1 0 [] []
    ∷ Boots (host 0)
    ∷ Shows
    ∷ []

-- another starts again after the stop
abbrev pub request_starts_again : List Act
request_starts_again =
    Asks (host 0) (codes "root") (Edit (Conf (StartQueue (codes "batch"))))
    ∷ Asks (host 0) (codes "ann") (submission None (job_of (codes "ann")) [])
    ∷ Fuse (host 0) First 3 Old
    ∷ Ends (host 0) (request 1 0) 1 0 [] []
    ∷ Boots (host 0)
    ∷ Shows
    ∷ []

-- a boot is stopped, and its record is kept
abbrev pub boot_stops : List Act
boot_stops =
    Asks (host 0) (codes "root") (Edit (Conf (StartQueue (codes "batch"))))
    ∷ Asks (host 0) (codes "ann") (submission None (record (job_of (codes "ann")) { name = codes "a" }) [])
    ∷ Crashes (host 0)
    ∷ Fuse (host 0) First 3 New
    ∷ Boots (host 0)
    ∷ Boots (host 0)
    ∷ Shows
    ∷ []

-- refusals, bad words, and events that meet nothing
abbrev pub commands_are_refused : List Act
commands_are_refused =
    Asks (host 0) (codes "ann") (submission (Some (codes "nope")) (job_of (codes "ann")) [])
    ∷ Asks (host 0) (codes "ann") (unread_words BadNumber 0 2)
    ∷ Asks (host 0) (codes "ann") (Edit (Conf (StartQueue (codes "batch"))))
    ∷ Asks (host 0) (codes "root") (UnreadLine (Ambiguous 0))
    ∷ Asks (host 0) (codes "ann") (Stat None [])
    ∷ Asks (host 0) (codes "ann") (Delete (named 9 (codes "alpha")) false)
    ∷ Delivers 1
    ∷ Ends (host 0) (request 1 0) 1 0 [] []
    ∷ []

-- ranks of users, and a list of users of a queue
abbrev pub ranks_and_lists : List Act
ranks_and_lists =
    Asks (host 0) (codes "root") (Edit (Access (AddOperator (codes "op"))))
    ∷ Asks (host 0) (codes "op") (Edit (Conf (StopQueue (codes "batch"))))
    ∷ Asks (host 0) (codes "op") (Edit (Limits (CreateComplex (codes "c"))))
    ∷ Asks (host 0) (codes "root") (Edit (Access (SetNoAccess (codes "batch"))))
    ∷ Asks (host 0) (codes "ann") (submission None (record (job_of (codes "ann")) { name = codes "a" }) [])
    ∷ Asks (host 0) (codes "root") (Edit (Access (AddUser (codes "ann") (codes "batch"))))
    ∷ Asks (host 0) (codes "ann") (submission None (record (job_of (codes "ann")) { name = codes "a" }) [])
    ∷ Shows
    ∷ []

-- bad words of a script and of a command
abbrev pub words_are_refused : List Act
words_are_refused =
    Asks (host 0) (codes "ann") (unread_words BadNumber 1 2)
    ∷ Asks (host 0) (codes "ann") (unread_words Both 0 3)
    ∷ []

-- lists of requests, and who may delete them
abbrev pub requests_are_listed : List Act
requests_are_listed =
    Asks (host 0) (codes "ann") (submission None (record (job_of (codes "ann")) { priority = 10; name = codes "low" }) [])
    ∷ Asks (host 0) (codes "bob") (submission None (record (job_of (codes "bob")) { priority = 63; name = codes "top" }) [])
    ∷ Asks (host 0) (codes "cy") (Stat None [])
    ∷ Asks (host 0) (codes "cy") (Stat (Some (codes "ann")) (codes "batch" ∷ []))
    ∷ Asks (host 0) (codes "bob") (Delete (named 1 (codes "alpha")) false)
    ∷ Asks (host 0) (codes "bob") (Delete (named 2 (codes "alpha")) false)
    ∷ []

-- a device runs requests with its forms, and a file is written
abbrev pub devices_and_forms : List Act
devices_and_forms =
    Asks (host 0) (codes "root") (Edit (Devices (CreateDevice (codes "laser") (codes "plain"))))
    ∷ Asks (host 0) (codes "root") (Edit (Conf (CreateDeviceQueue (codes "lp") None None false)))
    ∷ Asks (host 0) (codes "root") (Edit (Devices (AddDevice (codes "laser") (codes "lp"))))
    ∷ Asks (host 0) (codes "root") (Edit (Devices (EnableDevice (codes "laser"))))
    ∷ Asks (host 0) (codes "root") (Edit (Conf (EnableQueue (codes "lp"))))
    ∷ Asks (host 0) (codes "root") (Edit (Conf (StartQueue (codes "lp"))))
    ∷ Asks (host 0) (codes "bob") (submission (Some (codes "lp")) (record (job_of (codes "bob")) { forms = Some (codes "a3") }) (codes "report"))
    ∷ Asks (host 0) (codes "bob") (submission (Some (codes "lp")) (record (job_of (codes "bob")) { forms = Some (codes "plain") }) (codes "report"))
    ∷ Asks (host 0) (codes "root") (Edit (Devices (SetForms (codes "a3") (codes "laser"))))
    ∷ Ends (host 0) (request 2 0) 1 0 [] []
    ∷ Asks (host 0) (codes "root") (Edit (Devices (SetForms (codes "a3") (codes "laser"))))
    ∷ Ends (host 0) (request 1 0) 1 0 (codes "ok") []
    ∷ Ticks (host 0)
    ∷ Writes (host 0) 1
    ∷ Ticks (host 0)
    ∷ Shows
    ∷ []

-- a request that two pipe queues hand to each other is held after 32 moves
abbrev pub request_goes_round : List Act
request_goes_round =
    Asks (host 0) (codes "root") (Edit (Conf (CreatePipeQueue (codes "ping") None None false None)))
    ∷ Asks (host 0) (codes "root") (Edit (Conf (CreatePipeQueue (codes "pong") None None false (Some (typed (codes "ping") (codes "alpha"))))))
    ∷ Asks (host 0) (codes "root") (Edit (Conf (AddDestination (typed (codes "pong") (codes "alpha")) (codes "ping"))))
    ∷ Asks (host 0) (codes "root") (Edit (Conf (EnableQueue (codes "ping"))))
    ∷ Asks (host 0) (codes "root") (Edit (Conf (EnableQueue (codes "pong"))))
    ∷ Asks (host 0) (codes "root") (Edit (Conf (StartQueue (codes "ping"))))
    ∷ Asks (host 0) (codes "root") (Edit (Conf (StartQueue (codes "pong"))))
    ∷ Asks (host 0) (codes "ann") (submission (Some (codes "ping")) (job_of (codes "ann")) [])
    ∷ Shows
    ∷ []

-- a request that its only destination refuses is held until it is released
abbrev pub local_destination_refuses : List Act
local_destination_refuses =
    Asks (host 0) (codes "root") (Edit (Conf (CreatePipeQueue (codes "link") None None false (Some (typed (codes "batch") (codes "alpha"))))))
    ∷ Asks (host 0) (codes "root") (Edit (Conf (EnableQueue (codes "link"))))
    ∷ Asks (host 0) (codes "root") (Edit (Conf (StartQueue (codes "link"))))
    ∷ Asks (host 0) (codes "root") (Edit (Conf (DisableQueue (codes "batch"))))
    ∷ Asks (host 0) (codes "ann") (submission (Some (codes "link")) (job_of (codes "ann")) [])
    ∷ Shows
    ∷ Asks (host 0) (codes "root") (Edit (Conf (EnableQueue (codes "batch"))))
    ∷ Asks (host 0) (codes "root") (Edit (Rows (ReleaseRequest (named 1 (codes "alpha")))))
    ∷ Shows
    ∷ []
