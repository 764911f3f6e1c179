-- Short schedules of one host: requests, limits and starts.
use Rattle.std.specs.Prelude.{true, false, List, [], ◌∷◌, codes, None, Some}
use Rattle.nqs_rules.specs.World.{Act, Asks, Ends, Ticks, Clock, Crashes, Boots, Shows}
use Rattle.nqs_worked.specs.ScheduleWords.{host, request, named, typed, job_of, submission, edits, submits}
use Rattle.nqs_types.specs.declared.event.Command.TheVariants.{Stat, Delete}
use Rattle.nqs_types.specs.declared.edit.Edit.TheVariants.{Conf, Limits, Access, Devices, Rows}
use Rattle.nqs_types.specs.declared.edit.ConfEdit.TheVariants.{CreateBatchQueue, CreateDeviceQueue, CreatePipeQueue, EnableQueue, DisableQueue, StartQueue}
use Rattle.nqs_types.specs.declared.edit.ConfEdit.TheVariants.{StopQueue, SetPriority, SetRunLimit, AddDestination}
use Rattle.nqs_types.specs.declared.edit.LimitsEdit.TheVariants.{SetUserLimit, SetCpuLimit, SetMemoryLimit, SetGlobalLimit}
use Rattle.nqs_types.specs.declared.edit.AccessEdit.TheVariants.{SetUnrestrictedAccess, SetNoAccess}
use Rattle.nqs_types.specs.declared.edit.DevicesEdit.TheVariants.{CreateDevice, EnableDevice, AddDevice}
use Rattle.nqs_types.specs.declared.edit.RowsEdit.TheVariants.{AbortQueue, HoldRequest, ReleaseRequest, MoveRequest, ModifyRequest}

-- an owner has so many requests running as the queue allows, and who waits for that keeps back no
-- one
abbrev pub owner_has_a_limit : List Act
owner_has_a_limit =
    edits (Conf (SetRunLimit 5 (codes "batch")))
    ∷ edits (Limits (SetUserLimit (Some 1) (codes "batch")))
    ∷ edits (Conf (StartQueue (codes "batch")))
    ∷ submits (codes "ann") (codes "batch")
    ∷ submits (codes "ann") (codes "batch")
    ∷ submits (codes "bob") (codes "batch")
    ∷ edits (Limits (SetUserLimit None (codes "batch")))
    ∷ edits (Limits (SetUserLimit None (codes "nope")))
    ∷ Shows
    ∷ []

-- what a request states is at most the limits of its queue, which are tested after the way in
abbrev pub request_states_too_much : List Act
request_states_too_much =
    edits (Limits (SetCpuLimit (Some 60) (codes "batch")))
    ∷ edits (Limits (SetMemoryLimit (Some 1024) (codes "batch")))
    ∷ Asks (host 0) (codes "ann") (submission (Some (codes "batch")) (record (job_of (codes "ann"))
    { limits = record { cpu = Some 61; memory = Some 1025 } }) [])
    ∷ Asks (host 0) (codes "ann") (submission (Some (codes "batch")) (record (job_of (codes "ann"))
    { limits = record { cpu = Some 60; memory = Some 1025 } }) [])
    ∷ Asks (host 0) (codes "ann") (submission (Some (codes "batch")) (record (job_of (codes "ann"))
    { limits = record { cpu = Some 60; memory = Some 1024 } }) [])
    ∷ edits (Conf (DisableQueue (codes "batch")))
    ∷ Asks (host 0) (codes "ann") (submission (Some (codes "batch")) (record (job_of (codes "ann")) { limits = record { cpu = Some 61; memory = None } }) [])
    ∷ edits (Conf (EnableQueue (codes "batch")))
    ∷ edits (Limits (SetCpuLimit None (codes "batch")))
    ∷ Asks (host 0) (codes "ann") (submission (Some (codes "batch")) (record (job_of (codes "ann")) { limits = record { cpu = Some 61; memory = None } }) [])
    ∷ edits (Limits (SetMemoryLimit None (codes "batch")))
    ∷ Asks (host 0) (codes "ann") (submission (Some (codes "batch")) (record (job_of (codes "ann")) { limits = record { cpu = None; memory = Some 1025 } }) [])
    ∷ edits (Limits (SetCpuLimit (Some 1) (codes "x")))
    ∷ edits (Limits (SetMemoryLimit (Some 1) (codes "x")))
    ∷ []

-- the running requests of all batch queues together have a limit, those of other queues none
abbrev pub all_batch_queues_have_a_limit : List Act
all_batch_queues_have_a_limit =
    edits (Limits (SetGlobalLimit 1))
    ∷ edits (Conf (CreateBatchQueue (codes "night") None (Some 5) false))
    ∷ edits (Conf (EnableQueue (codes "night")))
    ∷ edits (Conf (StartQueue (codes "night")))
    ∷ edits (Conf (StartQueue (codes "batch")))
    ∷ edits (Devices (CreateDevice (codes "laser") (codes "plain")))
    ∷ edits (Devices (EnableDevice (codes "laser")))
    ∷ edits (Conf (CreateDeviceQueue (codes "lp") None None false))
    ∷ edits (Devices (AddDevice (codes "laser") (codes "lp")))
    ∷ edits (Conf (EnableQueue (codes "lp")))
    ∷ edits (Conf (StartQueue (codes "lp")))
    ∷ submits (codes "ann") (codes "lp")
    ∷ submits (codes "ann") (codes "batch")
    ∷ submits (codes "ann") (codes "night")
    ∷ edits (Limits (SetGlobalLimit 2))
    ∷ []

-- a running request is told to end by a deletion with kill or by an abort of its queue, again each
-- time, and is lost with its host
abbrev pub jobs_are_told_to_end : List Act
jobs_are_told_to_end =
    edits (Conf (SetRunLimit 2 (codes "batch")))
    ∷ edits (Conf (StartQueue (codes "batch")))
    ∷ submits (codes "ann") (codes "batch")
    ∷ submits (codes "bob") (codes "batch")
    ∷ submits (codes "cy") (codes "batch")
    ∷ Asks (host 0) (codes "ann") (Delete (named 1 (codes "alpha")) false)
    ∷ Asks (host 0) (codes "bob") (Delete (named 1 (codes "alpha")) true)
    ∷ Asks (host 0) (codes "ann") (Delete (named 1 (codes "alpha")) true)
    ∷ Asks (host 0) (codes "ann") (Delete (named 1 (codes "alpha")) true)
    ∷ edits (Rows (AbortQueue (codes "batch")))
    ∷ edits (Rows (AbortQueue (codes "batch")))
    ∷ edits (Conf (CreatePipeQueue (codes "p") None None false None))
    ∷ edits (Rows (AbortQueue (codes "p")))
    ∷ edits (Rows (AbortQueue (codes "x")))
    ∷ Shows
    ∷ Crashes (host 0)
    ∷ Boots (host 0)
    ∷ Asks (host 0) (codes "root") (Delete (named 3 (codes "alpha")) true)
    ∷ Shows
    ∷ []

-- a moved request keeps its hold and takes a new arrival; a changed priority counts
abbrev pub requests_are_held_and_moved : List Act
requests_are_held_and_moved =
    edits (Conf (CreateBatchQueue (codes "night") None None false))
    ∷ edits (Conf (EnableQueue (codes "night")))
    ∷ submits (codes "ann") (codes "batch")
    ∷ edits (Rows (HoldRequest (named 1 (codes "alpha"))))
    ∷ edits (Rows (HoldRequest (named 1 (codes "alpha"))))
    ∷ edits (Rows (HoldRequest (named 9 (codes "alpha"))))
    ∷ submits (codes "bob") (codes "night")
    ∷ edits (Rows (MoveRequest (named 1 (codes "alpha")) (codes "night")))
    ∷ Shows
    ∷ edits (Rows (ReleaseRequest (named 1 (codes "alpha"))))
    ∷ edits (Rows (ReleaseRequest (named 1 (codes "alpha"))))
    ∷ edits (Rows (ReleaseRequest (named 9 (codes "alpha"))))
    ∷ edits (Conf (StartQueue (codes "night")))
    ∷ edits (Rows (HoldRequest (named 2 (codes "alpha"))))
    ∷ edits (Rows (ModifyRequest (named 1 (codes "alpha")) 63))
    ∷ edits (Rows (ModifyRequest (named 2 (codes "alpha")) 0))
    ∷ edits (Rows (ModifyRequest (named 9 (codes "alpha")) 0))
    ∷ edits (Rows (MoveRequest (named 2 (codes "alpha")) (codes "batch")))
    ∷ edits (Rows (MoveRequest (named 2 (codes "alpha")) (codes "nope")))
    ∷ edits (Rows (MoveRequest (named 9 (codes "alpha")) (codes "nope")))
    ∷ edits (Access (SetNoAccess (codes "night")))
    ∷ edits (Rows (MoveRequest (named 1 (codes "alpha")) (codes "night")))
    ∷ edits (Access (SetUnrestrictedAccess (codes "night")))
    ∷ edits (Limits (SetCpuLimit (Some 5) (codes "batch")))
    ∷ Asks (host 0) (codes "ann") (submission (Some (codes "night")) (record (job_of (codes "ann")) { limits = record { cpu = Some 6; memory = None } }) [])
    ∷ edits (Rows (MoveRequest (named 3 (codes "alpha")) (codes "batch")))
    ∷ Asks (host 0) (codes "ann") (Stat None [])
    ∷ []

-- a request with an earliest start waits for it, keeps back no one, and starts at the first event
-- then
abbrev pub request_waits_for_its_start : List Act
request_waits_for_its_start =
    edits (Conf (StartQueue (codes "batch")))
    ∷ Asks (host 0) (codes "ann") (submission (Some (codes "batch")) (record (job_of (codes "ann")) { earliest = 100 }) [])
    ∷ submits (codes "bob") (codes "batch")
    ∷ Ends (host 0) (request 2 0) 1 0 [] []
    ∷ Clock 99
    ∷ Ticks (host 0)
    ∷ Clock 100
    ∷ Shows
    ∷ submits (codes "ann") (codes "nope")
    ∷ Ends (host 0) (request 1 0) 1 7 [] []
    ∷ []

-- destinations of this host are tried in order within one event, and a run limit of 0 stops that
abbrev pub pipe_queue_tries_the_next : List Act
pipe_queue_tries_the_next =
    edits (Conf (CreateBatchQueue (codes "small") None None false))
    ∷ edits (Conf (CreatePipeQueue (codes "link") None (Some 0) false (Some (typed (codes "nope") (codes "alpha")))))
    ∷ edits (Conf (AddDestination (typed (codes "small") (codes "alpha")) (codes "link")))
    ∷ edits (Conf (AddDestination (typed (codes "batch") (codes "alpha")) (codes "link")))
    ∷ edits (Conf (EnableQueue (codes "link")))
    ∷ edits (Conf (StartQueue (codes "link")))
    ∷ submits (codes "ann") (codes "link")
    ∷ Shows
    ∷ edits (Conf (SetRunLimit 1 (codes "link")))
    ∷ Shows
    ∷ edits (Conf (CreatePipeQueue (codes "empty") None None false None))
    ∷ edits (Conf (EnableQueue (codes "empty")))
    ∷ edits (Conf (StartQueue (codes "empty")))
    ∷ submits (codes "ann") (codes "empty")
    ∷ Shows
    ∷ []

-- the queue of greatest priority starts first, among equals the first created, and one that can't
-- start keeps back no one
abbrev pub queues_have_priorities : List Act
queues_have_priorities =
    edits (Conf (CreateBatchQueue (codes "night") None None false))
    ∷ edits (Conf (EnableQueue (codes "night")))
    ∷ edits (Conf (StartQueue (codes "night")))
    ∷ edits (Conf (StartQueue (codes "batch")))
    ∷ edits (Limits (SetGlobalLimit 0))
    ∷ submits (codes "ann") (codes "night")
    ∷ submits (codes "ann") (codes "night")
    ∷ submits (codes "bob") (codes "batch")
    ∷ submits (codes "bob") (codes "batch")
    ∷ edits (Limits (SetGlobalLimit 1))
    ∷ edits (Conf (SetPriority 32 (codes "night")))
    ∷ Ends (host 0) (request 3 0) 1 0 [] []
    ∷ edits (Conf (SetRunLimit 0 (codes "night")))
    ∷ Ends (host 0) (request 1 0) 1 0 [] []
    ∷ edits (Conf (StopQueue (codes "batch")))
    ∷ Ends (host 0) (request 4 0) 1 0 [] []
    ∷ edits (Conf (SetRunLimit 1 (codes "night")))
    ∷ []
