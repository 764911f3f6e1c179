-- Short schedules of one host: ends, outputs, stops and boots.
use Rattle.std.specs.Prelude.{true, false, List, [], ◌∷◌, codes, Some}
use Rattle.nqs_rules.specs.World.{Act, Asks, Ends, Finishes, Fails, Writes, Leaves, Ticks, Clock, Fuse, Crashes, Boots, Shows}
use Rattle.nqs_worked.specs.ScheduleWords.{host, request, job_of, submission, edits, submits}
use Rattle.nqs_base.specs.declared.tear.Tear.TheVariants.{Old, New}
use Rattle.nqs_types.specs.declared.world.Which.TheVariants.{Root, First, Second, Spool}
use Rattle.nqs_types.specs.declared.event.Command.TheVariants.{Shutdown}
use Rattle.nqs_types.specs.declared.edit.Edit.TheVariants.{Conf}
use Rattle.nqs_types.specs.declared.edit.ConfEdit.TheVariants.{StartQueue, SetRunLimit}

-- a shutdown is answered, then come the starts of that event, and then the host stops
abbrev pub host_is_shut_down : List Act
host_is_shut_down =
    edits (Conf (StartQueue (codes "batch")))
    ∷ edits (Conf (SetRunLimit 2 (codes "batch")))
    ∷ Asks (host 0) (codes "ann") (submission (Some (codes "batch")) (record (job_of (codes "ann")) { earliest = 10 }) [])
    ∷ Asks (host 0) (codes "ann") (submission (Some (codes "batch")) (record (job_of (codes "ann")) { earliest = 20 }) [])
    ∷ Clock 10
    ∷ Asks (host 0) (codes "ann") Shutdown
    ∷ Clock 20
    ∷ Asks (host 0) (codes "root") Shutdown
    ∷ submits (codes "ann") (codes "batch")
    ∷ Ticks (host 0)
    ∷ Crashes (host 0)
    ∷ Finishes (host 0)
    ∷ Ends (host 0) (request 1 0) 1 0 [] []
    ∷ Boots (host 0)
    ∷ Boots (host 0)
    ∷ Crashes (host 0)
    ∷ []

-- where a fuse falls in the starts of a shutdown there is one stop only
abbrev pub shutdown_meets_a_fuse : List Act
shutdown_meets_a_fuse =
    edits (Conf (StartQueue (codes "batch")))
    ∷ Asks (host 0) (codes "ann") (submission (Some (codes "batch")) (record (job_of (codes "ann")) { earliest = 10 }) [])
    ∷ Clock 10
    ∷ Fuse (host 0) First 1 Old
    ∷ Asks (host 0) (codes "root") Shutdown
    ∷ Boots (host 0)
    ∷ []

-- the least running request is ended, and a launch that failed takes its request away
abbrev pub requests_finish : List Act
requests_finish =
    Finishes (host 0)
    ∷ edits (Conf (StartQueue (codes "batch")))
    ∷ edits (Conf (SetRunLimit 2 (codes "batch")))
    ∷ submits (codes "ann") (codes "batch")
    ∷ submits (codes "ann") (codes "batch")
    ∷ Finishes (host 0)
    ∷ Fails (host 0) (request 2 0) 2
    ∷ Fails (host 0) (request 3 0) 1
    ∷ Ends (host 0) (request 2 0) 2 0 [] []
    ∷ Fails (host 0) (request 2 0) 1
    ∷ Finishes (host 0)
    ∷ Shows
    ∷ []

-- outputs are asked for at each tick until they are written, and -eo makes one of both
abbrev pub outputs_are_written : List Act
outputs_are_written =
    edits (Conf (StartQueue (codes "batch")))
    ∷ submits (codes "ann") (codes "batch")
    ∷ Ends (host 0) (request 1 0) 1 0 (codes "out") (codes "error")
    ∷ Leaves (host 0) 1
    ∷ Ticks (host 0)
    ∷ Writes (host 0) 1
    ∷ Ticks (host 0)
    ∷ Writes (host 0) 1
    ∷ Writes (host 0) 2
    ∷ Ticks (host 0)
    ∷ Asks (host 0) (codes "ann") (submission (Some (codes "batch")) (record (job_of (codes "ann")) { join = true; name = (codes "sim") }) [])
    ∷ Ends (host 0) (request 2 0) 1 3 (codes "ab") (codes "c")
    ∷ Asks (host 0) (codes "ann") (submission (Some (codes "batch")) (record (job_of (codes "ann")) { join = true; out = (codes "res/log") }) [])
    ∷ Ends (host 0) (request 3 0) 1 0 [] (codes "abcd")
    ∷ Asks (host 0) (codes "ann") (submission (Some (codes "batch")) (record (job_of (codes "ann")) { err = (codes "trouble") }) [])
    ∷ Ends (host 0) (request 4 0) 1 0 [] (codes "x")
    ∷ submits (codes "ann") (codes "batch")
    ∷ Ends (host 0) (request 5 0) 1 0 [] []
    ∷ Ticks (host 0)
    ∷ []

-- a boot tells in the order of rows which requests start again and which are lost
abbrev pub rows_come_back_in_order : List Act
rows_come_back_in_order =
    edits (Conf (SetRunLimit 3 (codes "batch")))
    ∷ edits (Conf (StartQueue (codes "batch")))
    ∷ submits (codes "ann") (codes "batch")
    ∷ Asks (host 0) (codes "bob") (submission (Some (codes "batch")) (record (job_of (codes "bob")) { rerun = false }) [])
    ∷ Asks (host 0) (codes "cy") (submission (Some (codes "batch")) (record (job_of (codes "cy")) { priority = 40 }) [])
    ∷ submits (codes "dee") (codes "batch")
    ∷ Crashes (host 0)
    ∷ Shows
    ∷ Boots (host 0)
    ∷ Shows
    ∷ []

-- each output that has bytes takes two calls of the spool, and a call that isn't made counts for no
-- fuse
abbrev pub outputs_meet_fuses : List Act
outputs_meet_fuses =
    edits (Conf (StartQueue (codes "batch")))
    ∷ submits (codes "ann") (codes "batch")
    ∷ Fuse (host 0) Spool 3 New
    ∷ Ends (host 0) (request 1 0) 1 0 (codes "a") (codes "b")
    ∷ Boots (host 0)
    ∷ Fuse (host 0) Spool 3 New
    ∷ Ends (host 0) (request 1 0) 2 0 (codes "a") []
    ∷ submits (codes "bob") (codes "batch")
    ∷ Asks (host 0) (codes "cy") (submission (Some (codes "batch")) (job_of (codes "cy")) (codes "date"))
    ∷ Shows
    ∷ Boots (host 0)
    ∷ Ticks (host 0)
    ∷ Shows
    ∷ []

-- a later fuse replaces the count of its disk and the tear of its host, a stop takes all fuses
-- away, and one of 0 is one of 1
abbrev pub fuses_are_replaced : List Act
fuses_are_replaced =
    Fuse (host 0) First 1 Old
    ∷ Fuse (host 0) First 8 Old
    ∷ Fuse (host 0) Root 1 Old
    ∷ Fuse (host 0) Second 1 New
    ∷ submits (codes "ann") (codes "batch")
    ∷ submits (codes "ann") (codes "batch")
    ∷ Boots (host 0)
    ∷ submits (codes "ann") (codes "batch")
    ∷ Crashes (host 0)
    ∷ Fuse (host 0) First 0 New
    ∷ Boots (host 0)
    ∷ Boots (host 0)
    ∷ Shows
    ∷ []
