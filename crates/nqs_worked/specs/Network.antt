-- Schedules of several hosts, their words read.
use Rattle.std.specs.Prelude.{true, false, List, [], ◌∷◌, ◌++◌, codes, None, Some}
use Rattle.nqs_rules.specs.World.{Act, Asks, Ends, Writes, Delivers, Ticks, Clock, Fuse, Crashes, Boots, Shows}
use Rattle.nqs_worked.specs.ScheduleWords.{host, request, named, typed, job_of, submission, with_link, scripted}
use Rattle.nqs_base.specs.declared.tear.Tear.TheVariants.{New}
use Rattle.nqs_types.specs.declared.world.Which.TheVariants.{First}
use Rattle.nqs_types.specs.declared.event.Command.TheVariants.{Edit, Delete}
use Rattle.nqs_types.specs.declared.edit.Edit.TheVariants.{Conf, Access, Devices, Rows}
use Rattle.nqs_types.specs.declared.edit.ConfEdit.TheVariants.{CreateBatchQueue, CreateDeviceQueue, CreatePipeQueue, EnableQueue, DisableQueue, StartQueue}
use Rattle.nqs_types.specs.declared.edit.ConfEdit.TheVariants.{AddDestination}
use Rattle.nqs_types.specs.declared.edit.AccessEdit.TheVariants.{SetNoAccess}
use Rattle.nqs_types.specs.declared.edit.DevicesEdit.TheVariants.{CreateDevice, EnableDevice, AddDevice}
use Rattle.nqs_types.specs.declared.edit.RowsEdit.TheVariants.{ReleaseRequest}

-- a handover, with each packet repeated
abbrev pub handover : List Act
handover =
    with_link
    ++ scripted
    ∷ Delivers 1
    ∷ Delivers 1
    ∷ Delivers 1
    ∷ Delivers 2
    ∷ Delivers 5
    ∷ Delivers 5
    ∷ Delivers 6
    ∷ Shows
    ∷ []

-- the source stops as it commits, and says so after its boot
abbrev pub source_stops_at_commit : List Act
source_stops_at_commit =
    with_link
    ++ scripted
    ∷ Delivers 1
    ∷ Fuse (host 0) First 4 New
    ∷ Delivers 2
    ∷ Shows
    ∷ Boots (host 0)
    ∷ Ticks (host 0)
    ∷ Delivers 3
    ∷ Shows
    ∷ []

-- the receiver of an offer stops, and another destination takes the request
abbrev pub receiver_stops : List Act
receiver_stops =
    Asks (host 0) (codes "root") (Edit (Conf (CreatePipeQueue (codes "link") None None false (Some (typed (codes "batch") (codes "beta"))))))
    ∷ Asks (host 0) (codes "root") (Edit (Conf (AddDestination (typed (codes "batch") (codes "gamma")) (codes "link"))))
    ∷ Asks (host 0) (codes "root") (Edit (Conf (EnableQueue (codes "link"))))
    ∷ Asks (host 0) (codes "root") (Edit (Conf (StartQueue (codes "link"))))
    ∷ scripted
    ∷ Delivers 1
    ∷ Crashes (host 1)
    ∷ Clock 60
    ∷ Ticks (host 0)
    ∷ Delivers 3
    ∷ Delivers 4
    ∷ Delivers 5
    ∷ Delivers 6
    ∷ Boots (host 1)
    ∷ Ticks (host 1)
    ∷ Delivers 7
    ∷ Delivers 8
    ∷ Shows
    ∷ []

-- late copies of a handover change nothing
abbrev pub late_copies : List Act
late_copies =
    with_link
    ++ Asks (host 1) (codes "root") (Edit (Conf (StartQueue (codes "batch"))))
    ∷ scripted
    ∷ Delivers 1
    ∷ Delivers 2
    ∷ Delivers 3
    ∷ Delivers 4
    ∷ Ends (host 1) (request 1 0) 1 0 [] []
    ∷ Delivers 4
    ∷ Delivers 3
    ∷ Delivers 2
    ∷ Delivers 1
    ∷ Shows
    ∷ []

-- a request is deleted while it is offered
abbrev pub deletion_in_doubt : List Act
deletion_in_doubt =
    with_link
    ++ scripted
    ∷ Delivers 1
    ∷ Asks (host 0) (codes "ann") (Delete (named 1 (codes "alpha")) false)
    ∷ Delivers 2
    ∷ Delivers 3
    ∷ Shows
    ∷ []

-- a request that all destinations refuse is held until it is released
abbrev pub all_destinations_refuse : List Act
all_destinations_refuse =
    Asks (host 0) (codes "root") (Edit (Conf (CreatePipeQueue (codes "link") None None false (Some (typed (codes "batch") (codes "beta"))))))
    ∷ Asks (host 0) (codes "root") (Edit (Conf (AddDestination (typed (codes "batch") (codes "gamma")) (codes "link"))))
    ∷ Asks (host 0) (codes "root") (Edit (Conf (EnableQueue (codes "link"))))
    ∷ Asks (host 0) (codes "root") (Edit (Conf (StartQueue (codes "link"))))
    ∷ Asks (host 1) (codes "root") (Edit (Conf (DisableQueue (codes "batch"))))
    ∷ Asks (host 2) (codes "root") (Edit (Access (SetNoAccess (codes "batch"))))
    ∷ scripted
    ∷ Delivers 1
    ∷ Delivers 2
    ∷ Delivers 3
    ∷ Delivers 4
    ∷ Shows
    ∷ Asks (host 1) (codes "root") (Edit (Conf (EnableQueue (codes "batch"))))
    ∷ Asks (host 0) (codes "root") (Edit (Rows (ReleaseRequest (named 1 (codes "alpha")))))
    ∷ Delivers 5
    ∷ Delivers 6
    ∷ Delivers 7
    ∷ Shows
    ∷ []

-- a site of two hosts, with outputs that come back
abbrev pub site_of_two : List Act
site_of_two =
    Asks (host 0) (codes "root") (Edit (Conf (CreateBatchQueue (codes "small") None (Some 2) true)))
    ∷ Asks (host 0) (codes "root") (Edit (Conf (EnableQueue (codes "small"))))
    ∷ Asks (host 0) (codes "root") (Edit (Conf (StartQueue (codes "small"))))
    ∷ Asks (host 1) (codes "root") (Edit (Conf (CreatePipeQueue (codes "run") (Some 40) None false (Some (typed (codes "small") (codes "cray"))))))
    ∷ Asks (host 1) (codes "root") (Edit (Conf (EnableQueue (codes "run"))))
    ∷ Asks (host 1) (codes "root") (Edit (Conf (StartQueue (codes "run"))))
    ∷ Asks (host 1) (codes "root") (Edit (Devices (CreateDevice (codes "laser") (codes "plain"))))
    ∷ Asks (host 1) (codes "root") (Edit (Conf (CreateDeviceQueue (codes "lp") None None false)))
    ∷ Asks (host 1) (codes "root") (Edit (Devices (AddDevice (codes "laser") (codes "lp"))))
    ∷ Asks (host 1) (codes "root") (Edit (Devices (EnableDevice (codes "laser"))))
    ∷ Asks (host 1) (codes "root") (Edit (Conf (EnableQueue (codes "lp"))))
    ∷ Asks (host 1) (codes "root") (Edit (Conf (StartQueue (codes "lp"))))
    ∷ Asks (host 1) (codes "ann") (submission (Some (codes "run")) (record (job_of (codes "ann"))
    { name = codes "flow"; limits = record { cpu = Some 5400; memory = None } })
    (codes "#@$ -q run -r flow" ++ 10 ∷ [] ++ codes "#@$ -lT 1:30:00" ++ 10 ∷ [] ++ codes "./flow" ++ 10 ∷ []))
    ∷ Asks (host 1) (codes "bob") (submission (Some (codes "lp")) (record (job_of (codes "bob")) { forms = Some (codes "plain") }) (codes "report"))
    ∷ Delivers 1
    ∷ Delivers 2
    ∷ Delivers 3
    ∷ Delivers 4
    ∷ Ends (host 1) (request 2 1) 1 0 [] []
    ∷ Ends (host 0) (request 1 1) 1 0 (codes "42" ++ 10 ∷ []) []
    ∷ Delivers 5
    ∷ Delivers 6
    ∷ Writes (host 1) 1
    ∷ Shows
    ∷ []
