-- Short schedules of two hosts: handovers and stages.
use Rattle.std.specs.Prelude.{false, List, [], ◌∷◌, codes, None, Some, ◌++◌}
use Rattle.nqs_rules.specs.World.{Act, Asks, Ends, Delivers, Newest, Ticks, Clock, Crashes, Boots, Shows}
use Rattle.nqs_worked.specs.ScheduleWords.{host, request, named, typed, job_of, submission, edits, submits, with_link, scripted}
use Rattle.nqs_types.specs.declared.event.Command.TheVariants.{Edit, Delete}
use Rattle.nqs_types.specs.declared.edit.Edit.TheVariants.{Conf, Limits, Access, Rows}
use Rattle.nqs_types.specs.declared.edit.ConfEdit.TheVariants.{CreateBatchQueue, CreatePipeQueue, DeleteQueue, EnableQueue, DisableQueue, StartQueue}
use Rattle.nqs_types.specs.declared.edit.ConfEdit.TheVariants.{PurgeQueue, AddDestination, RemoveDestination}
use Rattle.nqs_types.specs.declared.edit.LimitsEdit.TheVariants.{SetCpuLimit, SetMemoryLimit}
use Rattle.nqs_types.specs.declared.edit.AccessEdit.TheVariants.{AddOperator}
use Rattle.nqs_types.specs.declared.edit.RowsEdit.TheVariants.{HoldRequest, ReleaseRequest, MoveRequest, ModifyRequest}

-- a purge drops queued requests, held ones too, and leaves those that run or are on their way
abbrev pub purge_keeps_what_is_active : List Act
purge_keeps_what_is_active =
    with_link
    ++ edits (Conf (StartQueue (codes "batch")))
    ∷ submits (codes "ann") (codes "link")
    ∷ submits (codes "ann") (codes "link")
    ∷ submits (codes "ann") (codes "link")
    ∷ edits (Rows (HoldRequest (named 3 (codes "alpha"))))
    ∷ submits (codes "ann") (codes "batch")
    ∷ submits (codes "ann") (codes "batch")
    ∷ edits (Rows (HoldRequest (named 1 (codes "alpha"))))
    ∷ edits (Rows (MoveRequest (named 1 (codes "alpha")) (codes "batch")))
    ∷ edits (Rows (ModifyRequest (named 1 (codes "alpha")) 1))
    ∷ edits (Rows (HoldRequest (named 4 (codes "alpha"))))
    ∷ edits (Access (AddOperator (codes "op")))
    ∷ Asks (host 0) (codes "op") (Edit (Conf (PurgeQueue (codes "link"))))
    ∷ Asks (host 0) (codes "op") (Edit (Conf (PurgeQueue (codes "batch"))))
    ∷ edits (Conf (PurgeQueue (codes "nope")))
    ∷ Shows
    ∷ Asks (host 0) (codes "ann") (Delete (named 1 (codes "alpha")) false)
    ∷ Shows
    ∷ []

-- the newest packet between two hosts, either way
abbrev pub newest_packet_arrives : List Act
newest_packet_arrives =
    Newest (host 0) (host 1)
    ∷ with_link
    ++ submits (codes "ann") (codes "link")
    ∷ Newest (host 1) (host 0)
    ∷ Newest (host 0) (host 1)
    ∷ Newest (host 0) (host 1)
    ∷ Newest (host 0) (host 1)
    ∷ Newest (host 1) (host 1)
    ∷ Delivers 9
    ∷ Delivers 4
    ∷ Crashes (host 1)
    ∷ Newest (host 0) (host 1)
    ∷ Delivers 1
    ∷ Shows
    ∷ []

-- promises, closed numbers and committed handovers outlive a boot
abbrev pub packets_repeat_after_boots : List Act
packets_repeat_after_boots =
    with_link
    ++ scripted
    ∷ Delivers 1
    ∷ Crashes (host 1)
    ∷ Boots (host 1)
    ∷ Delivers 1
    ∷ Shows
    ∷ Delivers 2
    ∷ Crashes (host 0)
    ∷ Boots (host 0)
    ∷ Shows
    ∷ Delivers 3
    ∷ Ticks (host 0)
    ∷ Delivers 4
    ∷ Crashes (host 1)
    ∷ Boots (host 1)
    ∷ Delivers 4
    ∷ Delivers 1
    ∷ Delivers 7
    ∷ Crashes (host 0)
    ∷ Boots (host 0)
    ∷ Delivers 2
    ∷ Ticks (host 0)
    ∷ Ticks (host 1)
    ∷ Shows
    ∷ []

-- outputs go back in stages, one at a time, and each makes one file however often it comes
abbrev pub stages_repeat : List Act
stages_repeat =
    with_link
    ++ Asks (host 1) (codes "root") (Edit (Conf (StartQueue (codes "batch"))))
    ∷ submits (codes "ann") (codes "link")
    ∷ Delivers 1
    ∷ Delivers 2
    ∷ Delivers 3
    ∷ Delivers 4
    ∷ Ends (host 1) (request 1 0) 1 0 (codes "out") (codes "error")
    ∷ Ticks (host 1)
    ∷ Delivers 5
    ∷ Delivers 6
    ∷ Delivers 7
    ∷ Delivers 8
    ∷ Delivers 9
    ∷ Delivers 10
    ∷ Ticks (host 1)
    ∷ Crashes (host 0)
    ∷ Boots (host 0)
    ∷ Delivers 9
    ∷ Ticks (host 0)
    ∷ []

-- an offer without an answer is taken back, the peer is waited for, and the next offer has the next
-- number
abbrev pub peer_is_silent : List Act
peer_is_silent =
    with_link
    ++ submits (codes "ann") (codes "link")
    ∷ Clock 59
    ∷ Ticks (host 0)
    ∷ Clock 60
    ∷ Ticks (host 0)
    ∷ Shows
    ∷ Clock 359
    ∷ Ticks (host 0)
    ∷ Clock 360
    ∷ Ticks (host 0)
    ∷ Delivers 1
    ∷ Delivers 4
    ∷ Delivers 3
    ∷ Ticks (host 1)
    ∷ Delivers 5
    ∷ Delivers 6
    ∷ Shows
    ∷ Delivers 8
    ∷ Delivers 9
    ∷ Shows
    ∷ Delivers 1
    ∷ Delivers 5
    ∷ []

-- an offer is refused for its request, its queue, the way in or the limits, in this order
abbrev pub offers_are_refused : List Act
offers_are_refused =
    edits (Conf (CreatePipeQueue (codes "link") None (Some 9) false (Some (typed (codes "nope") (codes "beta")))))
    ∷ edits (Conf (AddDestination (typed (codes "batch") (codes "beta")) (codes "link")))
    ∷ edits (Conf (EnableQueue (codes "link")))
    ∷ edits (Conf (StartQueue (codes "link")))
    ∷ Asks (host 1) (codes "root") (Edit (Limits (SetCpuLimit (Some 5) (codes "batch"))))
    ∷ Asks (host 1) (codes "root") (Edit (Limits (SetMemoryLimit (Some 5) (codes "batch"))))
    ∷ Asks (host 0) (codes "ann") (submission (Some (codes "link")) (record (job_of (codes "ann")) { limits = record { cpu = Some 6; memory = Some 6 } }) [])
    ∷ Delivers 1
    ∷ Delivers 2
    ∷ Delivers 3
    ∷ Delivers 4
    ∷ Shows
    ∷ Asks (host 1) (codes "root") (Edit (Limits (SetCpuLimit None (codes "batch"))))
    ∷ Asks (host 1) (codes "root") (Edit (Conf (DisableQueue (codes "batch"))))
    ∷ edits (Rows (ReleaseRequest (named 1 (codes "alpha"))))
    ∷ Delivers 5
    ∷ Delivers 6
    ∷ Delivers 7
    ∷ Delivers 8
    ∷ Asks (host 1) (codes "root") (Edit (Conf (EnableQueue (codes "batch"))))
    ∷ edits (Rows (ReleaseRequest (named 1 (codes "alpha"))))
    ∷ Delivers 9
    ∷ Delivers 10
    ∷ Delivers 11
    ∷ Delivers 12
    ∷ Asks (host 1) (codes "root") (Edit (Limits (SetMemoryLimit None (codes "batch"))))
    ∷ Delivers 11
    ∷ Delivers 13
    ∷ Delivers 14
    ∷ Shows
    ∷ []

-- a request goes to another host and back, and a late copy of its first offer is refused there
abbrev pub request_comes_back : List Act
request_comes_back =
    with_link
    ++ Asks (host 1) (codes "root") (Edit (Conf (CreatePipeQueue (codes "home") None None false (Some (typed (codes "batch") (codes "alpha"))))))
    ∷ Asks (host 1) (codes "root") (Edit (Conf (EnableQueue (codes "home"))))
    ∷ Asks (host 1) (codes "root") (Edit (Conf (StartQueue (codes "home"))))
    ∷ edits (Conf (AddDestination (typed (codes "home") (codes "beta")) (codes "link")))
    ∷ edits (Conf (RemoveDestination (typed (codes "batch") (codes "beta")) (codes "link")))
    ∷ submits (codes "ann") (codes "link")
    ∷ Delivers 1
    ∷ Delivers 2
    ∷ Delivers 3
    ∷ Delivers 4
    ∷ Delivers 5
    ∷ Delivers 6
    ∷ Delivers 7
    ∷ Delivers 8
    ∷ Shows
    ∷ Delivers 5
    ∷ Delivers 6
    ∷ Delivers 3
    ∷ Delivers 1
    ∷ []

-- a queue with a promise is in use, and a request that its own host gave up may be promised and lie
-- elsewhere
abbrev pub promises_count_for_a_queue : List Act
promises_count_for_a_queue =
    with_link
    ++ Asks (host 1) (codes "root") (Edit (Conf (CreateBatchQueue (codes "night") None None false)))
    ∷ Asks (host 1) (codes "root") (Edit (Conf (EnableQueue (codes "night"))))
    ∷ edits (Conf (AddDestination (typed (codes "night") (codes "beta")) (codes "link")))
    ∷ edits (Conf (RemoveDestination (typed (codes "batch") (codes "beta")) (codes "link")))
    ∷ submits (codes "ann") (codes "link")
    ∷ Delivers 1
    ∷ Asks (host 1) (codes "root") (Edit (Conf (DeleteQueue (codes "night"))))
    ∷ Asks (host 0) (codes "ann") (Delete (named 1 (codes "alpha")) false)
    ∷ Shows
    ∷ Ticks (host 1)
    ∷ Delivers 3
    ∷ Delivers 4
    ∷ Asks (host 1) (codes "root") (Edit (Conf (DeleteQueue (codes "night"))))
    ∷ []
