-- Schedules in which it is asked why requests wait.
use Rattle.std.specs.Prelude.{ℕ, false, List, [], ◌∷◌, codes, None, Some}
use Rattle.nqs_rules.specs.World.{Act, Asks, Ends, Delivers, Ticks, Clock}
use Rattle.nqs_worked.specs.ScheduleWords.{host, request, named, typed, job_of, submission, edits, submits}
use Rattle.nqs_types.specs.declared.event.Command.TheVariants.{Why}
use Rattle.nqs_types.specs.declared.edit.Edit.TheVariants.{Conf, Limits, Rows}
use Rattle.nqs_types.specs.declared.edit.ConfEdit.TheVariants.{CreatePipeQueue, EnableQueue, StartQueue, SetRunLimit, AddDestination}
use Rattle.nqs_types.specs.declared.edit.LimitsEdit.TheVariants.{SetUserLimit}
use Rattle.nqs_types.specs.declared.edit.RowsEdit.TheVariants.{HoldRequest}

-- a user, whoever it is, asks the first host why a request of its own waits
abbrev pub asks_why : List ℕ → ℕ → Act
asks_why user seq = Asks (host 0) user (Why (named seq (codes "alpha")))

-- one host: a stopped queue, a run limit, a hold, an earliest start, a user limit, a moment at
-- which nothing hinders, and no request
abbrev pub a_host_says_why : List Act
a_host_says_why =
    submits (codes "ann") (codes "batch")
    ∷ submits (codes "bob") (codes "batch")
    ∷ asks_why (codes "ann") 1
    ∷ asks_why (codes "ann") 2
    ∷ edits (Conf (StartQueue (codes "batch")))
    ∷ asks_why (codes "eve") 1
    ∷ asks_why (codes "eve") 2
    ∷ edits (Rows (HoldRequest (named 2 (codes "alpha"))))
    ∷ asks_why (codes "bob") 2
    ∷ Asks (host 0) (codes "cy") (submission (Some (codes "batch")) (record (job_of (codes "cy")) { earliest = 100 }) [])
    ∷ asks_why (codes "cy") 3
    ∷ edits (Conf (SetRunLimit 2 (codes "batch")))
    ∷ edits (Limits (SetUserLimit (Some 1) (codes "batch")))
    ∷ submits (codes "ann") (codes "batch")
    ∷ asks_why (codes "ann") 4
    ∷ Clock 100
    ∷ asks_why (codes "cy") 3
    ∷ Ends (host 0) (request 1 0) 1 0 [] []
    ∷ asks_why (codes "ann") 4
    ∷ asks_why (codes "ann") 1
    ∷ []

-- a pipe queue to two hosts: one refuses, the other is silent, and is waited for until a moment
abbrev pub destinations_say_why : List Act
destinations_say_why =
    edits (Conf (CreatePipeQueue (codes "link") None None false (Some (typed (codes "nope") (codes "beta")))))
    ∷ edits (Conf (AddDestination (typed (codes "batch") (codes "gamma")) (codes "link")))
    ∷ edits (Conf (EnableQueue (codes "link")))
    ∷ edits (Conf (StartQueue (codes "link")))
    ∷ submits (codes "ann") (codes "link")
    ∷ asks_why (codes "ann") 1
    ∷ Delivers 1
    ∷ Delivers 2
    ∷ Clock 60
    ∷ Ticks (host 0)
    ∷ asks_why (codes "ann") 1
    ∷ Clock 360
    ∷ asks_why (codes "ann") 1
    ∷ []
