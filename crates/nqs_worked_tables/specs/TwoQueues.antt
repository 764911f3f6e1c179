-- Schedules of one host with two queues, of which an edit means one.
use Rattle.std.specs.Prelude.{false, List, [], ◌∷◌, codes, None, Some}
use Rattle.nqs_rules.specs.World.{Act, Asks, Ends, Crashes, Boots, Shows}
use Rattle.nqs_worked.specs.ScheduleWords.{host, request, named, edits, submits}
use Rattle.nqs_types.specs.declared.event.Command.TheVariants.{Edit}
use Rattle.nqs_types.specs.declared.edit.Edit.TheVariants.{Conf, Limits, Access, Rows}
use Rattle.nqs_types.specs.declared.edit.ConfEdit.TheVariants.{CreateBatchQueue, EnableQueue, StartQueue, PurgeQueue, SetRunLimit}
use Rattle.nqs_types.specs.declared.edit.LimitsEdit.TheVariants.{CreateComplex, AddQueue, RemoveQueue, SetComplexLimit}
use Rattle.nqs_types.specs.declared.edit.AccessEdit.TheVariants.{AddOperator}
use Rattle.nqs_types.specs.declared.edit.RowsEdit.TheVariants.{AbortQueue, HoldRequest}

-- a second queue that runs two requests at once
abbrev pub with_night : List Act → List Act
with_night acts = edits (Conf (CreateBatchQueue (codes "night") None (Some 2) false)) ∷ edits (Conf (EnableQueue (codes "night"))) ∷ acts

-- an abort of one queue kills what runs there, and that alone is lost with the host
abbrev pub one_queue_is_aborted : List Act
one_queue_is_aborted =
    with_night (
    edits (Conf (StartQueue (codes "night")))
    ∷ edits (Conf (StartQueue (codes "batch")))
    ∷ submits (codes "ann") (codes "batch")
    ∷ submits (codes "bob") (codes "night")
    ∷ submits (codes "cy") (codes "night")
    ∷ submits (codes "ann") (codes "batch")
    ∷ submits (codes "ann") (codes "night")
    ∷ edits (Rows (AbortQueue (codes "night")))
    ∷ Crashes (host 0)
    ∷ Boots (host 0)
    ∷ Shows
    ∷ [])

-- a purge of one queue takes what waits there, held or not
abbrev pub one_queue_is_purged : List Act
one_queue_is_purged =
    with_night (
    edits (Conf (StartQueue (codes "night")))
    ∷ edits (Access (AddOperator (codes "op")))
    ∷ submits (codes "ann") (codes "batch")
    ∷ submits (codes "ann") (codes "night")
    ∷ submits (codes "ann") (codes "batch")
    ∷ submits (codes "ann") (codes "night")
    ∷ submits (codes "ann") (codes "night")
    ∷ edits (Rows (HoldRequest (named 3 (codes "alpha"))))
    ∷ Asks (host 0) (codes "op") (Edit (Conf (PurgeQueue (codes "night"))))
    ∷ Shows
    ∷ Asks (host 0) (codes "op") (Edit (Conf (PurgeQueue (codes "batch"))))
    ∷ Shows
    ∷ [])

-- a complex of one queue and one of both: each limits only its own
abbrev pub two_complexes_limit : List Act
two_complexes_limit =
    with_night (
    edits (Conf (SetRunLimit 5 (codes "batch")))
    ∷ edits (Conf (SetRunLimit 5 (codes "night")))
    ∷ edits (Limits (CreateComplex (codes "one")))
    ∷ edits (Limits (CreateComplex (codes "both")))
    ∷ edits (Limits (AddQueue (codes "batch") (codes "one")))
    ∷ edits (Limits (AddQueue (codes "batch") (codes "both")))
    ∷ edits (Limits (AddQueue (codes "night") (codes "both")))
    ∷ edits (Limits (SetComplexLimit 2 (codes "both")))
    ∷ edits (Conf (StartQueue (codes "night")))
    ∷ edits (Conf (StartQueue (codes "batch")))
    ∷ submits (codes "ann") (codes "batch")
    ∷ submits (codes "ann") (codes "batch")
    ∷ submits (codes "ann") (codes "night")
    ∷ submits (codes "ann") (codes "night")
    ∷ Ends (host 0) (request 3 0) 1 0 [] []
    ∷ edits (Limits (SetComplexLimit 3 (codes "both")))
    ∷ edits (Limits (RemoveQueue (codes "batch") (codes "one")))
    ∷ Shows
    ∷ [])
