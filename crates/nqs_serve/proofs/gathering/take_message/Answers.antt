use Rattle.std.proofs.Common.{length, IsTrue, Ok, sym, ap, subst, ◌∙◌}
use Rattle.std.proofs.lemmas.Result.{IfOk-weaker, on_ok_weaker}
use Rattle.nqs_types.specs.declared.event.Event.{Event}
use Rattle.nqs_types.specs.declared.message.Message.{Message}
use Rattle.nqs_rules.specs.Sane.{is_sane_event}
use Rattle.nqs_packets.specs.Values.{MaySend}
use Rattle.nqs_serve.specs.Events.{Here, event_said}
use Rattle.nqs_serve.specs.Gathers.{Heard, heard_said, taken_by, IfTaken}
use Rattle.nqs_serve.specs.Sends.{is_right_event}
use Rattle.nqs_serve.proofs.Gathers.{came_taken, came_has, said_taken, heard_alone, piece_said}
use Rattle.nqs_serve.proofs.gathering.take_message.Goals as goal

-- a piece

pub take_piece-requires : goal.take_piece-requires
take_piece-requires c = c.requires.form c.in-Ok.piece (piece_said c.args.message c.in-Ok.piece c.in-Ok.ensures.piece)

pub returns-in-Ok-clause-event : goal.returns-in-Ok-clause-event
returns-in-Ok-clause-event c =
    let here : Here = record { me = c.args.me; site = c.args.site.now } in
    IfOk-weaker c.take_piece.result _ _ (λ came is.
    is ∙ ap (λ (m : Message). (heard_said here c.args.gather.now (Ok m)).event)
    (sym (piece_said c.args.message c.in-Ok.piece c.in-Ok.ensures.piece))) c.take_piece.ensures.event

pub returns-in-Ok-clause-gathered : goal.returns-in-Ok-clause-gathered
returns-in-Ok-clause-gathered c =
    let here : Here = record { me = c.args.me; site = c.args.site.now } in
    on_ok_weaker c.take_piece.result (λ is.
    is ∙ ap (λ (m : Message). (heard_said here c.args.gather.now (Ok m)).gathered)
    (sym (piece_said c.args.message c.in-Ok.piece c.in-Ok.ensures.piece))) c.take_piece.ensures.gathered

-- another message

pub sort_read-requires : goal.sort_read-requires
sort_read-requires c = subst MaySend (sym c.in-Err.ensures.other.0) c.requires.may

pub returns-in-Ok-sort_read-clause-event : goal.returns-in-Ok-sort_read-clause-event
returns-in-Ok-sort_read-clause-event c =
    let here : Here = record { me = c.args.me; site = c.args.site.now } in
    ap taken_by c.came_as.ensures ∙ came_taken c.in-Ok-sort_read.sorted
    ∙ said_taken here c.in-Err.message c.in-Ok-sort_read.sorted c.in-Ok-sort_read.ensures.sorted
    ∙ ap (λ (m : Message). event_said here (Ok m)) c.in-Err.ensures.other.0
    ∙ sym (ap (λ (h : Heard). h.event) (heard_alone here c.args.gather.now c.args.message c.in-Err.ensures.other.1))

pub returns-in-Ok-sort_read-clause-gathered : goal.returns-in-Ok-sort_read-clause-gathered
returns-in-Ok-sort_read-clause-gathered c =
    let here : Here = record { me = c.args.me; site = c.args.site.now } in
    sym (ap (λ (h : Heard). h.gathered) (heard_alone here c.args.gather.now c.args.message c.in-Err.ensures.other.1))

pub returns-in-Ok-sort_read-clause-sane : goal.returns-in-Ok-sort_read-clause-sane
returns-in-Ok-sort_read-clause-sane c =
    let sane = λ (e : Event). IsTrue (is_sane_event (length c.args.site.now) e) in
    subst (λ x. IfTaken x sane) (sym c.came_as.ensures) (came_has sane c.in-Ok-sort_read.sorted c.in-Ok-sort_read.ensures.sane)

pub returns-in-Ok-sort_read-clause-right : goal.returns-in-Ok-sort_read-clause-right
returns-in-Ok-sort_read-clause-right c =
    let right = λ (e : Event). IsTrue (is_right_event (length c.args.site.now) e) in
    subst (λ x. IfTaken x right) (sym c.came_as.ensures) (came_has right c.in-Ok-sort_read.sorted c.in-Ok-sort_read.ensures.right)
