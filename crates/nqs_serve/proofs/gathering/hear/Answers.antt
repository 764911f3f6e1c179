use Rattle.std.proofs.Common.{◌≤◌, length, IsTrue, Ok, refl, sym, ap, subst, ◌∙◌, arith}
use Rattle.std.proofs.lemmas.Result.{IfOk-weaker, on_ok_weaker}
use Rattle.nqs_types.specs.declared.event.Event.{Event}
use Rattle.nqs_rules.specs.Sane.{is_sane_event}
use Rattle.nqs_serve.specs.Events.{Here}
use Rattle.nqs_serve.specs.Gathers.{Heard, taken_by, IfTaken}
use Rattle.nqs_serve.specs.Sends.{is_right_event}
use Rattle.nqs_serve.proofs.Gathers.{came_taken, came_has, fault_taken, fault_has, heard_long, heard_read, heard_unread}
use Rattle.nqs_serve.proofs.gathering.hear.Goals as goal

-- it is too long

pub returns-then-bytes-gt-DATAGRAM-clause-event : goal.returns-then-bytes-gt-DATAGRAM-clause-event
returns-then-bytes-gt-DATAGRAM-clause-event c =
    let here : Here = record { me = c.args.me; site = c.args.site.now } in
    sym (ap (λ (h : Heard). h.event) (heard_long here c.args.gather.now c.args.bytes.now (omega (arith, c.if-bytes-gt-DATAGRAM.true))))

pub returns-then-bytes-gt-DATAGRAM-clause-gathered : goal.returns-then-bytes-gt-DATAGRAM-clause-gathered
returns-then-bytes-gt-DATAGRAM-clause-gathered c =
    let here : Here = record { me = c.args.me; site = c.args.site.now } in
    sym (ap (λ (h : Heard). h.gathered) (heard_long here c.args.gather.now c.args.bytes.now (omega (arith, c.if-bytes-gt-DATAGRAM.true))))

-- it is no message

pub returns-in-Ok-unread-clause-event : goal.returns-in-Ok-unread-clause-event
returns-in-Ok-unread-clause-event c =
    let here : Here = record { me = c.args.me; site = c.args.site.now } in
    let short : length c.args.bytes.now ≤ 49152 = omega (arith, c.if-bytes-gt-DATAGRAM.false) in
    let has = c.in-Ok-unread.ensures in
    ap taken_by c.came_as.ensures ∙ came_taken c.in-Ok-unread.sorted ∙ fault_taken c.in-Ok-unread.sorted c.in-Err.fault has
    ∙ sym (ap (λ (h : Heard). h.event)
    (heard_unread here c.args.gather.now c.args.bytes.now c.in-Err.fault short (sym (c.in-Err.ensures.answer has.1))))

pub returns-in-Ok-unread-clause-gathered : goal.returns-in-Ok-unread-clause-gathered
returns-in-Ok-unread-clause-gathered c =
    let here : Here = record { me = c.args.me; site = c.args.site.now } in
    let short : length c.args.bytes.now ≤ 49152 = omega (arith, c.if-bytes-gt-DATAGRAM.false) in
    let has = c.in-Ok-unread.ensures in
    sym (ap (λ (h : Heard). h.gathered)
    (heard_unread here c.args.gather.now c.args.bytes.now c.in-Err.fault short (sym (c.in-Err.ensures.answer has.1))))

pub returns-in-Ok-unread-clause-sane : goal.returns-in-Ok-unread-clause-sane
returns-in-Ok-unread-clause-sane c =
    let sane = λ (e : Event). IsTrue (is_sane_event (length c.args.site.now) e) in
    subst (λ x. IfTaken x sane) (sym c.came_as.ensures)
    (came_has sane c.in-Ok-unread.sorted (fault_has sane c.in-Ok-unread.sorted c.in-Err.fault c.in-Ok-unread.ensures))

pub returns-in-Ok-unread-clause-right : goal.returns-in-Ok-unread-clause-right
returns-in-Ok-unread-clause-right c =
    let right = λ (e : Event). IsTrue (is_right_event (length c.args.site.now) e) in
    subst (λ x. IfTaken x right) (sym c.came_as.ensures)
    (came_has right c.in-Ok-unread.sorted (fault_has right c.in-Ok-unread.sorted c.in-Err.fault c.in-Ok-unread.ensures))

-- it is one

pub take_message-requires-clause-may : goal.take_message-requires-clause-may
take_message-requires-clause-may c = c.in-Ok.ensures.ok.1

pub take_message-requires-clause-form : goal.take_message-requires-clause-form
take_message-requires-clause-form c piece is =
    c.what_is_read_is_in_form.ensures c.args.bytes.now piece (λ i. omega (arith, c.type_inv.bytes i)) (sym (c.in-Ok.ensures.answer refl) ∙ ap Ok is)

pub returns-in-Ok-clause-event : goal.returns-in-Ok-clause-event
returns-in-Ok-clause-event c =
    let here : Here = record { me = c.args.me; site = c.args.site.now } in
    let short : length c.args.bytes.now ≤ 49152 = omega (arith, c.if-bytes-gt-DATAGRAM.false) in
    IfOk-weaker c.take_message.result _ _ (λ came is. is ∙ sym (ap (λ (h : Heard). h.event)
    (heard_read here c.args.gather.now c.args.bytes.now c.in-Ok.message short (sym (c.in-Ok.ensures.answer refl))))) c.take_message.ensures.event

pub returns-in-Ok-clause-gathered : goal.returns-in-Ok-clause-gathered
returns-in-Ok-clause-gathered c =
    let here : Here = record { me = c.args.me; site = c.args.site.now } in
    let short : length c.args.bytes.now ≤ 49152 = omega (arith, c.if-bytes-gt-DATAGRAM.false) in
    on_ok_weaker c.take_message.result (λ is. is ∙ sym (ap (λ (h : Heard). h.gathered)
    (heard_read here c.args.gather.now c.args.bytes.now c.in-Ok.message short (sym (c.in-Ok.ensures.answer refl))))) c.take_message.ensures.gathered
