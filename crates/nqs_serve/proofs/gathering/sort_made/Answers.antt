use Rattle.std.proofs.Common.{◌≤◌, length, IsTrue, refl, sym, ap, ◌∙◌, arith}
use Rattle.std.proofs.lemmas.Result.{IfOk-weaker}
use Rattle.nqs_rules.specs.Sane.{is_sane_event}
use Rattle.nqs_serve.specs.Events.{Here}
use Rattle.nqs_serve.specs.Sends.{is_right_event}
use Rattle.nqs_serve.specs.Sorted.{taken_of}
use Rattle.nqs_serve.specs.declared.sort.IgnoreCause.TheVariants.{TooLong}
use Rattle.nqs_serve.proofs.Gathers.{fault_taken, fault_has, ignored_has, made_long, made_read, made_unread}
use Rattle.nqs_serve.proofs.gathering.sort_made.Goals as goal

pub returns-then-bytes-gt-MESSAGE-clause-event : goal.returns-then-bytes-gt-MESSAGE-clause-event
returns-then-bytes-gt-MESSAGE-clause-event c =
    let here : Here = record { me = c.args.me; site = c.args.site.now } in
    ap taken_of c.ignored.ensures ∙ sym (made_long here c.args.key.now c.args.bytes.now (omega (arith, c.if-bytes-gt-MESSAGE.true)))

pub returns-then-bytes-gt-MESSAGE-clause-sane : goal.returns-then-bytes-gt-MESSAGE-clause-sane
returns-then-bytes-gt-MESSAGE-clause-sane c =
    ignored_has (λ e. IsTrue (is_sane_event (length c.args.site.now) e)) c.ignored.result TooLong c.ignored.ensures

pub returns-then-bytes-gt-MESSAGE-clause-right : goal.returns-then-bytes-gt-MESSAGE-clause-right
returns-then-bytes-gt-MESSAGE-clause-right c =
    ignored_has (λ e. IsTrue (is_right_event (length c.args.site.now) e)) c.ignored.result TooLong c.ignored.ensures

pub returns-in-Err-clause-event : goal.returns-in-Err-clause-event
returns-in-Err-clause-event c =
    let here : Here = record { me = c.args.me; site = c.args.site.now } in
    let short : length c.args.bytes.now ≤ 1052672 = omega (arith, c.if-bytes-gt-MESSAGE.false) in
    IfOk-weaker c.unread.result _ _ (λ s has. fault_taken s c.in-Err.fault has
    ∙ sym (made_unread here c.args.key.now c.args.bytes.now c.in-Err.fault short (sym (c.in-Err.ensures.answer has.1)))) c.unread.ensures

pub returns-in-Err-clause-sane : goal.returns-in-Err-clause-sane
returns-in-Err-clause-sane c =
    IfOk-weaker c.unread.result _ _ (λ s has. fault_has (λ e. IsTrue (is_sane_event (length c.args.site.now) e)) s c.in-Err.fault has) c.unread.ensures

pub returns-in-Err-clause-right : goal.returns-in-Err-clause-right
returns-in-Err-clause-right c =
    IfOk-weaker c.unread.result _ _ (λ s has. fault_has (λ e. IsTrue (is_right_event (length c.args.site.now) e)) s c.in-Err.fault has) c.unread.ensures

pub sort_keyed-requires : goal.sort_keyed-requires
sort_keyed-requires c = c.in-Ok.ensures.ok.1

pub returns-in-Ok-clause-event : goal.returns-in-Ok-clause-event
returns-in-Ok-clause-event c =
    let here : Here = record { me = c.args.me; site = c.args.site.now } in
    let short : length c.args.bytes.now ≤ 1052672 = omega (arith, c.if-bytes-gt-MESSAGE.false) in
    IfOk-weaker c.sort_keyed.result _ _ (λ s is. is
    ∙ sym (made_read here c.args.key.now c.args.bytes.now c.in-Ok.message short (sym (c.in-Ok.ensures.answer refl)))) c.sort_keyed.ensures.event
