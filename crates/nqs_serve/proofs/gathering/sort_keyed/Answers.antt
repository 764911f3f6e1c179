use Rattle.std.proofs.Common.{length, IsTrue, sym, ◌∙◌}
use Rattle.std.proofs.lemmas.Result.{IfOk-weaker}
use Rattle.nqs_rules.specs.Sane.{is_sane_event}
use Rattle.nqs_serve.specs.Events.{Here}
use Rattle.nqs_serve.specs.Sends.{is_right_event}
use Rattle.nqs_serve.specs.declared.sort.IgnoreCause.TheVariants.{NotAsked}
use Rattle.nqs_serve.proofs.Gathers.{keyed_taken, other_taken, ignored_has}
use Rattle.nqs_serve.proofs.gathering.sort_keyed.Goals as goal

pub returns-then-not-is_keyed-clause-event : goal.returns-then-not-is_keyed-clause-event
returns-then-not-is_keyed-clause-event c =
    let here : Here = record { me = c.args.me; site = c.args.site.now } in
    other_taken here c.args.key.now c.args.message c.ignored.result NotAsked (sym c.is_keyed.ensures ∙ c.if-not-is_keyed.true) c.ignored.ensures

pub returns-then-not-is_keyed-clause-sane : goal.returns-then-not-is_keyed-clause-sane
returns-then-not-is_keyed-clause-sane c =
    ignored_has (λ e. IsTrue (is_sane_event (length c.args.site.now) e)) c.ignored.result NotAsked c.ignored.ensures

pub returns-then-not-is_keyed-clause-right : goal.returns-then-not-is_keyed-clause-right
returns-then-not-is_keyed-clause-right c =
    ignored_has (λ e. IsTrue (is_right_event (length c.args.site.now) e)) c.ignored.result NotAsked c.ignored.ensures

pub returns-clause-event : goal.returns-clause-event
returns-clause-event c =
    let here : Here = record { me = c.args.me; site = c.args.site.now } in
    IfOk-weaker c.sort_read.result _ _ (λ s is. keyed_taken here c.args.key.now c.args.message s (sym c.is_keyed.ensures ∙ c.if-not-is_keyed.false) is)
    c.sort_read.ensures.sorted
