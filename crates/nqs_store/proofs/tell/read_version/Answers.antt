use Rattle.std.proofs.Common.{sym, ap, subst}
use Rattle.nqs_records.specs.Reading.{Answers}
use Rattle.nqs_snapshot.specs.Laws.{told_by as read_as}
use Rattle.nqs_store.specs.Told.{host_by}
use Rattle.nqs_store.proofs.Telling.{host_by_now}
use Rattle.nqs_store.proofs.tell.read_version.Goals as goal

pub returns-then-version-eq1-clause-answer : goal.returns-then-version-eq1-clause-answer
returns-then-version-eq1-clause-answer c =
    subst (λ r. Answers r (read_as c.read_old_state.result)) (ap (λ v. host_by v c.args.snapshot.now) (sym c.if-version-eq1.true))
    c.read_old_state.ensures.answer

pub returns-clause-answer : goal.returns-clause-answer
returns-clause-answer c =
    subst (λ r. Answers r (read_as c.read_state.result)) (sym (host_by_now c.args.version c.args.snapshot.now c.if-version-eq1.false))
    c.read_state.ensures.answer
