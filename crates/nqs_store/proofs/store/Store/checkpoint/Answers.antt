use Rattle.std.proofs.Common.{sym, subst}
use Rattle.nqs_state.specs.State.{content}
use Rattle.nqs_snapshot.specs.Spelling.{state_field}
use Rattle.nqs_store.specs.Steps.{IsTextOf}
use Rattle.nqs_store.specs.declared.fault.StoreFault.TheVariants.{Disk, Stopped}
use Rattle.nqs_store.proofs.Kept.{checkpoint_by, checkpoint_idle}
use Rattle.std.proofs.lemmas.Result.{err_from_is_err_and}
use Rattle.nqs_store.proofs.store.Store.checkpoint.Goals as goal

pub returns-then-self-clause-turns : goal.returns-then-self-clause-turns
returns-then-self-clause-turns g c = checkpoint_idle c.args.self.now Disk Stopped (state_field (content c.args.state.now)) (content c.args.state.now)

pub returns-in_err-text-clause-turns : goal.returns-in_err-text-clause-turns
returns-in_err-text-clause-turns g c =
    let p = err_from_is_err_and c.from_residual.result c.from_residual.ensures.1 in
    rw p.1 (checkpoint_idle c.args.self.now Disk _ (state_field (content c.args.state.now)) (content c.args.state.now))

pub returns-clause-turns : goal.returns-clause-turns
returns-clause-turns g c =
    let host = content c.args.state.now in
    let is = subst (λ t. IsTextOf t (state_field host)) (sym c.deref.ensures.value) c.in_ok-text.ensures.text in
    checkpoint_by c.args.self.now c.turn_over.new.self Disk c.turn_over.result (state_field host) host c.deref.result.now is c.in_ok-text.ensures.reads
    c.turn_over.ensures.turns

pub returns-then-self-clause-unread : goal.returns-then-self-clause-unread
returns-then-self-clause-unread g c = λ yes which. Rattle.std.proofs.Common.refl

pub returns-in_err-text-clause-unread : goal.returns-in_err-text-clause-unread
returns-in_err-text-clause-unread g c = λ yes which. Rattle.std.proofs.Common.refl
