use Rattle.std.proofs.Common.{subst, IsTrue}
use Rattle.nqs_state.specs.State.{content}
use Rattle.nqs_rules.specs.Fits.{fits}
use Rattle.nqs_rules.specs.Find.{find_peer}
use Rattle.nqs_changes.proofs.Fresh.{next_below}
use Rattle.nqs_host.proofs.PromiseFits.{hand_next, promise_arrival}
use Rattle.nqs_host.proofs.changes.apply.Goals as goal

pub promised-requires-clause-arrival : goal.promised-requires-clause-arrival
promised-requires-clause-arrival c =
    let s = content c.args.state.now in
    let p = c.in-OldPromised in
    promise_arrival s p.peer p.number p.number p.queue p.carried (subst (λ x. IsTrue (fits x s)) p.is c.requires.fits)

pub promised-requires-in-Promised-clause-arrival : goal.promised-requires-in-Promised-clause-arrival
promised-requires-in-Promised-clause-arrival c =
    let s = content c.args.state.now in
    let p = c.in-Promised in
    promise_arrival s p.peer p.number p.low p.queue p.carried (subst (λ x. IsTrue (fits x s)) p.is c.requires.fits)

pub opened-requires-clause-number : goal.opened-requires-clause-number
opened-requires-clause-number c =
    let s = content c.args.state.now in
    let p = c.in-HandOpened in
    next_below p.number (find_peer p.peer s) (hand_next s p.peer p.number p.id (subst (λ x. IsTrue (fits x s)) p.is c.requires.fits))

pub opened-requires-clause-next : goal.opened-requires-clause-next
opened-requires-clause-next c =
    let s = content c.args.state.now in
    let p = c.in-HandOpened in
    hand_next s p.peer p.number p.id (subst (λ x. IsTrue (fits x s)) p.is c.requires.fits)
