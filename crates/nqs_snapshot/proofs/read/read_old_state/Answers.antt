use Rattle.std.proofs.Common.{arith}
use Rattle.nqs_snapshot.proofs.PartLaws.{old_peer_law}
use Rattle.nqs_snapshot.proofs.Snapshots.{if_read, if_refused}
use Rattle.std.proofs.lemmas.Result.{IfOk-weaker}
use Rattle.nqs_state.specs.State.{content}
use Rattle.nqs_snapshot.proofs.Standing.{stands_short, old_stands}
use Rattle.nqs_snapshot.proofs.read.read_old_state.Goals as goal

pub returns-clause-ok : goal.returns-clause-ok
returns-clause-ok c = if_read old_peer_law c.args.bytes.now c.read_old_snapshot.result (λ i. omega (arith, c.type_inv.bytes i)) c.read_old_snapshot.ensures

pub returns-clause-order : goal.returns-clause-order
returns-clause-order c = IfOk-weaker c.read_old_snapshot.result _ _ (λ state is. is.1.order)
    (if_read old_peer_law c.args.bytes.now c.read_old_snapshot.result (λ i. omega (arith, c.type_inv.bytes i)) c.read_old_snapshot.ensures)

pub returns-clause-consistent : goal.returns-clause-consistent
returns-clause-consistent c = IfOk-weaker c.read_old_snapshot.result _ _ (λ state is. is.1.consistent)
    (if_read old_peer_law c.args.bytes.now c.read_old_snapshot.result (λ i. omega (arith, c.type_inv.bytes i)) c.read_old_snapshot.ensures)

pub returns-clause-short : goal.returns-clause-short
returns-clause-short c = IfOk-weaker c.read_old_snapshot.result _ _ (λ state is. stands_short (content state) (old_stands (content state) is.1.stands))
    (if_read old_peer_law c.args.bytes.now c.read_old_snapshot.result (λ i. omega (arith, c.type_inv.bytes i)) c.read_old_snapshot.ensures)

pub returns-clause-none : goal.returns-clause-none
returns-clause-none c = if_refused old_peer_law c.args.bytes.now c.read_old_snapshot.result (λ i. omega (arith, c.type_inv.bytes i)) c.read_old_snapshot.ensures
