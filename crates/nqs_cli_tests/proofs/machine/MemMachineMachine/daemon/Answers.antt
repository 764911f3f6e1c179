use Rattle.std.proofs.Common.{sym, ap, ◌∙◌, arith}
use Rattle.nqs_cli.specs.Parts.{MachineTold, daemon_of}
use Rattle.nqs_cli_tests.specs.Machine.{machine_told}
use Rattle.nqs_cli_tests.proofs.Keeping.{handed}
use Rattle.nqs_cli_tests.proofs.machine.MemMachineMachine.daemon.Goals as goal

pub returns-clause-hands : goal.returns-clause-hands
returns-clause-hands c =
    let asked = c.in_ok-ask.ensures in
    let around = c.in_ok-around.ensures in
    let settled = c.in_ok-disks.ensures in
    let kept = c.in_ok-keep.ensures in
    handed (machine_told c.args.self.now) (machine_told c.keep.new.self) (machine_told c.settle.new.self).lent _ _ _ _
    (settled.lent ∙ ap (λ (t : MachineTold). t.lent) around.told ∙ asked.lent)
    (kept.back ∙ settled.back ∙ ap (λ (t : MachineTold). t.back) around.told ∙ asked.back)
    (omega (arith, kept.faults, settled.later, ap (λ (t : MachineTold). t.faults) around.told, asked.later))
    (λ i. daemon_of (c.in-Ok.ensures i) c.args.host (sym (around.fresh c.in_ok-disks.disks c.in_ok-disks.images settled.fresh) i)) kept.lent
