use Rattle.std.proofs.Common.{sym, ◌∙◌, arith}
use Rattle.nqs_cli.specs.Parts.{disks_of}
use Rattle.nqs_cli_tests.specs.Machine.{machine_told}
use Rattle.nqs_cli_tests.proofs.Keeping.{handed}
use Rattle.nqs_cli_tests.proofs.machine.MemMachineMachine.disks.Goals as goal

pub returns-clause-hands : goal.returns-clause-hands
returns-clause-hands c =
    let asked = c.in_ok-ask.ensures in
    let settled = c.in_ok-disks.ensures in
    let kept = c.in_ok-keep.ensures in
    handed (machine_told c.args.self.now) (machine_told c.keep.new.self) (machine_told c.settle.new.self).lent _ _ c.in_ok-disks.disks _
    (settled.lent ∙ asked.lent) (kept.back ∙ settled.back ∙ asked.back) (omega (arith, kept.faults, settled.later, asked.later))
    (λ i. disks_of (c.in-Ok.ensures i) c.args.host (sym settled.fresh i)) kept.lent
