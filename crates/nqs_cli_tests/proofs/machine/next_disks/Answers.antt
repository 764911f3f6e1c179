use Rattle.std.proofs.Common.{sym, ap, ◌∙◌}
use Rattle.nqs_cli_tests.specs.NextRun.{or_else, next_disks}
use Rattle.nqs_cli_tests.proofs.Next.{next_last}
use Rattle.nqs_cli_tests.proofs.machine.next_disks.Goals as goal

pub returns-in-Some : goal.returns-in-Some
returns-in-Some c = c.or_else.ensures ∙ ap (λ found. or_else found c.args.there) c.disks_in.ensures
    ∙ sym (ap (λ parts. next_disks parts c.args.there) c.in-Some.ensures.items ∙ next_last c.pop.new.self.items c.in-Some.part c.args.there)
