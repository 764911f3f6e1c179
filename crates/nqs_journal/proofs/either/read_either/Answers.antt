use Rattle.std.proofs.Common.{◌^◌, ◌≤◌, subst}
use Rattle.nqs_journal.specs.Text.{records}
use Rattle.nqs_journal.proofs.Fronts.{by_version}
use Rattle.nqs_journal.proofs.either.read_either.Goals as goal

pub returns-in-Ok-clause-small : goal.returns-in-Ok-clause-small
returns-in-Ok-clause-small g c =
    let told = c.in-Ok.ensures.small in
    let both = by_version _ told.0 (records told.1) (2 ^ 40) told.2 (subst (λ n. n ≤ 2 ^ 40) told.5 told.6) in
    (told.0, told.1, rw c.version_by.ensures both.0, told.3, told.4, rw c.version_by.ensures both.1)
