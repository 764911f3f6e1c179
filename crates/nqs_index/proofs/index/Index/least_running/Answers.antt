use Rattle.std.proofs.Common.{◌≡◌, [], IfSome, IfNone, sym, subst}
use Rattle.nqs_index.specs.Runs.{ids_of, IsLeast}
use Rattle.nqs_index.proofs.RunLemmas.{least_some, least_none}
use Rattle.nqs_index.proofs.index.Index.least_running.Goals as goal

pub returns-clause-some : goal.returns-clause-some
returns-clause-some c =
    let runs = c.args.self.now.runs.items in
    subst (λ o. IfSome o (λ id. IsLeast id (ids_of runs))) (sym c.least.ensures) (least_some runs)

pub returns-clause-none : goal.returns-clause-none
returns-clause-none c =
    let runs = c.args.self.now.runs.items in
    subst (λ o. IfNone o (ids_of runs ≡ [])) (sym c.least.ensures) (least_none runs)
