use Rattle.std.proofs.Common.{◌∙◌, ◌++◌, ◌∷◌, [], sym, subst, ap}
use Rattle.nqs_index.specs.Indexed.{IsMore}
use Rattle.nqs_index.specs.Runs.{ids_of}
use Rattle.nqs_index.proofs.RunLemmas.{run_added}
use Rattle.nqs_index.proofs.runs.add.Goals as goal

pub returns : goal.returns
returns c = subst (λ runs. IsMore c.args.id.now (ids_of c.args.runs.now.items) (ids_of runs))
    (sym (c.push.ensures.items ∙ ap (λ rs. rs ++ record { id = c.args.id.now; more = 0 } ∷ []) c.reserve.ensures.items))
    (run_added c.args.id.now c.args.runs.now.items)
