use Rattle.std.proofs.Common.{◌∙◌, sym, subst, rules}
use Rattle.nqs_index.specs.Indexed.{IsMore}
use Rattle.nqs_index.specs.Runs.{ids_of, with_more}
use Rattle.nqs_index.proofs.RunLemmas.{run_raised, run_within}
use Rattle.nqs_index.proofs.runs.start.Goals as goal

pub returns : goal.returns
returns c few =
    subst (λ runs. IsMore c.args.id.now (ids_of c.args.runs.now.items) (ids_of runs))
    (sym (c.change.ensures.changed with_more (λ v w found ran. let some = run_within c.args.id.now c.args.runs.now.items v found in search rules)))
    (run_raised c.args.id.now c.args.runs.now.items (sym c.has.ensures ∙ c.if-not-has.false))
