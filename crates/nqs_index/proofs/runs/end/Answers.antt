use Rattle.std.proofs.Common.{◌∙◌, sym, subst, rules}
use Rattle.nqs_index.specs.Indexed.{IsMore}
use Rattle.nqs_index.specs.Runs.{ids_of, with_fewer}
use Rattle.nqs_index.proofs.RunLemmas.{run_gone, run_lowered}
use Rattle.nqs_index.proofs.runs.end.Goals as goal

pub returns-then-is_single : goal.returns-then-is_single
returns-then-is_single c some = subst (λ runs. IsMore c.args.id.now (ids_of runs) (ids_of c.args.runs.now.items)) (sym c.remove_key.ensures.items)
    (run_gone c.args.id.now c.args.runs.now.items (sym c.is_single.ensures ∙ c.if-is_single.true) some)

pub returns : goal.returns
returns c some =
    subst (λ runs. IsMore c.args.id.now (ids_of runs) (ids_of c.args.runs.now.items))
    (sym (c.change.ensures.changed with_fewer (λ v w found ran. search rules)))
    (run_lowered c.args.id.now c.args.runs.now.items (sym c.is_single.ensures ∙ c.if-is_single.false))
