use Rattle.std.proofs.Common.{◌+◌, ◌∙◌, ◌++◌, Bool, map, drop, sym, ap}
use Rattle.nqs_types.specs.declared.queue.ComplexDef.{ComplexDef}
use Rattle.nqs_types.specs.declared.reason.Reason.{Reason}
use Rattle.nqs_state.specs.State.{content}
use Rattle.nqs_base_tables.proofs.TableLemmas.{drop-at}
use Rattle.nqs_rules.specs.Reasons.{failing, complex_condition}
use Rattle.nqs_reasons.proofs.Failing.{added_before}
use Rattle.nqs_reasons.proofs.told.add_complexes.Goals as goal

pub loop-place-preserved : goal.loop-place-preserved
loop-place-preserved c =
    let told : ComplexDef → Bool × Reason = complex_condition c.args.queue.now (content c.args.state.now) in
    added_before _ _ _ (told c.at-complex.result.now) (map told (drop (c.loop-place.place + 1) c.args.state.now.complexes.items))
    c.in_ok-add_complex.ensures
    (ap (λ l. c.loop-place.reasons ++ failing (map told l))
    (sym (drop-at c.args.state.now.complexes.items c.loop-place.place c.at-complex.result.now c.at-complex.ensures))
    ∙ c.loop-place.invariant)
