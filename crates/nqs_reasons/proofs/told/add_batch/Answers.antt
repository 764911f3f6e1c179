use Rattle.std.proofs.Common.{◌∙◌, ◌∷◌, ◌++◌, [], Bool, map, ap}
use Rattle.std.proofs.lemmas.Result.{on_ok_weaker}
use Rattle.nqs_types.specs.declared.reason.Reason.{Reason}
use Rattle.nqs_state.specs.State.{content}
use Rattle.nqs_rules.specs.Reasons.{Conditions, failing, complex_condition, global_condition}
use Rattle.nqs_reasons.proofs.Failing.{added_then}
use Rattle.nqs_reasons.proofs.told.add_batch.Goals as goal

pub returns : goal.returns
returns c =
    let complexes : Conditions Reason = map (complex_condition c.args.queue.now (content c.args.state.now)) c.args.state.now.complexes.items in
    let global : Bool × Reason = global_condition (content c.args.state.now) in
    on_ok_weaker c.add_unless.result
    (λ added. added_then c.args.reasons.now c.add_complexes.new.reasons c.add_unless.new.reasons complexes (global ∷ [])
    c.in_ok-add_complexes.ensures
    (added ∙ ap (λ (b : Bool). c.add_complexes.new.reasons ++ failing ((b, global.1) ∷ [])) c.global_allows-global.ensures))
    c.add_unless.ensures
