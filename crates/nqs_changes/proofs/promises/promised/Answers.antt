use Rattle.std.proofs.Common.{rules, ap, not, Bool, ◌∙◌}
use Rattle.std.specs.List.{list_any}
use Rattle.nqs_state.specs.State.{content}
use Rattle.nqs_state.specs.Keys.{is_promise}
use Rattle.nqs_base.specs.declared.extent.Extent.{Extent}
use Rattle.nqs_types.specs.declared.request.Promise.{Promise}
use Rattle.nqs_rules.specs.Applied.{is_outlived}
use Rattle.nqs_changes.proofs.Fresh.{none_filtered}
use Rattle.nqs_changes.proofs.promises.promised.Goals as goal

pub push-requires-clause-absent : goal.push-requires-clause-absent
push-requires-clause-absent c =
    let s = content c.args.state.now in
    let keep : Promise Extent → Bool = λ p. not (is_outlived c.args.key.peer c.args.low p) in
    ap (list_any (is_promise c.args.key)) (c.revise.ensures.filtered keep (λ k v w b t call. search rules))
    ∙ none_filtered (is_promise c.args.key) keep s.promises c.requires.new
