use Rattle.std.proofs.Common.{◌≡◌, ◌∙◌, rules, IfOk, sym, ap, subst, map, filter}
use Rattle.nqs_state.specs.State.{content}
use Rattle.nqs_types.specs.declared.edit.Edit.TheVariants.{Rows}
use Rattle.nqs_rules.specs.Step.{kill, kills_of, runs_in_queue}
use Rattle.nqs_plans.specs.More.{with_more}
use Rattle.nqs_step.specs.Asked.{kill_in}
use Rattle.nqs_step.proofs.Kills.{kills_are}
use Rattle.nqs_step.proofs.edit.add_row_kills.Goals as goal

pub returns-in-AbortQueue : goal.returns-in-AbortQueue
returns-in-AbortQueue c =
    let s = content c.args.state.now in
    let q = c.in-AbortQueue.queue in
    let made = c.fold_each.ensures (λ p r. with_more p (kill_in q r)) (λ a w r k. search rules) in
    subst (λ x. IfOk c.fold_each.result (λ more. more ≡ x)) (kills_are q c.args.plan c.table.result.now.items
    ∙ ap (λ t. with_more c.args.plan (map kill (filter (runs_in_queue q) t.items))) c.table.ensures
    ∙ sym (ap (λ e. with_more c.args.plan (kills_of (Rows e) s)) c.in-AbortQueue.is)) made
