use Rattle.std.proofs.Common.{◌≡◌, drop}
use Rattle.nqs_state.specs.State.{content}
use Rattle.nqs_rules.specs.Stage.{stages_from}
use Rattle.nqs_plans.specs.More.{with_more}
use Rattle.nqs_stage.proofs.due.add_stages.Given as goal

abbrev pub invariant-loop-place : goal.invariant-loop-place
invariant-loop-place l = with_more l.plan (stages_from l.place (content l.state) (drop l.place l.state.site))
    ≡ with_more l.fn.plan (stages_from 0 (content l.state) l.state.site)
