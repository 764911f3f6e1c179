use Rattle.std.proofs.Common.{ap, sym, ◌∙◌}
use Rattle.std.specs.List.{list_any}
use Rattle.nqs_state.specs.State.{content}
use Rattle.nqs_state.specs.Keys.{is_stage}
use Rattle.nqs_rules.specs.Find.{peer_number}
use Rattle.nqs_changes.proofs.Fresh.{stage_is_new}
use Rattle.nqs_changes.proofs.outputs.add_stage.Goals as goal

pub push-requires-clause-absent : goal.push-requires-clause-absent
push-requires-clause-absent c =
    let known = c.in-Some.known.now in
    ap (λ ss. list_any (is_stage (peer_number c.args.host known.stage_next)) ss.items) c.change_peer.ensures.stages
    ∙ stage_is_new (content c.args.state.now) c.requires.order c.args.host known (sym c.in-Some.ensures)
