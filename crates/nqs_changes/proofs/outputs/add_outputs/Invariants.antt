use Rattle.std.proofs.Common.{◌≡◌, ◌≤◌, length, true}
use Rattle.std.specs.List.{list_all}
use Rattle.nqs_state.specs.State.{content}
use Rattle.nqs_rules.specs.InOrder.{IsInOrder}
use Rattle.nqs_rules.specs.Sane.{has_path}
use Rattle.nqs_rules.specs.Applied.{add_outputs}
use Rattle.nqs_changes.proofs.outputs.add_outputs.Given as goal

abbrev pub invariant-loop-part : goal.invariant-loop-part
invariant-loop-part l = record {
  files : length l.parts ≤ l.state.files.spare;
  stages : length l.parts ≤ l.state.stages.spare;
  order : IsInOrder (content l.state);
  paths : list_all has_path l.parts ≡ true;
  rest : add_outputs l.id l.parts (content l.state) ≡ add_outputs l.id l.initial.parts (content l.initial.state);
}

abbrev pub decreases-loop-part : goal.decreases-loop-part
decreases-loop-part l = length l.parts
