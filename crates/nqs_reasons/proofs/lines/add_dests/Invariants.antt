use Rattle.std.proofs.Common.{◌≡◌, ◌++◌, map, take}
use Rattle.nqs_state.specs.State.{content}
use Rattle.nqs_rules.specs.Answers.{answer_of}
use Rattle.nqs_rules.specs.Why.{dest_line}
use Rattle.nqs_reasons.proofs.lines.add_dests.Given as goal

abbrev pub invariant-loop-dest : goal.invariant-loop-dest
invariant-loop-dest l = l.lines ≡ l.fn.lines ++ map (dest_line l.state.site (answer_of l.now (content l.state) l.row)) (take l.dest-index l.dests)
