use Rattle.std.proofs.Common.{◌++◌, sym, ◌∙◌}
use Rattle.std.specs.Option.{option_to_list}
use Rattle.nqs_rules.specs.Plain.{map_row}
use Rattle.nqs_rules.specs.World.{boot_output}
use Rattle.nqs_node.proofs.Booting.{said_more}
use Rattle.nqs_node.proofs.boot.outputs_of.Goals as goal

pub loop-place-preserved : goal.loop-place-preserved
loop-place-preserved c = λ f.
    c.in_ok-say.ensures f
    ∙ (λ j. c.loop-place.invariant f j ++ option_to_list (boot_output (map_row f c.at.result.now)))
    ∙ sym (said_more f c.loop-place.place c.args.state.now.rows.items c.at.result.now c.at.ensures)
