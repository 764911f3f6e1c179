use Rattle.std.proofs.Common.{◌∙◌, sym}
use Rattle.nqs_stage.proofs.Numbers.{numbered-take}
use Rattle.nqs_stage.proofs.part.keep_numbered.Goals as goal

pub returns-clause-parts : goal.returns-clause-parts
returns-clause-parts c = c.truncate.ensures.items ∙ sym (numbered-take c.args.counter c.args.parts.now.items)
