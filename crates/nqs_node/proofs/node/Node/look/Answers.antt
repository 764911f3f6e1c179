use Rattle.std.proofs.Common.{sym, ap, ◌∙◌}
use Rattle.std.specs.Option.{option_map}
use Rattle.nqs_rules.specs.Stepped.{plan_of}
use Rattle.nqs_node.specs.Nodes.{content_of}
use Rattle.nqs_node.proofs.Resting.{known_idle}
use Rattle.nqs_node.proofs.node.Node.look.Goals as goal

pub returns-then-eq : goal.returns-then-eq
returns-then-eq g c = sym (ap (option_map plan_of) (known_idle c.args.self.now.idle c.args.now (content_of c.args.self.now)
    (sym c.eq.ensures ∙ c.if-eq.true) c.args.self.now.rests))
