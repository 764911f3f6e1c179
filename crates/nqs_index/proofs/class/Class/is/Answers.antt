use Rattle.std.proofs.Common.{◌∙◌, ap, sym}
use Rattle.nqs_index.specs.Classes.{class_eq}
use Rattle.nqs_index.proofs.ClassLemmas.{class_itself}
use Rattle.nqs_index.proofs.class.Class.is.Goals as goal

pub returns-clause-same : goal.returns-clause-same
returns-clause-same c e = c.eq.ensures ∙ ap (class_eq c.args.self.now) (sym e) ∙ class_itself c.args.self.now
