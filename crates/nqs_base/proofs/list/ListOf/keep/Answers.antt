use Rattle.std.proofs.Common.{◌∙◌, ap, filter}
use Rattle.std.proofs.lemmas.Fn.{filter_same}
use Rattle.nqs_base.proofs.list.ListOf.keep.Goals as goal

pub returns : goal.returns
returns g c p says = filter_same _ p c.args.f says _ _ c.retain.ensures.filtered ∙ ap (filter p) c.self.view_is
