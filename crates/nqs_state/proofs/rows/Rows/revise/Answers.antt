use Rattle.std.proofs.Common.{◌∙◌, ap, subst, Contains}
use Rattle.std.specs.List.{filter_map}
use Rattle.nqs_state.proofs.rows.Rows.revise.Goals as goal

pub returns-clause-revised : goal.returns-clause-revised
returns-clause-revised g c h says =
    c.revise.ensures.revised h (λ k v w b t there. says k v w b t (subst (λ r. Contains r.items v) c.self.view_is there))
    ∙ ap (λ r. filter_map h r.items) c.self.view_is
