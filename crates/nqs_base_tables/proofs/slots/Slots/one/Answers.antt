use Rattle.std.proofs.Common.{◌≡◌, ◌+◌, ◌∙◌, suc, Some, None, slice_get, sym, ap, arith}
use Rattle.std.specs.Map.{values_of}
use Rattle.nqs_base_tables.specs.Slots.{filled}
use Rattle.nqs_base_tables.proofs.SlotLemmas.{filled-step}
use Rattle.nqs_base_tables.proofs.slots.Slots.one.Goals as goal

pub returns-in-Some-clause-step : goal.returns-in-Some-clause-step
returns-in-Some-clause-step g c =
    let at : slice_get (values_of c.args.self.now.entries) c.args.slot ≡ Some (Some c.in-Some.field-0.now) =
    ap (λ r. slice_get (values_of r.entries) c.args.slot) (sym c.self.view_is) ∙ c.index.ensures ∙ ap Some (sym c.in-Some.ensures.value) in
    let step : filled c.args.self.now.entries (c.args.slot + 1) ≡ suc (filled c.args.self.now.entries c.args.slot) =
    filled-step c.args.self.now.entries c.args.slot _ at in
    omega arith

pub returns-in-None-clause-step : goal.returns-in-None-clause-step
returns-in-None-clause-step g c =
    let at : slice_get (values_of c.args.self.now.entries) c.args.slot ≡ Some None =
    ap (λ r. slice_get (values_of r.entries) c.args.slot) (sym c.self.view_is) ∙ c.index.ensures ∙ ap Some (sym c.in-None.ensures.value) in
    let step : filled c.args.self.now.entries (c.args.slot + 1) ≡ filled c.args.self.now.entries c.args.slot =
    filled-step c.args.self.now.entries c.args.slot _ at in
    omega arith
