use Rattle.std.proofs.Common.{◌∙◌, Some, slice_get, sym, ap}
use Rattle.std.specs.Map.{values_of}
use Rattle.nqs_base_tables.proofs.SlotLemmas.{no_hole, live-at}
use Rattle.nqs_base_tables.proofs.slots.Slots.value.Goals as goal

pub unreachable-requires : goal.unreachable-requires
unreachable-requires g c =
    no_hole c.args.self.now.entries c.args.slot c.requires
    (ap (λ r. slice_get (values_of r.entries) c.args.slot) (sym c.self.view_is) ∙ c.index.ensures ∙ ap Some (sym c.in-None.ensures.value))

pub returns : goal.returns
returns g c =
    live-at c.args.self.now.entries c.args.slot _
    (ap (λ r. slice_get (values_of r.entries) c.args.slot) (sym c.self.view_is) ∙ c.index.ensures ∙ ap Some (sym c.in-Some.ensures.value))
    ∙ ap Some (sym c.get.ensures)
