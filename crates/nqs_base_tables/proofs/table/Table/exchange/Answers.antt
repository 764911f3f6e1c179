use Rattle.std.proofs.Common.{◌∙◌, map, slice_get, slice_set, sym, ap, subst}
use Rattle.std.specs.Map.{values_of}
use Rattle.nqs_base_tables.specs.Slots.{live, filled}
use Rattle.nqs_base_tables.specs.Table.{IsKeyed}
use Rattle.nqs_base_tables.proofs.TableLemmas.{IsKeyed-set, values_set_value_at}
use Rattle.nqs_base_tables.proofs.table.Table.exchange.Goals as goal

pub invariant_of-self : goal.invariant_of-self
invariant_of-self g c =
    subst (IsKeyed g.V.Keyed.key_of) (sym c.exchange.ensures.entries)
    (IsKeyed-set g.V.Keyed.key_of (live c.self.inside.slots.entries) (filled c.self.inside.slots.entries c.slot.result) c.args.value.now c.self.invariant
    (ap (slice_get (map g.V.Keyed.key_of (values_of (live c.self.inside.slots.entries)))) c.slot.ensures.place
    ∙ ap (λ r. slice_get (map g.V.Keyed.key_of r.items) c.args.place) c.self.view_is ∙ c.requires.same))

pub returns-clause-items : goal.returns-clause-items
returns-clause-items g c =
    ap values_of c.exchange.ensures.entries
    ∙ values_set_value_at (live c.self.inside.slots.entries) (filled c.self.inside.slots.entries c.slot.result) c.args.value.now
    ∙ ap (λ i. slice_set (values_of (live c.self.inside.slots.entries)) i c.args.value.now) c.slot.ensures.place
    ∙ ap (λ r. slice_set r.items c.args.place c.args.value.now) c.self.view_is
