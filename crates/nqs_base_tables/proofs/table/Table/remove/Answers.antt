use Rattle.std.proofs.Common.{◌∙◌, remove, sym, ap, subst}
use Rattle.std.specs.Map.{values_of}
use Rattle.nqs_base_tables.specs.Slots.{live, filled}
use Rattle.nqs_base_tables.specs.Table.{IsKeyed}
use Rattle.nqs_base_tables.proofs.TableLemmas.{IsKeyed-remove, map-remove}
use Rattle.nqs_base_tables.proofs.table.Table.remove.Goals as goal

pub invariant_of-self : goal.invariant_of-self
invariant_of-self g c =
    subst (IsKeyed g.V.Keyed.key_of) (sym c.take.ensures.entries)
    (IsKeyed-remove g.V.Keyed.key_of (live c.self.inside.slots.entries) (filled c.self.inside.slots.entries c.slot.result) c.self.invariant)

pub returns-clause-items : goal.returns-clause-items
returns-clause-items g c =
    ap values_of c.take.ensures.entries
    ∙ map-remove (λ e. e.1) (live c.self.inside.slots.entries) (filled c.self.inside.slots.entries c.slot.result)
    ∙ ap (remove (values_of (live c.self.inside.slots.entries))) c.slot.ensures.place
    ∙ ap (λ r. remove r.items c.args.place) c.self.view_is
