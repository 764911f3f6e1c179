use Rattle.std.proofs.Common.{◌∙◌, find, sym, ap, subst}
use Rattle.std.specs.Map.{values_of}
use Rattle.nqs_base_tables.specs.Slots.{live, filled}
use Rattle.nqs_base_tables.specs.Table.{IsKeyed, has_key, without_first}
use Rattle.nqs_base_tables.proofs.TableLemmas.{IsKeyed-remove, values-removed, find-no_key, without_first-none}
use Rattle.nqs_base_tables.proofs.table.Table.remove_key.Goals as goal

pub invariant_of-self : goal.invariant_of-self
invariant_of-self g c =
    subst (IsKeyed g.V.Keyed.key_of) (sym c.take.ensures.entries)
    (IsKeyed-remove g.V.Keyed.key_of (live c.self.inside.slots.entries) (filled c.self.inside.slots.entries c.in-Some.slot) c.self.invariant)

pub returns-in-Some-clause-items : goal.returns-in-Some-clause-items
returns-in-Some-clause-items g c =
    ap values_of c.take.ensures.entries
    ∙ values-removed g.K.PartialEq.eq g.V.Keyed.key_of c.args.key.now (live c.self.inside.slots.entries) (filled c.self.inside.slots.entries
    c.in-Some.slot) c.take.result c.self.invariant (sym c.in-Some.ensures.place) c.take.ensures.out
    ∙ ap (λ r. without_first (has_key g.K.PartialEq.eq g.V.Keyed.key_of c.args.key.now) r.items) c.self.view_is

pub returns-in-None-clause-items : goal.returns-in-None-clause-items
returns-in-None-clause-items g c =
    sym (without_first-none (has_key g.K.PartialEq.eq g.V.Keyed.key_of c.args.key.now) c.args.self.now.items
    (ap (λ r. find (has_key g.K.PartialEq.eq g.V.Keyed.key_of c.args.key.now) r.items) (sym c.self.view_is)
    ∙ find-no_key g.K.PartialEq.eq g.V.Keyed.key_of c.args.key.now (live c.self.inside.slots.entries) c.self.invariant (sym c.in-None.ensures.place)))
