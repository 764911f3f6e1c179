use Rattle.std.proofs.Common.{◌∙◌, find, sym, ap}
use Rattle.nqs_base_tables.specs.Slots.{live, filled}
use Rattle.nqs_base_tables.specs.Table.{has_key}
use Rattle.nqs_base_tables.proofs.TableLemmas.{find-key, find-no_key}
use Rattle.nqs_base_tables.proofs.table.Table.get.Goals as goal

pub returns-in-Some : goal.returns-in-Some
returns-in-Some g c =
    sym (find-key g.K.PartialEq.eq g.V.Keyed.key_of c.args.key.now (live c.self.inside.slots.entries) (filled c.self.inside.slots.entries
    c.in-Some.slot) _ c.self.invariant (sym c.in-Some.ensures.place) c.value.ensures)
    ∙ ap (λ r. find (has_key g.K.PartialEq.eq g.V.Keyed.key_of c.args.key.now) r.items) c.self.view_is

pub returns-in-None : goal.returns-in-None
returns-in-None g c =
    sym (find-no_key g.K.PartialEq.eq g.V.Keyed.key_of c.args.key.now (live c.self.inside.slots.entries) c.self.invariant (sym c.in-None.ensures.place))
    ∙ ap (λ r. find (has_key g.K.PartialEq.eq g.V.Keyed.key_of c.args.key.now) r.items) c.self.view_is
