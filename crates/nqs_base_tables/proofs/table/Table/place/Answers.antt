use Rattle.std.proofs.Common.{◌∙◌, Some, position, ap}
use Rattle.std.specs.Map.{values_of}
use Rattle.nqs_base_tables.specs.Slots.{live}
use Rattle.nqs_base_tables.specs.Table.{has_key}
use Rattle.nqs_base_tables.proofs.TableLemmas.{position-values}
use Rattle.nqs_base_tables.proofs.table.Table.place.Goals as goal

pub returns-in-Some-clause-place : goal.returns-in-Some-clause-place
returns-in-Some-clause-place g c =
    ap Some c.place.ensures ∙ c.in-Some.ensures.place ∙ ap (position (g.K.PartialEq.eq c.args.key.now)) c.self.invariant
    ∙ position-values g.K.PartialEq.eq g.V.Keyed.key_of c.args.key.now (values_of (live c.self.inside.slots.entries))
    ∙ ap (λ r. position (has_key g.K.PartialEq.eq g.V.Keyed.key_of c.args.key.now) r.items) c.self.view_is

pub returns-in-None-clause-place : goal.returns-in-None-clause-place
returns-in-None-clause-place g c =
    c.in-None.ensures.place ∙ ap (position (g.K.PartialEq.eq c.args.key.now)) c.self.invariant
    ∙ position-values g.K.PartialEq.eq g.V.Keyed.key_of c.args.key.now (values_of (live c.self.inside.slots.entries))
    ∙ ap (λ r. position (has_key g.K.PartialEq.eq g.V.Keyed.key_of c.args.key.now) r.items) c.self.view_is
