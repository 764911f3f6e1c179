use Rattle.std.proofs.Common.{◌∙◌, find, ap}
use Rattle.std.specs.Map.{values_of}
use Rattle.nqs_base_tables.specs.Slots.{live}
use Rattle.nqs_base_tables.specs.Table.{has_key}
use Rattle.nqs_base_tables.proofs.TableLemmas.{lookup-values, none_from_is_some, is_some-find}
use Rattle.nqs_base_tables.proofs.table.Table.push.Goals as goal

pub push-requires-clause-absent : goal.push-requires-clause-absent
push-requires-clause-absent g c =
    let eq = g.K.PartialEq.eq in
    let key = g.V.Keyed.key_of in
    lookup-values eq key c.key-key.result (live c.self.inside.slots.entries) c.self.invariant
    ∙ ap (λ q. find (has_key eq key q) (values_of (live c.self.inside.slots.entries))) c.key-key.ensures
    ∙ ap (λ r. find (has_key eq key (key c.args.value)) r.items) c.self.view_is
    ∙ none_from_is_some _ (is_some-find (has_key eq key (key c.args.value)) c.args.self.now.items ∙ c.requires.absent)
