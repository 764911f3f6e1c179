use Rattle.std.proofs.Common.{◌∙◌, ap}
use Rattle.std.specs.Map.{lookup}
use Rattle.nqs_base_tables.proofs.SlotLemmas.{lookup-closed}
use Rattle.nqs_base_tables.proofs.slots.Slots.forget.Goals as goal

pub returns-then-contains_key-clause-absent : goal.returns-then-contains_key-clause-absent
returns-then-contains_key-clause-absent g c =
    lookup-closed (g.K.PartialEq.eq c.args.key.now) c.close.new.self.entries c.close.ensures.closed
    (ap (lookup (g.K.PartialEq.eq c.args.key.now)) c.close.ensures.entries ∙ c.requires)
