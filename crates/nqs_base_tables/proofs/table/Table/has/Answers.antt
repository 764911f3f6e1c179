use Rattle.std.proofs.Common.{◌∙◌, ap, is_some}
use Rattle.nqs_base_tables.specs.Table.{has_key}
use Rattle.nqs_base_tables.proofs.TableLemmas.{is_some-find, is_some-option_copied}
use Rattle.nqs_base_tables.proofs.table.Table.has.Goals as goal

pub returns : goal.returns
returns g c =
    c.is_some.ensures ∙ is_some-option_copied c.get.result ∙ ap is_some c.get.ensures
    ∙ is_some-find (has_key g.K.PartialEq.eq g.V.Keyed.key_of c.args.key.now) c.args.self.now.items
