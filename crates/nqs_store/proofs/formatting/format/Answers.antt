use Rattle.std.proofs.Common.{◌∷◌, ◌++◌, [], None, length, ap, subst}
use Rattle.nqs_rules.specs.Format.{formatted}
use Rattle.nqs_journal.specs.Text.{header, records}
use Rattle.nqs_journal.specs.Opened.{IsOpen}
use Rattle.nqs_store.specs.Told.{read_taken}
use Rattle.nqs_store.proofs.Telling.{told_one}
use Rattle.nqs_store.proofs.formatting.format.Goals as goal

pub returns-in-Ok-clause-told : goal.returns-in-Ok-clause-told
returns-in-Ok-clause-told g c = λ tells. record {
  payload = c.in_ok-text.text.items;
  opened = subst (λ p. IsOpen (g.D.Disk.history c.format_with.new.disk) header (length (header ++ records (p ∷ []))) (p ∷ [])) c.deref.ensures.value
      (c.in-Ok.ensures.formatted tells);
  tells = told_one c.in_ok-text.text.items (formatted c.args.me c.args.site.now) (ap (λ r. read_taken r None) c.in_ok-text.ensures.read);
}
