use Rattle.std.proofs.Common.{rules, ◌≡◌, ◌∙◌, map, filter, sym, ap, subst}
use Rattle.nqs_store.specs.Accounts.{Takes}
use Rattle.nqs_store.specs.Live.{row_part}
use Rattle.nqs_store.proofs.free.free_rows.Goals as goal

pub returns-clause-tells : goal.returns-clause-tells
returns-clause-tells g c = λ p says live fewer was takes.
    c.free_all.ensures.tells p row_part says (λ v x f. let told : x ≡ row_part f.shown.now = search rules in told ∙ ap row_part f.shows) live fewer was
    (subst (λ t. Takes live (map row_part (filter p t.items)) fewer) (sym c.table.ensures) takes)
