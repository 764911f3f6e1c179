use Rattle.std.proofs.Common.{rules, ◌≡◌, ◌∙◌, ◌++◌, map, OnOk, ap, subst}
use Rattle.nqs_store.specs.Live.{row_part}
use Rattle.nqs_store.proofs.live.add_rows.Goals as goal

pub returns : goal.returns
returns c = subst (λ t. OnOk c.add_parts.result (c.add_parts.new.extents.items ≡ c.args.extents.now.items ++ map row_part t.items)) c.table.ensures
    (c.add_parts.ensures row_part (λ v x f. let told : x ≡ row_part f.shown.now = search rules in told ∙ ap row_part f.shows))
