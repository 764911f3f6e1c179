use Rattle.std.proofs.Common.{◌≡◌, ◌∙◌, ◌+◌, drop, fold, IfOk, sym, ap, subst}
use Rattle.nqs_base_tables.proofs.TableLemmas.{drop-at}
use Rattle.nqs_plans.proofs.each.fold_each.Goals as goal

pub loop-place-preserved : goal.loop-place-preserved
loop-place-preserved g c h says =
    let told : c.in_ok-made.made ≡ h c.loop-place.made c.at.result.now =
    subst (λ r. IfOk r (λ b. b ≡ h c.loop-place.made c.at.result.now)) c.in_ok-made.was (says c.loop-place.made c.at.result c.f.result c.f.ensures) in
    ap (λ a. fold h a (drop (c.loop-place.place + 1) c.args.table.now.items)) told
    ∙ sym (ap (fold h c.loop-place.made) (drop-at c.args.table.now.items c.loop-place.place c.at.result.now c.at.ensures))
    ∙ c.loop-place.invariant h says
