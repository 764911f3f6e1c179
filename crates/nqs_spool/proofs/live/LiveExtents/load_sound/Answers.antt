use Rattle.std.proofs.Common.{[], ◌∷◌, ◌++◌, refl, sym, ap, ◌∙◌, subst, arith, append_assoc}
use Rattle.std.proofs.lemmas.List.{append-nil}
use Rattle.std.specs.List.{AllByRecursion}
use Rattle.nqs_spool.specs.Extents.{IsWithin, IsWith}
use Rattle.nqs_spool.proofs.Lists.{all_put}
use Rattle.nqs_spool.proofs.live.LiveExtents.load_sound.Goals as goal

pub extents-preserved : goal.extents-preserved
extents-preserved c =
    let inv = c.extents.invariant in
    let x = c.in-Some.extent.now in
    let whole = inv.1 ∙ ap (λ l. inv.0 ++ l) c.in-Some.ensures.cases.0 in
    let at : IsWith inv.0 x (inv.0 ++ x ∷ []) = record { front = inv.0; back = []; without = sym (append-nil inv.0); within = refl } in
    let sound = c.in_ok-add_sound.ensures.sound c.if-not-branch.false inv.0 (inv.0 ++ x ∷ []) at inv.3 in (
      inv.0 ++ x ∷ [],
      whole ∙ sym (append_assoc inv.0 (x ∷ []) c.in-Some.more.now),
      all_put (IsWithin c.args.size) inv.0 [] x sound.0 (subst (AllByRecursion (IsWithin c.args.size)) (sym (append-nil inv.0)) inv.2),
      sound.2,
      omega (arith, c.in_ok-add_sound.ensures.end c.if-not-branch.false, sound.0, inv.4),
    )
