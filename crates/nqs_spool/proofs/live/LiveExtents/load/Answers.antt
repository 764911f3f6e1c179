use Rattle.std.proofs.Common.{◌<◌, ◌≤◌, ◌^◌, [], ◌∷◌, ◌++◌, refl, sym, ap, ◌∙◌, subst, arith, append_assoc}
use Rattle.std.proofs.lemmas.List.{append-nil}
use Rattle.std.specs.List.{AllByRecursion}
use Rattle.nqs_spool.specs.Extents.{past, IsApart, AreApart, IsWith}
use Rattle.nqs_spool.specs.Live.{kept}
use Rattle.nqs_spool.proofs.Lists.{all_cut, all_front, apart_cut, clear_kept}
use Rattle.nqs_spool.proofs.Kept.{kept_some}
use Rattle.nqs_spool.proofs.live.LiveExtents.load.Goals as goal

pub add-requires-clause-clear : goal.add-requires-clause-clear
add-requires-clause-clear c =
    let inv = c.extents.invariant in
    let x = c.in-Some.extent.now in
    let whole = inv.1 ∙ ap (λ l. inv.0 ++ l) c.in-Some.ensures.cases.0 in
    let apart = apart_cut inv.0 c.in-Some.more.now x (subst AreApart whole c.requires.apart) in
    clear_kept (kept c.extents.loaded) inv.0 x (kept_some c.extents.loaded) inv.2 (all_front (IsApart x) inv.0 c.in-Some.more.now apart.0)

pub add-requires-clause-small : goal.add-requires-clause-small
add-requires-clause-small c =
    let inv = c.extents.invariant in
    let whole = inv.1 ∙ ap (λ l. inv.0 ++ l) c.in-Some.ensures.cases.0 in
    (all_cut (λ x. past x < 2 ^ 64) inv.0 c.in-Some.more.now c.in-Some.extent.now (subst (AllByRecursion (λ x. past x < 2 ^ 64)) whole c.requires.small)).0

pub extents-preserved : goal.extents-preserved
extents-preserved c =
    let inv = c.extents.invariant in
    let x = c.in-Some.extent.now in
    let whole = inv.1 ∙ ap (λ l. inv.0 ++ l) c.in-Some.ensures.cases.0 in
    let apart = apart_cut inv.0 c.in-Some.more.now x (subst AreApart whole c.requires.apart) in
    let clear = all_front (IsApart x) inv.0 c.in-Some.more.now apart.0 in
    let at : IsWith inv.0 x (inv.0 ++ x ∷ []) = record { front = inv.0; back = []; without = sym (append-nil inv.0); within = refl } in (
      inv.0 ++ x ∷ [],
      whole ∙ sym (append_assoc inv.0 (x ∷ []) c.in-Some.more.now),
      c.in_ok-add.ensures.covers inv.0 (inv.0 ++ x ∷ []) at clear inv.2,
      λ bound all.
          let cut = all_cut (λ y. past y ≤ bound) inv.0 [] x all in
          omega (arith, c.in_ok-add.ensures.end, cut.0, inv.3 bound (subst (AllByRecursion (λ y. past y ≤ bound)) (append-nil inv.0) cut.1)),
    )

pub returns-clause-end : goal.returns-clause-end
returns-clause-end c = λ bound all.
    let inv = c.extents.invariant in
    inv.3 bound (all_front (λ y. past y ≤ bound) inv.0 c.extents.rest.now (subst (AllByRecursion (λ y. past y ≤ bound)) inv.1 all))
