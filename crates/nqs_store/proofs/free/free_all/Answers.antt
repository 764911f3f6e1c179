use Rattle.std.proofs.Common.{◌≡◌, ◌+◌, ◌∙◌, ◌∷◌, true, false, map, filter, drop, refl, sym, ap, subst, arith}
use Rattle.std.proofs.lemmas.List.{drop_all}
use Rattle.nqs_spool.specs.Spooled.{disk_of, Tells}
use Rattle.nqs_store.specs.Accounts.{Takes}
use Rattle.nqs_store.proofs.Freeing.{first_free, taken_on, left_on}
use Rattle.nqs_store.proofs.free.free_all.Goals as goal
use Rattle.nqs_store.proofs.free.free_all.Goals.{then-goes, else-goes}

pub loop-place-preserved : goal.loop-place-preserved
loop-place-preserved g c =
    let inv = c.loop-place.invariant in
    let v = c.at-value.result.now in
    let i = c.loop-place.place in
    let vs = c.args.table.now.items in
    elim c.if-goes.branch [
      | then-goes w ↦ record {
        same = ap disk_of w.spool-is ∙ w.free.ensures.same ∙ inv.same;
        tells = λ p part says_p says live fewer was takes.
            let so_far = inv.tells p part says_p says live fewer was takes in
            let told : w.part.result ≡ part v = says v w.part.result (record
            { shown = c.at-value.result; shows = refl; says = record { met = w.part.ensures } }) in
            let goes : p v ≡ true = sym (says_p v c.goes.result (record { shown = c.at-value.result; shows = refl; says = record { met = c.goes.ensures } }))
            ∙ w.if-goes.true in
            let later = map part (filter p (drop (i + 1) vs)) in
            let list : map part (filter p (drop i vs)) ≡ w.part.result ∷ later = taken_on part p vs i v c.at-value.ensures goes
            ∙ ap (λ x. x ∷ later) (sym told) in
            let next = first_free c.loop-place.spool w.free.new.self w.part.result w.free.ensures.tells later so_far.0 fewer so_far.1
            (subst (λ l. Takes so_far.0 l fewer) list so_far.2) in
            (next.0, subst (λ s. Tells s next.0) (sym w.spool-is) next.1, next.2);
      }
      | else-goes w ↦ record {
        same = ap disk_of w.spool-is ∙ inv.same;
        tells = λ p part says_p says live fewer was takes.
            let so_far = inv.tells p part says_p says live fewer was takes in
            let stays : p v ≡ false = sym (says_p v c.goes.result (record { shown = c.at-value.result; shows = refl; says = record { met = c.goes.ensures } }))
            ∙ w.if-goes.false in (
              so_far.0,
              subst (λ s. Tells s so_far.0) (sym w.spool-is) so_far.1,
              subst (λ l. Takes so_far.0 l fewer)
                  (left_on part p vs i v c.at-value.ensures stays) so_far.2,
            );
      }
    ]

pub returns-clause-tells : goal.returns-clause-tells
returns-clause-tells g c = λ p part says_p says live fewer was takes.
    let so_far = c.loop-place.invariant.tells p part says_p says live fewer was takes in
    let none = drop_all c.loop-place.place c.args.table.now.items (omega (arith, c.loop-place-test.false, c.loop-place.auto.place-end, c.len-place-end.ensures))
    in
    subst (Tells c.loop-place.spool) (subst (λ l. Takes so_far.0 (map part (filter p l)) fewer) none so_far.2) so_far.1
