use Rattle.std.proofs.Common.{◌≡◌, ◌∙◌, ◌++◌, ◌∷◌, [], map, take, refl, sym, ap, arith, append_assoc}
use Rattle.std.proofs.lemmas.List.{map-append, take_all}
use Rattle.nqs_store.proofs.Lists.{take-at}
use Rattle.nqs_store.proofs.live.add_parts.Goals as goal

pub loop-place-preserved : goal.loop-place-preserved
loop-place-preserved g c = λ part says.
    let v = c.at.result.now in
    let i = c.loop-place.place in
    let vs = c.args.table.now.items in
    let told : c.part.result ≡ part v = says v c.part.result (record { shown = c.at.result; shows = refl; says = record { met = c.part.ensures } }) in
    c.in_ok-push.ensures.items
    ∙ (λ j. c.loop-place.invariant part says j ++ told j ∷ [])
    ∙ append_assoc c.reserve.new.self.items (map part (take i vs)) (part v ∷ [])
    ∙ ap (λ l. c.reserve.new.self.items ++ l) (sym (map-append part (take i vs) (v ∷ [])) ∙ ap (map part) (sym (take-at vs i v c.at.ensures)))

pub returns : goal.returns
returns g c = λ part says.
    let vs = c.args.table.now.items in
    c.loop-place.invariant part says
    ∙ (λ j. c.in_ok-reserve.ensures.items j ++ map part (take_all c.loop-place.place vs
    (omega (arith, c.loop-place-test.false, c.loop-place.auto.place-end, c.len-place-end.ensures)) j))
