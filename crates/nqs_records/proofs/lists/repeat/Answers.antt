use Rattle.std.proofs.Common.{◌≡◌, ℕ, suc, ◌-◌, Ok, refl, sym, ap, ◌∙◌, arith}
use Rattle.std.proofs.lemmas.Result.{err_from_is_err_and}
use Rattle.nqs_records.specs.Reading.{repeated}
use Rattle.nqs_records.proofs.Fronts.{after, one_more, stops, all_read}
use Rattle.nqs_records.proofs.lists.repeat.Goals as goal

pub returns-in_err-item : goal.returns-in_err-item
returns-in_err-item g c =
    let p = err_from_is_err_and c.from_residual-in_err-item.result c.from_residual-in_err-item.ensures.1 in
    let some : c.loop-left.left ≡ suc (c.loop-left.left - 1) = omega (arith, c.loop-left-test.true) in
    let is = c.loop-left.invariant ∙ ap (λ (n : ℕ). after c.loop-left.items.items (repeated n g.T.Read.at c.args.bytes.now c.loop-left.here)) some in
    rw (p.1, p.2) (λ q. stops _ c.loop-left.items.items (c.loop-left.left - 1) g.T.Read.at c.args.bytes.now c.loop-left.here _ is
    (sym (c.in_err-item.ensures q)))

pub loop-left-preserved : goal.loop-left-preserved
loop-left-preserved g c =
    let some : c.loop-left.left ≡ suc (c.loop-left.left - 1) = omega (arith, c.loop-left-test.true) in
    let is = c.loop-left.invariant ∙ ap (λ (n : ℕ). after c.loop-left.items.items (repeated n g.T.Read.at c.args.bytes.now c.loop-left.here)) some in
    rw c.in_ok-push.ensures.items (one_more _ c.loop-left.items.items (c.loop-left.left - 1) g.T.Read.at c.args.bytes.now c.loop-left.here c.in_ok-item.item
    c.in_ok-item.next is (sym (c.in_ok-item.ensures refl)))

pub returns : goal.returns
returns g c = λ q.
    let none : c.loop-left.left ≡ 0 = omega (arith, c.loop-left-test.false) in
    let is = c.loop-left.invariant ∙ ap (λ (n : ℕ). after c.loop-left.items.items (repeated n g.T.Read.at c.args.bytes.now c.loop-left.here)) none in
    ap (λ l. Ok (l, c.loop-left.here)) c.from_vec.ensures
    ∙ all_read _ c.loop-left.items.items g.T.Read.at c.args.bytes.now c.loop-left.here is
