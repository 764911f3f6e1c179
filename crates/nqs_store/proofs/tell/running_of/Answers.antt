use Rattle.std.proofs.Common.{◌≡◌, true, take, sym, subst, arith}
use Rattle.std.specs.List.{list_all}
use Rattle.std.proofs.lemmas.List.{take_all}
use Rattle.nqs_changes.specs.Running.{runs_in}
use Rattle.nqs_store.proofs.Lists.{take-at}
use Rattle.nqs_rules.proofs.ListFacts.{list_all-weaker}
use Rattle.nqs_rules.proofs.KeyFacts.{all-added}
use Rattle.nqs_store.proofs.tell.running_of.Goals as goal

pub loop-place-preserved : goal.loop-place-preserved
loop-place-preserved c =
    let rows = c.args.state.now.rows.items in
    let i = c.loop-place.place in
    let row = c.at.result.now in
    let p = runs_in c.keep_if_running.new.running.items in
    subst (λ l. list_all p l ≡ true) (sym (take-at rows i row c.at.ensures))
    (all-added p (take i rows) row (list_all-weaker (runs_in c.loop-place.running.items) p (λ r. c.in_ok-keep_if_running.ensures.others r)
    (take i rows) c.loop-place.invariant)
    c.in_ok-keep_if_running.ensures.only)

pub returns : goal.returns
returns c =
    let rows = c.args.state.now.rows.items in
    subst (λ l. list_all (runs_in c.loop-place.running.items) l ≡ true)
    (take_all c.loop-place.place rows (omega (arith, c.loop-place-test.false, c.loop-place.auto.place-end, c.len-place-end.ensures)))
    c.loop-place.invariant
