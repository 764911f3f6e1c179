use Rattle.std.proofs.Common.{◌≡◌, ◌∙◌, ◌<◌, ap, sym, subst, length, remove, slice_get}
use Rattle.nqs_state.specs.State.{content}
use Rattle.nqs_state.specs.Keys.{is_promise}
use Rattle.nqs_base_tables.specs.Table.{without_first}
use Rattle.nqs_rules.specs.Routing.{close}
use Rattle.nqs_rules.specs.Applied.{add_promised, drop_promise, accepted}
use Rattle.nqs_changes.proofs.Places.{first_at, none_at}
use Rattle.nqs_changes.proofs.Closed.{add_closed}
use Rattle.nqs_changes.proofs.promises.accepted.Goals as goal

pub add_promised-requires : goal.add_promised-requires
add_promised-requires c = record { room = subst (λ rows. 0 < rows.spare) (sym c.close.ensures.rows) c.requires.room }

pub returns-in-Some : goal.returns-in-Some
returns-in-Some c =
    let s = content c.args.state.now in
    let k = c.args.key.now in
    let place = c.in-Some.place in
    let row = c.remove-promise.result.row in
    let there = ap (λ t. slice_get t.items place) (sym c.close.ensures.promises) ∙ c.remove-promise.ensures.out in
    let at = first_at (is_promise k) s.promises place c.remove-promise.result (sym c.in-Some.ensures.place) there in
    let left : c.remove-promise.new.self.items ≡ without_first (is_promise k) s.promises =
    c.remove-promise.ensures.items ∙ ap (λ t. remove t.items place) c.close.ensures.promises ∙ at.others in
    c.add_promised.ensures
    ∙ (λ j. add_promised row (record (c.close.ensures.content j) { promises = left j }))
    ∙ add_closed row k.peer (close k.number) (drop_promise k s)
    ∙ ap (λ o. accepted k o s) (sym at.found)

pub returns-in_default : goal.returns-in_default
returns-in_default c =
    let s = content c.args.state.now in
    ap (λ o. accepted c.args.key.now o s) (sym (none_at (is_promise c.args.key.now) s.promises (sym c.in_default.ensures.place)))
