use Rattle.std.proofs.Common.{rules, ap, sym, ◌≡◌, ◌∙◌, ◌++◌, ◌∷◌, [], filter}
use Rattle.std.proofs.lemmas.Option.{same_Some}
use Rattle.nqs_state.specs.State.{content}
use Rattle.nqs_base_tables.proofs.TableLemmas.{change_first-none}
use Rattle.nqs_rules.specs.Routing.{dests_for, is_present, with_refusal, all_refused, held_where, refusal_noted}
use Rattle.nqs_routing.proofs.note.note_refusal.Goals as goal

pub returns-in_default : goal.returns-in_default
returns-in_default c = ap (λ rs. record (content c.args.state.now) { rows = rs })
    (sym (change_first-none _ _ c.args.state.now.rows.items (sym c.in_default.ensures)))

pub returns : goal.returns
returns c =
    let s = content c.args.state.now in
    let dest = c.args.dest in
    let cause = c.args.cause in
    let row = c.in-Some.row.now in
    let dests : c.dests_of-dests.result.now ≡ dests_for row s = c.dests_of-dests.ensures in
    let grown : c.grown-refused.result ≡ row.refused ++ record { dest = dest; cause = cause } ∷ [] = c.grown-refused.ensures
    ∙ ap (λ l. l ++ record { dest = dest; cause = cause } ∷ []) c.as_slice.ensures in
    let kept : c.keep.new.self ≡ with_refusal (dests_for row s) dest cause row.refused =
    c.keep.ensures (is_present c.dests_of-dests.result.now) (λ x r t call. search rules) ∙ (λ j. filter (is_present (dests j)) (grown j)) in
    let held : c.all_refused-held.result ≡ all_refused (dests_for row s) (with_refusal (dests_for row s) dest cause row.refused) =
    c.all_refused-held.ensures ∙ (λ j. all_refused (dests j) ((c.as_slice-2.ensures ∙ kept) j)) in
    ap (λ rs. record s { rows = rs }) (c.change.ensures.changed (λ r. refusal_noted (dests_for r s) dest cause r) (λ v w found ran.
    let same : row ≡ v = same_Some _ _ (c.in-Some.ensures ∙ found) in
    let set : w ≡ held_where c.all_refused-held.result (record v { refused = c.keep.new.self }) = search rules in
    set
    ∙ (λ j. held_where (held j) (record v { refused = kept j }))
    ∙ (λ j. held_where (all_refused (dests_for (same j) s) (with_refusal (dests_for (same j) s) dest cause (same j).refused))
    (record v { refused = with_refusal (dests_for (same j) s) dest cause (same j).refused }))))
