use Rattle.std.proofs.Common.{◌≡◌, ◌+◌, ◌++◌, ◌∷◌, map, drop, append-nil, append_assoc, sym, ap, ◌∙◌}
use Rattle.std.proofs.lemmas.List.{drop_more, drop_all}
use Rattle.nqs_rules.specs.Find.{host_at}
use Rattle.nqs_rules.specs.Net.{table_at, table_from}
use Rattle.nqs_rules_table.specs.Shown.{bare}
use Rattle.nqs_rules_table.proofs.Stands.{table-bare}
use Rattle.nqs_rules_table.proofs.table_of.Goals as goal

pub loop-place-init : goal.loop-place-init
loop-place-init c =
    let all = map bare c.args.states.now in
    ap (λ l. l ++ table_from 0 all all) c.new-table.ensures.items

pub loop-place-preserved : goal.loop-place-preserved
loop-place-preserved c =
    let states = c.args.states.now in
    let all = map bare states in
    let place = c.loop-place.place in
    let state = c.index-states-place.result in
    let rest = table_from (place + 1) all (map bare (drop (place + 1) states)) in
    let left : drop place states ≡ state ∷ drop (place + 1) states = drop_more states place state c.loop-place-test.true
    ∙ ap (λ s. s ∷ drop (place + 1) states) (sym c.index-states-place.is) in
    let rows : c.in_ok-rows.rows.items ≡ table_at all (host_at place) (bare state) = c.in_ok-rows.ensures in
    ap (λ l. l ++ rest) c.in_ok-append.ensures.items
    ∙ append_assoc c.loop-place.table.items c.in_ok-rows.rows.items rest
    ∙ ap (λ l. c.loop-place.table.items ++ (l ++ rest)) rows
    ∙ ap (λ l. c.loop-place.table.items ++ table_from place all (map bare l)) (sym left)
    ∙ c.loop-place.invariant

pub returns : goal.returns
returns c = λ plains stand.
    let states = c.args.states.now in
    sym (append-nil c.loop-place.table.items)
    ∙ ap (λ l. c.loop-place.table.items ++ table_from c.loop-place.place (map bare states) (map bare l))
    (sym (drop_all c.loop-place.place states c.loop-place-test.false))
    ∙ c.loop-place.invariant
    ∙ sym (table-bare states plains stand)
