use Rattle.std.proofs.Common.{◌≡◌, ◌∙◌, ap, sym, true, false, if◌then◌else◌}
use Rattle.nqs_base_tables.specs.Table.{without_first}
use Rattle.nqs_index.specs.Lines.{entry_at}
use Rattle.nqs_index.specs.Classes.{is_class, is_left_empty}
use Rattle.nqs_index.proofs.ClassLemmas.{if_left_empty, taken_is}
use Rattle.nqs_index.proofs.classes.take.Goals as goal

pub returns-then-is_left_empty-clause-items : goal.returns-then-is_left_empty-clause-items
returns-then-is_left_empty-clause-items g c =
    let x = entry_at c.args.key c.args.id in
    let k = c.args.class.now in
    let mid = c.take_in.new.classes.items in
    let empty : is_left_empty k mid ≡ true = sym c.is_left_empty.ensures ∙ c.if-is_left_empty.true in
    c.remove_key.ensures.items
    ∙ (λ j. if sym empty j then without_first (is_class k) mid else mid)
    ∙ ap (if_left_empty k x) c.take_in.ensures.items
    ∙ taken_is k x c.args.classes.now.items

pub returns-else-is_left_empty-clause-items : goal.returns-else-is_left_empty-clause-items
returns-else-is_left_empty-clause-items g c =
    let x = entry_at c.args.key c.args.id in
    let k = c.args.class.now in
    let mid = c.take_in.new.classes.items in
    let some : is_left_empty k mid ≡ false = sym c.is_left_empty.ensures ∙ c.if-is_left_empty.false in
    (λ j. if sym some j then without_first (is_class k) mid else mid)
    ∙ ap (if_left_empty k x) c.take_in.ensures.items
    ∙ taken_is k x c.args.classes.now.items
