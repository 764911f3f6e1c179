use Rattle.std.proofs.Common.{◌≡◌, ◌∙◌, ap, sym, subst, true}
use Rattle.std.specs.List.{list_any}
use Rattle.std.specs.Cmp.Lexicographic.{nat_list_eq_equiv}
use Rattle.nqs_index.specs.QueueLines.{classes_under, is_queue}
use Rattle.nqs_index.proofs.PlaceLemmas.{any_behind}
use Rattle.nqs_index.proofs.QueueLineLemmas.{classes_added}
use Rattle.nqs_index.proofs.lines.add.Goals as goal

pub returns-clause-classes : goal.returns-clause-classes
returns-clause-classes c q =
    ap (classes_under q) c.push.ensures.items ∙ classes_added _ c.new-classes.ensures q c.reserve.new.self.items ∙ ap (classes_under q) c.reserve.ensures.items

pub returns-clause-there : goal.returns-clause-there
returns-clause-there c =
    let queue = c.args.queue.now in
    subst (λ ls. list_any (is_queue queue) ls ≡ true) (sym c.push.ensures.items)
    (any_behind (is_queue queue) c.reserve.new.self.items _ (nat_list_eq_equiv.refl queue))
