use Rattle.std.proofs.Common.{◌≡◌, true, sym, subst}
use Rattle.std.specs.List.{list_any}
use Rattle.std.proofs.lemmas.Result.{on_ok_weaker}
use Rattle.nqs_index.specs.Classes.{is_class, new_line}
use Rattle.nqs_index.proofs.ClassLemmas.{class_itself}
use Rattle.nqs_index.proofs.PlaceLemmas.{any_behind}
use Rattle.nqs_index.proofs.classes.ensure.Goals as goal

pub returns-then-not-has-clause-there : goal.returns-then-not-has-clause-there
returns-then-not-has-clause-there c =
    let class = c.args.class.now in
    on_ok_weaker c.add.result
    (λ is. subst (λ ls. list_any (is_class class) ls ≡ true) (sym is)
    (any_behind (is_class class) c.args.classes.now.items (new_line class) (class_itself class)))
    c.add.ensures
