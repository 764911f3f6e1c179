use Rattle.std.proofs.Common.{◌++◌, List, ℕ, ap, ◌∙◌}
use Rattle.std.proofs.lemmas.Result.{on_err_weaker}
use Rattle.nqs_put.proofs.Fronts.{behind_two}
use Rattle.nqs_put.proofs.put.put_about.Goals as goal

pub returns-clause-front : goal.returns-clause-front
returns-clause-front c =
    on_err_weaker c.put_text-3.result
    (behind_two c.args.out.now.items c.args.before.now c.args.name.now c.args.after.now c.put_text.new.out.items c.put_text-2.new.out.items
    c.put_text-3.new.out.items c.in_ok-put_text.ensures.put
    (c.in_ok-put_text-2.ensures.put ∙ ap (λ (l : List ℕ). c.put_text.new.out.items ++ l) c.as_bytes.ensures.bytes))
    c.put_text-3.ensures.front
