use Rattle.std.proofs.Common.{◌++◌, ℕ, ap, ◌∙◌}
use Rattle.std.specs.Prelude.{codes}
use Rattle.std.specs.Fmt.{decimal}
use Rattle.std.proofs.lemmas.Result.{on_err_weaker}
use Rattle.nqs_rules.specs.Transcript.{host_text}
use Rattle.nqs_put.proofs.Fronts.{behind_two}
use Rattle.nqs_put.proofs.put.put_id.Goals as goal

pub returns-clause-front : goal.returns-clause-front
returns-clause-front c =
    on_err_weaker c.put_host.result
    (behind_two c.args.out.now.items (decimal c.args.id.seq) (codes ".") (host_text c.args.site.now c.args.id.host) c.put_decimal.new.out.items
    c.push.new.self.items c.put_host.new.out.items (c.in_ok-put_decimal.ensures.put ∙ ap (λ (n : ℕ). c.args.out.now.items ++ decimal n) c.from.ensures)
    c.in_ok-push.ensures.items)
    c.put_host.ensures.front
