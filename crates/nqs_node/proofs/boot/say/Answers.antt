use Rattle.std.proofs.Common.{◌++◌, sym, ap, ◌∙◌}
use Rattle.std.specs.Option.{option_to_list}
use Rattle.std.proofs.lemmas.List.{append-nil}
use Rattle.nqs_node.proofs.boot.say.Goals as goal

pub returns-in-None : goal.returns-in-None
returns-in-None c = λ f. sym (append-nil c.args.outputs.now.items) ∙ ap (λ o. c.args.outputs.now.items ++ option_to_list o) (c.in-None.ensures f)

pub returns-in_ok-push-in-Some : goal.returns-in_ok-push-in-Some
returns-in_ok-push-in-Some c = λ f. c.in_ok-push-in-Some.ensures.items ∙ ap (λ o. c.args.outputs.now.items ++ option_to_list o) (c.in-Some.ensures f)
