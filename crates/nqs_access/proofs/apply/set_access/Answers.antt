use Rattle.std.proofs.Common.{rules, ap, ◌≡◌, ◌∙◌, sym}
use Rattle.nqs_state.specs.State.{content}
use Rattle.nqs_access.proofs.apply.set_access.Goals as goal

pub returns : goal.returns
returns c g gives = ap (λ qs. record (content c.args.state.now) { queues = qs }) (c.change.ensures.changed g (λ v w found ran.
    let is : w ≡ record v { access = c.args.access } = search rules in is ∙ sym (gives v found)))
