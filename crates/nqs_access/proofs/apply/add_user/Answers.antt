use Rattle.std.proofs.Common.{ap, sym, ◌≡◌, ◌∙◌}
use Rattle.std.proofs.lemmas.Option.{same_Some}
use Rattle.nqs_state.specs.State.{content}
use Rattle.nqs_types.specs.declared.queue.Access.TheVariants.{All}
use Rattle.nqs_base_tables.proofs.TableLemmas.{change_first-none, change_first-same}
use Rattle.nqs_rules.specs.Access.{with_user}
use Rattle.nqs_access.proofs.apply.add_user.Goals as goal

pub returns-in-All : goal.returns-in-All
returns-in-All c = ap (λ qs. record (content c.args.state.now) { queues = qs }) (sym (change_first-same _ _ c.args.state.now.queues.items (λ v found.
    let same : c.in-Some.def.now ≡ v = same_Some _ _ (c.in-Some.ensures ∙ found) in
    let all : v.access ≡ All = ap (λ d. d.access) (sym same) ∙ c.in-All.is in
    (λ j. record v { access = (ap (with_user c.args.user) all ∙ sym all) j }))))

pub returns-in-None : goal.returns-in-None
returns-in-None c = ap (λ qs. record (content c.args.state.now) { queues = qs })
    (sym (change_first-none _ _ c.args.state.now.queues.items (sym c.in-None.ensures)))
