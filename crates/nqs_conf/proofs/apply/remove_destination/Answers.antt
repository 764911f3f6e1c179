use Rattle.std.proofs.Common.{rules, ap, sym, refl, ◌≡◌, ◌∙◌, Some}
use Rattle.nqs_state.specs.State.{content}
use Rattle.nqs_base_tables.proofs.TableLemmas.{change_first-same}
use Rattle.nqs_rules.specs.Conf.{without_dest}
use Rattle.nqs_rules.specs.Find.{meant_dest}
use Rattle.nqs_conf.proofs.apply.remove_destination.Goals as goal

pub returns-in_default : goal.returns-in_default
returns-in_default c =
    rw (sym c.meant_dest.ensures ∙ c.in_default.is) (ap (λ qs. record (content c.args.state.now) { queues = qs })
    (sym (change_first-same _ _ c.args.state.now.queues.items (λ v found. refl))))

pub returns : goal.returns
returns c = ap (λ qs. record (content c.args.state.now) { queues = qs }) (c.change.ensures.changed
    (without_dest (meant_dest c.args.destination.now (content c.args.state.now))) (λ v w found ran.
    let meant : meant_dest c.args.destination.now (content c.args.state.now) ≡ Some c.in-Some.dest = sym c.meant_dest.ensures ∙ c.in-Some.is in
    rw meant (search rules)))
