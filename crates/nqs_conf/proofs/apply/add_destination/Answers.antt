use Rattle.std.proofs.Common.{rules, ap, sym, refl, ◌≡◌, ◌∙◌, Some}
use Rattle.std.proofs.lemmas.Option.{same_Some}
use Rattle.nqs_state.specs.State.{content}
use Rattle.nqs_base_tables.proofs.TableLemmas.{change_first-none, change_first-same}
use Rattle.nqs_rules.specs.Conf.{with_dest}
use Rattle.nqs_rules.specs.Find.{meant_dest}
use Rattle.nqs_conf.proofs.apply.add_destination.Goals as goal

pub returns-in_default : goal.returns-in_default
returns-in_default c =
    rw (sym c.meant_dest.ensures ∙ c.in_default.is) (ap (λ qs. record (content c.args.state.now) { queues = qs })
    (sym (change_first-same _ _ c.args.state.now.queues.items (λ v found. refl))))

pub returns-in-None : goal.returns-in-None
returns-in-None c = ap (λ qs. record (content c.args.state.now) { queues = qs })
    (sym (change_first-none _ _ c.args.state.now.queues.items (sym c.in-None.ensures)))

pub returns : goal.returns
returns c = ap (λ qs. record (content c.args.state.now) { queues = qs }) (c.change.ensures.changed
    (with_dest (meant_dest c.args.destination.now (content c.args.state.now))) (λ v w found ran.
    let same : c.in-Some-get.def.now ≡ v = same_Some _ _ (c.in-Some-get.ensures ∙ found) in
    let meant : meant_dest c.args.destination.now (content c.args.state.now) ≡ Some c.in-Some.dest = sym c.meant_dest.ensures ∙ c.in-Some.is in
    rw meant (search rules)))
