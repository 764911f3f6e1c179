use Rattle.std.proofs.Common.{rules, ap, sym, refl, Bool, true, false, not, is_ok, ◌≡◌, ◌∙◌, Some}
use Rattle.nqs_state.specs.State.{content}
use Rattle.nqs_base_tables.proofs.TableLemmas.{change_first-same}
use Rattle.nqs_types.specs.declared.edit.ConfEdit.TheVariants.{FirstDestination}
use Rattle.nqs_rules.specs.Conf.{conf_causes, lists_dest, with_dest_first}
use Rattle.nqs_rules.specs.Find.{meant_dest}
use Rattle.nqs_rules.specs.Tests.{passes}
use Rattle.nqs_rules.proofs.ConfOrder.{none_holds}
use Rattle.nqs_conf.proofs.apply.first_destination.Goals as goal

from_not : (b : Bool) → not b ≡ false → b ≡ true
from_not true h = refl
from_not false h = sym h

pub returns-in_default : goal.returns-in_default
returns-in_default c =
    rw (sym c.meant_dest.ensures ∙ c.in_default.is) (ap (λ qs. record (content c.args.state.now) { queues = qs })
    (sym (change_first-same _ _ c.args.state.now.queues.items (λ v found. refl))))

pub returns : goal.returns
returns c =
    let s = content c.args.state.now in
    let typed = c.args.destination.now in
    let listed = (none_holds (conf_causes (FirstDestination typed c.args.queue.now) s) (ap is_ok c.requires.check)).1.1.0 in
    ap (λ qs. record s { queues = qs }) (c.change.ensures.changed (with_dest_first (meant_dest typed s)) (λ v w found ran.
    let meant : meant_dest typed s ≡ Some c.in-Some.dest = sym c.meant_dest.ensures ∙ c.in-Some.is in
    let there : lists_dest (Some c.in-Some.dest) v ≡ true =
    ap (λ o. lists_dest o v) (sym meant) ∙ ap (passes (lists_dest (meant_dest typed s))) (sym found) ∙ from_not _ listed in
    rw meant (search rules)))
