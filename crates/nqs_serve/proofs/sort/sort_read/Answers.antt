use Rattle.std.proofs.Common.{length, IsTrue, sym, subst}
use Rattle.std.proofs.lemmas.Result.{IfOk-weaker}
use Rattle.nqs_rules.specs.Sane.{is_sane_event}
use Rattle.nqs_serve.specs.Events.{Here}
use Rattle.nqs_serve.specs.Sends.{is_right_event}
use Rattle.nqs_serve.specs.Sorted.{IfEvent}
use Rattle.nqs_serve.proofs.Sane.{sane_event, right_event}
use Rattle.nqs_serve.proofs.Sorting.{message_has}
use Rattle.nqs_serve.proofs.sort.sort_read.Goals as goal

pub returns-clause-sane : goal.returns-clause-sane
returns-clause-sane c =
    let here : Here = record { me = c.args.me; site = c.args.site.now } in
    let hosts = length c.args.site.now in
    let laws = c.lists_and_deletions_are_sane.ensures in
    let of_message = message_has (λ e. IsTrue (is_sane_event hosts e)) here c.args.message
    (λ is. sane_event c.submissions_are_sane.ensures c.edits_are_sane.ensures laws.lists laws.deletions here c.args.message c.requires is) in
    IfOk-weaker c.sort_message.result _ _ (λ s is. subst (λ x. IfEvent x (λ e. IsTrue (is_sane_event hosts e))) (sym is) of_message) c.sort_message.ensures

pub returns-clause-right : goal.returns-clause-right
returns-clause-right c =
    let here : Here = record { me = c.args.me; site = c.args.site.now } in
    let hosts = length c.args.site.now in
    let of_message = message_has (λ e. IsTrue (is_right_event hosts e)) here c.args.message
    (λ is. right_event here c.args.message c.requires is) in
    IfOk-weaker c.sort_message.result _ _ (λ s is. subst (λ x. IfEvent x (λ e. IsTrue (is_right_event hosts e))) (sym is) of_message) c.sort_message.ensures
