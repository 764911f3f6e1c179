use Rattle.std.proofs.Common.{◌+◌, ap, drop, get_or, sym, subst, ◌∙◌}
use Rattle.std.proofs.lemmas.List.{at_drop_more, at_drop_all}
use Rattle.nqs_state.specs.State.{content}
use Rattle.nqs_types.specs.declared.ids.RequestId.{RequestId}
use Rattle.nqs_rules.specs.InOrder.{IsInOrder}
use Rattle.nqs_changes.specs.Running.{requests_booted}
use Rattle.nqs_changes.proofs.Booted.{request_order, boot_is}
use Rattle.nqs_changes.proofs.boot.boot_running.Goals as goal

pub loop-id-preserved : goal.loop-id-preserved
loop-id-preserved c =
    let s = content c.loop-id.state in
    let i = c.loop-id.id-index in
    let ids = c.args.running.now in
    let none : RequestId = record { seq = 0; host = record { 0 = 0 } } in
    let booted = c.boot_request.ensures in (
      subst IsInOrder (sym booted) (request_order (get_or ids i none) s c.loop-id.invariant.0),
      ap (requests_booted (drop (i + 1) ids)) booted ∙ sym (at_drop_more (λ l. requests_booted l s) ids i none c.loop-id-test.true) ∙ c.loop-id.invariant.1,
    )

pub returns : goal.returns
returns c =
    let s = content c.loop-id.state in
    let ids = c.args.running.now in
    sym (at_drop_all (λ l. requests_booted l s) ids c.loop-id.id-index c.loop-id-test.false) ∙ c.loop-id.invariant.1
    ∙ boot_is ids (content c.args.state.now) c.requires.order c.requires.only
