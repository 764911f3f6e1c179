use Rattle.std.proofs.Common.{rules, ap, sym, ◌≡◌, ◌∙◌}
use Rattle.std.proofs.lemmas.Option.{same_Some}
use Rattle.nqs_state.specs.State.{content}
use Rattle.nqs_base_tables.proofs.TableLemmas.{change_first-none}
use Rattle.nqs_rules.specs.Devices.{with_device}
use Rattle.nqs_devices.proofs.apply.add_device.Goals as goal

pub returns-in-None : goal.returns-in-None
returns-in-None c = ap (λ qs. record (content c.args.state.now) { queues = qs })
    (sym (change_first-none _ _ c.args.state.now.queues.items (sym c.in-None.ensures)))

pub returns : goal.returns
returns c = ap (λ qs. record (content c.args.state.now) { queues = qs }) (c.change.ensures.changed (with_device c.args.device) (λ v w found ran.
    let same : c.in-Some.def.now ≡ v = same_Some _ _ (c.in-Some.ensures ∙ found) in search rules))
