use Rattle.std.proofs.Common.{rules, ap, sym, ◌≡◌, ◌∙◌}
use Rattle.std.proofs.lemmas.Option.{same_Some}
use Rattle.nqs_state.specs.State.{content}
use Rattle.nqs_types.specs.declared.edit.LimitsEdit.TheVariants.{AddQueue}
use Rattle.nqs_base_tables.proofs.TableLemmas.{change_first-none}
use Rattle.nqs_rules.specs.Limits.{complex_edited}
use Rattle.nqs_limits.proofs.apply.add_queue.Goals as goal

pub returns-in-None : goal.returns-in-None
returns-in-None c = ap (λ cs. record (content c.args.state.now) { complexes = cs })
    (sym (change_first-none _ _ c.args.state.now.complexes.items (sym c.in-None.ensures)))

pub returns : goal.returns
returns c = ap (λ cs. record (content c.args.state.now) { complexes = cs })
    (c.change.ensures.changed (complex_edited (AddQueue c.args.queue c.args.complex.now)) (λ v w found ran.
    let same : c.in-Some.members.now ≡ v = same_Some _ _ (c.in-Some.ensures ∙ found) in search rules))
