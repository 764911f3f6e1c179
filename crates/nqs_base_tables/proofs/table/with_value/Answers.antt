use Rattle.std.proofs.Common.{◌≡◌, ◌∙◌, sym, refl}
use Rattle.nqs_base_tables.proofs.BestLemmas.{beaten, taken, passed_over}
use Rattle.nqs_base_tables.proofs.table.with_value.Goals as goal

pub returns-then-is_beaten : goal.returns-then-is_beaten
returns-then-is_beaten g c p b says beats = beaten p b (c.args.place, c.args.value.now) _ (sym (c.is_beaten.ensures b beats) ∙ c.if-is_beaten.true)

pub returns-then-passes : goal.returns-then-passes
returns-then-passes g c p b says beats =
    let told : c.passes.result ≡ p c.args.value.now = says _ _ (record { shown = c.args.value; shows = refl; says = record { met = c.passes.ensures } }) in
    taken p b (c.args.place, c.args.value.now) _ (sym (c.is_beaten.ensures b beats) ∙ c.if-is_beaten.false) (sym told ∙ c.if-passes.true)

pub returns : goal.returns
returns g c p b says beats =
    let told : c.passes.result ≡ p c.args.value.now = says _ _ (record { shown = c.args.value; shows = refl; says = record { met = c.passes.ensures } }) in
    passed_over p b (c.args.place, c.args.value.now) _ (sym told ∙ c.if-passes.false)
