use Rattle.std.proofs.Common.{◌≡◌, ◌+◌, ◌∙◌, Some, length, slice_get, sym, ap, refl, cond, arith}
use Rattle.std.specs.Map.{values_of}
use Rattle.std.proofs.lemmas.List.{length-map}
use Rattle.nqs_base_tables.specs.Slots.{live, filled}
use Rattle.nqs_base_tables.proofs.TableLemmas.{length-filter-drop, counted_one, counted_none}
use Rattle.nqs_base_tables.proofs.table.Table.count.Goals as goal
use Rattle.nqs_base_tables.proofs.table.Table.count.Goals.{then-f, else-f}

pub loop-place-init : goal.loop-place-init
loop-place-init g c = record {
  stands = c.next-slot.ensures.place;
  ready = c.next-slot.ensures.filled;
  within = omega arith;
  rest = λ p says. omega arith;
}

pub value-requires : goal.value-requires
value-requires g c =
    let same : length (values_of (live c.self.inside.slots.entries)) ≡ length c.args.self.now.items = ap (λ r. length r.items) c.self.view_is in
    let live_len : length (values_of (live c.self.inside.slots.entries)) ≡ length (live c.self.inside.slots.entries) =
    length-map (live c.self.inside.slots.entries) (λ e. e.1) in
    c.loop-place.invariant.ready (omega arith)

pub loop-place-preserved : goal.loop-place-preserved
loop-place-preserved g c = record {
  stands = c.after-slot.ensures.place ∙ ap (λ n. n + 1) c.loop-place.invariant.stands;
  ready = λ h. c.after-slot.ensures.filled (let s : filled c.self.inside.slots.entries c.loop-place.slot
      ≡ c.loop-place._place = c.loop-place.invariant.stands in omega arith);
  within = elim c.if-f.branch [ then-f w ↦ omega arith | else-f w ↦ omega arith ];
  rest = λ p says.
      let at : slice_get c.args.self.now.items c.loop-place._place ≡ Some c.value.result.now =
      ap (λ r. slice_get r.items c.loop-place._place) (sym c.self.view_is)
      ∙ ap (slice_get (values_of (live c.self.inside.slots.entries))) (sym c.loop-place.invariant.stands)
      ∙ c.value.ensures in
      let step = length-filter-drop p c.args.self.now.items c.loop-place._place c.value.result.now at in
      let before = c.loop-place.invariant.rest p says in
      let told : c.f.result ≡ p c.value.result.now = says c.value.result.now c.f.result
      (record { shown = c.value.result; shows = refl; says = record { met = c.f.ensures } }) in
      elim c.if-f.branch [
        | then-f w ↦ counted_one _ _ _ _ _ step before (ap (λ b. cond b 1 0) (sym told ∙ w.if-f.true)) _ w.count-is
        | else-f w ↦ counted_none _ _ _ _ _ step before (ap (λ b. cond b 1 0) (sym told ∙ w.if-f.false)) _ w.count-is
      ];
}
