use Rattle.std.proofs.Common.{◌≡◌, ◌-◌, ◌∙◌, Some, length, slice_get, sym, ap, arith}
use Rattle.std.specs.Map.{values_of}
use Rattle.std.proofs.lemmas.List.{length-map, drop_all}
use Rattle.nqs_base_tables.specs.Slots.{live, filled}
use Rattle.nqs_base_tables.specs.Table.{best_from}
use Rattle.nqs_base_tables.proofs.SlotLemmas.{filled-all}
use Rattle.nqs_base_tables.proofs.BestLemmas.{scanned}
use Rattle.nqs_base_tables.proofs.table.Table.best.Goals as goal

pub loop-place-init : goal.loop-place-init
loop-place-init g c =
    let same : length (values_of (live c.self.inside.slots.entries)) ≡ length c.args.self.now.items = ap (λ r. length r.items) c.self.view_is in
    let live_len : length (values_of (live c.self.inside.slots.entries)) ≡ length (live c.self.inside.slots.entries) =
    length-map (live c.self.inside.slots.entries) (λ e. e.1) in
    let all : filled c.self.inside.slots.entries c.end-slot.result ≡ length (live c.self.inside.slots.entries) =
    filled-all c.self.inside.slots.entries c.end-slot.result (omega arith) in
    record {
      within = omega arith;
      stands = omega arith;
      slots = omega arith;
      best = λ p b says beats.
          sym (ap (λ l. best_from p b c.len-place.result l) (drop_all c.len-place.result c.args.self.now.items (omega arith)));
    }

pub previous-slot-requires-clause-some : goal.previous-slot-requires-clause-some
previous-slot-requires-clause-some g c = omega arith

pub previous-slot-requires-clause-within : goal.previous-slot-requires-clause-within
previous-slot-requires-clause-within g c = c.loop-place.invariant.slots

pub loop-place-preserved : goal.loop-place-preserved
loop-place-preserved g c = record {
  within = omega arith;
  stands = omega arith;
  slots = omega arith;
  best = λ p b says beats.
      let stood : filled c.self.inside.slots.entries c.previous-slot.result ≡ c.loop-place.place - 1 = omega arith in
      let at : slice_get c.args.self.now.items (c.loop-place.place - 1) ≡ Some c.value.result.now =
      ap (λ r. slice_get r.items (c.loop-place.place - 1)) (sym c.self.view_is)
      ∙ ap (slice_get (values_of (live c.self.inside.slots.entries))) (sym stood) ∙ c.value.ensures in
      c.with_value-best.ensures p b says beats
      ∙ scanned p b c.args.self.now.items c.loop-place.place c.value.result.now c.loop-place-test.true at _
      (c.loop-place.invariant.best p b says beats);
}
