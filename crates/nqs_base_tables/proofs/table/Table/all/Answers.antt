use Rattle.std.proofs.Common.{◌≡◌, ◌+◌, ◌∙◌, ◌&&◌, Some, true, false, length, drop, slice_get, sym, ap, refl, arith}
use Rattle.std.specs.Map.{values_of}
use Rattle.std.specs.List.{list_all}
use Rattle.std.proofs.lemmas.List.{length-map}
use Rattle.nqs_base_tables.specs.Slots.{live, filled}
use Rattle.nqs_base_tables.proofs.TableLemmas.{list_all-drop}
use Rattle.nqs_base_tables.proofs.table.Table.all.Goals as goal

pub loop-place-init : goal.loop-place-init
loop-place-init g c = record {
  stands = c.next-slot.ensures.place;
  ready = c.next-slot.ensures.filled;
  rest = λ p says. refl;
}

pub value-requires : goal.value-requires
value-requires g c =
    let same : length (values_of (live c.self.inside.slots.entries)) ≡ length c.args.self.now.items = ap (λ r. length r.items) c.self.view_is in
    let live_len : length (values_of (live c.self.inside.slots.entries)) ≡ length (live c.self.inside.slots.entries) =
    length-map (live c.self.inside.slots.entries) (λ e. e.1) in
    c.loop-place.invariant.ready (omega arith)

pub loop-place-preserved : goal.loop-place-preserved
loop-place-preserved g c = record {
  stands = c.after-slot.ensures.place ∙ ap (λ n. n + 1) c.loop-place.invariant.stands;
  ready = λ h. c.after-slot.ensures.filled (let s : filled c.self.inside.slots.entries c.loop-place.slot
      ≡ c.loop-place._place = c.loop-place.invariant.stands in omega arith);
  rest = λ p says.
      let at : slice_get c.args.self.now.items c.loop-place._place ≡ Some c.value.result.now =
      ap (λ r. slice_get r.items c.loop-place._place) (sym c.self.view_is)
      ∙ ap (slice_get (values_of (live c.self.inside.slots.entries))) (sym c.loop-place.invariant.stands)
      ∙ c.value.ensures in
      let told : c.f.result ≡ p c.value.result.now = says c.value.result.now c.f.result
      (record { shown = c.value.result; shows = refl; says = record { met = c.f.ensures } }) in
      let holds : p c.value.result.now ≡ true = sym told ∙ c.if-not-f.false in
      sym (ap (λ b. b && list_all p (drop (c.loop-place._place + 1) c.args.self.now.items)) holds)
      ∙ sym (list_all-drop p c.args.self.now.items c.loop-place._place c.value.result.now at) ∙ c.loop-place.invariant.rest p says;
}

pub returns-then-not-f : goal.returns-then-not-f
returns-then-not-f g c p says =
    let at : slice_get c.args.self.now.items c.loop-place._place ≡ Some c.value.result.now =
    ap (λ r. slice_get r.items c.loop-place._place) (sym c.self.view_is)
    ∙ ap (slice_get (values_of (live c.self.inside.slots.entries))) (sym c.loop-place.invariant.stands)
    ∙ c.value.ensures in
    let told : c.f.result ≡ p c.value.result.now = says c.value.result.now c.f.result
    (record { shown = c.value.result; shows = refl; says = record { met = c.f.ensures } }) in
    let fails : p c.value.result.now ≡ false = sym told ∙ c.if-not-f.true in
    sym (ap (λ b. b && list_all p (drop (c.loop-place._place + 1) c.args.self.now.items)) fails)
    ∙ sym (list_all-drop p c.args.self.now.items c.loop-place._place c.value.result.now at) ∙ c.loop-place.invariant.rest p says
