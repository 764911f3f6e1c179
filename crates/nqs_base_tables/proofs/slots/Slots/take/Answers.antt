use Rattle.std.proofs.Common.{◌≡◌, ◌+◌, ◌-◌, ◌∙◌, Some, None, length, slice_get, remove, sym, ap, subst, arith}
use Rattle.std.specs.Map.{values_of}
use Rattle.indexmap.specs.IndexMap.{set_value_at}
use Rattle.nqs_base_tables.specs.Slots.{live, filled, IsFilled, IsCounted}
use Rattle.nqs_base_tables.proofs.SlotLemmas.{value-filled, live-at, live-cleared, length-cleared, IsCounted-cleared, count-filled}
use Rattle.std.specs.Option.{IsSome}
use Rattle.nqs_base_tables.proofs.slots.Slots.take.Goals as goal

pub unwrap-held-requires : goal.unwrap-held-requires
unwrap-held-requires g c =
    subst IsSome (sym c.take.ensures.value)
    (value-filled c.self.inside.map.entries c.args.slot (subst (λ r. IsFilled r.entries c.args.slot) (sym c.self.view_is) c.requires) _
    c.index_mut.ensures.value)

pub overflow_sub-self : goal.overflow_sub-self
overflow_sub-self g c =
    let one : length (live (set_value_at c.self.inside.map.entries c.args.slot None)) + 1 ≡ length (live c.self.inside.map.entries) =
    length-cleared c.self.inside.map.entries c.args.slot _ (c.index_mut.ensures.value ∙ ap Some (sym c.take.ensures.value ∙ c.unwrap-held.ensures)) in
    let is : c.self.inside.len ≡ length (live c.self.inside.map.entries) = c.self.invariant.0 in
    omega arith

pub invariant_of-self : goal.invariant_of-self
invariant_of-self g c =
    let one : length (live (set_value_at c.self.inside.map.entries c.args.slot None)) + 1 ≡ length (live c.self.inside.map.entries) =
    length-cleared c.self.inside.map.entries c.args.slot _ (c.index_mut.ensures.value ∙ ap Some (sym c.take.ensures.value ∙ c.unwrap-held.ensures)) in
    let is : c.self.inside.len ≡ length (live c.self.inside.map.entries) = c.self.invariant.0 in
    let left : c.self.inside.len - 1 ≡ length (live (set_value_at c.self.inside.map.entries c.args.slot None)) = omega arith in (
      left ∙ ap (λ o. length (live (set_value_at c.self.inside.map.entries c.args.slot o))) (sym c.take.ensures.after),
      subst (λ o. IsCounted c.lower.new.blocks.items (set_value_at c.self.inside.map.entries c.args.slot o)) (sym c.take.ensures.after)
          (IsCounted-cleared c.lower.new.blocks.items c.self.inside.map.entries c.args.slot _ (c.index_mut.ensures.value
          ∙ ap Some (sym c.take.ensures.value ∙ c.unwrap-held.ensures))
          (subst (λ l. IsCounted l c.self.inside.map.entries) c.lower.ensures c.self.invariant.1)),
    )

pub lower-requires : goal.lower-requires
lower-requires g c n h =
    count-filled c.self.inside.blocks.items c.self.inside.map.entries c.args.slot n c.self.invariant.1
    (subst (λ r. IsFilled r.entries c.args.slot) (sym c.self.view_is) c.requires) h

pub returns-clause-out : goal.returns-clause-out
returns-clause-out g c =
    ap (λ r. slice_get (values_of (live r.entries)) (filled r.entries c.args.slot)) (sym c.self.view_is)
    ∙ live-at c.self.inside.map.entries c.args.slot _ (c.index_mut.ensures.value ∙ ap Some (sym c.take.ensures.value ∙ c.unwrap-held.ensures))
    ∙ ap Some (sym c.into_inner.ensures)

pub returns-clause-entries : goal.returns-clause-entries
returns-clause-entries g c =
    ap live c.cover.ensures.entries ∙ c.settle.ensures.entries ∙ ap (λ o. live (set_value_at c.self.inside.map.entries c.args.slot o)) c.take.ensures.after
    ∙ live-cleared c.self.inside.map.entries c.args.slot _ (c.index_mut.ensures.value ∙ ap Some (sym c.take.ensures.value ∙ c.unwrap-held.ensures))
    ∙ ap (λ r. remove (live r.entries) (filled r.entries c.args.slot)) c.self.view_is
