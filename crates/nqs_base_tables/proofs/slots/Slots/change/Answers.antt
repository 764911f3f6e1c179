use Rattle.std.proofs.Common.{◌≡◌, ◌∙◌, Some, slice_get, sym, ap, subst}
use Rattle.std.specs.Map.{values_of}
use Rattle.indexmap.specs.IndexMap.{set_value_at}
use Rattle.nqs_base_tables.specs.Slots.{live, filled, IsFilled}
use Rattle.nqs_base_tables.proofs.SlotLemmas.{no_hole, live-at, live-set, length-set, IsCounted-set}
use Rattle.nqs_base_tables.proofs.slots.Slots.change.Goals as goal

pub unreachable-requires : goal.unreachable-requires
unreachable-requires g c =
    no_hole c.self.inside.map.entries c.args.slot (subst (λ r. IsFilled r.entries c.args.slot) (sym c.self.view_is) c.requires.filled)
    (c.index_mut.ensures.value ∙ ap Some (sym c.in-None.ensures.value))

at : (g : Rattle.nqs_base_tables.proofs.slots.Slots.change.Given.Over) (c : goal.After-self-in-Some-1 g)
    → slice_get (values_of c.self.inside.map.entries) c.args.slot ≡ Some (Some c.in-Some.held.now)
at g c = c.index_mut.ensures.value ∙ ap Some (sym c.in-Some.ensures.value)

pub invariant_of-self : goal.invariant_of-self
invariant_of-self g c = (
  c.self.invariant.0 ∙ sym (length-set c.self.inside.map.entries c.args.slot _ c.change.new.self (at g c)),
  IsCounted-set c.self.inside.blocks.items c.self.inside.map.entries c.args.slot _ c.change.new.self (at g c) c.self.invariant.1,
)

pub returns-clause-entries : goal.returns-clause-entries
returns-clause-entries g c = (
  c.in-Some.held.now,
  c.change.new.self,
  ap (λ r. slice_get (values_of (live r.entries)) (filled r.entries c.args.slot)) (sym c.self.view_is)
      ∙ live-at c.self.inside.map.entries c.args.slot _ (at g c),
  c.change.ensures,
  live-set c.self.inside.map.entries c.args.slot _ c.change.new.self (at g c)
      ∙ ap (λ r. set_value_at (live r.entries) (filled r.entries c.args.slot) c.change.new.self) c.self.view_is,
)
