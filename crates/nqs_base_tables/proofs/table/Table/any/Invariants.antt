use Rattle.std.proofs.Common.{◌≡◌, ◌<◌, Bool, length, drop}
use Rattle.std.specs.Fn.{FnReturnsAt}
use Rattle.std.specs.List.{list_any}
use Rattle.nqs_base_tables.specs.Slots.{live, filled, IsFilled}
use Rattle.nqs_base_tables.proofs.table.Table.any.Given as goal

abbrev pub invariant-loop-place : goal.invariant-loop-place
invariant-loop-place g l = record {
  stands : filled l.self-inside.slots.entries l.slot ≡ l._place;
  ready : l._place < length (live l.self-inside.slots.entries) → IsFilled l.self-inside.slots.entries l.slot;
  rest : (p : _) → ((v : _) (b : Bool) → FnReturnsAt g.F.Fn l.f v b → b ≡ p v)
      → list_any p (drop l._place l.self.items) ≡ list_any p l.self.items;
}
