use Rattle.std.proofs.Common.{◌≡◌, ◌+◌, ◌<◌, ◌≤◌, Bool, filter, length, drop}
use Rattle.std.specs.Fn.{FnReturnsAt}
use Rattle.nqs_base_tables.specs.Slots.{live, filled, IsFilled}
use Rattle.nqs_base_tables.proofs.table.Table.count.Given as goal

abbrev pub invariant-loop-place : goal.invariant-loop-place
invariant-loop-place g l = record {
  stands : filled l.self-inside.slots.entries l.slot ≡ l._place;
  ready : l._place < length (live l.self-inside.slots.entries) → IsFilled l.self-inside.slots.entries l.slot;
  within : l.count ≤ l._place;
  rest : (p : _) → ((v : _) (b : Bool) → FnReturnsAt g.F.Fn l.f v b → b ≡ p v)
      → l.count + length (filter p (drop l._place l.self.items)) ≡ length (filter p l.self.items);
}
