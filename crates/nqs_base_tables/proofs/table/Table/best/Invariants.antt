use Rattle.std.proofs.Common.{◌≡◌, ◌≤◌, Bool, length, drop}
use Rattle.std.specs.Option.{option_map}
use Rattle.std.specs.Fn.{FnReturnsAt, FnReturnsAtPair}
use Rattle.nqs_base_tables.specs.Slots.{filled}
use Rattle.nqs_base_tables.specs.Table.{best_from}
use Rattle.nqs_base_tables.proofs.table.Table.best.Given as goal

abbrev pub invariant-loop-place : goal.invariant-loop-place
invariant-loop-place g l = record {
  within : l.place ≤ length l.self.items;
  stands : filled l.self-inside.slots.entries l.slot ≡ l.place;
  slots : l.slot ≤ length l.self-inside.slots.entries;
  best : (p : _) (b : _) → ((v : _) (r : Bool) → FnReturnsAt g.P.Fn l.passes v r → r ≡ p v)
      → ((u v : _) (r : Bool) → FnReturnsAtPair g.B.Fn l.beats u v r → r ≡ b u v)
      → option_map (λ x. (x.0, x.1.now)) l.best ≡ best_from p b l.place (drop l.place l.self.items);
}

abbrev pub decreases-loop-place : goal.decreases-loop-place
decreases-loop-place g l = l.place
