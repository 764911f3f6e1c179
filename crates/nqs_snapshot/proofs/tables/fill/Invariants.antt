use Rattle.std.proofs.Common.{◌≡◌, true, map, ◌++◌, ◌≤◌, length}
use Rattle.std.specs.Vec.Iter.{into_iter_items}
use Rattle.nqs_rules.specs.InOrder.{are_distinct}
use Rattle.nqs_snapshot.proofs.tables.fill.Given as goal

-- what is in the table and what is left are the values; the table's keys are distinct, and it has
-- room for what is left
abbrev pub invariant-loop-value : goal.invariant-loop-value
invariant-loop-value g l =
    (goal.iterator-loop-value g).can_next l.value-iterator
    × (goal.iterator-loop-value g).is_finite l.value-iterator
    × (l.fn.values ≡ l.table.items ++ into_iter_items l.value-iterator)
    × (are_distinct g.K.PartialEq.eq (map g.V.Keyed.key_of l.table.items) ≡ true)
    × (length (into_iter_items l.value-iterator) ≤ l.table.spare)
