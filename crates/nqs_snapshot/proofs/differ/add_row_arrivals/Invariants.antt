use Rattle.std.proofs.Common.{◌≡◌, ◌≤◌, ◌-◌, ◌++◌, length, drop, map}
use Rattle.nqs_snapshot.proofs.differ.add_row_arrivals.Given as goal

-- what was added and what is left are all
abbrev pub invariant-loop-place : goal.invariant-loop-place
invariant-loop-place l =
    (map (λ n. n.0) l.fn.numbers.items ++ map (λ r. r.arrival) l.rows.items
    ≡ map (λ n. n.0) l.numbers.items ++ map (λ r. r.arrival) (drop l.place l.rows.items))
    × (l.place ≤ length l.rows.items)

abbrev pub decreases-loop-place : goal.decreases-loop-place
decreases-loop-place l = length l.rows.items - l.place
