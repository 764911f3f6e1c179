use Rattle.std.proofs.Common.{◌≡◌, ◌≤◌, ◌-◌, ◌++◌, length, drop, map}
use Rattle.nqs_snapshot.proofs.differ.add_promise_arrivals.Given as goal

-- what was added and what is left are all
abbrev pub invariant-loop-place : goal.invariant-loop-place
invariant-loop-place l =
    (map (λ n. n.0) l.fn.numbers.items ++ map (λ p. p.row.arrival) l.promises.items
    ≡ map (λ n. n.0) l.numbers.items ++ map (λ p. p.row.arrival) (drop l.place l.promises.items))
    × (l.place ≤ length l.promises.items)

abbrev pub decreases-loop-place : goal.decreases-loop-place
decreases-loop-place l = length l.promises.items - l.place
