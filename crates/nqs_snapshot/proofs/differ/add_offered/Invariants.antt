use Rattle.std.proofs.Common.{◌≡◌, ◌≤◌, ◌-◌, ◌++◌, length, drop, map, filter}
use Rattle.nqs_rules.specs.Fits.{is_offered_hand}
use Rattle.nqs_snapshot.proofs.differ.add_offered.Given as goal

-- what was added and what is left are all
abbrev pub invariant-loop-place : goal.invariant-loop-place
invariant-loop-place l =
    (map (λ r. r.0) l.fn.requests.items ++ map (λ h. h.id) (filter is_offered_hand l.hands.items)
    ≡ map (λ r. r.0) l.requests.items ++ map (λ h. h.id) (filter is_offered_hand (drop l.place l.hands.items)))
    × (l.place ≤ length l.hands.items)

abbrev pub decreases-loop-place : goal.decreases-loop-place
decreases-loop-place l = length l.hands.items - l.place
