use Rattle.std.proofs.Common.{◌≡◌, ℕ, ◌<◌, ◌≤◌, ◌-◌, true}
use Rattle.nqs_state.specs.State.{content}
use Rattle.nqs_snapshot.proofs.FewHands.{is_few_to}
use Rattle.nqs_snapshot.proofs.few.are_hands_few.Given as goal

-- few go to each host before this one
abbrev pub invariant-loop-peer : goal.invariant-loop-peer
invariant-loop-peer l = ((p : ℕ) → p < l.peer → is_few_to (content l.state) p ≡ true) × (l.peer ≤ 16)

abbrev pub decreases-loop-peer : goal.decreases-loop-peer
decreases-loop-peer l = 16 - l.peer
