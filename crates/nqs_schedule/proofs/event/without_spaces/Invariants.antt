use Rattle.std.proofs.Common.{◌≡◌, length}
use Rattle.nqs_schedule.specs.Events.{without_spaces}
use Rattle.nqs_schedule.proofs.event.without_spaces.Given as goal

abbrev pub invariant-loop-byte : goal.invariant-loop-byte
invariant-loop-byte l = record { so_far : without_spaces l.rest ≡ without_spaces l.bytes }

abbrev pub decreases-loop-byte : goal.decreases-loop-byte
decreases-loop-byte l = length l.rest
