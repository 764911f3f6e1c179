use Rattle.std.proofs.Common.{◌≡◌, take, map}
use Rattle.nqs_schedule.specs.Events.{text_of_word}
use Rattle.nqs_schedule.proofs.event.texts.Given as goal

abbrev pub invariant-loop-i : goal.invariant-loop-i
invariant-loop-i l = record { so_far : l.texts ≡ map text_of_word (take l.i l.words) }
