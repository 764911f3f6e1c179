use Rattle.std.proofs.Common.{◌≡◌, false, take}
use Rattle.nqs_pieces.specs.Feeds.{is_awaited}
use Rattle.nqs_pieces.proofs.gather.Gather.place_of.Given as goal

abbrev pub invariant-loop-place : goal.invariant-loop-place
invariant-loop-place l = is_awaited l.key (take l.place l.self) ≡ false
