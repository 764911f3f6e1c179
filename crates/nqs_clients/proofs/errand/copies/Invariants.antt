use Rattle.std.proofs.Common.{◌≡◌, take, map, string_bytes}
use Rattle.nqs_clients.proofs.errand.copies.Given as goal

abbrev pub invariant-loop-word : goal.invariant-loop-word
invariant-loop-word l = l.copies ≡ map (λ s. string_bytes s) (take l.word-index l.words)
