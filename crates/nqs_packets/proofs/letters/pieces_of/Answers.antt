use Rattle.std.proofs.Common.{◌≤◌, List, ℕ, length, sym, subst, arith}
use Rattle.nqs_packets.proofs.letters.pieces_of.Goals as goal

pub cut-requires-clause-long : goal.cut-requires-clause-long
cut-requires-clause-long c = omega (arith, c.requires.long)

pub cut-requires-clause-short : goal.cut-requires-clause-short
cut-requires-clause-short c = subst (λ (l : List ℕ). length l ≤ 1052672) (sym c.requires.spelled) c.requires.go.short
