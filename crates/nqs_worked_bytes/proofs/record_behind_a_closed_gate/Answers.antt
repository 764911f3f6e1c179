use Rattle.std.proofs.Common.{[], ◌∷◌, false, inl, inr, refl, arith}
use Rattle.nqs_worked_bytes.proofs.record_behind_a_closed_gate.Goals as goal

pub returns-clause-stands : goal.returns-clause-stands
returns-clause-stands c = (
  false,
  record {
    gate = 7;
    rest = 0 ∷ 0 ∷ 0 ∷ 9 ∷ 1 ∷ 0 ∷ 1 ∷ 5 ∷ 97 ∷ 108 ∷ 112 ∷ 104 ∷ 97 ∷ 0 ∷ [];
    text = refl;
    closed =
        omega arith;
    short = tt;
  },
)

pub returns-clause-fault : goal.returns-clause-fault
returns-clause-fault c = inr (inr (
  0,
  [],
  [],
  (
    refl,
    record {
      gate = 7;
      rest = 0 ∷ 0 ∷ 0 ∷ 9 ∷ 1 ∷ 0 ∷ 1 ∷ 5 ∷ 97 ∷ 108 ∷ 112 ∷ 104 ∷ 97 ∷ 0 ∷ [];
      text = refl;
      closed = omega arith;
      short = tt;
    },
  ),
  inl (refl, inl (refl, refl)),
))
