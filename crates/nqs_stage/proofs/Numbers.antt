-- Outputs and the numbers that are left for them.
use Rattle.std.proofs.Common.{◌≡◌, ◌∙◌, ℕ, ◌+◌, ◌-◌, zero, suc, Bool, true, false, nat_lt, List, [], ◌∷◌, take, if◌then◌else◌, refl, sym, ap, arith}
use Rattle.nqs_base.proofs.Plain.{one_left, none_left}
use Rattle.nqs_rules.specs.Tests.{last_u64}
use Rattle.nqs_rules.specs.Stage.{Part, numbered}

abbrev nothing : List Part
nothing = []

take_none : (k : ℕ) → take k nothing ≡ nothing
take_none zero = refl
take_none (suc k) = refl

-- m stands for the last number
module _ (m : ℕ) where
  abbrev kept : ℕ → ℕ → List Part → List Part
  kept counter n [] = []
  kept counter n (p ∷ ps) = if nat_lt (counter + n) m then p ∷ kept counter (n + 1) ps else []

  kept-take : (counter n : ℕ) (ps : List Part) → kept counter n ps ≡ take (m - (counter + n)) ps
  kept-take counter n [] = sym (take_none (m - (counter + n)))
  kept-take counter n (p ∷ ps) = by (nat_lt (counter + n) m) refl (kept-take counter (n + 1) ps)
    where
      by : (b : Bool) → nat_lt (counter + n) m ≡ b → kept counter (n + 1) ps ≡ take (m - (counter + (n + 1))) ps
          → (if b then p ∷ kept counter (n + 1) ps else []) ≡ take (m - (counter + n)) (p ∷ ps)
      by true e rest =
          let next : (counter + n) + 1 ≡ counter + (n + 1) = omega arith in
          ap (λ l. p ∷ l) rest ∙ ap (λ k. take (suc (m - k)) (p ∷ ps)) (sym next) ∙ ap (λ k. take k (p ∷ ps)) (sym (one_left m (counter + n) e))
      by false e rest = ap (λ k. take k (p ∷ ps)) (sym (none_left m (counter + n) e))

-- as many outputs are kept as numbers are left
pub numbered-take : (counter : ℕ) (ps : List Part) → numbered counter 0 ps ≡ take (last_u64 - counter) ps
numbered-take counter ps =
    let e : counter + 0 ≡ counter = omega arith in
    kept-take last_u64 counter 0 ps ∙ ap (λ k. take (last_u64 - k) ps) e
