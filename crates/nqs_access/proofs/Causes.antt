-- First refusals of lists that are put together.
use Rattle.std.proofs.Common.{◌≡◌, Bool, true, false, List, [], ◌∷◌, ◌++◌, Ok, Err, if◌then◌else◌, refl}
use Rattle.nqs_rules.specs.Causes.{Cause, first_refusal}
use Rattle.nqs_types.specs.declared.refusal.Refusal.{Refusal}

-- behind causes that don't hold the others decide
pub passed : (cs ds : List Cause) → Ok tt ≡ first_refusal cs → first_refusal (cs ++ ds) ≡ first_refusal ds
passed [] ds h = refl
passed (c ∷ cs) ds h = by (passed cs ds) c.holds h
  where
    by : (Ok tt ≡ first_refusal cs → first_refusal (cs ++ ds) ≡ first_refusal ds) → (b : Bool) → Ok tt ≡ (if b then Err c.refusal else first_refusal cs)
        → (if b then Err c.refusal else first_refusal (cs ++ ds)) ≡ first_refusal ds
    by _ true h = absurd (let no : ⊥ = cc in no)
    by rest false h = rest h

-- a refusal by the causes in front is that of all
pub refused : (cs ds : List Cause) (r : Refusal) → Err r ≡ first_refusal cs → Err r ≡ first_refusal (cs ++ ds)
refused [] ds r h = absurd (let no : ⊥ = cc in no)
refused (c ∷ cs) ds r h = by (refused cs ds r) c.holds h
  where
    by : (Err r ≡ first_refusal cs → Err r ≡ first_refusal (cs ++ ds)) → (b : Bool) → Err r ≡ (if b then Err c.refusal else first_refusal cs)
        → Err r ≡ (if b then Err c.refusal else first_refusal (cs ++ ds))
    by _ true h = h
    by rest false h = rest h
