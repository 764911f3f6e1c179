-- The starts of a host that does not stop, one after the other until there is none.
use Rattle.std.specs.Prelude.{ℕ, zero, suc, List, [], ◌∷◌, Option, None, Some}
use Rattle.nqs_state.specs.State.{Plain}
use Rattle.nqs_rules.specs.Applied.{applied}
use Rattle.nqs_rules.specs.Measure.{starts_left}
use Rattle.nqs_rules.specs.Start.{start}
use Rattle.nqs_rules.specs.Stepped.{Stepped}
use Rattle.nqs_types.specs.declared.change.Change.{Change}

-- the state after a change, if there is one
abbrev pub after_change : Option (Change (List ℕ)) → Plain → Plain
after_change None s = s
after_change (Some c) s = applied c s

-- the state after what was done
abbrev pub after_step : Stepped (List ℕ) → Plain → Plain
after_step x s = after_change x.change s

-- at most so many starts
abbrev pub starts_at_most : ℕ → ℕ → Plain → List (Stepped (List ℕ))
starts_at_most zero now s = []
starts_at_most (suc n) now s = elim (start now s) [ None ↦ [] | Some x ↦ x ∷ starts_at_most n now (after_step x s) ]

-- starts until there is none
abbrev pub starts : ℕ → Plain → List (Stepped (List ℕ))
starts now s = starts_at_most (starts_left s) now s

-- the state after these starts
abbrev pub after_starts : List (Stepped (List ℕ)) → Plain → Plain
after_starts [] s = s
after_starts (x ∷ xs) s = after_starts xs (after_step x s)
