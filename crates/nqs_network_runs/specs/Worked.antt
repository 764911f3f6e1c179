-- What some words ask for.
use Rattle.std.specs.Prelude.{◌≡◌, ℕ, Bool, true, false, [], ◌∷◌, codes, Option, None, Some}
use Rattle.nqs_network_runs.specs.declared.words.Ask.{Ask}
use Rattle.nqs_network_runs.specs.Words.{asked}

-- the schedule of the source is asked for
abbrev pub read : Bool → Option Ask
read summary = Some (record { summary = summary; generation = None })

-- the schedule of a seed is asked for
abbrev pub generate : Bool → ℕ → ℕ → ℕ → Option Ask
generate summary seed hosts events = Some (record { summary = summary; generation = Some (record { seed = seed; hosts = hosts; events = events }) })

-- Words in form. What stands behind a word `--` is no option, so it may be the last word.
pub record AreWorked : Type 0 where
  pub none : asked [] ≡ read false
  pub summary : asked (codes "--summary" ∷ []) ≡ read true
  pub apart : asked (codes "--generate" ∷ codes "7" ∷ codes "--hosts" ∷ codes "3" ∷ codes "--events" ∷ codes "10" ∷ []) ≡ generate false 7 3 10
  pub joined : asked (codes "--events=10" ∷ codes "--summary" ∷ codes "--hosts" ∷ codes "16" ∷ codes "--generate=0" ∷ []) ≡ generate true 0 16 10
  pub ended : asked (codes "--summary" ∷ codes "--" ∷ []) ≡ read true

-- and words in no form
pub record AreRefused : Type 0 where
  pub other : asked (codes "show" ∷ []) ≡ None
  pub unknown : asked (codes "--help" ∷ []) ≡ None
  pub twice : asked (codes "--summary" ∷ codes "--summary" ∷ []) ≡ None
  pub some : asked (codes "--generate" ∷ codes "7" ∷ codes "--hosts" ∷ codes "3" ∷ []) ≡ None
  pub many : asked (codes "--generate" ∷ codes "7" ∷ codes "--hosts" ∷ codes "17" ∷ codes "--events" ∷ codes "10" ∷ []) ≡ None
  pub signed : asked (codes "--generate" ∷ codes "+7" ∷ codes "--hosts" ∷ codes "1" ∷ codes "--events" ∷ codes "10" ∷ []) ≡ None
