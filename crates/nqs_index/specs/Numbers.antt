-- How many of a list pass a test.
use Rattle.std.specs.Prelude.{◌≡◌, ℕ, ◌+◌, Bool, List, length, filter}
use Rattle.nqs_index.specs.Tallies.{one}

-- how many of a list pass a test
abbrev pub number : {A : Type 0} → (A → Bool) → List A → ℕ
number test xs = length (filter test xs)

-- with one more, by each test
abbrev pub IsMore : {A : Type 0} → A → List A → List A → Type 0
IsMore {A} x xs ys = (test : A → Bool) → number test ys ≡ number test xs + one (test x)
