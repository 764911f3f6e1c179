-- What a call that appends a text leaves of a list where memory was wanting.
use Rattle.std.specs.Prelude.{◌≡◌, ℕ, List, ◌++◌}

-- what was there, and behind it a front of the text
pub record IsFrontPut (old text now : List ℕ) : Type 0 where
  pub front : List ℕ
  pub rest : List ℕ
  pub put : now ≡ old ++ front
  pub of_text : text ≡ front ++ rest
