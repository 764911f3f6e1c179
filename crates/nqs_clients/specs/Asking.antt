-- What a client asks a host for.
use Rattle.std.specs.Prelude.{ℕ, List}
use Rattle.nqs_types.specs.declared.message.Tool.{Tool}

-- for whom, by which tool, and the tool's words as they are sent
pub record Asking : Type 0 where
  pub user : List ℕ
  pub tool : Tool
  pub words : List (List ℕ)

-- the same, made of its parts
abbrev pub asking : List ℕ → Tool → List (List ℕ) → Asking
asking user tool words = record { user = user; tool = tool; words = words }
