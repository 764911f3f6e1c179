-- The shapes of lines from their second keyword on, each with the command that its values make.
use Rattle.std.specs.Prelude.{ℕ, List, Option}
use Rattle.nqs_types.specs.declared.ids.Named.{Named}
use Rattle.nqs_types.specs.declared.ids.NamedDest.{NamedDest}
use Rattle.nqs_types.specs.declared.event.Command.{Command}
use Rattle.nqs_words.specs.declared.keyword.Keyword.{Keyword}
use Rattle.nqs_qmgr.specs.declared.value.Amount.{Amount}
use Rattle.nqs_qmgr.specs.declared.options.Settings.{Settings}

-- what stands in a line from its second keyword on, with the command that its values make
pub data Shape : Type 0 where
  -- no such line
  nothing : Shape
  -- KEYWORD
  alone : Command → Shape
  -- KEYWORD Q
  one_name : (List ℕ → Command) → Shape
  -- KEYWORD=N, within two bounds
  number : ℕ → ℕ → (ℕ → Command) → Shape
  -- KEYWORD=P
  name_value : (List ℕ → Command) → Shape
  -- KEYWORD=N Q
  number_and_name : ℕ → ℕ → (ℕ → List ℕ → Command) → Shape
  -- KEYWORD=N Q, or `none` in place of the amount
  limit_and_name : Amount → (Option ℕ → List ℕ → Command) → Shape
  -- KEYWORD=P Q
  two_names : (List ℕ → List ℕ → Command) → Shape
  -- KEYWORD=Q@H P
  dest_and_name : (NamedDest → List ℕ → Command) → Shape
  -- KEYWORD SEQ.HOST
  one_request : (Named → Command) → Shape
  -- KEYWORD SEQ.HOST Q
  request_and_name : (Named → List ℕ → Command) → Shape
  -- KEYWORD SEQ.HOST priority=N
  request_and_priority : (Named → ℕ → Command) → Shape
  -- KEYWORD D forms=F
  name_and_forms : (List ℕ → List ℕ → Command) → Shape
  -- KEYWORD Q and options of these keywords
  made_queue : List Keyword → (List ℕ → Settings → Command) → Shape
