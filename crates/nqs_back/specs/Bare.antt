-- States, changes and outputs without their bytes.
use Rattle.std.specs.Prelude.{ℕ, List, []}
use Rattle.nqs_state.specs.State.{State, Plain}
use Rattle.nqs_types.specs.declared.change.Change.{Change}
use Rattle.nqs_types.specs.declared.event.Output.{Output}
use Rattle.nqs_rules.specs.Plain.{map_state}
use Rattle.nqs_rules.specs.Stepped.{map_change, with_bytes}

-- a state in which each stored part is empty
abbrev pub emptied : {E : Type 0} → State E → Plain
emptied s = map_state (λ _. []) s

-- a change in which each stored part is empty
abbrev pub blank : {E : Type 0} → Change E → Change (List ℕ)
blank c = map_change (λ _. []) c

-- an output in which the bytes that are kept for it are empty
abbrev pub without_bytes : Output → Output
without_bytes o = with_bytes [] o
