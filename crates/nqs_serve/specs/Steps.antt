-- What an event and the starts after it do.
use Rattle.std.specs.Prelude.{ℕ, List, ◌∷◌, ◌++◌, map}
use Rattle.std.specs.List.{flat_map}
use Rattle.nqs_state.specs.State.{Plain}
use Rattle.nqs_types.specs.declared.event.Event.{Event}
use Rattle.nqs_types.specs.declared.event.Output.{Output}
use Rattle.nqs_rules.specs.Step.{step}
use Rattle.nqs_rules.specs.Starts.{starts, after_starts, after_step}
use Rattle.nqs_rules.specs.Stepped.{Stepped, shown}
use Rattle.nqs_serve.specs.Events.{at_moment}

-- what goes out of a step
abbrev pub said : Stepped (List ℕ) → List Output
said x = map shown x.outputs

-- the state after the event, before the starts
abbrev pub stepped : ℕ → Event → Plain → Plain
stepped m e s = after_step (step (at_moment m e) s) s

-- the state after the event and the starts of its moment
abbrev pub after_event : ℕ → Event → Plain → Plain
after_event m e s = after_starts (starts m (stepped m e s)) (stepped m e s)

-- what goes out of them, in order
abbrev pub outputs : ℕ → Event → Plain → List Output
outputs m e s = said (step (at_moment m e) s) ++ flat_map said (starts m (stepped m e s))

-- what the calls do that take the event, in order: its step, and the starts after it
abbrev pub calls : ℕ → Event → Plain → List (Stepped (List ℕ))
calls m e s = step (at_moment m e) s ∷ starts m (stepped m e s)
