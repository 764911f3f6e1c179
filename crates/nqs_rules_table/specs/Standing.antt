-- States of hosts that stand for plain ones.
use Rattle.std.specs.Prelude.{◌≡◌, ℕ, List, [], ◌∷◌}
use Rattle.nqs_state.specs.State.{Plain, content}
use Rattle.nqs_base.specs.declared.extent.Extent.{Extent}
use Rattle.nqs_state.specs.declared.state.HostState.{HostState}
use Rattle.nqs_rules.specs.Plain.{map_state}

-- with some bytes for its extents it is this plain state
abbrev pub StandsFor : HostState → Plain → Type 0
StandsFor state plain = (bytes : Extent → List ℕ) × (map_state bytes (content state) ≡ plain)

-- each stands for the plain state of its place
abbrev pub StandForEach : List HostState → List Plain → Type 0
StandForEach [] [] = Unit {0}
StandForEach (state ∷ states) (plain ∷ plains) = StandsFor state plain × StandForEach states plains
StandForEach states plains = ⊥
