-- What holds in each world that a run reaches, and of each change that a host keeps in it.
use Rattle.std.specs.Prelude.{◌⊎◌, ℕ, List, [], ◌∷◌, ◌++◌}
use Rattle.nqs_state.specs.State.{Plain}
use Rattle.nqs_rules.specs.Applied.{applied}
use Rattle.nqs_rules.specs.Edits.{change_at}
use Rattle.nqs_rules.specs.World.{World, Act, new_world}
use Rattle.nqs_rules.specs.Run.{run_of, states_of}
use Rattle.nqs_types.specs.declared.ids.HostId.{HostId}
use Rattle.nqs_types.specs.declared.change.Change.{Change}
use Rattle.nqs_rules.specs.Notes.{Why, Note, Saw, Kept}
use Rattle.nqs_laws.specs.History.{history}
use Rattle.nqs_laws.specs.Sane.{AreSane, IsSite}

-- what holds in each world that a list of events on 1 to 16 hosts reaches
abbrev pub InEachWorld : (World → Type 0) → Type 0
InEachWorld holds = (site : List (List ℕ)) (acts : List Act) → IsSite site → AreSane acts → holds (run_of site acts).world

-- what holds of such a world and of each that the run reaches later
abbrev pub AsRunsGoOn : (World → World → Type 0) → Type 0
AsRunsGoOn holds = (site : List (List ℕ)) (acts more : List Act) → IsSite site → AreSane (acts ++ more)
    → holds (run_of site acts).world (run_of site (acts ++ more)).world

-- what holds of each history, and of the states that it begins with
abbrev pub InEachRun : (List Plain → List Note → Type 0) → Type 0
InEachRun holds = (site : List (List ℕ)) (acts : List Act) → IsSite site → AreSane acts → holds (states_of (new_world site)) (history acts (new_world site))

-- something said of a kept change: of the states of all hosts before it, the host that keeps it,
-- its cause, and itself
abbrev pub OfChange : Type 1
OfChange = List Plain → HostId → Why → Change (List ℕ) → Type 0

-- what holds of each change that is kept in a history, from these states on
abbrev pub EachKept : OfChange → List Plain → List Note → Type 0
EachKept holds states [] = Unit {0}
EachKept holds states (Saw x ∷ ns) = EachKept holds states ns
EachKept holds states (Kept h why c ∷ ns) = holds states h why c × EachKept holds (change_at h.0 (applied c) states) ns

-- what holds of some change that is kept there
abbrev pub SomeKept : OfChange → List Plain → List Note → Type 0
SomeKept holds states [] = ⊥
SomeKept holds states (Saw x ∷ ns) = SomeKept holds states ns
SomeKept holds states (Kept h why c ∷ ns) = (holds states h why c) ⊎ (SomeKept holds (change_at h.0 (applied c) states) ns)

-- what holds of each change that is kept in any run of 1 to 16 hosts
abbrev pub InEachHistory : OfChange → Type 0
InEachHistory holds = InEachRun (EachKept holds)
