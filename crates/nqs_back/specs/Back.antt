-- What comes back of a host's outputs: of each launch, print and file one event tells how it went.
use Rattle.std.specs.Prelude.{ℕ, Bool, true, false, ◌&&◌, ◌==◌, List, [], ◌∷◌, filter, length}
use Rattle.nqs_types.specs.declared.event.Event.{Event}
use Rattle.nqs_types.specs.declared.event.Event.TheVariants as event
use Rattle.nqs_types.specs.declared.event.Output.{Output}
use Rattle.nqs_types.specs.declared.event.Output.TheVariants as out

-- an event comes back of this output
abbrev pub brings_back : Output → Bool
brings_back (out.Launch order script) = true
brings_back (out.Print device order script) = true
brings_back (out.File file path bytes) = true
brings_back _ = false

-- how many events come back of these outputs
abbrev pub comebacks : List Output → ℕ
comebacks outputs = length (filter brings_back outputs)

-- no byte is there
abbrev pub has_none : List ℕ → Bool
has_none [] = true
has_none (b ∷ bytes) = false

-- The event comes back of an output: a file was written or not, a job couldn't be launched, or it
-- ended and left nothing, and nobody waits for an answer.
abbrev pub comes_back : Event → Bool
comes_back (event.Ended now port id start status output error) = port == 0 && has_none output && has_none error
comes_back (event.Unlaunched now id start) = true
comes_back (event.Written now file) = true
comes_back (event.Unwritten now file) = true
comes_back _ = false
