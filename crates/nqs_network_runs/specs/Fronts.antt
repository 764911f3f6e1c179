-- What is written: a front of a text.
use Rattle.std.specs.Prelude.{◌≡◌, ℕ, List, ◌++◌}
use Rattle.std.specs.Io.KnownBytes.{Appends}
use Rattle.nqs_outside.specs.Streams.{Sunk}

-- the text begins with the front
abbrev pub BeginsWith : List ℕ → List ℕ → Type 0
BeginsWith text front = (rest : List ℕ) × (text ≡ front ++ rest)

-- what the sink has taken has grown by a front of the text
abbrev pub WritesFront : Sunk → List ℕ → Type 0
WritesFront sink text = (front : List ℕ) × BeginsWith text front × Appends sink.taken sink.taken_now front
