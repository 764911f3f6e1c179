-- What a source and a sink tell of themselves, before and after.
use Rattle.std.specs.Prelude.{◌≡◌, ◌⊎◌, ℕ, ◌+◌, ◌≤◌, List, length}
use Rattle.std.specs.declared.option.Option.{Option}
use Rattle.std.specs.Io.KnownBytes.{Consumes, IsAtEnd}
use Rattle.nqs_outside.specs.Causes.{Rose}

-- what a source has left, and its count of faults
pub record Fed : Type 0 where
  pub left : Option (List ℕ)
  pub left_now : Option (List ℕ)
  pub faults : ℕ
  pub faults_now : ℕ

-- the same, by its two ways to tell it
abbrev pub fed : {S : Type 0} → (S → Option (List ℕ)) → (S → ℕ) → S → S → Fed
fed left faults old new = record { left = left old; left_now = left new; faults = faults old; faults_now = faults new }

-- no byte of the source was asked for
abbrev pub IsUnread : Fed → Type 0
IsUnread source = (source.left_now ≡ source.left) × (source.faults_now ≡ source.faults)

-- the source was read to its end, and this is what it gave, no more than the limit
abbrev pub ReadsWhole : ℕ → Fed → List ℕ → Type 0
ReadsWhole limit source bytes = Consumes source.left source.left_now bytes × IsAtEnd source.left_now × (length bytes ≤ limit)

-- one byte more than the limit was read
abbrev pub ReadsTooMuch : ℕ → Fed → Type 0
ReadsTooMuch limit source = (bytes : List ℕ) × Consumes source.left source.left_now bytes × (length bytes ≡ limit + 1)

-- what a sink has taken, and its counts
pub record Sunk : Type 0 where
  pub taken : Option (List ℕ)
  pub taken_now : Option (List ℕ)
  pub faults : ℕ
  pub faults_now : ℕ
  pub stalls : ℕ
  pub stalls_now : ℕ

-- the same, by its three ways to tell it
abbrev pub sunk : {K : Type 0} → (K → Option (List ℕ)) → (K → ℕ) → (K → ℕ) → K → K → Sunk
sunk taken faults stalls old new =
    record { taken = taken old; taken_now = taken new; faults = faults old; faults_now = faults new; stalls = stalls old; stalls_now = stalls new }

-- the sink failed, or took nothing of a piece that isn't empty
abbrev pub SinkFailed : Sunk → Type 0
SinkFailed sink = Rose sink.faults sink.faults_now ⊎ Rose sink.stalls sink.stalls_now
