-- Why a journal tells no host.
use Rattle.std.specs.Prelude.{◌≡◌, ℕ, List}
use Rattle.nqs_store.specs.Told.{Host, IsBadFrom, IsUntoldBy}
use Rattle.nqs_store.specs.declared.tell.TellFault.{TellFault}
use Rattle.nqs_store.specs.declared.tell.TellFault.TheVariants.{Untold, Memory}

-- a record isn't taken, whose gate stands at the place
abbrev pub IsRefused : ℕ → Type 0 → TellFault → Type 0
IsRefused place Bad (Untold at) = (at ≡ place) × Bad
IsRefused place Bad (Memory memory) = Unit {0}

-- records aren't all taken
abbrev pub IsTakenFault : Host → ℕ → List (List ℕ) → TellFault → Type 0
IsTakenFault host place payloads (Untold at) = IsBadFrom host place payloads at
IsTakenFault host place payloads (Memory memory) = Unit {0}

-- a snapshot, if there is one, and records tell no host
abbrev pub IsTellFault : ℕ → List ℕ → List (List ℕ) → TellFault → Type 0
IsTellFault version snapshot payloads (Untold place) = IsUntoldBy version snapshot payloads place
IsTellFault version snapshot payloads (Memory memory) = Unit {0}
