-- What the records of a journal tell.
use Rattle.std.specs.Prelude.{◌≡◌, ◌⊎◌, ℕ, zero, suc, ◌+◌, if◌then◌else◌, List, [], ◌∷◌, ◌++◌, length, Option, Some, None, Ok, Err, IsTrue, is_some}
use Rattle.nqs_state.specs.State.{State}
use Rattle.nqs_base.specs.declared.extent.Extent.{Extent}
use Rattle.nqs_types.specs.declared.change.Change.{Change}
use Rattle.nqs_types.specs.declared.change.Change.TheVariants.{Site}
use Rattle.nqs_rules.specs.Format.{formatted}
use Rattle.nqs_rules.specs.Fits.{fits}
use Rattle.nqs_rules.specs.Applied.{applied}
use Rattle.nqs_journal.specs.Text.{header, records}
use Rattle.nqs_journal.specs.Either.{front_of}
use Rattle.nqs_records.specs.Reading.{Read}
use Rattle.nqs_records.specs.Kinds.{record_of}
use Rattle.nqs_snapshot.specs.Reading.{snapshot_of, old_snapshot_of}

-- a host with the extents of its scripts and outputs
abbrev pub Host : Type 0
Host = State Extent

-- What a change makes of the host so far. The first one formats it, and each other one has to fit.
abbrev pub taken : Change Extent → Option Host → Option Host
taken (Site me site) None = Some (formatted me site)
taken change None = None
taken change (Some host) = if fits change host then Some (applied change host) else None

-- the same of what was read as a change
abbrev pub read_taken : Read (Change Extent) → Option Host → Option Host
read_taken (Ok change) so_far = taken change so_far
read_taken (Err fault) so_far = None

-- what a record makes of the host so far
abbrev pub record_taken : List ℕ → Option Host → Option Host
record_taken payload so_far = read_taken (record_of payload) so_far

-- what the records make of the host so far, one after the other
abbrev pub told_from : Option Host → List (List ℕ) → Option Host
told_from so_far [] = so_far
told_from so_far (payload ∷ payloads) = elim (record_taken payload so_far) [ None ↦ None | Some host ↦ told_from (Some host) payloads ]

-- the host that the records tell, if they tell one
abbrev pub told : List (List ℕ) → Option Host
told payloads = told_from None payloads

-- what the records make of the host that a snapshot was read as
abbrev pub told_behind : Read Host → List (List ℕ) → Option Host
told_behind (Ok host) payloads = told_from (Some host) payloads
told_behind (Err fault) payloads = None

-- what a snapshot is read as, by the version of its header: that of version 1 has a spelling of its
-- own
abbrev pub host_by : ℕ → List ℕ → Read Host
host_by (suc zero) snapshot = old_snapshot_of snapshot
host_by version snapshot = snapshot_of snapshot

-- the host that a journal of any form tells, by the version of its snapshot, 0 where it has none,
-- if it tells one
abbrev pub told_by : ℕ → List ℕ → List (List ℕ) → Option Host
told_by zero snapshot payloads = told payloads
told_by (suc more) snapshot payloads = told_behind (host_by (suc more) snapshot) payloads

-- The first record that is no change or doesn't fit what those before it tell. Its gate stands at
-- the place.
pub record IsBadRecord (payloads : List (List ℕ)) (place : ℕ) : Type 0 where
  pub before : List (List ℕ)
  pub payload : List ℕ
  pub later : List (List ℕ)
  pub is : payloads ≡ before ++ payload ∷ later
  pub so_far : (before ≡ []) ⊎ IsTrue (is_some (told before))
  pub bad : record_taken payload (told before) ≡ None
  pub at : place ≡ length (header ++ records before)

-- why payloads tell no host: there is none, or one is bad
abbrev pub IsUntold : List (List ℕ) → ℕ → Type 0
IsUntold payloads place = ((payloads ≡ []) × (place ≡ 16)) ⊎ IsBadRecord payloads place

-- The first record that is no change or doesn't fit what a host and those before it tell. Of the
-- first of them the gate stands at the place, and of this one at the other.
pub record IsBadFrom (host : Host) (place : ℕ) (payloads : List (List ℕ)) (at : ℕ) : Type 0 where
  pub before : List (List ℕ)
  pub payload : List ℕ
  pub later : List (List ℕ)
  pub is : payloads ≡ before ++ payload ∷ later
  pub so_far : IsTrue (is_some (told_from (Some host) before))
  pub bad : record_taken payload (told_from (Some host) before) ≡ None
  pub stands : at ≡ place + length (records before)

-- why a snapshot and the payloads behind it, from this place on, tell no host: it is no spelling of
-- one, or a record is bad
abbrev pub IsUntoldBehind : Read Host → ℕ → List (List ℕ) → ℕ → Type 0
IsUntoldBehind (Ok host) front payloads place = IsBadFrom host front payloads place
IsUntoldBehind (Err fault) front payloads place = place ≡ 24

-- why a journal of any form tells no host
abbrev pub IsUntoldBy : ℕ → List ℕ → List (List ℕ) → ℕ → Type 0
IsUntoldBy zero snapshot payloads place = IsUntold payloads place
IsUntoldBy (suc more) snapshot payloads place =
    IsUntoldBehind (host_by (suc more) snapshot) (length (front_of (suc more) snapshot)) payloads place
