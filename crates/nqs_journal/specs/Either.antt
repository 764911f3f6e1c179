-- What the bytes of a journal stand for by any of its forms: without a snapshot, or beginning with
-- one, by a header of the first version or the second.
use Rattle.std.specs.Prelude.{◌≡◌, ◌≢◌, ◌⊎◌, ℕ, zero, suc, ◌+◌, ◌<◌, ◌^◌, ◌==◌, Bool, true, ◌||◌, if◌then◌else◌, List, [], ◌∷◌, ◌++◌, length, take, codes}
use Rattle.std.specs.Int.{to_be_bytes, w64}
use Rattle.nqs_journal.specs.Text.{header, old_header, snapshot_front, old_snapshot_front, StandsAfter, LeavesRecordsAfter}

-- The forms by their numbers: 0 without a snapshot, 1 with one by the header of the first version,
-- 2 with one by that of the second, and 3 without one by the header of the first.
abbrev pub header_of : ℕ → List ℕ
header_of zero = header
header_of (suc zero) = codes "NQS-SNAPSHOT-v1" ++ 10 ∷ []
header_of (suc (suc zero)) = codes "NQS-SNAPSHOT-v2" ++ 10 ∷ []
header_of (suc (suc (suc more))) = old_header

-- a text of the form begins with a snapshot
abbrev pub has_snapshot : ℕ → Bool
has_snapshot form = form == 1 || form == 2

-- the version of the snapshot's header, 0 where there is no snapshot
abbrev pub version_of : ℕ → ℕ
version_of form = if form == 3 then 0 else form

-- a text of the form is old: its header is of the first version
abbrev pub is_old_form : ℕ → Bool
is_old_form form = form == 1 || form == 3

-- eight bytes of length, and that many bytes
unfoldable pub long_frame : List ℕ → List ℕ
long_frame snapshot = to_be_bytes w64 (length snapshot) ++ snapshot

-- what comes before the records: the header, or where there is a snapshot its front
abbrev pub front_of : ℕ → List ℕ → List ℕ
front_of zero snapshot = header
front_of (suc zero) snapshot = old_snapshot_front snapshot
front_of (suc (suc zero)) snapshot = snapshot_front snapshot
front_of (suc (suc (suc more))) snapshot = old_header

-- where there is no snapshot it has no bytes; one has a length that fits in eight bytes, and there
-- is no other form
abbrev pub IsSnapshot : ℕ → List ℕ → Type 0
IsSnapshot zero snapshot = snapshot ≡ []
IsSnapshot (suc zero) snapshot = length snapshot < 2 ^ 64
IsSnapshot (suc (suc zero)) snapshot = length snapshot < 2 ^ 64
IsSnapshot (suc (suc (suc zero))) snapshot = snapshot ≡ []
IsSnapshot (suc (suc (suc (suc more)))) snapshot = ⊥

-- the whole text of a journal that begins with a snapshot and has no record
abbrev pub IsSnapshotText : List ℕ → Type 0
IsSnapshotText text = (snapshot : List ℕ) × (length snapshot < 2 ^ 64) × (text ≡ snapshot_front snapshot ++ 0 ∷ [])

-- By that form the bytes stand for the snapshot, or none, and the payloads.
abbrev pub StandsBy : List ℕ → ℕ → List ℕ → List (List ℕ) → Type 0
StandsBy bytes form snapshot payloads = IsSnapshot form snapshot × StandsAfter (front_of form snapshot) bytes payloads

-- the first place at which the bytes go on as none of the headers
pub record LeavesHeaders (bytes : List ℕ) (place : ℕ) : Type 0 where
  pub within : place < 16
  pub same : (form : ℕ) × (take place bytes ≡ take place (header_of form))
  pub none : (form : ℕ) → take (place + 1) bytes ≢ take (place + 1) (header_of form)

-- no snapshot's length and bytes stand at the front
abbrev pub IsNoSnapshot : List ℕ → Type 0
IsNoSnapshot bytes = (snapshot rest : List ℕ) → length snapshot < 2 ^ 64 → bytes ≡ long_frame snapshot ++ rest → ⊥

-- Behind the header of a snapshot, at 16, its length or its bytes run past the end.
pub record LeavesSnapshot (bytes : List ℕ) (place : ℕ) : Type 0 where
  pub is_place : place ≡ 16
  pub form : ℕ
  pub among : has_snapshot form ≡ true
  pub rest : List ℕ
  pub text : bytes ≡ header_of form ++ rest
  pub bad : IsNoSnapshot rest

-- the place of the first fault before the records of a text
abbrev pub IsFrontFault : List ℕ → ℕ → Type 0
IsFrontFault bytes place = LeavesHeaders bytes place ⊎ LeavesSnapshot bytes place

-- the place of the first fault of a text that stands for nothing by any form
abbrev pub IsEitherFaultAt : List ℕ → ℕ → Type 0
IsEitherFaultAt bytes place = IsFrontFault bytes place
    ⊎ ((form : ℕ) × (snapshot : List ℕ) × IsSnapshot form snapshot × LeavesRecordsAfter (front_of form snapshot) bytes place)
