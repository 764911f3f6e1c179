-- Calls of a host's disks, in one order.
use Rattle.std.specs.Prelude.{◌≡◌, ℕ, ◌≤◌, Bool, true, false, if◌then◌else◌, List, [], ◌∷◌, map, length, take}
use Rattle.nqs_types.specs.declared.world.Which.{Which}
use Rattle.nqs_types.specs.declared.world.Which.TheVariants.{Root, First, Second, Spool}
use Rattle.nqs_outside.specs.History.{Call, History, failed, extended, state, after, IsImage, StopsShortBy}

-- a call of one of the disks
abbrev pub HostCall : Type 0
HostCall = Which × Call

-- whether both are the same disk
abbrev pub same_disk : Which → Which → Bool
same_disk Root Root = true
same_disk First First = true
same_disk Second Second = true
same_disk Spool Spool = true
same_disk _ _ = false

-- calls, all of one disk
abbrev pub on : Which → List Call → List HostCall
on which calls = map (λ call. (which, call)) calls

-- those of one disk
abbrev pub part : Which → List HostCall → List Call
part which [] = []
part which (call ∷ calls) = if same_disk which call.0 then call.1 ∷ part which calls else part which calls

-- each disk's list of calls goes on by its part of the run
abbrev pub Runs : (old now : Which → History) → List HostCall → Type 0
Runs old now run = (which : Which) → now which ≡ extended (old which) (part which run)

-- A moment is a prefix of the run. Whatever images the disks may leave then, they have P.
abbrev pub EachPrefix : (Which → History) → List HostCall → ((Which → List ℕ) → Type 0) → Type 0
EachPrefix old run P =
    (j : ℕ) (images : Which → List ℕ) → j ≤ length run → ((which : Which) → IsImage (after (state (old which)) (part which (take j run))) (images which))
    → P images

-- in some run each moment's images have P
abbrev pub EachMoment : (old now : Which → History) → ((Which → List ℕ) → Type 0) → Type 0
EachMoment old now P = (run : List HostCall) × Runs old now run × EachPrefix old run P

-- the same call of the same disk, that failed
abbrev pub failed_on : HostCall → HostCall
failed_on call = (call.0, failed call.1)

-- A prefix of the planned calls was made, of which only the last may have failed, and not all were
-- made and answered Ok.
abbrev pub StopsShort : List HostCall → List HostCall → Type 0
StopsShort planned calls = StopsShortBy failed_on planned calls
