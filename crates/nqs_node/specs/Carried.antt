-- What a node does where a change is to be kept, or none.
use Rattle.std.specs.Prelude.{◌≡◌, ℕ, ◌<◌, Bool, IsTrue, List, Option, None, Some}
use Rattle.nqs_state.specs.State.{Plain}
use Rattle.nqs_types.specs.declared.change.Change.{Change}
use Rattle.nqs_types.specs.declared.world.Which.{Which}
use Rattle.nqs_outside.specs.History.{History, moment}
use Rattle.nqs_rules.specs.Applied.{applied}
use Rattle.nqs_rules.specs.Start.{start}
use Rattle.nqs_rules.specs.Stepped.{Stepped, quiet, stored_parts}
use Rattle.nqs_store.specs.Active.{Active, ready, recorded}
use Rattle.nqs_store.specs.Commits.{EachImage, IsKept, IsCutAt, Keeping}
use Rattle.nqs_store.specs.Hosts.{StopsShort}
use Rattle.nqs_store.specs.Images.{IsTold}
use Rattle.nqs_store.specs.Plan.{CommitsBy}
use Rattle.nqs_store.specs.Spells.{Spells}

-- what is to be kept: a change with its bytes, or none
abbrev pub Kept : Type 0
Kept = Option (Change (List ℕ))

-- the next start, or nothing where none may start
abbrev pub started : ℕ → Plain → Stepped (List ℕ)
started now s = elim (start now s) [ None ↦ quiet | Some x ↦ x ]

-- the active journal of a host that kept this
abbrev pub after_kept : Kept → Active → Active
after_kept None a = a
after_kept (Some c) a = recorded (ready a)

module _ (a : Active) (fails : Which → ℕ → Bool) (old now : Which → History) where
  -- Just the calls of its commit were made, and none of them was to fail. Where there is no change
  -- there is no call.
  abbrev pub IsMade : Kept → Type 0
  IsMade None = (which : Which) → now which ≡ old which
  IsMade (Some c) = IsKept a fails (stored_parts c) old now

  -- a failed call of this disk cut its commit off
  abbrev pub IsCutBy : Kept → Plain → Which → Type 0
  IsCutBy None before which = ⊥
  IsCutBy (Some c) before which = IsCutAt a fails (stored_parts c) old now before (applied c before) which

-- Just the calls of its commit were made, and its record spells it. Where there is no change there
-- is no call.
abbrev pub IsSpelled : Active → (old now : Which → History) → Kept → Type 0
IsSpelled a old now None = (which : Which) → now which ≡ old which
IsSpelled a old now (Some c) = Spells a c old now

-- a part of its calls was made, of which only the last may have failed
abbrev pub IsBrokenOff : Active → (old now : Which → History) → Kept → Type 0
IsBrokenOff a old now None = (which : Which) → now which ≡ old which
IsBrokenOff a old now (Some c) = CommitsBy StopsShort a (stored_parts c) old now

-- At each moment, whatever images the disks may leave, they tell the state before the change or the
-- one after it. Where there is no change there is no call.
abbrev pub IsOneOrOther : Active → (old now : Which → History) → Kept → Plain → Type 0
IsOneOrOther a old now None before = ((which : Which) → now which ≡ old which) × EachImage old (λ images. IsTold images before)
IsOneOrOther a old now (Some c) before = Keeping a (stored_parts c) old now before (applied c before)

-- a call that was to fail has been made
abbrev pub IsBlown : (ℕ → Bool) → History → Type 0
IsBlown fails h = (i : ℕ) × (i < moment h) × IsTrue (fails i)
