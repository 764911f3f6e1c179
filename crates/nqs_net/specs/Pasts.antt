-- What the disks of a host did since they were new, or since a stop tore them: one change after the
-- other was kept.
use Rattle.std.specs.Prelude.{◌≡◌, ℕ, ◌≤◌, List, [], ◌∷◌, map}
use Rattle.nqs_state.specs.State.{Plain}
use Rattle.nqs_types.specs.declared.change.Change.{Change}
use Rattle.nqs_types.specs.declared.world.Which.{Which}
use Rattle.nqs_types.specs.declared.world.Which.TheVariants.{Root, First, Second, Spool}
use Rattle.nqs_outside.specs.History.{History, moment}
use Rattle.nqs_rules.specs.Applied.{applied}
use Rattle.nqs_rules.specs.Stepped.{stored_parts}
use Rattle.nqs_store.specs.Active.{Active, journal_of, ready, recorded}
use Rattle.nqs_store.specs.Commits.{LeavesHost, Keeping, HasOneMore, before_record}
use Rattle.nqs_store.specs.Plan.{CommitsBy}

-- what a host's disks have done at a moment, its active journal, and its state then
pub record Point : Type 0 where
  pub histories : Which → History
  pub active : Active
  pub state : Plain

-- a point of these histories, this active journal and this state
abbrev pub point : (Which → History) → Active → Plain → Point
point now a s = record { histories = now; active = a; state = s }

-- whatever images the disks may leave then tell the state, and name the active journal, which has
-- as many records
abbrev pub IsTelling : Point → Type 0
IsTelling now = LeavesHost now.histories now.state now.active

-- no change was kept so far, and no call made but the two that format the journal
pub record IsFirst (now : Point) : Type 0 where
  pub root : moment (now.histories Root) ≡ 0
  pub first : moment (now.histories First) ≤ 2
  pub second : moment (now.histories Second) ≡ 0
  pub spool : moment (now.histories Spool) ≡ 0
  pub told : IsTelling now

-- A change was kept, by just the calls of its commit, which begin with those of a checkpoint where
-- one was due. The journal that is active then has one record more. Whatever images the disks may
-- leave at a moment of these calls tell the state before the change or the one after it, and after
-- the last of them the one after it.
pub record IsNext (was now : Point) : Type 0 where
  pub change : Change (List ℕ)
  pub made : now.state ≡ applied change was.state
  pub active : now.active ≡ recorded (ready was.active)
  pub calls : CommitsBy (λ planned run. run ≡ planned) was.active (stored_parts change) was.histories now.histories
  pub moments : Keeping was.active (stored_parts change) was.histories now.histories was.state now.state
  pub one_more : HasOneMore (before_record was.active moments.calls.snapshot was.histories) (now.histories (journal_of (ready was.active)))
  pub told : IsTelling now

-- changes led from point to point, the last point first
abbrev pub Leads : List Point → Point → Type 0
Leads [] now = IsFirst now
Leads (was ∷ points) now = IsNext was now × Leads points was

-- So the disks came from their first calls to what they did now, with this active journal, and the
-- host through just these states, the last of them first, to this one.
abbrev pub HasCome : (Which → History) → Active → List Plain → Plain → Type 0
HasCome now a states s = (points : List Point) × (map (λ (p : Point). p.state) points ≡ states) × Leads points (point now a s)
