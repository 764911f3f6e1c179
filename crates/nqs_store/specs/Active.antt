-- The active journal of a host: which of the two it is, and how a change goes on in it.
use Rattle.std.specs.Prelude.{◌≡◌, ℕ, ◌+◌, Bool, false, not, if◌then◌else◌, List, length}
use Rattle.nqs_types.specs.declared.world.Which.{Which}
use Rattle.nqs_types.specs.declared.world.Which.TheVariants.{Root}
use Rattle.nqs_journal.specs.Either.{is_old_form, StandsBy}
use Rattle.nqs_rules.specs.Journals.{is_second, journal_on, is_due}

-- whether the active journal is the one on `second`, how many records it has, and whether its text
-- is of the version before
pub record Active : Type 0 where
  pub second : Bool
  pub records : ℕ
  pub is_old : Bool

-- the disk of the active journal
abbrev pub journal_of : Active → Which
journal_of a = journal_on a.second

-- the disk of the other journal
abbrev pub other_of : Active → Which
other_of a = journal_on (not a.second)

-- the other journal is active, without a record, and isn't old
abbrev pub turned_to : Active → Active
turned_to a = record { second = not a.second; records = 0; is_old = false }

-- the journal that a change's record goes to: the other one where a checkpoint is due
abbrev pub ready : Active → Active
ready a = if is_due a.is_old a.records then turned_to a else a

-- the journal with one record more
abbrev pub recorded : Active → Active
recorded a = record { second = a.second; records = a.records + 1; is_old = a.is_old }

-- of the two journals, which tell one state while the root isn't synced, the one that a root names
abbrev pub named_in : List ℕ → Active → Active
named_in root a = if (if a.second then is_second root else not (is_second root)) then a else turned_to a

-- The root names the journal, whose bytes stand by one of the forms, which is old or isn't, for so
-- many records.
pub record IsActive (bytes : Which → List ℕ) (a : Active) : Type 0 where
  pub named : is_second (bytes Root) ≡ a.second
  pub form : ℕ
  pub snapshot : List ℕ
  pub payloads : List (List ℕ)
  pub stands : StandsBy (bytes (journal_of a)) form snapshot payloads
  pub many : length payloads ≡ a.records
  pub old : a.is_old ≡ is_old_form form

-- bytes name one journal, which has one number of records, and is old or isn't
abbrev pub OneIsActive : Type 0
OneIsActive = (bytes : Which → List ℕ) (a b : Active) → IsActive bytes a → IsActive bytes b → a ≡ b
