-- The one spelling of each change, and the changes that may stand in a record.
use Rattle.std.specs.Prelude.{◌≡◌, ◌↔◌, ℕ, true, ◌<◌, List, get_or, Ok}
use Rattle.nqs_base.specs.declared.extent.Extent.{Extent}
use Rattle.nqs_types.specs.declared.change.Change.{Change}
use Rattle.nqs_types.specs.declared.change.Change.TheVariants.{Boot}
use Rattle.nqs_records.specs.Tables.{IsEntry, entry_field}
use Rattle.nqs_records.specs.KindFields.{IsValue, value_field}
use Rattle.nqs_records.specs.KindTable.{kind_entry}
use Rattle.nqs_rules.specs.Sane.{is_sane_change}
use Rattle.nqs_records.specs.Kinds.{record_of}

-- the kind's number, and its fields: by cases, of which one is written out
unfoldable pub spelling : Change Extent → List ℕ
spelling Boot = entry_field value_field (kind_entry Boot)
spelling change = entry_field value_field (kind_entry change)

-- the values of a change are within their limits: by cases, of which one is written out
abbrev pub MayStand : Change Extent → Type 0
MayStand Boot = IsEntry IsValue (kind_entry Boot)
MayStand change = IsEntry IsValue (kind_entry change)

-- numbers below 256
abbrev pub AreBytes : List ℕ → Type 0
AreBytes bytes = (i : ℕ) → get_or bytes i 0 < 256

-- What is read is what was spelled: bytes are read as a change exactly where they are its spelling
-- and it may stand.
abbrev pub ReadsTheSpelling : Type 0
ReadsTheSpelling = (bytes : List ℕ) (change : Change Extent) → AreBytes bytes → record_of bytes ≡ Ok change ↔ (bytes ≡ spelling change) × MayStand change

-- no change has these bytes as its spelling
abbrev pub SpellsNone : List ℕ → Type 0
SpellsNone bytes = (change : Change Extent) → MayStand change → bytes ≡ spelling change → ⊥

-- the change of these bytes
abbrev pub IsSpelledBy : List ℕ → Change Extent → Type 0
IsSpelledBy bytes change = (bytes ≡ spelling change) × MayStand change

-- a change that may stand is sane for the rules
abbrev pub WhatMayStandIsSane : Type 0
WhatMayStandIsSane = (change : Change Extent) → MayStand change → is_sane_change change ≡ true
