-- A host's requests, and the index that they keep.
use Rattle.std.specs.Prelude.{ℕ, Bool, true, false, List, ⊤}
use Rattle.nqs_base_tables.specs.Table.{Roomy}
use Rattle.nqs_base.specs.declared.extent.Extent.{Extent}
use Rattle.nqs_types.specs.declared.request.Row.{Row}
use Rattle.nqs_index.specs.declared.index.Index.{Index}
use Rattle.nqs_state.specs.declared.indexed.Indexed.{Indexed}
use Rattle.nqs_state.specs.declared.indexed.Indexed.TheVariants.{There, Lacking, NotYet}

-- requests in order, how many more fit without taking memory, and whether they keep an index
pub record Kept : Type 0 where
  pub items : List (Row Extent)
  pub spare : ℕ
  pub is_indexed : Bool

-- the requests as a table
abbrev pub table_of : Kept → Roomy (Row Extent)
table_of k = record { items = k.items; spare = k.spare }

-- the requests of a table, that keep an index or none
abbrev pub kept : Bool → Roomy (Row Extent) → Kept
kept indexed t = record { items = t.items; spare = t.spare; is_indexed = indexed }

-- the index has the property, if it is there
abbrev pub IfThere : (Index → Type 0) → Indexed → Type 0
IfThere P (There index) = P index
IfThere P (Lacking memory) = ⊤
IfThere P NotYet = ⊤

-- whether an index is kept: it is there, or memory was refused for it
abbrev pub is_kept : Indexed → Bool
is_kept (There index) = true
is_kept (Lacking memory) = true
is_kept NotYet = false

-- whether the index is there
abbrev pub is_there : Indexed → Bool
is_there (There index) = true
is_there (Lacking memory) = false
is_there NotYet = false

-- whether memory was refused for it
abbrev pub is_lacking : Indexed → Bool
is_lacking (There index) = false
is_lacking (Lacking memory) = true
is_lacking NotYet = false
