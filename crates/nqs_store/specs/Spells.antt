-- What a commit writes of its change, byte by byte.
use Rattle.std.specs.Prelude.{◌≡◌, ℕ, List, [], ◌∷◌, length}
use Rattle.nqs_base.specs.declared.extent.Extent.{Extent}
use Rattle.nqs_types.specs.declared.change.Change.{Change}
use Rattle.nqs_types.specs.declared.world.Which.{Which}
use Rattle.nqs_outside.specs.History.{History}
use Rattle.nqs_spool.specs.Extents.{extent_at}
use Rattle.nqs_rules.specs.Stepped.{map_change, no_extent, stored_parts}
use Rattle.nqs_records.specs.Changes.{spelling}
use Rattle.nqs_records.specs.Extents.{with_extents}
use Rattle.nqs_store.specs.Active.{Active}
use Rattle.nqs_store.specs.Hosts.{HostCall, Runs}
use Rattle.nqs_store.specs.Plan.{commit_calls}

-- the extents of bytes that lie at these places
abbrev pub extents_at : List ℕ → List (List ℕ) → List Extent
extents_at [] puts = []
extents_at (place ∷ places) [] = []
extents_at (place ∷ places) (put ∷ puts) = extent_at place (length put) ∷ extents_at places puts

-- the record of a change whose bytes lie at these places
abbrev pub spelling_at : List ℕ → Change (List ℕ) → List ℕ
spelling_at places c = spelling (with_extents (map_change (λ _. no_extent) c) (extents_at places (stored_parts c)))

-- Just the calls were made that are planned for a change whose bytes lie at some places: what they
-- write to the journal is its record, which spells it with the extents of these places.
pub record SpellsBy (planned : List ℕ → List (List ℕ) → ℕ → List ℕ → List HostCall) (c : Change (List ℕ)) (old now : Which → History) : Type 0 where
  pub places : List ℕ
  pub gate : ℕ
  pub many : length places ≡ length (stored_parts c)
  pub made : Runs old now (planned places (stored_parts c) gate (spelling_at places c))

-- just the calls of a change's commit were made, and its record spells it
abbrev pub Spells : Active → Change (List ℕ) → (old now : Which → History) → Type 0
Spells a c old now = (snapshot : List ℕ) × SpellsBy (commit_calls a snapshot) c old now
