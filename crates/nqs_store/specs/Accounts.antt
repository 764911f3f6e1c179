-- Lists of extents, with more or fewer.
use Rattle.std.specs.Prelude.{◌≡◌, ◌↔◌, List, [], ◌∷◌}
use Rattle.nqs_base.specs.declared.extent.Extent.{Extent}
use Rattle.nqs_spool.specs.Extents.{Has, IsWith, AreApart}

-- the extents are put in somewhere, one after the other
abbrev pub Adds : List Extent → List Extent → List Extent → Type 0
Adds live [] more = live ≡ more
Adds live (x ∷ xs) more = (mid : List Extent) × IsWith live x mid × Adds mid xs more

-- the extents are taken out, one after the other
abbrev pub Takes : List Extent → List Extent → List Extent → Type 0
Takes live [] fewer = live ≡ fewer
Takes live (x ∷ xs) fewer = (mid : List Extent) × IsWith mid x live × Takes mid xs fewer

-- the same extents in some other order
pub record IsRearranged (xs ys : List Extent) : Type 0 where
  pub same : (x : Extent) → Has ys x ↔ Has xs x
  pub apart : AreApart xs → AreApart ys
