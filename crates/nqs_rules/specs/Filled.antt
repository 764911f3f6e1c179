-- A change with what is stored for it.
use Rattle.std.specs.Prelude.{ℕ, List, [], ◌∷◌, get_or}
use Rattle.nqs_base.specs.declared.extent.Extent.{Extent}
use Rattle.nqs_types.specs.declared.change.OutPart.{OutPart}
use Rattle.nqs_types.specs.declared.change.Change.{Change}
use Rattle.nqs_types.specs.declared.change.Change.TheVariants.{Submitted, Ended, OldPromised, Promised, StageGot}
use Rattle.nqs_rules.specs.Stepped.{map_change}

-- each part with its own bytes
abbrev pub filled_parts : List (OutPart Extent) → List (List ℕ) → List (OutPart (List ℕ))
filled_parts [] puts = []
filled_parts (part ∷ parts) [] = []
filled_parts (part ∷ parts) (put ∷ puts) = record { path = part.path; bytes = put } ∷ filled_parts parts puts

-- a change with the bytes that are stored for it, in the order of its extents
abbrev pub filled : Change Extent → List (List ℕ) → Change (List ℕ)
filled (Submitted queue job _) puts = Submitted queue job (get_or puts 0 [])
filled (Ended id parts) puts = Ended id (filled_parts parts puts)
filled (OldPromised peer number queue c _) puts = OldPromised peer number queue c (get_or puts 0 [])
filled (Promised peer number low queue c _) puts = Promised peer number low queue c (get_or puts 0 [])
filled (StageGot peer number path _) puts = StageGot peer number path (get_or puts 0 [])
filled c puts = map_change (λ _. []) c
