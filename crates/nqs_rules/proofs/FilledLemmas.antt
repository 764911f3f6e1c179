-- What is stored for a change fills it.
use Rattle.std.proofs.Common.{◌≡◌, ℕ, List, [], ◌∷◌, map, Option, None, Some, option_map, refl, sym, ap, ◌∙◌}
use Rattle.std.proofs.lemmas.Option.{same_Some, none-some}
use Rattle.nqs_base.specs.declared.extent.Extent.{Extent}
use Rattle.nqs_types.specs.declared.change.OutPart.{OutPart}
use Rattle.nqs_types.specs.declared.change.Change.{Change}
use Rattle.nqs_types.specs.declared.change.Change.TheVariants.{Ended, Boot}
use Rattle.nqs_rules.specs.Stepped.{Stepped, puts_of, plan_of, map_part, map_change, part_bytes, stored_parts, no_extent}
use Rattle.nqs_rules.specs.Filled.{filled_parts, filled}

parts-filled : (parts : List (OutPart (List ℕ))) → filled_parts (map (map_part (λ _. no_extent)) parts) (map part_bytes parts) ≡ parts
parts-filled [] = refl
parts-filled (part ∷ parts) = ap (λ ps. part ∷ ps) (parts-filled parts)

-- a planned change is filled by its own bytes
filled-stored : (c : Change (List ℕ)) → filled (map_change (λ _. no_extent) c) (stored_parts c) ≡ c
filled-stored (Ended id parts) = ap (Ended id) (parts-filled parts)
filled-stored Boot = refl
filled-stored c = refl

parts-alike : (g : Extent → Extent) (parts : List (OutPart Extent)) (puts : List (List ℕ))
    → filled_parts (map (map_part g) parts) puts ≡ filled_parts parts puts
parts-alike g [] puts = refl
parts-alike g (part ∷ parts) [] = refl
parts-alike g (part ∷ parts) (put ∷ puts) = ap (λ ps. record { path = part.path; bytes = put } ∷ ps) (parts-alike g parts puts)

-- the extents that were there don't matter
filled-alike : (g : Extent → Extent) (c : Change Extent) (puts : List (List ℕ)) → filled (map_change g c) puts ≡ filled c puts
filled-alike g (Ended id parts) puts = ap (Ended id) (parts-alike g parts puts)
filled-alike g Boot puts = refl
filled-alike g c puts = refl

parts-read : (f : Extent → List ℕ) (parts : List (OutPart Extent)) → map (map_part f) parts ≡ filled_parts parts (map f (map part_bytes parts))
parts-read f [] = refl
parts-read f (part ∷ parts) = ap (λ ps. map_part f part ∷ ps) (parts-read f parts)

-- to read the extents is to fill with what they hold
filled-read : (f : Extent → List ℕ) (c : Change Extent) → map_change f c ≡ filled c (map f (stored_parts c))
filled-read f (Ended id parts) = ap (Ended id) (parts-read f parts)
filled-read f Boot = refl
filled-read f c = refl

module _ (c : Change Extent) (planned : Change (List ℕ)) (shape : map_change (λ _. no_extent) c ≡ map_change (λ _. no_extent) planned) where
  pub filled-planned : filled c (stored_parts planned) ≡ planned
  filled-planned = sym (filled-alike (λ _. no_extent) c (stored_parts planned)) ∙ ap (λ d. filled d (stored_parts planned)) shape ∙ filled-stored planned

  pub read-planned : (f : Extent → List ℕ) → map f (stored_parts c) ≡ stored_parts planned → map_change f c ≡ planned
  read-planned f same = filled-read f c ∙ ap (filled c) same ∙ filled-planned

-- what is filled into a plan's change is the step's change
pub filled-plan : (done : Stepped Extent) (c : Change Extent) → Some (map_change (λ _. no_extent) c) ≡ (plan_of done).change
    → Some (filled c (plan_of done).puts) ≡ done.change
filled-plan done c shape = by done.change shape
  where
    by : (o : Option (Change (List ℕ))) → Some (map_change (λ _. no_extent) c) ≡ option_map (map_change (λ _. no_extent)) o → Some (filled c (puts_of o)) ≡ o
    by None shape = absurd (none-some (map_change (λ _. no_extent) c) (sym shape))
    by (Some planned) shape = ap Some (filled-planned c planned (same_Some (map_change (λ _. no_extent) c) (map_change (λ _. no_extent) planned) shape))
