-- The record of a change spells it with the extents where its bytes lie.
use Rattle.std.proofs.Common.{◌≡◌, ℕ, List, [], ◌∷◌, map, drop, length, refl, sym, ap, ◌∙◌, arith}
use Rattle.std.proofs.lemmas.List.{length-map, length-take, length-drop}
use Rattle.nqs_base.specs.declared.extent.Extent.{Extent}
use Rattle.nqs_types.specs.declared.change.OutPart.{OutPart}
use Rattle.nqs_types.specs.declared.change.Change.{Change}
use Rattle.nqs_types.specs.declared.change.Change.TheVariants.{Site, Submitted, Deleted, Doomed, Started, Ended, Unlaunched, Boot, Edited, HandOpened}
use Rattle.nqs_types.specs.declared.change.Change.TheVariants.{HandCommitted, HandRefused, HandsSilent, HandDone, OldPromised, Promised, Accepted, Dropped}
use Rattle.nqs_types.specs.declared.change.Change.TheVariants.{MovedLocal, RefusedLocal, HeldFar, StageGot, StageGone, FileGone}
use Rattle.nqs_spool.specs.Extents.{Holds}
use Rattle.nqs_rules.specs.Filled.{filled}
use Rattle.nqs_rules.specs.Stepped.{map_change, map_part, part_bytes, stored_parts, no_extent}
use Rattle.nqs_records.specs.Changes.{spelling}
use Rattle.nqs_records.specs.Extents.{first_or, parts_with, with_extents}
use Rattle.nqs_store.specs.Puts.{place_of, HoldEach}
use Rattle.nqs_store.specs.Spells.{extents_at, spelling_at}
use Rattle.nqs_store.proofs.Filled.{filled_shape_kept, filled_bytes}

-- where there are as many extents as it has, its own don't matter

one_over : (x : Extent) (xs : List Extent) → length xs ≡ length (x ∷ []) → first_or no_extent xs ≡ first_or x xs
one_over x [] many = absurd (omega (arith, many))
one_over x (y ∷ ys) many = refl

parts_over : (parts : List (OutPart Extent)) (xs : List Extent) → length xs ≡ length parts
    → parts_with (map (map_part (λ _. no_extent)) parts) xs ≡ parts_with parts xs
parts_over [] xs many = refl
parts_over (part ∷ parts) [] many = absurd (omega (arith, many))
parts_over (part ∷ parts) (x ∷ xs) many = (λ j. record { path = part.path; bytes = x } ∷ parts_over parts xs (omega (arith, many)) j)

with_over : (change : Change Extent) (xs : List Extent) → length xs ≡ length (stored_parts change)
    → with_extents (map_change (λ _. no_extent) change) xs ≡ with_extents change xs
with_over (Site me site) xs many = refl
with_over (Submitted queue job script) xs many = ap (Submitted queue job) (one_over script xs many)
with_over (Deleted id) xs many = refl
with_over (Doomed id) xs many = refl
with_over (Started id device) xs many = refl
with_over (Ended id parts) xs many = ap (Ended id) (parts_over parts xs (many ∙ length-map parts part_bytes))
with_over (Unlaunched id) xs many = refl
with_over Boot xs many = refl
with_over (Edited e) xs many = refl
with_over (HandOpened peer number id queue since) xs many = refl
with_over (HandCommitted peer number) xs many = refl
with_over (HandRefused peer number cause) xs many = refl
with_over (HandsSilent until hands) xs many = refl
with_over (HandDone peer number) xs many = refl
with_over (OldPromised peer number queue c script) xs many = ap (OldPromised peer number queue c) (one_over script xs many)
with_over (Promised peer number low queue c script) xs many = ap (Promised peer number low queue c) (one_over script xs many)
with_over (Accepted peer number) xs many = refl
with_over (Dropped peer number) xs many = refl
with_over (MovedLocal id queue) xs many = refl
with_over (RefusedLocal id queue cause) xs many = refl
with_over (HeldFar id) xs many = refl
with_over (StageGot peer number path bytes) xs many = ap (StageGot peer number path) (one_over bytes xs many)
with_over (StageGone peer number) xs many = refl
with_over (FileGone file) xs many = refl

-- extents that hold bytes are as long as these, and so those of their places

long : (spool : List ℕ) (x : Extent) (put : List ℕ) → Holds spool x put → x.length ≡ length put
long spool x put holds = omega (
  arith,
  length-take x.length (drop x.place spool),
  length-drop x.place spool,
  ap length holds.same,
  holds.within,
)

placed : (spool : List ℕ) (xs : List Extent) (puts : List (List ℕ)) → HoldEach spool xs puts → xs ≡ extents_at (map place_of xs) puts
placed spool [] [] holds = refl
placed spool [] (put ∷ puts) holds = absurd holds
placed spool (x ∷ xs) [] holds = absurd holds
placed spool (x ∷ xs) (put ∷ puts) holds =
    (λ j. record { place = x.place; length = long spool x put holds.0 j } ∷ placed spool xs puts holds.1 j)

as_many : (spool : List ℕ) (xs : List Extent) (puts : List (List ℕ)) → HoldEach spool xs puts → length xs ≡ length puts
as_many spool [] [] holds = refl
as_many spool [] (put ∷ puts) holds = absurd holds
as_many spool (x ∷ xs) [] holds = absurd holds
as_many spool (x ∷ xs) (put ∷ puts) holds = omega (arith, as_many spool xs puts holds.1)

-- the record with the extents of the bytes is that of their places
pub spelled_at : (change : Change Extent) (puts : List (List ℕ)) (spool : List ℕ) (xs : List Extent) → length puts ≡ length (stored_parts change)
    → HoldEach spool xs puts → spelling (with_extents change xs) ≡ spelling_at (map place_of xs) (filled change puts)
spelled_at change puts spool xs many holds =
    ap spelling (sym (with_over change xs (as_many spool xs puts holds ∙ many)))
    ∙ ap (λ (ys : List Extent). spelling (with_extents (map_change (λ _. no_extent) change) ys)) (placed spool xs puts holds)
    ∙ (λ j. spelling (with_extents (sym (filled_shape_kept change puts many) j) (extents_at (map place_of xs) (sym (filled_bytes change puts many) j))))
