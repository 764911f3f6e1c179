-- Extents don't change how long a record is.
use Rattle.std.proofs.Common.{◌≡◌, ℕ, List, [], ◌∷◌, ◌++◌, drop, flat_map, length, length-append, refl, sym, ap, ◌∙◌, arith}
use Rattle.nqs_base.specs.declared.extent.Extent.{Extent}
use Rattle.nqs_types.specs.declared.change.OutPart.{OutPart}
use Rattle.nqs_types.specs.declared.change.Change.{Change}
use Rattle.nqs_types.specs.declared.change.Change.TheVariants.{Site, Submitted, Deleted, Doomed, Started, Ended, Unlaunched, Boot, Edited, HandOpened}
use Rattle.nqs_types.specs.declared.change.Change.TheVariants.{HandCommitted, HandRefused, HandsSilent, HandDone, OldPromised, Promised, Accepted, Dropped}
use Rattle.nqs_types.specs.declared.change.Change.TheVariants.{MovedLocal}
use Rattle.nqs_types.specs.declared.change.Change.TheVariants.{RefusedLocal, HeldFar, StageGot, StageGone, FileGone}
use Rattle.nqs_records.specs.Spelling.{extent_field, part_field}
use Rattle.nqs_records.specs.Changes.{spelling}
use Rattle.nqs_records.specs.Extents.{first_or, parts_with, with_extents}
use Rattle.nqs_records.proofs.PutBack.{length-extent, length-part, submitted_front, submitted_ends, old_promised_front, old_promised_ends, promised_front}
use Rattle.nqs_records.proofs.PutBack.{promised_ends, got_front, got_ends}
use Rattle.nqs_records.proofs.PutBack.{ended_front, ended_ends, length-parts_with}

ends_so : (front a b : List ℕ) (x y : Extent) → a ≡ front ++ extent_field x ++ [] → b ≡ front ++ extent_field y ++ [] → length a ≡ length b
ends_so front a b x y at at' =
    omega (
      arith,
      ap length at,
      ap length at',
      length-append (front ++ extent_field x) [],
      length-append (front ++ extent_field y) [],
      length-append front
          (extent_field x),
      length-append front (extent_field y),
      length-extent x,
      length-extent y,
    )

one_part : (path : List ℕ) (x y : Extent) → length (part_field (record { path = path; bytes = x })) ≡ length (part_field (record { path = path; bytes = y }))
one_part path x y = length-part (record { path = path; bytes = x }) ∙ sym (length-part (record { path = path; bytes = y }))

parts_so : (parts : List (OutPart Extent)) (xs : List Extent) → length (flat_map part_field (parts_with parts xs)) ≡ length (flat_map part_field parts)
parts_so [] xs = refl
parts_so (part ∷ parts) xs =
    omega (
      arith,
      length-append (part_field (record { path = part.path; bytes = first_or part.bytes xs }))
          (flat_map part_field (parts_with parts (drop 1 xs))),
      length-append (part_field part) (flat_map part_field parts),
      one_part part.path
          (first_or part.bytes xs) part.bytes,
      parts_so parts (drop 1 xs),
    )

pub same_length : (change : Change Extent) (xs : List Extent) → length (spelling (with_extents change xs)) ≡ length (spelling change)
same_length (Site me site) xs = refl
same_length (Submitted queue job script) xs = ends_so (submitted_front queue job) _ _ (first_or script xs) script
    (submitted_ends queue job (first_or script xs)) (submitted_ends queue job script)
same_length (Deleted id) xs = refl
same_length (Doomed id) xs = refl
same_length (Started id device) xs = refl
same_length (Ended id parts) xs =
    omega (
      arith,
      ap length (ended_ends id (parts_with parts xs)),
      ap length (ended_ends id parts),
      ap (λ n. length (ended_front id n)) (length-parts_with parts xs),
      parts_so parts xs,
      length-append (ended_front id (length (parts_with parts xs))) (flat_map part_field (parts_with parts xs)),
      length-append (ended_front id (length parts)) (flat_map part_field parts),
    )
same_length (Unlaunched id) xs = refl
same_length Boot xs = refl
same_length (Edited e) xs = refl
same_length (HandOpened peer number id queue since) xs = refl
same_length (HandCommitted peer number) xs = refl
same_length (HandRefused peer number cause) xs = refl
same_length (HandsSilent until hands) xs = refl
same_length (HandDone peer number) xs = refl
same_length (OldPromised peer number queue c script) xs = ends_so (old_promised_front peer number queue c) _ _ (first_or script xs) script
    (old_promised_ends peer number queue c (first_or script xs)) (old_promised_ends peer number queue c script)
same_length (Promised peer number low queue c script) xs = ends_so (promised_front peer number low queue c) _ _ (first_or script xs) script
    (promised_ends peer number low queue c (first_or script xs)) (promised_ends peer number low queue c script)
same_length (Accepted peer number) xs = refl
same_length (Dropped peer number) xs = refl
same_length (MovedLocal id queue) xs = refl
same_length (RefusedLocal id queue cause) xs = refl
same_length (HeldFar id) xs = refl
same_length (StageGot peer number path bytes) xs = ends_so (got_front peer number path) _ _ (first_or bytes xs) bytes
    (got_ends peer number path (first_or bytes xs)) (got_ends peer number path bytes)
same_length (StageGone peer number) xs = refl
same_length (FileGone file) xs = refl
