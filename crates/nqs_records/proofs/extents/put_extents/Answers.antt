use Rattle.std.proofs.Common.{◌≡◌, ℕ, List, [], ◌++◌, ◌≤◌, flat_map, ◌∙◌, length, length-append, refl, sym, ap, arith}
use Rattle.nqs_types.specs.declared.change.Change.TheVariants.{Submitted, OldPromised, Promised, StageGot}
use Rattle.nqs_records.specs.Spelling.{extent_field, part_field}
use Rattle.nqs_records.specs.Changes.{spelling}
use Rattle.nqs_records.specs.Extents.{first_or, parts_with, with_extents}
use Rattle.nqs_records.proofs.PutBack.{length-extent, submitted_front, submitted_ends, old_promised_front, old_promised_ends, promised_front, promised_ends}
use Rattle.nqs_records.proofs.PutBack.{got_front, got_ends, ended_front}
use Rattle.nqs_records.proofs.PutBack.{ended_ends, length-parts_with}
use Rattle.nqs_records.proofs.extents.put_extents.Goals as goal

-- a list with an extent at its end has twelve bytes
twelve : (n : ℕ) (bytes front : List ℕ) (e : Rattle.nqs_base.specs.declared.extent.Extent.Extent) → n ≡ length bytes → bytes ≡ front ++ extent_field e ++ []
    → 12 ≤ n
twelve n bytes front e size is = omega (
  arith,
  size,
  ap length is,
  length-append (front ++ extent_field e) [],
  length-append front
      (extent_field e),
  length-extent e,
)

pub put_extent-requires : goal.put_extent-requires
put_extent-requires c = let p = c.in-Submitted in twelve _ (spelling (Submitted p.queue p.job p.script)) (submitted_front p.queue p.job) p.script
    (c.requires ∙ ap (λ x. length (spelling x)) p.is) (submitted_ends p.queue p.job p.script)

pub put_extent-requires-in-OldPromised : goal.put_extent-requires-in-OldPromised
put_extent-requires-in-OldPromised c =
    let p = c.in-OldPromised in twelve _ (spelling (OldPromised p.peer p.number p.queue p.carried p.script))
    (old_promised_front p.peer p.number p.queue p.carried) p.script (c.requires ∙ ap (λ x. length (spelling x)) p.is)
    (old_promised_ends p.peer p.number p.queue p.carried p.script)

pub put_extent-requires-in-Promised : goal.put_extent-requires-in-Promised
put_extent-requires-in-Promised c =
    let p = c.in-Promised in twelve _ (spelling (Promised p.peer p.number p.low p.queue p.carried p.script))
    (promised_front p.peer p.number p.low p.queue p.carried) p.script (c.requires ∙ ap (λ x. length (spelling x)) p.is)
    (promised_ends p.peer p.number p.low p.queue p.carried p.script)

pub put_extent-requires-in-StageGot : goal.put_extent-requires-in-StageGot
put_extent-requires-in-StageGot c =
    let p = c.in-StageGot in twelve _ (spelling (StageGot p.peer p.number p.path p.bytes)) (got_front p.peer p.number p.path) p.bytes
    (c.requires ∙ ap (λ x. length (spelling x)) p.is) (got_ends p.peer p.number p.path p.bytes)

pub put_part_extents-count-requires : goal.put_part_extents-count-requires
put_part_extents-count-requires c =
    let p = c.in-Ended in
    let parts = p.outputs in
    let size = c.requires ∙ ap (λ x. length (spelling x)) p.is ∙ ap length (ended_ends p.id parts) in
    omega (
      arith,
      size,
      length-append (ended_front p.id (length parts)) (flat_map part_field parts),
      ap
          (λ ps. length (flat_map part_field ps)) c.as_slice.ensures,
    )

pub returns-in-Submitted : goal.returns-in-Submitted
returns-in-Submitted c = λ others is.
    let p = c.in-Submitted in
    c.put_extent.ensures.put (submitted_front p.queue p.job) [] (first_or p.script others)
    (is ∙ ap (λ x. spelling (with_extents x others)) p.is ∙ submitted_ends p.queue p.job (first_or p.script others)) refl
    ∙ sym (submitted_ends p.queue p.job p.script) ∙ ap spelling (sym p.is)

pub returns-in-OldPromised : goal.returns-in-OldPromised
returns-in-OldPromised c = λ others is.
    let p = c.in-OldPromised in
    c.put_extent-in-OldPromised.ensures.put (old_promised_front p.peer p.number p.queue p.carried) [] (first_or p.script others)
    (is ∙ ap (λ x. spelling (with_extents x others)) p.is ∙ old_promised_ends p.peer p.number p.queue p.carried (first_or p.script others)) refl
    ∙ sym (old_promised_ends p.peer p.number p.queue p.carried p.script) ∙ ap spelling (sym p.is)

pub returns-in-Promised : goal.returns-in-Promised
returns-in-Promised c = λ others is.
    let p = c.in-Promised in
    c.put_extent-in-Promised.ensures.put (promised_front p.peer p.number p.low p.queue p.carried) [] (first_or p.script others)
    (is ∙ ap (λ x. spelling (with_extents x others)) p.is ∙ promised_ends p.peer p.number p.low p.queue p.carried (first_or p.script others)) refl
    ∙ sym (promised_ends p.peer p.number p.low p.queue p.carried p.script) ∙ ap spelling (sym p.is)

pub returns-in-StageGot : goal.returns-in-StageGot
returns-in-StageGot c = λ others is.
    let p = c.in-StageGot in
    c.put_extent-in-StageGot.ensures.put (got_front p.peer p.number p.path) [] (first_or p.bytes others)
    (is ∙ ap (λ x. spelling (with_extents x others)) p.is ∙ got_ends p.peer p.number p.path (first_or p.bytes others)) refl
    ∙ sym (got_ends p.peer p.number p.path p.bytes) ∙ ap spelling (sym p.is)

pub returns-in-Ended : goal.returns-in-Ended
returns-in-Ended c = λ others is.
    let p = c.in-Ended in
    let parts = p.outputs in
    let front = ended_front p.id (length parts) in
    c.put_part_extents-count.ensures.put front others (
    is ∙ ap (λ x. spelling (with_extents x others)) p.is ∙ ended_ends p.id (parts_with parts others)
    ∙ ap (λ n. ended_front p.id n ++ flat_map part_field (parts_with parts others)) (length-parts_with parts others)
    ∙ ap (λ ps. front ++ flat_map part_field (parts_with ps others)) (sym c.as_slice.ensures))
    ∙ ap (λ ps. front ++ flat_map part_field ps) c.as_slice.ensures
    ∙ sym (ended_ends p.id parts) ∙ ap spelling (sym p.is)
