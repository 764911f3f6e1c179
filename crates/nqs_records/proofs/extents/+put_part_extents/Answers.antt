use Rattle.std.proofs.Common.{◌≡◌, ℕ, List, ◌∷◌, ◌++◌, ◌+◌, flat_map, drop, ◌∙◌, length, length-append, sym, ap, arith, append_assoc}
use Rattle.nqs_base.specs.declared.extent.Extent.{Extent}
use Rattle.nqs_types.specs.declared.change.OutPart.{OutPart}
use Rattle.nqs_codec.specs.Fields.{short_field}
use Rattle.nqs_records.specs.Spelling.{extent_field, part_field}
use Rattle.nqs_records.specs.Extents.{first_or, parts_with}
use Rattle.nqs_records.proofs.PutBack.{length-part, part_ends}
use Rattle.nqs_records.proofs.extents.+put_part_extents.Goals as goal

-- the parts' bytes are those of the first and of the others
sizes : (parts : List (OutPart Extent)) (part : OutPart Extent) (later : List (OutPart Extent)) → parts ≡ part ∷ later
    → length (flat_map part_field parts) ≡ 13 + length part.path + length (flat_map part_field later)
sizes parts part later is = ap (λ ps. length (flat_map part_field ps)) is ∙ length-append (part_field part) (flat_map part_field later)
    ∙ ap (λ n. n + length (flat_map part_field later)) (length-part part)

pub put_extent-requires : goal.put_extent-requires
put_extent-requires n c =
    let size = sizes c.args.parts.now c.in-Some.part.now c.in-Some.later.now c.in-Some.ensures.cases.0 in
    omega (arith, c.requires, size, c.put_part_extents-behind.ensures.behind, c.put_part_extents-behind.ensures.length)

pub overflow_add-result-in-Some-2 : goal.overflow_add-result-in-Some-2
overflow_add-result-in-Some-2 n c =
    let size = sizes c.args.parts.now c.in-Some.part.now c.in-Some.later.now c.in-Some.ensures.cases.0 in
    omega (arith, c.requires, size, c.put_part_extents-behind.ensures.behind, c.len.ensures, c.type_inv.text)

pub returns-in-Some-clause-behind : goal.returns-in-Some-clause-behind
returns-in-Some-clause-behind n c =
    let size = sizes c.args.parts.now c.in-Some.part.now c.in-Some.later.now c.in-Some.ensures.cases.0 in
    omega (arith, size, c.put_part_extents-behind.ensures.behind, c.len.ensures)

pub returns-in-Some-clause-put : goal.returns-in-Some-clause-put
returns-in-Some-clause-put n c = λ front xs is.
    let part = c.in-Some.part.now in
    let later = c.in-Some.later.now in
    let parts = c.in-Some.ensures.cases.0 in
    let old = first_or part.bytes xs in
    let others = flat_map part_field (parts_with later (drop 1 xs)) in
    let rest = flat_map part_field later in
    let path = short_field part.path in
    -- the later ones first
    let now : c.put_part_extents-behind.new.text ≡ (front ++ (path ++ extent_field old)) ++ rest =
    c.put_part_extents-behind.ensures.put (front ++ (path ++ extent_field old)) (drop 1 xs) (
    is ∙ ap (λ ps. front ++ flat_map part_field (parts_with ps xs)) parts ∙ ap (λ (l : List ℕ). front ++ l) (part_ends part.path old others)
    ∙ sym (append_assoc front (path ++ extent_field old) others)) in
    c.put_extent.ensures.put (front ++ path) rest old (now ∙ ap (λ (l : List ℕ). l ++ rest) (sym (append_assoc front path (extent_field old))))
    (sym c.put_part_extents-behind.ensures.behind)
    ∙ ap (λ (l : List ℕ). l ++ rest) (append_assoc front path (extent_field part.bytes))
    ∙ append_assoc front (path ++ extent_field part.bytes) rest
    ∙ ap (λ (l : List ℕ). front ++ l) (sym (part_ends part.path part.bytes rest))
    ∙ ap (λ ps. front ++ flat_map part_field ps) (sym parts)
