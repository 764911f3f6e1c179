-- When two keys are one.
use Rattle.std.proofs.Common.{◌≡◌, true, false, ◌&&◌, ◌==◌, refl, ap, ◌∙◌, inl, inr}
use Rattle.std.proofs.lemmas.Bool.{eqb-true, eq-eqb, and_parts, both_ways, cases_Bool}
use Rattle.nqs_pieces.specs.declared.piece.MessageKey.{MessageKey}
use Rattle.nqs_pieces.specs.Gathering.{same_key}

-- keys that compare alike are one
pub same_key-true : (a b : MessageKey) → same_key a b ≡ true → a ≡ b
same_key-true a b e =
    let p = and_parts (a.from.0 == b.from.0 && a.kind == b.kind && a.port == b.port) (a.number == b.number) e in
    let q = and_parts (a.from.0 == b.from.0 && a.kind == b.kind) (a.port == b.port) p.0 in
    let r = and_parts (a.from.0 == b.from.0) (a.kind == b.kind) q.0 in
    let from = eqb-true a.from.0 b.from.0 r.0 in
    let kind = eqb-true a.kind b.kind r.1 in
    let port = eqb-true a.port b.port q.1 in
    let number = eqb-true a.number b.number p.1 in
    λ j. record { from = record { 0 = from j }; kind = kind j; port = port j; number = number j }

-- a key is itself
pub same_key-refl : (a : MessageKey) → same_key a a ≡ true
same_key-refl a =
    let from = eq-eqb a.from.0 a.from.0 refl in
    let kind = eq-eqb a.kind a.kind refl in
    let port = eq-eqb a.port a.port refl in
    let number = eq-eqb a.number a.number refl in
    λ j. from j && kind j && port j && number j

-- if one is another, so is the other
pub same_key-other : (a b : MessageKey) → same_key a b ≡ false → same_key b a ≡ false
same_key-other a b e =
    elim (cases_Bool (same_key b a)) [
      | inl so ↦ absurd (both_ways (same_key a b) e (ap (λ k. same_key a k) (same_key-true b a so) ∙ same_key-refl a))
      | inr isnt ↦ isnt
    ]

-- what differs from a key differs from one that is the same
pub same_key-along : (a b k : MessageKey) → same_key a b ≡ true → same_key a k ≡ same_key b k
same_key-along a b k e = ap (λ x. same_key x k) (same_key-true a b e)
