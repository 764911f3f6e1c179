use Rattle.std.proofs.Common.{arith, refl, sym, subst, inl, inr}
use Rattle.std.proofs.lemmas.Result.{err_from_is_err_and}
use Rattle.nqs_codec.specs.Takes.{IsBadLength, IsCutShort}
use Rattle.nqs_codec.proofs.Shorts.{no_byte, byte_there, short_stands}
use Rattle.nqs_codec.proofs.tested.short_at.Goals as goal

pub returns-in_err-count-clause-fault : goal.returns-in_err-count-clause-fault
returns-in_err-count-clause-fault c =
    let p = err_from_is_err_and c.from_residual.result c.from_residual.ensures.1 in
    let none = no_byte c.args.bytes.now c.args.place (λ i. omega (arith, c.type_inv.bytes i)) c.in_err-count.ensures.1 in
    rw (p.1, p.2) (c.in_err-count.ensures.0, subst (IsCutShort c.args.most) (sym none) tt)

pub returns-then-count-eq0-clause-fault : goal.returns-then-count-eq0-clause-fault
returns-then-count-eq0-clause-fault c =
    let there = byte_there c.args.bytes.now c.args.place c.in_ok-count.count c.in_ok-count.start c.in_ok-count.ensures.1 in
    (refl, subst (IsBadLength c.args.most) (sym there.0) (inl c.if-count-eq0.true))

pub returns-then-count-most-clause-fault : goal.returns-then-count-most-clause-fault
returns-then-count-most-clause-fault c =
    let there = byte_there c.args.bytes.now c.args.place c.in_ok-count.count c.in_ok-count.start c.in_ok-count.ensures.1 in
    (refl, subst (IsBadLength c.args.most) (sym there.0) (inr c.if-count-most.true))

pub returns-in_err-value-clause-fault : goal.returns-in_err-value-clause-fault
returns-in_err-value-clause-fault c =
    let p = err_from_is_err_and c.from_residual-in_err-value.result c.from_residual-in_err-value.ensures.1 in
    let there = byte_there c.args.bytes.now c.args.place c.in_ok-count.count c.in_ok-count.start c.in_ok-count.ensures.1 in
    rw (p.1, p.2) (
      c.in_err-value.ensures.end,
      subst (IsCutShort c.args.most) (sym there.0)
          (omega (arith, c.if-count-eq0.false), c.if-count-most.false, c.in_err-value.ensures.short),
    )

pub returns-clause-found : goal.returns-clause-found
returns-clause-found c =
    short_stands c.args.most c.args.bytes.now c.args.place c.in_ok-count.count c.in_ok-count.start c.in_ok-value.value.now c.in_ok-count.ensures.1
    c.in_ok-value.ensures.part c.in_ok-value.ensures.whole (omega (arith, c.if-count-eq0.false)) c.if-count-most.false
