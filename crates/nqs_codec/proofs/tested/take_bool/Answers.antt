use Rattle.std.proofs.Common.{rules, arith, refl, sym, subst}
use Rattle.std.proofs.lemmas.Result.{err_from_is_err_and}
use Rattle.nqs_codec.specs.Fields.{bool_field, u8_field}
use Rattle.nqs_codec.specs.Takes.{IsOther}
use Rattle.nqs_codec.proofs.Shorts.{no_byte, byte_there}
use Rattle.nqs_codec.proofs.tested.take_bool.Goals as goal

pub returns-in_err-byte : goal.returns-in_err-byte
returns-in_err-byte c =
    let p = err_from_is_err_and c.from_residual.result c.from_residual.ensures.1 in
    rw (p.1, p.2) (c.in_err-byte.ensures.0, no_byte c.args.bytes.now c.args.place (λ i. omega (arith, c.type_inv.bytes i)) c.in_err-byte.ensures.1)

pub returns-in-0 : goal.returns-in-0
unfolding bool_field u8_field
returns-in-0 c = rw c.in-0.is at c.in_ok-byte.ensures.1

pub returns-in-1 : goal.returns-in-1
unfolding bool_field u8_field
returns-in-1 c = rw c.in-1.is at c.in_ok-byte.ensures.1

pub returns-in_default : goal.returns-in_default
returns-in_default c =
    let there = byte_there c.args.bytes.now c.args.place c.in_ok-byte.byte c.in_ok-byte.next c.in_ok-byte.ensures.1 in
    (refl, subst IsOther (sym there.0) (search (rules, arith)))
