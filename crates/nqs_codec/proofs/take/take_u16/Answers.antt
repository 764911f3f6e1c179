use Rattle.std.proofs.Common.{arith}
use Rattle.std.proofs.lemmas.Result.{err_from_is_err_and}
use Rattle.nqs_codec.proofs.Numbers.{none_u16, stands_u16}
use Rattle.nqs_codec.proofs.take.take_u16.Goals as goal

pub returns-in_err-part : goal.returns-in_err-part
returns-in_err-part c =
    let p = err_from_is_err_and c.from_residual.result c.from_residual.ensures.1 in
    rw (p.1, p.2) (c.in_err-part.ensures.end, none_u16 c.args.bytes.now c.args.place c.in_err-part.ensures.short)

pub returns : goal.returns
returns c = (
  c.from_be_bytes.type_inv,
  stands_u16 c.args.bytes.now c.args.place c.from_be_bytes.result c.in_ok-part.part.now
      (λ i. omega (arith, c.type_inv.bytes i)) c.in_ok-part.ensures.part c.in_ok-part.ensures.whole c.from_be_bytes.ensures,
)
