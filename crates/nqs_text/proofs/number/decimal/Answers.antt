use Rattle.std.proofs.Common.{◌∙◌, arith}
use Rattle.nqs_text.specs.Number.{decimal}
use Rattle.nqs_text.proofs.Facts.{next_digit, all_read}
use Rattle.nqs_text.proofs.number.decimal.Goals as goal

pub returns-in_err-tens : goal.returns-in_err-tens
unfolding decimal
returns-in_err-tens c =
    let least = next_digit c.loop-byte.value c.loop-byte.byte-index c.args.bytes.now c.loop-byte-test.true in
    rw c.from_residual.ensures (omega (arith, least, c.loop-byte.invariant.so_far, c.in_err-tens.ensures))

pub returns-in_err-value : goal.returns-in_err-value
unfolding decimal
returns-in_err-value c =
    let least = next_digit c.loop-byte.value c.loop-byte.byte-index c.args.bytes.now c.loop-byte-test.true in
    rw c.from_residual-in_err-value.ensures (omega (
      arith,
      least,
      c.loop-byte.invariant.so_far,
      c.in_err-value.ensures,
      c.in_ok-tens.ensures,
      c.saturating_sub.ensures,
    ))

pub returns : goal.returns
unfolding decimal
returns c = all_read c.loop-byte.value c.loop-byte.byte-index c.args.bytes.now c.loop-byte-test.false ∙ c.loop-byte.invariant.so_far
