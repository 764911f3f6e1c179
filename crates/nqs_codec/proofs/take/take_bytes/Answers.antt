use Rattle.std.proofs.Common.{arith, drop}
use Rattle.std.proofs.lemmas.Result.{err_from_is_err_and}
use Rattle.std.proofs.lemmas.List.{length-take-le}
use Rattle.nqs_codec.proofs.Lengths.{bytes_stand, behind_length, none_without_length, none_behind_length}
use Rattle.nqs_codec.proofs.take.take_bytes.Goals as goal

pub returns-in_err-length : goal.returns-in_err-length
returns-in_err-length c =
    let p = err_from_is_err_and c.from_residual.result c.from_residual.ensures.1 in
    rw (p.1, p.2) (c.in_err-length.ensures.0, none_without_length c.args.bytes.now c.args.place c.in_err-length.ensures.1)

pub returns-in_err-part_at : goal.returns-in_err-part_at
returns-in_err-part_at c =
    let p = err_from_is_err_and c.from_residual-in_err-part_at.result c.from_residual-in_err-part_at.ensures.1 in
    let field = c.in_ok-length.ensures in
    rw (p.1, p.2) (
      c.in_err-part_at.ensures.end,
      none_behind_length c.args.bytes.now c.args.place c.in_ok-length.length c.in_ok-length.start field.0 field.1
          c.in_err-part_at.ensures.short,
    )

pub returns : goal.returns
returns c =
    let start = c.in_ok-length.start in
    let count = c.in_ok-length.length in
    let field = c.in_ok-length.ensures in
    let whole = c.in_ok-part_at.ensures.whole in
    let size = length-take-le count (drop start c.args.bytes.now) whole in
    rw c.from.ensures (
      omega (arith, size, field.0),
      bytes_stand c.args.bytes.now c.args.place count start field.1 whole,
      record { first = behind_length c.args.bytes.now c.args.place count start field.1; whole = size },
    )
