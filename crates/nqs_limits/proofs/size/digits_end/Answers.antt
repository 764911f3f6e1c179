use Rattle.std.proofs.Common.{◌≡◌, Some, arith}
use Rattle.nqs_text.specs.Number.{first_other}
use Rattle.nqs_limits.proofs.Digits.{nothing_ends_at_0, other_is_inside}
use Rattle.nqs_limits.proofs.size.digits_end.Goals as goal

pub returns-in-Err-Empty-clause-end : goal.returns-in-Err-Empty-clause-end
returns-in-Err-Empty-clause-end c = nothing_ends_at_0 c.args.bytes.now (rw c.in-Err-Empty.field-0-is at c.in-Err-Empty.ensures)

pub returns-in-Err-BadByte-clause-within : goal.returns-in-Err-BadByte-clause-within
returns-in-Err-BadByte-clause-within c =
    let is : first_other c.args.bytes.now ≡ Some c.in-Err-BadByte.place = rw c.in-Err-BadByte.field-0-is at c.in-Err-BadByte.ensures in
    omega (arith, other_is_inside c.args.bytes.now c.in-Err-BadByte.place is)
