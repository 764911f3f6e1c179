use Rattle.std.proofs.Common.{◌≡◌, Some, sym, arith}
use Rattle.nqs_text.specs.Number.{first_other}
use Rattle.nqs_limits.proofs.Digits.{other_is_inside, other_is_wrong}
use Rattle.nqs_limits.proofs.time.part_fault.Goals as goal

pub overflow_add-result : goal.overflow_add-result
overflow_add-result c =
    let is : first_other c.args.part.now ≡ Some c.in-Err-BadByte.other = rw c.in-Err-BadByte.field-0-is at c.in-Err-BadByte.ensures in
    omega (arith, other_is_inside c.args.part.now c.in-Err-BadByte.other is, c.requires)

pub returns-in-Err-BadByte : goal.returns-in-Err-BadByte
returns-in-Err-BadByte c =
    let is : first_other c.args.part.now ≡ Some c.in-Err-BadByte.other = rw c.in-Err-BadByte.field-0-is at c.in-Err-BadByte.ensures in
    sym (other_is_wrong c.args.place c.in-Err-BadByte.other c.args.part.now is)
