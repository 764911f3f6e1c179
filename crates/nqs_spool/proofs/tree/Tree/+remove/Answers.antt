use Rattle.std.proofs.Common.{sym, arith}
use Rattle.nqs_spool.proofs.Rows.{left_row, right_row, shorter, removed-before, left_by-before, removed-behind, left_by-behind, removed-here, left_by-here}
use Rattle.nqs_spool.proofs.tree.Tree.+remove.Goals as goal

pub remove-freed-requires : goal.remove-freed-requires
remove-freed-requires t c =
    let less = shorter c.in-Fork.left.value c.in-Fork.slot c.in-Fork.right.value c.args.self.now c.in-Fork.ensures.slots in
    rw c.deref_mut.ensures.value (
      omega (arith, less.0, c.decreases),
      left_row c.in-Fork.left.value c.in-Fork.slot c.in-Fork.right.value c.args.self.now
          c.in-Fork.ensures.slots c.requires,
    )

pub returns-then-place-slot-clause-slots : goal.returns-then-place-slot-clause-slots
returns-then-place-slot-clause-slots t c =
    cc (
      c.close.ensures,
      c.balanced.ensures.slots,
      c.set_from.ensures,
      c.remove-freed.ensures.slots,
      c.remove-freed.ensures.from,
      c.deref_mut.ensures.value,
      removed-before c.in-Fork.left.value c.in-Fork.slot c.in-Fork.right.value c.args.self.now c.in-Fork.ensures.slots c.requires c.args.place
          c.if-place-slot.true,
    )

pub returns-then-place-slot-clause-from : goal.returns-then-place-slot-clause-from
returns-then-place-slot-clause-from t c = sym (left_by-before c.in-Fork.left.value c.in-Fork.slot c.in-Fork.right.value c.args.self.now c.in-Fork.ensures.slots
    c.requires c.args.place c.if-place-slot.true)

pub remove-freed-requires-then-slot-place : goal.remove-freed-requires-then-slot-place
remove-freed-requires-then-slot-place t c =
    let less = shorter c.in-Fork.left.value c.in-Fork.slot c.in-Fork.right.value c.args.self.now c.in-Fork.ensures.slots in
    rw c.deref_mut-then-slot-place.ensures.value (
      omega (arith, less.1, c.decreases),
      right_row c.in-Fork.left.value c.in-Fork.slot c.in-Fork.right.value
          c.args.self.now c.in-Fork.ensures.slots c.requires,
    )

pub returns-then-slot-place-clause-slots : goal.returns-then-slot-place-clause-slots
returns-then-slot-place-clause-slots t c =
    cc (
      c.close-then-slot-place.ensures,
      c.balanced-then-slot-place.ensures.slots,
      c.remove-freed-then-slot-place.ensures.slots,
      c.deref_mut-then-slot-place.ensures.value,
      removed-behind c.in-Fork.left.value c.in-Fork.slot c.in-Fork.right.value c.args.self.now c.in-Fork.ensures.slots c.requires c.args.place
          c.if-slot-place.true,
    )

pub returns-then-slot-place-clause-from : goal.returns-then-slot-place-clause-from
returns-then-slot-place-clause-from t c =
    cc (
      c.remove-freed-then-slot-place.ensures.from,
      c.deref_mut-then-slot-place.ensures.value,
      left_by-behind c.in-Fork.left.value c.in-Fork.slot
          c.in-Fork.right.value c.args.self.now c.in-Fork.ensures.slots c.requires c.args.place c.if-slot-place.true,
    )

pub returns-else-slot-place-clause-slots : goal.returns-else-slot-place-clause-slots
returns-else-slot-place-clause-slots t c =
    cc (
      c.join.ensures.slots,
      removed-here c.in-Fork.left.value c.in-Fork.slot c.in-Fork.right.value c.args.self.now c.in-Fork.ensures.slots c.requires
          c.args.place (omega (arith, c.if-place-slot.false, c.if-slot-place.false)),
    )

pub returns-else-slot-place-clause-from : goal.returns-else-slot-place-clause-from
returns-else-slot-place-clause-from t c =
    cc (
      c.join.ensures.from,
      left_by-here c.in-Fork.left.value c.in-Fork.slot c.in-Fork.right.value c.args.self.now c.in-Fork.ensures.slots c.requires
          c.args.place (omega (arith, c.if-place-slot.false, c.if-slot-place.false)),
    )
