use Rattle.std.proofs.Common.{sym, arith}
use Rattle.nqs_spool.proofs.Rows.{inserted-left, ended-before, inserted-behind, ended-behind, left_row, right_row, shorter}
use Rattle.nqs_spool.proofs.tree.Tree.+insert.Goals as goal

pub insert-behind-requires : goal.insert-behind-requires
insert-behind-requires t c =
    let less = shorter c.in-Fork.left.value c.in-Fork.slot c.in-Fork.right.value c.args.self.now c.in-Fork.ensures.slots in
    rw c.deref_mut.ensures.value (
      omega (arith, less.0, c.decreases),
      (
        left_row c.in-Fork.left.value c.in-Fork.slot c.in-Fork.right.value c.args.self.now
            c.in-Fork.ensures.slots c.requires.row,
        c.requires.small,
      ),
    )

pub returns-then-place-slot-clause-slots : goal.returns-then-place-slot-clause-slots
returns-then-place-slot-clause-slots t c =
    cc (
      c.close-then-place-slot.ensures,
      c.balanced.ensures.slots,
      c.set_from.ensures,
      c.insert-behind.ensures.slots,
      c.insert-behind.ensures.last,
      c.deref_mut.ensures.value,
      c.in-Fork.ensures.slots,
      inserted-left c.args.place c.args.length c.args.end c.in-Fork.left.value c.in-Fork.slot c.in-Fork.right.value c.if-place-slot.true,
    )

pub returns-then-place-slot-clause-last : goal.returns-then-place-slot-clause-last
returns-then-place-slot-clause-last t c =
    sym (ended-before c.in-Fork.left.value c.in-Fork.slot c.in-Fork.right.value c.args.self.now c.in-Fork.ensures.slots c.requires.row c.args.place
    c.args.length c.if-place-slot.true)

pub insert-last-requires : goal.insert-last-requires
insert-last-requires t c =
    let less = shorter c.in-Fork.left.value c.in-Fork.slot c.in-Fork.right.value c.args.self.now c.in-Fork.ensures.slots in
    rw c.deref_mut-in-Fork.ensures.value (
      omega (arith, less.1, c.decreases),
      (right_row c.in-Fork.left.value c.in-Fork.slot c.in-Fork.right.value c.args.self.now c.in-Fork.ensures.slots c.requires.row, c.requires.small),
    )

pub returns-else-place-slot-clause-slots : goal.returns-else-place-slot-clause-slots
returns-else-place-slot-clause-slots t c =
    cc (
      c.close-in-Fork.ensures,
      c.balanced-in-Fork.ensures.slots,
      c.insert-last.ensures.slots,
      c.deref_mut-in-Fork.ensures.value,
      inserted-behind c.in-Fork.left.value c.in-Fork.slot c.in-Fork.right.value c.args.self.now c.in-Fork.ensures.slots c.requires.row c.args.place
          c.args.length c.args.end c.if-place-slot.false,
    )

pub returns-else-place-slot-clause-last : goal.returns-else-place-slot-clause-last
returns-else-place-slot-clause-last t c =
    cc (
      c.insert-last.ensures.last,
      c.deref_mut-in-Fork.ensures.value,
      ended-behind c.in-Fork.left.value c.in-Fork.slot c.in-Fork.right.value c.args.self.now c.in-Fork.ensures.slots c.requires.row c.args.place c.args.length
          c.if-place-slot.false,
    )
