use Rattle.std.proofs.Common.{sym, ap, ◌∙◌, arith}
use Rattle.nqs_spool.specs.Slots.{is_free}
use Rattle.nqs_spool.specs.Nodes.{slots_of}
use Rattle.nqs_spool.proofs.Rows.{free-before, free-behind, left_row, right_row, shorter}
use Rattle.nqs_spool.proofs.tree.Tree.+is_free.Goals as goal

pub is_free-requires : goal.is_free-requires
is_free-requires t c =
    let is = sym (sym c.self.view_is ∙ ap slots_of c.in-Fork.is) in
    let less = shorter c.in-Fork.left.value c.in-Fork.slot c.in-Fork.right.value c.args.self.now is in
    rw c.deref.ensures (omega (arith, less.0, c.decreases), left_row c.in-Fork.left.value c.in-Fork.slot c.in-Fork.right.value c.args.self.now is c.requires)

pub returns-then-place-slot : goal.returns-then-place-slot
returns-then-place-slot t c =
    let is = sym (sym c.self.view_is ∙ ap slots_of c.in-Fork.is) in
    c.is_free.ensures ∙ ap (is_free c.args.place c.args.past c.in-Fork.slot.from c.in-Fork.slot.place) c.deref.ensures
    ∙ sym (free-before c.in-Fork.left.value c.in-Fork.slot c.in-Fork.right.value c.args.self.now is c.requires c.args.place c.args.past c.args.end c.args.limit
    c.if-place-slot.true)

pub is_free-requires-in-Fork : goal.is_free-requires-in-Fork
is_free-requires-in-Fork t c =
    let is = sym (sym c.self.view_is ∙ ap slots_of c.in-Fork.is) in
    let less = shorter c.in-Fork.left.value c.in-Fork.slot c.in-Fork.right.value c.args.self.now is in
    rw c.deref-in-Fork.ensures (
      omega (arith, less.1, c.decreases),
      right_row c.in-Fork.left.value c.in-Fork.slot c.in-Fork.right.value c.args.self.now is
          c.requires,
    )

pub returns-else-place-slot : goal.returns-else-place-slot
returns-else-place-slot t c =
    let is = sym (sym c.self.view_is ∙ ap slots_of c.in-Fork.is) in
    c.is_free-in-Fork.ensures ∙ ap (is_free c.args.place c.args.past c.args.end c.args.limit) c.deref-in-Fork.ensures
    ∙ sym (free-behind c.in-Fork.left.value c.in-Fork.slot c.in-Fork.right.value c.args.self.now is c.requires c.args.place c.args.past c.args.end c.args.limit
    c.if-place-slot.false)
