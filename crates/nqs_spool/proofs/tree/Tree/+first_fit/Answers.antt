use Rattle.std.proofs.Common.{◌∷◌, sym, ap, ◌∙◌, arith}
use Rattle.nqs_spool.specs.Slots.{widest_of, first_fit}
use Rattle.nqs_spool.specs.Nodes.{slots_of}
use Rattle.nqs_spool.proofs.Rows.{fit-left, fit-right, fit-here, fit-later}
use Rattle.nqs_spool.proofs.tree.Tree.+first_fit.Goals as goal

pub returns-then-count-widest : goal.returns-then-count-widest
returns-then-count-widest t c =
    let is = sym c.self.view_is ∙ ap slots_of c.in-Fork.is in
    rw is (c.first_fit.ensures ∙ ap (first_fit c.args.count c.args.end) c.deref-then-count-widest.ensures
    ∙ sym (fit-left c.args.count c.args.end c.in-Fork.left.value c.in-Fork.slot c.in-Fork.right.value c.requires
    (omega (arith, c.if-count-widest.true, c.widest.ensures, ap widest_of c.deref.ensures))))

pub returns-then-count-gap : goal.returns-then-count-gap
returns-then-count-gap t c =
    let is = sym c.self.view_is ∙ ap slots_of c.in-Fork.is in
    rw is (sym (fit-right c.args.count c.args.end c.in-Fork.left.value (c.in-Fork.slot ∷ c.in-Fork.right.value)
    (omega (arith, c.if-count-widest.false, c.widest.ensures, ap widest_of c.deref.ensures))
    ∙ fit-here c.args.count c.args.end c.in-Fork.slot c.in-Fork.right.value (omega (arith, c.if-count-gap.true, c.gap.ensures))))

pub returns-else-count-gap : goal.returns-else-count-gap
returns-else-count-gap t c =
    let is = sym c.self.view_is ∙ ap slots_of c.in-Fork.is in
    rw is (c.first_fit-in-Fork.ensures ∙ ap (first_fit c.args.count c.args.end) c.deref-in-Fork.ensures
    ∙ sym (fit-right c.args.count c.args.end c.in-Fork.left.value (c.in-Fork.slot ∷ c.in-Fork.right.value)
    (omega (arith, c.if-count-widest.false, c.widest.ensures, ap widest_of c.deref.ensures))
    ∙ fit-later c.args.count c.args.end c.in-Fork.slot c.in-Fork.right.value (omega (arith, c.if-count-gap.false, c.gap.ensures))))
