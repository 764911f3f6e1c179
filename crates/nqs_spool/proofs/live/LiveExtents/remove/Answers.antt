use Rattle.nqs_spool.specs.Live.{slots, end_of}
use Rattle.nqs_spool.proofs.Kept.{removed_row, removed_less, left_to}
use Rattle.nqs_spool.proofs.live.LiveExtents.remove.Goals as goal

pub invariant_of-self : goal.invariant_of-self
invariant_of-self c =
    let row = removed_row c.args.extent.now.place 0 (end_of c.args.self.now) (slots c.args.self.now) c.args.self.now.row in
    record { row = rw (c.remove-freed.ensures.slots, c.unwrap_or-self.ensures, c.remove-freed.ensures.from) row }

pub returns-clause-less : goal.returns-clause-less
returns-clause-less c = rw c.remove-freed.ensures.slots (removed_less 0 (end_of c.args.self.now) (slots c.args.self.now) c.args.self.now.row c.args.extent.now)

pub returns-clause-end : goal.returns-clause-end
returns-clause-end c = rw (c.unwrap_or-self.ensures, c.remove-freed.ensures.from)
    (left_to c.args.extent.now.place 0 (end_of c.args.self.now) (slots c.args.self.now) c.args.self.now.row)
