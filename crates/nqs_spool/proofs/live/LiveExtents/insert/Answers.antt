use Rattle.std.proofs.Common.{arith}
use Rattle.nqs_spool.specs.Live.{slots, end_of}
use Rattle.nqs_spool.proofs.Kept.{inserted_row, inserted_more, ended_to}
use Rattle.nqs_spool.proofs.live.LiveExtents.insert.Goals as goal

pub invariant_of-self : goal.invariant_of-self
invariant_of-self c =
    let row = inserted_row c.args.extent.place c.args.extent.length 0 (end_of c.args.self.now) (slots c.args.self.now) c.args.self.now.row
    (omega arith) c.requires.some c.requires.clear in
    record { row = rw (c.insert-last.ensures.slots, c.unwrap_or-self.ensures, c.insert-last.ensures.last) row }

pub returns-clause-more : goal.returns-clause-more
returns-clause-more c = rw c.insert-last.ensures.slots (inserted_more c.args.extent.place c.args.extent.length (end_of c.args.self.now) (slots c.args.self.now))

pub returns-clause-end : goal.returns-clause-end
returns-clause-end c = rw (c.unwrap_or-self.ensures, c.insert-last.ensures.last)
    (ended_to c.args.extent.place c.args.extent.length (end_of c.args.self.now) (slots c.args.self.now))
