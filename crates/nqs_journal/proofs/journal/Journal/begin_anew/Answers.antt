use Rattle.std.proofs.Common.{arith}
use Rattle.nqs_journal.proofs.Counts.{text_size, counted_none}
use Rattle.nqs_journal.proofs.journal.Journal.begin_anew.Goals as goal

pub invariant_of-self-2 : goal.invariant_of-self-2
invariant_of-self-2 g c =
    let begun = c.in_ok-write_begin.ensures in
    let text = c.requires in
    record {
      small = omega (arith, begun.small);
      within = λ told running. omega (arith, begun.length told, text_size text.0 c.args.text.now text.2);
      room = c.args.self.now.room;
      few = omega arith;
      counted = λ told running. counted_none _ text.0 c.args.text.now text.1 text.2 (begun.open told _ text.2);
    }
