use Rattle.nqs_journal.proofs.Counts.{counted_is}
use Rattle.nqs_journal.proofs.journal.Journal.count.Goals as goal

pub returns-clause-told : goal.returns-clause-told
returns-clause-told g c = λ tells running form snapshot payloads is opened.
    counted_is _ _ _ _ form snapshot payloads (c.args.self.now.counted tells running) is opened
