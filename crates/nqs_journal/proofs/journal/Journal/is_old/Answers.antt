use Rattle.nqs_journal.proofs.Counts.{old_is}
use Rattle.nqs_journal.proofs.journal.Journal.is_old.Goals as goal

pub returns-clause-told : goal.returns-clause-told
returns-clause-told g c = λ tells running form snapshot payloads is opened.
    old_is _ _ _ _ form snapshot payloads (c.args.self.now.counted tells running) is opened
