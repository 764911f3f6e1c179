use Rattle.nqs_journal.proofs.Counts.{few}
use Rattle.nqs_journal.proofs.either.add_text.Goals as goal

pub returns-clause-few : goal.returns-clause-few
returns-clause-few c =
    let reading = c.in_ok-reading.reading in
    rw (c.in_ok-reading.ensures.gate, c.len-count.ensures, reading.payloads.ok.0) (few _ reading.payloads.items)
