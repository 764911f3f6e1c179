use Rattle.nqs_words.proofs.Requests.{requests_are_read}
use Rattle.nqs_words.proofs.laws.requests_as_written.Goals as goal

pub returns : goal.returns
returns c = requests_are_read
