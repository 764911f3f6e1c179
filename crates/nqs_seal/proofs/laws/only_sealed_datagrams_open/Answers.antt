use Rattle.nqs_seal.proofs.Tags.{only_sealed_opens}
use Rattle.nqs_seal.proofs.laws.only_sealed_datagrams_open.Goals as goal

pub returns : goal.returns
returns c = only_sealed_opens
