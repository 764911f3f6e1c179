use Rattle.nqs_serve.proofs.Sampled.{is_event, is_elsewhere, is_stranger, is_cut, is_older}
use Rattle.nqs_serve.proofs.laws.a_datagram_by_hand.Goals as goal

pub returns-clause-event : goal.returns-clause-event
returns-clause-event c = is_event

pub returns-clause-elsewhere : goal.returns-clause-elsewhere
returns-clause-elsewhere c = is_elsewhere

pub returns-clause-stranger : goal.returns-clause-stranger
returns-clause-stranger c = is_stranger

pub returns-clause-cut : goal.returns-clause-cut
returns-clause-cut c = is_cut

pub returns-clause-older : goal.returns-clause-older
returns-clause-older c = is_older
