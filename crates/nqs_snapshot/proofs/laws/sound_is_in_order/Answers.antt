use Rattle.nqs_snapshot.proofs.SoundLaws.{sound_is_in_order}
use Rattle.nqs_snapshot.proofs.laws.sound_is_in_order.Goals as goal

pub returns : goal.returns
returns c = sound_is_in_order
