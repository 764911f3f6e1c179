use Rattle.nqs_codec.proofs.InPlace.{bytes_in_place}
use Rattle.nqs_codec.proofs.laws.bytes_are_read_in_place.Goals as goal

pub returns : goal.returns
returns c = bytes_in_place
