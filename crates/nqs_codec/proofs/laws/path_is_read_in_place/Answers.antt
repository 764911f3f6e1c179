use Rattle.nqs_codec.proofs.InPlace.{path_in_place}
use Rattle.nqs_codec.proofs.laws.path_is_read_in_place.Goals as goal

pub returns : goal.returns
returns c = path_in_place
