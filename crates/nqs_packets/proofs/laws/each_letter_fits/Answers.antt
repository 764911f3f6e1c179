use Rattle.nqs_packets.proofs.Lengths.{each_letter_fits}
use Rattle.nqs_packets.proofs.laws.each_letter_fits.Goals as goal

pub returns : goal.returns
returns c = each_letter_fits
