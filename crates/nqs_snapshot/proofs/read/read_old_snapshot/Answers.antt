use Rattle.std.proofs.Common.{refl, sym, arith}
use Rattle.nqs_snapshot.specs.Reading.{state_of}
use Rattle.nqs_snapshot.proofs.PartLaws.{old_peer_law}
use Rattle.nqs_snapshot.proofs.StateLaws.{whole_spelled}
use Rattle.nqs_snapshot.proofs.Standing.{old_stands}
use Rattle.nqs_snapshot.proofs.read.read_old_snapshot.Goals as goal

pub sound_state-requires : goal.sound_state-requires
sound_state-requires c =
    old_stands (state_of c.in_ok-parts.parts)
    (whole_spelled old_peer_law c.args.bytes.now c.in_ok-parts.parts (λ i. omega (arith, c.type_inv.bytes i)) (sym (c.in_ok-parts.ensures refl))).1
