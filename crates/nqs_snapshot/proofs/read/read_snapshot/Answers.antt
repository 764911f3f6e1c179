use Rattle.std.proofs.Common.{refl, sym, arith}
use Rattle.nqs_snapshot.proofs.PartLaws.{peer_law}
use Rattle.nqs_snapshot.proofs.StateLaws.{whole_spelled}
use Rattle.nqs_snapshot.proofs.read.read_snapshot.Goals as goal

pub sound_state-requires : goal.sound_state-requires
sound_state-requires c =
    (whole_spelled peer_law c.args.bytes.now c.in_ok-parts.parts (λ i. omega (arith, c.type_inv.bytes i)) (sym (c.in_ok-parts.ensures refl))).1
