-- A job's end is told.
use Rattle.std.proofs.Common.{◌≡◌, ℕ, List, [], ◌∷◌, refl, subst}
use Rattle.std.specs.declared.option.Option.{Option}
use Rattle.nqs_types.specs.declared.ids.HostId.{HostId}
use Rattle.nqs_types.specs.declared.ids.RequestId.{RequestId}
use Rattle.nqs_base.specs.declared.memory.Memory as wanting
use Rattle.nqs_outside.specs.Asked.{packet, Traffic, Job, ran}
use Rattle.nqs_outside.specs.Told.{Extends}
use Rattle.nqs_outside.specs.declared.runner.RunEnd.{RunEnd}
use Rattle.nqs_outside.specs.declared.wire.Address.TheVariants.{Host}
use Rattle.nqs_outside.proofs.Told.{extends_none}
use Rattle.nqs_packets.specs.Spelling.{spelling}
use Rattle.nqs_clients.specs.Datagrams.{at_home}
use Rattle.nqs_clients.specs.Shepherd.{ended, acknowledges, Waits, Shepherds}
use Rattle.nqs_clients.specs.declared.shepherding.ShepherdEnd.{ShepherdEnd}
use Rattle.nqs_clients.specs.declared.shepherding.ShepherdEnd.TheVariants.{Memory}

module _ (host : HostId) (port : ℕ) (id : RequestId) (start : ℕ) (end : Option RunEnd) (runs runs' : Option (List Job))
    (ran_once : Extends runs runs' (ran id start end ∷ [])) where
  pub shepherds : (was now : Option (List Traffic)) (told : List ℕ) (result : ShepherdEnd) → told ≡ spelling (at_home host (ended port id start end))
      → Waits (acknowledges host id start) (packet (Host host) told) was now result → Shepherds host port id start runs runs' was now result
  shepherds was now told result spelled waits =
      (end, ran_once, subst (λ t. Waits (acknowledges host id start) (packet (Host host) t) was now result) spelled waits)

  pub shepherds_unsent : (was : Option (List Traffic)) (memory : wanting.Memory) → Shepherds host port id start runs runs' was was (Memory memory)
  shepherds_unsent was memory = (end, ran_once, ([], extends_none was, refl))
