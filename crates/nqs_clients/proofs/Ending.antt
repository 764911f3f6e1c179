-- How a client ends by parts.
use Rattle.std.proofs.Common.{ℕ, false, inl}
use Rattle.nqs_outside.specs.Streams.{Fed, Sunk}
use Rattle.nqs_types.specs.declared.ids.HostId.{HostId}
use Rattle.nqs_clients.specs.Asking.{Asking}
use Rattle.nqs_clients.specs.Client.{EndsWriting, EndsFor, IsTooLong, too_long_text}
use Rattle.nqs_clients.specs.Sides.{Wired}
use Rattle.nqs_clients.specs.declared.status.NqsStatus.{NqsStatus}
use Rattle.nqs_clients.specs.declared.status.NqsStatus.TheVariants as status

pub refused : (port : ℕ) (host : HostId) (e : Asking) (source : Fed) (wire : Wired) (sink : Sunk) (result : NqsStatus) → IsTooLong e source wire
    → EndsWriting false too_long_text sink result → EndsFor port host e source wire sink result
refused port host e source wire sink status.Done long writes = absurd (let same = writes.0 in let impossible : ⊥ = cc in impossible)
refused port host e source wire sink status.Refused long writes = inl (long, writes)
refused port host e source wire sink status.WriteFault long writes = inl (long, writes)
refused port host e source wire sink status.BadWords long writes = absurd writes
refused port host e source wire sink status.NotNqs long writes = absurd writes
refused port host e source wire sink status.ReadFault long writes = absurd writes
refused port host e source wire sink (status.Memory memory) long writes = absurd writes
refused port host e source wire sink status.NoAnswer long writes = absurd writes
refused port host e source wire sink status.WireFault long writes = absurd writes
refused port host e source wire sink status.DiskFault long writes = absurd writes
refused port host e source wire sink status.TurnsUsed long writes = absurd writes
refused port host e source wire sink status.MachineFault long writes = absurd writes
refused port host e source wire sink status.Exists long writes = absurd writes
refused port host e source wire sink (status.Unread unread) long writes = absurd writes
