use Rattle.std.proofs.Common.{◌≤◌, false, take}
use Rattle.nqs_net.specs.Worlds.{IsWorld}
use Rattle.nqs_network_runs.specs.Running.{ran, text_of}
use Rattle.nqs_network_runs.specs.Writing.{HasWritten}
use Rattle.nqs_network_runs.proofs.run.transcribe.Given as goal

abbrev pub invariant-loop-event : goal.invariant-loop-event
invariant-loop-event g l = record {
  world : IsWorld l.world (ran l.site (take l.event-index l.events)).world;
  written : HasWritten (g.K.Sink.taken l.fn.out) (g.K.Sink.taken l.out) (text_of false l.site (take l.event-index l.events)) l.text.items;
  later : (g.K.Sink.faults l.fn.out ≤ g.K.Sink.faults l.out) × (g.K.Sink.stalls l.fn.out ≤ g.K.Sink.stalls l.out);
}
