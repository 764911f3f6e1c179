use Rattle.std.proofs.Common.{Bool, [], ◌∷◌, ap, ◌∙◌}
use Rattle.std.specs.declared.option.Option.{Option}
use Rattle.nqs_types.specs.declared.message.Message.{Message}
use Rattle.nqs_outside.specs.Asked.{outbound, packet}
use Rattle.nqs_outside.specs.declared.wire.Address.TheVariants.{Host}
use Rattle.nqs_clients.specs.Datagrams.{message_in}
use Rattle.nqs_clients.specs.Shepherd.{acknowledges, is_ack}
use Rattle.nqs_clients.proofs.Waiting.{behind, stops_behind}
use Rattle.nqs_clients.proofs.shepherding.turn.Goals as goal

pub returns-in-Ok-clause-traffic : goal.returns-in-Ok-clause-traffic
returns-in-Ok-clause-traffic g c =
    let came = c.in-Ok.ensures.traffic in
    behind {A = Bool} (outbound (packet (Host c.args.host) c.args.told.now) ∷ []) (acknowledges c.args.host c.args.id c.args.start)
    (g.W.Wire.traffic c.args.wire.now) (g.W.Wire.traffic c.send.new.self) (g.W.Wire.traffic c.receive_message.new.wire) c.is_ack.result
    c.send.ensures.sends (came.0, came.1, c.is_ack.ensures ∙ ap (is_ack c.args.host c.args.id c.args.start) came.2)

pub returns-in-Err-clause-traffic : goal.returns-in-Err-clause-traffic
returns-in-Err-clause-traffic g c =
    stops_behind {A = Option Message} {B = Bool} (outbound (packet (Host c.args.host) c.args.told.now) ∷ []) message_in
    (acknowledges c.args.host c.args.id c.args.start) (g.W.Wire.traffic c.args.wire.now) (g.W.Wire.traffic c.send.new.self)
    (g.W.Wire.traffic c.receive_message.new.wire) c.in-Err.stop c.send.ensures.sends c.in-Err.ensures.traffic
