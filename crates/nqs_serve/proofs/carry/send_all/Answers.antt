use Rattle.std.proofs.Common.{refl, ap, ◌∙◌, map, arith}
use Rattle.nqs_outside.specs.Asked.{outbound}
use Rattle.nqs_serve.specs.Letters.{packets_to}
use Rattle.nqs_serve.proofs.Lists.{passes_more, taken_all}
use Rattle.nqs_serve.proofs.Tellings.{adds_none, passes_as}
use Rattle.nqs_serve.proofs.carry.send_all.Goals as goal

pub loop-place-init : goal.loop-place-init
loop-place-init g c = record { sends = adds_none _; heard = refl; borrows = refl }

pub loop-place-preserved : goal.loop-place-preserved
loop-place-preserved g c = record {
  sends = passes_more c.args.to c.args.datagrams.now c.loop-place.place c.index-datagrams-place.result c.as_slice.result.now c.loop-place-test.true
      c.index-datagrams-place.is c.as_slice.ensures _ _ _ c.loop-place.invariant.sends c.send.ensures.sends;
  heard = c.send.ensures.heard ∙ c.loop-place.invariant.heard;
  borrows = c.send.ensures.borrows ∙ c.loop-place.invariant.borrows;
}

pub returns-clause-sends : goal.returns-clause-sends
returns-clause-sends g c =
    passes_as _ _ _ _
    (ap (λ l. map outbound (packets_to c.args.to l))
    (taken_all c.args.datagrams.now c.loop-place.place (omega (arith, c.loop-place-test.false)) c.loop-place.auto.place-end))
    c.loop-place.invariant.sends
