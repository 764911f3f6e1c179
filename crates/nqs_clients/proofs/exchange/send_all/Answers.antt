use Rattle.std.proofs.Common.{refl, subst, ◌∙◌, arith}
use Rattle.nqs_outside.specs.Causes.{Rose}
use Rattle.nqs_outside.proofs.Told.{extends_none, extends_same}
use Rattle.nqs_clients.proofs.Sending.{one_sent, all_sent, sends_long}
use Rattle.nqs_clients.proofs.exchange.send_all.Goals as goal

pub loop-place-init : goal.loop-place-init
loop-place-init g c = record { sent = extends_none (g.W.Wire.traffic c.args.wire.now); uncounted = refl; unheard = refl }

pub loop-place-preserved : goal.loop-place-preserved
loop-place-preserved g c = record {
  sent = one_sent c.args.host c.args.letters.now c.loop-place.place c.index-letters-place.result c.as_slice.result.now c.loop-place-test.true
      c.index-letters-place.is c.as_slice.ensures _ _ _ c.loop-place.invariant.sent c.send.ensures.sends;
  uncounted = c.in_default.ensures.uncounted ∙ c.loop-place.invariant.uncounted;
  unheard = c.send.ensures.receive_faults ∙ c.loop-place.invariant.unheard;
}

pub returns-in-Err-clause-failed : goal.returns-in-Err-clause-failed
returns-in-Err-clause-failed g c = (
  (
    c.loop-place.place,
    sends_long c.args.host c.args.letters.now c.loop-place.place c.loop-place-test.true,
    one_sent c.args.host c.args.letters.now c.loop-place.place c.index-letters-place.result c.as_slice.result.now c.loop-place-test.true
        c.index-letters-place.is c.as_slice.ensures _ _ _ c.loop-place.invariant.sent c.send.ensures.sends,
  ),
  subst (λ n. Rose n (g.W.Wire.send_faults c.send.new.self)) c.loop-place.invariant.uncounted c.in-Err.ensures.cause.failed,
)

pub returns-clause-sent : goal.returns-clause-sent
returns-clause-sent g c =
    extends_same _ _ _ _
    (all_sent c.args.host c.args.letters.now c.loop-place.place (omega (arith, c.loop-place-test.false)) c.loop-place.auto.place-end)
    c.loop-place.invariant.sent
