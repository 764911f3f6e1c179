use Rattle.std.proofs.Common.{◌≡◌, ◌∙◌, ◌-◌, true, Some, ap, arith}
use Rattle.nqs_rules.specs.World.{is_between}
use Rattle.nqs_net.proofs.Arriving.{latest}
use Rattle.nqs_net.proofs.packets.newest_between.Goals as goal

pub returns-then-is_between : goal.returns-then-is_between
returns-then-is_between c = λ w same.
    let holds : is_between c.args.one c.args.other c.index-packets-place.result ≡ true = cc in
    ap Some c.in_ok-copy.ensures ∙ latest c.args.one c.args.other w c.args.packets.now c.loop-place.place
    (c.loop-place.place - 1) c.index-packets-place.result same (omega arith) (omega arith) c.index-packets-place.is holds c.loop-place.invariant.1
