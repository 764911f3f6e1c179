use Rattle.std.proofs.Common.{◌≡◌, ◌∙◌, ◌∷◌, ◌++◌, [], length, arith}
use Rattle.std.proofs.lemmas.List.{replicate-append-replicate}
use Rattle.std.proofs.lemmas.Simd.{splat_is_map}
use Rattle.nqs_rules.specs.Format.{new_peer}
use Rattle.nqs_host.proofs.format.new_peers.Goals as goal

pub loop-place-preserved : goal.loop-place-preserved
loop-place-preserved c =
    c.in_ok-push.ensures.ok
    ∙ (λ j. c.loop-place.invariant j ++ c.new_peer.ensures j ∷ [])
    ∙ replicate-append-replicate c.loop-place._place 1 new_peer

pub returns : goal.returns
returns c =
    let all : length c.args.site.now ≡ c.loop-place._place = omega (arith, c.len-place-end.ensures, c.loop-place-test.false) in
    c.loop-place.invariant ∙ splat_is_map c.args.site.now c.loop-place._place new_peer all
