use Rattle.std.proofs.Common.{◌≡◌, ◌++◌, map, drop}
use Rattle.nqs_state.specs.State.{content}
use Rattle.nqs_rules.specs.Reasons.{failing, complex_condition}
use Rattle.nqs_reasons.proofs.told.add_complexes.Given as goal

abbrev pub invariant-loop-place : goal.invariant-loop-place
invariant-loop-place l =
    l.reasons ++ failing (map (complex_condition l.queue (content l.state)) (drop l.place l.state.complexes.items))
    ≡ l.fn.reasons ++ failing (map (complex_condition l.queue (content l.state)) l.state.complexes.items)
