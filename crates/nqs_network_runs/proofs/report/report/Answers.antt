use Rattle.std.proofs.Common.{◌≡◌, ◌++◌, List, ℕ, take, ap, ◌∙◌}
use Rattle.nqs_network_runs.specs.Running.{bad_line_text}
use Rattle.nqs_network_runs.proofs.Fronts.{front_of}
use Rattle.nqs_network_runs.proofs.report.report.Goals as goal

pub returns : goal.returns
returns g c =
    let line = bad_line_text c.args.fault.line c.args.fault.cause in
    let piece : c.deref.result.now ≡ line = c.deref.ensures.value ∙ c.in-Ok.ensures ∙ ap (λ (l : List ℕ). l ++ line) c.new-text.ensures.items in
    let stop = c.in-Err-write_whole.ensures in
    (stop.fault, (take stop.err.0 c.deref.result.now, front_of line c.deref.result.now stop.err.0 piece, stop.err.2))
