use Rattle.std.proofs.Common.{◌≡◌, ◌++◌, ◌∙◌, ap, length, arith}
use Rattle.nqs_schedule.specs.Summary.{summary_text}
use Rattle.nqs_network_runs.proofs.run.text_of_summary.Goals as goal

pub returns-clause-world : goal.returns-clause-world
returns-clause-world c = c.in_ok-rows.ensures.world

pub returns-clause-text : goal.returns-clause-text
returns-clause-text c = λ network is.
    let count : c.len.result ≡ length c.in_ok-rows.rows.items = omega (arith, c.len.ensures, c.in_ok-rows.rows.ok.0) in
    let rows = count ∙ ap length (c.in_ok-rows.ensures.rows network is) in
    c.in_ok-print_summary.ensures ∙ (λ j. c.new-text.ensures.items j ++ summary_text c.args.summary.now c.args.events (rows j))
