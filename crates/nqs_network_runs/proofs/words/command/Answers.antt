use Rattle.std.proofs.Common.{ap₂, ◌∙◌}
use Rattle.clap.specs.Words.{with_rule}
use Rattle.nqs_network_runs.specs.Words.{replay_app}
use Rattle.nqs_network_runs.proofs.words.command.Goals as goal

pub returns : goal.returns
unfolding replay_app
returns c =
    c.in_ok-with_events.ensures.shape c.option-3.ensures.local ∙ ap₂ with_rule
    (c.in_ok-with_hosts.ensures.shape c.option-2.ensures.local ∙ ap₂ with_rule
    (c.in_ok-with_seed.ensures.shape c.option.ensures.local ∙ ap₂ with_rule
    (c.in_ok-with_summary.ensures.shape c.flag.ensures.local ∙ ap₂ with_rule c.bare_command.ensures c.flag.ensures.rule)
    c.option.ensures.rule) c.option-2.ensures.rule) c.option-3.ensures.rule
