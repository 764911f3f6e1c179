use Rattle.std.proofs.Common.{ap, sym, map, List, ◌∙◌, Global, String}
use Rattle.std.specs.Prelude.{string_bytes}
use Rattle.clap.specs.Words.{App, Text, is_simple_and_free, fault_of}
use Rattle.nqs_network_runs.proofs.Matched.{replay_is_free, stopped, formed}
use Rattle.nqs_network_runs.proofs.words.read_words.Goals as goal

pub returns-in-Ok-try_get_matches_from : goal.returns-in-Ok-try_get_matches_from
returns-in-Ok-try_get_matches_from c =
    let words : List Text = map (λ (s : String Global). string_bytes s) c.args.words.now in
    let is = c.in-Ok.ensures in
    let passed = c.in-Ok-try_get_matches_from.ensures.kinds (ap is_simple_and_free is ∙ replay_is_free) in
    formed _ words c.in-Ok-try_get_matches_from.matches c.given_by.result is c.in-Ok-try_get_matches_from.ensures.matches
    (sym (ap (λ (a : App). fault_of a words) is) ∙ passed) c.given_by.ensures

pub returns-in-Err-try_get_matches_from : goal.returns-in-Err-try_get_matches_from
returns-in-Err-try_get_matches_from c =
    let words : List Text = map (λ (s : String Global). string_bytes s) c.args.words.now in
    let is = c.in-Ok.ensures in
    let failed = c.in-Err-try_get_matches_from.ensures.kinds (ap is_simple_and_free is ∙ replay_is_free) in
    stopped words c.in-Err-try_get_matches_from.error c.stop_of.result (rw (ap (λ (a : App). fault_of a words) is) at failed) c.stop_of.ensures
