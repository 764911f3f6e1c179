use Rattle.std.proofs.Common.{refl}
use Rattle.clap.proofs.OnLiterals.{clap_on_literals}
use Rattle.nqs_text.specs.Number.{decimal, first_other}
use Rattle.nqs_words.specs.Values.{number_of}
use Rattle.nqs_network_runs.specs.Words.{replay_app, value_of, generation_of, asked_of, asked}
use Rattle.nqs_network_runs.proofs.laws.worked_words.Goals as goal

pub returns-clause-worked : goal.returns-clause-worked
unfolding clap_on_literals replay_app value_of generation_of asked_of asked number_of decimal first_other
returns-clause-worked c = record { none = refl; summary = refl; apart = refl; joined = refl; ended = refl }

pub returns-clause-refused : goal.returns-clause-refused
unfolding clap_on_literals replay_app value_of generation_of asked_of asked number_of decimal first_other
returns-clause-refused c = record { other = refl; unknown = refl; twice = refl; some = refl; many = refl; signed = refl }
