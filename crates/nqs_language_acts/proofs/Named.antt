-- A submission that says its name alone.
use Rattle.std.proofs.Common.{◌≡◌, List, ℕ, [], false, true, refl, Some, None}
use Rattle.nqs_types.specs.declared.event.Command.TheVariants as command
use Rattle.nqs_words.specs.Values.{name_of}
use Rattle.nqs_qsub.specs.Tokens.{next_token, text_of}
use Rattle.nqs_qsub.specs.Options.{flag_of, is_given, is_both, fresh, takes_value, valued, with_value, one_option, read_words}
use Rattle.nqs_qsub.specs.Script.{script_options}
use Rattle.nqs_qsub.specs.Qsub.{fitted, both_options, qsub_options}
use Rattle.nqs_language_acts.specs.Acts.{named_submission}

-- it names no queue, and the job has what no option states
pub named_is : (user name : List ℕ) → name_of name ≡ Some name → named_submission user name ≡ command.Submit (record {
  queue = None;
  folder = None;
  job = record {
    name = name;
    owner = user;
    priority = 31;
    earliest = 0;
    rerun = true;
    limits = record { cpu = None; memory = None };
    forms = None;
    out = [];
    err = [];
    join = false;
  };
  script = [];
})
unfolding qsub_options both_options fitted script_options read_words one_option with_value valued fresh is_given is_both takes_value flag_of next_token text_of
named_is user name is = rw is refl
