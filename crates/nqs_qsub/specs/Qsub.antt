-- What a submission is, from its words and its script.
use Rattle.std.specs.Prelude.{◌≡◌, ℕ, Bool, not, ◌||◌, nat_lt, nat_le, List, [], length, codes, Option, Some, None, is_some, unwrap_or, if◌then◌else◌, Ok, Err}
use Rattle.std.specs.Option.{option_or}
use Rattle.std.specs.declared.result.Result.{Result}
use Rattle.nqs_types.specs.Scripts.{longest_script}
use Rattle.nqs_types.specs.declared.fault.WordsFault.{WordsFault}
use Rattle.nqs_types.specs.declared.fault.WordsCause.TheVariants as cause
use Rattle.nqs_types.specs.declared.event.Submission.{Submission}
use Rattle.nqs_types.specs.declared.request.Job.{Job}
use Rattle.nqs_qsub.specs.declared.token.Source.TheVariants.{Command}
use Rattle.nqs_rules.specs.Step.{within}
use Rattle.nqs_qsub.specs.declared.token.Stated.{Stated}
use Rattle.nqs_qsub.specs.declared.options.Options.{Options}
use Rattle.nqs_qsub.specs.Tokens.{Read, ◌>>=◌, fault_at, text_of}
use Rattle.nqs_qsub.specs.Options.{read_words, no_options}
use Rattle.nqs_qsub.specs.Script.{script_options}

-- does one of `-e` and `-eo` stand there?
abbrev pub has_error : Options → Bool
has_error o = is_some o.error || o.join

-- the command's options, and the script's where the command has none
abbrev pub merged : Options → Options → Options
merged c s =
    record {
      queue = option_or c.queue s.queue;
      priority = option_or c.priority s.priority;
      job_name = option_or c.job_name s.job_name;
      earliest = option_or c.earliest s.earliest;
      out = option_or c.out s.out;
      error = if has_error c then c.error else s.error;
      join = if has_error c then c.join else s.join;
      no_rerun = c.no_rerun || s.no_rerun;
      cpu = option_or c.cpu s.cpu;
      memory = option_or c.memory s.memory;
      forms = option_or c.forms s.forms;
      folder = option_or c.folder s.folder;
    }

-- a path, in the folder where there is one; none is empty
abbrev pub path_text : List (List ℕ) → List ℕ → Option (List ℕ) → Option Stated → List ℕ
path_text words script folder (Some path) = within folder (text_of words script path.at)
path_text words script folder None = []

-- that a stated path has at most 255 bytes in the folder
abbrev pub fits : List (List ℕ) → List ℕ → Option (List ℕ) → Option Stated → Read (Unit {0})
fits words script folder None = Ok tt
fits words script folder (Some path) =
    if nat_le (length (within folder (text_of words script path.at))) 255 then Ok tt else Err (fault_at path.line path.number cause.BadPath)

-- the options where both paths fit into their folder; the output's is looked at first
unfoldable pub fitted : List (List ℕ) → List ℕ → Options → Read Options
fitted words script o = do
  out ← fits words script o.folder o.out
  error ← fits words script o.folder o.error
  Ok o

-- the options of the command and of the script together, or the first fault
unfoldable pub both_options : List (List ℕ) → List ℕ → Read Options
both_options words script = do
  command ← read_words 13 Command words [] 0 1 0 no_options
  scripted ← script_options (length script) script 1 0 no_options
  fitted words script (merged command scripted)

-- the options of a submission, or the first fault
unfoldable pub qsub_options : List (List ℕ) → List ℕ → Read Options
qsub_options words script = if nat_lt longest_script (length script) then Err (fault_at 0 0 cause.ScriptTooLong) else both_options words script

-- the job that the options ask for; without them it is named `STDIN`, has priority 31 and is
-- rerunnable
abbrev pub job : List ℕ → List (List ℕ) → List ℕ → Options → Job
job user words script o =
    record {
      name = unwrap_or o.job_name (codes "STDIN");
      owner = user;
      priority = unwrap_or o.priority 31;
      earliest = unwrap_or o.earliest 0;
      rerun = not o.no_rerun;
      limits = record { cpu = o.cpu; memory = o.memory };
      forms = o.forms;
      out = path_text words script o.folder o.out;
      err = path_text words script o.folder o.error;
      join = o.join;
    }

-- what is submitted: the queue and the folder, if they were named, the job and the script
abbrev pub submission : List ℕ → List (List ℕ) → List ℕ → Options → Submission
submission user words script o = record { queue = o.queue; folder = o.folder; job = job user words script o; script = script }

-- what reading a submission answers; the cases exclude each other
abbrev pub ReadsQsub : List ℕ → List (List ℕ) → List ℕ → Result Submission WordsFault → Type 0
ReadsQsub user words script (Ok s) = (o : Options) × (qsub_options words script ≡ Ok o) × (s ≡ submission user words script o)
ReadsQsub user words script (Err f) = qsub_options words script ≡ Err f
