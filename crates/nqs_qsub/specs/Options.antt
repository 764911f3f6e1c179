-- The options of qsub: what each says, and which may not stand together.
use Rattle.std.specs.Prelude.{ℕ, zero, suc, ◌+◌, Bool, true, false, List, codes, Option, Some, None, is_some, if◌then◌else◌, Ok, Err}
use Rattle.std.specs.declared.result.Result.{Result}
use Rattle.nqs_base.specs.Same.{name_eq}
use Rattle.nqs_base.specs.Path.{is_path}
use Rattle.nqs_types.specs.declared.fault.WordsCause.{WordsCause}
use Rattle.nqs_types.specs.declared.fault.WordsCause.TheVariants as cause
use Rattle.nqs_words.specs.Values.{name_of, number_of}
use Rattle.nqs_words.specs.Amounts.{time_of, size_of}
use Rattle.nqs_words.specs.Moments.{moment_of}
use Rattle.nqs_qsub.specs.declared.token.Source.{Source}
use Rattle.nqs_qsub.specs.declared.token.Stated.{Stated}
use Rattle.nqs_qsub.specs.declared.token.Token.{Token}
use Rattle.nqs_qsub.specs.declared.options.Flag.{Flag}
use Rattle.nqs_qsub.specs.declared.options.Flag.TheVariants as flag
use Rattle.nqs_qsub.specs.declared.options.Options.{Options}
use Rattle.nqs_qsub.specs.declared.reading.Progress.{Progress}
use Rattle.nqs_qsub.specs.Tokens.{Read, ◌>>=◌, or_fault, fault_at, located, stated, next_token, text_of}

-- the option that a word names
unfoldable pub flag_of : List ℕ → Option Flag
flag_of bytes =
    if name_eq (codes "-q") bytes then Some flag.Queue else
    (if name_eq (codes "-p") bytes then Some flag.Priority else
    (if name_eq (codes "-r") bytes then Some flag.JobName else
    (if name_eq (codes "-a") bytes then Some flag.Earliest else
    (if name_eq (codes "-o") bytes then Some flag.Out else
    (if name_eq (codes "-e") bytes then Some flag.Error else
    (if name_eq (codes "-eo") bytes then Some flag.Join else
    (if name_eq (codes "-nr") bytes then Some flag.NoRerun else
    (if name_eq (codes "-lT") bytes then Some flag.Cpu else
    (if name_eq (codes "-lM") bytes then Some flag.Memory else
    (if name_eq (codes "-f") bytes then Some flag.Forms else
    (if name_eq (codes "-do") bytes then Some flag.Folder else None)))))))))))

-- no option was given
abbrev pub no_options : Options
no_options =
    record {
      queue = None;
      priority = None;
      job_name = None;
      earliest = None;
      out = None;
      error = None;
      join = false;
      no_rerun = false;
      cpu = None;
      memory =
          None;
      forms = None;
      folder = None;
    }

-- was the option given?
unfoldable pub is_given : Options → Flag → Bool
is_given o flag.Queue = is_some o.queue
is_given o flag.Priority = is_some o.priority
is_given o flag.JobName = is_some o.job_name
is_given o flag.Earliest = is_some o.earliest
is_given o flag.Out = is_some o.out
is_given o flag.Error = is_some o.error
is_given o flag.Join = o.join
is_given o flag.NoRerun = o.no_rerun
is_given o flag.Cpu = is_some o.cpu
is_given o flag.Memory = is_some o.memory
is_given o flag.Forms = is_some o.forms
is_given o flag.Folder = is_some o.folder

-- is it one of `-e` and `-eo`, and the other was given?
unfoldable pub is_both : Options → Flag → Bool
is_both o flag.Error = o.join
is_both o flag.Join = is_some o.error
is_both o _ = false

-- that the option may be given now
unfoldable pub fresh : Options → Flag → Result (Unit {0}) WordsCause
fresh o f = if is_given o f then Err cause.Repeated else (if is_both o f then Err cause.Both else Ok tt)

-- does a word follow the option that is its value?
unfoldable pub takes_value : Flag → Bool
takes_value flag.Join = false
takes_value flag.NoRerun = false
takes_value _ = true

-- with an option that takes no value
unfoldable pub marked : Options → Flag → Options
marked o flag.Join = record o { join = true }
marked o flag.NoRerun = record o { no_rerun = true }
marked o _ = o

-- with the value, or the cause why there is none
abbrev pub given : {A : Type 0} → Option A → WordsCause → (A → Options) → Result Options WordsCause
given {A} (Some a) cause set = Ok (set a)
given {A} None cause set = Err cause

-- the word of a value that is a path
abbrev pub path_at : List ℕ → Stated → Option Stated
path_at text at = if is_path text then Some at else None

-- with an option and the text of its value, which that word states
unfoldable pub valued : Options → Flag → List ℕ → Stated → Result Options WordsCause
valued o flag.Queue text at = given (name_of text) cause.BadName (λ q. record o { queue = Some q })
valued o flag.Priority text at = given (number_of 0 63 text) cause.BadNumber (λ n. record o { priority = Some n })
valued o flag.JobName text at = given (name_of text) cause.BadName (λ n. record o { job_name = Some n })
valued o flag.Earliest text at = given (moment_of text) cause.BadMoment (λ m. record o { earliest = Some m })
valued o flag.Out text at = given (path_at text at) cause.BadPath (λ p. record o { out = Some p })
valued o flag.Error text at = given (path_at text at) cause.BadPath (λ p. record o { error = Some p })
valued o flag.Cpu text at = given (time_of text) cause.BadNumber (λ n. record o { cpu = Some n })
valued o flag.Memory text at = given (size_of text) cause.BadNumber (λ n. record o { memory = Some n })
valued o flag.Forms text at = given (name_of text) cause.BadName (λ f. record o { forms = Some f })
valued o flag.Folder text at = given (name_of text) cause.BadName (λ f. record o { folder = Some f })
valued o _ text at = Ok o

-- ---- words in order

-- an option's word with its value, where it takes one: the word of number n and the next one
unfoldable pub with_value : Source → List (List ℕ) → List ℕ → ℕ → ℕ → Token → Options → Flag → Read Progress
with_value source words text line n token o f = do
  value ← or_fault (next_token source words text token.after) (fault_at line n cause.Missing)
  more ← located line (n + 1) (valued o f (text_of words text value.at) (stated value.at line (n + 1)))
  Ok (record { options = more; number = n + 2; place = value.after })

-- an option's word with its value, or without where it takes none
abbrev pub with_flag : Bool → Source → List (List ℕ) → List ℕ → ℕ → ℕ → Token → Options → Flag → Read Progress
with_flag true source words text line n token o f = with_value source words text line n token o f
with_flag false source words text line n token o f = Ok (record { options = marked o f; number = n + 1; place = token.after })

-- the option whose word stands there, of number n, where it may be given
unfoldable pub one_option : Source → List (List ℕ) → List ℕ → ℕ → ℕ → Token → Options → Read Progress
one_option source words text line n token o = do
  f ← or_fault (flag_of (text_of words text token.at)) (fault_at line n cause.Unknown)
  first ← located line n (fresh o f)
  with_flag (takes_value f) source words text line n token o f

-- what comes of the next word, or of there being none
abbrev pub per_token : {A : Type 0} → Option Token → Read A → (Token → Read A) → Read A
per_token {A} None last next = last
per_token {A} (Some token) last next = next token

-- the options from a place on, at most so many; the word there has number n
unfoldable pub read_words : ℕ → Source → List (List ℕ) → List ℕ → ℕ → ℕ → ℕ → Options → Read Options
read_words zero source words text line n place o = Err (fault_at line n cause.Unknown)
read_words (suc left) source words text line n place o = per_token (next_token source words text place) (Ok o) (λ token.
    one_option source words text line n token o >>= (λ p. read_words left source words text line p.number p.place p.options))
