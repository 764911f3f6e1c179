-- A submission is within the limits, whatever its words and its script are.
use Rattle.std.proofs.Common.{◌≡◌, ℕ, zero, suc, ◌+◌, Bool, true, false, cond, nat_lt, nat_le, List, [], ◌∷◌, length, take, drop, refl, Option, Some, None}
use Rattle.std.proofs.Common.{unwrap_or, Result, Ok, Err, IfOk, codes}
use Rattle.std.proofs.lemmas.Bool.{and_from, le-leb, ltb-false}
use Rattle.std.specs.Option.{option_or}
use Rattle.nqs_types.specs.Scripts.{longest_script}
use Rattle.nqs_types.specs.declared.event.Command.TheVariants as command
use Rattle.nqs_types.specs.declared.fault.WordsCause.{WordsCause}
use Rattle.nqs_types.specs.declared.fault.WordsCause.TheVariants as cause
use Rattle.nqs_rules.specs.Sane.{is_sane_name, is_sane_folder, is_path_or_none, is_asked_job, is_asked, is_short_script, is_sane_command}
use Rattle.nqs_rules.proofs.Chains.{chained}
use Rattle.nqs_qsub.specs.declared.token.Source.{Source}
use Rattle.nqs_qsub.specs.declared.token.Source.TheVariants as source
use Rattle.nqs_qsub.specs.declared.token.Stated.{Stated}
use Rattle.nqs_qsub.specs.declared.token.Token.{Token}
use Rattle.nqs_qsub.specs.declared.options.Flag.{Flag}
use Rattle.nqs_qsub.specs.declared.options.Options.{Options}
use Rattle.nqs_qsub.specs.declared.reading.Progress.{Progress}
use Rattle.nqs_qsub.specs.declared.script.LineKind.{LineKind}
use Rattle.nqs_qsub.specs.declared.script.LineKind.TheVariants.{Last, Remark, Words}
use Rattle.nqs_qsub.specs.Tokens.{Read, or_fault, fault_at, located, stated, next_token, text_of}
use Rattle.nqs_qsub.specs.Options.{flag_of, fresh, takes_value, valued, no_options, with_value, with_flag, one_option, per_token, read_words}
use Rattle.nqs_qsub.specs.Script.{line_kind, line_end, next_line, line_options, go_on, script_options}
use Rattle.nqs_qsub.specs.Qsub.{has_error, merged, fits, fitted, both_options, qsub_options, job, submission}
use Rattle.nqs_language_acts.specs.Acts.{of_words, submitted}
use Rattle.nqs_language_acts.specs.Laws.{SubmissionsAreSane}
use Rattle.nqs_language_acts.proofs.Steps.{each_step, next_step, unless}
use Rattle.nqs_language_acts.proofs.Options.{Carries, carries_command, carries_line, StatesPath, AreWithin, none_sane, marked_sane, valued_sane, AreAsked}
use Rattle.nqs_language_acts.proofs.Options.{asked}

-- ---- words

located_sane : {A : Type 0} (P : A → Type 0) (line n : ℕ) (r : Result A WordsCause) → IfOk r P → IfOk (located line n r) P
located_sane P line n (Ok a) h = h
located_sane P line n (Err why) h = tt

abbrev Progresses : List (List ℕ) → List ℕ → Progress → Type 0
Progresses words script p = AreWithin words script p.options

value_sane : (s : Source) (part : List (List ℕ)) (text : List ℕ) (line n : ℕ) (token : Token) (o : Options) (f : Flag) (words : List (List ℕ)) (script : List ℕ)
    → Carries part text words script → AreWithin words script o
    → IfOk (with_value s part text line n token o f) (Progresses words script)
unfolding with_value
value_sane s part text line n token o f words script carries h =
    each_step (Progresses words script) (or_fault (next_token s part text token.after) (fault_at line n cause.Missing)) _ (λ value is.
    next_step (AreWithin words script) (Progresses words script) (located line (n + 1)
    (valued o f (text_of part text value.at) (stated value.at line (n + 1)))) _
    (located_sane (AreWithin words script) line (n + 1) (valued o f (text_of part text value.at) (stated value.at line (n + 1)))
    (valued_sane part text words script o f (stated value.at line (n + 1)) carries h)) (λ more sane. sane))

flag_sane : (t : Bool) (s : Source) (part : List (List ℕ)) (text : List ℕ) (line n : ℕ) (token : Token) (o : Options) (f : Flag) (words : List (List ℕ))
    (script : List ℕ) → Carries part text words script → AreWithin words script o
    → IfOk (with_flag t s part text line n token o f) (Progresses words script)
flag_sane true s part text line n token o f words script carries h = value_sane s part text line n token o f words script carries h
flag_sane false s part text line n token o f words script carries h = marked_sane words script o f h

option_sane : (s : Source) (part : List (List ℕ)) (text : List ℕ) (line n : ℕ) (token : Token) (o : Options) (words : List (List ℕ)) (script : List ℕ)
    → Carries part text words script → AreWithin words script o
    → IfOk (one_option s part text line n token o) (Progresses words script)
unfolding one_option
option_sane s part text line n token o words script carries h =
    each_step (Progresses words script) (or_fault (flag_of (text_of part text token.at)) (fault_at line n cause.Unknown)) _ (λ f is.
    each_step (Progresses words script) (located line n (fresh o f)) _ (λ first free. flag_sane
    (takes_value f) s part text line n token o f words script carries h))

token_sane : {A : Type 0} (P : A → Type 0) (token : Option Token) (last : Read A) (next : Token → Read A) → IfOk last P → ((t : Token) → IfOk (next t) P)
    → IfOk (per_token token last next) P
token_sane P None last next l n = l
token_sane P (Some token) last next l n = n token

words_sane : (left : ℕ) (s : Source) (part : List (List ℕ)) (text : List ℕ) (line n place : ℕ) (o : Options) (words : List (List ℕ)) (script : List ℕ)
    → Carries part text words script → AreWithin words script o
    → IfOk (read_words left s part text line n place o) (AreWithin words script)
unfolding read_words
words_sane zero s part text line n place o words script carries h = tt
words_sane (suc left) s part text line n place o words script carries h =
    token_sane (AreWithin words script) (next_token s part text place) (Ok o) _ h (λ token.
    next_step (Progresses words script) (AreWithin words script) (one_option s part text line n token o) _
    (option_sane s part text line n token o words script carries h) (λ p sane.
    words_sane left s part text line p.number p.place p.options words script carries sane))

-- ---- the script

abbrev Lines : List (List ℕ) → List ℕ → Options × Bool → Type 0
Lines words script p = AreWithin words script p.0

line_sane : (kind : LineKind) (words : List (List ℕ)) (script : List ℕ) (line place : ℕ) (o : Options) → AreWithin words script o
    → IfOk (line_options kind script line place o) (Lines words script)
unfolding line_options
line_sane Last words script line place o h = h
line_sane Remark words script line place o h = h
line_sane Words words script line place o h =
    next_step (AreWithin words script) (Lines words script) (read_words 13 source.Script [] (take (line_end script place) script) line 1 (place + 3) o) _
    (words_sane 13 source.Script [] (take (line_end script place) script) line 1 (place + 3) o words script
    (carries_line words script (line_end script place)) h) (λ more sane. sane)

go_on_sane : (P : Options → Type 0) (o : Options) (t : Bool) (next : Options → Read Options) → P o → IfOk (next o) P → IfOk (go_on (o, t) next) P
go_on_sane P o true next h n = n
go_on_sane P o false next h n = h

script_sane : (left : ℕ) (words : List (List ℕ)) (script : List ℕ) (line place : ℕ) (o : Options) → AreWithin words script o
    → IfOk (script_options left script line place o) (AreWithin words script)
unfolding script_options
script_sane zero words script line place o h = h
script_sane (suc left) words script line place o h =
    next_step (Lines words script) (AreWithin words script) (line_options (line_kind (drop place script)) script line place o) _
    (line_sane (line_kind (drop place script)) words script line place o h) (λ step sane.
    go_on_sane (AreWithin words script) step.0 step.1 (script_options left script (line + 1) (next_line script place)) sane
    (script_sane left words script (line + 1) (next_line script place) step.0 sane))

-- ---- both

or_sane : {A : Type 0} (P : Option A → Type 0) (a b : Option A) → P a → P b → P (option_or a b)
or_sane P (Some a) b x y = x
or_sane P None b x y = y

merged_sane : (words : List (List ℕ)) (script : List ℕ) (c s : Options) → AreWithin words script c → AreWithin words script s
    → AreWithin words script (merged c s)
merged_sane words script c s h k =
    record {
      name = or_sane (λ (n : Option (List ℕ)). is_sane_name (unwrap_or n (codes "STDIN")) ≡ true) c.job_name s.job_name h.name k.name;
      priority = or_sane (λ (n : Option ℕ). nat_le (unwrap_or n 31) 63 ≡ true) c.priority s.priority h.priority k.priority;
      out = or_sane (StatesPath words script) c.out s.out h.out k.out;
      error = by (has_error c);
      folder = or_sane (λ (f : Option (List ℕ)). is_sane_folder f ≡ true) c.folder s.folder h.folder k.folder;
    }
  where
    by : (t : Bool) → StatesPath words script (cond t c.error s.error)
    by true = h.error
    by false = k.error

fitted_sane : (words : List (List ℕ)) (script : List ℕ) (o : Options) → AreWithin words script o → IfOk (fitted words script o) (AreAsked words script)
unfolding fitted
fitted_sane words script o h =
    each_step (AreAsked words script) (fits words script o.folder o.out) _ (λ first out.
    each_step (AreAsked words script) (fits words script o.folder o.error) _ (λ second error.
    asked words script o first second h out error))

both_sane : (words : List (List ℕ)) (script : List ℕ) → IfOk (both_options words script) (AreAsked words script)
unfolding both_options
both_sane words script =
    next_step (AreWithin words script) (AreAsked words script) (read_words 13 source.Command words [] 0 1 0 no_options) _
    (words_sane 13 source.Command words [] 0 1 0 no_options words script (carries_command words script) (none_sane words script)) (λ c sane.
    next_step (AreWithin words script) (AreAsked words script) (script_options (length script) script 1 0 no_options) _
    (script_sane (length script) words script 1 0 no_options (none_sane words script)) (λ s more.
    fitted_sane words script (merged c s) (merged_sane words script c s sane more)))

abbrev Submits : List ℕ → List (List ℕ) → List ℕ → Options → Type 0
Submits user words script o = is_sane_command (command.Submit (submission user words script o)) ≡ true

options_sane : (user : List ℕ) (words : List (List ℕ)) (script : List ℕ) → IfOk (qsub_options words script) (Submits user words script)
unfolding qsub_options
options_sane user words script =
    unless (Submits user words script) (nat_lt longest_script (length script)) (fault_at 0 0 cause.ScriptTooLong) (both_options words script) (λ short.
    ok (both_options words script) (both_sane words script) (le-leb (length script) longest_script (ltb-false longest_script (length script) short)))
  where
    ok : (r : Read Options) → IfOk r (AreAsked words script) → is_short_script script ≡ true → IfOk r (Submits user words script)
    ok (Ok o) h short =
        and_from (is_asked (submission user words script o)) (is_short_script script)
        (and_from (is_asked_job (job user words script o)) (is_sane_folder o.folder) (chained (is_sane_name (job user words script o).name)
        (nat_le (job user words script o).priority 63 ∷ is_path_or_none (job user words script o).out ∷ is_path_or_none (job user words script o).err ∷ [])
        (h.name, (h.priority, (h.out, (h.error, tt))))) h.folder) short
    ok (Err fault) h short = tt

pub submissions_are_sane : SubmissionsAreSane
submissions_are_sane user words script = by (qsub_options words script) (options_sane user words script)
  where
    by : (r : Read Options) → IfOk r (Submits user words script) → is_sane_command (of_words (submitted user words script r)) ≡ true
    by (Ok o) h = h
    by (Err fault) h = refl
