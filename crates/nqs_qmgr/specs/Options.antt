-- What stands in brackets behind a queue that is made.
use Rattle.std.specs.Prelude.{ℕ, zero, suc, Bool, true, false, List, Option, Some, None, is_some, if◌then◌else◌, Ok, Err}
use Rattle.nqs_types.specs.declared.fault.GrammarFault.TheVariants as fault
use Rattle.nqs_words.specs.Words.{next_word}
use Rattle.nqs_words.specs.Values.{number_of, dest_of}
use Rattle.nqs_words.specs.declared.words.Word.{Word}
use Rattle.nqs_words.specs.declared.words.Gaps.TheVariants.{SpacesAndTabs}
use Rattle.nqs_words.specs.declared.keyword.Keyword.{Keyword}
use Rattle.nqs_words.specs.declared.keyword.Keyword.TheVariants as k
use Rattle.nqs_qmgr.specs.declared.head.Head.{Head}
use Rattle.nqs_qmgr.specs.declared.options.Settings.{Settings}
use Rattle.nqs_qmgr.specs.Read.{Read, ◌>>=◌}
use Rattle.nqs_qmgr.specs.Heads.{head_of, bare, valued}

-- what is set where no option is given
abbrev pub no_settings : Settings
no_settings = record { priority = None; run_limit = None; pipe_only = false; destination = None }

-- an option that was given already is one word too many
unfoldable pub once : Bool → Head → Read (Unit {0})
once given head = if given then Err (fault.Extra head.word.start) else Ok tt

-- an option that gives the priority; none may have given it before
unfoldable pub with_priority : List ℕ → Head → Settings → Read Settings
with_priority line head s = do
  first ← once (is_some s.priority) head
  n ← valued (number_of 0 63) fault.BadNumber line head
  Ok (record s { priority = Some n })

-- an option that gives the run limit; none may have given it before
unfoldable pub with_run_limit : List ℕ → Head → Settings → Read Settings
with_run_limit line head s = do
  first ← once (is_some s.run_limit) head
  n ← valued (number_of 0 10000) fault.BadNumber line head
  Ok (record s { run_limit = Some n })

-- the option that only pipe queues may fill the queue; it may not have been given before
unfoldable pub with_pipe_only : Head → Settings → Read Settings
with_pipe_only head s = do
  first ← once s.pipe_only head
  place ← bare head
  Ok (record s { pipe_only = true })

-- an option that gives the destination; none may have given it before
unfoldable pub with_destination : List ℕ → Head → Settings → Read Settings
with_destination line head s = do
  first ← once (is_some s.destination) head
  d ← valued dest_of fault.BadName line head
  Ok (record s { destination = Some d })

-- what is set with the option of this keyword added; other keywords are no options
unfoldable pub with_option : List ℕ → Head → Settings → Keyword → Read Settings
with_option line head s k.Priority = with_priority line head s
with_option line head s k.RunLimit = with_run_limit line head s
with_option line head s k.PipeOnly = with_pipe_only head s
with_option line head s k.Destination = with_destination line head s
with_option line head s _ = Err (fault.UnknownWord head.word.start)

-- what is made of the next word, or the answer where there is none
abbrev pub per_word : {A : Type 0} → Option Word → Read A → (Word → Read A) → Read A
per_word {A} None last next = last
per_word {A} (Some word) last next = next word

-- options up to the line's end, at most so many
unfoldable pub options : ℕ → List Keyword → List ℕ → ℕ → Settings → Read Settings
options zero keywords line place s = Err (fault.Extra place)
options (suc left) keywords line place s = per_word (next_word SpacesAndTabs line place) (Ok s) (λ word.
    head_of keywords line word >>= (λ head.
    with_option line head s head.keyword >>= (λ more. options left keywords line word.end more)))
