-- What the runner in memory answers and tells.
use Rattle.std.specs.Prelude.{◌≡◌, Bool, true, false, List, [], ◌∷◌, Ok, Err}
use Rattle.std.specs.declared.option.Option.{Option}
use Rattle.std.specs.declared.result.Result.{Result}
use Rattle.nqs_outside.specs.Asked.{Job, ran}
use Rattle.nqs_outside.specs.declared.runner.RunEnd.{RunEnd}
use Rattle.nqs_outside.specs.declared.source.Failed.{Failed}
use Rattle.nqs_fakes.specs.Told.{told_of}
use Rattle.nqs_fakes.specs.declared.runner.JobRun.{JobRun}
use Rattle.nqs_fakes.specs.declared.runner.MemRunner.{MemRunner}

-- the job that was to be run in a call that is kept
abbrev pub job_of : JobRun → Job
job_of j = ran j.id j.start j.end

-- the jobs that were to be run, unless memory ran out
abbrev pub runs_of : MemRunner → Option (List Job)
runs_of r = told_of r.starved job_of r.kept

-- no end is left
abbrev pub is_none : List RunEnd → Bool
is_none [] = true
is_none (end ∷ ends) = false

-- A run gives the first of the ends, and one that failed leaves them.
abbrev pub TakesEnd : List RunEnd → List RunEnd → Result RunEnd Failed → Type 0
TakesEnd old new (Ok end) = old ≡ end ∷ new
TakesEnd old new (Err failed) = new ≡ old
