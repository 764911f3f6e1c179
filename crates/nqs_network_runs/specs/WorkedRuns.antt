-- Whole schedules: their lines, and what is written of them.
use Rattle.std.specs.Prelude.{◌≡◌, Bool, true, false, List, ℕ, [], ◌∷◌, codes, Ok, Err}
use Rattle.std.specs.List.{flat_map}
use Rattle.nqs_schedule.specs.Generated.{generated, generated_site}
use Rattle.nqs_schedule.specs.Schedule.{State, start, lines_say, ended}
use Rattle.nqs_schedule.specs.Words.{Read}
use Rattle.nqs_network_runs.specs.Running.{text_of}

-- the text of what lines say; none where one of them is bad
abbrev pub text_by : Bool → Read State → List ℕ
text_by summary (Ok s) = text_of summary s.site s.events
text_by summary (Err why) = []

-- the text of the schedule of these lines
abbrev pub text_by_lines : Bool → List (List ℕ) → List ℕ
text_by_lines summary lines = text_by summary (lines_say start lines)

-- a front host hands a job to a cray, prints a report, and gets the job's output back
abbrev pub two_hosts : List (List ℕ)
two_hosts =
    codes "hosts cray front" ∷
    codes "qmgr cray root create batch_queue small run_limit=2 pipeonly" ∷
    codes "qmgr cray root enable queue small" ∷
    codes "qmgr cray root start queue small" ∷
    codes "qmgr front root create pipe_queue run pri=40 dest=small@cray" ∷
    codes "qmgr front root en qu run" ∷
    codes "qmgr front root sta qu run" ∷
    codes "qmgr front root create device laser forms=plain" ∷
    codes "qmgr front root create device_queue lp" ∷
    codes "qmgr front root add device=laser lp" ∷
    codes "qmgr front root enable device laser" ∷
    codes "qmgr front root enable queue lp" ∷
    codes "qmgr front root start queue lp" ∷
    codes "qsub front ann \"#@$ -q run -r flow\\n#@$ -lT 1:30:00\\n./flow\\n\"" ∷
    codes "qsub front bob \"report\" -q lp -f plain" ∷
    codes "deliver 1" ∷
    codes "deliver 2" ∷
    codes "deliver 3" ∷
    codes "deliver 4" ∷
    codes "end front 2.front 1 0" ∷
    codes "end cray 1.front 1 0 \"42\\n\"" ∷
    codes "deliver 5" ∷
    codes "deliver 6" ∷
    codes "written front 1" ∷
    codes "show" ∷
    []

-- what is seen of that
abbrev pub seen_of_two_hosts : List (List ℕ)
seen_of_two_hosts =
    codes "Done." ∷
    codes "Done." ∷
    codes "Done." ∷
    codes "Done." ∷
    codes "Done." ∷
    codes "Done." ∷
    codes "Done." ∷
    codes "Done." ∷
    codes "Done." ∷
    codes "Done." ∷
    codes "Done." ∷
    codes "Done." ∷
    codes "Request 1.front submitted to queue: run." ∷
    codes "packet 1 front cray OFFER 1" ∷
    codes "Request 2.front submitted to queue: lp." ∷
    codes "print front 2.front 1 laser" ∷
    codes "packet 2 cray front READY 1" ∷
    codes "packet 3 front cray COMMIT 1" ∷
    codes "packet 4 cray front DONE 1" ∷
    codes "launch cray 1.front 1" ∷
    codes "ended front 2.front 1 0" ∷
    codes "ended cray 1.front 1 0" ∷
    codes "packet 5 cray front STAGE 1" ∷
    codes "packet 6 front cray STAGED 1" ∷
    codes "write front 1 flow.o1 3" ∷
    codes "table 0" ∷
    []

-- the summary of that
abbrev pub summary_of_two_hosts : List (List ℕ)
summary_of_two_hosts =
    codes "events 24" ∷
    codes "submitted 2" ∷
    codes "launches 2" ∷
    codes "ended 2" ∷
    codes "packets 6" ∷
    codes "stops 0" ∷
    codes "table 0" ∷
    []

-- a stop at the third call of a submission to the journal, which an image with all that was written
-- keeps
abbrev pub stopped_submission : List (List ℕ)
stopped_submission =
    codes "fuse alpha first 3 new" ∷
    codes "qsub alpha ann \"date\"" ∷
    codes "boot alpha" ∷
    codes "show" ∷
    []

-- what is seen of that
abbrev pub seen_of_stopped_submission : List (List ℕ)
seen_of_stopped_submission =
    codes "stop alpha" ∷
    codes "boot alpha" ∷
    codes "table 1" ∷
    codes "alpha batch 1.alpha QUEUED ann starts 0 lost 0" ∷
    []

-- one host, and no event drawn
abbrev pub seen_of_generated : List (List ℕ)
seen_of_generated =
    codes "Done." ∷
    codes "Done." ∷
    codes "Done." ∷
    codes "Done." ∷
    codes "up h0" ∷
    codes "table 0" ∷
    []

-- just these texts are written of these schedules
pub record AreRun : Type 0 where
  pub hosts : text_by_lines false two_hosts ≡ flat_map ended seen_of_two_hosts
  pub summary : text_by_lines true two_hosts ≡ flat_map ended summary_of_two_hosts
  pub stop : text_by_lines false stopped_submission ≡ flat_map ended seen_of_stopped_submission
  pub generated : text_of false (generated_site 1) (generated 1 1 0) ≡ flat_map ended seen_of_generated
