-- What a host does at an event.
use Rattle.std.specs.Prelude.{ℕ, ◌+◌, Bool, true, false, not, ◌&&◌, ◌==◌, if◌then◌else◌, List, [], ◌∷◌, ◌++◌, map, filter, Option, None, Some, Result, Ok, Err}
use Rattle.std.specs.Fmt.{decimal}
use Rattle.nqs_base.specs.Same.{name_eq}
use Rattle.nqs_state.specs.State.{State}
use Rattle.nqs_rules.specs.Tests.{is_running}
use Rattle.nqs_rules.specs.Causes.{Cause, cause, first_refusal}
use Rattle.nqs_rules.specs.Find.{has_queue, find_row, meant_row}
use Rattle.nqs_rules.specs.Access.{rank, may_command}
use Rattle.nqs_rules.specs.Rows.{queue_meant, submit_causes, delete_causes}
use Rattle.nqs_rules.specs.Applied.{next_id}
use Rattle.nqs_rules.specs.Fits.{edit_causes}
use Rattle.nqs_rules.specs.Stepped.{Stepped, Pending, quiet, makes, answer, replied, ready}
use Rattle.nqs_rules.specs.Handover.{on_offer, on_ready, on_refused, on_commit, on_done, on_abort, on_tick}
use Rattle.nqs_rules.specs.Stage.{on_end, on_stage, on_staged, on_written, due_outputs}
use Rattle.nqs_rules.specs.Text.{stat_lines, queue_line, device_line, complex_line, manager_line, operator_line, parameter_lines}
use Rattle.nqs_rules.specs.Why.{why_lines}
use Rattle.nqs_types.specs.declared.ids.HostId.{HostId}
use Rattle.nqs_types.specs.declared.ids.RequestId.{RequestId}
use Rattle.nqs_types.specs.declared.ids.Named.{Named}
use Rattle.nqs_types.specs.declared.request.Job.{Job}
use Rattle.nqs_types.specs.declared.request.Row.{Row}
use Rattle.nqs_types.specs.declared.refusal.Refusal.{Refusal}
use Rattle.nqs_types.specs.declared.refusal.Refusal.TheVariants.{NoQueue, NoDefault, NoRequest}
use Rattle.nqs_types.specs.declared.edit.Edit.{Edit}
use Rattle.nqs_types.specs.declared.edit.Edit.TheVariants.{Rows as RowsOf}
use Rattle.nqs_types.specs.declared.edit.RowsEdit.TheVariants.{AbortQueue}
use Rattle.nqs_types.specs.declared.change.Change.TheVariants.{Submitted, Deleted, Doomed, Edited, Unlaunched}
use Rattle.nqs_types.specs.declared.message.Body.{Body}
use Rattle.nqs_types.specs.declared.message.Body.TheVariants as body
use Rattle.nqs_types.specs.declared.event.Submission.{Submission}
use Rattle.nqs_types.specs.declared.event.Command.{Command}
use Rattle.nqs_types.specs.declared.event.Command.TheVariants as command
use Rattle.nqs_types.specs.declared.event.Event.{Event}
use Rattle.nqs_types.specs.declared.event.Event.TheVariants as event
use Rattle.nqs_types.specs.declared.event.Reply.{Reply}
use Rattle.nqs_types.specs.declared.event.Reply.TheVariants as reply
use Rattle.nqs_types.specs.declared.event.Output.TheVariants as out

-- a path, with `FOLDER/` before it where there is a folder
abbrev pub within : Option (List ℕ) → List ℕ → List ℕ
within None path = path
within (Some folder) path = folder ++ 47 ∷ [] ++ path

-- a path, or where it is empty the default one, NAME.oSEQ or NAME.eSEQ, in the folder
abbrev pub path_or : Option (List ℕ) → List ℕ → List ℕ → ℕ → ℕ → List ℕ
path_or folder [] name letter seq = within folder (name ++ 46 ∷ letter ∷ [] ++ decimal seq)
path_or folder (b ∷ bs) name letter seq = b ∷ bs

-- a job under its number, with its default paths, which stand in the folder
abbrev pub completed : ℕ → Option (List ℕ) → Job → Job
completed seq folder job = record job { out = path_or folder job.out job.name 111 seq; err = path_or folder job.err job.name 101 seq }

-- where a reply goes: the port, and the token of what was asked
pub record Asker : Type 0 where
  pub port : ℕ
  pub token : ℕ

module _ {E : Type 0} where
  -- a reply to the one who asked
  abbrev pub reply_to : Asker → Reply → Pending E
  reply_to a r = replied a.port a.token r

  -- a step that is an answer alone
  abbrev pub answer_to : Asker → Reply → Stepped E
  answer_to a r = answer a.port a.token r

  -- an answer that refuses
  abbrev pub refuse : Asker → Refusal → Stepped E
  refuse a refusal = answer_to a (reply.Refused refusal)

  -- what is done where nothing refuses it
  abbrev pub unless_refused : Asker → Result (Unit {0}) Refusal → Stepped E → Stepped E
  unless_refused a (Err refusal) done = refuse a refusal
  unless_refused a (Ok _) done = done

  -- qsub

  -- a submission is kept and told
  abbrev pub submit_to : Asker → Submission → State E → Option (List ℕ) → Stepped E
  submit_to a sub s None = refuse a NoDefault
  submit_to a sub s (Some queue) =
      makes (Submitted queue (completed (s.seq + 1) sub.folder sub.job) sub.script) (reply_to a (reply.Submitted (next_id s) queue) ∷ [])

  -- what a host does at a submission
  abbrev pub on_submit : Asker → Submission → State E → Stepped E
  on_submit a sub s = unless_refused a (first_refusal (submit_causes sub s)) (submit_to a sub s (queue_meant sub.queue s.default_queue))

  -- qdel

  -- a job is told to end
  abbrev pub kill : Row E → Pending E
  kill r = ready (out.Kill r.id r.starts)

  -- a request is deleted, or its job told to end
  abbrev pub delete_row : Asker → Row E → Stepped E
  delete_row a r =
      if is_running r.state then makes (Doomed r.id) (reply_to a (reply.Signalled r.id) ∷ kill r ∷ [])
      else makes (Deleted r.id) (reply_to a (reply.Deleted r.id) ∷ [])

  -- the same of the request that is meant
  abbrev pub delete_meant : Asker → Named → Option (Row E) → Stepped E
  delete_meant a id None = refuse a (NoRequest id)
  delete_meant a id (Some r) = delete_row a r

  -- what a host does at a deletion
  abbrev pub on_delete : Asker → List ℕ → Named → Bool → State E → Stepped E
  on_delete a user id forced s = unless_refused a (first_refusal (delete_causes user id forced s)) (delete_meant a id (meant_row id s))

  -- qmgr

  -- whether a request runs from this queue
  abbrev pub runs_in_queue : List ℕ → Row E → Bool
  runs_in_queue q r = is_running r.state && name_eq q r.queue

  -- aborting a queue ends its running jobs
  abbrev pub kills_of : Edit → State E → List (Pending E)
  kills_of (RowsOf (AbortQueue q)) s = map kill (filter (runs_in_queue q) s.rows)
  kills_of _ s = []

  -- what a host does at an edit: it makes it, and kills what an abort dooms
  abbrev pub on_edit : Asker → Edit → State E → Stepped E
  on_edit a e s = unless_refused a (first_refusal (edit_causes e s)) (makes (Edited e) (reply_to a reply.Done ∷ kills_of e s))

  -- lists

  -- that one of the queues asked for isn't there
  abbrev pub stat_causes : List (List ℕ) → State E → List Cause
  stat_causes queues s = map (λ q. cause (not (has_queue q s)) (NoQueue q)) queues

  -- what a host does when it is asked for its requests
  abbrev pub on_stat : Asker → Option (List ℕ) → List (List ℕ) → State E → Stepped E
  on_stat a user queues s = unless_refused a (first_refusal (stat_causes queues s)) (answer_to a (reply.Lines (stat_lines user queues s)))

  -- by the code of the line of qmgr: queues, devices, complexes, managers, parameters
  abbrev pub show_lines : ℕ → State E → List (List ℕ)
  show_lines code s =
      if code == 48 then map queue_line s.queues
      else (if code == 49 then map (device_line s) s.devices
      else (if code == 50 then map complex_line s.complexes
      else (if code == 51 then map manager_line s.managers ++ map operator_line s.operators
      else (if code == 52 then parameter_lines s else []))))

  -- what is answered where a request is asked about, by the one that is meant
  abbrev pub why_reply : ℕ → Named → State E → Option (Row E) → Reply
  why_reply now id s None = reply.Refused (NoRequest id)
  why_reply now id s (Some r) = reply.Lines (why_lines now s r)

  -- tick

  -- what a host does at a tick
  abbrev pub ticked : ℕ → State E → Stepped E
  ticked now s = record { change = (on_tick now s).change; outputs = (on_tick now s).outputs ++ due_outputs s; halts = false }

  -- a step, and the reply that it is done
  abbrev pub then_reply : Asker → Stepped E → Stepped E
  then_reply a done = record { change = done.change; outputs = done.outputs ++ reply_to a reply.Done ∷ []; halts = done.halts }

  -- a shutdown that its user may give: it is answered, and then the host halts
  abbrev pub halting : Asker → Stepped E
  halting a = record { change = None; outputs = reply_to a reply.Done ∷ []; halts = true }

  -- a command that its user may give
  abbrev pub on_allowed : ℕ → Asker → List ℕ → Command → State E → Stepped E
  on_allowed now a user (command.Submit sub) s = on_submit a sub s
  on_allowed now a user (command.Edit e) s = on_edit a e s
  on_allowed now a user (command.Stat owner queues) s = on_stat a owner queues s
  on_allowed now a user (command.Delete id forced) s = on_delete a user id forced s
  on_allowed now a user (command.Show code) s = answer_to a (reply.Lines (show_lines code s))
  on_allowed now a user (command.Why id) s = answer_to a (why_reply now id s (meant_row id s))
  on_allowed now a user command.Shutdown s = halting a
  on_allowed now a user command.Tick s = then_reply a (ticked now s)
  on_allowed now a user (command.UnreadLine fault) s = answer_to a (reply.UnreadLine fault)
  on_allowed now a user (command.UnreadWords fault) s = answer_to a (reply.UnreadWords fault)

  -- what a host does at a command: the rank is tested first
  abbrev pub on_command : ℕ → Asker → List ℕ → Command → State E → Stepped E
  on_command now a user c s = unless_refused a (may_command (rank user s) c) (on_allowed now a user c s)

  -- datagrams; one of a client is none of these
  abbrev pub on_message : HostId → Body → State E → Stepped E
  on_message peer (body.Offer n low queue c script) s = on_offer peer n low queue c script s
  on_message peer (body.Ready n) s = on_ready peer n s
  on_message peer (body.Refused n refusal) s = on_refused peer n refusal s
  on_message peer (body.Commit n) s = on_commit peer n s
  on_message peer (body.Done n) s = on_done peer n s
  on_message peer (body.Inquire n) s = on_ready peer n s
  on_message peer (body.Abort n) s = on_abort peer n s
  on_message peer (body.Stage n path bytes) s = on_stage peer n path bytes s
  on_message peer (body.Staged n) s = on_staged peer n s
  on_message peer _ s = quiet

  -- the end of a job, and a launch that failed

  -- whether a request runs by this start
  abbrev pub is_start : ℕ → Row E → Bool
  is_start start r = is_running r.state && r.starts == start

  -- the end of a job, by the request that runs
  abbrev pub ended_by : Option (Row E) → ℕ → ℕ → List ℕ → List ℕ → State E → Stepped E
  ended_by None start status output error s = quiet
  ended_by (Some r) start status output error s = if is_start start r then on_end status r output error s else quiet

  -- the word to a shepherd that its end was taken
  abbrev pub acknowledged : ℕ → RequestId → ℕ → List (Pending E)
  acknowledged port id start = if port == 0 then [] else ready (out.Ack port id start) ∷ []

  -- a step, and that word
  abbrev pub then_ack : ℕ → RequestId → ℕ → Stepped E → Stepped E
  then_ack port id start done = record { change = done.change; outputs = done.outputs ++ acknowledged port id start; halts = done.halts }

  -- the end of a start that was none
  abbrev pub unlaunched_by : Option (Row E) → RequestId → ℕ → Stepped E
  unlaunched_by None id start = quiet
  unlaunched_by (Some r) id start = if is_start start r then makes (Unlaunched id) (ready (out.Unlaunched id start) ∷ []) else quiet

  -- what a host does at an event
  abbrev pub step : Event → State E → Stepped E
  step (event.Ask now port token user c) s = on_command now (record { port = port; token = token }) user c s
  step (event.Arrived now m) s = on_message m.from m.body s
  step (event.Ended now port id start status output error) s = then_ack port id start (ended_by (find_row id s) start status output error s)
  step (event.Unlaunched now id start) s = unlaunched_by (find_row id s) id start
  step (event.Written now file) s = on_written file s
  step (event.Unwritten now file) s = quiet
  step (event.Tick now) s = ticked now s
