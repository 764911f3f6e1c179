-- Requests: submissions, deletions and the edits of single requests.
use Rattle.std.specs.Prelude.{ℕ, ◌+◌, Bool, true, not, ◌&&◌, ◌||◌, nat_le, if◌then◌else◌, List, [], ◌∷◌, ◌++◌, map, Option, None, Some}
use Rattle.nqs_base.specs.Same.{name_eq}
use Rattle.nqs_state.specs.State.{State}
use Rattle.nqs_rules.specs.Tests.{passes, is_running, is_routing, is_unheld, last_u64, last_seq}
use Rattle.nqs_rules.specs.Causes.{Cause, cause}
use Rattle.nqs_rules.specs.Find.{has_queue, find_queue, meant_request, meant_row, held_count}
use Rattle.nqs_rules.specs.Edits.{change_row}
use Rattle.nqs_rules.specs.Access.{entry_causes, rank, is_plain_user}
use Rattle.nqs_rules.specs.Conf.{is_pipe_queue}
use Rattle.nqs_rules.specs.Limits.{over_causes}
use Rattle.nqs_types.specs.declared.ids.RequestId.{RequestId}
use Rattle.nqs_types.specs.declared.ids.Named.{Named}
use Rattle.nqs_types.specs.declared.request.Job.{Job}
use Rattle.nqs_types.specs.declared.request.Row.{Row}
use Rattle.nqs_types.specs.declared.request.Hold.TheVariants.{No, User}
use Rattle.nqs_types.specs.declared.queue.QueueDef.{QueueDef}
use Rattle.nqs_types.specs.declared.rule.Entry.{Entry}
use Rattle.nqs_types.specs.declared.rule.Entry.TheVariants.{Direct, FromPipe}
use Rattle.nqs_types.specs.declared.refusal.Refusal.TheVariants.{NoQueue, NoDefault, NoRequest, NotOwner, RequestRouting, RequestRunning, NotHeld, IsHeld}
use Rattle.nqs_types.specs.declared.refusal.Refusal.TheVariants.{WrongKind, HostFull, NumbersUsed}
use Rattle.nqs_types.specs.declared.event.Submission.{Submission}
use Rattle.nqs_types.specs.declared.edit.RowsEdit.{RowsEdit}
use Rattle.nqs_types.specs.declared.edit.RowsEdit.TheVariants.{AbortQueue, HoldRequest, ReleaseRequest, MoveRequest, ModifyRequest}

-- the queue that is meant, or else the default one
abbrev pub queue_meant : Option (List ℕ) → Option (List ℕ) → Option (List ℕ)
queue_meant None fallback = fallback
queue_meant (Some q) fallback = Some q

-- the causes of one value, and none where there is none
abbrev pub causes_of : {V : Type 0} → (V → List Cause) → Option V → List Cause
causes_of f None = []
causes_of f (Some v) = f v

module _ {E : Type 0} where
  -- no arrival number is left
  abbrev pub arrivals_used : State E → Bool
  arrivals_used s = nat_le last_u64 s.arrivals

  -- whether a host has as many requests as it may have, with those on their way to it
  abbrev pub is_host_full : State E → Bool
  is_host_full s = nat_le 10000 (held_count s)

  -- whether a host has no number left for a request
  abbrev pub numbers_used : State E → Bool
  numbers_used s = nat_le last_seq s.seq || arrivals_used s

-- why a job isn't let into a queue
abbrev pub job_causes : QueueDef → Job → Entry → List Cause
job_causes d job entry = entry_causes d job.owner entry ++ over_causes d job.limits

-- why a user's job isn't let into a queue
abbrev pub queue_entry_causes : Job → QueueDef → List Cause
queue_entry_causes job d = job_causes d job Direct

module _ {E : Type 0} where
  -- what keeps a job out of the queue that is meant
  abbrev pub submit_causes_at : Job → Option (List ℕ) → State E → List Cause
  submit_causes_at job None s = cause true NoDefault ∷ []
  submit_causes_at job (Some q) s =
      cause (not (has_queue q s)) (NoQueue q) ∷ causes_of (queue_entry_causes job) (find_queue q s)
      ++ cause (is_host_full s) HostFull ∷ cause (numbers_used s) NumbersUsed ∷ []

  -- the causes for which a submission is refused, in order
  abbrev pub submit_causes : Submission → State E → List Cause
  submit_causes sub s = submit_causes_at sub.job (queue_meant sub.queue s.default_queue) s

  -- whether a user is neither the owner nor an operator nor a manager
  abbrev pub is_stranger : List ℕ → State E → Row E → Bool
  is_stranger user s r = is_plain_user (rank user s) && not (name_eq user r.job.owner)

  -- what keeps a user from deleting a request
  abbrev pub delete_row_causes : List ℕ → Named → Bool → State E → Row E → List Cause
  delete_row_causes user id kill s r = cause (is_stranger user s r) NotOwner ∷ cause (is_running r.state && not kill) (RequestRunning id) ∷ []

  -- that there is no such request, or what is the matter with it
  abbrev pub named_causes : Named → (Row E → List Cause) → Option (Row E) → List Cause
  named_causes id f None = cause true (NoRequest id) ∷ []
  named_causes id f (Some r) = f r

  -- the causes for which a deletion is refused, in order
  abbrev pub delete_causes : List ℕ → Named → Bool → State E → List Cause
  delete_causes user id kill s = named_causes id (delete_row_causes user id kill s) (meant_row id s)

  -- that a request is being handed over, or runs
  abbrev pub idle_causes : Named → Row E → List Cause
  idle_causes id r = cause (is_routing r.state) (RequestRouting id) ∷ cause (is_running r.state) (RequestRunning id) ∷ []

  -- what keeps a request from being held
  abbrev pub hold_causes : Named → Row E → List Cause
  hold_causes id r = idle_causes id r ++ cause (not (is_unheld r.hold)) (IsHeld id) ∷ []

  -- what keeps a request from being released
  abbrev pub release_causes : Named → Row E → List Cause
  release_causes id r = cause (is_unheld r.hold) (NotHeld id) ∷ []

  -- the way of a row's job into a queue from another one
  abbrev pub move_entry_causes : Row E → QueueDef → List Cause
  move_entry_causes r d = job_causes d r.job FromPipe

  -- what keeps a request from being moved to a queue
  abbrev pub move_causes : Named → List ℕ → State E → Row E → List Cause
  move_causes id q s r =
      cause (not (has_queue q s)) (NoQueue q) ∷ idle_causes id r ++ causes_of (move_entry_causes r) (find_queue q s) ++ cause (arrivals_used s) NumbersUsed ∷ []

module _ {E : Type 0} where
  -- the causes for which an edit of requests is refused, in order
  abbrev pub rows_causes : RowsEdit → State E → List Cause
  rows_causes (AbortQueue q) s = cause (not (has_queue q s)) (NoQueue q) ∷ cause (passes is_pipe_queue (find_queue q s)) WrongKind ∷ []
  rows_causes (HoldRequest id) s = named_causes id (hold_causes id) (meant_row id s)
  rows_causes (ReleaseRequest id) s = named_causes id (release_causes id) (meant_row id s)
  rows_causes (MoveRequest id q) s = named_causes id (move_causes id q s) (meant_row id s)
  rows_causes (ModifyRequest id _) s = named_causes id (idle_causes id) (meant_row id s)

  -- effects

  -- a request, doomed if it runs from this queue
  abbrev pub doomed_in : List ℕ → Row E → Row E
  doomed_in q r = if is_running r.state && name_eq q r.queue then record r { doomed = true } else r

  -- a request that an operator holds
  abbrev pub held_row : Row E → Row E
  held_row r = record r { hold = User }

  -- a request that isn't held any more: its refusals and moves are forgotten
  abbrev pub released_row : Row E → Row E
  released_row r = record r { hold = No; refused = []; hops = 0 }

  -- a moved row keeps its hold
  abbrev pub moved_row : List ℕ → ℕ → Row E → Row E
  moved_row q arrival r = record r { queue = q; arrival = arrival; hops = 0; refused = [] }

  -- a request with another priority
  abbrev pub with_priority : ℕ → Row E → Row E
  with_priority n r = record r { job = record (r.job) { priority = n } }

  -- with the request changed that is meant
  abbrev pub change_meant : Option RequestId → (Row E → Row E) → State E → State E
  change_meant None f s = s
  change_meant (Some id) f s = change_row id f s

  -- the next arrival has another number
  abbrev pub next_arrival : State E → State E
  next_arrival s = record s { arrivals = s.arrivals + 1 }

  -- what an edit of requests makes of a state
  abbrev pub rows_applied : RowsEdit → State E → State E
  rows_applied (AbortQueue q) s = record s { rows = map (doomed_in q) s.rows }
  rows_applied (HoldRequest id) s = change_meant (meant_request id s) held_row s
  rows_applied (ReleaseRequest id) s = change_meant (meant_request id s) released_row s
  rows_applied (MoveRequest id q) s = change_meant (meant_request id s) (moved_row q (s.arrivals + 1)) (next_arrival s)
  rows_applied (ModifyRequest id n) s = change_meant (meant_request id s) (with_priority n) s

-- the numbers of an edit are within their limits
abbrev pub is_rows_within : RowsEdit → Bool
is_rows_within (ModifyRequest _ n) = nat_le n 63
is_rows_within _ = true
