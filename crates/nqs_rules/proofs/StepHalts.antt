-- Which steps halt their host.
use Rattle.std.proofs.Common.{◌≡◌, ℕ, Bool, true, false, List, Option, None, Some, Result, Ok, Err, refl, is_ok, if◌then◌else◌, ◌&&◌}
use Rattle.std.specs.List.{list_any}
use Rattle.nqs_state.specs.Keys.{is_file}
use Rattle.nqs_state.specs.State.{Plain}
use Rattle.nqs_types.specs.declared.ids.HostId.{HostId}
use Rattle.nqs_types.specs.declared.ids.RequestId.{RequestId}
use Rattle.nqs_types.specs.declared.ids.Named.{Named}
use Rattle.nqs_types.specs.declared.refusal.Refusal.{Refusal}
use Rattle.nqs_types.specs.declared.request.Row.{Row}
use Rattle.nqs_types.specs.declared.request.Carried.{Carried}
use Rattle.nqs_types.specs.declared.request.Hand.{Hand}
use Rattle.nqs_types.specs.declared.request.Phase.{Phase}
use Rattle.nqs_types.specs.declared.request.Phase.TheVariants.{Offered, Committed}
use Rattle.nqs_types.specs.declared.message.Body.{Body}
use Rattle.nqs_types.specs.declared.message.Body.TheVariants as body
use Rattle.nqs_types.specs.declared.event.Submission.{Submission}
use Rattle.nqs_types.specs.declared.event.Command.{Command}
use Rattle.nqs_types.specs.declared.event.Command.TheVariants as command
use Rattle.nqs_types.specs.declared.event.Event.{Event}
use Rattle.nqs_types.specs.declared.event.Event.TheVariants as event
use Rattle.nqs_rules.specs.Tests.{passes, is_running}
use Rattle.nqs_rules.specs.Access.{rank, may_command}
use Rattle.nqs_rules.specs.Causes.{first_refusal}
use Rattle.nqs_rules.specs.Find.{find_row, find_hand, find_peer, has_promise, has_stage, meant_row}
use Rattle.nqs_rules.specs.Rows.{queue_meant, submit_causes, delete_causes}
use Rattle.nqs_rules.specs.Fits.{edit_causes}
use Rattle.nqs_rules.specs.Shutdowns.{is_shutdown, shuts_down}
use Rattle.nqs_rules.specs.Handover.{closes, was_given, offer_causes, offer_by, ready_phase, ready_with, refused_phase, refused_with}
use Rattle.nqs_rules.specs.Handover.{done_phase}
use Rattle.nqs_rules.specs.Handover.{done_with}
use Rattle.nqs_rules.specs.Stage.{has_left, is_got, on_stage}
use Rattle.nqs_rules.specs.Step.{Asker, unless_refused, submit_to, delete_meant, stat_causes, on_allowed, on_message, is_start, ended_by}
use Rattle.nqs_rules.specs.Step.{unlaunched_by, step}
use Rattle.nqs_rules.specs.Stepped.{Stepped}

-- a step that leaves its host up
abbrev Stays : Stepped (List ℕ) → Type 0
Stays x = x.halts ≡ false

-- of two steps, one of which is taken, neither halts
neither : (b : Bool) (x y : Stepped (List ℕ)) → Stays x → Stays y → Stays (if b then x else y)
neither true x y one other = one
neither false x y one other = other

-- a refusal doesn't halt
unless_halts : (a : Asker) (r : Result (Unit {0}) Refusal) (x : Stepped (List ℕ)) → Stays x → Stays (unless_refused a r x)
unless_halts a (Ok u) x stays = stays
unless_halts a (Err e) x stays = refl

submit_halts : (a : Asker) (sub : Submission) (s : Plain) (m : Option (List ℕ)) → Stays (submit_to a sub s m)
submit_halts a sub s None = refl
submit_halts a sub s (Some q) = refl

delete_halts : (a : Asker) (id : Named) (o : Option (Row (List ℕ))) → Stays (delete_meant a id o)
delete_halts a id None = refl
delete_halts a id (Some r) = neither (is_running r.state) _ _ refl refl

-- a command halts where it is a shutdown
allowed_halts : (now : ℕ) (a : Asker) (user : List ℕ) (c : Command) (s : Plain) → (on_allowed now a user c s).halts ≡ is_shutdown c
allowed_halts now a user (command.Submit sub) s =
    unless_halts a (first_refusal (submit_causes sub s)) _ (submit_halts a sub s (queue_meant sub.queue s.default_queue))
allowed_halts now a user (command.Edit e) s = unless_halts a (first_refusal (edit_causes e s)) _ refl
allowed_halts now a user (command.Stat owner queues) s = unless_halts a (first_refusal (stat_causes queues s)) _ refl
allowed_halts now a user (command.Delete id forced) s =
    unless_halts a (first_refusal (delete_causes user id forced s)) _ (delete_halts a id (meant_row id s))
allowed_halts now a user (command.Show code) s = refl
allowed_halts now a user (command.Why id) s = refl
allowed_halts now a user command.Shutdown s = refl
allowed_halts now a user command.Tick s = refl
allowed_halts now a user (command.UnreadLine fault) s = refl
allowed_halts now a user (command.UnreadWords fault) s = refl

-- a command of a user halts where it is a shutdown that the user may give
granted_halts : (a : Asker) (b : Bool) (r : Result (Unit {0}) Refusal) (x : Stepped (List ℕ)) → x.halts ≡ b → (unless_refused a r x).halts ≡ b && is_ok r
granted_halts a true (Ok u) x is = is
granted_halts a false (Ok u) x is = is
granted_halts a true (Err e) x is = refl
granted_halts a false (Err e) x is = refl

-- datagrams

offer_halts : (r : Result (Unit {0}) Refusal) (peer : HostId) (n low : ℕ) (queue : List ℕ) (c : Carried) (script : List ℕ) (s : Plain)
    → Stays (offer_by r peer n low queue c script s)
offer_halts (Ok u) peer n low queue c script s = refl
offer_halts (Err e) peer n low queue c script s = refl

ready_halts : (p : Phase) (peer : HostId) (n : ℕ) (s : Plain) → Stays (ready_phase p peer n s)
ready_halts Offered peer n s = refl
ready_halts Committed peer n s = refl

ready_with_halts : (o : Option Hand) (peer : HostId) (n : ℕ) (s : Plain) → Stays (ready_with o peer n s)
ready_with_halts None peer n s = neither (was_given n (find_peer peer s)) _ _ refl refl
ready_with_halts (Some h) peer n s = ready_halts h.phase peer n s

refused_halts : (o : Option Hand) (peer : HostId) (n refusal : ℕ) → Stays (refused_with o peer n refusal)
refused_halts None peer n refusal = refl
refused_halts (Some h) peer n refusal = by h.phase
  where
    by : (p : Phase) → Stays (refused_phase p peer n refusal)
    by Offered = refl
    by Committed = refl

done_halts : (o : Option Hand) (peer : HostId) (n : ℕ) → Stays (done_with o peer n)
done_halts None peer n = refl
done_halts (Some h) peer n = by h.phase
  where
    by : (p : Phase) → Stays (done_phase p peer n)
    by Offered = refl
    by Committed = refl

stage_halts : (peer : HostId) (n : ℕ) (path bytes : List ℕ) (s : Plain) → Stays (on_stage peer n path bytes s)
stage_halts peer n path bytes s =
    neither (passes (is_got n) (find_peer peer s)) _ _ refl (neither (has_left s.file_next 0) _ _ refl refl)

message_halts : (peer : HostId) (b : Body) (s : Plain) → Stays (on_message peer b s)
message_halts peer (body.Offer n low queue c script) s = neither (closes n (find_peer peer s)) _ _ refl (neither (has_promise peer n s) _ _ refl
    (offer_halts (first_refusal (offer_causes peer low queue c s)) peer n low queue c script s))
message_halts peer (body.Ready n) s = ready_with_halts (find_hand peer n s) peer n s
message_halts peer (body.Refused n refusal) s = refused_halts (find_hand peer n s) peer n refusal
message_halts peer (body.Commit n) s = neither (has_promise peer n s) _ _ refl (neither (closes n (find_peer peer s)) _ _ refl refl)
message_halts peer (body.Done n) s = done_halts (find_hand peer n s) peer n
message_halts peer (body.Inquire n) s = ready_with_halts (find_hand peer n s) peer n s
message_halts peer (body.Abort n) s = neither (has_promise peer n s) _ _ refl refl
message_halts peer (body.Stage n path bytes) s = stage_halts peer n path bytes s
message_halts peer (body.Staged n) s = neither (has_stage peer n s) _ _ refl refl
message_halts peer b s = refl

-- the end of a job, and a launch that failed

ended_halts : (o : Option (Row (List ℕ))) (start status : ℕ) (output error : List ℕ) (s : Plain) → Stays (ended_by o start status output error s)
ended_halts None start status output error s = refl
ended_halts (Some r) start status output error s = neither (is_start start r) _ _ refl refl

unlaunched_halts : (o : Option (Row (List ℕ))) (id : RequestId) (start : ℕ) → Stays (unlaunched_by o id start)
unlaunched_halts None id start = refl
unlaunched_halts (Some r) id start = neither (is_start start r) _ _ refl refl

-- a step halts where it is a shutdown that its user may give
pub step-halts : (e : Event) (s : Plain) → (step e s).halts ≡ shuts_down e s
step-halts (event.Ask now port token user c) s =
    let a : Asker = record { port = port; token = token } in
    granted_halts a (is_shutdown c) (may_command (rank user s) c) (on_allowed now a user c s) (allowed_halts now a user c s)
step-halts (event.Arrived now m) s = message_halts m.from m.body s
step-halts (event.Ended now port id start status output error) s = ended_halts (find_row id s) start status output error s
step-halts (event.Unlaunched now id start) s = unlaunched_halts (find_row id s) id start
step-halts (event.Written now file) s = neither (list_any (is_file file) s.files) _ _ refl refl
step-halts (event.Unwritten now file) s = refl
step-halts (event.Tick now) s = refl
