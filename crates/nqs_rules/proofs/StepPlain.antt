-- A step looks at no stored part.
use Rattle.std.proofs.Common.{◌≡◌, ℕ, Bool, true, false, not, ◌==◌, nat_le, List, [], ◌∷◌, ◌++◌, map, filter, Option, None, Some, Result, Ok, Err, option_map}
use Rattle.std.proofs.Common.{refl, sym, ap, ◌∙◌, if◌then◌else◌}
use Rattle.std.proofs.lemmas.List.{map-append}
use Rattle.nqs_state.specs.State.{State}
use Rattle.nqs_types.specs.declared.ids.RequestId.{RequestId}
use Rattle.nqs_types.specs.declared.ids.Named.{Named}
use Rattle.nqs_types.specs.declared.request.Job.{Job}
use Rattle.nqs_types.specs.declared.request.Row.{Row}
use Rattle.nqs_types.specs.declared.refusal.Refusal.{Refusal}
use Rattle.nqs_types.specs.declared.refusal.Refusal.TheVariants.{NoQueue, HostFull, NumbersUsed}
use Rattle.nqs_types.specs.declared.edit.Edit.{Edit}
use Rattle.nqs_types.specs.declared.edit.Edit.TheVariants.{Rows as RowsOf}
use Rattle.nqs_types.specs.declared.edit.RowsEdit.TheVariants.{AbortQueue}
use Rattle.nqs_types.specs.declared.change.Change.TheVariants.{Edited}
use Rattle.nqs_types.specs.declared.event.Submission.{Submission}
use Rattle.nqs_types.specs.declared.event.Command.{Command}
use Rattle.nqs_types.specs.declared.event.Command.TheVariants as command
use Rattle.nqs_types.specs.declared.event.Event.{Event}
use Rattle.nqs_types.specs.declared.event.Event.TheVariants as event
use Rattle.nqs_types.specs.declared.event.Reply.TheVariants as reply
use Rattle.nqs_types.specs.declared.event.Output.TheVariants as out
use Rattle.nqs_rules.specs.Tests.{is_running}
use Rattle.nqs_rules.specs.Causes.{cause, first_refusal}
use Rattle.nqs_rules.specs.Find.{has_queue, find_queue, find_row, meant_row}
use Rattle.nqs_rules.specs.Access.{rank, may_command}
use Rattle.nqs_rules.specs.Rows.{queue_meant, causes_of, queue_entry_causes, numbers_used, submit_causes_at, submit_causes, delete_causes, delete_row_causes}
use Rattle.nqs_rules.specs.Fits.{edit_causes}
use Rattle.nqs_rules.specs.Stepped.{Stepped, Pending, map_pending, map_stepped, makes, ready}
use Rattle.nqs_rules.specs.Text.{stat_lines}
use Rattle.nqs_rules.specs.Step.{Asker, reply_to, answer_to, unless_refused, submit_to, on_submit, kill, delete_meant, on_delete, runs_in_queue, kills_of}
use Rattle.nqs_rules.specs.Step.{on_edit, stat_causes, on_stat, why_reply, ticked, then_reply, on_allowed, is_start, ended_by, then_ack, acknowledged}
use Rattle.nqs_rules.specs.Step.{unlaunched_by, step}
use Rattle.nqs_rules.specs.Plain.{map_row, map_state}
use Rattle.nqs_rules.proofs.ListMaps.{map-mapped, map-filter}
use Rattle.nqs_rules.proofs.FoundPlain.{held_count-map, find_row-map, meant_row-map, named_causes-map}
use Rattle.nqs_rules.proofs.FitsPlain.{edit_causes-map}
use Rattle.nqs_rules.proofs.TextPlain.{stat_lines-map, show_lines-map}
use Rattle.nqs_rules.proofs.ReasonsPlain.{why_lines-map}
use Rattle.nqs_rules.proofs.OutputsPlain.{ticked-map, on_end-map}
use Rattle.nqs_rules.proofs.MessagesPlain.{choice-map, on_message-map, on_written-map}

module _ {E F : Type 0} (f : E → F) where
  unless-map : (a : Asker) (r : Result (Unit {0}) Refusal) (done : Stepped E)
      → unless_refused a r (map_stepped f done) ≡ map_stepped f (unless_refused a r done)
  unless-map a (Ok u) done = refl
  unless-map a (Err e) done = refl

  submit_causes-map : (job : Job) (m : Option (List ℕ)) (s : State E) → submit_causes_at job m (map_state f s) ≡ submit_causes_at job m s
  submit_causes-map job None s = refl
  submit_causes-map job (Some q) s = ap (λ n. cause (not (has_queue q s)) (NoQueue q) ∷ causes_of (queue_entry_causes job) (find_queue q s)
      ++ cause (nat_le 10000 n) HostFull ∷ cause (numbers_used s) NumbersUsed ∷ []) (held_count-map f s)

  on_submit-map : (a : Asker) (sub : Submission) (s : State E) → on_submit a sub (map_state f s) ≡ map_stepped f (on_submit a sub s)
  on_submit-map a sub s =
      (λ j. unless_refused a (first_refusal (submit_causes-map sub.job (queue_meant sub.queue s.default_queue) s j))
      (to (queue_meant sub.queue s.default_queue) j))
      ∙ unless-map a (first_refusal (submit_causes sub s)) (submit_to a sub s (queue_meant sub.queue s.default_queue))
    where
      to : (m : Option (List ℕ)) → submit_to a sub (map_state f s) m ≡ map_stepped f (submit_to a sub s m)
      to None = refl
      to (Some q) = refl

  on_delete-map : (a : Asker) (user : List ℕ) (id : Named) (forced : Bool) (s : State E)
      → on_delete a user id forced (map_state f s) ≡ map_stepped f (on_delete a user id forced s)
  on_delete-map a user id forced s =
      (λ j. unless_refused a (first_refusal (named_causes-map f id (delete_row_causes user id forced (map_state f s)) s j))
      ((ap (delete_meant a id) (meant_row-map f id s) ∙ meant (meant_row id s)) j))
      ∙ unless-map a (first_refusal (delete_causes user id forced s)) (delete_meant a id (meant_row id s))
    where
      meant : (o : Option (Row E)) → delete_meant a id (option_map (map_row f) o) ≡ map_stepped f (delete_meant a id o)
      meant None = refl
      meant (Some r) = choice-map f (is_running r.state) _ _ _ _ refl refl

  kills-map : (e : Edit) (s : State E) → kills_of e (map_state f s) ≡ map (map_pending f) (kills_of e s)
  kills-map (RowsOf (AbortQueue q)) s = ap (map kill) (sym (map-filter (map_row f) (runs_in_queue q) s.rows))
      ∙ sym (map-mapped (map_pending f) (map_row f) kill kill (λ r. refl) (filter (runs_in_queue q) s.rows))
  kills-map e s = refl

  on_edit-map : (a : Asker) (e : Edit) (s : State E) → on_edit a e (map_state f s) ≡ map_stepped f (on_edit a e s)
  on_edit-map a e s =
      (λ j. unless_refused a (first_refusal (edit_causes-map f e s j)) (makes (Edited e) (reply_to a reply.Done ∷ kills-map e s j)))
      ∙ unless-map a (first_refusal (edit_causes e s)) (makes (Edited e) (reply_to a reply.Done ∷ kills_of e s))

  on_stat-map : (a : Asker) (user : Option (List ℕ)) (queues : List (List ℕ)) (s : State E)
      → on_stat a user queues (map_state f s) ≡ map_stepped f (on_stat a user queues s)
  on_stat-map a user queues s =
      ap (λ l. unless_refused a (first_refusal (stat_causes queues s)) (answer_to a (reply.Lines l))) (stat_lines-map f user queues s)
      ∙ unless-map a (first_refusal (stat_causes queues s)) (answer_to a (reply.Lines (stat_lines user queues s)))

  why_reply-map : (now : ℕ) (id : Named) (s : State E) (o : Option (Row E)) → why_reply now id (map_state f s) (option_map (map_row f) o) ≡ why_reply now id s o
  why_reply-map now id s None = refl
  why_reply-map now id s (Some r) = ap reply.Lines (why_lines-map f now s r)

  behind-map : (done : Stepped E) (more : List (Pending E)) → record {
    change = done.change;
    outputs = map (map_pending f) done.outputs ++ map (map_pending f) more;
    halts = done.halts;
  } ≡ map_stepped f (record { change = done.change; outputs = done.outputs ++ more; halts = done.halts })
  behind-map done more = ap (λ l. record { change = done.change; outputs = l; halts = done.halts }) (sym (map-append (map_pending f) done.outputs more))

  on_allowed-map : (now : ℕ) (a : Asker) (user : List ℕ) (c : Command) (s : State E)
      → on_allowed now a user c (map_state f s) ≡ map_stepped f (on_allowed now a user c s)
  on_allowed-map now a user (command.Submit sub) s = on_submit-map a sub s
  on_allowed-map now a user (command.Edit e) s = on_edit-map a e s
  on_allowed-map now a user (command.Stat owner queues) s = on_stat-map a owner queues s
  on_allowed-map now a user (command.Delete id forced) s = on_delete-map a user id forced s
  on_allowed-map now a user (command.Show code) s = ap (λ l. answer_to a (reply.Lines l)) (show_lines-map f code s)
  on_allowed-map now a user (command.Why id) s =
      ap (answer_to a) (ap (why_reply now id (map_state f s)) (meant_row-map f id s) ∙ why_reply-map now id s (meant_row id s))
  on_allowed-map now a user command.Tick s = ap (then_reply a) (ticked-map f now s) ∙ behind-map (ticked now s) (reply_to a reply.Done ∷ [])
  on_allowed-map now a user c s = refl

  acknowledged-map : (port : ℕ) (id : RequestId) (start : ℕ) → acknowledged port id start ≡ map (map_pending f) (acknowledged port id start)
  acknowledged-map port id start = by (port == 0)
    where
      by : (b : Bool) → (if b then [] else ready (out.Ack port id start) ∷ []) ≡ map (map_pending f) (if b then [] else ready (out.Ack port id start) ∷ [])
      by true = refl
      by false = refl

  ended-map : (o : Option (Row E)) (start status : ℕ) (output error : List ℕ) (s : State E)
      → ended_by (option_map (map_row f) o) start status output error (map_state f s) ≡ map_stepped f (ended_by o start status output error s)
  ended-map None start status output error s = refl
  ended-map (Some r) start status output error s = choice-map f (is_start start r) _ _ _ _ (on_end-map f status r output error s) refl

  unlaunched-map : (o : Option (Row E)) (id : RequestId) (start : ℕ) → unlaunched_by (option_map (map_row f) o) id start
      ≡ map_stepped f (unlaunched_by o id start)
  unlaunched-map None id start = refl
  unlaunched-map (Some r) id start = choice-map f (is_start start r) _ _ _ _ refl refl

  -- a step of a state and one of what it is mapped to are the same
  pub step-map : (e : Event) (s : State E) → step e (map_state f s) ≡ map_stepped f (step e s)
  step-map (event.Ask now port token user c) s =
      let a : Asker = record { port = port; token = token } in
      ap (unless_refused a (may_command (rank user s) c)) (on_allowed-map now a user c s)
      ∙ unless-map a (may_command (rank user s) c) (on_allowed now a user c s)
  step-map (event.Arrived now m) s = on_message-map f m.from m.body s
  step-map (event.Ended now port id start status output error) s =
      ap (then_ack port id start) (ap (λ o. ended_by o start status output error (map_state f s)) (find_row-map f id s)
      ∙ ended-map (find_row id s) start status output error s)
      ∙ ap (λ l. record {
        change = (ended_by (find_row id s) start status output error s).change;
        outputs = map (map_pending f) (ended_by (find_row id s) start status output error s).outputs ++ l;
        halts = (ended_by (find_row id s) start status output error s).halts;
      }) (acknowledged-map port id start)
      ∙ behind-map (ended_by (find_row id s) start status output error s) (acknowledged port id start)
  step-map (event.Unlaunched now id start) s = ap (λ o. unlaunched_by o id start) (find_row-map f id s) ∙ unlaunched-map (find_row id s) id start
  step-map (event.Written now file) s = on_written-map f file s
  step-map (event.Unwritten now file) s = refl
  step-map (event.Tick now) s = ticked-map f now s
