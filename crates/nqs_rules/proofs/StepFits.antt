-- What a step makes fits its state: commands.
use Rattle.std.proofs.Common.{◌≡◌, ℕ, ◌+◌, Bool, true, false, not, ◌&&◌, ◌||◌, nat_lt, nat_le, List, [], ◌∷◌, filter, slice_get, Option, None, Some, Result, Ok}
use Rattle.std.proofs.Common.{Err, is_ok, refl, sym, ap, ◌∙◌, arith, if◌then◌else◌}
use Rattle.std.proofs.lemmas.Bool.{and_parts, or_parts, or_right, leb-false, lt-ltb, not-false, not_from_false}
use Rattle.std.specs.List.{list_all}
use Rattle.std.specs.Option.{IfSome}
use Rattle.nqs_base.proofs.Plain.{all_places}
use Rattle.nqs_state.specs.State.{State}
use Rattle.nqs_types.specs.Ids.{id_exact, peer_number_eq, peer_number_exact, hand_key}
use Rattle.nqs_state.specs.Keys.{is_row}
use Rattle.nqs_types.specs.declared.ids.Named.{Named}
use Rattle.nqs_types.specs.declared.ids.RequestId.{RequestId}
use Rattle.nqs_types.specs.declared.ids.PeerNumber.{PeerNumber}
use Rattle.nqs_types.specs.declared.request.Row.{Row}
use Rattle.nqs_types.specs.declared.request.Hand.{Hand}
use Rattle.nqs_types.specs.declared.refusal.Refusal.{Refusal}
use Rattle.nqs_types.specs.declared.refusal.Refusal.TheVariants.{NoQueue, HostFull, NumbersUsed}
use Rattle.nqs_types.specs.declared.change.Change.{Change}
use Rattle.nqs_types.specs.declared.change.Change.TheVariants.{Deleted, Doomed, Edited}
use Rattle.nqs_types.specs.declared.event.Submission.{Submission}
use Rattle.nqs_types.specs.declared.event.Command.{Command}
use Rattle.nqs_state.specs.Least.{runs_now}
use Rattle.nqs_types.specs.declared.event.Command.TheVariants as command
use Rattle.nqs_types.specs.declared.event.Reply.TheVariants as reply
use Rattle.nqs_rules.specs.Tests.{passes, is_running, is_offered, last_seq}
use Rattle.nqs_rules.specs.Causes.{Cause, cause, first_refusal}
use Rattle.nqs_rules.specs.Find.{peer_number, has_queue, find_queue, find_row, row_of, meant_request, meant_row}
use Rattle.nqs_rules.specs.Access.{rank, command_causes}
use Rattle.nqs_rules.specs.Rows.{queue_meant, causes_of, queue_entry_causes, submit_causes_at, delete_causes, is_host_full, numbers_used, arrivals_used}
use Rattle.nqs_rules.specs.Sane.{is_asked_job, is_sane_folder, is_asked, is_short_script, is_sane_command, is_sane_change}
use Rattle.nqs_rules.specs.Fits.{fits, edit_causes, is_offered_hand, hand_passes, is_idle, row_passes}
use Rattle.nqs_rules.specs.Stepped.{Stepped, makes}
use Rattle.nqs_rules.specs.Handover.{later, is_silent, silent_hands, silence}
use Rattle.nqs_rules.specs.Step.{Asker, reply_to, answer_to, kill, kills_of, stat_causes, unless_refused, submit_to, on_submit, delete_row, delete_meant}
use Rattle.nqs_rules.specs.Step.{on_delete, on_allowed, on_command, ticked}
use Rattle.nqs_rules.specs.Text.{stat_lines}
use Rattle.nqs_rules.specs.InOrder.{IsInOrder}
use Rattle.nqs_rules.proofs.Chains.{chained, implied}
use Rattle.nqs_rules.proofs.KeyFacts.{filter_all}
use Rattle.nqs_rules.proofs.ListFacts.{found_passes, found_again}
use Rattle.nqs_rules.proofs.FindKept.{all-mapped}
use Rattle.nqs_rules.proofs.StateFacts.{keys_are}
use Rattle.nqs_rules.proofs.RowFacts.{same_peer_number}
use Rattle.nqs_rules.proofs.ConfOrder.{Allows, none_holds, causes_behind}
use Rattle.nqs_rules.proofs.PathsFit.{completed_sane}

module _ {E : Type 0} where
  -- a change, if there is one, fits and is within its limits
  abbrev pub Fitting : State E → Option (Change (List ℕ)) → Type 0
  Fitting s o = IfSome o (λ c. (fits c s ≡ true) × (is_sane_change c ≡ true))

  -- a row is found by its own request
  pub found_itself : (s : State E) (id : RequestId) (r : Row E) → find_row id s ≡ Some r → find_row r.id s ≡ Some r
  found_itself s id r found = ap (λ i. find_row i s) (sym (id_exact id r.id (found_passes (is_row id) s.rows r found))) ∙ found

  pub passes_found : (test : Row E → Bool) (s : State E) (r : Row E) → find_row r.id s ≡ Some r → test r ≡ true → row_passes test r.id s ≡ true
  passes_found test s r found h = ap (passes test) found ∙ h

  module _ (s : State E) (h : IsInOrder s) where
    unless : (a : Asker) (causes : List Cause) (done : Stepped E) → (Allows causes → Fitting s done.change)
        → Fitting s (unless_refused a (first_refusal causes) done).change
    unless a causes done fitting = by (first_refusal causes) refl
      where
        by : (o : Result (Unit {0}) Refusal) → first_refusal causes ≡ o → Fitting s (unless_refused a o done).change
        by (Err refusal) e = tt
        by (Ok u) e = fitting (ap is_ok e)

    submit_fits : (a : Asker) (sub : Submission) → is_asked sub ≡ true → Fitting s (on_submit a sub s).change
    submit_fits a sub asked = of (queue_meant sub.queue s.default_queue)
      where
        made : (q : List ℕ) → Allows (submit_causes_at sub.job (Some q) s) → Fitting s (submit_to a sub s (Some q)).change
        made q allows =
            let entry : List Cause = causes_of (queue_entry_causes sub.job) (find_queue q s) in
            let first : List Cause = cause (not (has_queue q s)) (NoQueue q) ∷ entry in
            let last : List Cause = cause (is_host_full s) HostFull ∷ cause (numbers_used s) NumbersUsed ∷ [] in
            let parts = causes_behind first last allows in
            let there = not-false (has_queue q s) (none_holds first parts.0).0 in
            let room = none_holds last parts.1 in
            let used = or_parts (nat_le last_seq s.seq) (arrivals_used s) room.1.0 in
            let below = leb-false last_seq s.seq used.0 in (
              chained (has_queue q s) (not (is_host_full s) ∷ nat_lt s.seq last_seq ∷ not (arrivals_used s) ∷ []) (
                there,
                (
                  not_from_false (is_host_full s) room.0,
                  (
                    lt-ltb s.seq last_seq (omega (arith, below)),
                    (not_from_false (arrivals_used s) used.1, tt),
                  ),
                ),
              ),
              completed_sane (s.seq + 1) sub.folder sub.job (omega (arith, below)) (and_parts (is_asked_job sub.job) (is_sane_folder sub.folder) asked).0
                  (and_parts (is_asked_job sub.job) (is_sane_folder sub.folder) asked).1,
            )

        of : (o : Option (List ℕ)) → Fitting s (unless_refused a (first_refusal (submit_causes_at sub.job o s)) (submit_to a sub s o)).change
        of None = tt
        of (Some q) = unless a (submit_causes_at sub.job (Some q) s) (submit_to a sub s (Some q)) (made q)

    delete_fits : (a : Asker) (user : List ℕ) (id : Named) (forced : Bool) → Fitting s (on_delete a user id forced s).change
    delete_fits a user id forced = unless a (delete_causes user id forced s) (delete_meant a id (meant_row id s)) (λ allows. of (meant_request id s))
      where
        deleted : (r : Row E) → find_row r.id s ≡ Some r → Fitting s (delete_row a r).change
        deleted r found = by (is_running r.state) refl
          where
            by : (b : Bool) → is_running r.state ≡ b → Fitting s (if b then makes (Doomed r.id) (reply_to a (reply.Signalled r.id) ∷ kill r ∷ []) else
                makes (Deleted r.id) (reply_to a (reply.Deleted r.id) ∷ [])).change
            by true e = (passes_found runs_now s r found e, refl)
            by false e = (passes_found is_idle s r found (not_from_false (is_running r.state) e), refl)

        at : (rid : RequestId) (o : Option (Row E)) → find_row rid s ≡ o → Fitting s (delete_meant a id o).change
        at rid None found = tt
        at rid (Some r) found = deleted r (found_itself s rid r found)

        of : (o : Option RequestId) → Fitting s (delete_meant a id (row_of o s)).change
        of None = tt
        of (Some rid) = at rid (find_row rid s) refl

    -- the offers that a tick takes back are there
    pub tick_fits : (now : ℕ) → Fitting s (ticked now s).change
    tick_fits now = of (silent_hands now s) offered
      where
        one : (n : ℕ) (x : Hand) → slice_get s.hands n ≡ Some x → (not (is_silent now s x) || hand_passes is_offered_hand x.peer x.number s) ≡ true
        one n x at = by (is_offered x.phase) refl
          where
            by : (b : Bool) → is_offered x.phase ≡ b → (not (b && nat_le (later x.since s.patience) now) || hand_passes is_offered_hand x.peer x.number s)
                ≡ true
            by true e = or_right (not (nat_le (later x.since s.patience) now)) (hand_passes is_offered_hand x.peer x.number s)
                (ap (passes is_offered_hand) (found_again peer_number_eq hand_key peer_number_exact same_peer_number s.hands n x (keys_are s h.keys).hands at)
                ∙ e)
            by false e = refl

        offered : list_all (λ k. hand_passes is_offered_hand k.peer k.number s) (silent_hands now s) ≡ true
        offered = all-mapped (λ x. hand_passes is_offered_hand x.peer x.number s) (λ k. hand_passes is_offered_hand k.peer k.number s)
            (λ x. peer_number x.peer x.number) (λ x e. e) (filter (is_silent now s) s.hands)
            (filter_all (is_silent now s) (λ x. not (is_silent now s x) || hand_passes is_offered_hand x.peer x.number s)
            (λ x. hand_passes is_offered_hand x.peer x.number s) (λ x silent e. implied (is_silent now s x)
            (hand_passes is_offered_hand x.peer x.number s) e silent) s.hands
            (all_places (λ x. not (is_silent now s x) || hand_passes is_offered_hand x.peer x.number s) s.hands one))

        of : (ks : List PeerNumber) → list_all (λ k. hand_passes is_offered_hand k.peer k.number s) ks ≡ true → Fitting s (silence now s.retry_wait ks)
        of [] all = tt
        of (k ∷ ks) all = (all, refl)

    allowed_fits : (now : ℕ) (a : Asker) (user : List ℕ) (c : Command) → is_sane_command c ≡ true → Fitting s (on_allowed now a user c s).change
    allowed_fits now a user (command.Submit sub) sane = submit_fits a sub (and_parts (is_asked sub) (is_short_script sub.script) sane).0
    allowed_fits now a user (command.Edit e) sane = unless a (edit_causes e s) (makes (Edited e) (reply_to a reply.Done ∷ kills_of e s))
        (λ allows. (allows, sane))
    allowed_fits now a user (command.Stat owner queues) sane = unless a (stat_causes queues s) (answer_to a (reply.Lines (stat_lines owner queues s)))
        (λ allows. tt)
    allowed_fits now a user (command.Delete id forced) sane = delete_fits a user id forced
    allowed_fits now a user (command.Show code) sane = tt
    allowed_fits now a user (command.Why id) sane = tt
    allowed_fits now a user command.Shutdown sane = tt
    allowed_fits now a user command.Tick sane = tick_fits now
    allowed_fits now a user (command.UnreadLine fault) sane = tt
    allowed_fits now a user (command.UnreadWords fault) sane = tt

    pub command_fits : (now : ℕ) (a : Asker) (user : List ℕ) (c : Command) → is_sane_command c ≡ true → Fitting s (on_command now a user c s).change
    command_fits now a user c sane = unless a (command_causes (rank user s) c) (on_allowed now a user c s) (λ allows. allowed_fits now a user c sane)
