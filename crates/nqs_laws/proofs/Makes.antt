-- Which change an event makes.
use Rattle.std.proofs.Common.{◌≡◌, ◌⊎◌, inl, inr, ℕ, ◌+◌, Bool, true, false, List, [], ◌∷◌, Option, None, Some, Result, Ok, Err, true≢false, refl, sym, ap, ◌∙◌}
use Rattle.std.proofs.Common.{if◌then◌else◌}
use Rattle.std.specs.Option.{IfSome}
use Rattle.std.specs.List.{list_any}
use Rattle.nqs_state.specs.State.{Plain}
use Rattle.nqs_state.specs.Keys.{is_stage, is_file}
use Rattle.nqs_base_tables.specs.Table.{without_first}
use Rattle.nqs_types.specs.declared.ids.HostId.{HostId}
use Rattle.nqs_types.specs.declared.ids.Named.{Named}
use Rattle.nqs_types.specs.declared.ids.PeerNumber.{PeerNumber}
use Rattle.nqs_types.specs.declared.request.Row.{Row}
use Rattle.nqs_types.specs.declared.request.Hand.{Hand}
use Rattle.nqs_types.specs.declared.request.Carried.{Carried}
use Rattle.nqs_types.specs.declared.request.Phase.{Phase}
use Rattle.nqs_types.specs.declared.request.Phase.TheVariants.{Offered, Committed}
use Rattle.nqs_types.specs.declared.refusal.Refusal.{Refusal}
use Rattle.nqs_types.specs.declared.change.OutPart.{OutPart}
use Rattle.nqs_types.specs.declared.change.Change.{Change}
use Rattle.nqs_types.specs.declared.change.Change.TheVariants.{Submitted, Deleted, Doomed, Ended, Unlaunched, Edited, HandCommitted, HandRefused, HandsSilent}
use Rattle.nqs_types.specs.declared.change.Change.TheVariants.{HandDone, Promised, Accepted, Dropped, HeldFar, StageGot, StageGone, FileGone}
use Rattle.nqs_types.specs.declared.message.Body.{Body}
use Rattle.nqs_types.specs.declared.message.Body.TheVariants as body
use Rattle.nqs_types.specs.declared.event.Submission.{Submission}
use Rattle.nqs_types.specs.declared.event.Command.{Command}
use Rattle.nqs_types.specs.declared.event.Command.TheVariants as command
use Rattle.nqs_types.specs.declared.event.Event.{Event}
use Rattle.nqs_types.specs.declared.event.Event.TheVariants as event
use Rattle.nqs_types.specs.declared.event.Reply.TheVariants as reply
use Rattle.nqs_types.specs.declared.event.Output.TheVariants as out
use Rattle.nqs_rules.specs.Tests.{passes, is_running}
use Rattle.nqs_rules.specs.Causes.{first_refusal}
use Rattle.nqs_rules.specs.Find.{peer_number, find_row, meant_row, find_hand, has_promise, has_stage, find_peer}
use Rattle.nqs_rules.specs.Access.{rank, may_command}
use Rattle.nqs_rules.specs.Rows.{queue_meant, submit_causes, delete_causes}
use Rattle.nqs_rules.specs.Fits.{edit_causes}
use Rattle.nqs_rules.specs.Stepped.{Stepped, quiet, says, makes, ready}
use Rattle.nqs_rules.specs.Handover.{closes, was_given, send_abort, send_done, send_ready, offer_causes, offer_by, on_offer, ready_phase, ready_with, on_ready}
use Rattle.nqs_rules.specs.Handover.{refused_phase, refused_with, on_refused, on_commit, done_phase, done_with, on_done, on_abort, silent_hands, silence}
use Rattle.nqs_rules.specs.Stage.{has_left, is_got, send_staged, on_end, due_of}
use Rattle.nqs_rules.specs.Step.{Asker, completed, reply_to, answer_to, unless_refused, submit_to, kill, delete_meant, kills_of, stat_causes, on_allowed}
use Rattle.nqs_rules.specs.Step.{on_message, is_start, ended_by, unlaunched_by, step}
use Rattle.nqs_rules.specs.Text.{stat_lines}

-- an open offer of this number
pub record HasHand (phase : Phase) (peer : HostId) (n : ℕ) (s : Plain) : Type 0 where
  pub hand : Hand
  pub found : find_hand peer n s ≡ Some hand
  pub is : hand.phase ≡ phase

-- the change that a message makes
abbrev pub Answers : Body → HostId → Plain → Change (List ℕ) → Type 0
Answers (body.Offer n low queue c script) peer s ch = (ch ≡ Promised peer n low queue c script) × (closes n (find_peer peer s) ≡ false)
    × (has_promise peer n s ≡ false)
Answers (body.Ready n) peer s ch = (ch ≡ HandCommitted peer n) × HasHand Offered peer n s
Answers (body.Refused n refusal) peer s ch = (ch ≡ HandRefused peer n refusal) × HasHand Offered peer n s
Answers (body.Commit n) peer s ch = (ch ≡ Accepted peer n) × (has_promise peer n s ≡ true)
Answers (body.Done n) peer s ch = (ch ≡ HandDone peer n) × HasHand Committed peer n s
Answers (body.Inquire n) peer s ch = (ch ≡ HandCommitted peer n) × HasHand Offered peer n s
Answers (body.Abort n) peer s ch = (ch ≡ Dropped peer n) × (has_promise peer n s ≡ true)
Answers (body.Stage n path bytes) peer s ch = (kept : List ℕ) × (ch ≡ StageGot peer n path kept) × ((kept ≡ bytes) ⊎ (kept ≡ []))
Answers (body.Staged n) peer s ch = ch ≡ StageGone peer n
Answers b peer s ch = ⊥

-- the change that a deletion makes
pub record IsDeleted (id : Named) (s : Plain) (ch : Change (List ℕ)) : Type 0 where
  pub row : Row (List ℕ)
  pub found : meant_row id s ≡ Some row
  pub is : ch ≡ (if is_running row.state then Doomed row.id else Deleted row.id)

-- the change that a command makes
abbrev pub Obeys : ℕ → Command → Plain → Change (List ℕ) → Type 0
Obeys now (command.Submit sub) s ch = (queue : List ℕ) × (ch ≡ Submitted queue (completed (s.seq + 1) sub.folder sub.job) sub.script)
Obeys now (command.Edit e) s ch = ch ≡ Edited e
Obeys now (command.Delete id forced) s ch = IsDeleted id s ch
Obeys now command.Tick s ch = (until : ℕ) × (ch ≡ HandsSilent until (silent_hands now s))
Obeys now c s ch = ⊥

-- the change that an event makes
abbrev pub Follows : Event → Plain → Change (List ℕ) → Type 0
Follows (event.Ask now port token user c) s ch = Obeys now c s ch
Follows (event.Arrived now m) s ch = Answers m.body m.from s ch
Follows (event.Ended now port id start status output error) s ch = (parts : List (OutPart (List ℕ))) × (row : Row (List ℕ)) × (find_row id s ≡ Some row)
    × (is_start start row ≡ true) × (ch ≡ Ended row.id parts)
Follows (event.Unlaunched now id start) s ch = (row : Row (List ℕ)) × (find_row id s ≡ Some row) × (is_start start row ≡ true) × (ch ≡ Unlaunched id)
Follows (event.Written now file) s ch = ch ≡ FileGone file
Follows (event.Unwritten now file) s ch = ⊥
Follows (event.Tick now) s ch = (until : ℕ) × (ch ≡ HandsSilent until (silent_hands now s))

module _ (s : Plain) where
  silenced : (now wait : ℕ) (ks : List PeerNumber) → IfSome (silence now wait ks) (λ ch. (until : ℕ) × (ch ≡ HandsSilent until ks))
  silenced now wait [] = tt
  silenced now wait (k ∷ ks) = (_, refl)

  unless_makes : (P : Change (List ℕ) → Type 0) (a : Asker) (o : Result (Unit {0}) Refusal) (done : Stepped (List ℕ)) → IfSome done.change P
      → IfSome (unless_refused a o done).change P
  unless_makes P a (Err r) done k = tt
  unless_makes P a (Ok u) done k = k

  submit_makes : (now : ℕ) (a : Asker) (sub : Submission) (o : Option (List ℕ)) → IfSome (submit_to a sub s o).change (Obeys now (command.Submit sub) s)
  submit_makes now a sub None = tt
  submit_makes now a sub (Some q) = (q, refl)

  delete_makes : (a : Asker) (id : Named) (o : Option (Row (List ℕ))) → meant_row id s ≡ o → IfSome (delete_meant a id o).change (IsDeleted id s)
  delete_makes a id None e = tt
  delete_makes a id (Some r) e = by (is_running r.state) refl
    where
      by : (b : Bool) → is_running r.state ≡ b → IfSome (if b then makes (Doomed r.id) (reply_to a (reply.Signalled r.id) ∷ kill r ∷ []) else
          makes (Deleted r.id) (reply_to a (reply.Deleted r.id) ∷ [])).change (IsDeleted id s)
      by true k = record { row = r; found = e; is = ap (λ (b : Bool). if b then Doomed r.id else Deleted r.id) (sym k) }
      by false k = record { row = r; found = e; is = ap (λ (b : Bool). if b then Doomed r.id else Deleted r.id) (sym k) }

  command_makes : (now : ℕ) (a : Asker) (user : List ℕ) (c : Command) → IfSome (on_allowed now a user c s).change (Obeys now c s)
  command_makes now a user (command.Submit sub) = unless_makes (Obeys now (command.Submit sub) s) a (first_refusal (submit_causes sub s))
      (submit_to a sub s (queue_meant sub.queue s.default_queue)) (submit_makes now a sub (queue_meant sub.queue s.default_queue))
  command_makes now a user (command.Edit e) = unless_makes (Obeys now (command.Edit e) s) a (first_refusal (edit_causes e s))
      (makes (Edited e) (reply_to a reply.Done ∷ kills_of e s)) refl
  command_makes now a user (command.Stat owner queues) = unless_makes (Obeys now (command.Stat owner queues) s) a (first_refusal (stat_causes queues s))
      (answer_to a (reply.Lines (stat_lines owner queues s))) tt
  command_makes now a user (command.Delete id forced) = unless_makes (IsDeleted id s) a (first_refusal (delete_causes user id forced s))
      (delete_meant a id (meant_row id s)) (delete_makes a id (meant_row id s) refl)
  command_makes now a user (command.Show code) = tt
  command_makes now a user (command.Why id) = tt
  command_makes now a user command.Shutdown = tt
  command_makes now a user command.Tick = silenced now s.retry_wait (silent_hands now s)
  command_makes now a user (command.UnreadLine fault) = tt
  command_makes now a user (command.UnreadWords fault) = tt

  module _ (peer : HostId) where
    offer_makes : (n low : ℕ) (queue : List ℕ) (c : Carried) (script : List ℕ)
        → IfSome (on_offer peer n low queue c script s).change (Answers (body.Offer n low queue c script) peer s)
    offer_makes n low queue c script = by (closes n (find_peer peer s)) refl (has_promise peer n s) refl
      where
        made : closes n (find_peer peer s) ≡ false → has_promise peer n s ≡ false → (o : Result (Unit {0}) Refusal)
            → IfSome (offer_by o peer n low queue c script s).change (Answers (body.Offer n low queue c script) peer s)
        made opens new (Err r) = tt
        made opens new (Ok u) = (refl, opens, new)

        by : (a : Bool) → closes n (find_peer peer s) ≡ a → (b : Bool) → has_promise peer n s ≡ b
            → IfSome (if a then says (send_done s peer n ∷ []) else (if b then says (send_ready s peer n ∷ []) else
            offer_by (first_refusal (offer_causes peer low queue c s)) peer n low queue c script s)).change (Answers (body.Offer n low queue c script) peer s)
        by true opens b new = tt
        by false opens true new = tt
        by false opens false new = made opens new (first_refusal (offer_causes peer low queue c s))

    ready_makes : (n : ℕ) → IfSome (on_ready peer n s).change (λ ch. (ch ≡ HandCommitted peer n) × HasHand Offered peer n s)
    ready_makes n = of (find_hand peer n s) refl
      where
        missing : (b : Bool) → IfSome (if b then says (send_abort s peer n ∷ []) else quiet).change
            (λ ch. (ch ≡ HandCommitted peer n) × HasHand Offered peer n s)
        missing true = tt
        missing false = tt

        by : (x : Hand) → find_hand peer n s ≡ Some x → (p : Phase) → x.phase ≡ p
            → IfSome (ready_phase p peer n s).change (λ ch. (ch ≡ HandCommitted peer n) × HasHand Offered peer n s)
        by x found Offered is = (refl, record { hand = x; found = found; is = is })
        by x found Committed is = tt

        of : (o : Option Hand) → find_hand peer n s ≡ o → IfSome (ready_with o peer n s).change (λ ch. (ch ≡ HandCommitted peer n) × HasHand Offered peer n s)
        of None found = missing (was_given n (find_peer peer s))
        of (Some x) found = by x found x.phase refl

    refused_makes : (n refusal : ℕ) → IfSome (on_refused peer n refusal s).change (λ ch. (ch ≡ HandRefused peer n refusal) × HasHand Offered peer n s)
    refused_makes n refusal = of (find_hand peer n s) refl
      where
        by : (x : Hand) → find_hand peer n s ≡ Some x → (p : Phase) → x.phase ≡ p
            → IfSome (refused_phase {E = List ℕ} p peer n refusal).change (λ ch. (ch ≡ HandRefused peer n refusal) × HasHand Offered peer n s)
        by x found Offered is = (refl, record { hand = x; found = found; is = is })
        by x found Committed is = tt

        of : (o : Option Hand) → find_hand peer n s ≡ o → IfSome (refused_with {E = List ℕ} o peer n refusal).change
            (λ ch. (ch ≡ HandRefused peer n refusal) × HasHand Offered peer n s)
        of None found = tt
        of (Some x) found = by x found x.phase refl

    done_makes : (n : ℕ) → IfSome (on_done peer n s).change (λ ch. (ch ≡ HandDone peer n) × HasHand Committed peer n s)
    done_makes n = of (find_hand peer n s) refl
      where
        by : (x : Hand) → find_hand peer n s ≡ Some x → (p : Phase) → x.phase ≡ p
            → IfSome (done_phase {E = List ℕ} p peer n).change (λ ch. (ch ≡ HandDone peer n) × HasHand Committed peer n s)
        by x found Offered is = tt
        by x found Committed is = (refl, record { hand = x; found = found; is = is })

        of : (o : Option Hand) → find_hand peer n s ≡ o → IfSome (done_with {E = List ℕ} o peer n).change
            (λ ch. (ch ≡ HandDone peer n) × HasHand Committed peer n s)
        of None found = tt
        of (Some x) found = by x found x.phase refl

    commit_makes : (n : ℕ) → IfSome (on_commit peer n s).change (λ ch. (ch ≡ Accepted peer n) × (has_promise peer n s ≡ true))
    commit_makes n = by (has_promise peer n s) refl (closes n (find_peer peer s))
      where
        by : (a : Bool) → has_promise peer n s ≡ a → (b : Bool) → IfSome (if a then makes (Accepted peer n) (send_done s peer n ∷ []) else
            (if b then says (send_done s peer n ∷ []) else quiet)).change (λ ch. (ch ≡ Accepted peer n) × (has_promise peer n s ≡ true))
        by true is b = (refl, is)
        by false is true = tt
        by false is false = tt

    abort_makes : (n : ℕ) → IfSome (on_abort peer n s).change (λ ch. (ch ≡ Dropped peer n) × (has_promise peer n s ≡ true))
    abort_makes n = by (has_promise peer n s) refl
      where
        by : (a : Bool) → has_promise peer n s ≡ a → IfSome (if a then makes {E = List ℕ} (Dropped peer n) [] else quiet).change
            (λ ch. (ch ≡ Dropped peer n) × (has_promise peer n s ≡ true))
        by true is = (refl, is)
        by false is = tt

    stage_makes : (n : ℕ) (path bytes : List ℕ) (a b : Bool)
        → IfSome (if a then says (send_staged s peer n ∷ []) else (if b then
        makes (StageGot peer n path bytes) (send_staged s peer n ∷ ready (out.File s.file_next path bytes) ∷ []) else
        makes (StageGot peer n path []) (send_staged s peer n ∷ []))).change (Answers (body.Stage n path bytes) peer s)
    stage_makes n path bytes true b = tt
    stage_makes n path bytes false true = (bytes, refl, inl refl)
    stage_makes n path bytes false false = ([], refl, inr refl)

    staged_makes : (n : ℕ) (a : Bool) → IfSome (if a then makes (StageGone peer n) (due_of s peer (without_first (is_stage (peer_number peer n)) s.stages)) else
        quiet).change (λ ch. ch ≡ StageGone peer n)
    staged_makes n true = refl
    staged_makes n false = tt

    message_makes : (b : Body) → IfSome (on_message peer b s).change (Answers b peer s)
    message_makes (body.Offer n low queue c script) = offer_makes n low queue c script
    message_makes (body.Ready n) = ready_makes n
    message_makes (body.Refused n refusal) = refused_makes n refusal
    message_makes (body.Commit n) = commit_makes n
    message_makes (body.Done n) = done_makes n
    message_makes (body.Inquire n) = ready_makes n
    message_makes (body.Abort n) = abort_makes n
    message_makes (body.Stage n path bytes) = stage_makes n path bytes (passes (is_got n) (find_peer peer s)) (has_left s.file_next 0)
    message_makes (body.Staged n) = staged_makes n (has_stage peer n s)
    message_makes b = tt

  -- which change an event makes
  pub step_makes : (e : Event) → IfSome (step e s).change (Follows e s)
  step_makes (event.Ask now port token user c) = unless_makes (Obeys now c s) (record { port = port; token = token }) (may_command (rank user s) c)
      (on_allowed now (record { port = port; token = token }) user c s) (command_makes now (record { port = port; token = token }) user c)
  step_makes (event.Arrived now m) = message_makes m.from m.body
  step_makes (event.Ended now port id start status output error) = of (find_row id s) refl
    where
      by : (r : Row (List ℕ)) → find_row id s ≡ Some r → (b : Bool) → is_start start r ≡ b
          → IfSome (if b then on_end status r output error s else quiet).change (Follows (event.Ended now port id start status output error) s)
      by r found true is = (_, r, found, is, refl)
      by r found false is = tt

      of : (o : Option (Row (List ℕ))) → find_row id s ≡ o → IfSome (ended_by o start status output error s).change
          (Follows (event.Ended now port id start status output error) s)
      of None found = tt
      of (Some r) found = by r found (is_start start r) refl
  step_makes (event.Unlaunched now id start) = of (find_row id s) refl
    where
      by : (r : Row (List ℕ)) → find_row id s ≡ Some r → (b : Bool) → is_start start r ≡ b
          → IfSome (if b then makes {E = List ℕ} (Unlaunched id) (ready (out.Unlaunched id start) ∷ []) else quiet).change
          (Follows (event.Unlaunched now id start) s)
      by r found true is = (r, found, is, refl)
      by r found false is = tt

      of : (o : Option (Row (List ℕ))) → find_row id s ≡ o → IfSome (unlaunched_by o id start).change (Follows (event.Unlaunched now id start) s)
      of None found = tt
      of (Some r) found = by r found (is_start start r) refl
  step_makes (event.Written now file) = by (list_any (is_file file) s.files)
    where
      by : (a : Bool) → IfSome (if a then makes {E = List ℕ} (FileGone file) [] else quiet).change (λ ch. ch ≡ FileGone file)
      by true = refl
      by false = tt
  step_makes (event.Unwritten now file) = tt
  step_makes (event.Tick now) = silenced now s.retry_wait (silent_hands now s)

-- no other event makes a request, or holds one that came too far

-- it isn't a submission
abbrev IsNoSubmission : Command → Type 0
IsNoSubmission (command.Submit sub) = ⊥
IsNoSubmission c = Unit {0}

abbrev pub BringsNone : Event → Type 0
BringsNone (event.Ask now port token user c) = IsNoSubmission c
BringsNone e = Unit {0}

abbrev pub is_new_or_far : Change (List ℕ) → Bool
is_new_or_far (Submitted queue job script) = true
is_new_or_far (HeldFar id) = true
is_new_or_far c = false

module _ (s : Plain) (ch : Change (List ℕ)) (new_or_far : is_new_or_far ch ≡ true) where
  not_other : (d : Change (List ℕ)) → is_new_or_far d ≡ false → ch ≡ d → ⊥
  not_other d other is = true≢false (sym new_or_far ∙ (ap is_new_or_far is ∙ other))

  answers_other : (b : Body) (peer : HostId) → Answers b peer s ch → ⊥
  answers_other (body.Offer n low queue c script) peer f = not_other _ refl f.0
  answers_other (body.Ready n) peer f = not_other _ refl f.0
  answers_other (body.Refused n refusal) peer f = not_other _ refl f.0
  answers_other (body.Commit n) peer f = not_other _ refl f.0
  answers_other (body.Done n) peer f = not_other _ refl f.0
  answers_other (body.Inquire n) peer f = not_other _ refl f.0
  answers_other (body.Abort n) peer f = not_other _ refl f.0
  answers_other (body.Stage n path bytes) peer f = not_other _ refl f.1
  answers_other (body.Staged n) peer f = not_other _ refl f
  answers_other b peer f = f

  obeys_other : (now : ℕ) (c : Command) → IsNoSubmission c → Obeys now c s ch → ⊥
  obeys_other now (command.Submit sub) none f = none
  obeys_other now (command.Edit e) none f = not_other _ refl f
  obeys_other now (command.Delete id forced) none f = by (is_running f.row.state) f.is
    where
      by : (b : Bool) → ch ≡ (if b then Doomed f.row.id else Deleted f.row.id) → ⊥
      by true is = not_other _ refl is
      by false is = not_other _ refl is
  obeys_other now command.Tick none f = not_other _ refl f.1
  obeys_other now c none f = f

  pub follows_other : (e : Event) → BringsNone e → Follows e s ch → ⊥
  follows_other (event.Ask now port token user c) none f = obeys_other now c none f
  follows_other (event.Arrived now x) none f = answers_other x.body x.from f
  follows_other (event.Ended now port id start status output error) none f = not_other _ refl f.4
  follows_other (event.Unlaunched now id start) none f = not_other _ refl f.3
  follows_other (event.Written now file) none f = not_other _ refl f
  follows_other (event.Unwritten now file) none f = f
  follows_other (event.Tick now) none f = not_other _ refl f.1
