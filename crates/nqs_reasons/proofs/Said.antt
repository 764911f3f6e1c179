-- Each reason is told exactly where what it says is so.
use Rattle.std.proofs.Common.{◌≡◌, ◌⊎◌, ℕ, ◌<◌, ◌≤◌, ◌==◌, Bool, true, false, not, ◌&&◌, ◌||◌, nat_lt, nat_le, List, [], ◌∷◌, ◌++◌, map, filter, length}
use Rattle.std.proofs.Common.{slice_get}
use Rattle.std.proofs.Common.{Option, None, Some, is_some, unwrap_or, inl, inr, refl, sym, ap, subst, ◌∙◌, true≢false, arith, if◌then◌else◌}
use Rattle.std.specs.List.{list_any, list_all}
use Rattle.std.proofs.lemmas.Bool.{and_parts}
use Rattle.std.proofs.lemmas.Bool.Decides.{nat_tests}
use Rattle.nqs_base.specs.Same.{name_eq}
use Rattle.nqs_state.specs.State.{Plain}
use Rattle.nqs_types.specs.declared.ids.Dest.{Dest}
use Rattle.nqs_types.specs.declared.request.RowState.{RowState}
use Rattle.nqs_types.specs.declared.request.RowState.TheVariants.{Queued, Routing, Running}
use Rattle.nqs_types.specs.declared.request.Hold.{Hold}
use Rattle.nqs_types.specs.declared.request.Hold.TheVariants.{No, User, System}
use Rattle.nqs_types.specs.declared.queue.Kind.{Kind}
use Rattle.nqs_types.specs.declared.queue.Kind.TheVariants.{Batch, Device, Pipe}
use Rattle.nqs_types.specs.declared.queue.QueueDef.{QueueDef}
use Rattle.nqs_types.specs.declared.queue.ComplexDef.{ComplexDef}
use Rattle.nqs_types.specs.declared.queue.DeviceDef.{DeviceDef}
use Rattle.nqs_types.specs.declared.reason.Reason.{Reason}
use Rattle.nqs_types.specs.declared.reason.Reason.TheVariants.{Runs, OnItsWay, HeldByUser, HeldBySystem, NotBefore, NoQueue, QueueStopped, UserLimit}
use Rattle.nqs_types.specs.declared.reason.Reason.TheVariants.{RunLimit, ComplexLimit, GlobalLimit, NoDevice, NoDestination, Next}
use Rattle.nqs_rules.specs.Tests.{passes, is_queued, is_unheld, is_running, is_routing, is_active}
use Rattle.nqs_rules.specs.Find.{has_name, find_queue, find_device}
use Rattle.nqs_rules.specs.Picked.{PlainRow, may_start}
use Rattle.nqs_rules.specs.Devices.{has_forms, same_name_as, is_free_device, free_device}
use Rattle.nqs_rules.specs.Routing.{may_try, destination}
use Rattle.nqs_rules.specs.Order.{below, is_active_in, is_active_of, runs_in, runs_in_batch, is_eligible}
use Rattle.nqs_rules.specs.Answers.{answer_of}
use Rattle.nqs_rules.specs.Reasons.{failing, or_last, state_reason, hold_reason, own_conditions, queue_conditions, complex_condition, global_condition}
use Rattle.nqs_rules.specs.Reasons.{kind_conditions, wait_conditions, next_in, first_failing, keeping, reason_in, reason_of, reasons_of}
use Rattle.nqs_reasons.specs.Chosen.{is_next, all_hold, may_be_tried}
use Rattle.nqs_reasons.specs.Says.{Has, has_left, has_left_of, could_print, suits, Says}
use Rattle.nqs_reasons.proofs.Failing.{Failed, failed_told, told_failed, failed_parts, failed_left, failed_right, failed_map, map_failed}
use Rattle.nqs_reasons.proofs.Failing.{none_failing, all_holding, first_is, first_before, kept_told, told_kept, has_parts, has_left_part, has_right_part}
use Rattle.nqs_reasons.proofs.Next.{all_may, next_is}
use Rattle.nqs_reasons.proofs.Tried.{some_place, free_is}

-- a number isn't less

reached : (n limit : ℕ) → nat_lt n limit ≡ false → limit ≤ n
reached n limit h = grind (arith, nat_tests)

not_below : (n limit : ℕ) → limit ≤ n → nat_lt n limit ≡ false
not_below n limit h = grind (arith, nat_tests)

later : (n m : ℕ) → nat_le n m ≡ false → m < n
later n m h = grind (arith, nat_tests)

not_come : (n m : ℕ) → m < n → nat_le n m ≡ false
not_come n m h = grind (arith, nat_tests)

-- neither

neither : (a b : Bool) → (not a || b) ≡ false → (a ≡ true) × (b ≡ false)
neither true b h = (refl, h)
neither false b h = absurd (true≢false h)

none_of : (a b : Bool) → (a || b) ≡ false → (a ≡ false) × (b ≡ false)
none_of true b h = absurd (true≢false h)
none_of false b h = (refl, h)

-- what counts against the limits of a queue

active : (x : RowState) → is_active x ≡ (is_running x || is_routing x)
active Running = refl
active Routing = refl
active Queued = refl

left_are : (q : List ℕ) (rows : List PlainRow) → length (filter (is_active_in q) rows) ≡ length (filter (has_left q) rows)
left_are q rows = (λ j. length (filter (λ r. active r.state j && name_eq q r.queue) rows))

owners_are : (q owner : List ℕ) (rows : List PlainRow) → length (filter (is_active_of q owner) rows) ≡ length (filter (has_left_of q owner) rows)
owners_are q owner rows = (λ j. length (filter (λ r. (active r.state j && name_eq q r.queue) && name_eq owner r.job.owner) rows))

-- devices

fit : (forms : Option (List ℕ)) (device : DeviceDef) → has_forms forms device ≡ suits forms device
fit None device = refl
fit (Some f) device = refl

printed : (device : List ℕ) (o : Option (List ℕ)) → same_name_as device o ≡ passes (name_eq device) o
printed device None = refl
printed device (Some e) = refl

suited : (forms : Option (List ℕ)) (s : Plain) (name : List ℕ) → is_free_device forms s name ≡ could_print forms s name
suited forms s name =
    (λ j. passes (λ device. device.enabled && fit forms device j) (find_device name s)
    && not (list_any (λ r. is_running r.state && printed name r.device j) s.rows))

printable : (d : QueueDef) (forms : Option (List ℕ)) (s : Plain) → is_some (free_device d forms s) ≡ list_any (could_print forms s) d.devices
printable d forms s = some_place (is_free_device forms s) d.devices ∙ (λ j. list_any (λ name. suited forms s name j) d.devices)

-- what the first word of an answer is

queued_only : (x : RowState) → is_queued x ≡ true → x ≡ Queued
queued_only Queued h = refl
queued_only Routing h = absurd (true≢false (sym h))
queued_only Running h = absurd (true≢false (sym h))

module _ (now : ℕ) (s : Plain) (r : PlainRow) where
  -- told of the request itself
  held : r.state ≡ Queued → (h : Hold) → r.hold ≡ h → is_unheld h ≡ false → Says now s r (hold_reason h)
  held queued No is fails = absurd (true≢false fails)
  held queued User is fails = (queued, is)
  held queued System is fails = (queued, is)

  own_says : (x : Reason) → r.state ≡ Queued → Failed (own_conditions now r) x → Says now s r x
  own_says x queued (inl (fails, e)) = subst (Says now s r) e (held queued r.hold refl fails)
  own_says x queued (inr (inl (fails, e))) = subst (Says now s r) e (queued, refl, later r.job.earliest now fails)
  own_says x queued (inr (inr h)) = absurd h

  tried_are : (dests : List Dest) → list_any (λ dest. may_be_tried (answer_of now s r dest)) dests ≡ list_any (may_try now s r) dests
  tried_are dests = (λ j. list_any (λ dest. free_is now s r dest j) dests)

  -- told of its queue
  module _ (d : QueueDef) (queued : r.state ≡ Queued) (found : find_queue r.queue s ≡ Some d) where
    limited : (o : Option ℕ) → d.user_limit ≡ o → below (length (filter (is_active_of d.name r.job.owner) s.rows)) o ≡ false
        → Says now s r (UserLimit (unwrap_or o 0))
    limited None is fails = absurd (true≢false fails)
    limited (Some n) is fails =
        (queued, (d, found, (is, subst (λ k. n ≤ k) (owners_are d.name r.job.owner s.rows) (reached _ n fails))))

    queue_says : (x : Reason) → Failed (queue_conditions d s r) x → Says now s r x
    queue_says x (inl (fails, e)) = subst (Says now s r) e (queued, (d, found, fails))
    queue_says x (inr (inl (fails, e))) = subst (Says now s r) e (limited d.user_limit refl fails)
    queue_says x (inr (inr (inl (fails, e)))) =
        subst (Says now s r) e (queued, (d, found, (refl, subst (λ k. d.run_limit ≤ k) (left_are d.name s.rows) (reached _ d.run_limit fails))))
    queue_says x (inr (inr (inr h))) = absurd h

    complex_says : d.kind ≡ Batch → (x : Reason) → Failed (map (complex_condition d s) s.complexes) x → Says now s r x
    complex_says is x h =
        let q = failed_map (complex_condition d s) s.complexes x h in
        let full = neither (has_name q.0.queues d.name) _ q.2 in
        subst (Says now s r) q.3 (queued, (d, found, (is, (q.0, q.1, refl, (refl, full.0, reached _ q.0.limit full.1)))))

    global_says : d.kind ≡ Batch → (x : Reason) → Failed (global_condition s ∷ []) x → Says now s r x
    global_says is x (inl (fails, e)) = subst (Says now s r) e (queued, (d, found, (is, refl, reached _ s.global_limit fails)))
    global_says is x (inr h) = absurd h

    batch_says : d.kind ≡ Batch → (x : Reason) → Failed (map (complex_condition d s) s.complexes) x ⊎ Failed (global_condition s ∷ []) x → Says now s r x
    batch_says is x (inl h) = complex_says is x h
    batch_says is x (inr h) = global_says is x h

    kind_says : (k : Kind) → d.kind ≡ k → (x : Reason) → Failed (kind_conditions k d now s r) x → Says now s r x
    kind_says Batch is x h = batch_says is x (failed_parts (map (complex_condition d s) s.complexes) (global_condition s ∷ []) x h)
    kind_says Device is x (inl (fails, e)) = subst (Says now s r) e (queued, (d, found, (is, refl, sym (printable d r.job.forms s) ∙ fails)))
    kind_says Device is x (inr h) = absurd h
    kind_says Pipe is x (inl (fails, e)) =
        let no = none_of (r.hops == 32) (is_some (destination d now s r)) fails in
        subst (Says now s r) e (
          queued,
          (
            d,
            found,
            (
              is,
              no.0,
              tried_are d.dests ∙ sym (some_place (may_try now s r) d.dests) ∙ no.1,
            ),
          ),
        )
    kind_says Pipe is x (inr h) = absurd h

    rest_says : (x : Reason) → Failed (queue_conditions d s r) x ⊎ Failed (kind_conditions d.kind d now s r) x → Says now s r x
    rest_says x (inl h) = queue_says x h
    rest_says x (inr h) = kind_says d.kind refl x h

    conditions_say : (x : Reason) → Failed (own_conditions now r) x ⊎ Failed (queue_conditions d s r ++ kind_conditions d.kind d now s r) x → Says now s r x
    conditions_say x (inl h) = own_says x queued h
    conditions_say x (inr h) = rest_says x (failed_parts (queue_conditions d s r) (kind_conditions d.kind d now s r) x h)

    -- each holds exactly where the request may start
    waits_may : (place : ℕ) → slice_get s.rows place ≡ Some r → all_hold (wait_conditions d now s r) ≡ (may_start now s d && is_eligible d now s r)
    waits_may place at = ap (λ x. is_queued x && all_hold (wait_conditions d now s r)) (sym queued) ∙ all_may d now s r place at found

    kept_says : (place : ℕ) → slice_get s.rows place ≡ Some r → (x : Reason)
        → Has (failing (wait_conditions d now s r)) x ⊎ ((failing (wait_conditions d now s r) ≡ []) × (next_in d now s r ≡ x)) → Says now s r x
    kept_says place at x (inl h) =
        conditions_say x (failed_parts (own_conditions now r) (queue_conditions d s r ++ kind_conditions d.kind d now s r) x
        (failed_told (wait_conditions d now s r) x h))
    kept_says place at x (inr (none, e)) =
        subst (Says now s r) e (queued, (d, found, (sym (waits_may place at) ∙ all_holding (wait_conditions d now s r) none, refl)))

  without_says : r.state ≡ Queued → find_queue r.queue s ≡ None → (x : Reason) → Has (failing (own_conditions now r)) x ⊎ Has (NoQueue ∷ []) x → Says now s r x
  without_says queued none x (inl h) = own_says x queued (failed_told (own_conditions now r) x h)
  without_says queued none x (inr (inl e)) = subst (Says now s r) e (queued, none)
  without_says queued none x (inr (inr h)) = absurd h

  keeping_says : (place : ℕ) → slice_get s.rows place ≡ Some r → r.state ≡ Queued → (o : Option QueueDef) → find_queue r.queue s ≡ o
      → (x : Reason) → Has (keeping o now s r) x → Says now s r x
  keeping_says place at queued None is x h = without_says queued is x (has_parts (failing (own_conditions now r)) (NoQueue ∷ []) x h)
  keeping_says place at queued (Some d) is x h =
      kept_says d queued is place at x (told_kept (failing (wait_conditions d now s r)) (next_in d now s r) x h)

  -- what is told is so
  pub told_says : (place : ℕ) → slice_get s.rows place ≡ Some r → (x : Reason) → Has (reasons_of now s r) x → Says now s r x
  told_says place at x h = by r.state refl h
    where
      by : (t : RowState) → r.state ≡ t → Has (if is_queued t then keeping (find_queue r.queue s) now s r else state_reason t ∷ []) x → Says now s r x
      by Queued is h = keeping_says place at is (find_queue r.queue s) refl x h
      by Routing is (inl e) = subst (Says now s r) e is
      by Routing is (inr h) = absurd h
      by Running is (inl e) = subst (Says now s r) e is
      by Running is (inr h) = absurd h

  -- what is so is told

  in_state : (t : RowState) → r.state ≡ t → (x : Reason)
      → Has (if is_queued t then keeping (find_queue r.queue s) now s r else state_reason t ∷ []) x → Has (reasons_of now s r) x
  in_state t is x h = subst (λ u. Has (if is_queued u then keeping (find_queue r.queue s) now s r else state_reason u ∷ []) x) (sym is) h

  in_queue : (o : Option QueueDef) → r.state ≡ Queued → find_queue r.queue s ≡ o → (x : Reason) → Has (keeping o now s r) x → Has (reasons_of now s r) x
  in_queue o queued is x h = in_state Queued queued x (subst (λ u. Has (keeping u now s r) x) (sym is) h)

  of_own : (o : Option QueueDef) → (x : Reason) → Failed (own_conditions now r) x → Has (keeping o now s r) x
  of_own None x h = has_left_part (failing (own_conditions now r)) (NoQueue ∷ []) x (told_failed (own_conditions now r) x h)
  of_own (Some d) x h =
      kept_told (failing (wait_conditions d now s r)) (next_in d now s r) x
      (told_failed (wait_conditions d now s r) x (failed_left (own_conditions now r) (queue_conditions d s r ++ kind_conditions d.kind d now s r) x h))

  own_told : (x : Reason) → r.state ≡ Queued → Failed (own_conditions now r) x → Has (reasons_of now s r) x
  own_told x queued h = in_queue (find_queue r.queue s) queued refl x (of_own (find_queue r.queue s) x h)

  module _ (d : QueueDef) (queued : r.state ≡ Queued) (found : find_queue r.queue s ≡ Some d) where
    behind_told : (x : Reason) → Failed (queue_conditions d s r ++ kind_conditions d.kind d now s r) x → Has (reasons_of now s r) x
    behind_told x h =
        in_queue (Some d) queued found x (kept_told (failing (wait_conditions d now s r)) (next_in d now s r) x
        (told_failed (wait_conditions d now s r) x (failed_right (own_conditions now r) (queue_conditions d s r ++ kind_conditions d.kind d now s r) x h)))

    queue_told : (x : Reason) → Failed (queue_conditions d s r) x → Has (reasons_of now s r) x
    queue_told x h = behind_told x (failed_left (queue_conditions d s r) (kind_conditions d.kind d now s r) x h)

    kind_told : (k : Kind) → d.kind ≡ k → (x : Reason) → Failed (kind_conditions k d now s r) x → Has (reasons_of now s r) x
    kind_told k is x h =
        behind_told x (failed_right (queue_conditions d s r) (kind_conditions d.kind d now s r) x
        (subst (λ u. Failed (kind_conditions u d now s r) x) (sym is) h))

    next_told : (place : ℕ) → slice_get s.rows place ≡ Some r → (may_start now s d && is_eligible d now s r) ≡ true
        → Has (reasons_of now s r) (next_in d now s r)
    next_told place at may =
        in_queue (Some d) queued found (next_in d now s r)
        (subst (λ l. Has (or_last l (next_in d now s r)) (next_in d now s r))
        (sym (none_failing (wait_conditions d now s r) (waits_may d queued found place at ∙ may))) (inl refl))

  held_is : (h : Hold) → r.hold ≡ h → is_unheld h ≡ false → r.state ≡ Queued → Has (reasons_of now s r) (hold_reason h)
  held_is h is fails queued = own_told (hold_reason h) queued (inl (ap is_unheld is ∙ fails, ap hold_reason is))

  complex_at : (d : QueueDef) (c : ComplexDef) → Has s.complexes c → has_name c.queues d.name ≡ true → c.limit ≤ length (filter (runs_in c) s.rows)
      → Failed (map (complex_condition d s) s.complexes) (ComplexLimit c.name c.limit)
  complex_at d c there has full =
      map_failed (complex_condition d s) s.complexes c there
      (ap (λ b. not b || nat_lt (length (filter (runs_in c) s.rows)) c.limit) has ∙ not_below _ c.limit full)

  pub says_told : (place : ℕ) → slice_get s.rows place ≡ Some r → (x : Reason) → Says now s r x → Has (reasons_of now s r) x
  says_told place at Runs is = in_state Running is Runs (inl refl)
  says_told place at OnItsWay is = in_state Routing is OnItsWay (inl refl)
  says_told place at HeldByUser (queued, is) = held_is User is refl queued
  says_told place at HeldBySystem (queued, is) = held_is System is refl queued
  says_told place at (NotBefore moment) (queued, is, early) =
      own_told (NotBefore moment) queued (inr (inl (ap (λ m. nat_le m now) is ∙ not_come moment now early, ap NotBefore is)))
  says_told place at NoQueue (queued, none) =
      in_queue None queued none NoQueue (has_right_part (failing (own_conditions now r)) (NoQueue ∷ []) NoQueue (inl refl))
  says_told place at QueueStopped (queued, (d, found, is)) = queue_told d queued found QueueStopped (inl (is, refl))
  says_told place at (UserLimit limit) (queued, (d, found, (is, full))) =
      queue_told d queued found (UserLimit limit)
      (inr (inl (
        ap (below (length (filter (is_active_of d.name r.job.owner) s.rows))) is
            ∙ not_below _ limit (subst (λ k. limit ≤ k) (sym (owners_are d.name r.job.owner s.rows)) full),
        ap (λ o. UserLimit (unwrap_or o 0)) is,
      )))
  says_told place at (RunLimit limit) (queued, (d, found, (is, full))) =
      queue_told d queued found (RunLimit limit)
      (inr (inr (inl (
        ap (nat_lt (length (filter (is_active_in d.name) s.rows))) is
            ∙ not_below _ limit (subst (λ k. limit ≤ k) (sym (left_are d.name s.rows)) full),
        ap RunLimit is,
      ))))
  says_told place at (ComplexLimit name limit) (queued, (d, found, (is, (c, there, named, (of, has, full))))) =
      kind_told d queued found Batch is (ComplexLimit name limit)
      (subst (Failed (kind_conditions Batch d now s r)) (λ j. ComplexLimit (named j) (of j))
      (failed_left (map (complex_condition d s) s.complexes) (global_condition s ∷ []) (ComplexLimit c.name c.limit)
      (complex_at d c there has (subst (λ n. n ≤ length (filter (runs_in c) s.rows)) (sym of) full))))
  says_told place at (GlobalLimit limit) (queued, (d, found, (is, of, full))) =
      kind_told d queued found Batch is (GlobalLimit limit)
      (failed_right (map (complex_condition d s) s.complexes) (global_condition s ∷ []) (GlobalLimit limit)
      (inl (ap (nat_lt (length (filter (runs_in_batch s) s.rows))) of ∙ not_below _ limit full, ap GlobalLimit of)))
  says_told place at (NoDevice forms) (queued, (d, found, (is, of, none))) =
      kind_told d queued found Device is (NoDevice forms)
      (inl (printable d r.job.forms s ∙ ap (λ f. list_any (could_print f s) d.devices) of ∙ none, ap NoDevice of))
  says_told place at NoDestination (queued, (d, found, (is, far, none))) =
      kind_told d queued found Pipe is NoDestination
      (inl (
        ap (λ b. b || is_some (destination d now s r)) far ∙ some_place (may_try now s r) d.dests
            ∙ sym (tried_are d.dests) ∙ none,
        refl,
      ))
  says_told place at (Next count) (queued, (d, found, (may, of))) =
      subst (Has (reasons_of now s r)) (ap Next of) (next_told d queued found place at may)

  -- the first of all reasons
  abbrev first_in : Option QueueDef → Reason
  first_in None = first_failing (own_conditions now r) NoQueue
  first_in (Some d) = first_failing (wait_conditions d now s r) (next_in d now s r)

  first_kept : (o : Option QueueDef) → (rest : List Reason) × (keeping o now s r ≡ first_in o ∷ rest)
  first_kept None = first_before (own_conditions now r) NoQueue
  first_kept (Some d) = first_is (wait_conditions d now s r) (next_in d now s r)

  first_reason : (o : Option QueueDef) → reason_in o now s r ≡ (if is_queued r.state then first_in o else state_reason r.state)
  first_reason None = refl
  first_reason (Some d) = refl

  first_where : (t : RowState) (o : Option QueueDef)
      → (rest : List Reason) × ((if is_queued t then keeping o now s r else state_reason t ∷ []) ≡ (if is_queued t then first_in o else state_reason t) ∷ rest)
  first_where Queued o = first_kept o
  first_where Routing o = ([], refl)
  first_where Running o = ([], refl)

  pub first_told : (rest : List Reason) × (reasons_of now s r ≡ reason_of now s r ∷ rest)
  first_told =
      let q = first_where r.state (find_queue r.queue s) in
      (q.0, q.1 ∙ ap (λ x. x ∷ q.0) (sym (first_reason (find_queue r.queue s))))

  -- where nothing keeps it, it is next and nothing else is told
  kept_alone : (d : QueueDef) (place : ℕ) → slice_get s.rows place ≡ Some r → r.state ≡ Queued → find_queue r.queue s ≡ Some d
      → (may_start now s d && is_eligible d now s r) ≡ true → reasons_of now s r ≡ next_in d now s r ∷ []
  kept_alone d place at queued found may =
      ap (λ t. if is_queued t then keeping (find_queue r.queue s) now s r else state_reason t ∷ []) queued
      ∙ ap (λ o. keeping o now s r) found
      ∙ ap (λ l. or_last l (next_in d now s r)) (none_failing (wait_conditions d now s r) (waits_may d queued found place at ∙ may))

  pub next_alone : (place count : ℕ) → slice_get s.rows place ≡ Some r → Has (reasons_of now s r) (Next count) → reasons_of now s r ≡ Next count ∷ []
  next_alone place count at h = by (told_says place at (Next count) h)
    where
      by : Says now s r (Next count) → reasons_of now s r ≡ Next count ∷ []
      by (queued, (d, found, (may, of))) = kept_alone d place at queued found may ∙ ap (λ n. Next n ∷ []) of

  -- nothing is told to keep it exactly where its queue may start a request and it may start from
  -- there
  pub none_keeps : (place : ℕ) (d : QueueDef) → slice_get s.rows place ≡ Some r → find_queue r.queue s ≡ Some d
      → list_all is_next (reasons_of now s r) ≡ (may_start now s d && is_eligible d now s r)
  none_keeps place d at found = by (may_start now s d && is_eligible d now s r) refl
    where
      by : (b : Bool) → (may_start now s d && is_eligible d now s r) ≡ b → list_all is_next (reasons_of now s r) ≡ b
      by true may =
          let all = all_may d now s r place at found ∙ may in
          ap (list_all is_next) (kept_alone d place at (queued_only r.state (and_parts (is_queued r.state) _ all).0) found may)
      by false may =
          ap (list_all is_next) first_told.1
          ∙ ap (λ b. b && list_all is_next first_told.0) (next_is d now s r place at found ∙ may)
