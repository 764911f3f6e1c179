-- What a step makes fits its state: messages, and ends of jobs.
use Rattle.std.proofs.Common.{◌≡◌, ℕ, ◌+◌, ◌<◌, ◌≤◌, Bool, true, false, not, ◌&&◌, ◌||◌, ◌==◌, nat_lt, nat_le, List, [], ◌∷◌, ◌++◌, length, slice_get, Option}
use Rattle.std.proofs.Common.{None, Some, Result, Ok, Err, is_ok, true≢false, zero, suc, refl, sym, ap, ◌∙◌, arith, if◌then◌else◌}
use Rattle.std.proofs.lemmas.Bool.{and_parts, and_from, or_parts, leb-false, le-leb, ltb-true, lt-ltb, eqb-true, not-false, not_from_false}
use Rattle.std.proofs.lemmas.Bool.Decides.{nat_tests}
use Rattle.std.proofs.lemmas.List.Folds.{list_all-append}
use Rattle.std.proofs.lemmas.List.{length-append}
use Rattle.std.specs.List.{list_any, list_all}
use Rattle.nqs_state.specs.State.{State}
use Rattle.nqs_state.specs.Keys.{is_row, is_file, is_stage}
use Rattle.nqs_base_tables.specs.Table.{without_first}
use Rattle.nqs_base.specs.Path.{is_path}
use Rattle.nqs_types.specs.declared.ids.HostId.{HostId}
use Rattle.nqs_types.specs.declared.ids.RequestId.{RequestId}
use Rattle.nqs_types.specs.declared.request.Job.{Job}
use Rattle.nqs_types.specs.declared.request.Row.{Row}
use Rattle.nqs_types.specs.declared.request.Hand.{Hand}
use Rattle.nqs_types.specs.declared.request.Peer.{Peer}
use Rattle.nqs_types.specs.declared.request.Carried.{Carried}
use Rattle.nqs_types.specs.declared.request.Phase.{Phase}
use Rattle.nqs_types.specs.declared.request.Phase.TheVariants.{Offered, Committed}
use Rattle.nqs_types.specs.declared.refusal.Refusal.{Refusal}
use Rattle.nqs_types.specs.declared.refusal.Refusal.TheVariants.{NoQueue, HostFull, NumbersUsed, RequestExists}
use Rattle.nqs_types.specs.declared.change.Change.TheVariants.{Unlaunched, Accepted, Dropped, StageGot, StageGone, FileGone}
use Rattle.nqs_types.specs.declared.message.Body.{Body}
use Rattle.nqs_types.specs.declared.message.Body.TheVariants as body
use Rattle.nqs_types.specs.declared.event.Event.{Event}
use Rattle.nqs_state.specs.Least.{runs_now}
use Rattle.nqs_types.specs.declared.event.Event.TheVariants as event
use Rattle.nqs_types.specs.declared.event.Output.TheVariants as out
use Rattle.nqs_rules.specs.Tests.{passes, is_running, is_offered, is_committed, same_host}
use Rattle.nqs_rules.specs.Causes.{Cause, cause, first_refusal}
use Rattle.nqs_rules.specs.Find.{peer_number, has_queue, find_queue, has_row, find_row, find_hand, has_promise, has_stage, find_peer}
use Rattle.nqs_rules.specs.Rows.{causes_of, arrivals_used}
use Rattle.nqs_rules.specs.Routing.{is_closed}
use Rattle.nqs_rules.specs.Sane.{is_of_site, is_short_script, is_short_file, is_sane_low, is_sane_carried, is_sane_job, has_path, is_sane_body, is_sane_event}
use Rattle.nqs_rules.specs.Fits.{is_offered_hand, is_committed_hand, is_open_number, is_new_stage, is_site_host, is_unknown, offer_full}
use Rattle.nqs_rules.specs.Stepped.{quiet, says, makes, ready}
use Rattle.nqs_rules.specs.Handover.{closes, was_given, send_abort, send_done, send_ready, named_of, is_not_given_here, offer_entry_causes, offer_causes}
use Rattle.nqs_rules.specs.Handover.{offer_by, on_offer, ready_phase, ready_with, on_ready, refused_phase, refused_with, on_refused, on_commit, done_phase}
use Rattle.nqs_rules.specs.Handover.{done_with, on_done, on_abort}
use Rattle.nqs_rules.specs.Stage.{Part, part_to, parts_of, has_left, numbered, first_number, kept_parts, on_end, is_got, send_staged, on_stage, due_of}
use Rattle.nqs_rules.specs.Stage.{on_staged, on_written}
use Rattle.nqs_rules.specs.Step.{on_message, is_start, ended_by, unlaunched_by, step}
use Rattle.nqs_rules.specs.InOrder.{IsInOrder, is_row_right}
use Rattle.nqs_rules.proofs.Chains.{each, chained}
use Rattle.nqs_rules.proofs.Sublists.{IsPart, none, skip, keep, part_all, part_length}
use Rattle.nqs_rules.proofs.ListFacts.{list_all-found}
use Rattle.nqs_rules.proofs.StateFacts.{sites_are}
use Rattle.nqs_rules.proofs.RowFacts.{row_is}
use Rattle.nqs_rules.proofs.ConfOrder.{none_holds, causes_behind}
use Rattle.nqs_rules.proofs.StepFits.{Fitting, found_itself, passes_found, tick_fits, command_fits}

-- outputs

nothing : {V : Type 0} (xs : List V) → IsPart [] xs
nothing [] = none
nothing (x ∷ xs) = skip (nothing xs)

numbered_part : (counter n : ℕ) (parts : List Part) → IsPart (numbered counter n parts) parts
numbered_part counter n [] = none
numbered_part counter n (part ∷ parts) = by (has_left counter n) (numbered_part counter (n + 1) parts)
  where
    by : (b : Bool) → IsPart (numbered counter (n + 1) parts) parts → IsPart (if b then part ∷ numbered counter (n + 1) parts else []) (part ∷ parts)
    by true rest = keep rest
    by false rest = nothing (part ∷ parts)

part_sane : (path bytes : List ℕ) → is_path path ≡ true → (length (part_to path bytes) ≤ 1) × (list_all has_path (part_to path bytes) ≡ true)
part_sane path [] h = (omega arith, refl)
part_sane path (b ∷ bytes) h = (omega arith, and_from (is_path path) true h refl)

parts_sane : (j : Job) (output error : List ℕ) → is_sane_job j ≡ true → (length (parts_of j output error) ≤ 2)
    × (list_all has_path (parts_of j output error) ≡ true)
parts_sane j output error h = by (j.join)
  where
    k : (nat_le j.priority 63 ≡ true) × ((is_path j.out ≡ true) × ((is_path j.err ≡ true) × Unit {0}))
    k = each (nat_le j.priority 63) (is_path j.out ∷ is_path j.err ∷ []) h

    by : (b : Bool) → (length (if b then part_to j.out (output ++ error) else part_to j.out output ++ part_to j.err error) ≤ 2)
        × (list_all has_path (if b then part_to j.out (output ++ error) else part_to j.out output ++ part_to j.err error) ≡ true)
    by true = let p = part_sane j.out (output ++ error) k.1.0 in let few = p.0 in (omega arith, p.1)
    by false =
        let p = part_sane j.out output k.1.0 in
        let q = part_sane j.err error k.1.1.0 in
        let one = p.0 in
        let other = q.0 in
        let both : length (part_to j.out output ++ part_to j.err error) ≡ length (part_to j.out output) + length (part_to j.err error) =
        length-append (part_to j.out output) (part_to j.err error) in (
          omega (arith, both, one, other),
          list_all-append has_path (part_to j.out output) (part_to j.err error)
              ∙ and_from (list_all has_path (part_to j.out output)) (list_all has_path (part_to j.err error)) p.1 q.1,
        )

module _ {E : Type 0} (s : State E) (h : IsInOrder s) where
  -- of each host of the site something is known
  peer_known : (host : HostId) → is_of_site (length s.site) host ≡ true → passes (λ _. true) (find_peer host s) ≡ true
  peer_known host of_site =
      let below = ltb-true host.0 (length s.site) of_site in
      let same : length s.peers ≡ length s.site = eqb-true (length s.peers) (length s.site) (sites_are s h.site).peers in
      there s.peers host.0 (omega (arith, same, below))
    where
      there : (ps : List Peer) (n : ℕ) → n < length ps → passes (λ _. true) (slice_get ps n) ≡ true
      there [] n below = absurd (omega arith)
      there (p ∷ ps) zero below = refl
      there (p ∷ ps) (suc n) below = there ps n (omega arith)

  not_passed : (test other : Peer → Bool) (o : Option Peer) → ((p : Peer) → test p ≡ false → other p ≡ true) → passes (λ _. true) o ≡ true
      → passes test o ≡ false → passes other o ≡ true
  not_passed test other None turns some fails = absurd (true≢false (sym some))
  not_passed test other (Some p) turns some fails = turns p fails

  offer_fits : (peer : HostId) (n low : ℕ) (queue : List ℕ) (c : Carried) (script : List ℕ) → is_of_site (length s.site) peer ≡ true
      → is_sane_low low n ≡ true → is_sane_carried c ≡ true
      → is_of_site (length s.site) c.id.host ≡ true → Fitting s (on_offer peer n low queue c script s).change
  offer_fits peer n low queue c script of_site within sane host = by (closes n (find_peer peer s)) refl (has_promise peer n s) refl
    where
      made : closes n (find_peer peer s) ≡ false → has_promise peer n s ≡ false → (o : Result (Unit {0}) Refusal)
          → first_refusal (offer_causes peer low queue c s) ≡ o → Fitting s (offer_by o peer n low queue c script s).change
      made opens new (Err refusal) e = tt
      made opens new (Ok u) e =
          let entry : List Cause = causes_of (offer_entry_causes c) (find_queue queue s) in
          let first : List Cause = cause (has_row c.id s || is_not_given_here c.id s) (RequestExists (named_of c.id s))
          ∷ cause (not (has_queue queue s)) (NoQueue queue) ∷ entry in
          let last : List Cause = cause (offer_full peer low s) HostFull ∷ cause (arrivals_used s) NumbersUsed ∷ [] in
          let parts = causes_behind first last (ap is_ok e) in
          let front = none_holds first parts.0 in
          let back = none_holds last parts.1 in
          let known = or_parts (has_row c.id s) (is_not_given_here c.id s) front.0 in (
            chained (has_queue queue s) (passes (is_open_number n) (find_peer peer s) ∷ not (has_promise peer n s) ∷ is_site_host c.id.host s
                ∷ is_unknown c.id s ∷ not (offer_full peer low s) ∷ not (arrivals_used s) ∷ []) (
                  not-false (has_queue queue s) front.1.0,
                  (
                    not_passed (is_closed n) (is_open_number n) (find_peer peer s) (λ p e. not_from_false (is_closed n p) e) (peer_known peer of_site) opens,
                    (
                      not_from_false (has_promise peer n s) new,
                      (
                        host,
                        (
                          and_from (not (has_row c.id s)) (not (same_host s.me c.id.host) || nat_le c.id.seq s.seq) (not_from_false (has_row c.id s) known.0)
                              (given (same_host s.me c.id.host) known.1),
                          (not_from_false (offer_full peer low s) back.0, (not_from_false (arrivals_used s) back.1.0, tt)),
                        ),
                      ),
                    ),
                  ),
                ),
            and_from (is_sane_low low n) (is_sane_carried c) within sane,
          )
        where
          given : (b : Bool) → (b && nat_lt s.seq c.id.seq) ≡ false → (not b || nat_le c.id.seq s.seq) ≡ true
          given true e = grind (arith, nat_tests)
          given false e = refl

      by : (b : Bool) → closes n (find_peer peer s) ≡ b → (d : Bool) → has_promise peer n s ≡ d
          → Fitting s (if b then says (send_done s peer n ∷ []) else (if d then says (send_ready s peer n ∷ []) else
          offer_by (first_refusal (offer_causes peer low queue c s)) peer n low queue c script s)).change
      by true opens d new = tt
      by false opens true new = tt
      by false opens false new = made opens new (first_refusal (offer_causes peer low queue c s)) refl

  ready_fits : (peer : HostId) (n : ℕ) → Fitting s (on_ready peer n s).change
  ready_fits peer n = of (find_hand peer n s) refl
    where
      missing : (b : Bool) → Fitting s (if b then says (send_abort s peer n ∷ []) else quiet).change
      missing true = tt
      missing false = tt

      by : (x : Hand) (p : Phase) → x.phase ≡ p → find_hand peer n s ≡ Some x → Fitting s (ready_phase p peer n s).change
      by x Offered e found = (ap (passes is_offered_hand) found ∙ ap is_offered e, refl)
      by x Committed e found = tt

      of : (o : Option Hand) → find_hand peer n s ≡ o → Fitting s (ready_with o peer n s).change
      of None found = missing (was_given n (find_peer peer s))
      of (Some x) found = by x x.phase refl found

  refused_fits : (peer : HostId) (n refusal : ℕ) → Fitting s (on_refused peer n refusal s).change
  refused_fits peer n refusal = of (find_hand peer n s) refl
    where
      by : (x : Hand) (p : Phase) → x.phase ≡ p → find_hand peer n s ≡ Some x → Fitting s (refused_phase {E = E} p peer n refusal).change
      by x Offered e found = (ap (passes is_offered_hand) found ∙ ap is_offered e, refl)
      by x Committed e found = tt

      of : (o : Option Hand) → find_hand peer n s ≡ o → Fitting s (refused_with {E = E} o peer n refusal).change
      of None found = tt
      of (Some x) found = by x x.phase refl found

  done_fits : (peer : HostId) (n : ℕ) → Fitting s (on_done peer n s).change
  done_fits peer n = of (find_hand peer n s) refl
    where
      by : (x : Hand) (p : Phase) → x.phase ≡ p → find_hand peer n s ≡ Some x → Fitting s (done_phase {E = E} p peer n).change
      by x Offered e found = tt
      by x Committed e found = (ap (passes is_committed_hand) found ∙ ap is_committed e, refl)

      of : (o : Option Hand) → find_hand peer n s ≡ o → Fitting s (done_with {E = E} o peer n).change
      of None found = tt
      of (Some x) found = by x x.phase refl found

  commit_fits : (peer : HostId) (n : ℕ) → Fitting s (on_commit peer n s).change
  commit_fits peer n = by (has_promise peer n s) refl (closes n (find_peer peer s))
    where
      by : (b : Bool) → has_promise peer n s ≡ b → (d : Bool) → Fitting s
          (if b then makes (Accepted peer n) (send_done s peer n ∷ []) else (if d then says (send_done s peer n ∷ []) else quiet)).change
      by true e d = (e, refl)
      by false e true = tt
      by false e false = tt

  abort_fits : (peer : HostId) (n : ℕ) → Fitting s (on_abort peer n s).change
  abort_fits peer n = by (has_promise peer n s) refl
    where
      by : (b : Bool) → has_promise peer n s ≡ b → Fitting s (if b then makes {E = E} (Dropped peer n) [] else quiet).change
      by true e = (e, refl)
      by false e = tt

  stage_fits : (peer : HostId) (n : ℕ) (path bytes : List ℕ) → is_of_site (length s.site) peer ≡ true → is_path path ≡ true
      → Fitting s (on_stage peer n path bytes s).change
  stage_fits peer n path bytes of_site sane = by (passes (is_got n) (find_peer peer s)) refl (has_left s.file_next 0)
    where
      new : passes (is_got n) (find_peer peer s) ≡ false → passes (is_new_stage n) (find_peer peer s) ≡ true
      new e = not_passed (is_got n) (is_new_stage n) (find_peer peer s) (λ p k. lt-ltb p.stage_got n (leb-false n p.stage_got k)) (peer_known peer of_site) e

      by : (b : Bool) → passes (is_got n) (find_peer peer s) ≡ b → (d : Bool)
          → Fitting s (if b then says (send_staged s peer n ∷ []) else (if d then
          makes (StageGot peer n path bytes) (send_staged s peer n ∷ ready (out.File s.file_next path bytes) ∷ []) else
          makes (StageGot peer n path []) (send_staged s peer n ∷ []))).change
      by true e d = tt
      by false e true = (new e, sane)
      by false e false = (new e, sane)

  staged_fits : (peer : HostId) (n : ℕ) → Fitting s (on_staged peer n s).change
  staged_fits peer n = by (has_stage peer n s) refl
    where
      by : (b : Bool) → has_stage peer n s ≡ b → Fitting s (if b then makes (StageGone peer n)
          (due_of s peer (without_first (is_stage (peer_number peer n)) s.stages)) else quiet).change
      by true e = (e, refl)
      by false e = tt

  written_fits : (file : ℕ) → Fitting s (on_written file s).change
  written_fits file = by (list_any (is_file file) s.files) refl
    where
      by : (b : Bool) → list_any (is_file file) s.files ≡ b → Fitting s (if b then makes {E = E} (FileGone file) [] else quiet).change
      by true e = (e, refl)
      by false e = tt

  ended_fits : (id : RequestId) (start status : ℕ) (output error : List ℕ) → Fitting s (ended_by (find_row id s) start status output error s).change
  ended_fits id start status output error = of (find_row id s) refl
    where
      by : (r : Row E) → find_row r.id s ≡ Some r → (b : Bool) → is_start start r ≡ b → Fitting s (if b then on_end status r output error s else quiet).change
      by r found true e =
          let job = (row_is s r (list_all-found (is_row_right s) (is_row r.id) s.rows r h.rows found)).job in
          let parts = parts_sane r.job output error job in
          let few = parts.0 in
          let part = numbered_part (first_number s r.id) 0 (parts_of r.job output error) in
          let fewer = part_length part in (
            passes_found runs_now s r found (and_parts (is_running r.state) (r.starts == start) e).0,
            and_from (nat_le (length (kept_parts s r output error)) 2) (list_all has_path (kept_parts s r output error))
                (le-leb (length (kept_parts s r output error)) 2 (omega (arith, few, fewer))) (part_all has_path part parts.1),
          )
      by r found false e = tt

      of : (o : Option (Row E)) → find_row id s ≡ o → Fitting s (ended_by o start status output error s).change
      of None found = tt
      of (Some r) found = by r (found_itself s id r found) (is_start start r) refl

  unlaunched_fits : (id : RequestId) (start : ℕ) → Fitting s (unlaunched_by (find_row id s) id start).change
  unlaunched_fits id start = of (find_row id s) refl
    where
      by : (r : Row E) → find_row id s ≡ Some r → (b : Bool) → is_start start r ≡ b
          → Fitting s (if b then makes {E = E} (Unlaunched id) (ready (out.Unlaunched id start) ∷ []) else quiet).change
      by r found true e = (ap (passes runs_now) found ∙ (and_parts (is_running r.state) (r.starts == start) e).0, refl)
      by r found false e = tt

      of : (o : Option (Row E)) → find_row id s ≡ o → Fitting s (unlaunched_by o id start).change
      of None found = tt
      of (Some r) found = by r found (is_start start r) refl

  message_fits : (peer : HostId) (b : Body) → is_of_site (length s.site) peer ≡ true → is_sane_body (length s.site) b ≡ true
      → Fitting s (on_message peer b s).change
  message_fits peer (body.Offer n low queue c script) of_site sane =
      let k = each (nat_le 1 n) (is_sane_low low n ∷ is_sane_carried c ∷ is_of_site (length s.site) c.id.host ∷ is_short_script script ∷ []) sane in
      offer_fits peer n low queue c script of_site k.1.0 k.1.1.0 k.1.1.1.0
  message_fits peer (body.Ready n) of_site sane = ready_fits peer n
  message_fits peer (body.Refused n refusal) of_site sane = refused_fits peer n refusal
  message_fits peer (body.Commit n) of_site sane = commit_fits peer n
  message_fits peer (body.Done n) of_site sane = done_fits peer n
  message_fits peer (body.Inquire n) of_site sane = ready_fits peer n
  message_fits peer (body.Abort n) of_site sane = abort_fits peer n
  message_fits peer (body.Stage n path bytes) of_site sane = stage_fits peer n path bytes of_site
      (each (nat_le 1 n) (is_path path ∷ is_short_file bytes ∷ []) sane).1.0
  message_fits peer (body.Staged n) of_site sane = staged_fits peer n
  message_fits peer b of_site sane = tt

  pub step_fits : (e : Event) → is_sane_event (length s.site) e ≡ true → Fitting s (step e s).change
  step_fits (event.Ask now port token user c) sane = command_fits s h now (record { port = port; token = token }) user c sane
  step_fits (event.Arrived now m) sane = let k = and_parts (is_of_site (length s.site) m.from) (is_sane_body (length s.site) m.body) sane in
      message_fits m.from m.body k.0 k.1
  step_fits (event.Ended now port id start status output error) sane = ended_fits id start status output error
  step_fits (event.Unlaunched now id start) sane = unlaunched_fits id start
  step_fits (event.Written now file) sane = written_fits file
  step_fits (event.Unwritten now file) sane = tt
  step_fits (event.Tick now) sane = tick_fits s h now
