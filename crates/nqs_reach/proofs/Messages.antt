-- What one message makes of a state: it stays within reach of its sender.
use Rattle.std.proofs.Common.{◌≡◌, ℕ, ◌+◌, ◌-◌, ◌≤◌, Bool, true, false, not, ◌||◌, ◌==◌, nat_lt, List, [], ◌∷◌, ◌++◌, map, filter, find, Option, None, Some}
use Rattle.std.proofs.Common.{le_refl, option_map, Result, Ok, Err, true≢false, refl, sym, ap, subst, ◌∙◌, arith, if◌then◌else◌}
use Rattle.std.proofs.lemmas.Bool.{and_parts, and_from, and_left, or_parts, or_from, or_left, or_right, not-true, not_from_true, not_from_false}
use Rattle.std.proofs.lemmas.Bool.{false_from_ne_true}
use Rattle.std.proofs.lemmas.List.{append-nil}
use Rattle.std.proofs.lemmas.List.Folds.{list_any-append}
use Rattle.std.proofs.lemmas.Option.{same_Some, none-some}
use Rattle.std.specs.List.{list_any}
use Rattle.nqs_state.specs.State.{State, Plain}
use Rattle.nqs_state.specs.Keys.{is_hand, is_promise, is_row, is_stage}
use Rattle.nqs_base_tables.specs.Table.{change_first, without_first}
use Rattle.nqs_types.specs.Ids.{id_eq, id_exact}
use Rattle.nqs_types.specs.declared.ids.HostId.{HostId}
use Rattle.nqs_types.specs.declared.ids.RequestId.{RequestId}
use Rattle.nqs_types.specs.declared.request.Carried.{Carried}
use Rattle.nqs_types.specs.declared.request.Row.{Row}
use Rattle.nqs_types.specs.declared.request.Hand.{Hand}
use Rattle.nqs_types.specs.declared.request.Phase.{Phase}
use Rattle.nqs_types.specs.declared.request.Phase.TheVariants.{Offered, Committed}
use Rattle.nqs_types.specs.declared.request.Promise.{Promise}
use Rattle.nqs_types.specs.declared.request.Peer.{Peer}
use Rattle.nqs_types.specs.declared.request.Stage.{Stage}
use Rattle.nqs_types.specs.declared.request.FileOut.{FileOut}
use Rattle.nqs_types.specs.declared.refusal.Refusal.{Refusal}
use Rattle.nqs_types.specs.declared.refusal.Refusal.TheVariants.{NoQueue, HostFull, NumbersUsed, RequestExists}
use Rattle.nqs_types.specs.declared.change.OutPart.{OutPart}
use Rattle.nqs_types.specs.declared.change.Change.TheVariants.{Accepted, Dropped, StageGot, StageGone}
use Rattle.nqs_types.specs.declared.message.Body.{Body}
use Rattle.nqs_state.specs.Least.{runs_now}
use Rattle.nqs_types.specs.declared.message.Body.TheVariants as body
use Rattle.nqs_types.specs.declared.event.Output.TheVariants as out
use Rattle.nqs_rules.specs.Tests.{passes, is_running, is_offered, last_u64}
use Rattle.nqs_rules.specs.Causes.{Cause, cause, first_refusal}
use Rattle.nqs_rules.specs.Find.{has_row, find_row, has_promise, has_stage, find_hand, find_promise, find_peer, peer_number, has_queue, find_queue}
use Rattle.nqs_rules.specs.Edits.{change_at, change_peer}
use Rattle.nqs_rules.specs.Fits.{offer_full}
use Rattle.nqs_rules.specs.Routing.{is_hand_to, close, raise_floor, dests_for, refusal_noted}
use Rattle.nqs_rules.specs.Rows.{causes_of, arrivals_used}
use Rattle.nqs_rules.specs.Applied.{is_offered_for, is_promise_of, is_outlived, promises_from, committed, requeued_row, new_row, drop_hand}
use Rattle.nqs_rules.specs.Applied.{drop_promise, hand_committed, hand_refused, promised, accepted, dropped, stage_got}
use Rattle.nqs_rules.specs.InOrder.{are_distinct}
use Rattle.nqs_rules.specs.Handover.{closes, was_given, is_not_given_here, named_of, offer_entry_causes, offer_causes, offer_by, on_offer, on_ready, on_refused}
use Rattle.nqs_rules.specs.Handover.{on_commit, on_done, on_abort, ready_phase, ready_with, refused_phase, refused_with, commit_without, done_phase}
use Rattle.nqs_rules.specs.Handover.{done_with, send_done, send_ready, send_abort}
use Rattle.nqs_rules.specs.Stage.{is_stage_to, is_got, has_left, send_staged, on_stage, due_of, on_staged}
use Rattle.nqs_rules.specs.Starts.{after_step}
use Rattle.nqs_rules.specs.Step.{on_message}
use Rattle.nqs_rules.specs.Stepped.{Stepped, quiet, says, makes, ready}
use Rattle.nqs_rules.proofs.KeyFacts.{any-before, any-without_other, any-changed, none_found, gone_without, found_changed, find-without_other}
use Rattle.nqs_rules.proofs.KeyFacts.{found_other}
use Rattle.nqs_rules.proofs.ListFacts.{found_passes}
use Rattle.nqs_rules.proofs.RowChanges.{noted_kept}
use Rattle.nqs_rules.proofs.RowFacts.{same_it, same_id}
use Rattle.nqs_rules.proofs.Sublists.{part_none, without_part, filter_part}
use Rattle.nqs_rules.proofs.OutputsOrder.{put_twice}
use Rattle.nqs_reach.specs.Reach.{is_offered_to, is_given_to, is_promised_to, is_in_reach, hands_beside, promises_beside, stages_beside}
use Rattle.nqs_reach.specs.Reach.{rows_beside, running_rows, lasting, KeepsSettings, IsWithinReach}
use Rattle.nqs_reach.proofs.Lists.{kept_none, kept_without, kept_changed, kept_filter, kept_added, any_of_found, found_before, any_changed, none_changed}

-- the parts of a state that a message may change
record Parts (E : Type 0) : Type 0 where
  rows : List (Row E)
  hands : List Hand
  promises : List (Promise E)
  peers : List Peer
  stages : List (Stage E)
  files : List (FileOut E)
  arrivals : ℕ
  file_next : ℕ

module _ {E : Type 0} where
  abbrev parts_of : State E → Parts E
  parts_of s = record {
    rows = s.rows;
    hands = s.hands;
    promises = s.promises;
    peers = s.peers;
    stages = s.stages;
    files = s.files;
    arrivals = s.arrivals;
    file_next = s.file_next;
  }

  abbrev put : Parts E → State E → State E
  put p s = record s {
    rows = p.rows;
    hands = p.hands;
    promises = p.promises;
    peers = p.peers;
    stages = p.stages;
    files = p.files;
    arrivals = p.arrivals;
    file_next = p.file_next;
  }

  settings_kept : (p : Parts E) (s : State E) → KeepsSettings s (put p s)
  settings_kept p s = record {
    me = refl;
    site = refl;
    queues = refl;
    complexes = refl;
    devices = refl;
    managers = refl;
    operators = refl;
    default_queue = refl;
    global_limit = refl;
    patience = refl;
    retry_wait = refl;
    seq = refl;
  }

  -- no request that runs is offered
  abbrev pub NoneOffered : State E → Type 0
  NoneOffered s = (id : RequestId) → list_any (is_row id) (running_rows s) ≡ true → list_any (is_offered_for id) s.hands ≡ false

  -- what is offered doesn't run then
  offered_idle : (s : State E) (id : RequestId) → NoneOffered s → list_any (is_offered_for id) s.hands ≡ true → list_any (is_row id) (running_rows s) ≡ false
  offered_idle s id none offered = false_from_ne_true (list_any (is_row id) (running_rows s)) (λ h. true≢false (sym offered ∙ none id h))

  -- what one message of a peer makes of a state
  pub record Reached (peer : HostId) (s t : State E) : Type 0 where
    pub within : IsWithinReach peer s t
    pub out : (id : RequestId) → has_row id s ≡ true → is_in_reach peer s id ≡ false → is_in_reach peer t id ≡ false
    pub left : (id : RequestId) → has_row id s ≡ true → (has_row id t || list_any (is_given_to peer id) t.hands) ≡ true
    pub came : (id : RequestId) → list_any (is_promised_to peer id) s.promises ≡ false → has_row id s ≡ false → has_row id t ≡ false
    pub offers : (id : RequestId) → list_any (is_offered_for id) s.hands ≡ false → list_any (is_offered_for id) t.hands ≡ false
    pub running : NoneOffered s → running_rows t ≡ running_rows s
    pub lasts : are_distinct id_eq (map (λ r. r.id) s.rows) ≡ true → (id : RequestId) (r q : Row E) → find_row id s ≡ Some r → find_row id t ≡ Some q
        → lasting q ≡ lasting r

  -- a row that is found as before
  same_row : (a b : Option (Row E)) → b ≡ a → (r q : Row E) → a ≡ Some r → b ≡ Some q → lasting q ≡ lasting r
  same_row a b same r q found there = ap lasting (same_Some q r (sym there ∙ same ∙ found))

  -- a row's request may be touched, if its number may
  touched : (may_touch : RequestId → Bool) (id : RequestId) → may_touch id ≡ true → (r : Row E) → is_row id r ≡ true → not (may_touch r.id) ≡ false
  touched may_touch id h r is = not_from_true (may_touch r.id) (ap may_touch (sym (id_exact id r.id is)) ∙ h)

  module _ (peer : HostId) (n : ℕ) (s : State E) where
    to_peer : (h : Hand) → is_hand (peer_number peer n) h ≡ true → is_hand_to peer h ≡ true
    to_peer h is = (and_parts (peer.0 == h.peer.0) (n == h.number) is).0

    of_peer : (p : Promise E) → is_promise (peer_number peer n) p ≡ true → is_promise_of peer p ≡ true
    of_peer p is = (and_parts (peer.0 == p.peer.0) (n == p.number) is).0

    stage_to : (t : Stage E) → is_stage (peer_number peer n) t ≡ true → is_stage_to peer t ≡ true
    stage_to t is = (and_parts (peer.0 == t.peer.0) (n == t.number) is).0

    -- what is beside the peer stays, where what is its own changes

    hands_without : filter (λ h. not (is_hand_to peer h)) (without_first (is_hand (peer_number peer n)) s.hands) ≡ hands_beside peer s
    hands_without = kept_without (λ h. not (is_hand_to peer h)) (is_hand (peer_number peer n)) s.hands
        (kept_none (λ h. not (is_hand_to peer h)) (is_hand (peer_number peer n)) (λ h is. not_from_true (is_hand_to peer h) (to_peer h is)) s.hands)

    hands_changed : filter (λ h. not (is_hand_to peer h)) (change_first (is_hand (peer_number peer n)) committed s.hands) ≡ hands_beside peer s
    hands_changed = kept_changed (λ h. not (is_hand_to peer h)) (is_hand (peer_number peer n)) committed (λ h e. e) s.hands
        (kept_none (λ h. not (is_hand_to peer h)) (is_hand (peer_number peer n)) (λ h is. not_from_true (is_hand_to peer h) (to_peer h is)) s.hands)

    promises_without : filter (λ p. not (is_promise_of peer p)) (without_first (is_promise (peer_number peer n)) s.promises) ≡ promises_beside peer s
    promises_without = kept_without (λ p. not (is_promise_of peer p)) (is_promise (peer_number peer n)) s.promises
        (kept_none (λ p. not (is_promise_of peer p)) (is_promise (peer_number peer n)) (λ p is. not_from_true (is_promise_of peer p) (of_peer p is)) s.promises)

    stages_without : filter (λ t. not (is_stage_to peer t)) (without_first (is_stage (peer_number peer n)) s.stages) ≡ stages_beside peer s
    stages_without = kept_without (λ t. not (is_stage_to peer t)) (is_stage (peer_number peer n)) s.stages
        (kept_none (λ t. not (is_stage_to peer t)) (is_stage (peer_number peer n)) (λ t is. not_from_true (is_stage_to peer t) (stage_to t is)) s.stages)

    reached_gone : (id : RequestId) → is_in_reach peer s id ≡ true → list_any (is_row id) (rows_beside (is_in_reach peer s) s) ≡ false
    reached_gone id h = kept_none (λ r. not (is_in_reach peer s r.id)) (is_row id) (touched (is_in_reach peer s) id h) s.rows

    -- changes of rows and of handovers to the peer
    hands_within : (rows : List (Row E)) (hands : List Hand) → filter (λ r. not (is_in_reach peer s r.id)) rows ≡ rows_beside (is_in_reach peer s) s
        → filter (λ h. not (is_hand_to peer h)) hands ≡ hands_beside peer s → IsWithinReach peer s (record s { rows = rows; hands = hands })
    hands_within rows hands same_rows same_hands = record {
      settings = settings_kept (record (parts_of s) { rows = rows; hands = hands }) s;
      hands = same_hands;
      promises = refl;
      peers = λ known. refl;
      stages = refl;
      rows = same_rows;
      files = ([], sym (append-nil s.files));
      arrivals = le_refl s.arrivals;
      file_next = le_refl s.file_next;
    }

    -- changes of rows, of promises of the peer, and of what is known of it
    promises_within : (rows : List (Row E)) (promises : List (Promise E)) (f : Peer → Peer) (arrivals : ℕ)
        → filter (λ r. not (is_in_reach peer s r.id)) rows ≡ rows_beside (is_in_reach peer s) s
        → filter (λ p. not (is_promise_of peer p)) promises ≡ promises_beside peer s → s.arrivals ≤ arrivals
        → IsWithinReach peer s (record s { rows = rows; promises = promises; peers = change_at peer.0 f s.peers; arrivals = arrivals })
    promises_within rows promises f arrivals same_rows same_promises more = record {
      settings = settings_kept (record (parts_of s) { rows = rows; promises = promises; peers = change_at peer.0 f s.peers; arrivals = arrivals }) s;
      hands = refl;
      promises = same_promises;
      peers = λ known. put_twice peer.0 f known s.peers;
      stages = refl;
      rows = same_rows;
      files = ([], sym (append-nil s.files));
      arrivals = more;
      file_next = le_refl s.file_next;
    }

    -- files added, and changes of what is known of the peer
    files_within : (f : Peer → Peer) (added : List (FileOut E)) (file_next : ℕ) → s.file_next ≤ file_next
        → IsWithinReach peer s (record s { peers = change_at peer.0 f s.peers; files = s.files ++ added; file_next = file_next })
    files_within f added file_next more = record {
      settings = settings_kept (record (parts_of s) { peers = change_at peer.0 f s.peers; files = s.files ++ added; file_next = file_next }) s;
      hands = refl;
      promises = refl;
      peers = λ known. put_twice peer.0 f known s.peers;
      stages = refl;
      rows = refl;
      files = (added, refl);
      arrivals = le_refl s.arrivals;
      file_next = more;
    }

    -- where rows, handovers and promises stay, the rest follows
    calm : (t : State E) → IsWithinReach peer s t → t.rows ≡ s.rows → t.hands ≡ s.hands → t.promises ≡ s.promises → Reached peer s t
    calm t within rows hands promises = record {
      within = within;
      out = λ id has out. (λ j. list_any (is_offered_to peer id) (hands j) || list_any (is_promised_to peer id) (promises j)) ∙ out;
      left = λ id has. or_left (has_row id t) (list_any (is_given_to peer id) t.hands) (ap (list_any (is_row id)) rows ∙ has);
      came = λ id none new. ap (list_any (is_row id)) rows ∙ new;
      offers = λ id none. ap (list_any (is_offered_for id)) hands ∙ none;
      running = λ none. ap (filter runs_now) rows;
      lasts = λ distinct id r q. same_row (find_row id s) (find_row id t) (ap (find (is_row id)) rows) r q;
    }

    pub nothing : Reached peer s s
    nothing = calm s (hands_within s.rows s.hands refl refl) refl refl refl

    -- an offer of the peer is in its reach
    module _ (h : Hand) (found : find_hand peer n s ≡ Some h) (offered : is_offered h.phase ≡ true) where
      offers_it : is_offered_for h.id h ≡ true
      offers_it = and_from (is_offered h.phase) (id_eq h.id h.id) offered (same_id h.id)

      its_peer : is_hand_to peer h ≡ true
      its_peer = to_peer h (found_passes (is_hand (peer_number peer n)) s.hands h found)

      reaches : is_in_reach peer s h.id ≡ true
      reaches = or_left (list_any (is_offered_to peer h.id) s.hands) (list_any (is_promised_to peer h.id) s.promises)
          (any_of_found (is_hand (peer_number peer n)) (is_offered_to peer h.id) s.hands h found
          (and_from (is_offered_for h.id h) (is_hand_to peer h) offers_it its_peer))

      idle : NoneOffered s → list_any (is_row h.id) (running_rows s) ≡ false
      idle none = offered_idle s h.id none (any_of_found (is_hand (peer_number peer n)) (is_offered_for h.id) s.hands h found offers_it)

      -- its promise is taken: the request is the peer's
      given : Reached peer s (hand_committed (peer_number peer n) (Some h) s)
      given = record {
        within = hands_within (without_first (is_row h.id) s.rows) (change_first (is_hand (peer_number peer n)) committed s.hands)
            (kept_without (λ r. not (is_in_reach peer s r.id)) (is_row h.id) s.rows (reached_gone h.id reaches)) hands_changed;
        out = λ id has out. let p = or_parts (list_any (is_offered_to peer id) s.hands) (list_any (is_promised_to peer id) s.promises) out in
            or_from (list_any (is_offered_to peer id) (change_first (is_hand (peer_number peer n)) committed s.hands))
            (list_any (is_promised_to peer id) s.promises)
            (none_changed (is_hand (peer_number peer n)) (is_offered_to peer id) committed (λ x. refl) s.hands p.0) p.1;
        left = λ id has. by id has (id_eq id h.id) refl;
        came = λ id none new. part_none (is_row id) (without_part (is_row h.id) s.rows) new;
        offers = λ id none. none_changed (is_hand (peer_number peer n)) (is_offered_for id) committed (λ x. refl) s.hands none;
        running = λ none. kept_without runs_now (is_row h.id) s.rows (idle none);
        lasts = λ distinct id r q found there. stays distinct id r q found there (id_eq id h.id) refl;
      }
        where
          hands : List Hand
          hands = change_first (is_hand (peer_number peer n)) committed s.hands

          rows : List (Row E)
          rows = without_first (is_row h.id) s.rows

          stays : are_distinct id_eq (map (λ r. r.id) s.rows) ≡ true → (id : RequestId) (r q : Row E) → find_row id s ≡ Some r → find (is_row id) rows ≡ Some q
              → (b : Bool) → id_eq id h.id ≡ b → lasting q ≡ lasting r
          stays distinct id r q found there true e = absurd (none-some q (sym (none_found (is_row h.id) rows
              (gone_without id_eq (λ r. r.id) id_exact same_id h.id s.rows distinct)) ∙ ap (λ i. find (is_row i) rows) (sym (id_exact id h.id e)) ∙ there))
          stays distinct id r q found there false e = same_row (find_row id s) (find (is_row id) rows)
              (find-without_other id_eq (λ r. r.id) id_exact same_id id h.id s.rows e) r q found there

          by : (id : RequestId) → has_row id s ≡ true → (b : Bool) → id_eq id h.id ≡ b
              → (list_any (is_row id) (without_first (is_row h.id) s.rows) || list_any (is_given_to peer id) hands) ≡ true
          by id has true e = or_right (list_any (is_row id) (without_first (is_row h.id) s.rows)) (list_any (is_given_to peer id) hands)
              (any_changed (is_hand (peer_number peer n)) (is_given_to peer id) committed s.hands h found
              (and_from (is_hand_to peer h) (id_eq id h.id) its_peer e))
          by id has false e = or_left (list_any (is_row id) (without_first (is_row h.id) s.rows)) (list_any (is_given_to peer id) hands)
              (any-without_other id_eq (λ r. r.id) id_exact same_id id h.id s.rows e ∙ has)

      -- it is refused: the request waits again
      taken_back : (refusal : ℕ) → Reached peer s (hand_refused (peer_number peer n) refusal (Some h) s)
      taken_back refusal = record {
        within = hands_within (change_first (is_row h.id) waits s.rows) (without_first (is_hand (peer_number peer n)) s.hands)
            (kept_changed (λ r. not (is_in_reach peer s r.id)) (is_row h.id) waits (λ r e. ap (λ id. not (is_in_reach peer s id)) (same_request r) ∙ e) s.rows
            (reached_gone h.id reaches)) hands_without;
        out = λ id has out. let p = or_parts (list_any (is_offered_to peer id) s.hands) (list_any (is_promised_to peer id) s.promises) out in
            or_from (list_any (is_offered_to peer id) (without_first (is_hand (peer_number peer n)) s.hands)) (list_any (is_promised_to peer id) s.promises)
            (part_none (is_offered_to peer id) (without_part (is_hand (peer_number peer n)) s.hands) p.0) p.1;
        left = λ id has. or_left (list_any (is_row id) (change_first (is_row h.id) waits s.rows))
            (list_any (is_given_to peer id) (without_first (is_hand (peer_number peer n)) s.hands))
            (any-changed id_eq (λ r. r.id) id_exact same_id (is_row h.id) waits same_request id s.rows ∙ has);
        came = λ id none new. any-changed id_eq (λ r. r.id) id_exact same_id (is_row h.id) waits same_request id s.rows ∙ new;
        offers = λ id none. part_none (is_offered_for id) (without_part (is_hand (peer_number peer n)) s.hands) none;
        running = λ none. kept_changed runs_now (is_row h.id) waits (λ r e. queued r) s.rows (idle none);
        lasts = λ distinct id r q found there. stays id r q found there (id_eq id h.id) refl;
      }
        where
          waits : Row E → Row E
          waits r = refusal_noted (dests_for r s) (record { queue = h.queue; host = h.peer }) refusal (requeued_row r)

          same_request : (r : Row E) → (waits r).id ≡ r.id
          same_request r = noted_kept (λ y. y.id) (λ y l. refl) (λ y. refl) (dests_for r s) (record { queue = h.queue; host = h.peer }) refusal (requeued_row r)

          same_job : (r : Row E) → lasting (waits r) ≡ lasting r
          same_job r = noted_kept lasting (λ y l. refl) (λ y. refl) (dests_for r s) (record { queue = h.queue; host = h.peer }) refusal (requeued_row r)

          rows : List (Row E)
          rows = change_first (is_row h.id) waits s.rows

          stays : (id : RequestId) (r q : Row E) → find_row id s ≡ Some r → find (is_row id) rows ≡ Some q → (b : Bool) → id_eq id h.id ≡ b
              → lasting q ≡ lasting r
          stays id r q found there true e =
              let is : id ≡ h.id = id_exact id h.id e in
              let changed : find (is_row h.id) rows ≡ Some (waits r) = found_changed (is_row h.id) waits (λ v. ap (id_eq h.id) (same_request v)) s.rows
              ∙ ap (option_map waits) (ap (λ i. find (is_row i) s.rows) (sym is) ∙ found) in
              ap lasting (same_Some q (waits r) (sym there ∙ ap (λ i. find (is_row i) rows) is ∙ changed)) ∙ same_job r
          stays id r q found there false e = same_row (find_row id s) (find (is_row id) rows)
              (found_other id_eq (λ r. r.id) id_exact waits same_request id h.id s.rows e) r q found there

          queued : (r : Row E) → runs_now (waits r) ≡ false
          queued r = noted_kept (λ y. is_running y.state) (λ y l. refl) (λ y. refl) (dests_for r s) (record { queue = h.queue; host = h.peer }) refusal
              (requeued_row r)

    -- a handover goes
    done_with_it : Reached peer s (drop_hand (peer_number peer n) s)
    done_with_it = record {
      within = hands_within s.rows (without_first (is_hand (peer_number peer n)) s.hands) refl hands_without;
      out = λ id has out. let p = or_parts (list_any (is_offered_to peer id) s.hands) (list_any (is_promised_to peer id) s.promises) out in
          or_from (list_any (is_offered_to peer id) (without_first (is_hand (peer_number peer n)) s.hands)) (list_any (is_promised_to peer id) s.promises)
          (part_none (is_offered_to peer id) (without_part (is_hand (peer_number peer n)) s.hands) p.0) p.1;
      left = λ id has. or_left (has_row id s) (list_any (is_given_to peer id) (without_first (is_hand (peer_number peer n)) s.hands)) has;
      came = λ id none new. new;
      offers = λ id none. part_none (is_offered_for id) (without_part (is_hand (peer_number peer n)) s.hands) none;
      running = λ none. refl;
      lasts = λ distinct id r q. same_row (find_row id s) (find_row id s) refl r q;
    }

    -- an offer is promised, of a request that the host doesn't have
    promise_made : (low : ℕ) (queue : List ℕ) (c : Carried) (script : E) → has_row c.id s ≡ false → Reached peer s (promised peer n low queue c script s)
    promise_made low queue c script unknown = record {
      within = promises_within s.rows promises (raise_floor (low - 1)) (s.arrivals + 1) refl
          (kept_added (λ p. not (is_promise_of peer p)) (promises_from peer low s.promises) new
          (not_from_true (is_promise_of peer new) (same_it peer.0))
          ∙ kept_filter (λ p. not (is_promise_of peer p)) (λ p. not (is_outlived peer low p))
          (λ p e. not_from_false (is_outlived peer low p) (and_left (is_promise_of peer p) (nat_lt p.number low) (not-true (is_promise_of peer p) e)))
          s.promises)
          (omega arith);
      out = λ id has out. let p = or_parts (list_any (is_offered_to peer id) s.hands) (list_any (is_promised_to peer id) s.promises) out in
          or_from (list_any (is_offered_to peer id) s.hands) (list_any (is_promised_to peer id) promises) p.0
          (list_any-append (is_promised_to peer id) (promises_from peer low s.promises) (new ∷ [])
          ∙ or_from (list_any (is_promised_to peer id) (promises_from peer low s.promises)) (is_promised_to peer id new || false)
          (part_none (is_promised_to peer id) (filter_part (λ q. not (is_outlived peer low q)) s.promises) p.1)
          (or_from (is_promised_to peer id new) false (false_from_ne_true (is_promised_to peer id new) (λ e.
          let same : id ≡ c.id = id_exact id c.id (and_parts (is_promise_of peer new) (id_eq id c.id) e).1 in
          true≢false (sym has ∙ ap (λ i. has_row i s) same ∙ unknown))) refl));
      left = λ id has. or_left (has_row id s) (list_any (is_given_to peer id) s.hands) has;
      came = λ id none new. new;
      offers = λ id none. none;
      running = λ none. refl;
      lasts = λ distinct id r q. same_row (find_row id s) (find_row id s) refl r q;
    }
      where
        new : Promise E
        new = record { peer = peer; number = n; row = new_row c queue (s.arrivals + 1) script }

        promises : List (Promise E)
        promises = promises_from peer low s.promises ++ new ∷ []

    -- no request comes into the peer's reach as a promise goes
    still_out : (id : RequestId) → is_in_reach peer s id ≡ false
        → (list_any (is_offered_to peer id) s.hands || list_any (is_promised_to peer id) (without_first (is_promise (peer_number peer n)) s.promises)) ≡ false
    still_out id out =
        let p = or_parts (list_any (is_offered_to peer id) s.hands) (list_any (is_promised_to peer id) s.promises) out in
        or_from (list_any (is_offered_to peer id) s.hands) (list_any (is_promised_to peer id) (without_first (is_promise (peer_number peer n)) s.promises)) p.0
        (part_none (is_promised_to peer id) (without_part (is_promise (peer_number peer n)) s.promises) p.1)

    -- a promise goes
    promise_gone : Reached peer s (dropped (peer_number peer n) s)
    promise_gone = record {
      within = promises_within s.rows (without_first (is_promise (peer_number peer n)) s.promises) (close n) s.arrivals refl promises_without
          (le_refl s.arrivals);
      out = λ id has out. still_out id out;
      left = λ id has. or_left (has_row id s) (list_any (is_given_to peer id) s.hands) has;
      came = λ id none new. new;
      offers = λ id none. none;
      running = λ none. refl;
      lasts = λ distinct id r q. same_row (find_row id s) (find_row id s) refl r q;
    }

    -- a promise becomes a request, unless the host has it
    promise_kept : (p : Promise E) → find_promise peer n s ≡ Some p → Reached peer s (accepted (peer_number peer n) (Some p) s)
    promise_kept p found = by (has_row p.row.id s)
      where
        promises : List (Promise E)
        promises = without_first (is_promise (peer_number peer n)) s.promises

        promised_it : list_any (is_promised_to peer p.row.id) s.promises ≡ true
        promised_it = any_of_found (is_promise (peer_number peer n)) (is_promised_to peer p.row.id) s.promises p found
            (and_from (is_promise_of peer p) (id_eq p.row.id p.row.id) (of_peer p (found_passes (is_promise (peer_number peer n)) s.promises p found))
            (same_id p.row.id))

        reaches : is_in_reach peer s p.row.id ≡ true
        reaches = or_right (list_any (is_offered_to peer p.row.id) s.hands) (list_any (is_promised_to peer p.row.id) s.promises) promised_it

        by : (b : Bool) → Reached peer s (change_peer peer (close n) (if b then drop_promise (peer_number peer n) s else
            record (drop_promise (peer_number peer n) s) { rows = s.rows ++ requeued_row p.row ∷ [] }))
        by true = promise_gone
        by false = record {
          within = promises_within (s.rows ++ requeued_row p.row ∷ []) promises (close n) s.arrivals
              (kept_added (λ r. not (is_in_reach peer s r.id)) s.rows (requeued_row p.row) (not_from_true (is_in_reach peer s p.row.id) reaches))
              promises_without (le_refl s.arrivals);
          out = λ id has out. still_out id out;
          left = λ id has. or_left (list_any (is_row id) (s.rows ++ requeued_row p.row ∷ [])) (list_any (is_given_to peer id) s.hands)
              (any-before (is_row id) s.rows (requeued_row p.row ∷ []) has);
          came = λ id none new. list_any-append (is_row id) s.rows (requeued_row p.row ∷ []) ∙ or_from (list_any (is_row id) s.rows)
              (id_eq id p.row.id || false) new (or_from (id_eq id p.row.id) false (false_from_ne_true (id_eq id p.row.id) (λ e.
              true≢false (sym promised_it ∙ ap (λ i. list_any (is_promised_to peer i) s.promises) (sym (id_exact id p.row.id e)) ∙ none))) refl);
          offers = λ id none. none;
          running = λ none. kept_added runs_now s.rows (requeued_row p.row) refl;
          lasts = λ distinct id r q found there. ap lasting (same_Some q r (sym there ∙ found_before (is_row id) s.rows (requeued_row p.row ∷ []) r found));
        }

    -- a stage becomes a file, where a number is left for one
    file_made : (part : OutPart E) → Reached peer s (stage_got peer n part s)
    file_made part = by (nat_lt s.file_next last_u64)
      where
        noted : Peer → Peer
        noted p = record p { stage_got = n }

        file : FileOut E
        file = record { number = s.file_next; path = part.path; bytes = part.bytes }

        t : State E
        t = record s { peers = change_at peer.0 noted s.peers }

        by : (b : Bool) → Reached peer s (if b then record t { files = s.files ++ file ∷ []; file_next = s.file_next + 1 } else t)
        by true = calm (record t { files = s.files ++ file ∷ []; file_next = s.file_next + 1 })
            (files_within noted (file ∷ []) (s.file_next + 1) (omega arith)) refl refl refl
        by false = calm t (promises_within s.rows s.promises noted s.arrivals refl refl (le_refl s.arrivals)) refl refl refl

    -- a stage was taken
    stage_gone : Reached peer s (record s { stages = without_first (is_stage (peer_number peer n)) s.stages })
    stage_gone = calm (record s { stages = without_first (is_stage (peer_number peer n)) s.stages }) (record {
      settings = settings_kept (record (parts_of s) { stages = without_first (is_stage (peer_number peer n)) s.stages }) s;
      hands = refl;
      promises = refl;
      peers = λ known. refl;
      stages = stages_without;
      rows = refl;
      files = ([], sym (append-nil s.files));
      arrivals = le_refl s.arrivals;
      file_next = le_refl s.file_next;
    }) refl refl refl

-- by the message

module _ (peer : HostId) (s : Plain) where
  abbrev After : Stepped (List ℕ) → Type 0
  After x = Reached peer s (after_step x s)

  offered : (n low : ℕ) (queue : List ℕ) (c : Carried) (script : List ℕ) → After (on_offer peer n low queue c script s)
  offered n low queue c script = by (closes n (find_peer peer s)) (has_promise peer n s)
    where
      entry : List Cause
      entry = cause (not (has_queue queue s)) (NoQueue queue) ∷ causes_of (offer_entry_causes c) (find_queue queue s)
          ++ cause (offer_full peer low s) HostFull ∷ cause (arrivals_used s) NumbersUsed ∷ []

      taken : (r : Result (Unit {0}) Refusal) → has_row c.id s ≡ false → After (offer_by r peer n low queue c script s)
      taken (Err refusal) new = nothing peer n s
      taken (Ok u) new = promise_made peer n s low queue c script new

      known : (b : Bool) → (has_row c.id s || is_not_given_here c.id s) ≡ b
          → After (offer_by (first_refusal (cause b (RequestExists (named_of c.id s)) ∷ entry)) peer n low queue c script s)
      known true e = nothing peer n s
      known false e = taken (first_refusal entry) (or_parts (has_row c.id s) (is_not_given_here c.id s) e).0

      by : (b d : Bool) → After (if b then says (send_done s peer n ∷ []) else (if d then says (send_ready s peer n ∷ []) else
          offer_by (first_refusal (offer_causes peer low queue c s)) peer n low queue c script s))
      by true d = nothing peer n s
      by false true = nothing peer n s
      by false false = known (has_row c.id s || is_not_given_here c.id s) refl

  readied : (n : ℕ) → After (on_ready peer n s)
  readied n = of (find_hand peer n s) refl
    where
      missing : (b : Bool) → After (if b then says (send_abort s peer n ∷ []) else quiet)
      missing true = nothing peer n s
      missing false = nothing peer n s

      by : (h : Hand) → find_hand peer n s ≡ Some h → (p : Phase) → h.phase ≡ p → After (ready_phase p peer n s)
      by h found Offered e = subst (λ o. Reached peer s (hand_committed (peer_number peer n) o s)) (sym found) (given peer n s h found (ap is_offered e))
      by h found Committed e = nothing peer n s

      of : (o : Option Hand) → find_hand peer n s ≡ o → After (ready_with o peer n s)
      of None found = missing (was_given n (find_peer peer s))
      of (Some h) found = by h found h.phase refl

  refused : (n refusal : ℕ) → After (on_refused peer n refusal s)
  refused n refusal = of (find_hand peer n s) refl
    where
      by : (h : Hand) → find_hand peer n s ≡ Some h → (p : Phase) → h.phase ≡ p → After (refused_phase p peer n refusal)
      by h found Offered e = subst (λ o. Reached peer s (hand_refused (peer_number peer n) refusal o s)) (sym found)
          (taken_back peer n s h found (ap is_offered e) refusal)
      by h found Committed e = nothing peer n s

      of : (o : Option Hand) → find_hand peer n s ≡ o → After (refused_with o peer n refusal)
      of None found = nothing peer n s
      of (Some h) found = by h found h.phase refl

  finished : (n : ℕ) → After (on_done peer n s)
  finished n = of (find_hand peer n s)
    where
      by : (p : Phase) → After (done_phase p peer n)
      by Offered = nothing peer n s
      by Committed = done_with_it peer n s

      of : (o : Option Hand) → After (done_with o peer n)
      of None = nothing peer n s
      of (Some h) = by h.phase

  kept : (n : ℕ) → Reached peer s (accepted (peer_number peer n) (find_promise peer n s) s)
  kept n = of (find_promise peer n s) refl
    where
      of : (o : Option (Promise (List ℕ))) → find_promise peer n s ≡ o → Reached peer s (accepted (peer_number peer n) o s)
      of None found = nothing peer n s
      of (Some p) found = promise_kept peer n s p found

  said_done : (n : ℕ) → After (commit_without peer n s)
  said_done n = by (closes n (find_peer peer s))
    where
      by : (b : Bool) → After (if b then says (send_done s peer n ∷ []) else quiet)
      by true = nothing peer n s
      by false = nothing peer n s

  commits : (n : ℕ) → After (on_commit peer n s)
  commits n = by (has_promise peer n s)
    where
      by : (b : Bool) → After (if b then makes (Accepted peer n) (send_done s peer n ∷ []) else commit_without peer n s)
      by true = kept n
      by false = said_done n

  aborted : (n : ℕ) → After (on_abort peer n s)
  aborted n = by (has_promise peer n s)
    where
      by : (b : Bool) → After (if b then makes (Dropped peer n) [] else quiet)
      by true = promise_gone peer n s
      by false = nothing peer n s

  staged : (n : ℕ) (path bytes : List ℕ) → After (on_stage peer n path bytes s)
  staged n path bytes = by (passes (is_got n) (find_peer peer s)) (has_left s.file_next 0)
    where
      by : (b d : Bool) → After (if b then says (send_staged s peer n ∷ []) else (if d then
          makes (StageGot peer n path bytes) (send_staged s peer n ∷ ready (out.File s.file_next path bytes) ∷ []) else
          makes (StageGot peer n path []) (send_staged s peer n ∷ [])))
      by true d = nothing peer n s
      by false true = file_made peer n s (record { path = path; bytes = bytes })
      by false false = file_made peer n s (record { path = path; bytes = [] })

  unstaged : (n : ℕ) → After (on_staged peer n s)
  unstaged n = by (has_stage peer n s)
    where
      by : (b : Bool) → After (if b then
          makes (StageGone peer n) (due_of s peer (without_first (is_stage (peer_number peer n)) s.stages)) else quiet)
      by true = stage_gone peer n s
      by false = nothing peer n s

  -- whatever the message is
  pub reached : (b : Body) → After (on_message peer b s)
  reached (body.Offer n low queue c script) = offered n low queue c script
  reached (body.Ready n) = readied n
  reached (body.Refused n refusal) = refused n refusal
  reached (body.Commit n) = commits n
  reached (body.Done n) = finished n
  reached (body.Inquire n) = readied n
  reached (body.Abort n) = aborted n
  reached (body.Stage n path bytes) = staged n path bytes
  reached (body.Staged n) = unstaged n
  reached b = nothing peer 0 s
