-- Every message that a host sends is within its limits, and so is what it stores.
use Rattle.std.proofs.Common.{◌≡◌, ℕ, ◌+◌, ◌<◌, Bool, true, false, not, ◌&&◌, ◌||◌, ◌==◌, nat_lt, nat_le, List, [], ◌∷◌, ◌++◌, map, filter, length, slice_get}
use Rattle.std.proofs.Common.{Option, None, Some, Result, Ok, Err, true≢false, refl, sym, ap, subst, ◌∙◌, arith, if◌then◌else◌}
use Rattle.std.proofs.lemmas.Bool.{and_parts, and_from, or_right, leb-true, le-leb, ltb-true, lt-ltb, eqb-true, eq-eqb}
use Rattle.std.proofs.lemmas.Option.{same_Some, none-some}
use Rattle.std.proofs.lemmas.List.{length-append}
use Rattle.std.proofs.lemmas.List.Folds.{list_all-append}
use Rattle.std.specs.Option.{IfSome, option_map, option_and_then}
use Rattle.std.specs.List.{list_any, list_all, flat_map}
use Rattle.nqs_state.specs.State.{Plain}
use Rattle.nqs_base_tables.specs.Table.{best_from, better, without_first}
use Rattle.nqs_state.specs.Keys.{is_row, is_stage, is_file}
use Rattle.nqs_base.specs.Path.{is_path}
use Rattle.nqs_base.proofs.Plain.{all-true}
use Rattle.nqs_types.specs.declared.ids.HostId.{HostId}
use Rattle.nqs_types.specs.declared.ids.RequestId.{RequestId}
use Rattle.nqs_types.specs.declared.ids.Dest.{Dest}
use Rattle.nqs_types.specs.declared.ids.Named.{Named}
use Rattle.nqs_types.specs.declared.ids.PeerNumber.{PeerNumber}
use Rattle.nqs_types.specs.declared.request.Job.{Job}
use Rattle.nqs_types.specs.declared.request.Hand.{Hand}
use Rattle.nqs_types.specs.declared.request.Peer.{Peer}
use Rattle.nqs_types.specs.declared.request.Promise.{Promise}
use Rattle.nqs_types.specs.declared.request.Stage.{Stage}
use Rattle.nqs_types.specs.declared.request.Carried.{Carried}
use Rattle.nqs_types.specs.declared.request.Phase.{Phase}
use Rattle.nqs_types.specs.declared.request.Phase.TheVariants.{Offered, Committed}
use Rattle.nqs_types.specs.declared.queue.QueueDef.{QueueDef}
use Rattle.nqs_types.specs.declared.rule.Choice.{Choice}
use Rattle.nqs_types.specs.declared.rule.Choice.TheVariants.{Launch, Print, TooFar, Local, Hand as HandTo}
use Rattle.nqs_types.specs.declared.refusal.Refusal.{Refusal}
use Rattle.nqs_types.specs.declared.edit.Edit.{Edit}
use Rattle.nqs_types.specs.declared.edit.Edit.TheVariants.{Rows as RowsOf}
use Rattle.nqs_types.specs.declared.edit.RowsEdit.TheVariants.{AbortQueue}
use Rattle.nqs_types.specs.declared.change.Change.{Change}
use Rattle.nqs_types.specs.declared.change.Change.TheVariants.{Submitted, Deleted, Doomed, Edited, Unlaunched, HandOpened, Accepted, Dropped, StageGot}
use Rattle.nqs_types.specs.declared.change.Change.TheVariants.{StageGone, FileGone}
use Rattle.nqs_types.specs.declared.message.Message.{Message}
use Rattle.nqs_types.specs.declared.message.Body.{Body}
use Rattle.nqs_types.specs.declared.message.Body.TheVariants as body
use Rattle.nqs_types.specs.declared.event.Command.{Command}
use Rattle.nqs_types.specs.declared.event.Command.TheVariants as command
use Rattle.nqs_types.specs.declared.event.Event.{Event}
use Rattle.nqs_types.specs.declared.event.Event.TheVariants as event
use Rattle.nqs_types.specs.declared.event.Reply.TheVariants as reply
use Rattle.nqs_types.specs.declared.event.Output.{Output}
use Rattle.nqs_types.specs.declared.event.Output.TheVariants as out
use Rattle.nqs_rules.specs.Tests.{passes, is_ready, is_running, is_offered}
use Rattle.nqs_rules.specs.Causes.{Cause, first_refusal, refusal_number}
use Rattle.nqs_rules.specs.Find.{peer_number, find_queue, find_row, meant_row, find_hand, has_promise, has_stage, find_peer, host_at}
use Rattle.nqs_rules.specs.Access.{rank, may_command}
use Rattle.nqs_rules.specs.Rows.{queue_meant, submit_causes, delete_causes}
use Rattle.nqs_rules.specs.Fits.{fits, row_passes, may_hop, is_next, edit_causes, is_site_host, is_open_number}
use Rattle.nqs_rules.specs.Routing.{is_hand_to, low, has_room_for_hand, is_within_window}
use Rattle.nqs_rules.specs.Sane.{is_of_site, is_short_script, is_short_file, is_short_output, is_short_change, is_sane_carried, is_sane_id, is_sane_job}
use Rattle.nqs_rules.specs.Sane.{is_offer_refusal, is_sane_command}
use Rattle.nqs_rules.specs.Sane.{is_sane_low, is_sane_body, is_sane_message, is_sane_event}
use Rattle.nqs_rules.specs.Stepped.{Stepped, Pending, quiet, says, makes, message, ready, shown, part_bytes, stored_parts}
use Rattle.nqs_rules.specs.Handover.{closes, was_given, carried_of, offer, send_commit, send_abort, send_ready, send_done, send_refused, send_inquire}
use Rattle.nqs_rules.specs.Handover.{opened_with, open_hand, offer_causes, offer_by, on_offer, ready_phase, ready_with, on_ready, refused_phase, refused_with}
use Rattle.nqs_rules.specs.Handover.{on_refused, on_commit, done_phase, done_with, on_done, on_abort, is_silent, silent_hands, repeat_offer, repeat_phase}
use Rattle.nqs_rules.specs.Handover.{staying_hands, repeat_hand, repeated_hands, inquiries, silence}
use Rattle.nqs_rules.specs.Stage.{Part, part_to, parts_of, has_left, numbered, stage_counter, goes_here, first_number, kept_parts, files_written, is_stage_to}
use Rattle.nqs_rules.specs.Stage.{has_stage_to, stage_sent, parts_sent, on_end, is_got, send_staged, on_stage, is_earlier_stage, send_stage, due_of, on_staged}
use Rattle.nqs_rules.specs.Stage.{on_written, file_again, stages_from, due_outputs}
use Rattle.nqs_rules.specs.Start.{launching, printing, moving_by, moving, holding, local_causes, with_row, device_at, dest_at, started, start_by, start}
use Rattle.nqs_rules.specs.Order.{pick}
use Rattle.nqs_rules.specs.Applied.{next_id}
use Rattle.nqs_rules.specs.Step.{completed, Asker, reply_to, answer_to, unless_refused, submit_to, kill, delete_meant, why_reply, runs_in_queue, kills_of}
use Rattle.nqs_rules.specs.Step.{stat_causes}
use Rattle.nqs_rules.specs.Step.{ticked, on_allowed, on_message, is_start, ended_by, acknowledged, unlaunched_by, step}
use Rattle.nqs_rules.specs.Text.{stat_lines}
use Rattle.nqs_rules.specs.World.{sent_by, body_number}
use Rattle.nqs_rules.specs.InOrder.{IsInOrder, is_row_right, is_promise_right, is_hand_right, is_hand_given, is_stage_right, is_stage_given}
use Rattle.nqs_rules.specs.InOrder.{is_given, is_peer_right, is_routing_row, ascends_from}
use Rattle.nqs_rules.proofs.Chains.{each, chained, implied}
use Rattle.nqs_rules.proofs.ListFacts.{list_all-found, list_all-weaker, found_again}
use Rattle.nqs_rules.proofs.KeyFacts.{all_get, all-both, place_below}
use Rattle.nqs_rules.proofs.FindKept.{all-mapped}
use Rattle.nqs_rules.proofs.Sublists.{part_all, without_part, filter_part}
use Rattle.nqs_rules.proofs.StateFacts.{sites_are, keys_are}
use Rattle.nqs_rules.proofs.RowFacts.{row_is, promise_is, same_id}
use Rattle.nqs_rules.proofs.RowsOrder.{hand_is}
use Rattle.nqs_rules.proofs.RowChanges.{waits, few_hops, routing_is, ready_queued}
use Rattle.nqs_types.specs.Ids.{id_eq, id_exact}
use Rattle.nqs_rules.specs.Picked.{PlainRow}
use Rattle.nqs_laws.proofs.LowFacts.{is_above, low_above, low_next}
use Rattle.nqs_laws.specs.Words.{body_passes}
use Rattle.nqs_laws.proofs.Frame.{sent_in}
use Rattle.nqs_laws.proofs.RowTests.{AllPass}
use Rattle.nqs_rules.proofs.Sides.{AreShort}

-- small facts

pub all-flat : {V W : Type 0} (p : V → Bool) (q : W → Bool) (g : V → List W) → ((v : V) → p v ≡ true → list_all q (g v) ≡ true) → (vs : List V)
    → list_all p vs ≡ true → list_all q (flat_map g vs) ≡ true
all-flat p q g f [] h = refl
all-flat p q g f (v ∷ vs) h = let k = and_parts (p v) (list_all p vs) h in
    list_all-append q (g v) (flat_map g vs) ∙ and_from (list_all q (g v)) (list_all q (flat_map g vs)) (f v k.0) (all-flat p q g f vs k.1)

-- the best of a list passes what all pass
pub best_passes : {V : Type 0} (p test : V → Bool) (beats : V → V → Bool) (n : ℕ) (vs : List V) → list_all p vs ≡ true
    → IfSome (best_from test beats n vs) (λ q. p q.1 ≡ true)
best_passes p test beats n [] h = tt
best_passes {V} p test beats n (v ∷ vs) h = let k = and_parts (p v) (list_all p vs) h in
    by (test v) k.0 (best_from test beats (n + 1) vs) (best_passes p test beats (n + 1) vs k.1)
  where
    of : (b : Bool) (y : ℕ × V) → p v ≡ true → p y.1 ≡ true → IfSome (if b then Some y else Some (n, v)) (λ q. p q.1 ≡ true)
    of true y a c = c
    of false y a c = a

    by : (b : Bool) → p v ≡ true → (o : Option (ℕ × V)) → IfSome o (λ q. p q.1 ≡ true) → IfSome (if b then better beats (n, v) o else o) (λ q. p q.1 ≡ true)
    by true a None c = a
    by true a (Some y) c = of (beats y.1 v) y a c
    by false a o c = c

-- the refusal that is answered is one of a list
refusal_of : (p : Refusal → Bool) (cs : List Cause) (r : Refusal) → list_all (λ (c : Cause). p c.refusal || not c.holds) cs ≡ true → first_refusal cs ≡ Err r
    → p r ≡ true
refusal_of p [] r h e = absurd (let no : ⊥ = cc in no)
refusal_of p (c ∷ cs) r h e = let k = and_parts (p c.refusal || not c.holds) (list_all (λ (c : Cause). p c.refusal || not c.holds) cs) h in
    by c.holds k.0 e (refusal_of p cs r k.1)
  where
    by : (b : Bool) → (p c.refusal || not b) ≡ true → (if b then Err c.refusal else first_refusal cs) ≡ Err r → (first_refusal cs ≡ Err r → p r ≡ true)
        → p r ≡ true
    by true k e rest = let same : c.refusal ≡ r = cc in ap p (sym same) ∙ plain (p c.refusal) k
      where
        plain : (b : Bool) → (b || false) ≡ true → b ≡ true
        plain true k = refl
        plain false k = k
    by false k e rest = rest e

abbrev pub is_fine_message : ℕ → (Carried → Bool) → Message → Bool
is_fine_message hosts test m = is_sane_message hosts m && body_passes test m.body

-- what is sent is within the limits, and goes to whom its number may go; who waits for an answer to
-- an end may get it
abbrev pub is_good_output : ℕ → (Carried → Bool) → (HostId → ℕ → Bool) → (RequestId → Bool) → Output → Bool
is_good_output hosts test goes acks (out.Send m) = is_fine_message hosts test m && goes m.to (body_number m.body)
is_good_output hosts test goes acks (out.Ack port id start) = acks id
is_good_output hosts test goes acks o = true

-- it acknowledges what it may, and is neither a start nor what a boot tells
abbrev is_plain_output : (RequestId → Bool) → Output → Bool
is_plain_output may (out.Reply port token (reply.Submitted id queue)) = may id
is_plain_output may (out.Launch order bytes) = false
is_plain_output may (out.Print device order bytes) = false
is_plain_output may (out.Again id) = false
is_plain_output may (out.Lost id) = false
is_plain_output may o = true

-- what a step may put out
abbrev pub is_step_output : ℕ → (Carried → Bool) → (RequestId → Bool) → (HostId → ℕ → Bool) → (RequestId → Bool) → Output → Bool
is_step_output hosts test may goes acks o = is_good_output hosts test goes acks o && is_plain_output may o

abbrev anywhere : HostId → ℕ → Bool
anywhere peer n = true

abbrev anyone : RequestId → Bool
anyone id = true

-- the same, wherever it goes
abbrev pub is_fine_output : ℕ → (Carried → Bool) → (RequestId → Bool) → Output → Bool
is_fine_output hosts test may o = is_step_output hosts test may anywhere anyone o

-- an answer may go where the event came from
abbrev pub GoesBack : (HostId → ℕ → Bool) → (RequestId → Bool) → Event → Type 0
GoesBack goes acks (event.Arrived now m) = goes m.from (body_number m.body) ≡ true
GoesBack goes acks (event.Ended now port id start status output error) = (port == 0) ≡ false → acks id ≡ true
GoesBack goes acks e = Unit {0}

goes_anywhere : (e : Event) → GoesBack anywhere anyone e
goes_anywhere (event.Arrived now m) = refl
goes_anywhere (event.Ended now port id start status output error) = λ e. refl
goes_anywhere e = tt

pub all_good : (hosts : ℕ) (test : Carried → Bool) (may : RequestId → Bool) (goes : HostId → ℕ → Bool) (acks : RequestId → Bool) (os : List Output)
    → list_all (is_step_output hosts test may goes acks) os ≡ true → list_all (is_good_output hosts test goes acks) os ≡ true
all_good hosts test may goes acks os k = list_all-weaker (is_step_output hosts test may goes acks) (is_good_output hosts test goes acks)
    (λ o p. (and_parts (is_good_output hosts test goes acks o) (is_plain_output may o) p).0) os k

fine_sent : (hosts : ℕ) (test : Carried → Bool) (goes : HostId → ℕ → Bool) (acks : RequestId → Bool) (o : Output)
    → is_good_output hosts test goes acks o ≡ true → list_all (is_fine_message hosts test) (sent_by o) ≡ true
fine_sent hosts test goes acks (out.Send m) k = and_from (is_fine_message hosts test m) true
    (and_parts (is_fine_message hosts test m) (goes m.to (body_number m.body)) k).0 refl
fine_sent hosts test goes acks o k = refl

-- a number that was given isn't 0
given_some : (next : Peer → ℕ) (n : ℕ) (o : Option Peer) → passes (λ p. is_given n (next p)) o ≡ true → nat_le 1 n ≡ true
given_some next n None k = absurd (true≢false (sym k))
given_some next n (Some p) k = (and_parts (nat_le 1 n) (nat_lt n (next p)) k).0

-- what is stored is short
abbrev IsShortChange : Option (Change (List ℕ)) → Type 0
IsShortChange o = IfSome o (λ c. is_short_change length c ≡ true)

pub mapped : {V W : Type 0} (x : W) (g : V → W) (o : Option V) → option_map g o ≡ Some x → (v : V) × (g v ≡ x)
mapped x g None e = absurd (none-some x e)
mapped x g (Some v) e = (v, same_Some (g v) x e)

-- what a start begins with
pub data Begins (now : ℕ) (s : Plain) (x : Stepped (List ℕ)) : Type 0 where
  Launches : (r : PlainRow) → find_row r.id s ≡ Some r → launching r s ≡ x → Begins now s x
  Prints : (r : PlainRow) (device : List ℕ) → find_row r.id s ≡ Some r → printing device r s ≡ x → Begins now s x
  Holds : (r : PlainRow) → find_row r.id s ≡ Some r → holding r ≡ x → Begins now s x
  Moves : (r : PlainRow) (dest : Dest) → find_row r.id s ≡ Some r → moving dest s r ≡ x → Begins now s x
  Opens : (r : PlainRow) (dest : Dest) → find_row r.id s ≡ Some r → open_hand dest now s r ≡ x → Begins now s x

module _ (s : Plain) (h : IsInOrder s) where
  abbrev hosts : ℕ
  hosts = length s.site

  -- the row at a place is the one of its number
  row_again : (place : ℕ) (r : PlainRow) → slice_get s.rows place ≡ Some r → find_row r.id s ≡ Some r
  row_again place r at = found_again id_eq (λ q. q.id) id_exact same_id s.rows place r (keys_are s h.keys).rows at

  pub begins : (now : ℕ) (x : Stepped (List ℕ)) → start now s ≡ Some x → Begins now s x
  begins now x e = of (pick now s) e
    where
      row : (place : ℕ) (f : PlainRow → Option (Stepped (List ℕ))) → ((r : PlainRow) → find_row r.id s ≡ Some r → f r ≡ Some x → Begins now s x)
          → with_row place s f ≡ Some x → Begins now s x
      row place f k e = at (slice_get s.rows place) refl e
        where
          at : (o : Option PlainRow) → slice_get s.rows place ≡ o → option_and_then f o ≡ Some x → Begins now s x
          at None there e = absurd (none-some x e)
          at (Some r) there e = k r (row_again place r there) e

      by : (c : Choice) → started c now s ≡ Some x → Begins now s x
      by (Launch place) e = row place (λ r. Some (launching r s)) (λ r found e. Launches r found (same_Some (launching r s) x e)) e
      by (Print place device) e = row place (λ r. option_map (λ d. printing d r s) (device_at device r s))
          (λ r found e. let k = mapped x (λ d. printing d r s) (device_at device r s) e in Prints r k.0 found k.1) e
      by (TooFar place) e = row place (λ r. Some (holding r)) (λ r found e. Holds r found (same_Some (holding r) x e)) e
      by (Local place dest) e = row place (λ r. option_map (λ d. moving d s r) (dest_at dest r s))
          (λ r found e. let k = mapped x (λ d. moving d s r) (dest_at dest r s) e in Moves r k.0 found k.1) e
      by (HandTo place dest) e = row place (λ r. option_map (λ d. open_hand d now s r) (dest_at dest r s))
          (λ r found e. let k = mapped x (λ d. open_hand d now s r) (dest_at dest r s) e in Opens r k.0 found k.1) e

      of : (o : Option Choice) → start_by o now s ≡ Some x → Begins now s x
      of None e = absurd (none-some x e)
      of (Some c) e = by c e

  -- of a host something is known exactly where it is of the site
  known_near : (host : HostId) (p : Peer) → find_peer host s ≡ Some p → is_of_site hosts host ≡ true
  known_near host p found = lt-ltb host.0 hosts (omega (arith, place_below s.peers host.0 p found, eqb-true (length s.peers) hosts (sites_are s h.site).peers))

  passes_near : (test : Peer → Bool) (host : HostId) → passes test (find_peer host s) ≡ true → is_of_site hosts host ≡ true
  passes_near test host = by (find_peer host s) refl
    where
      by : (o : Option Peer) → find_peer host s ≡ o → passes test o ≡ true → is_of_site hosts host ≡ true
      by None found k = absurd (true≢false (sym k))
      by (Some p) found k = known_near host p found

  -- what is submitted may be acknowledged
  abbrev pub MaySubmit : (RequestId → Bool) → Option (Change (List ℕ)) → Type 0
  MaySubmit may o = (queue : List ℕ) (job : Job) (script : List ℕ) → o ≡ Some (Submitted queue job script) → may (next_id s) ≡ true

  module _ (test : Carried → Bool) where
    good_sent : (goes : HostId → ℕ → Bool) (acks : RequestId → Bool) (os : List Output) → list_all (is_good_output hosts test goes acks) os ≡ true
        → list_all (is_fine_message hosts test) (sent_in os) ≡ true
    good_sent goes acks [] k = refl
    good_sent goes acks (o ∷ os) k =
        let q = and_parts (is_good_output hosts test goes acks o) (list_all (is_good_output hosts test goes acks) os) k in
        list_all-append (is_fine_message hosts test) (sent_by o) (sent_in os)
        ∙ and_from (list_all (is_fine_message hosts test) (sent_by o)) (list_all (is_fine_message hosts test) (sent_in os))
        (fine_sent hosts test goes acks o q.0) (good_sent goes acks os q.1)

    pub all_sent : (may : RequestId → Bool) (os : List Output) → list_all (is_fine_output hosts test may) os ≡ true
        → list_all (is_fine_message hosts test) (sent_in os) ≡ true
    all_sent may os k = good_sent anywhere anyone os (all_good hosts test may anywhere anyone os k)

    -- a message that offers nothing
    sane_alone : (peer : HostId) (b : Body) → is_sane_body hosts b ≡ true → body_passes test b ≡ true
        → is_fine_message hosts test (record { from = s.me; to = peer; body = b }) ≡ true
    sane_alone peer b k f = and_from (is_sane_message hosts (record { from = s.me; to = peer; body = b })) (body_passes test b)
        (and_from (is_of_site hosts s.me) (is_sane_body hosts b) (sites_are s h.site).me k) f

  module _ (test : Carried → Bool) (may : RequestId → Bool) (goes : HostId → ℕ → Bool) (acks : RequestId → Bool)
      (near : (peer : HostId) (n : ℕ) → is_of_site hosts peer ≡ true → nat_le 1 n ≡ true → goes peer n ≡ true)
      (scripts : AllPass (λ r. is_short_script r.script) s) (outputs : AreShort length s)
      (carries : list_all (λ (r : PlainRow). test (carried_of r)) s.rows ≡ true) where
    abbrev is_fine : Pending (List ℕ) → Bool
    is_fine p = is_step_output hosts test may goes acks (shown p)

    abbrev AreFine : List (Pending (List ℕ)) → Type 0
    AreFine ps = list_all is_fine ps ≡ true

    joined : (ps qs : List (Pending (List ℕ))) → AreFine ps → AreFine qs → AreFine (ps ++ qs)
    joined ps qs a b = list_all-append is_fine ps qs ∙ and_from (list_all is_fine ps) (list_all is_fine qs) a b

    one : (p : Pending (List ℕ)) → is_fine p ≡ true → AreFine (p ∷ [])
    one p k = and_from (is_fine p) true k refl

    sends : (peer : HostId) (b : Body) → is_sane_body hosts b ≡ true → body_passes test b ≡ true → goes peer (body_number b) ≡ true
        → is_fine (ready (message s.me peer b)) ≡ true
    sends peer b k f to =
        let m : Message = record { from = s.me; to = peer; body = b } in
        and_from (is_fine_message hosts test m && goes peer (body_number b)) true
        (and_from (is_fine_message hosts test m) (goes peer (body_number b)) (sane_alone test peer b k f) to) refl

    -- offers

    carried_fine : (r : PlainRow) → is_row_right s r ≡ true → is_running r.state ≡ false → nat_lt r.hops 32 ≡ true
        → (is_sane_carried (carried_of r) ≡ true) × (is_of_site hosts r.id.host ≡ true)
    carried_fine r right idle hops =
        let k = row_is s r right in
        let id = and_parts (is_site_host r.id.host s) (is_sane_id r.id) k.id in
        let same : r.starts ≡ r.lost = eqb-true r.starts r.lost (and_parts (r.starts == r.lost) _ (waits r idle k.count)).0 in
        let few : r.lost < 65535 = ltb-true r.lost 65535 k.lost in
        let low : r.hops < 32 = ltb-true r.hops 32 hops in (
          chained (is_sane_id r.id) (is_sane_job r.job ∷ nat_lt r.starts 65535 ∷ (r.lost == r.starts) ∷ nat_le (r.hops + 1) 32 ∷ []) (
            id.1,
            (
              k.job,
              (
                lt-ltb r.starts 65535 (omega (arith, same, few)),
                (eq-eqb r.lost r.starts (sym same), (le-leb (r.hops + 1) 32 (omega (arith, low)), tt)),
              ),
            ),
          ),
          id.0,
        )

    offers_fine : (peer : HostId) (n least : ℕ) (queue : List ℕ) (r : PlainRow) → is_of_site hosts peer ≡ true → nat_le 1 n ≡ true
        → is_sane_low least n ≡ true → is_row_right s r ≡ true
        → is_running r.state ≡ false → nat_lt r.hops 32 ≡ true → is_short_script r.script ≡ true → test (carried_of r) ≡ true
        → is_fine (offer s.me peer n least queue r) ≡ true
    offers_fine peer n least queue r site some sane right idle hops short fine =
        let c = carried_fine r right idle hops in
        let b : Body = body.Offer n least queue (carried_of r) r.script in
        sends peer b (chained (nat_le 1 n)
        (is_sane_low least n ∷ is_sane_carried (carried_of r) ∷ is_of_site hosts r.id.host ∷ is_short_script r.script ∷ [])
        (some, (sane, (c.0, (c.1, (short, tt)))))) fine (near peer n site some)

    row_right_at : (id : RequestId) (r : PlainRow) → find_row id s ≡ Some r
        → (is_row_right s r ≡ true) × (is_short_script r.script ≡ true) × (test (carried_of r) ≡ true)
    row_right_at id r found = (
      list_all-found (is_row_right s) (is_row id) s.rows r h.rows found,
      list_all-found (λ (q : PlainRow). is_short_script q.script)
          (is_row id) s.rows r scripts.rows found,
      list_all-found (λ (q : PlainRow). test (carried_of q)) (is_row id) s.rows r carries found,
    )

    -- stages

    abbrev is_stage_fine : Stage (List ℕ) → Bool
    is_stage_fine t = is_of_site hosts t.peer && (nat_le 1 t.number && is_path t.path && nat_le (length t.bytes) 32768)

    stages_fine : list_all is_stage_fine s.stages ≡ true
    stages_fine = all-both (is_stage_right s) (λ t. nat_le (length t.bytes) 32768) is_stage_fine (λ t a b.
        let k = and_parts (is_path t.path) (passes (is_stage_given t.number) (find_peer t.peer s)) a in
        and_from (is_of_site hosts t.peer) (nat_le 1 t.number && is_path t.path && nat_le (length t.bytes) 32768)
        (passes_near (is_stage_given t.number) t.peer k.1)
        (chained (nat_le 1 t.number) (is_path t.path ∷ nat_le (length t.bytes) 32768 ∷ [])
        (given_some (λ p. p.stage_next) t.number (find_peer t.peer s) k.1, (k.0, (b, tt))))) s.stages h.stages outputs.stages

    due_fine : (peer : HostId) (stages : List (Stage (List ℕ))) → list_all is_stage_fine stages ≡ true → AreFine (due_of s peer stages)
    due_fine peer stages k = of (best_from (is_stage_to peer) is_earlier_stage 0 stages)
        (best_passes is_stage_fine (is_stage_to peer) is_earlier_stage 0 stages k)
      where
        of : (o : Option (ℕ × Stage (List ℕ))) → IfSome o (λ q. is_stage_fine q.1 ≡ true) → AreFine (send_stage s o)
        of None k = refl
        of (Some q) k =
            let b : Body = body.Stage q.1.number q.1.path q.1.bytes in
            let p = and_parts (is_of_site hosts q.1.peer) (is_sane_body hosts b) k in
            one (message s.me q.1.peer (body.Stage q.1.number q.1.path []), Some q.1.bytes)
            (sends q.1.peer b p.1 refl (near q.1.peer q.1.number p.0 (each (nat_le 1 q.1.number) (is_path q.1.path ∷ is_short_file q.1.bytes ∷ []) p.1).0))

    due_outputs_fine : AreFine (due_outputs s)
    due_outputs_fine = joined (stages_from 0 s s.site) (map file_again s.files) (all_stages 0 s.site)
        (all-mapped (λ f. true) is_fine file_again (λ f k. refl) s.files (all-true s.files))
      where
        all_stages : (place : ℕ) (site : List (List ℕ)) → AreFine (stages_from place s site)
        all_stages place [] = refl
        all_stages place (name ∷ site) = joined (due_of s (host_at place) s.stages) (stages_from (place + 1) s site)
            (due_fine (host_at place) s.stages stages_fine) (all_stages (place + 1) site)

    -- a tick

    -- each number of a hand is 1 at least, and so is the low
    hands_above : (peer : HostId) → list_all (is_above peer 1) s.hands ≡ true
    hands_above peer = list_all-weaker (is_hand_right s) (is_above peer 1)
        (λ y right. or_right (not (is_hand_to peer y)) (nat_le 1 y.number) (given_some (λ p. p.next) y.number (find_peer y.peer s) (hand_is s y right).given))
        s.hands h.hands

    low_sane : (peer : HostId) (n : ℕ) (hands : List Hand) → nat_le 1 n ≡ true → list_all (is_above peer 1) hands ≡ true
        → is_sane_low (low peer n hands) n ≡ true
    low_sane peer n hands some above = and_from (nat_le 1 (low peer n hands)) (nat_le (low peer n hands) n)
        (le-leb 1 (low peer n hands) (low_above peer 1 n hands (leb-true 1 n some) above)) (le-leb (low peer n hands) n (low_next peer n hands))

    hand_fine : (now : ℕ) (x : Hand) → is_hand_right s x ≡ true → AreFine (repeat_hand now s x)
    hand_fine now x right = by (is_silent now s x)
      where
        site : is_of_site hosts x.peer ≡ true
        site = passes_near (is_hand_given x.number) x.peer (hand_is s x right).given

        some : nat_le 1 x.number ≡ true
        some = given_some (λ p. p.next) x.number (find_peer x.peer s) (hand_is s x right).given

        again : (o : Option PlainRow) → find_row x.id s ≡ o → passes is_routing_row o ≡ true → AreFine (repeat_offer now s x o)
        again None found routes = refl
        again (Some r) found routes =
            let k = row_right_at x.id r found in
            one (offer s.me x.peer x.number (low x.peer x.number (staying_hands now s)) x.queue r)
            (offers_fine x.peer x.number (low x.peer x.number (staying_hands now s)) x.queue r site some (low_sane x.peer x.number (staying_hands now s) some
            (part_all (is_above x.peer 1) (filter_part (λ y. not (is_silent now s y)) s.hands) (hands_above x.peer)))
            k.0 (ap is_running (routing_is r.state routes)) (few_hops r routes (row_is s r k.0).hop) k.1 k.2)

        of : (p : Phase) → x.phase ≡ p → AreFine (repeat_phase p now s x)
        of Offered e = again (find_row x.id s) refl (implied (is_offered x.phase) (passes is_routing_row (find_row x.id s)) (hand_is s x right).stands
            (ap is_offered e))
        of Committed e = one (send_commit s x.peer x.number) (sends x.peer (body.Commit x.number) refl refl (near x.peer x.number site some))

        by : (b : Bool) → AreFine (if b then [] else repeat_phase x.phase now s x)
        by true = refl
        by false = of x.phase refl

    inquiry_fine : (p : Promise (List ℕ)) → is_promise_right s p ≡ true → is_fine (send_inquire s p) ≡ true
    inquiry_fine p right = let k = promise_is s p right in
        sends p.peer (body.Inquire p.number) refl refl (near p.peer p.number (passes_near (is_open_number p.number) p.peer k.opens) k.some)

    tick_fine : (now : ℕ) → AreFine (ticked now s).outputs
    tick_fine now =
        joined (repeated_hands now s ++ inquiries s) (due_outputs s)
        (joined (repeated_hands now s) (inquiries s) (all-flat (is_hand_right s) is_fine (repeat_hand now s) (hand_fine now) s.hands h.hands)
        (all-mapped (is_promise_right s) is_fine (send_inquire s) inquiry_fine s.promises h.promises)) due_outputs_fine

    -- messages

    refusal_fine : (peer : HostId) (low : ℕ) (queue : List ℕ) (c : Carried) (r : Refusal) → first_refusal (offer_causes peer low queue c s) ≡ Err r
        → is_offer_refusal (refusal_number r) ≡ true
    refusal_fine peer low queue c r e = refusal_of (λ x. is_offer_refusal (refusal_number x)) (offer_causes peer low queue c s) r
        (of (find_queue queue s) refl) e
      where
        direct : (b : Bool) → not (b && false) ≡ true
        direct true = refl
        direct false = refl

        of : (o : Option QueueDef) → find_queue queue s ≡ o → list_all (λ (x : Cause). is_offer_refusal (refusal_number x.refusal) || not x.holds)
            (offer_causes peer low queue c s) ≡ true
        of None e = rw e refl
        of (Some d) e = rw e (and_from (not (d.pipe_only && false)) true (direct d.pipe_only) refl)

    offer_outputs : (peer : HostId) (n low : ℕ) (queue : List ℕ) (c : Carried) (script : List ℕ) → nat_le 1 n ≡ true → goes peer n ≡ true
        → AreFine (on_offer peer n low queue c script s).outputs
    offer_outputs peer n low queue c script some back = by (closes n (find_peer peer s)) (has_promise peer n s)
      where
        made : (o : Result (Unit {0}) Refusal) → first_refusal (offer_causes peer low queue c s) ≡ o → AreFine (offer_by o peer n low queue c script s).outputs
        made (Err r) e = one (send_refused s peer n (refusal_number r)) (sends peer (body.Refused n (refusal_number r))
            (and_from (nat_le 1 n) (is_offer_refusal (refusal_number r)) some (refusal_fine peer low queue c r e)) refl back)
        made (Ok u) e = one (send_ready s peer n) (sends peer (body.Ready n) refl refl back)

        by : (a b : Bool) → AreFine (if a then says (send_done s peer n ∷ []) else
            (if b then says (send_ready s peer n ∷ []) else offer_by (first_refusal (offer_causes peer low queue c s)) peer n low queue c script s)).outputs
        by true b = one (send_done s peer n) (sends peer (body.Done n) refl refl back)
        by false true = one (send_ready s peer n) (sends peer (body.Ready n) refl refl back)
        by false false = made (first_refusal (offer_causes peer low queue c s)) refl

    ready_outputs : (peer : HostId) (n : ℕ) → goes peer n ≡ true → AreFine (on_ready peer n s).outputs
    ready_outputs peer n back = of (find_hand peer n s)
      where
        missing : (b : Bool) → AreFine (if b then says (send_abort s peer n ∷ []) else quiet).outputs
        missing true = one (send_abort s peer n) (sends peer (body.Abort n) refl refl back)
        missing false = refl

        by : (p : Phase) → AreFine (ready_phase p peer n s).outputs
        by Offered = one (send_commit s peer n) (sends peer (body.Commit n) refl refl back)
        by Committed = one (send_commit s peer n) (sends peer (body.Commit n) refl refl back)

        of : (o : Option Hand) → AreFine (ready_with o peer n s).outputs
        of None = missing (was_given n (find_peer peer s))
        of (Some x) = by x.phase

    refused_outputs : (peer : HostId) (n refusal : ℕ) → AreFine (on_refused peer n refusal s).outputs
    refused_outputs peer n refusal = of (find_hand peer n s)
      where
        by : (p : Phase) → AreFine (refused_phase p peer n refusal).outputs
        by Offered = refl
        by Committed = refl

        of : (o : Option Hand) → AreFine (refused_with o peer n refusal).outputs
        of None = refl
        of (Some x) = by x.phase

    done_outputs : (peer : HostId) (n : ℕ) → AreFine (on_done peer n s).outputs
    done_outputs peer n = of (find_hand peer n s)
      where
        by : (p : Phase) → AreFine (done_phase p peer n).outputs
        by Offered = refl
        by Committed = refl

        of : (o : Option Hand) → AreFine (done_with o peer n).outputs
        of None = refl
        of (Some x) = by x.phase

    commit_outputs : (peer : HostId) (n : ℕ) → goes peer n ≡ true → AreFine (on_commit peer n s).outputs
    commit_outputs peer n back = by (has_promise peer n s) (closes n (find_peer peer s))
      where
        by : (a b : Bool) → AreFine (if a then makes (Accepted peer n) (send_done s peer n ∷ []) else
            (if b then says (send_done s peer n ∷ []) else quiet)).outputs
        by true b = one (send_done s peer n) (sends peer (body.Done n) refl refl back)
        by false true = one (send_done s peer n) (sends peer (body.Done n) refl refl back)
        by false false = refl

    abort_outputs : (peer : HostId) (n : ℕ) → AreFine (on_abort peer n s).outputs
    abort_outputs peer n = by (has_promise peer n s)
      where
        by : (a : Bool) → AreFine (if a then makes (Dropped peer n) [] else quiet).outputs
        by true = refl
        by false = refl

    stage_outputs : (peer : HostId) (n : ℕ) (path bytes : List ℕ) → goes peer n ≡ true → AreFine (on_stage peer n path bytes s).outputs
    stage_outputs peer n path bytes back = by (passes (is_got n) (find_peer peer s)) (has_left s.file_next 0)
      where
        by : (a b : Bool)
            → AreFine (if a then says (send_staged s peer n ∷ []) else (if b then
            makes (StageGot peer n path bytes) (send_staged s peer n ∷ ready (out.File s.file_next path bytes) ∷ []) else
            makes (StageGot peer n path []) (send_staged s peer n ∷ []))).outputs
        by true b = one (send_staged s peer n) (sends peer (body.Staged n) refl refl back)
        by false true = and_from (is_fine (send_staged s peer n)) true (sends peer (body.Staged n) refl refl back) refl
        by false false = one (send_staged s peer n) (sends peer (body.Staged n) refl refl back)

    staged_outputs : (peer : HostId) (n : ℕ) → AreFine (on_staged peer n s).outputs
    staged_outputs peer n = by (has_stage peer n s)
      where
        left : list_all is_stage_fine (without_first (is_stage (peer_number peer n)) s.stages) ≡ true
        left = part_all is_stage_fine (without_part (is_stage (peer_number peer n)) s.stages) stages_fine

        by : (a : Bool) → AreFine (if a then makes (StageGone peer n) (due_of s peer (without_first (is_stage (peer_number peer n)) s.stages)) else
            quiet).outputs
        by true = due_fine peer (without_first (is_stage (peer_number peer n)) s.stages) left
        by false = refl

    message_outputs : (peer : HostId) (b : Body) → is_sane_body hosts b ≡ true → goes peer (body_number b) ≡ true → AreFine (on_message peer b s).outputs
    message_outputs peer (body.Offer n low queue c script) k back = offer_outputs peer n low queue c script
        (each (nat_le 1 n) (is_sane_low low n ∷ is_sane_carried c ∷ is_of_site hosts c.id.host ∷ is_short_script script ∷ []) k).0 back
    message_outputs peer (body.Ready n) k back = ready_outputs peer n back
    message_outputs peer (body.Refused n refusal) k back = refused_outputs peer n refusal
    message_outputs peer (body.Commit n) k back = commit_outputs peer n back
    message_outputs peer (body.Done n) k back = done_outputs peer n
    message_outputs peer (body.Inquire n) k back = ready_outputs peer n back
    message_outputs peer (body.Abort n) k back = abort_outputs peer n
    message_outputs peer (body.Stage n path bytes) k back = stage_outputs peer n path bytes back
    message_outputs peer (body.Staged n) k back = staged_outputs peer n
    message_outputs peer b k back = refl

    -- commands

    unless_fine : (a : Asker) (o : Result (Unit {0}) Refusal) (done : Stepped (List ℕ)) → AreFine done.outputs → AreFine (unless_refused a o done).outputs
    unless_fine a (Err r) done k = refl
    unless_fine a (Ok u) done k = k

    kills_fine : (rows : List PlainRow) → AreFine (map kill rows)
    kills_fine rows = all-mapped (λ r. true) is_fine kill (λ r k. refl) rows (all-true rows)

    edit_outputs : (e : Edit) → AreFine (kills_of e s)
    edit_outputs (RowsOf (AbortQueue q)) = kills_fine (filter (runs_in_queue q) s.rows)
    edit_outputs e = refl

    submit_outputs : (a : Asker) (o : Option (List ℕ)) (sub : _) → MaySubmit may (submit_to a sub s o).change → AreFine (submit_to a sub s o).outputs
    submit_outputs a None sub submits = refl
    submit_outputs a (Some q) sub submits = and_from (may (next_id s)) true (submits q (completed (s.seq + 1) sub.folder sub.job) sub.script refl) refl

    unless_submits : (a : Asker) (o : Result (Unit {0}) Refusal) (done : Stepped (List ℕ)) → MaySubmit may (unless_refused a o done).change
        → (MaySubmit may done.change → AreFine done.outputs) → AreFine (unless_refused a o done).outputs
    unless_submits a (Err r) done submits k = refl
    unless_submits a (Ok u) done submits k = k submits

    delete_outputs : (a : Asker) (id : Named) (o : Option PlainRow) → AreFine (delete_meant a id o).outputs
    delete_outputs a id None = refl
    delete_outputs a id (Some r) = by (is_running r.state)
      where
        by : (b : Bool) → AreFine (if b then makes (Doomed r.id) (reply_to a (reply.Signalled r.id) ∷ kill r ∷ []) else
            makes (Deleted r.id) (reply_to a (reply.Deleted r.id) ∷ [])).outputs
        by true = refl
        by false = refl

    why_outputs : (now : ℕ) (a : Asker) (id : Named) (o : Option PlainRow) → AreFine (answer_to a (why_reply now id s o)).outputs
    why_outputs now a id None = refl
    why_outputs now a id (Some r) = refl

    command_outputs : (now : ℕ) (a : Asker) (user : List ℕ) (c : Command) → MaySubmit may (on_allowed now a user c s).change
        → AreFine (on_allowed now a user c s).outputs
    command_outputs now a user (command.Submit sub) submits = unless_submits a (first_refusal (submit_causes sub s))
        (submit_to a sub s (queue_meant sub.queue s.default_queue)) submits (submit_outputs a (queue_meant sub.queue s.default_queue) sub)
    command_outputs now a user (command.Edit e) submits = unless_fine a (first_refusal (edit_causes e s))
        (makes (Edited e) (reply_to a reply.Done ∷ kills_of e s)) (edit_outputs e)
    command_outputs now a user (command.Stat owner queues) submits = unless_fine a (first_refusal (stat_causes queues s))
        (answer_to a (reply.Lines (stat_lines owner queues s))) refl
    command_outputs now a user (command.Delete id forced) submits = unless_fine a (first_refusal (delete_causes user id forced s))
        (delete_meant a id (meant_row id s)) (delete_outputs a id (meant_row id s))
    command_outputs now a user (command.Show code) submits = refl
    command_outputs now a user (command.Why id) submits = why_outputs now a id (meant_row id s)
    command_outputs now a user command.Shutdown submits = refl
    command_outputs now a user command.Tick submits = joined (ticked now s).outputs (reply_to a reply.Done ∷ []) (tick_fine now) refl
    command_outputs now a user (command.UnreadLine fault) submits = refl
    command_outputs now a user (command.UnreadWords fault) submits = refl

    -- ends

    abbrev is_part_fine : Part → Bool
    is_part_fine part = is_path part.path && is_short_file part.bytes

    short_enough : (bytes : List ℕ) → is_short_output bytes ≡ true → is_short_file bytes ≡ true
    short_enough bytes k = le-leb (length bytes) 32768 (let few = leb-true (length bytes) 16384 k in omega (arith, few))

    both_short : (a b : List ℕ) → is_short_output a ≡ true → is_short_output b ≡ true → is_short_file (a ++ b) ≡ true
    both_short a b k l = le-leb (length (a ++ b)) 32768 (let few = leb-true (length a) 16384 k in let more = leb-true (length b) 16384 l in
        omega (arith, length-append a b, few, more))

    part_fine : (path bytes : List ℕ) → is_path path ≡ true → is_short_file bytes ≡ true → list_all is_part_fine (part_to path bytes) ≡ true
    part_fine path [] k l = refl
    part_fine path (b ∷ bytes) k l = and_from (is_path path && is_short_file (b ∷ bytes)) true
        (and_from (is_path path) (is_short_file (b ∷ bytes)) k l) refl

    parts_fine : (j : Job) (output error : List ℕ) → is_sane_job j ≡ true → is_short_output output ≡ true → is_short_output error ≡ true
        → list_all is_part_fine (parts_of j output error) ≡ true
    parts_fine j output error k a b = by j.join (each (nat_le j.priority 63) (is_path j.out ∷ is_path j.err ∷ []) k)
      where
        by : (c : Bool) → (nat_le j.priority 63 ≡ true) × ((is_path j.out ≡ true) × ((is_path j.err ≡ true) × Unit {0}))
            → list_all is_part_fine (if c then part_to j.out (output ++ error) else part_to j.out output ++ part_to j.err error) ≡ true
        by true p = part_fine j.out (output ++ error) p.1.0 (both_short output error a b)
        by false p =
            list_all-append is_part_fine (part_to j.out output) (part_to j.err error)
            ∙ and_from (list_all is_part_fine (part_to j.out output)) (list_all is_part_fine (part_to j.err error))
            (part_fine j.out output p.1.0 (short_enough output a)) (part_fine j.err error p.1.1.0 (short_enough error b))

    numbered_fine : (counter n : ℕ) (parts : List Part) → list_all is_part_fine parts ≡ true → list_all is_part_fine (numbered counter n parts) ≡ true
    numbered_fine counter n [] k = refl
    numbered_fine counter n (part ∷ parts) k = let p = and_parts (is_part_fine part) (list_all is_part_fine parts) k in
        by (has_left counter n) p.0 (numbered_fine counter (n + 1) parts p.1)
      where
        by : (b : Bool) → is_part_fine part ≡ true → list_all is_part_fine (numbered counter (n + 1) parts) ≡ true
            → list_all is_part_fine (if b then part ∷ numbered counter (n + 1) parts else []) ≡ true
        by true a rest = and_from (is_part_fine part) (list_all is_part_fine (numbered counter (n + 1) parts)) a rest
        by false a rest = refl

    kept_fine : (r : PlainRow) (output error : List ℕ) → is_row_right s r ≡ true → is_short_output output ≡ true → is_short_output error ≡ true
        → list_all is_part_fine (kept_parts s r output error) ≡ true
    kept_fine r output error right a b = numbered_fine (first_number s r.id) 0 (parts_of r.job output error)
        (parts_fine r.job output error (row_is s r right).job a b)

    stored_fine : (parts : List Part) → list_all is_part_fine parts ≡ true → list_all (λ (part : Part). is_short_file part.bytes) parts ≡ true
    stored_fine parts k = list_all-weaker is_part_fine (λ (part : Part). is_short_file part.bytes)
        (λ part p. (and_parts (is_path part.path) (is_short_file part.bytes) p).1) parts k

    parts_outputs : (id : RequestId) (parts : List Part) → is_of_site hosts id.host ≡ true → list_all is_part_fine parts ≡ true
        → AreFine (parts_sent s id parts)
    parts_outputs id parts site k = by (goes_here s id) (has_stage_to id.host s)
      where
        files : (n : ℕ) (ps : List Part) → AreFine (files_written n ps)
        files n [] = refl
        files n (p ∷ ps) = files (n + 1) ps

        counter : (o : Option Peer) → (find_peer id.host s ≡ o) → nat_le 1 (stage_counter o) ≡ true
        counter None e = refl
        counter (Some p) e = (each (nat_le 1 p.next) (nat_le 1 p.stage_next ∷ ascends_from p.floor p.closed ∷ [])
            (all_get is_peer_right s.peers id.host.0 p h.peers e)).1.0

        sent : (ps : List Part) → list_all is_part_fine ps ≡ true → AreFine (stage_sent s.me id.host (stage_counter (find_peer id.host s)) ps)
        sent [] k = refl
        sent (p ∷ ps) k =
            let q = (and_parts (is_part_fine p) (list_all is_part_fine ps) k).0 in
            let number : ℕ = stage_counter (find_peer id.host s) in
            let b : Body = body.Stage number p.path p.bytes in
            let some = counter (find_peer id.host s) refl in
            one (ready (message s.me id.host b)) (sends id.host b (let k = and_parts (is_path p.path) (is_short_file p.bytes) q in
            chained (nat_le 1 number) (is_path p.path ∷ is_short_file p.bytes ∷ []) (some, (k.0, (k.1, tt)))) refl (near id.host number site some))

        by : (a b : Bool) → AreFine (if a then files_written s.file_next parts else
            (if b then [] else stage_sent s.me id.host (if a then s.file_next else stage_counter (find_peer id.host s)) parts))
        by true b = files s.file_next parts
        by false true = refl
        by false false = sent parts k

    ended_outputs : (id : RequestId) (start status : ℕ) (output error : List ℕ) → is_short_output output ≡ true → is_short_output error ≡ true
        → AreFine (ended_by (find_row id s) start status output error s).outputs × IsShortChange (ended_by (find_row id s) start status output error s).change
    ended_outputs id start status output error a b = of (find_row id s) refl
      where
        by : (r : PlainRow) → find_row id s ≡ Some r → (c : Bool) → (let d : Stepped (List ℕ) = if c then on_end status r output error s else quiet in
            AreFine d.outputs × IsShortChange d.change)
        by r found true =
            let right = (row_right_at id r found).0 in
            let k = kept_fine r output error right a b in
            let site = (and_parts (is_of_site hosts r.id.host) (is_sane_id r.id) (row_is s r right).id).0 in
            (parts_outputs r.id (kept_parts s r output error) site k, stored_fine (kept_parts s r output error) k)
        by r found false = (refl, tt)

        of : (o : Option PlainRow) → find_row id s ≡ o → AreFine (ended_by o start status output error s).outputs
            × IsShortChange (ended_by o start status output error s).change
        of None found = (refl, tt)
        of (Some r) found = by r found (is_start start r)

    acks_fine : (port : ℕ) (id : RequestId) (start : ℕ) → ((port == 0) ≡ false → acks id ≡ true) → AreFine (acknowledged port id start)
    acks_fine port id start = by (port == 0)
      where
        by : (b : Bool) → (b ≡ false → acks id ≡ true) → AreFine (if b then [] else ready (out.Ack port id start) ∷ [])
        by true back = refl
        by false back = one (ready (out.Ack port id start)) (and_from (acks id) true (back refl) refl)

    unlaunched_outputs : (o : Option PlainRow) (id : RequestId) (start : ℕ) → AreFine (unlaunched_by o id start).outputs
    unlaunched_outputs None id start = refl
    unlaunched_outputs (Some r) id start = by (is_start start r)
      where
        by : (b : Bool) → AreFine (if b then makes (Unlaunched id) (ready (out.Unlaunched id start) ∷ []) else quiet).outputs
        by true = refl
        by false = refl

    written_outputs : (file : ℕ) → AreFine (on_written file s).outputs
    written_outputs file = by (list_any (is_file file) s.files)
      where
        by : (b : Bool) → AreFine (if b then makes (FileGone file) [] else quiet).outputs
        by true = refl
        by false = refl

    -- what an event makes a host send is within its limits, and goes where it may
    pub step_good : (e : Event) → is_sane_event hosts e ≡ true → GoesBack goes acks e → MaySubmit may (step e s).change
        → list_all (is_step_output hosts test may goes acks) (map shown (step e s).outputs) ≡ true
    step_good e k back submits = all-mapped is_fine (is_step_output hosts test may goes acks) shown (λ p q. q) (step e s).outputs (fine e k back submits)
      where
        fine : (e : Event) → is_sane_event hosts e ≡ true → GoesBack goes acks e → MaySubmit may (step e s).change → AreFine (step e s).outputs
        fine (event.Ask now port token user c) k back submits = unless_submits (record { port = port; token = token }) (may_command (rank user s) c)
            (on_allowed now (record { port = port; token = token }) user c s) submits (command_outputs now (record { port = port; token = token }) user c)
        fine (event.Arrived now m) k back submits = message_outputs m.from m.body (and_parts (is_of_site hosts m.from) (is_sane_body hosts m.body) k).1 back
        fine (event.Ended now port id start status output error) k back submits =
            let p = and_parts (is_short_output output) (is_short_output error) k in
            joined (ended_by (find_row id s) start status output error s).outputs (acknowledged port id start)
            (ended_outputs id start status output error p.0 p.1).0 (acks_fine port id start back)
        fine (event.Unlaunched now id start) k back submits = unlaunched_outputs (find_row id s) id start
        fine (event.Written now file) k back submits = written_outputs file
        fine (event.Unwritten now file) k back submits = refl
        fine (event.Tick now) k back submits = tick_fine now

    -- and so does what goes out of a start
    pub start_good : (now : ℕ) (x : Stepped (List ℕ)) → start now s ≡ Some x → ((c : Change (List ℕ)) → x.change ≡ Some c → fits c s ≡ true)
        → list_all (is_good_output hosts test goes acks) (map shown x.outputs) ≡ true
    start_good now x e fit = of (begins now x e)
      where
        IsGood : Stepped (List ℕ) → Type 0
        IsGood y = list_all (is_good_output hosts test goes acks) (map shown y.outputs) ≡ true

        moved : (o : Result (Unit {0}) Refusal) (queue : List ℕ) (r : PlainRow) → IsGood (moving_by o queue r)
        moved (Ok u) queue r = refl
        moved (Err refusal) queue r = refl

        opened : (r : PlainRow) (dest : Dest) → find_row r.id s ≡ Some r → (o : Option Peer) → find_peer dest.host s ≡ o → opened_with o dest now s r ≡ x
            → IsGood (opened_with o dest now s r)
        opened r dest found None known e = refl
        opened r dest found (Some p) known e =
            let fitting = fit (HandOpened dest.host p.next r.id dest.queue now) (sym (ap (λ (y : Stepped (List ℕ)). y.change) e)) in
            let hop : may_hop r ≡ true = ap (passes may_hop) (sym found) ∙
            (each (row_passes (may_hop {E = List ℕ}) r.id s) (passes (is_next p.next) (find_peer dest.host s)
            ∷ has_room_for_hand dest.host s ∷ passes (is_within_window dest.host s) (find_peer dest.host s) ∷ []) fitting).0 in
            let some : nat_le 1 p.next ≡ true = (each (nat_le 1 p.next) (nat_le 1 p.stage_next ∷ ascends_from p.floor p.closed ∷ [])
            (all_get is_peer_right s.peers dest.host.0 p h.peers known)).0 in
            let least = low dest.host p.next s.hands in
            let k = row_right_at r.id r found in
            all_good hosts test may goes acks (shown (offer s.me dest.host p.next least dest.queue r) ∷ [])
            (one (offer s.me dest.host p.next least dest.queue r)
            (offers_fine dest.host p.next least dest.queue r (known_near dest.host p known) some
            (low_sane dest.host p.next s.hands some (hands_above dest.host)) k.0
            (ap is_running (ready_queued r (and_parts (is_ready r) (nat_lt r.hops 32) hop).0)) (and_parts (is_ready r) (nat_lt r.hops 32) hop).1 k.1 k.2))

        of : Begins now s x → IsGood x
        of (Launches r found is) = subst IsGood is refl
        of (Prints r device found is) = subst IsGood is refl
        of (Holds r found is) = subst IsGood is refl
        of (Moves r dest found is) = subst IsGood is (moved (first_refusal (local_causes dest.queue s r)) dest.queue r)
        of (Opens r dest found is) = subst IsGood is (opened r dest found (find_peer dest.host s) refl is)

  module _ (test : Carried → Bool) (may : RequestId → Bool) (scripts : AllPass (λ r. is_short_script r.script) s) (outputs : AreShort length s)
      (carries : list_all (λ (r : PlainRow). test (carried_of r)) s.rows ≡ true) where
    -- what an event makes a host send is within its limits
    pub step_fine : (e : Event) → is_sane_event hosts e ≡ true → MaySubmit may (step e s).change
        → list_all (is_fine_output hosts test may) (map shown (step e s).outputs) ≡ true
    step_fine e k submits = step_good test may anywhere anyone (λ peer n site some. refl) scripts outputs carries e k (goes_anywhere e) submits

    pub start_sends : (now : ℕ) (x : Stepped (List ℕ)) → start now s ≡ Some x → ((c : Change (List ℕ)) → x.change ≡ Some c → fits c s ≡ true)
        → list_all (is_fine_message hosts test) (sent_in (map shown x.outputs)) ≡ true
    start_sends now x e fit = good_sent test anywhere anyone (map shown x.outputs)
        (start_good test may anywhere anyone (λ peer n site some. refl) scripts outputs carries now x e fit)

    silenced : (now : ℕ) (ks : List PeerNumber) → IsShortChange (silence now s.retry_wait ks)
    silenced now [] = tt
    silenced now (k ∷ ks) = refl

    -- what an event makes a host store is short
    pub step_stores : (e : Event) → is_sane_event hosts e ≡ true → IsShortChange (step e s).change
    step_stores (event.Ask now port token user c) k = unless_short (record { port = port; token = token }) (may_command (rank user s) c)
        (on_allowed now (record { port = port; token = token }) user c s) (allowed c k)
      where
        a : Asker
        a = record { port = port; token = token }

        unless_short : (a : Asker) (o : Result (Unit {0}) Refusal) (done : Stepped (List ℕ)) → IsShortChange done.change
            → IsShortChange (unless_refused a o done).change
        unless_short a (Err r) done k = tt
        unless_short a (Ok u) done k = k

        submitted : (o : Option (List ℕ)) (sub : _) → is_sane_command (command.Submit sub) ≡ true → IsShortChange (submit_to a sub s o).change
        submitted None sub k = tt
        submitted (Some q) sub k = (and_parts _ (is_short_script sub.script) k).1

        deleted : (id : Named) (o : Option PlainRow) → IsShortChange (delete_meant a id o).change
        deleted id None = tt
        deleted id (Some r) = by (is_running r.state)
          where
            by : (b : Bool) → IsShortChange (if b then makes (Doomed r.id) (reply_to a (reply.Signalled r.id) ∷ kill r ∷ []) else
                makes (Deleted r.id) (reply_to a (reply.Deleted r.id) ∷ [])).change
            by true = refl
            by false = refl

        allowed : (c : Command) → is_sane_command c ≡ true → IsShortChange (on_allowed now a user c s).change
        allowed (command.Submit sub) k = unless_short a (first_refusal (submit_causes sub s)) (submit_to a sub s (queue_meant sub.queue s.default_queue))
            (submitted (queue_meant sub.queue s.default_queue) sub k)
        allowed (command.Edit e) k = unless_short a (first_refusal (edit_causes e s)) (makes (Edited e) (reply_to a reply.Done ∷ kills_of e s)) refl
        allowed (command.Stat owner queues) k = unless_short a (first_refusal (stat_causes queues s)) (answer_to a (reply.Lines (stat_lines owner queues s))) tt
        allowed (command.Delete id forced) k = unless_short a (first_refusal (delete_causes user id forced s)) (delete_meant a id (meant_row id s))
            (deleted id (meant_row id s))
        allowed (command.Show code) k = tt
        allowed (command.Why id) k = tt
        allowed command.Shutdown k = tt
        allowed command.Tick k = silenced now (silent_hands now s)
        allowed (command.UnreadLine fault) k = tt
        allowed (command.UnreadWords fault) k = tt
    step_stores (event.Arrived now m) k = of m.body (and_parts (is_of_site hosts m.from) (is_sane_body hosts m.body) k).1
      where
        offered : (a b : Bool) (o : Result (Unit {0}) Refusal) (n low : ℕ) (queue : List ℕ) (c : Carried) (script : List ℕ) → is_short_script script ≡ true
            → IsShortChange (if a then says (send_done s m.from n ∷ []) else
            (if b then says (send_ready s m.from n ∷ []) else offer_by o m.from n low queue c script s)).change
        offered true b o n low queue c script k = tt
        offered false true o n low queue c script k = tt
        offered false false (Err r) n low queue c script k = tt
        offered false false (Ok u) n low queue c script k = k

        readied : (o : Option Hand) (n : ℕ) → IsShortChange (ready_with o m.from n s).change
        readied None n = missing (was_given n (find_peer m.from s))
          where
            missing : (b : Bool) → IsShortChange (if b then says (send_abort s m.from n ∷ []) else quiet).change
            missing true = tt
            missing false = tt
        readied (Some x) n = by x.phase
          where
            by : (p : Phase) → IsShortChange (ready_phase p m.from n s).change
            by Offered = refl
            by Committed = tt

        refused : (o : Option Hand) (n refusal : ℕ) → IsShortChange (refused_with {E = List ℕ} o m.from n refusal).change
        refused None n refusal = tt
        refused (Some x) n refusal = by x.phase
          where
            by : (p : Phase) → IsShortChange (refused_phase {E = List ℕ} p m.from n refusal).change
            by Offered = refl
            by Committed = tt

        finished : (o : Option Hand) (n : ℕ) → IsShortChange (done_with {E = List ℕ} o m.from n).change
        finished None n = tt
        finished (Some x) n = by x.phase
          where
            by : (p : Phase) → IsShortChange (done_phase {E = List ℕ} p m.from n).change
            by Offered = tt
            by Committed = refl

        committed : (a b : Bool) (n : ℕ) → IsShortChange (if a then makes (Accepted m.from n) (send_done s m.from n ∷ []) else
            (if b then says (send_done s m.from n ∷ []) else quiet)).change
        committed true b n = refl
        committed false true n = tt
        committed false false n = tt

        aborted : (a : Bool) (n : ℕ) → IsShortChange (if a then makes {E = List ℕ} (Dropped m.from n) [] else quiet).change
        aborted true n = refl
        aborted false n = tt

        staged : (a b : Bool) (n : ℕ) (path bytes : List ℕ) → is_short_file bytes ≡ true
            → IsShortChange (if a then says (send_staged s m.from n ∷ []) else
            (if b then makes (StageGot m.from n path bytes) (send_staged s m.from n ∷ ready (out.File s.file_next path bytes) ∷ []) else
            makes (StageGot m.from n path []) (send_staged s m.from n ∷ []))).change
        staged true b n path bytes k = tt
        staged false true n path bytes k = k
        staged false false n path bytes k = refl

        gone : (a : Bool) (n : ℕ) → IsShortChange (if a then makes (StageGone m.from n)
            (due_of s m.from (without_first (is_stage (peer_number m.from n)) s.stages)) else quiet).change
        gone true n = refl
        gone false n = tt

        of : (b : Body) → is_sane_body hosts b ≡ true → IsShortChange (on_message m.from b s).change
        of (body.Offer n low queue c script) k =
            offered (closes n (find_peer m.from s)) (has_promise m.from n s) (first_refusal (offer_causes m.from low queue c s)) n low queue c script
            (each (nat_le 1 n) (is_sane_low low n ∷ is_sane_carried c ∷ is_of_site hosts c.id.host ∷ is_short_script script ∷ []) k).1.1.1.1.0
        of (body.Ready n) k = readied (find_hand m.from n s) n
        of (body.Refused n refusal) k = refused (find_hand m.from n s) n refusal
        of (body.Commit n) k = committed (has_promise m.from n s) (closes n (find_peer m.from s)) n
        of (body.Done n) k = finished (find_hand m.from n s) n
        of (body.Inquire n) k = readied (find_hand m.from n s) n
        of (body.Abort n) k = aborted (has_promise m.from n s) n
        of (body.Stage n path bytes) k = staged (passes (is_got n) (find_peer m.from s)) (has_left s.file_next 0) n path bytes
            (each (nat_le 1 n) (is_path path ∷ is_short_file bytes ∷ []) k).1.1.0
        of (body.Staged n) k = gone (has_stage m.from n s) n
        of b k = tt
    step_stores (event.Ended now port id start status output error) k = let p = and_parts (is_short_output output) (is_short_output error) k in
        (ended_outputs test may anywhere anyone (λ peer n site some. refl) scripts outputs carries id start status output error p.0 p.1).1
    step_stores (event.Unlaunched now id start) k = of (find_row id s)
      where
        by : (b : Bool) → IsShortChange (if b then makes {E = List ℕ} (Unlaunched id) (ready (out.Unlaunched id start) ∷ []) else quiet).change
        by true = refl
        by false = tt

        of : (o : Option PlainRow) → IsShortChange (unlaunched_by o id start).change
        of None = tt
        of (Some r) = by (is_start start r)
    step_stores (event.Written now file) k = by (list_any (is_file file) s.files)
      where
        by : (b : Bool) → IsShortChange (if b then makes {E = List ℕ} (FileGone file) [] else quiet).change
        by true = refl
        by false = tt
    step_stores (event.Unwritten now file) k = tt
    step_stores (event.Tick now) k = silenced now (silent_hands now s)
