-- The rules of the handover, one definition a row of the table of steps.
use Rattle.std.specs.Prelude.{ℕ, ◌+◌, Bool, false, not, ◌&&◌, ◌||◌, nat_lt, nat_le, min, if◌then◌else◌, List, [], ◌∷◌, ◌++◌, map, filter, flat_map, Option}
use Rattle.std.specs.Prelude.{None, Some}
use Rattle.std.specs.Prelude.{Result, Ok, Err, slice_get, unwrap_or}
use Rattle.nqs_state.specs.State.{State}
use Rattle.nqs_types.specs.declared.ids.Named.{Named}
use Rattle.nqs_rules.specs.Tests.{passes, is_offered, same_host, last_u64}
use Rattle.nqs_rules.specs.Causes.{Cause, cause, first_refusal, refusal_number}
use Rattle.nqs_rules.specs.Find.{has_queue, find_queue, has_row, find_row, find_hand, has_promise, find_peer, peer_number}
use Rattle.nqs_rules.specs.Rows.{causes_of, arrivals_used, job_causes}
use Rattle.nqs_rules.specs.Routing.{is_closed, low}
use Rattle.nqs_rules.specs.Fits.{offer_full}
use Rattle.nqs_rules.specs.Stepped.{Stepped, Pending, quiet, says, makes, message, ready}
use Rattle.nqs_types.specs.declared.ids.HostId.{HostId}
use Rattle.nqs_types.specs.declared.ids.RequestId.{RequestId}
use Rattle.nqs_types.specs.declared.ids.PeerNumber.{PeerNumber}
use Rattle.nqs_types.specs.declared.ids.Dest.{Dest}
use Rattle.nqs_types.specs.declared.request.Carried.{Carried}
use Rattle.nqs_types.specs.declared.request.Row.{Row}
use Rattle.nqs_types.specs.declared.request.Hand.{Hand}
use Rattle.nqs_types.specs.declared.request.Phase.{Phase}
use Rattle.nqs_types.specs.declared.request.Phase.TheVariants.{Offered, Committed}
use Rattle.nqs_types.specs.declared.request.Promise.{Promise}
use Rattle.nqs_types.specs.declared.request.Peer.{Peer}
use Rattle.nqs_types.specs.declared.queue.QueueDef.{QueueDef}
use Rattle.nqs_types.specs.declared.rule.Entry.TheVariants.{FromPipe}
use Rattle.nqs_types.specs.declared.refusal.Refusal.{Refusal}
use Rattle.nqs_types.specs.declared.refusal.Refusal.TheVariants.{NoQueue, HostFull, NumbersUsed, RequestExists}
use Rattle.nqs_types.specs.declared.message.Body.TheVariants as body
use Rattle.nqs_types.specs.declared.change.Change.{Change}
use Rattle.nqs_types.specs.declared.change.Change.TheVariants.{HandOpened, HandCommitted, HandRefused, HandsSilent, HandDone, Promised, Accepted, Dropped}

-- a sum of moments stops at the last number
abbrev pub later : ℕ → ℕ → ℕ
later now seconds = min (now + seconds) last_u64

-- whether a peer's handover of this number is closed
abbrev pub closes : ℕ → Option Peer → Bool
closes n p = passes (is_closed n) p

-- the number was given to a handover
abbrev pub was_given : ℕ → Option Peer → Bool
was_given n p = passes (λ peer. nat_lt n peer.next) p

-- what of a row goes to another host: it has been moved once more there
abbrev pub carried_of : {E : Type 0} → Row E → Carried
carried_of r = record { id = r.id; job = r.job; starts = r.starts; lost = r.lost; hops = r.hops + 1 }

-- the name of a host of the site
abbrev pub name_at : ℕ → List (List ℕ) → List ℕ
name_at place site = unwrap_or (slice_get site place) []

module _ {E : Type 0} where
  -- an offer of a row, whose script is in the spool
  abbrev pub offer : HostId → HostId → ℕ → ℕ → List ℕ → Row E → Pending E
  offer me peer number low queue r = (message me peer (body.Offer number low queue (carried_of r) []), Some r.script)

  -- the word that a request is its receiver's
  abbrev pub send_commit : State E → HostId → ℕ → Pending E
  send_commit s peer n = ready (message s.me peer (body.Commit n))

  -- the word that a number has no handover
  abbrev pub send_abort : State E → HostId → ℕ → Pending E
  send_abort s peer n = ready (message s.me peer (body.Abort n))

  -- the word that an offer is promised
  abbrev pub send_ready : State E → HostId → ℕ → Pending E
  send_ready s peer n = ready (message s.me peer (body.Ready n))

  -- the word that a commit was taken
  abbrev pub send_done : State E → HostId → ℕ → Pending E
  send_done s peer n = ready (message s.me peer (body.Done n))

  -- the word that an offer is refused, and why
  abbrev pub send_refused : State E → HostId → ℕ → ℕ → Pending E
  send_refused s peer n refusal = ready (message s.me peer (body.Refused n refusal))

  -- the question what became of a promise
  abbrev pub send_inquire : State E → Promise E → Pending E
  send_inquire s p = ready (message s.me p.peer (body.Inquire p.number))

  -- a handover is opened

  -- a request is offered to a destination; the low is that with the new hand, whose number is the
  -- greatest
  abbrev pub opened : Peer → Dest → ℕ → State E → Row E → Stepped E
  opened p dest now s r =
      makes (HandOpened dest.host p.next r.id dest.queue now) (offer s.me dest.host p.next (low dest.host p.next s.hands) dest.queue r ∷ [])

  -- the same, if the destination's host is a peer
  abbrev pub opened_with : Option Peer → Dest → ℕ → State E → Row E → Stepped E
  opened_with None dest now s r = quiet
  opened_with (Some p) dest now s r = opened p dest now s r

  -- the row is offered to a destination on another host, under the next number
  abbrev pub open_hand : Dest → ℕ → State E → Row E → Stepped E
  open_hand dest now s r = opened_with (find_peer dest.host s) dest now s r

  -- OFFER

  -- the request would be of this host, with a number that it hasn't given
  abbrev pub is_not_given_here : RequestId → State E → Bool
  is_not_given_here id s = same_host s.me id.host && nat_lt s.seq id.seq

  -- a request as people name it
  abbrev pub named_of : RequestId → State E → Named
  named_of id s = record { seq = id.seq; host = name_at id.host.0 s.site }

-- what keeps an offered request out of a queue: its access, and then its limits
abbrev pub offer_entry_causes : Carried → QueueDef → List Cause
offer_entry_causes c d = job_causes d c.job FromPipe

module _ {E : Type 0} where
  -- the causes for which an offer is refused, in order
  abbrev pub offer_causes : HostId → ℕ → List ℕ → Carried → State E → List Cause
  offer_causes peer low queue c s =
      cause (has_row c.id s || is_not_given_here c.id s) (RequestExists (named_of c.id s)) ∷ cause (not (has_queue queue s)) (NoQueue queue)
      ∷ causes_of (offer_entry_causes c) (find_queue queue s) ++ cause (offer_full peer low s) HostFull ∷ cause (arrivals_used s) NumbersUsed ∷ []

  -- an offer is promised, or refused
  abbrev pub offer_by : Result (Unit {0}) Refusal → HostId → ℕ → ℕ → List ℕ → Carried → List ℕ → State E → Stepped E
  offer_by (Err refusal) peer n low queue c script s = says (send_refused s peer n (refusal_number refusal) ∷ [])
  offer_by (Ok _) peer n low queue c script s = makes (Promised peer n low queue c script) (send_ready s peer n ∷ [])

  -- what a host does at an offer: it promises, says again that it has, or refuses
  abbrev pub on_offer : HostId → ℕ → ℕ → List ℕ → Carried → List ℕ → State E → Stepped E
  on_offer peer n low queue c script s =
      if closes n (find_peer peer s) then says (send_done s peer n ∷ [])
      else (if has_promise peer n s then says (send_ready s peer n ∷ [])
      else offer_by (first_refusal (offer_causes peer low queue c s)) peer n low queue c script s)

  -- READY and INQUIRE

  -- a hand that is promised is committed; one that is says so again
  abbrev pub ready_phase : Phase → HostId → ℕ → State E → Stepped E
  ready_phase Offered peer n s = makes (HandCommitted peer n) (send_commit s peer n ∷ [])
  ready_phase Committed peer n s = says (send_commit s peer n ∷ [])

  -- a promise without a hand: its number was given, so it is told to end
  abbrev pub ready_without : HostId → ℕ → State E → Stepped E
  ready_without peer n s = if was_given n (find_peer peer s) then says (send_abort s peer n ∷ []) else quiet

  -- what is done with a promise, by the hand of its number
  abbrev pub ready_with : Option Hand → HostId → ℕ → State E → Stepped E
  ready_with None peer n s = ready_without peer n s
  ready_with (Some h) peer n s = ready_phase h.phase peer n s

  -- what a host does when its offer was promised
  abbrev pub on_ready : HostId → ℕ → State E → Stepped E
  on_ready peer n s = ready_with (find_hand peer n s) peer n s

  -- REFUSED

  -- an offer that is refused is taken back
  abbrev pub refused_phase : Phase → HostId → ℕ → ℕ → Stepped E
  refused_phase Offered peer n refusal = makes (HandRefused peer n refusal) []
  refused_phase Committed peer n refusal = quiet

  -- what is done with a refusal, by the hand of its number
  abbrev pub refused_with : Option Hand → HostId → ℕ → ℕ → Stepped E
  refused_with None peer n refusal = quiet
  refused_with (Some h) peer n refusal = refused_phase h.phase peer n refusal

  -- what a host does when its offer was refused
  abbrev pub on_refused : HostId → ℕ → ℕ → State E → Stepped E
  on_refused peer n refusal s = refused_with (find_hand peer n s) peer n refusal

  -- COMMIT

  -- a commit without a promise: its number is closed, so it is done
  abbrev pub commit_without : HostId → ℕ → State E → Stepped E
  commit_without peer n s = if closes n (find_peer peer s) then says (send_done s peer n ∷ []) else quiet

  -- what a host does at a commit: it takes the request over
  abbrev pub on_commit : HostId → ℕ → State E → Stepped E
  on_commit peer n s = if has_promise peer n s then makes (Accepted peer n) (send_done s peer n ∷ []) else commit_without peer n s

  -- DONE

  -- a hand that is committed is done with
  abbrev pub done_phase : Phase → HostId → ℕ → Stepped E
  done_phase Offered peer n = quiet
  done_phase Committed peer n = makes (HandDone peer n) []

  -- what is done with that word, by the hand of its number
  abbrev pub done_with : Option Hand → HostId → ℕ → Stepped E
  done_with None peer n = quiet
  done_with (Some h) peer n = done_phase h.phase peer n

  -- what a host does when its commit was taken
  abbrev pub on_done : HostId → ℕ → State E → Stepped E
  on_done peer n s = done_with (find_hand peer n s) peer n

  -- ABORT

  -- what a host does when a number has no handover: its promise goes
  abbrev pub on_abort : HostId → ℕ → State E → Stepped E
  on_abort peer n s = if has_promise peer n s then makes (Dropped peer n) [] else quiet

  -- tick

  -- an offer without an answer for too long
  abbrev pub is_silent : ℕ → State E → Hand → Bool
  is_silent now s h = is_offered h.phase && nat_le (later h.since s.patience) now

  -- the offers that are silent at this moment
  abbrev pub silent_hands : ℕ → State E → List PeerNumber
  silent_hands now s = map (λ h. peer_number h.peer h.number) (filter (is_silent now s) s.hands)

  -- the hands that stay at this moment
  abbrev pub staying_hands : ℕ → State E → List Hand
  staying_hands now s = filter (λ h. not (is_silent now s h)) s.hands

  -- an offer is sent again, with its request, and the low of the hands that stay
  abbrev pub repeat_offer : ℕ → State E → Hand → Option (Row E) → List (Pending E)
  repeat_offer now s h None = []
  repeat_offer now s h (Some r) = offer s.me h.peer h.number (low h.peer h.number (staying_hands now s)) h.queue r ∷ []

  -- an offer or a commit is sent again
  abbrev pub repeat_phase : Phase → ℕ → State E → Hand → List (Pending E)
  repeat_phase Offered now s h = repeat_offer now s h (find_row h.id s)
  repeat_phase Committed now s h = send_commit s h.peer h.number ∷ []

  -- what a tick says of a hand that isn't silent
  abbrev pub repeat_hand : ℕ → State E → Hand → List (Pending E)
  repeat_hand now s h = if is_silent now s h then [] else repeat_phase h.phase now s h

  -- what a tick sends again of all handovers
  abbrev pub repeated_hands : ℕ → State E → List (Pending E)
  repeated_hands now s = flat_map (repeat_hand now s) s.hands

  -- what a tick asks of all promises
  abbrev pub inquiries : State E → List (Pending E)
  inquiries s = map (send_inquire s) s.promises

-- the change that takes back the hands whose peers are silent, and waits before it tries them anew;
-- none where there is no such hand
abbrev pub silence : ℕ → ℕ → List PeerNumber → Option (Change (List ℕ))
silence now wait [] = None
silence now wait (k ∷ ks) = Some (HandsSilent (later now wait) (k ∷ ks))

module _ {E : Type 0} where
  -- silent offers are taken back, the other hands said again, and each promise asked for
  abbrev pub on_tick : ℕ → State E → Stepped E
  on_tick now s = record { change = silence now s.retry_wait (silent_hands now s); outputs = repeated_hands now s ++ inquiries s; halts = false }
