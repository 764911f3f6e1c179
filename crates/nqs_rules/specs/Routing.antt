-- Destinations of pipe queues: which one is tried, and what a refusal or a silence leaves.
use Rattle.std.specs.Prelude.{ℕ, ◌+◌, Bool, true, false, not, ◌&&◌, ◌||◌, ◌==◌, nat_lt, nat_le, min, max, if◌then◌else◌, List, [], ◌∷◌, ◌++◌, filter, length}
use Rattle.std.specs.Prelude.{position, Option, None, Some}
use Rattle.std.specs.List.{list_any, list_all}
use Rattle.nqs_state.specs.State.{State}
use Rattle.nqs_rules.specs.Tests.{passes, same_host, same_dest, last_u64}
use Rattle.nqs_rules.specs.Find.{find_queue, find_peer}
use Rattle.nqs_types.specs.declared.ids.HostId.{HostId}
use Rattle.nqs_types.specs.declared.ids.Dest.{Dest}
use Rattle.nqs_types.specs.declared.request.Refused.{Refused}
use Rattle.nqs_types.specs.declared.request.Hold.TheVariants.{System}
use Rattle.nqs_types.specs.declared.request.Row.{Row}
use Rattle.nqs_types.specs.declared.request.Hand.{Hand}
use Rattle.nqs_types.specs.declared.request.Peer.{Peer}
use Rattle.nqs_types.specs.declared.queue.QueueDef.{QueueDef}

-- a number stands in a list
abbrev pub has_number : ℕ → List ℕ → Bool
has_number number numbers = list_any (λ n. number == n) numbers

-- a number of a handover from a peer is closed: no offer under it is taken any more
abbrev pub is_closed : ℕ → Peer → Bool
is_closed number p = nat_le number p.floor || has_number number p.closed

-- a number joins ascending ones, before the first that is greater
abbrev pub joined : ℕ → List ℕ → List ℕ
joined number [] = number ∷ []
joined number (n ∷ ns) = if nat_lt number n then number ∷ n ∷ ns else n ∷ joined number ns

-- a number is closed that wasn't: what it was given for is over
abbrev pub close : ℕ → Peer → Peer
close number p = record p { closed = joined number p.closed }

-- each number of a peer up to this one is closed
abbrev pub raise_floor : ℕ → Peer → Peer
raise_floor number p = record p { floor = max p.floor number; closed = filter (nat_lt (max p.floor number)) p.closed }

-- whether a hand goes to this peer
abbrev pub is_hand_to : HostId → Hand → Bool
is_hand_to peer h = same_host peer h.peer

-- A peer's low, by its next number: the least of that and of the numbers of its hands. No hand
-- with a smaller number is left, so its host may close those.
abbrev pub low : HostId → ℕ → List Hand → ℕ
low peer next [] = next
low peer next (h ∷ hs) = if is_hand_to peer h then min h.number (low peer next hs) else low peer next hs

-- whether a peer can be given another number
abbrev pub has_number_left : Peer → Bool
has_number_left p = nat_lt p.next last_u64

-- whether the wait for a peer is over
abbrev pub is_over_wait : ℕ → Peer → Bool
is_over_wait now p = nat_le p.wait now

-- whether a refusal is this destination's
abbrev pub refuses : Dest → Refused → Bool
refuses dest r = same_dest dest r.dest

-- whether a destination has refused the request
abbrev pub was_refused : Dest → List Refused → Bool
was_refused dest refused = list_any (refuses dest) refused

module _ {E : Type 0} where
  -- at most seven handovers to the peer are open: eight are the most
  abbrev pub has_room_for_hand : HostId → State E → Bool
  has_room_for_hand peer s = nat_lt (length (filter (is_hand_to peer) s.hands)) 8

  -- The next number is less than 64 above the low. So a receiver keeps at most 64 closed numbers
  -- apart, whatever becomes of the oldest handover.
  abbrev pub is_within_window : HostId → State E → Peer → Bool
  is_within_window peer s p = nat_lt p.next (low peer p.next s.hands + 64)

  -- fewer than eight handovers to the peer are open, and there is a number for one
  abbrev pub is_free_peer : HostId → State E → Bool
  is_free_peer peer s =
      has_room_for_hand peer s && passes has_number_left (find_peer peer s) && passes (is_within_window peer s) (find_peer peer s)

  -- a destination on another host is tried where its host is free and not waited for
  abbrev pub is_reachable : ℕ → HostId → State E → Bool
  is_reachable now peer s = is_free_peer peer s && passes (is_over_wait now) (find_peer peer s)

  -- whether a request may be moved to a destination now
  abbrev pub may_try : ℕ → State E → Row E → Dest → Bool
  may_try now s r dest = not (was_refused dest r.refused) && (same_host s.me dest.host || is_reachable now dest.host s)

  -- the place in the queue's list of the first destination that may be tried
  abbrev pub destination : QueueDef → ℕ → State E → Row E → Option ℕ
  destination d now s r = position (may_try now s r) d.dests

-- the destinations of a queue; none where there is no queue
abbrev pub dests_of : Option QueueDef → List Dest
dests_of None = []
dests_of (Some d) = d.dests

-- whether the refusal is of a destination that the queue still has
abbrev pub is_present : List Dest → Refused → Bool
is_present dests r = list_any (same_dest r.dest) dests

-- the refusals of a request with one more, but for destinations that the queue no longer has
abbrev pub with_refusal : List Dest → Dest → ℕ → List Refused → List Refused
with_refusal dests dest refusal refused = filter (is_present dests) (refused ++ record { dest = dest; cause = refusal } ∷ [])

-- whether each destination has refused
abbrev pub all_refused : List Dest → List Refused → Bool
all_refused dests refused = list_all (λ dest. was_refused dest refused) dests

module _ {E : Type 0} where
  -- a request that the system holds, where this is so
  abbrev pub held_where : Bool → Row E → Row E
  held_where true r = record r { hold = System }
  held_where false r = r

  -- A refusal is noted, and refusals by no present destination go. Where each destination has
  -- refused, the system holds the request.
  abbrev pub refusal_noted : List Dest → Dest → ℕ → Row E → Row E
  refusal_noted dests dest refusal r =
      let refused = with_refusal dests dest refusal r.refused in
      held_where (all_refused dests refused) (record r { refused = refused })

  -- the destinations of a row's queue
  abbrev pub dests_for : Row E → State E → List Dest
  dests_for r s = dests_of (find_queue r.queue s)
