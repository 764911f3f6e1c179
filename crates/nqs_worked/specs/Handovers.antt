-- States on which definitions of handovers between two hosts are computed.
use Rattle.std.specs.Prelude.{ℕ, List, [], ◌∷◌, codes}
use Rattle.nqs_state.specs.State.{Plain}
use Rattle.nqs_rules.specs.Format.{new_peer, first_queue}
use Rattle.nqs_worked.specs.ScheduleWords.{host}
use Rattle.nqs_worked.specs.Definitions.{far, near, link, fresh, in_link, far_carried, a_hand, with_hands}
use Rattle.nqs_types.specs.declared.ids.Dest.{Dest}
use Rattle.nqs_types.specs.declared.request.Row.{Row}
use Rattle.nqs_types.specs.declared.request.Peer.{Peer}
use Rattle.nqs_types.specs.declared.request.Hand.{Hand}
use Rattle.nqs_types.specs.declared.request.Phase.{Phase}
use Rattle.nqs_types.specs.declared.request.Phase.TheVariants.{Offered, Committed}
use Rattle.nqs_types.specs.declared.request.RowState.TheVariants.{Routing}
use Rattle.nqs_types.specs.declared.event.Event.{Event}
use Rattle.nqs_types.specs.declared.event.Event.TheVariants as event
use Rattle.nqs_types.specs.declared.message.Body.{Body}
use Rattle.nqs_types.specs.declared.message.Body.TheVariants as body

-- of it is closed what is up to 3, and 5, 7 and 9
abbrev pub known : Peer
known = record { next = 6; floor = 3; closed = 5 ∷ 7 ∷ 9 ∷ []; wait = 8; stage_next = 2; stage_got = 4 }

-- the first host, which knows this of the other one
abbrev pub knowing : Peer → Plain
knowing p = record fresh { peers = new_peer ∷ p ∷ [] }

-- handovers to two hosts
abbrev pub mixed_hands : List Hand
mixed_hands = a_hand Offered 6 ∷ record (a_hand Offered 2) { peer = host 2 } ∷ a_hand Committed 4 ∷ a_hand Offered 9 ∷ []

-- a message of the other host
abbrev pub comes : Body → Event
comes b = event.Arrived 5 (record { from = host 1; to = host 0; body = b })

-- its offer under this number and with this low, of a request of its own
abbrev pub offers : ℕ → ℕ → Event
offers number low = comes (body.Offer number low (codes "batch") far_carried (codes "date"))

-- a request on its way
abbrev pub on_way : ℕ → Row (List ℕ)
on_way seq = record (in_link seq) { state = Routing }

-- three requests are handed to the other host, the last one since later, the second in this phase
abbrev pub three_hands : Phase → Plain
three_hands phase = record (with_hands phase [] 4) {
  rows = on_way 1 ∷ on_way 2 ∷ on_way 3 ∷ [];
  hands = a_hand Offered 1 ∷ a_hand phase 2 ∷ record (a_hand Offered 3) { since = 10 } ∷ [];
}

-- another queue of the other host
abbrev pub night : Dest
night = record far { queue = codes "night" }

-- a host with the queue `batch`, and a pipe queue to these destinations
abbrev pub linked : List Dest → Plain
linked dests = record fresh { queues = first_queue ∷ record link { dests = dests } ∷ [] }

-- the same, of three destinations
abbrev pub three_dests : Plain
three_dests = linked (far ∷ near ∷ night ∷ [])
