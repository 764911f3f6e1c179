-- States in which all but one thing that a change needs is there.
use Rattle.std.specs.Prelude.{ℕ, Bool, List, [], ◌∷◌, ◌++◌, map, replicate, codes}
use Rattle.nqs_state.specs.State.{Plain}
use Rattle.nqs_rules.specs.Format.{first_queue, new_peer}
use Rattle.nqs_rules.specs.Fits.{fits}
use Rattle.nqs_worked.specs.ScheduleWords.{host, request}
use Rattle.nqs_worked.specs.Definitions.{fresh, link, queued, promise, crowded, far_carried}
use Rattle.nqs_worked_tables.specs.Refusals.{full_house}
use Rattle.nqs_worked_tables.specs.OrderBounds.{hand}
use Rattle.nqs_types.specs.declared.request.Peer.{Peer}
use Rattle.nqs_types.specs.declared.request.Hand.{Hand}
use Rattle.nqs_types.specs.declared.request.Phase.TheVariants.{Offered, Committed}
use Rattle.nqs_types.specs.declared.request.Row.{Row}
use Rattle.nqs_types.specs.declared.request.RowState.TheVariants.{Running}
use Rattle.nqs_types.specs.declared.request.Hold.TheVariants.{User}
use Rattle.nqs_types.specs.declared.change.Change.{Change}
use Rattle.nqs_types.specs.declared.change.Change.TheVariants.{HandOpened, Promised}

-- whether a change, with its bytes, fits a state
abbrev pub fitting : Change (List ℕ) → Plain → Bool
fitting c s = fits c s

-- whether a change fits each of these states
abbrev pub fits_each : Change (List ℕ) → List Plain → List Bool
fits_each c ss = map (λ s. fitting c s) ss

-- a change of the request with each of these numbers
abbrev pub fits_of_each_kind : (ℕ → Change (List ℕ)) → List Bool
fits_of_each_kind c = map (λ seq. fitting (c seq) full_house) (1 ∷ 2 ∷ 3 ∷ 4 ∷ 5 ∷ 6 ∷ [])

-- the host's only row, among three hosts, and what is known of the second and the third
abbrev pub route : Row (List ℕ) → Peer → List Hand → Plain
route r p hands = record fresh {
  site = codes "alpha" ∷ codes "beta" ∷ codes "gamma" ∷ [];
  queues = first_queue ∷ link ∷ [];
  rows = r ∷ [];
  peers = new_peer ∷ p ∷ record new_peer { next = 7 } ∷ [];
  hands = hands;
  seq = 9;
  arrivals = 9;
}

-- a handover to the second host under the number 4
abbrev pub opening : Change (List ℕ)
opening = HandOpened (host 1) 4 (request 1 0) (codes "any") 0

-- states that it fits: the first seven, and none behind them
abbrev pub opening_bounds : List Plain
opening_bounds =
    route (queued 1) (record new_peer { next = 4 }) [] ∷ route (record (queued 1) { hops = 31 }) (record new_peer { next = 4 }) []
    ∷ route (queued 1) (record new_peer { next = 4 }) (replicate 8 (hand 2 6 (request 2 0) Offered))
    ∷ route (queued 1) (record new_peer { next = 4 }) (hand 1 3 (request 2 0) Offered ∷ [])
    ∷ route (queued 1) (record new_peer { next = 4 }) (hand 1 3 (request 2 0) Committed ∷ [])
    ∷ route (queued 1) (record new_peer { next = 4 }) (replicate 7 (hand 1 3 (request 2 0) Offered))
    ∷ route (queued 1) (record new_peer { next = 4 }) (replicate 7 (hand 1 3 (request 2 0) Committed))
    ∷ route (record (queued 1) { hops = 32 }) (record new_peer { next = 4 }) [] ∷ route (queued 1) (record new_peer { next = 3 }) []
    ∷ route (queued 1) (record new_peer { next = 5 }) []
    ∷ route (queued 1) (record new_peer { next = 4 }) (replicate 8 (hand 1 3 (request 2 0) Offered))
    ∷ route (queued 1) (record new_peer { next = 4 }) (replicate 8 (hand 1 3 (request 2 0) Committed))
    ∷ route (queued 1) (record new_peer { next = 4 }) (replicate 4 (hand 1 3 (request 2 0) Offered) ++ replicate 4 (hand 1 3 (request 2 0) Committed))
    ∷ route (record (queued 1) { hold = User }) (record new_peer { next = 4 }) []
    ∷ route (record (queued 1) { state = Running }) (record new_peer { next = 4 }) []
    ∷ route (queued 2) (record new_peer { next = 4 }) [] ∷ []

-- a handover under the last number of 64 bits, and one before it
abbrev pub last_opening : ℕ → Bool
last_opening n = fitting (HandOpened (host 1) n (request 1 0) (codes "any") 0) (route (queued 1) (record new_peer { next = n }) [])

-- a handover under a number, beside one under 1
abbrev pub opening_behind : ℕ → Bool
opening_behind n =
    fitting (HandOpened (host 1) n (request 1 0) (codes "any") 0) (route (queued 1) (record new_peer { next = n }) (hand 1 1 (request 2 0) Committed ∷ []))

-- a host that has closed the numbers of the second one up to 4, and has promised it 7
abbrev pub promising : Plain
promising = record (route (queued 1) (record new_peer { floor = 4 }) []) { promises = promise 7 7 ∷ [] }

-- a request of the second host under a number
abbrev pub promised : ℕ → Change (List ℕ)
promised n = Promised (host 1) n 1 (codes "batch") far_carried []

-- a promise to a host, with this low, where so many rows are there and a promise of the second one
-- under the number 3
abbrev pub full_for : ℕ → ℕ → ℕ → Bool
full_for peer low n = fitting (Promised (host peer) 9 low (codes "batch") far_carried []) (crowded n)
