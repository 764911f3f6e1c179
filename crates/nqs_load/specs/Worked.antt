-- Loads by hand: a site of two hosts, and a pipe queue with three destinations.
use Rattle.std.specs.Prelude.{ℕ, false, List, [], ◌∷◌, Option, None, Some, codes}
use Rattle.nqs_state.specs.State.{State}
use Rattle.nqs_rules.specs.Find.{host_at}
use Rattle.nqs_rules.specs.Format.{new_queue}
use Rattle.nqs_types.specs.declared.queue.Kind.TheVariants.{Pipe}
use Rattle.nqs_types.specs.declared.queue.QueueDef.{QueueDef}
use Rattle.nqs_load.specs.Balance.{dests_in}
use Rattle.nqs_load.specs.declared.order.Load.{Load}

-- a load of a queue on the host at a place
abbrev pub load_of : List ℕ → ℕ → Option ℕ → Load
load_of queue host requests = record { dest = record { queue = queue; host = host_at host }; requests = requests }

-- the names of the hosts
abbrev pub hosts : List (List ℕ)
hosts = codes "front" ∷ codes "cray" ∷ []

-- three requests, one, and a number that isn't known
abbrev pub small_cray : Load
small_cray = load_of (codes "small") 1 (Some 3)

abbrev pub small_front : Load
small_front = load_of (codes "small") 0 (Some 1)

abbrev pub big_cray : Load
big_cray = load_of (codes "big") 1 None

-- the three as they are given
abbrev pub three : List Load
three = small_cray ∷ small_front ∷ big_cray ∷ []

-- a pipe queue with their destinations
abbrev pub road : QueueDef
road = new_queue (codes "out") Pipe None None false (dests_in three)

-- a state of that site whose one queue is this one
abbrev pub with_road : {E : Type 0} → State E → State E
with_road s = record s { site = hosts; queues = road ∷ [] }
