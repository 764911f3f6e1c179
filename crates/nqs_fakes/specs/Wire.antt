-- What the wire in memory brings and tells.
use Rattle.std.specs.Prelude.{ℕ, Bool, false, List, [], ◌∷◌, take, suc, nat_le, if◌then◌else◌}
use Rattle.std.specs.declared.option.Option.{Option}
use Rattle.nqs_outside.specs.Asked.{Arrival, came, quiet, packet, Traffic, inbound, outbound}
use Rattle.nqs_fakes.specs.Told.{told_of}
use Rattle.nqs_fakes.specs.declared.wire.Item.{Item}
use Rattle.nqs_fakes.specs.declared.wire.Item.TheVariants.{Datagram, Reply, Quiet}
use Rattle.nqs_fakes.specs.declared.wire.Kept.{Kept}
use Rattle.nqs_fakes.specs.declared.wire.Kept.TheVariants.{Inbound, Nothing, Outbound}
use Rattle.nqs_fakes.specs.declared.wire.MemWire.{MemWire}

-- an item as it comes into a buffer of this length: a datagram that is longer fills it
abbrev pub cut_to : ℕ → Item → Arrival
cut_to room (Datagram bytes) = came (take room bytes)
cut_to room (Reply sends bytes) = came (take room bytes)
cut_to room Quiet = quiet

-- the first item is a reply, and there were fewer sends than it waits for
abbrev pub is_early : ℕ → List Item → Bool
is_early sends (Reply least bytes ∷ items) = nat_le (suc sends) least
is_early sends items = false

-- the first item of a script as it comes, and that nothing comes where there is none
abbrev pub first_in : ℕ → List Item → Arrival
first_in room [] = quiet
first_in room (item ∷ items) = cut_to room item

-- the items behind the first
abbrev pub rest_in : List Item → List Item
rest_in [] = []
rest_in (item ∷ items) = items

-- what comes after so many sends: nothing while the first item is early
abbrev pub first_of : ℕ → ℕ → List Item → Arrival
first_of sends room items = if is_early sends items then quiet else first_in room items

-- what is left then: an early item stays
abbrev pub rest_of : ℕ → List Item → List Item
rest_of sends items = if is_early sends items then items else rest_in items

-- what passed in a call that is kept
abbrev pub traffic_in : Kept → Traffic
traffic_in (Inbound bytes) = inbound (came bytes)
traffic_in Nothing = inbound quiet
traffic_in (Outbound to bytes) = outbound (packet to bytes)

-- what it received and was asked to send, call by call, unless memory ran out
abbrev pub traffic_of : MemWire → Option (List Traffic)
traffic_of w = told_of w.starved traffic_in w.kept
