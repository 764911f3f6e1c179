-- What a step of a host sends to other hosts.
use Rattle.std.specs.Prelude.{◌≡◌, ℕ, List, map, Some, slice_get}
use Rattle.std.specs.List.{flat_map}
use Rattle.nqs_rules.specs.Stepped.{Stepped, shown}
use Rattle.nqs_rules.specs.World.{sent_by}
use Rattle.nqs_types.specs.declared.ids.HostId.{HostId}
use Rattle.nqs_types.specs.declared.message.Message.{Message}
use Rattle.nqs_types.specs.declared.message.Body.{Body}

-- a message from host to host
abbrev pub word : HostId → HostId → Body → Message
word from to b = record { from = from; to = to; body = b }

-- the message is one of those that the step sends
abbrev pub Sends : Stepped (List ℕ) → Message → Type 0
Sends x m = (k : ℕ) × (slice_get (flat_map sent_by (map shown x.outputs)) k ≡ Some m)
