-- What outputs show and send, as plain lists.
use Rattle.std.specs.Prelude.{ℕ, ◌+◌, List, [], ◌∷◌, ◌++◌, length}
use Rattle.std.specs.List.{flat_map}
use Rattle.nqs_types.specs.declared.event.Output.{Output}
use Rattle.nqs_types.specs.declared.ids.HostId.{HostId}
use Rattle.nqs_types.specs.declared.message.Message.{Message}
use Rattle.nqs_types.specs.declared.world.Seen.{Seen}
use Rattle.nqs_rules.specs.World.{seen_output, sent_by}

-- the packets that outputs send
abbrev pub sent_in : List Output → List Message
sent_in os = flat_map sent_by os

-- what is seen of outputs, behind so many packets
abbrev pub seen_from : HostId → ℕ → List Output → List Seen
seen_from h n [] = []
seen_from h n (o ∷ os) = seen_output h (n + 1) o ++ seen_from h (n + length (sent_by o)) os
