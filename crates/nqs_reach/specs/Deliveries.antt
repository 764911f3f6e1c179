-- Messages that come to a host one after the other.
use Rattle.std.specs.Prelude.{ℕ, Bool, List, [], ◌∷◌}
use Rattle.nqs_state.specs.State.{Plain}
use Rattle.nqs_types.specs.declared.ids.HostId.{HostId}
use Rattle.nqs_types.specs.declared.message.Message.{Message}
use Rattle.nqs_types.specs.declared.event.Event.TheVariants as event
use Rattle.nqs_rules.specs.Tests.{same_host}
use Rattle.nqs_rules.specs.Starts.{after_step}
use Rattle.nqs_rules.specs.Step.{step}

-- a moment, in seconds since 1970, and the message that comes then
abbrev pub Delivery : Type 0
Delivery = ℕ × Message

-- whether a message says that it is from this peer
abbrev pub is_from : HostId → Delivery → Bool
is_from peer a = same_host peer a.1.from

-- the state after a message
abbrev pub after_message : Delivery → Plain → Plain
after_message a s = after_step (step (event.Arrived a.0 a.1) s) s

-- the state after messages, one after the other
abbrev pub after_messages : List Delivery → Plain → Plain
after_messages [] s = s
after_messages (a ∷ rest) s = after_messages rest (after_message a s)
