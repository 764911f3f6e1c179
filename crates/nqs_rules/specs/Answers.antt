-- What a destination of a pipe queue last answered a request, or why it isn't asked.
use Rattle.std.specs.Prelude.{ℕ, false, if◌then◌else◌, [], ◌∷◌, ◌++◌, find, Option, None, Some}
use Rattle.nqs_state.specs.State.{State}
use Rattle.nqs_rules.specs.Tests.{same_host}
use Rattle.nqs_rules.specs.Find.{find_peer}
use Rattle.nqs_rules.specs.Routing.{low, has_number_left, has_room_for_hand, is_within_window, is_over_wait, refuses}
use Rattle.nqs_types.specs.declared.ids.HostId.{HostId}
use Rattle.nqs_types.specs.declared.ids.Dest.{Dest}
use Rattle.nqs_types.specs.declared.request.Refused.{Refused as Refusal}
use Rattle.nqs_types.specs.declared.request.Row.{Row}
use Rattle.nqs_types.specs.declared.request.Peer.{Peer}
use Rattle.nqs_types.specs.declared.reason.DestAnswer.{DestAnswer}
use Rattle.nqs_types.specs.declared.reason.DestAnswer.TheVariants.{Refused, NoHost, NoNumberLeft, HandingOver, NotSettled, WaitedFor, MayBeTried}
use Rattle.nqs_rules.specs.Reasons.{Conditions, first_failing}

-- the destination hasn't refused the request: it does so once at most
abbrev pub refusal_conditions : Option Refusal → Conditions DestAnswer
refusal_conditions None = []
refusal_conditions (Some r) = (false, Refused r.cause) ∷ []

module _ {E : Type 0} where
  -- its host is known, can be given a number, is being handed fewer than eight requests, has
  -- settled what is 64 numbers back, and isn't waited for
  abbrev pub peer_conditions : Option Peer → HostId → ℕ → State E → Conditions DestAnswer
  peer_conditions None host now s = (false, NoHost) ∷ []
  peer_conditions (Some p) host now s =
      (has_number_left p, NoNumberLeft) ∷ (has_room_for_hand host s, HandingOver) ∷ (is_within_window host s p, NotSettled (low host p.next s.hands))
      ∷ (is_over_wait now p, WaitedFor p.wait) ∷ []

  -- a host is this one, or may be handed a request
  abbrev pub host_conditions : HostId → ℕ → State E → Conditions DestAnswer
  host_conditions host now s = if same_host s.me host then [] else peer_conditions (find_peer host s) host now s

  -- what a destination answered a request, or why it isn't asked at a moment
  abbrev pub answer_of : ℕ → State E → Row E → Dest → DestAnswer
  answer_of now s r dest = first_failing (refusal_conditions (find (refuses dest) r.refused) ++ host_conditions dest.host now s) MayBeTried
