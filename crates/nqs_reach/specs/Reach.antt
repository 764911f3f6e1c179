-- What of a host's state is within reach of a peer, whatever the peer sends, and what is beside it.
use Rattle.std.specs.Prelude.{◌≡◌, ◌≤◌, Bool, not, ◌&&◌, ◌||◌, List, [], ◌∷◌, ◌++◌, filter, IsTrue}
use Rattle.std.specs.List.{list_any}
use Rattle.nqs_state.specs.State.{State}
use Rattle.nqs_types.specs.Ids.{id_eq}
use Rattle.nqs_types.specs.declared.ids.HostId.{HostId}
use Rattle.nqs_types.specs.declared.ids.RequestId.{RequestId}
use Rattle.nqs_types.specs.declared.request.Row.{Row}
use Rattle.nqs_types.specs.declared.request.RowState.TheVariants.{Queued}
use Rattle.nqs_types.specs.declared.request.Hold.TheVariants.{No}
use Rattle.nqs_types.specs.declared.request.Hand.{Hand}
use Rattle.nqs_types.specs.declared.request.Promise.{Promise}
use Rattle.nqs_types.specs.declared.request.Peer.{Peer}
use Rattle.nqs_types.specs.declared.request.Stage.{Stage}
use Rattle.nqs_types.specs.declared.request.FileOut.{FileOut}
use Rattle.nqs_types.specs.declared.event.Output.{Output}
use Rattle.nqs_state.specs.Least.{runs_now}
use Rattle.nqs_types.specs.declared.event.Output.TheVariants as out
use Rattle.nqs_rules.specs.Applied.{is_offered_for, is_promise_of}
use Rattle.nqs_rules.specs.Edits.{change_at}
use Rattle.nqs_rules.specs.Find.{has_row}
use Rattle.nqs_rules.specs.Fits.{is_committed_hand}
use Rattle.nqs_rules.specs.Routing.{is_hand_to}
use Rattle.nqs_rules.specs.Stage.{is_stage_to}
use Rattle.nqs_rules.specs.Tests.{same_host}

-- which requests a peer may touch

-- whether a handover offers this request to this peer, which hasn't promised yet
abbrev pub is_offered_to : HostId → RequestId → Hand → Bool
is_offered_to peer id h = is_offered_for id h && is_hand_to peer h

-- whether a handover gave this request to this peer, which has promised
abbrev pub is_given_to : HostId → RequestId → Hand → Bool
is_given_to peer id h = is_committed_hand h && is_hand_to peer h && id_eq id h.id

module _ {E : Type 0} where
  -- whether a promise was made to this peer, for this request
  abbrev pub is_promised_to : HostId → RequestId → Promise E → Bool
  is_promised_to peer id p = is_promise_of peer p && id_eq id p.row.id

  -- a request is in a peer's reach: it is offered to the peer, or promised to it
  abbrev pub is_in_reach : HostId → State E → RequestId → Bool
  is_in_reach peer s id = list_any (is_offered_to peer id) s.hands || list_any (is_promised_to peer id) s.promises

  -- a request is in a peer's reach, or the host doesn't have it
  abbrev pub is_in_reach_or_new : HostId → State E → RequestId → Bool
  is_in_reach_or_new peer s id = is_in_reach peer s id || not (has_row id s)

  -- what is beside a peer

  -- the handovers to the other hosts
  abbrev pub hands_beside : HostId → State E → List Hand
  hands_beside peer s = filter (λ h. not (is_hand_to peer h)) s.hands

  -- the promises to the other hosts
  abbrev pub promises_beside : HostId → State E → List (Promise E)
  promises_beside peer s = filter (λ p. not (is_promise_of peer p)) s.promises

  -- the stages to the other hosts
  abbrev pub stages_beside : HostId → State E → List (Stage E)
  stages_beside peer s = filter (λ t. not (is_stage_to peer t)) s.stages

  -- what is known of the hosts, with the same known of the peer in any case
  abbrev pub peers_beside : HostId → Peer → State E → List Peer
  peers_beside peer known s = change_at peer.0 (λ _. known) s.peers

  -- the rows whose requests may not be touched
  abbrev pub rows_beside : (RequestId → Bool) → State E → List (Row E)
  rows_beside may_touch s = filter (λ r. not (may_touch r.id)) s.rows

  -- the rows that run
  abbrev pub running_rows : State E → List (Row E)
  running_rows s = filter runs_now s.rows

  -- a row but for what an answer to its offer may change: its state, its hold and its refusals
  abbrev pub lasting : Row E → Row E
  lasting r = record r { state = Queued; hold = No; refused = [] }

  -- what stays, and what may differ

  -- the host, its site, its queues, its people, its parameters and the number of its last request
  -- stand as they stood
  pub record KeepsSettings (s t : State E) : Type 0 where
    pub me : t.me ≡ s.me
    pub site : t.site ≡ s.site
    pub queues : t.queues ≡ s.queues
    pub complexes : t.complexes ≡ s.complexes
    pub devices : t.devices ≡ s.devices
    pub managers : t.managers ≡ s.managers
    pub operators : t.operators ≡ s.operators
    pub default_queue : t.default_queue ≡ s.default_queue
    pub global_limit : t.global_limit ≡ s.global_limit
    pub patience : t.patience ≡ s.patience
    pub retry_wait : t.retry_wait ≡ s.retry_wait
    pub seq : t.seq ≡ s.seq

  -- t is s but for what is the peer's, rows that may be touched, files added behind, and two
  -- counters, which don't fall
  pub record IsWithin (peer : HostId) (may_touch : RequestId → Bool) (s t : State E) : Type 0 where
    pub settings : KeepsSettings s t
    pub hands : hands_beside peer t ≡ hands_beside peer s
    pub promises : promises_beside peer t ≡ promises_beside peer s
    pub peers : (known : Peer) → peers_beside peer known t ≡ peers_beside peer known s
    pub stages : stages_beside peer t ≡ stages_beside peer s
    pub rows : rows_beside may_touch t ≡ rows_beside may_touch s
    pub files : (added : List (FileOut E)) × (t.files ≡ s.files ++ added)
    pub arrivals : s.arrivals ≤ t.arrivals
    pub file_next : s.file_next ≤ t.file_next

  -- what one message of a peer may make of a state
  abbrev pub IsWithinReach : HostId → State E → State E → Type 0
  IsWithinReach peer s t = IsWithin peer (is_in_reach peer s) s t

  -- what any number of messages of a peer may make of a state: rows may come in of requests that
  -- the host didn't have
  abbrev pub IsWithinReachInTheEnd : HostId → State E → State E → Type 0
  IsWithinReachInTheEnd peer s t = IsWithin peer (is_in_reach_or_new peer s) s t

-- what goes out at a message of a peer: nothing, a message back to it, or such a message and a file
abbrev pub AnswersOnly : HostId → List Output → Type 0
AnswersOnly peer [] = Unit {0}
AnswersOnly peer (out.Send m ∷ []) = IsTrue (same_host peer m.to)
AnswersOnly peer (out.Send m ∷ out.File number path bytes ∷ []) = IsTrue (same_host peer m.to)
AnswersOnly peer _ = ⊥
