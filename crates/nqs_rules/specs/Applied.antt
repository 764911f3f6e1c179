-- What each change makes of a state.
use Rattle.std.specs.Prelude.{ℕ, ◌+◌, ◌-◌, Bool, true, false, not, ◌&&◌, nat_lt, if◌then◌else◌, List, [], ◌∷◌, ◌++◌, filter, Option, None, Some}
use Rattle.std.specs.List.{filter_map}
use Rattle.nqs_types.specs.Ids.{id_eq}
use Rattle.nqs_state.specs.State.{State}
use Rattle.nqs_base_tables.specs.Table.{change_first, without_first}
use Rattle.nqs_state.specs.Keys.{is_hand, is_promise, is_stage, is_file}
use Rattle.nqs_rules.specs.Tests.{is_running, is_offered, same_host, last_u64}
use Rattle.nqs_rules.specs.Format.{formatted}
use Rattle.nqs_rules.specs.Find.{peer_number, has_row, find_hand, find_promise, find_peer}
use Rattle.nqs_rules.specs.Edits.{change_row, drop_row, change_queue, change_peer}
use Rattle.nqs_rules.specs.Access.{access_edited, without_name}
use Rattle.nqs_rules.specs.Conf.{conf_applied}
use Rattle.nqs_rules.specs.Limits.{limits_applied}
use Rattle.nqs_rules.specs.Devices.{devices_applied}
use Rattle.nqs_rules.specs.Rows.{rows_applied, next_arrival}
use Rattle.nqs_rules.specs.Routing.{close, raise_floor, refusal_noted, dests_for}
use Rattle.nqs_types.specs.declared.ids.HostId.{HostId}
use Rattle.nqs_types.specs.declared.ids.RequestId.{RequestId}
use Rattle.nqs_types.specs.declared.ids.PeerNumber.{PeerNumber}
use Rattle.nqs_types.specs.declared.request.Job.{Job}
use Rattle.nqs_types.specs.declared.request.Carried.{Carried}
use Rattle.nqs_types.specs.declared.request.Row.{Row}
use Rattle.nqs_types.specs.declared.request.RowState.TheVariants.{Queued, Routing, Running}
use Rattle.nqs_types.specs.declared.request.Hold.TheVariants.{No, System}
use Rattle.nqs_types.specs.declared.request.Phase.TheVariants.{Offered, Committed}
use Rattle.nqs_types.specs.declared.request.Hand.{Hand}
use Rattle.nqs_types.specs.declared.request.Promise.{Promise}
use Rattle.nqs_types.specs.declared.request.Peer.{Peer}
use Rattle.nqs_types.specs.declared.change.OutPart.{OutPart}
use Rattle.nqs_types.specs.declared.change.Change.{Change}
use Rattle.nqs_types.specs.declared.change.Change.TheVariants.{Site, Submitted, Deleted, Doomed, Started, Ended, Unlaunched, Boot, Edited, HandOpened}
use Rattle.nqs_types.specs.declared.change.Change.TheVariants.{HandCommitted, HandRefused, HandsSilent, HandDone, OldPromised, Promised, Accepted, Dropped}
use Rattle.nqs_types.specs.declared.change.Change.TheVariants.{MovedLocal}
use Rattle.nqs_types.specs.declared.change.Change.TheVariants.{RefusedLocal, HeldFar, StageGot, StageGone, FileGone}
use Rattle.nqs_types.specs.declared.edit.AccessEdit.{AccessEdit}
use Rattle.nqs_types.specs.declared.edit.AccessEdit.TheVariants.{SetUnrestrictedAccess, SetNoAccess, AddUser, RemoveUser, AddManager, RemoveManager}
use Rattle.nqs_types.specs.declared.edit.AccessEdit.TheVariants.{AddOperator, RemoveOperator}
use Rattle.nqs_types.specs.declared.edit.Edit.{Edit}
use Rattle.nqs_types.specs.declared.edit.Edit.TheVariants.{Conf, Limits as LimitsOf, Access as AccessOf, Devices as DevicesOf, Rows as RowsOf}

-- whether a hand offers this request, and its peer hasn't promised yet
abbrev pub is_offered_for : RequestId → Hand → Bool
is_offered_for id h = is_offered h.phase && id_eq id h.id

-- a hand whose peer has promised: the request is the peer's
abbrev pub committed : Hand → Hand
committed h = record h { phase = Committed }

-- the row that a request makes where it comes in: queued, without hold, device and refusals
abbrev pub new_row : {E : Type 0} → Carried → List ℕ → ℕ → E → Row E
new_row c queue arrival script = record {
  id = c.id;
  job = c.job;
  queue = queue;
  state = Queued;
  hold = No;
  arrival = arrival;
  doomed = false;
  starts = c.starts;
  lost = c.lost;
  hops = c.hops;
  device = None;
  refused = [];
  script = script;
}

-- what a request is when it is submitted: never started, lost or handed over
abbrev pub first_carried : RequestId → Job → Carried
first_carried id job = record { id = id; job = job; starts = 0; lost = 0; hops = 0 }

module _ {E : Type 0} where
  -- the request that would be submitted next
  abbrev pub next_id : State E → RequestId
  next_id s = record { seq = s.seq + 1; host = s.me }

  -- a submission adds its request, which gets the next number
  abbrev pub submitted : List ℕ → Job → E → State E → State E
  submitted queue job script s = record s {
    seq = s.seq + 1;
    arrivals = s.arrivals + 1;
    rows = s.rows ++ new_row (first_carried (next_id s) job) queue (s.arrivals + 1) script ∷ [];
  }

  -- an offer of the request goes with it
  abbrev pub deleted : RequestId → State E → State E
  deleted id s = record (drop_row id s) { hands = filter (λ h. not (is_offered_for id h)) s.hands }

  -- a request whose job was told to end
  abbrev pub doomed_row : Row E → Row E
  doomed_row r = record r { doomed = true }

  -- a request that was started once more, on this device if on one
  abbrev pub started_row : Option (List ℕ) → Row E → Row E
  started_row device r = record r { state = Running; starts = r.starts + 1; device = device }

  -- whether a request that ran as its host stopped may start again
  abbrev pub may_start_again : Row E → Bool
  may_start_again r = r.job.rerun && not r.doomed && nat_lt r.starts 65535

  -- a request that ran when its host stopped, and waits again
  abbrev pub lost_row : Row E → Row E
  lost_row r = record r { state = Queued; device = None; lost = r.lost + 1 }

  -- what a boot makes of a row
  abbrev pub booted_row : Row E → Option (Row E)
  booted_row r = if is_running r.state then (if may_start_again r then Some (lost_row r) else None) else Some r

  -- outputs

  -- a file of this host, under the next number if there is one
  abbrev pub add_file : OutPart E → State E → State E
  add_file part s =
      if nat_lt s.file_next last_u64
      then record s { files = s.files ++ record { number = s.file_next; path = part.path; bytes = part.bytes } ∷ []; file_next = s.file_next + 1 }
      else s

-- a peer to which one stage more was sent
abbrev pub stage_counted : Peer → Peer
stage_counted p = record p { stage_next = p.stage_next + 1 }

module _ {E : Type 0} where
  -- a stage to the host of submission, numbered by its peer
  abbrev pub add_stage_to : HostId → OutPart E → Option Peer → State E → State E
  add_stage_to host part None s = s
  add_stage_to host part (Some p) s =
      if nat_lt p.stage_next last_u64
      then record (change_peer host stage_counted s) {
        stages = s.stages ++ record { peer = host; number = p.stage_next; path = part.path; bytes = part.bytes }
            ∷ [];
      }
      else s

  -- a stage to another host, under the next number if there is one
  abbrev pub add_stage : HostId → OutPart E → State E → State E
  add_stage host part s = add_stage_to host part (find_peer host s) s

  -- an output goes to the host where its request was submitted
  abbrev pub add_output : RequestId → OutPart E → State E → State E
  add_output id part s = if same_host s.me id.host then add_file part s else add_stage id.host part s

  -- the outputs of a job: files here, or stages to the host of submission
  abbrev pub add_outputs : RequestId → List (OutPart E) → State E → State E
  add_outputs id [] s = s
  add_outputs id (part ∷ parts) s = add_outputs id parts (add_output id part s)

  -- handovers, from the side of the source

  -- a request that is being handed over
  abbrev pub routing_row : Row E → Row E
  routing_row r = record r { state = Routing }

  -- a request that waits again
  abbrev pub requeued_row : Row E → Row E
  requeued_row r = record r { state = Queued }

  -- without a hand
  abbrev pub drop_hand : PeerNumber → State E → State E
  drop_hand k s = record s { hands = without_first (is_hand k) s.hands }

  -- a hand offers the request to its peer
  abbrev pub hand_opened : HostId → ℕ → RequestId → List ℕ → ℕ → State E → State E
  hand_opened peer number id queue since s =
      record (change_peer peer (λ p. record p { next = number + 1 }) (change_row id routing_row s))
      { hands = s.hands ++ record { peer = peer; number = number; id = id; queue = queue; since = since; phase = Offered } ∷ [] }

  -- the peer has promised: the request goes, and the hand stays until the peer is done
  abbrev pub hand_committed : PeerNumber → Option Hand → State E → State E
  hand_committed k None s = s
  hand_committed k (Some h) s = record (drop_row h.id s) { hands = change_first (is_hand k) committed s.hands }

  -- the peer has refused: the hand goes, and the request waits again with the refusal noted
  abbrev pub hand_refused : PeerNumber → ℕ → Option Hand → State E → State E
  hand_refused k refusal None s = s
  hand_refused k refusal (Some h) s = change_row h.id (λ r. refusal_noted (dests_for r s) (record { queue = h.queue; host = h.peer }) refusal (requeued_row r))
      (drop_hand k s)

  -- the peer was silent: the hand goes, the request waits again, and the peer isn't tried until
  -- then
  abbrev pub hand_silent : ℕ → PeerNumber → Option Hand → State E → State E
  hand_silent until k None s = s
  hand_silent until k (Some h) s = change_peer k.peer (λ p. record p { wait = until }) (change_row h.id requeued_row (drop_hand k s))

  -- one after the other
  abbrev pub hands_silent : ℕ → List PeerNumber → State E → State E
  hands_silent until [] s = s
  hands_silent until (k ∷ ks) s = hands_silent until ks (hand_silent until k (find_hand k.peer k.number s) s)

  -- handovers, from the side of the receiver

  -- whether a promise was made to this peer
  abbrev pub is_promise_of : HostId → Promise E → Bool
  is_promise_of peer p = same_host peer p.peer

  -- whether a promise was made to this peer, under a number below its low: it has no hand any more
  abbrev pub is_outlived : HostId → ℕ → Promise E → Bool
  is_outlived peer low p = is_promise_of peer p && nat_lt p.number low

  -- the promises that an offer with this low leaves
  abbrev pub promises_from : HostId → ℕ → List (Promise E) → List (Promise E)
  promises_from peer low promises = filter (λ p. not (is_outlived peer low p)) promises

  -- A promise goes behind the others. The numbers below its low are closed, and promises under
  -- these go.
  abbrev pub promised : HostId → ℕ → ℕ → List ℕ → Carried → E → State E → State E
  promised peer number low queue c script s = record (change_peer peer (raise_floor (low - 1)) s) {
    promises = promises_from peer low s.promises ++ record { peer = peer; number = number; row = new_row c queue (s.arrivals + 1) script } ∷ [];
    arrivals = s.arrivals + 1;
  }

  -- without a promise
  abbrev pub drop_promise : PeerNumber → State E → State E
  drop_promise k s = record s { promises = without_first (is_promise k) s.promises }

  -- the row of a promise becomes a row, unless its request is one already
  abbrev pub add_promised : Row E → State E → State E
  add_promised r s = if has_row r.id s then s else record s { rows = s.rows ++ requeued_row r ∷ [] }

  -- a promise becomes a request of this host, and its number is closed
  abbrev pub accepted : PeerNumber → Option (Promise E) → State E → State E
  accepted k None s = s
  accepted k (Some p) s = change_peer k.peer (close k.number) (add_promised p.row (drop_promise k s))

  -- a promise goes, and its number is closed
  abbrev pub dropped : PeerNumber → State E → State E
  dropped k s = change_peer k.peer (close k.number) (drop_promise k s)

  -- moves on this host

  -- a request that a pipe queue moved to another queue of this host
  abbrev pub moved_local : List ℕ → ℕ → Row E → Row E
  moved_local queue arrival r = record r { queue = queue; arrival = arrival; hops = r.hops + 1; refused = [] }

  -- a request that a queue of this host refused
  abbrev pub local_refused : List ℕ → ℕ → State E → Row E → Row E
  local_refused queue refusal s r = refusal_noted (dests_for r s) (record { queue = queue; host = s.me }) refusal r

  -- a request that the system holds: it has moved too often
  abbrev pub held_far : Row E → Row E
  held_far r = record r { hold = System }

  -- a stage becomes a file that is to be written, and its number is noted
  abbrev pub stage_got : HostId → ℕ → OutPart E → State E → State E
  stage_got peer number part s = add_file part (change_peer peer (λ p. record p { stage_got = number }) s)

  -- edits

  -- what an edit of users makes of a state
  abbrev pub access_applied : AccessEdit → State E → State E
  access_applied (SetUnrestrictedAccess q) s = change_queue q (access_edited (SetUnrestrictedAccess q)) s
  access_applied (SetNoAccess q) s = change_queue q (access_edited (SetNoAccess q)) s
  access_applied (AddUser user q) s = change_queue q (access_edited (AddUser user q)) s
  access_applied (RemoveUser user q) s = change_queue q (access_edited (RemoveUser user q)) s
  access_applied (AddManager user) s = record s { managers = s.managers ++ user ∷ [] }
  access_applied (RemoveManager user) s = record s { managers = without_name user s.managers }
  access_applied (AddOperator user) s = record s { operators = s.operators ++ user ∷ [] }
  access_applied (RemoveOperator user) s = record s { operators = without_name user s.operators }

  -- an edit is made
  abbrev pub edit_applied : Edit → State E → State E
  edit_applied (Conf e) s = conf_applied e s
  edit_applied (LimitsOf e) s = limits_applied e s
  edit_applied (AccessOf e) s = access_applied e s
  edit_applied (DevicesOf e) s = devices_applied e s
  edit_applied (RowsOf e) s = rows_applied e s

  -- the state after a change
  abbrev pub applied : Change E → State E → State E
  applied (Site me site) s = formatted me site
  applied (Submitted queue job script) s = submitted queue job script s
  applied (Deleted id) s = deleted id s
  applied (Doomed id) s = change_row id doomed_row s
  applied (Started id device) s = change_row id (started_row device) s
  applied (Ended id parts) s = add_outputs id parts (drop_row id s)
  applied (Unlaunched id) s = drop_row id s
  applied Boot s = record s { rows = filter_map booted_row s.rows }
  applied (Edited e) s = edit_applied e s
  applied (HandOpened peer number id queue since) s = hand_opened peer number id queue since s
  applied (HandCommitted peer number) s = hand_committed (peer_number peer number) (find_hand peer number s) s
  applied (HandRefused peer number refusal) s = hand_refused (peer_number peer number) refusal (find_hand peer number s) s
  applied (HandsSilent until hands) s = hands_silent until hands s
  applied (HandDone peer number) s = drop_hand (peer_number peer number) s
  applied (OldPromised peer number queue c script) s = promised peer number number queue c script s
  applied (Promised peer number low queue c script) s = promised peer number low queue c script s
  applied (Accepted peer number) s = accepted (peer_number peer number) (find_promise peer number s) s
  applied (Dropped peer number) s = dropped (peer_number peer number) s
  applied (MovedLocal id queue) s = change_row id (moved_local queue (s.arrivals + 1)) (next_arrival s)
  applied (RefusedLocal id queue refusal) s = change_row id (local_refused queue refusal s) s
  applied (HeldFar id) s = change_row id held_far s
  applied (StageGot peer number path bytes) s = stage_got peer number (record { path = path; bytes = bytes }) s
  applied (StageGone peer number) s = record s { stages = without_first (is_stage (peer_number peer number)) s.stages }
  applied (FileGone file) s = record s { files = without_first (is_file file) s.files }
