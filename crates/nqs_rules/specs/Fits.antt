-- When a change may be made of a state.
use Rattle.std.specs.Prelude.{ℕ, ◌+◌, Bool, true, false, not, ◌&&◌, ◌||◌, ◌==◌, nat_lt, nat_le, List, length, Option, None, Some, is_ok}
use Rattle.std.specs.List.{list_any, list_all}
use Rattle.nqs_state.specs.State.{State}
use Rattle.nqs_state.specs.Keys.{is_file}
use Rattle.nqs_rules.specs.Tests.{passes, is_running, is_ready, is_offered, is_committed, same_host, last_u64, last_seq}
use Rattle.nqs_rules.specs.Causes.{Cause, first_refusal}
use Rattle.nqs_rules.specs.Find.{has_queue, has_device, has_row, find_row, find_hand, has_promise, has_stage, find_peer}
use Rattle.nqs_rules.specs.Access.{access_causes}
use Rattle.nqs_rules.specs.Conf.{conf_causes}
use Rattle.nqs_rules.specs.Limits.{limits_causes}
use Rattle.nqs_rules.specs.Devices.{devices_causes, is_busy}
use Rattle.nqs_rules.specs.Rows.{rows_causes, arrivals_used, is_host_full}
use Rattle.nqs_rules.specs.Routing.{is_closed, has_room_for_hand, is_within_window}
use Rattle.nqs_rules.specs.Applied.{promises_from}
use Rattle.nqs_types.specs.declared.ids.HostId.{HostId}
use Rattle.nqs_types.specs.declared.ids.RequestId.{RequestId}
use Rattle.nqs_types.specs.declared.ids.PeerNumber.{PeerNumber}
use Rattle.nqs_types.specs.declared.request.Carried.{Carried}
use Rattle.nqs_types.specs.declared.request.Row.{Row}
use Rattle.nqs_types.specs.declared.request.Hand.{Hand}
use Rattle.nqs_types.specs.declared.request.Peer.{Peer}
use Rattle.nqs_types.specs.declared.change.Change.{Change}
use Rattle.nqs_types.specs.declared.change.Change.TheVariants.{Site, Submitted, Deleted, Doomed, Started, Ended, Unlaunched, Boot, Edited, HandOpened}
use Rattle.nqs_types.specs.declared.change.Change.TheVariants.{HandCommitted, HandRefused, HandsSilent, HandDone, OldPromised, Promised, Accepted, Dropped}
use Rattle.nqs_types.specs.declared.change.Change.TheVariants.{MovedLocal}
use Rattle.nqs_types.specs.declared.change.Change.TheVariants.{RefusedLocal, HeldFar, StageGot, StageGone, FileGone}
use Rattle.nqs_types.specs.declared.edit.Edit.{Edit}
use Rattle.nqs_types.specs.declared.edit.Edit.TheVariants.{Conf, Limits as LimitsOf, Access as AccessOf, Devices as DevicesOf, Rows as RowsOf}
use Rattle.nqs_state.specs.Least.{runs_now}

-- whether a hand's peer hasn't promised yet
abbrev pub is_offered_hand : Hand → Bool
is_offered_hand h = is_offered h.phase

-- whether a hand's peer has promised
abbrev pub is_committed_hand : Hand → Bool
is_committed_hand h = is_committed h.phase

-- the number is the peer's next one, and there is one behind it
abbrev pub is_next : ℕ → Peer → Bool
is_next number p = p.next == number && nat_lt p.next last_u64

-- whether a peer's handover of this number isn't closed
abbrev pub is_open_number : ℕ → Peer → Bool
is_open_number number p = not (is_closed number p)

-- whether a peer's stage of this number hasn't been taken yet
abbrev pub is_new_stage : ℕ → Peer → Bool
is_new_stage number p = nat_lt p.stage_got number

module _ {E : Type 0} where
  -- whether a request doesn't run
  abbrev pub is_idle : Row E → Bool
  is_idle r = not (is_running r.state)

  -- whether a request may be handed over: it waits, and hasn't moved 32 times
  abbrev pub may_hop : Row E → Bool
  may_hop r = is_ready r && nat_lt r.hops 32

  -- the request is a row, and it passes the test
  abbrev pub row_passes : (Row E → Bool) → RequestId → State E → Bool
  row_passes test id s = passes test (find_row id s)

  -- whether a handover is there and passes the test
  abbrev pub hand_passes : (Hand → Bool) → HostId → ℕ → State E → Bool
  hand_passes test peer number s = passes test (find_hand peer number s)

  -- whether each of these handovers is offered
  abbrev pub are_offered : List PeerNumber → State E → Bool
  are_offered ks s = list_all (λ k. hand_passes is_offered_hand k.peer k.number s) ks

  -- whether the device that a start names is there and not busy
  abbrev pub device_fits : Option (List ℕ) → State E → Bool
  device_fits None s = true
  device_fits (Some d) s = has_device d s && not (is_busy d s)

  -- the causes for which an edit is refused, in order
  abbrev pub edit_causes : Edit → State E → List Cause
  edit_causes (Conf e) s = conf_causes e s
  edit_causes (LimitsOf e) s = limits_causes e s
  edit_causes (AccessOf e) s = access_causes e s
  edit_causes (DevicesOf e) s = devices_causes e s
  edit_causes (RowsOf e) s = rows_causes e s

  -- whether an edit is refused nothing
  abbrev pub edit_fits : Edit → State E → Bool
  edit_fits e s = is_ok (first_refusal (edit_causes e s))

  -- the request's number was given, if it is of this host
  abbrev pub is_id_given : State E → RequestId → Bool
  is_id_given s id = not (same_host s.me id.host) || nat_le id.seq s.seq

  -- the request isn't known here, as a row or as a number that was never given
  abbrev pub is_unknown : RequestId → State E → Bool
  is_unknown id s = not (has_row id s) && is_id_given s id

  -- whether a host is of the site
  abbrev pub is_site_host : HostId → State E → Bool
  is_site_host host s = nat_lt host.0 (length s.site)

  -- with the offered request the host would have too many; promises that its low ends aren't
  -- counted
  abbrev pub offer_full : HostId → ℕ → State E → Bool
  offer_full peer low s = nat_le 10000 (length s.rows + length (promises_from peer low s.promises))

  -- an offer of this number, with this low, may be promised
  abbrev pub promise_fits : HostId → ℕ → ℕ → List ℕ → Carried → State E → Bool
  promise_fits peer number low queue c s =
      has_queue queue s && passes (is_open_number number) (find_peer peer s) && not (has_promise peer number s) && is_site_host c.id.host s && is_unknown c.id s
      && not (offer_full peer low s) && not (arrivals_used s)

  -- a handover of the request may be opened under this number
  abbrev pub hand_fits : HostId → ℕ → RequestId → State E → Bool
  hand_fits peer number id s =
      row_passes may_hop id s && passes (is_next number) (find_peer peer s) && has_room_for_hand peer s && passes (is_within_window peer s) (find_peer peer s)

-- F is what stands for the bytes in the change, which no test reads
module _ {E F : Type 0} where
  -- the change may be made of this state
  abbrev pub fits : Change F → State E → Bool
  fits (Site _ _) s = false
  fits (Submitted queue _ _) s = has_queue queue s && not (is_host_full s) && nat_lt s.seq last_seq && not (arrivals_used s)
  fits (Deleted id) s = row_passes is_idle id s
  fits (Doomed id) s = row_passes runs_now id s
  fits (Started id device) s = row_passes is_ready id s && device_fits device s
  fits (Ended id _) s = row_passes runs_now id s
  fits (Unlaunched id) s = row_passes runs_now id s
  fits Boot s = true
  fits (Edited e) s = edit_fits e s
  fits (HandOpened peer number id _ _) s = hand_fits peer number id s
  fits (HandCommitted peer number) s = hand_passes is_offered_hand peer number s
  fits (HandRefused peer number _) s = hand_passes is_offered_hand peer number s
  fits (HandsSilent _ ks) s = are_offered ks s
  fits (HandDone peer number) s = hand_passes is_committed_hand peer number s
  fits (OldPromised peer number queue c _) s = promise_fits peer number number queue c s
  fits (Promised peer number low queue c _) s = promise_fits peer number low queue c s
  fits (Accepted peer number) s = has_promise peer number s
  fits (Dropped peer number) s = has_promise peer number s
  fits (MovedLocal id queue) s = row_passes may_hop id s && has_queue queue s && not (arrivals_used s)
  fits (RefusedLocal id _ _) s = row_passes is_ready id s
  fits (HeldFar id) s = row_passes is_ready id s
  fits (StageGot peer number _ _) s = passes (is_new_stage number) (find_peer peer s)
  fits (StageGone peer number) s = has_stage peer number s
  fits (FileGone file) s = list_any (is_file file) s.files
