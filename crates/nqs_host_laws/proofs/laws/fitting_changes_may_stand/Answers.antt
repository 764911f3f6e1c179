use Rattle.std.proofs.Common.{nat_le, not, length, [], ◌∷◌}
use Rattle.std.proofs.lemmas.Bool.{and_parts}
use Rattle.std.specs.List.{list_all}
use Rattle.nqs_state.specs.State.{content}
use Rattle.nqs_state.specs.Least.{runs_now}
use Rattle.nqs_rules.specs.Tests.{is_ready, passes}
use Rattle.nqs_rules.specs.Find.{has_queue, find_peer}
use Rattle.nqs_rules.specs.Rows.{arrivals_used}
use Rattle.nqs_rules.specs.Routing.{has_room_for_hand, is_within_window}
use Rattle.nqs_rules.specs.Sane.{has_path, is_sane_low, is_sane_carried}
use Rattle.nqs_rules.specs.Fits.{is_idle, may_hop, row_passes, device_fits, is_offered_hand, is_committed_hand, is_next, is_open_number, is_new_stage}
use Rattle.nqs_rules.proofs.Chains.{each}
use Rattle.nqs_rules.proofs.PathStands.{path_stands}
use Rattle.nqs_rules.proofs.StateFacts.{host_below}
use Rattle.nqs_host_laws.proofs.Stands.{promise_has, parts_stand, counts_few, peer_host, hand_host, promise_host, stage_host, hands_are, row_id}
use Rattle.nqs_host_laws.proofs.laws.fitting_changes_may_stand.Goals as goal

pub carried_stands-requires-clause-host : goal.carried_stands-requires-clause-host
carried_stands-requires-clause-host c =
    let a = c.in-OldPromised in
    let s = content c.args.state.now in
    let k = promise_has s a.peer a.number a.number a.queue a.carried (rw a.is at c.requires.fits) in
    host_below s a.carried.id.host c.requires.order.site k.host

pub carried_stands-requires-in-Promised-clause-sane : goal.carried_stands-requires-in-Promised-clause-sane
carried_stands-requires-in-Promised-clause-sane c =
    let a = c.in-Promised in
    (and_parts (is_sane_low a.low a.number) (is_sane_carried a.carried) (rw a.is at c.requires.sane)).1

pub carried_stands-requires-in-Promised-clause-host : goal.carried_stands-requires-in-Promised-clause-host
carried_stands-requires-in-Promised-clause-host c =
    let a = c.in-Promised in
    let s = content c.args.state.now in
    let k = promise_has s a.peer a.number a.low a.queue a.carried (rw a.is at c.requires.fits) in
    host_below s a.carried.id.host c.requires.order.site k.host

pub returns-in-Submitted : goal.returns-in-Submitted
returns-in-Submitted c =
    let a = c.in-Submitted in
    let x = rw a.is at c.requires.extents in
    rw a.is (c.name_stands.ensures, c.job_stands.ensures (rw a.is at c.requires.sane), (x.0, rw a.is at c.requires.short))

pub returns-in-Deleted : goal.returns-in-Deleted
returns-in-Deleted c =
    let a = c.in-Deleted in
    rw a.is (row_id (content c.args.state.now) c.requires.order is_idle a.field-0 (rw a.is at c.requires.fits))

pub returns-in-Doomed : goal.returns-in-Doomed
returns-in-Doomed c =
    let a = c.in-Doomed in
    rw a.is (row_id (content c.args.state.now) c.requires.order runs_now a.field-0 (rw a.is at c.requires.fits))

pub returns-in-Started : goal.returns-in-Started
returns-in-Started c =
    let a = c.in-Started in
    let s = content c.args.state.now in
    rw a.is (
      row_id s c.requires.order is_ready a.id (and_parts (row_passes is_ready a.id s) (device_fits a.device s)
          (rw a.is at c.requires.fits)).0,
      c.maybe_name_stands.ensures,
    )

pub returns-in-Ended : goal.returns-in-Ended
returns-in-Ended c =
    let a = c.in-Ended in
    let k = and_parts (nat_le (length a.outputs) 2) (list_all has_path a.outputs) (rw a.is at c.requires.sane) in
    rw a.is (
      row_id (content c.args.state.now) c.requires.order runs_now a.id (rw a.is at c.requires.fits),
      (k.0, parts_stand a.outputs k.1 (rw a.is at c.requires.extents) (rw a.is at c.requires.short)),
    )

pub returns-in-Unlaunched : goal.returns-in-Unlaunched
returns-in-Unlaunched c =
    let a = c.in-Unlaunched in
    rw a.is (row_id (content c.args.state.now) c.requires.order runs_now a.field-0 (rw a.is at c.requires.fits))

pub returns-in-HandOpened : goal.returns-in-HandOpened
returns-in-HandOpened c =
    let a = c.in-HandOpened in
    let s = content c.args.state.now in
    let k = each (row_passes may_hop a.id s) (passes (is_next a.number) (find_peer a.peer s) ∷ has_room_for_hand a.peer s
    ∷ passes (is_within_window a.peer s) (find_peer a.peer s) ∷ []) (rw a.is at c.requires.fits) in
    rw a.is (
      peer_host s c.requires.order (is_next a.number) a.peer k.1.0,
      c.number_stands.ensures,
      row_id s c.requires.order may_hop a.id k.0,
      c.name_stands-in-HandOpened.ensures,
      c.number_stands-in-HandOpened.ensures,
    )

pub returns-in-HandCommitted : goal.returns-in-HandCommitted
returns-in-HandCommitted c =
    let a = c.in-HandCommitted in
    rw a.is (
      hand_host (content c.args.state.now) c.requires.order is_offered_hand a.peer a.number
          (rw a.is at c.requires.fits),
      c.number_stands-in-HandCommitted.ensures,
    )

pub returns-in-HandRefused : goal.returns-in-HandRefused
returns-in-HandRefused c =
    let a = c.in-HandRefused in
    rw a.is (
      hand_host (content c.args.state.now) c.requires.order is_offered_hand a.peer a.number
          (rw a.is at c.requires.fits),
      c.number_stands-in-HandRefused.ensures,
      c.byte_stands.ensures,
    )

pub returns-in-HandsSilent : goal.returns-in-HandsSilent
returns-in-HandsSilent c =
    let a = c.in-HandsSilent in
    let all = hands_are (content c.args.state.now) c.requires.order a.hands (rw a.is at c.requires.fits) (rw c.as_slice.ensures at c.hands_stand.ensures) in
    rw a.is (c.number_stands-in-HandsSilent.ensures, (counts_few (length a.hands) (rw a.is at c.requires.few), all))

pub returns-in-HandDone : goal.returns-in-HandDone
returns-in-HandDone c =
    let a = c.in-HandDone in
    rw a.is (
      hand_host (content c.args.state.now) c.requires.order is_committed_hand a.peer a.number
          (rw a.is at c.requires.fits),
      c.number_stands-in-HandDone.ensures,
    )

pub returns-in-OldPromised : goal.returns-in-OldPromised
returns-in-OldPromised c =
    let a = c.in-OldPromised in
    let s = content c.args.state.now in
    let k = promise_has s a.peer a.number a.number a.queue a.carried (rw a.is at c.requires.fits) in
    let x = rw a.is at c.requires.extents in
    rw a.is (
      peer_host s c.requires.order (is_open_number a.number) a.peer k.opens,
      c.number_stands-in-OldPromised.ensures,
      c.name_stands-in-OldPromised.ensures,
      c.carried_stands.ensures,
      (x.0, rw a.is at c.requires.short),
    )

pub returns-in-Promised : goal.returns-in-Promised
returns-in-Promised c =
    let a = c.in-Promised in
    let s = content c.args.state.now in
    let k = promise_has s a.peer a.number a.low a.queue a.carried (rw a.is at c.requires.fits) in
    let x = rw a.is at c.requires.extents in
    let low = (and_parts (is_sane_low a.low a.number) (is_sane_carried a.carried) (rw a.is at c.requires.sane)).0 in
    rw a.is (
      peer_host s c.requires.order (is_open_number a.number) a.peer k.opens,
      (c.number_stands-in-Promised.ensures, low),
      c.name_stands-in-Promised.ensures,
      c.carried_stands-in-Promised.ensures,
      (x.0, rw a.is at c.requires.short),
    )

pub returns-in-Accepted : goal.returns-in-Accepted
returns-in-Accepted c =
    let a = c.in-Accepted in
    rw a.is (promise_host (content c.args.state.now) c.requires.order a.peer a.number (rw a.is at c.requires.fits), c.number_stands-in-Accepted.ensures)

pub returns-in-Dropped : goal.returns-in-Dropped
returns-in-Dropped c =
    let a = c.in-Dropped in
    rw a.is (promise_host (content c.args.state.now) c.requires.order a.peer a.number (rw a.is at c.requires.fits), c.number_stands-in-Dropped.ensures)

pub returns-in-MovedLocal : goal.returns-in-MovedLocal
returns-in-MovedLocal c =
    let a = c.in-MovedLocal in
    let s = content c.args.state.now in
    let k = each (row_passes may_hop a.id s) (has_queue a.queue s ∷ not (arrivals_used s) ∷ []) (rw a.is at c.requires.fits) in
    rw a.is (row_id s c.requires.order may_hop a.id k.0, c.name_stands-in-MovedLocal.ensures)

pub returns-in-RefusedLocal : goal.returns-in-RefusedLocal
returns-in-RefusedLocal c =
    let a = c.in-RefusedLocal in
    rw a.is (
      row_id (content c.args.state.now) c.requires.order is_ready a.id
          (rw a.is at c.requires.fits),
      c.name_stands-in-RefusedLocal.ensures,
      c.byte_stands-in-RefusedLocal.ensures,
    )

pub returns-in-HeldFar : goal.returns-in-HeldFar
returns-in-HeldFar c =
    let a = c.in-HeldFar in
    rw a.is (row_id (content c.args.state.now) c.requires.order is_ready a.field-0 (rw a.is at c.requires.fits))

pub returns-in-StageGot : goal.returns-in-StageGot
returns-in-StageGot c =
    let a = c.in-StageGot in
    let x = rw a.is at c.requires.extents in
    rw a.is (
      peer_host (content c.args.state.now) c.requires.order (is_new_stage a.number) a.peer
          (rw a.is at c.requires.fits),
      c.number_stands-in-StageGot.ensures,
      path_stands a.path (rw a.is at c.requires.sane),
      (x.0, rw a.is at c.requires.short),
    )

pub returns-in-StageGone : goal.returns-in-StageGone
returns-in-StageGone c =
    let a = c.in-StageGone in
    rw a.is (stage_host (content c.args.state.now) c.requires.order a.peer a.number (rw a.is at c.requires.fits), c.number_stands-in-StageGone.ensures)
