-- Whatever change fits, what besides holds of a state stays so.
use Rattle.std.proofs.Common.{◌≡◌, ◌+◌, true, false, not, [], ◌∷◌, filter, Option, None, Some, true≢false, refl, sym, ap, ◌∙◌}
use Rattle.std.proofs.lemmas.Bool.{and_parts, or_left, or_right}
use Rattle.std.proofs.lemmas.Option.{same_Some}
use Rattle.nqs_state.specs.State.{State}
use Rattle.nqs_state.specs.Keys.{is_row}
use Rattle.nqs_types.specs.declared.ids.RequestId.{RequestId}
use Rattle.nqs_types.specs.declared.request.Row.{Row}
use Rattle.nqs_types.specs.declared.request.Hand.{Hand}
use Rattle.nqs_types.specs.declared.request.Phase.{Phase}
use Rattle.nqs_types.specs.declared.request.Phase.TheVariants.{Offered, Committed}
use Rattle.nqs_types.specs.declared.edit.ConfEdit.{ConfEdit}
use Rattle.nqs_types.specs.declared.edit.ConfEdit.TheVariants.{PurgeQueue}
use Rattle.nqs_types.specs.declared.edit.LimitsEdit.{LimitsEdit}
use Rattle.nqs_types.specs.declared.edit.AccessEdit.{AccessEdit}
use Rattle.nqs_types.specs.declared.edit.DevicesEdit.{DevicesEdit}
use Rattle.nqs_types.specs.declared.edit.LimitsEdit.TheVariants.{SetGlobalLimit}
use Rattle.nqs_types.specs.declared.edit.AccessEdit.TheVariants.{AddManager}
use Rattle.nqs_types.specs.declared.edit.DevicesEdit.TheVariants.{DeleteDevice}
use Rattle.nqs_types.specs.declared.edit.RowsEdit.{RowsEdit}
use Rattle.nqs_types.specs.declared.edit.RowsEdit.TheVariants.{AbortQueue, HoldRequest, ReleaseRequest, MoveRequest, ModifyRequest}
use Rattle.nqs_types.specs.declared.edit.Edit.{Edit}
use Rattle.nqs_types.specs.declared.edit.Edit.TheVariants.{Conf, Limits as LimitsOf, Access as AccessOf, Devices as DevicesOf, Rows as RowsOf}
use Rattle.nqs_types.specs.declared.change.OutPart.{OutPart}
use Rattle.nqs_types.specs.declared.change.Change.{Change}
use Rattle.nqs_types.specs.declared.change.Change.TheVariants.{Site, Submitted, Deleted, Doomed, Started, Ended, Unlaunched, Boot, Edited, HandOpened}
use Rattle.nqs_types.specs.declared.change.Change.TheVariants.{HandCommitted, HandRefused, HandsSilent, HandDone, OldPromised, Promised, Accepted, Dropped}
use Rattle.nqs_types.specs.declared.change.Change.TheVariants.{MovedLocal}
use Rattle.nqs_types.specs.declared.change.Change.TheVariants.{RefusedLocal, HeldFar, StageGot, StageGone, FileGone}
use Rattle.nqs_state.specs.Least.{runs_now}
use Rattle.nqs_rules.specs.Tests.{passes, is_ready, is_running, is_queued, is_unheld, is_offered, is_committed}
use Rattle.nqs_rules.specs.Find.{peer_number, find_hand, find_peer}
use Rattle.nqs_rules.specs.Edits.{change_row, change_peer, drop_row}
use Rattle.nqs_rules.specs.Conf.{conf_applied, is_queued_in}
use Rattle.nqs_rules.specs.Limits.{limits_applied}
use Rattle.nqs_rules.specs.Devices.{devices_applied}
use Rattle.nqs_rules.specs.Rows.{rows_causes, rows_applied, idle_causes, hold_causes, release_causes, move_causes, held_row, released_row, moved_row}
use Rattle.nqs_rules.specs.Rows.{with_priority, next_arrival}
use Rattle.nqs_rules.specs.Routing.{dests_for, has_room_for_hand, is_within_window}
use Rattle.nqs_rules.specs.Applied.{applied, edit_applied, access_applied, doomed_row, started_row, held_far, moved_local, local_refused, hand_committed}
use Rattle.nqs_rules.specs.Applied.{hand_refused, accepted}
use Rattle.nqs_rules.specs.Fits.{fits, edit_fits, is_committed_hand, may_hop, is_next, row_passes, device_fits}
use Rattle.nqs_rules.specs.InOrder.{IsInOrder, IsConsistent}
use Rattle.nqs_rules.proofs.Chains.{each}
use Rattle.nqs_rules.proofs.Sublists.{without_part, filter_part}
use Rattle.nqs_rules.proofs.RowChanges.{noted_kept, idle_is, ready_queued}
use Rattle.nqs_rules.proofs.RowKinds.{found_row}
use Rattle.nqs_rules.proofs.ConfOrder.{Allows, none_holds}
use Rattle.nqs_rules.proofs.EditOrder.{meant}
use Rattle.nqs_rules.proofs.ChangesOrder.{with_offer, with_promise}
use Rattle.nqs_rules.proofs.OutputsKept.{file_keeps, outputs_keep}
use Rattle.nqs_rules.proofs.Consistent.{same_core, IsCalm, row_stays, rows_stay}
use Rattle.nqs_rules.proofs.ConsistentOrder.{queued_calm, ready_spared, deleted_calm, submitted_calm, booted_calm, aborted_calm, opened_calm, committed_calm}
use Rattle.nqs_rules.proofs.ConsistentOrder.{done_calm, refused_calm, promised_calm, dropped_calm, accepted_calm, silent_calm}

module _ {E : Type 0} (s : State E) (h : IsInOrder s) (c : IsConsistent s) where
  -- one row of a state whose rest is the same
  row_edited : (t : State E) → t.rows ≡ s.rows → t.hands ≡ s.hands → t.promises ≡ s.promises → t.me ≡ s.me → t.seq ≡ s.seq
      → (id : RequestId) (f : Row E → Row E) → ((r : Row E) → IsCalm t r → IsCalm t (f r)) → IsConsistent (change_row id f t)
  row_edited t rows hands promises me seq id f keeps = row_stays t id f (same_core s t rows hands promises me seq c) (λ r found k. keeps r k)

  conf_calm : (e : ConfEdit) → IsConsistent (conf_applied e s)
  conf_calm (PurgeQueue q) = rows_stay s (filter (λ r. not (is_queued_in q r)) s.rows) (filter_part (λ r. not (is_queued_in q r)) s.rows) c
  conf_calm e = same_core s (conf_applied e s) refl refl refl refl refl c

  limits_calm : (e : LimitsEdit) → IsConsistent (limits_applied e s)
  limits_calm (SetGlobalLimit n) = same_core s (limits_applied (SetGlobalLimit n) s) refl refl refl refl refl c
  limits_calm e = same_core s (limits_applied e s) refl refl refl refl refl c

  access_calm : (e : AccessEdit) → IsConsistent (access_applied e s)
  access_calm (AddManager user) = same_core s (access_applied (AddManager user) s) refl refl refl refl refl c
  access_calm e = same_core s (access_applied e s) refl refl refl refl refl c

  devices_calm : (e : DevicesEdit) → IsConsistent (devices_applied e s)
  devices_calm (DeleteDevice d) = same_core s (devices_applied (DeleteDevice d) s) refl refl refl refl refl c
  devices_calm e = same_core s (devices_applied e s) refl refl refl refl refl c

  rows_calm : (e : RowsEdit) → Allows (rows_causes e s) → IsConsistent (rows_applied e s)
  rows_calm (AbortQueue q) fit = aborted_calm s h c q
  rows_calm (HoldRequest id) fit = meant s IsConsistent id (hold_causes id) held_row s (λ rid r found allows.
      let idle = none_holds (hold_causes id r) allows in
      row_stays s rid held_row c (λ q e k.
      record {
        doomed = k.doomed;
        held = or_left (is_queued q.state) (is_unheld (held_row q).hold)
            (ap (λ y. is_queued y.state) (same_Some q r (sym e ∙ found)) ∙ ap is_queued (idle_is r.state idle.0 idle.1.0));
        routing = k.routing;
      })) fit
  rows_calm (ReleaseRequest id) fit = meant s IsConsistent id (release_causes id) released_row s (λ rid r found allows.
      row_stays s rid released_row c (λ q e k. record { doomed = k.doomed; held = or_right (is_queued q.state) true refl; routing = k.routing })) fit
  rows_calm (MoveRequest id q) fit = meant s IsConsistent id (move_causes id q s) (moved_row q (s.arrivals + 1)) (next_arrival s) (λ rid r found allows.
      row_edited (next_arrival s) refl refl refl refl refl rid (moved_row q (s.arrivals + 1))
      (λ r k. record { doomed = k.doomed; held = k.held; routing = k.routing })) fit
  rows_calm (ModifyRequest id n) fit = meant s IsConsistent id (idle_causes id) (with_priority n) s (λ rid r found allows.
      row_stays s rid (with_priority n) c (λ q e k. record { doomed = k.doomed; held = k.held; routing = k.routing })) fit

  edit_calm : (e : Edit) → edit_fits e s ≡ true → IsConsistent (edit_applied e s)
  edit_calm (Conf e) fit = conf_calm e
  edit_calm (LimitsOf e) fit = limits_calm e
  edit_calm (AccessOf e) fit = access_calm e
  edit_calm (DevicesOf e) fit = devices_calm e
  edit_calm (RowsOf e) fit = rows_calm e fit

  -- a row that is ready stays queued
  ready_stays : (id : RequestId) (f : Row E → Row E) → ((r : Row E) → (f r).state ≡ r.state) → ((r : Row E) → (f r).doomed ≡ r.doomed)
      → row_passes is_ready id s ≡ true → IsConsistent (change_row id f s)
  ready_stays id f states dooms fit =
      let r = found_row is_ready id s fit in
      row_stays s id f c (λ q e k.
      let ready : is_ready q ≡ true = ap is_ready (same_Some q r.0 (sym e ∙ r.1)) ∙ r.2 in
      queued_calm s (f q) (states q ∙ ready_queued q ready) (dooms q ∙ ready_spared q ready k.doomed))

  pub applied_consistent : (change : Change E) → fits change s ≡ true → IsConsistent (applied change s)
  applied_consistent (Site me site) fit = absurd (true≢false (sym fit))
  applied_consistent (Submitted queue job script) fit = submitted_calm s h c queue job script
  applied_consistent (Deleted id) fit = deleted_calm s h c id
  applied_consistent (Doomed id) fit =
      let r = found_row runs_now id s fit in
      row_stays s id doomed_row c (λ q e k. record {
        doomed = or_left (is_running q.state) (not true) (ap runs_now (same_Some q r.0 (sym e ∙ r.1)) ∙ r.2);
        held =
            k.held;
        routing = k.routing;
      })
  applied_consistent (Started id device) fit =
      let r = found_row is_ready id s (and_parts (row_passes is_ready id s) (device_fits device s) fit).0 in
      row_stays s id (started_row device) c (λ q e k. record {
        doomed = refl;
        held = ap (λ y. is_unheld y.hold) (same_Some q r.0 (sym e ∙ r.1))
            ∙ (and_parts (is_queued r.0.state) (is_unheld r.0.hold) r.2).1;
        routing = refl;
      })
  applied_consistent (Ended id parts) fit =
      let t = drop_row id s in
      same_core t (applied (Ended id parts) s) (outputs_keep (λ u. u.rows) (λ u fs n. refl) (λ u ts ps. refl) id parts t)
      (outputs_keep (λ u. u.hands) (λ u fs n. refl) (λ u ts ps. refl) id parts t)
      (outputs_keep (λ u. u.promises) (λ u fs n. refl) (λ u ts ps. refl) id parts t) (outputs_keep (λ u. u.me) (λ u fs n. refl) (λ u ts ps. refl) id parts t)
      (outputs_keep (λ u. u.seq) (λ u fs n. refl) (λ u ts ps. refl) id parts t)
      (rows_stay s t.rows (without_part (is_row id) s.rows) c)
  applied_consistent (Unlaunched id) fit = rows_stay s (drop_row id s).rows (without_part (is_row id) s.rows) c
  applied_consistent Boot fit = booted_calm s h c
  applied_consistent (Edited e) fit = edit_calm e fit
  applied_consistent (HandOpened peer number id queue since) fit =
      opened_calm s h c peer number id queue since (each (row_passes may_hop id s) (passes (is_next number) (find_peer peer s) ∷ has_room_for_hand peer s
      ∷ passes (is_within_window peer s) (find_peer peer s) ∷ []) fit).0
  applied_consistent (HandCommitted peer number) fit = with_offer IsConsistent s peer number (λ o. hand_committed (peer_number peer number) o s)
      (λ x e offered. committed_calm s h c (peer_number peer number) x e) fit
  applied_consistent (HandRefused peer number refusal) fit =
      with_offer IsConsistent s peer number (λ o. hand_refused (peer_number peer number) refusal o s)
      (λ x e offered. refused_calm s h c (peer_number peer number) x e offered refusal) fit
  applied_consistent (HandsSilent until ks) fit = silent_calm until ks s h c fit
  applied_consistent (HandDone peer number) fit = of (find_hand peer number s) refl fit
    where
      unoffered : (p : Phase) → is_committed p ≡ true → is_offered p ≡ false
      unoffered Offered e = absurd (true≢false (sym e))
      unoffered Committed e = refl

      of : (o : Option Hand) → find_hand peer number s ≡ o → passes is_committed_hand o ≡ true → IsConsistent (applied (HandDone peer number) s)
      of None e fit = absurd (true≢false (sym fit))
      of (Some x) e fit = done_calm s h c (peer_number peer number) x e (unoffered x.phase fit)
  applied_consistent (OldPromised peer number queue d script) fit = promised_calm s h c peer number number queue d script
  applied_consistent (Promised peer number low queue d script) fit = promised_calm s h c peer number low queue d script
  applied_consistent (Accepted peer number) fit = with_promise IsConsistent s peer number (λ o. accepted (peer_number peer number) o s)
      (λ x e. accepted_calm s h c (peer_number peer number) x e) fit
  applied_consistent (Dropped peer number) fit = dropped_calm s h c (peer_number peer number)
  applied_consistent (MovedLocal id queue) fit = row_edited (next_arrival s) refl refl refl refl refl id (moved_local queue (s.arrivals + 1))
      (λ r k. record { doomed = k.doomed; held = k.held; routing = k.routing })
  applied_consistent (RefusedLocal id queue refusal) fit = ready_stays id (local_refused queue refusal s)
      (λ q. noted_kept (λ y. y.state) (λ y l. refl) (λ y. refl) (dests_for q s) (record { queue = queue; host = s.me }) refusal q)
      (λ q. noted_kept (λ y. y.doomed) (λ y l. refl) (λ y. refl) (dests_for q s) (record { queue = queue; host = s.me }) refusal q) fit
  applied_consistent (HeldFar id) fit = ready_stays id held_far (λ q. refl) (λ q. refl) fit
  applied_consistent (StageGot peer number path bytes) fit =
      let t = change_peer peer (λ p. record p { stage_got = number }) s in
      let part : OutPart E = record { path = path; bytes = bytes } in
      same_core s (applied (StageGot peer number path bytes) s) (file_keeps (λ u. u.rows) (λ u fs n. refl) (λ u ts ps. refl) part t)
      (file_keeps (λ u. u.hands) (λ u fs n. refl) (λ u ts ps. refl) part t)
      (file_keeps (λ u. u.promises) (λ u fs n. refl) (λ u ts ps. refl) part t) (file_keeps (λ u. u.me) (λ u fs n. refl) (λ u ts ps. refl) part t)
      (file_keeps (λ u. u.seq) (λ u fs n. refl) (λ u ts ps. refl) part t) c
  applied_consistent (StageGone peer number) fit = same_core s (applied (StageGone peer number) s) refl refl refl refl refl c
  applied_consistent (FileGone file) fit = same_core s (applied (FileGone file) s) refl refl refl refl refl c
