-- Whatever change fits, it leaves a state in order.
use Rattle.std.proofs.Common.{◌≡◌, ℕ, true, not, nat_lt, nat_le, [], ◌∷◌, length, Option, None, Some, true≢false, refl, sym, arith}
use Rattle.std.proofs.lemmas.Bool.{and_parts, le-leb, not-true}
use Rattle.std.specs.List.{list_all}
use Rattle.nqs_state.specs.State.{State}
use Rattle.nqs_state.specs.Keys.{is_promise}
use Rattle.nqs_types.specs.declared.ids.HostId.{HostId}
use Rattle.nqs_types.specs.declared.request.Hand.{Hand}
use Rattle.nqs_types.specs.declared.request.Promise.{Promise}
use Rattle.nqs_types.specs.declared.edit.Edit.{Edit}
use Rattle.nqs_types.specs.declared.edit.Edit.TheVariants.{Conf, Limits as LimitsOf, Access as AccessOf, Devices as DevicesOf, Rows as RowsOf}
use Rattle.nqs_types.specs.declared.change.Change.{Change}
use Rattle.nqs_types.specs.declared.change.Change.TheVariants.{Site, Submitted, Deleted, Doomed, Started, Ended, Unlaunched, Boot, Edited, HandOpened}
use Rattle.nqs_types.specs.declared.change.Change.TheVariants.{HandCommitted, HandRefused, HandsSilent, HandDone, OldPromised, Promised, Accepted, Dropped}
use Rattle.nqs_types.specs.declared.change.Change.TheVariants.{MovedLocal}
use Rattle.nqs_types.specs.declared.change.Change.TheVariants.{RefusedLocal, HeldFar, StageGot, StageGone, FileGone}
use Rattle.nqs_state.specs.Least.{runs_now}
use Rattle.nqs_rules.specs.Tests.{passes, is_ready, last_seq}
use Rattle.nqs_rules.specs.Find.{peer_number, has_queue, has_promise, find_hand, find_promise, find_peer}
use Rattle.nqs_rules.specs.Edits.{drop_row, change_peer}
use Rattle.nqs_rules.specs.Rows.{arrivals_used, is_host_full}
use Rattle.nqs_rules.specs.Routing.{has_room_for_hand, is_within_window}
use Rattle.nqs_rules.specs.Sane.{is_sane_edit, has_path, is_sane_carried, is_sane_low, is_sane_change}
use Rattle.nqs_rules.specs.Applied.{dropped, applied, edit_applied, doomed_row, held_far, hand_committed, hand_refused, accepted}
use Rattle.nqs_rules.specs.Fits.{fits, edit_fits, is_offered_hand, may_hop, is_next, row_passes}
use Rattle.nqs_rules.specs.Fits.{hand_passes, device_fits}
use Rattle.nqs_rules.specs.InOrder.{IsInOrder}
use Rattle.nqs_rules.proofs.Chains.{each}
use Rattle.nqs_rules.proofs.KeyFacts.{found_any}
use Rattle.nqs_rules.proofs.RowsOrder.{row_dropped, row_changed}
use Rattle.nqs_rules.proofs.RowKinds.{unoffered, running_unrouted, ready_unrouted, rows_booted}
use Rattle.nqs_rules.proofs.HandsOrder.{hand_dropped}
use Rattle.nqs_rules.proofs.PeersOrder.{peer_counted}
use Rattle.nqs_rules.proofs.OutputsOrder.{files_part, stages_part, file_added, outputs_added}
use Rattle.nqs_rules.proofs.ConfOrder.{conf_order, limits_order}
use Rattle.nqs_rules.proofs.EditOrder.{access_order, devices_order, rows_order}
use Rattle.nqs_rules.proofs.AppliedOrder.{submitted_order, deleted_order, started_order, moved_order, noted_order}
use Rattle.nqs_rules.proofs.HandoversOrder.{committed_order, refused_order, silent_order, opened_order, promised_order, dropped_order, accepted_order}

module _ {E : Type 0} (P : State E → Type 0) (s : State E) (peer : HostId) (number : ℕ) where
  -- the hand or the promise that is there

  pub with_offer : (made : Option Hand → State E) → ((x : Hand) → find_hand peer number s ≡ Some x → is_offered_hand x ≡ true → P (made (Some x)))
      → hand_passes is_offered_hand peer number s ≡ true → P (made (find_hand peer number s))
  with_offer made kept fit = of (find_hand peer number s) refl fit
    where
      of : (o : Option Hand) → find_hand peer number s ≡ o → passes is_offered_hand o ≡ true → P (made o)
      of None e fit = absurd (true≢false (sym fit))
      of (Some x) e fit = kept x e fit

  pub with_promise : (made : Option (Promise E) → State E) → ((x : Promise E) → find_promise peer number s ≡ Some x → P (made (Some x)))
      → has_promise peer number s ≡ true → P (made (find_promise peer number s))
  with_promise made kept fit = of (find_promise peer number s) refl (found_any (is_promise (peer_number peer number)) s.promises fit)
    where
      of : (o : Option (Promise E)) → find_promise peer number s ≡ o → passes (λ _. true) o ≡ true → P (made o)
      of None e fit = absurd (true≢false (sym fit))
      of (Some x) e fit = kept x e

module _ {E : Type 0} where
  edit_order : (e : Edit) (s : State E) → IsInOrder s → is_sane_edit e ≡ true → edit_fits e s ≡ true → IsInOrder (edit_applied e s)
  edit_order (Conf e) s h sane fit = conf_order s h e sane fit
  edit_order (LimitsOf e) s h sane fit = limits_order s h e sane fit
  edit_order (AccessOf e) s h sane fit = access_order s h e fit
  edit_order (DevicesOf e) s h sane fit = devices_order s h e fit
  edit_order (RowsOf e) s h sane fit = rows_order s h e sane fit

  pub applied_order : (c : Change E) (s : State E) → IsInOrder s → is_sane_change c ≡ true → fits c s ≡ true → IsInOrder (applied c s)
  applied_order (Site me site) s h sane fit = absurd (true≢false (sym fit))
  applied_order (Submitted queue job script) s h sane fit =
      let p = each (has_queue queue s) (not (is_host_full s) ∷ nat_lt s.seq last_seq ∷ not (arrivals_used s) ∷ []) fit in
      submitted_order s h queue job script sane p.0 (not-true (is_host_full s) p.1.0) p.1.1.0 (not-true (arrivals_used s) p.1.1.1.0)
  applied_order (Deleted id) s h sane fit = deleted_order s h id
  applied_order (Doomed id) s h sane fit = row_changed s id doomed_row h (λ q. refl) (λ q e k. k) (λ q. refl) (unoffered runs_now id s h running_unrouted fit)
  applied_order (Started id device) s h sane fit = let p = and_parts (row_passes is_ready id s) (device_fits device s) fit in
      started_order s h id device p.0 p.1
  applied_order (Ended id parts) s h sane fit =
      outputs_added (drop_row id s) id parts (row_dropped s id h (unoffered runs_now id s h running_unrouted fit))
      (and_parts (nat_le (length parts) 2) (list_all has_path parts) sane).1
  applied_order (Unlaunched id) s h sane fit = row_dropped s id h (unoffered runs_now id s h running_unrouted fit)
  applied_order Boot s h sane fit = rows_booted s h
  applied_order (Edited e) s h sane fit = edit_order e s h sane fit
  applied_order (HandOpened peer number id queue since) s h sane fit =
      let p = each (row_passes may_hop id s) (passes (is_next number) (find_peer peer s) ∷ has_room_for_hand peer s
      ∷ passes (is_within_window peer s) (find_peer peer s) ∷ []) fit in
      opened_order s h peer number id queue since p.0 p.1.0 p.1.1.0
  applied_order (HandCommitted peer number) s h sane fit =
      with_offer IsInOrder s peer number (λ o. hand_committed (peer_number peer number) o s)
      (λ x e offered. committed_order s h (peer_number peer number) x e offered) fit
  applied_order (HandRefused peer number refusal) s h sane fit =
      with_offer IsInOrder s peer number (λ o. hand_refused (peer_number peer number) refusal o s)
      (λ x e offered. refused_order s h (peer_number peer number) x e offered refusal) fit
  applied_order (HandsSilent until ks) s h sane fit = silent_order until ks s h fit
  applied_order (HandDone peer number) s h sane fit = hand_dropped s (peer_number peer number) h
  applied_order (OldPromised peer number queue c script) s h sane fit =
      promised_order s h peer number number queue c script (le-leb number number (omega arith)) sane fit
  applied_order (Promised peer number low queue c script) s h sane fit =
      let p = each (nat_le 1 low) (nat_le low number ∷ []) (and_parts (is_sane_low low number) (is_sane_carried c) sane).0 in
      promised_order s h peer number low queue c script p.1.0 (and_parts (is_sane_low low number) (is_sane_carried c) sane).1 fit
  applied_order (Accepted peer number) s h sane fit =
      with_promise IsInOrder s peer number (λ o. accepted (peer_number peer number) o s) (λ x e. accepted_order s h (peer_number peer number) x e) fit
  applied_order (Dropped peer number) s h sane fit = with_promise IsInOrder s peer number (λ o. dropped (peer_number peer number) s)
      (λ x e. dropped_order s h (peer_number peer number) x e) fit
  applied_order (MovedLocal id queue) s h sane fit = let p = each (row_passes may_hop id s) (has_queue queue s ∷ not (arrivals_used s) ∷ []) fit in
      moved_order s h id queue p.0 p.1.0 p.1.1.0
  applied_order (RefusedLocal id queue refusal) s h sane fit = noted_order s h id queue refusal fit
  applied_order (HeldFar id) s h sane fit = row_changed s id held_far h (λ q. refl) (λ q e k. k) (λ q. refl) (unoffered is_ready id s h ready_unrouted fit)
  applied_order (StageGot peer number path bytes) s h sane fit =
      file_added (change_peer peer (λ p. record p { stage_got = number }) s) (record { path = path; bytes = bytes })
      (peer_counted s peer (λ p. record p { stage_got = number }) h (λ p e. record { next = omega arith; stage_next = omega arith })
      (λ p. (refl, refl))) sane
  applied_order (StageGone peer number) s h sane fit = stages_part s (peer_number peer number) h
  applied_order (FileGone file) s h sane fit = files_part s file h
