-- Whether a change fits a state looks neither at the stored parts of the one nor of the other.
use Rattle.std.proofs.Common.{◌≡◌, ℕ, not, ◌&&◌, ◌||◌, nat_lt, nat_le, List, [], ◌∷◌, Option, None, Some, is_ok, refl, ap}
use Rattle.nqs_state.specs.State.{State}
use Rattle.nqs_types.specs.declared.ids.HostId.{HostId}
use Rattle.nqs_types.specs.declared.request.Carried.{Carried}
use Rattle.nqs_types.specs.declared.change.Change.{Change}
use Rattle.nqs_types.specs.declared.change.Change.TheVariants.{Submitted, Deleted, Doomed, Started, Ended, Unlaunched, Boot, Edited, HandOpened, OldPromised}
use Rattle.nqs_types.specs.declared.change.Change.TheVariants.{Promised}
use Rattle.nqs_types.specs.declared.change.Change.TheVariants.{Accepted, Dropped, MovedLocal, RefusedLocal, HeldFar, StageGone, FileGone}
use Rattle.nqs_types.specs.declared.edit.Edit.{Edit}
use Rattle.nqs_types.specs.declared.edit.Edit.TheVariants.{Conf, Limits as LimitsOf, Access as AccessOf, Devices as DevicesOf, Rows as RowsOf}
use Rattle.nqs_types.specs.declared.edit.ConfEdit.{ConfEdit}
use Rattle.nqs_types.specs.declared.edit.ConfEdit.TheVariants.{DeleteQueue, CreatePipeQueue}
use Rattle.nqs_types.specs.declared.edit.LimitsEdit.{LimitsEdit}
use Rattle.nqs_types.specs.declared.edit.LimitsEdit.TheVariants.{SetGlobalLimit}
use Rattle.nqs_types.specs.declared.edit.AccessEdit.{AccessEdit}
use Rattle.nqs_types.specs.declared.edit.AccessEdit.TheVariants.{SetNoAccess}
use Rattle.nqs_types.specs.declared.edit.DevicesEdit.{DevicesEdit}
use Rattle.nqs_types.specs.declared.edit.DevicesEdit.TheVariants.{DeleteDevice, SetForms}
use Rattle.nqs_types.specs.declared.edit.RowsEdit.{RowsEdit}
use Rattle.nqs_types.specs.declared.edit.RowsEdit.TheVariants.{AbortQueue, HoldRequest, ReleaseRequest, MoveRequest, ModifyRequest}
use Rattle.nqs_types.specs.declared.refusal.Refusal.TheVariants.{NoQueue, QueueInUse, NoDevice, DeviceBusy}
use Rattle.nqs_state.specs.Least.{runs_now}
use Rattle.nqs_rules.specs.Tests.{passes, is_ready, same_host, last_seq}
use Rattle.nqs_rules.specs.Causes.{cause, first_refusal}
use Rattle.nqs_rules.specs.Find.{has_queue, has_device, find_peer}
use Rattle.nqs_rules.specs.Access.{access_causes}
use Rattle.nqs_rules.specs.Conf.{conf_causes}
use Rattle.nqs_rules.specs.Limits.{limits_causes}
use Rattle.nqs_rules.specs.Devices.{devices_causes}
use Rattle.nqs_rules.specs.Rows.{hold_causes, release_causes, move_causes, idle_causes, rows_causes, arrivals_used}
use Rattle.nqs_rules.specs.Routing.{has_room_for_hand, is_within_window}
use Rattle.nqs_rules.specs.Fits.{is_idle, may_hop, is_next, is_open_number, is_site_host, device_fits, edit_causes, promise_fits, fits}
use Rattle.nqs_rules.specs.Plain.{map_state}
use Rattle.nqs_rules.specs.Stepped.{map_change}
use Rattle.nqs_rules.proofs.FoundPlain.{row_passes-map, has_row-map, has_promise-map, has_stage-map, has_file-map, held_count-map, held_in-map}
use Rattle.nqs_rules.proofs.FoundPlain.{offered_count-map, is_busy-map, named_causes-map}

module _ {E F : Type 0} (f : E → F) where
  conf_causes-map : (e : ConfEdit) (s : State E) → conf_causes e (map_state f s) ≡ conf_causes e s
  conf_causes-map (DeleteQueue q) s = ap (λ n. cause (not (has_queue q s)) (NoQueue q) ∷ cause (nat_lt 0 n) (QueueInUse q n) ∷ []) (held_in-map f q s)
  conf_causes-map (CreatePipeQueue q p r o None) s = refl
  conf_causes-map (CreatePipeQueue q p r o (Some d)) s = refl
  conf_causes-map e s = refl

  limits_causes-map : (e : LimitsEdit) (s : State E) → limits_causes e (map_state f s) ≡ limits_causes e s
  limits_causes-map (SetGlobalLimit n) s = refl
  limits_causes-map e s = refl

  access_causes-map : (e : AccessEdit) (s : State E) → access_causes e (map_state f s) ≡ access_causes e s
  access_causes-map (SetNoAccess q) s = refl
  access_causes-map e s = refl

  idle_device-map : (d : List ℕ) (s : State E) → devices_causes (DeleteDevice d) (map_state f s) ≡ devices_causes (DeleteDevice d) s
  idle_device-map d s = ap (λ b. cause (not (has_device d s)) (NoDevice d) ∷ cause b (DeviceBusy d) ∷ []) (is_busy-map f d s)

  devices_causes-map : (e : DevicesEdit) (s : State E) → devices_causes e (map_state f s) ≡ devices_causes e s
  devices_causes-map (DeleteDevice d) s = idle_device-map d s
  devices_causes-map (SetForms forms d) s = idle_device-map d s
  devices_causes-map e s = refl

  rows_causes-map : (e : RowsEdit) (s : State E) → rows_causes e (map_state f s) ≡ rows_causes e s
  rows_causes-map (AbortQueue q) s = refl
  rows_causes-map (HoldRequest id) s = named_causes-map f id (hold_causes id) s
  rows_causes-map (ReleaseRequest id) s = named_causes-map f id (release_causes id) s
  rows_causes-map (MoveRequest id q) s = named_causes-map f id (move_causes id q (map_state f s)) s
  rows_causes-map (ModifyRequest id n) s = named_causes-map f id (idle_causes id) s

  -- the causes for which an edit is refused
  pub edit_causes-map : (e : Edit) (s : State E) → edit_causes e (map_state f s) ≡ edit_causes e s
  edit_causes-map (Conf e) s = conf_causes-map e s
  edit_causes-map (LimitsOf e) s = limits_causes-map e s
  edit_causes-map (AccessOf e) s = access_causes-map e s
  edit_causes-map (DevicesOf e) s = devices_causes-map e s
  edit_causes-map (RowsOf e) s = rows_causes-map e s

  promise_fits-map : (peer : HostId) (number low : ℕ) (queue : List ℕ) (c : Carried) (s : State E) → promise_fits peer number low queue c (map_state f s)
      ≡ promise_fits peer number low queue c s
  promise_fits-map peer number low queue c s =
      (λ j. has_queue queue s && passes (is_open_number number) (find_peer peer s) && not (has_promise-map f peer number s j) && is_site_host c.id.host s
      && (not (has_row-map f c.id s j) && (not (same_host s.me c.id.host) || nat_le c.id.seq s.seq)) && not (nat_le 10000 (offered_count-map f peer low s j))
      && not (arrivals_used s))

  -- whether a change fits
  pub fits-state : {G : Type 0} (c : Change G) (s : State E) → fits c (map_state f s) ≡ fits c s
  fits-state (Submitted queue job script) s = ap (λ n. has_queue queue s && not (nat_le 10000 n) && nat_lt s.seq last_seq && not (arrivals_used s))
      (held_count-map f s)
  fits-state (Deleted id) s = row_passes-map f is_idle id s
  fits-state (Doomed id) s = row_passes-map f runs_now id s
  fits-state (Started id device) s = (λ j. row_passes-map f is_ready id s j && device-map device j)
    where
      device-map : (d : Option (List ℕ)) → device_fits d (map_state f s) ≡ device_fits d s
      device-map None = refl
      device-map (Some d) = ap (λ b. has_device d s && not b) (is_busy-map f d s)
  fits-state (Ended id parts) s = row_passes-map f runs_now id s
  fits-state (Unlaunched id) s = row_passes-map f runs_now id s
  fits-state (Edited e) s = ap (λ cs. is_ok (first_refusal cs)) (edit_causes-map e s)
  fits-state (HandOpened peer number id queue since) s =
      ap (λ b. b && passes (is_next number) (find_peer peer s) && has_room_for_hand peer s && passes (is_within_window peer s) (find_peer peer s))
      (row_passes-map f may_hop id s)
  fits-state (OldPromised peer number queue c script) s = promise_fits-map peer number number queue c s
  fits-state (Promised peer number low queue c script) s = promise_fits-map peer number low queue c s
  fits-state (Accepted peer number) s = has_promise-map f peer number s
  fits-state (Dropped peer number) s = has_promise-map f peer number s
  fits-state (MovedLocal id queue) s = ap (λ b. b && has_queue queue s && not (arrivals_used s)) (row_passes-map f may_hop id s)
  fits-state (RefusedLocal id queue refusal) s = row_passes-map f is_ready id s
  fits-state (HeldFar id) s = row_passes-map f is_ready id s
  fits-state (StageGone peer number) s = has_stage-map f peer number s
  fits-state (FileGone file) s = has_file-map f file s
  fits-state c s = refl

-- no test reads the bytes of a change
pub fits-change : {E F G : Type 0} (f : F → G) (c : Change F) (s : State E) → fits (map_change f c) s ≡ fits c s
fits-change f Boot s = refl
fits-change f c s = refl
