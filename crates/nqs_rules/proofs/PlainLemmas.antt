-- A change of a state is, on the parts that stand for its stored ones, the same change.
use Rattle.std.proofs.Common.{◌≡◌, ℕ, ◌+◌, Bool, true, false, not, ◌&&◌, List, [], ◌∷◌, ◌++◌, map, Option, None, Some, option_map, refl, sym, ap, ◌∙◌}
use Rattle.std.proofs.Common.{if◌then◌else◌, nat_lt}
use Rattle.std.proofs.lemmas.List.{map-append}
use Rattle.nqs_state.specs.State.{State}
use Rattle.nqs_base.specs.Same.{name_eq}
use Rattle.nqs_state.specs.Keys.{is_row, is_promise, is_stage, is_file}
use Rattle.nqs_types.specs.declared.ids.HostId.{HostId}
use Rattle.nqs_types.specs.declared.ids.RequestId.{RequestId}
use Rattle.nqs_types.specs.declared.ids.PeerNumber.{PeerNumber}
use Rattle.nqs_types.specs.declared.ids.Dest.{Dest}
use Rattle.nqs_types.specs.declared.request.Row.{Row}
use Rattle.nqs_types.specs.declared.request.Hand.{Hand}
use Rattle.nqs_types.specs.declared.request.Promise.{Promise}
use Rattle.nqs_types.specs.declared.request.Carried.{Carried}
use Rattle.nqs_types.specs.declared.request.Peer.{Peer}
use Rattle.nqs_types.specs.declared.change.OutPart.{OutPart}
use Rattle.nqs_types.specs.declared.change.Change.{Change}
use Rattle.nqs_types.specs.declared.change.Change.TheVariants.{Submitted, Deleted, Doomed, Started, Ended, Unlaunched, Boot, Edited, HandOpened, HandCommitted}
use Rattle.nqs_types.specs.declared.change.Change.TheVariants.{HandRefused, HandsSilent, OldPromised, Promised, Accepted, Dropped, MovedLocal, RefusedLocal}
use Rattle.nqs_types.specs.declared.change.Change.TheVariants.{HeldFar}
use Rattle.nqs_types.specs.declared.change.Change.TheVariants.{StageGot, StageGone, FileGone}
use Rattle.nqs_types.specs.declared.edit.Edit.{Edit}
use Rattle.nqs_types.specs.declared.edit.Edit.TheVariants.{Conf, Limits as LimitsOf, Access as AccessOf, Devices as DevicesOf, Rows as RowsOf}
use Rattle.nqs_types.specs.declared.edit.ConfEdit.{ConfEdit}
use Rattle.nqs_types.specs.declared.edit.ConfEdit.TheVariants.{PurgeQueue, CreatePipeQueue}
use Rattle.nqs_types.specs.declared.edit.LimitsEdit.{LimitsEdit}
use Rattle.nqs_types.specs.declared.edit.LimitsEdit.TheVariants.{SetGlobalLimit}
use Rattle.nqs_types.specs.declared.edit.AccessEdit.{AccessEdit}
use Rattle.nqs_types.specs.declared.edit.AccessEdit.TheVariants.{SetNoAccess}
use Rattle.nqs_types.specs.declared.edit.DevicesEdit.{DevicesEdit}
use Rattle.nqs_types.specs.declared.edit.DevicesEdit.TheVariants.{CreateDevice}
use Rattle.nqs_types.specs.declared.edit.RowsEdit.{RowsEdit}
use Rattle.nqs_types.specs.declared.edit.RowsEdit.TheVariants.{AbortQueue, HoldRequest, ReleaseRequest, MoveRequest, ModifyRequest}
use Rattle.nqs_rules.specs.Tests.{is_running, same_host, last_u64}
use Rattle.nqs_rules.specs.Find.{peer_number, has_row, find_hand, find_promise, find_peer, meant_request}
use Rattle.nqs_rules.specs.Edits.{change_row, drop_row, change_peer}
use Rattle.nqs_rules.specs.Conf.{is_queued_in, conf_applied}
use Rattle.nqs_rules.specs.Limits.{limits_applied}
use Rattle.nqs_rules.specs.Devices.{devices_applied}
use Rattle.nqs_rules.specs.Rows.{doomed_in, held_row, released_row, moved_row, with_priority, change_meant, next_arrival, rows_applied}
use Rattle.nqs_rules.specs.Routing.{close, held_where, all_refused, with_refusal, refusal_noted, dests_for}
use Rattle.nqs_rules.specs.Applied.{new_row, doomed_row, started_row, may_start_again, lost_row, booted_row, add_file, add_stage_to, add_output, add_outputs}
use Rattle.nqs_rules.specs.Applied.{stage_counted, routing_row, requeued_row, drop_hand, hand_committed, hand_refused, hand_silent, hands_silent, is_outlived}
use Rattle.nqs_rules.specs.Applied.{promises_from, promised, add_promised, drop_promise, accepted, moved_local, local_refused, held_far, access_applied}
use Rattle.nqs_rules.specs.Applied.{edit_applied, applied}
use Rattle.nqs_rules.specs.Plain.{map_row, map_promise, map_stage, map_file, map_state}
use Rattle.nqs_rules.specs.Stepped.{map_part, map_change}
use Rattle.nqs_rules.proofs.ListMaps.{map-change_first, map-without_first, map-filter, map-mapped, map-filter_map, find-map, list_any-map}

module _ {E F : Type 0} (f : E → F) where
  with_rows : (s : State E) (rows : List (Row E)) (rows' : List (Row F)) → map (map_row f) rows ≡ rows'
      → map_state f (record s { rows = rows }) ≡ record (map_state f s) { rows = rows' }
  with_rows s rows rows' e = ap (λ l. record (map_state f s) { rows = l }) e

  pub change_row-map : (id : RequestId) (g : Row E → Row E) (h : Row F → Row F) → ((r : Row E) → map_row f (g r) ≡ h (map_row f r)) → (s : State E)
      → map_state f (change_row id g s) ≡ change_row id h (map_state f s)
  change_row-map id g h same s = with_rows s _ _ (map-change_first (map_row f) (is_row id) g h same s.rows)

  drop_row-map : (id : RequestId) (s : State E) → map_state f (drop_row id s) ≡ drop_row id (map_state f s)
  drop_row-map id s = with_rows s _ _ (map-without_first (map_row f) (is_row id) s.rows)

  drop_promise-map : (k : PeerNumber) (s : State E) → map_state f (drop_promise k s) ≡ drop_promise k (map_state f s)
  drop_promise-map k s = ap (λ l. record (map_state f s) { promises = l }) (map-without_first (map_promise f) (is_promise k) s.promises)

  booted-map : (r : Row E) → option_map (map_row f) (booted_row r) ≡ booted_row (map_row f r)
  booted-map r = by (is_running r.state) (may_start_again r)
    where
      by : (b c : Bool) → option_map (map_row f) (if b then (if c then Some (lost_row r) else None) else Some r)
          ≡ (if b then (if c then Some (lost_row (map_row f r)) else None) else Some (map_row f r))
      by true true = refl
      by true false = refl
      by false c = refl

  doomed-map : (q : List ℕ) (r : Row E) → map_row f (doomed_in q r) ≡ doomed_in q (map_row f r)
  doomed-map q r = by (is_running r.state && name_eq q r.queue)
    where
      by : (b : Bool) → map_row f (if b then record r { doomed = true } else r) ≡ (if b then record (map_row f r) { doomed = true } else map_row f r)
      by true = refl
      by false = refl

  -- edits

  conf-map : (e : ConfEdit) (s : State E) → map_state f (conf_applied e s) ≡ conf_applied e (map_state f s)
  conf-map (PurgeQueue q) s = with_rows s _ _ (map-filter (map_row f) (λ r. not (is_queued_in q r)) s.rows)
  conf-map (CreatePipeQueue q p r o None) s = refl
  conf-map (CreatePipeQueue q p r o (Some d)) s = refl
  conf-map e s = refl

  limits-map : (e : LimitsEdit) (s : State E) → map_state f (limits_applied e s) ≡ limits_applied e (map_state f s)
  limits-map (SetGlobalLimit n) s = refl
  limits-map e s = refl

  access-map : (e : AccessEdit) (s : State E) → map_state f (access_applied e s) ≡ access_applied e (map_state f s)
  access-map (SetNoAccess q) s = refl
  access-map e s = refl

  devices-map : (e : DevicesEdit) (s : State E) → map_state f (devices_applied e s) ≡ devices_applied e (map_state f s)
  devices-map (CreateDevice d forms) s = refl
  devices-map e s = refl

  meant-map : (m : Option RequestId) (g : Row E → Row E) (h : Row F → Row F) → ((r : Row E) → map_row f (g r) ≡ h (map_row f r)) → (s : State E)
      → map_state f (change_meant m g s) ≡ change_meant m h (map_state f s)
  meant-map None g h same s = refl
  meant-map (Some id) g h same s = change_row-map id g h same s

  rows-map : (e : RowsEdit) (s : State E) → map_state f (rows_applied e s) ≡ rows_applied e (map_state f s)
  rows-map (AbortQueue q) s = with_rows s _ _ (map-mapped (map_row f) (map_row f) (doomed_in q) (doomed_in q) (doomed-map q) s.rows)
  rows-map (HoldRequest id) s = meant-map (meant_request id s) held_row held_row (λ r. refl) s
  rows-map (ReleaseRequest id) s = meant-map (meant_request id s) released_row released_row (λ r. refl) s
  rows-map (MoveRequest id q) s = meant-map (meant_request id s) (moved_row q (s.arrivals + 1)) (moved_row q (s.arrivals + 1)) (λ r. refl) (next_arrival s)
  rows-map (ModifyRequest id n) s = meant-map (meant_request id s) (with_priority n) (with_priority n) (λ r. refl) s

  edit-map : (e : Edit) (s : State E) → map_state f (edit_applied e s) ≡ edit_applied e (map_state f s)
  edit-map (Conf e) s = conf-map e s
  edit-map (LimitsOf e) s = limits-map e s
  edit-map (AccessOf e) s = access-map e s
  edit-map (DevicesOf e) s = devices-map e s
  edit-map (RowsOf e) s = rows-map e s

  -- outputs

  file-map : (part : OutPart E) (s : State E) → map_state f (add_file part s) ≡ add_file (map_part f part) (map_state f s)
  file-map part s = by (nat_lt s.file_next last_u64)
    where
      by : (b : Bool) → map_state f (if b then record s {
        files = s.files
            ++ record { number = s.file_next; path = part.path; bytes = part.bytes } ∷ [];
        file_next = s.file_next + 1;
      } else s)
          ≡ (if b then record (map_state f s) {
            files = map (map_file f) s.files
                ++ record { number = s.file_next; path = part.path; bytes = f part.bytes } ∷ [];
            file_next = s.file_next + 1;
          } else map_state f s)
      by true = ap (λ l. record (map_state f s) { files = l; file_next = s.file_next + 1 }) (map-append (map_file f) s.files _)
      by false = refl

  stage_to-map : (host : HostId) (part : OutPart E) (o : Option Peer) (s : State E)
      → map_state f (add_stage_to host part o s) ≡ add_stage_to host (map_part f part) o (map_state f s)
  stage_to-map host part None s = refl
  stage_to-map host part (Some p) s = by (nat_lt p.stage_next last_u64)
    where
      by : (b : Bool) → map_state f (if b then record (change_peer host stage_counted s)
          { stages = s.stages ++ record { peer = host; number = p.stage_next; path = part.path; bytes = part.bytes } ∷ [] } else s)
          ≡ (if b then record (change_peer host stage_counted (map_state f s))
          { stages = map (map_stage f) s.stages ++ record { peer = host; number = p.stage_next; path = part.path; bytes = f part.bytes } ∷ [] } else
          map_state f s)
      by true = ap (λ l. record (change_peer host stage_counted (map_state f s)) { stages = l }) (map-append (map_stage f) s.stages _)
      by false = refl

  output-map : (id : RequestId) (part : OutPart E) (s : State E) → map_state f (add_output id part s) ≡ add_output id (map_part f part) (map_state f s)
  output-map id part s = by (same_host s.me id.host)
    where
      by : (b : Bool) → map_state f (if b then add_file part s else add_stage_to id.host part (find_peer id.host s) s)
          ≡ (if b then add_file (map_part f part) (map_state f s) else add_stage_to id.host (map_part f part) (find_peer id.host s) (map_state f s))
      by true = file-map part s
      by false = stage_to-map id.host part (find_peer id.host s) s

  outputs-map : (id : RequestId) (parts : List (OutPart E)) (s : State E)
      → map_state f (add_outputs id parts s) ≡ add_outputs id (map (map_part f) parts) (map_state f s)
  outputs-map id [] s = refl
  outputs-map id (part ∷ parts) s = outputs-map id parts (add_output id part s) ∙ ap (add_outputs id (map (map_part f) parts)) (output-map id part s)

  -- handovers

  held-map : (b : Bool) (r : Row E) → map_row f (held_where b r) ≡ held_where b (map_row f r)
  held-map true r = refl
  held-map false r = refl

  pub noted-map : (dests : List Dest) (dest : Dest) (refusal : ℕ) (r : Row E)
      → map_row f (refusal_noted dests dest refusal r) ≡ refusal_noted dests dest refusal (map_row f r)
  noted-map dests dest refusal r =
      let refused = with_refusal dests dest refusal r.refused in
      held-map (all_refused dests refused) (record r { refused = refused })

  committed-map : (k : PeerNumber) (o : Option Hand) (s : State E) → map_state f (hand_committed k o s) ≡ hand_committed k o (map_state f s)
  committed-map k None s = refl
  committed-map k (Some h) s = ap (λ l. record (map_state f (hand_committed k (Some h) s)) { rows = l }) (map-without_first (map_row f) (is_row h.id) s.rows)

  refused-map : (k : PeerNumber) (refusal : ℕ) (o : Option Hand) (s : State E)
      → map_state f (hand_refused k refusal o s) ≡ hand_refused k refusal o (map_state f s)
  refused-map k refusal None s = refl
  refused-map k refusal (Some h) s = change_row-map h.id _ _ (λ r. noted-map (dests_for r s) _ refusal (requeued_row r)) (drop_hand k s)

  silent-map : (until : ℕ) (k : PeerNumber) (o : Option Hand) (s : State E) → map_state f (hand_silent until k o s) ≡ hand_silent until k o (map_state f s)
  silent-map until k None s = refl
  silent-map until k (Some h) s = ap (change_peer k.peer (λ p. record p { wait = until }))
      (change_row-map h.id requeued_row requeued_row (λ r. refl) (drop_hand k s))

  all_silent-map : (until : ℕ) (ks : List PeerNumber) (s : State E) → map_state f (hands_silent until ks s) ≡ hands_silent until ks (map_state f s)
  all_silent-map until [] s = refl
  all_silent-map until (k ∷ ks) s = all_silent-map until ks (hand_silent until k (find_hand k.peer k.number s) s)
      ∙ ap (hands_silent until ks) (silent-map until k (find_hand k.peer k.number s) s)

  add_promised-map : (r : Row E) (s : State E) → map_state f (add_promised r s) ≡ add_promised (map_row f r) (map_state f s)
  add_promised-map r s = by (has_row r.id s) ∙ ap (λ b. if b then map_state f s else
      record (map_state f s) { rows = map (map_row f) s.rows ++ requeued_row (map_row f r) ∷ [] }) (sym (list_any-map (map_row f) (is_row r.id) s.rows))
    where
      by : (b : Bool) → map_state f (if b then s else record s { rows = s.rows ++ requeued_row r ∷ [] })
          ≡ (if b then map_state f s else record (map_state f s) { rows = map (map_row f) s.rows ++ requeued_row (map_row f r) ∷ [] })
      by true = refl
      by false = with_rows s _ _ (map-append (map_row f) s.rows _)

  accepted-map : (k : PeerNumber) (o : Option (Promise E)) (s : State E) → map_state f (accepted k o s)
      ≡ accepted k (option_map (map_promise f) o) (map_state f s)
  accepted-map k None s = refl
  accepted-map k (Some p) s = ap (change_peer k.peer (close k.number)) (add_promised-map p.row (drop_promise k s)
      ∙ ap (add_promised (map_row f p.row)) (drop_promise-map k s))

  promised-map : (peer : HostId) (number low : ℕ) (queue : List ℕ) (c : Carried) (script : E) (s : State E)
      → map_state f (promised peer number low queue c script s) ≡ promised peer number low queue c (f script) (map_state f s)
  promised-map peer number low queue c script s =
      ap (λ l. record (map_state f (promised peer number low queue c script s)) { promises = l })
      (map-append (map_promise f) (promises_from peer low s.promises) _
      ∙ ap (λ l. l ++ record { peer = peer; number = number; row = new_row c queue (s.arrivals + 1) (f script) } ∷ [])
      (map-filter (map_promise f) (λ p. not (is_outlived peer low p)) s.promises))

  -- a change of a state and one of what it is mapped to are the same
  pub applied-map : (c : Change E) (s : State E) → map_state f (applied c s) ≡ applied (map_change f c) (map_state f s)
  applied-map (Submitted queue job script) s = ap (λ l. record (map_state f s) { rows = l; seq = s.seq + 1; arrivals = s.arrivals + 1 })
      (map-append (map_row f) s.rows _)
  applied-map (Deleted id) s = ap (λ l. record (map_state f (applied (Deleted id) s)) { rows = l }) (map-without_first (map_row f) (is_row id) s.rows)
  applied-map (Doomed id) s = change_row-map id doomed_row doomed_row (λ r. refl) s
  applied-map (Started id device) s = change_row-map id (started_row device) (started_row device) (λ r. refl) s
  applied-map (Ended id parts) s = outputs-map id parts (drop_row id s) ∙ ap (add_outputs id (map (map_part f) parts)) (drop_row-map id s)
  applied-map (Unlaunched id) s = drop_row-map id s
  applied-map Boot s = with_rows s _ _ (map-filter_map (map_row f) booted_row booted_row booted-map s.rows)
  applied-map (Edited e) s = edit-map e s
  applied-map (HandOpened peer number id queue since) s = ap (λ l. record (map_state f (applied (HandOpened peer number id queue since) s)) { rows = l })
      (map-change_first (map_row f) (is_row id) routing_row routing_row (λ r. refl) s.rows)
  applied-map (HandCommitted peer number) s = committed-map (peer_number peer number) (find_hand peer number s) s
  applied-map (HandRefused peer number refusal) s = refused-map (peer_number peer number) refusal (find_hand peer number s) s
  applied-map (HandsSilent until hands) s = all_silent-map until hands s
  applied-map (OldPromised peer number queue c script) s = promised-map peer number number queue c script s
  applied-map (Promised peer number low queue c script) s = promised-map peer number low queue c script s
  applied-map (Accepted peer number) s = accepted-map (peer_number peer number) (find_promise peer number s) s
      ∙ ap (λ o. accepted (peer_number peer number) o (map_state f s)) (sym (find-map (map_promise f) (is_promise (peer_number peer number)) s.promises))
  applied-map (Dropped peer number) s = ap (change_peer peer (close number)) (drop_promise-map (peer_number peer number) s)
  applied-map (MovedLocal id queue) s = change_row-map id (moved_local queue (s.arrivals + 1)) (moved_local queue (s.arrivals + 1)) (λ r. refl) (next_arrival s)
  applied-map (RefusedLocal id queue refusal) s = change_row-map id (local_refused queue refusal s) (local_refused queue refusal (map_state f s))
      (λ r. noted-map (dests_for r s) _ refusal r) s
  applied-map (HeldFar id) s = change_row-map id held_far held_far (λ r. refl) s
  applied-map (StageGot peer number path bytes) s = file-map (record { path = path; bytes = bytes }) (change_peer peer (λ p. record p { stage_got = number }) s)
  applied-map (StageGone peer number) s = ap (λ l. record (map_state f s) { stages = l })
      (map-without_first (map_stage f) (is_stage (peer_number peer number)) s.stages)
  applied-map (FileGone file) s = ap (λ l. record (map_state f s) { files = l }) (map-without_first (map_file f) (is_file file) s.files)
  applied-map c s = refl
