-- Which requests may run after a change.
use Rattle.std.proofs.Common.{◌≡◌, ℕ, ◌+◌, Bool, true, false, not, ◌&&◌, ◌||◌, List, [], ◌∷◌, ◌++◌, Option, None, Some, refl, ap, ◌∙◌, if◌then◌else◌}
use Rattle.std.proofs.lemmas.Bool.{or_left, or_right}
use Rattle.std.proofs.lemmas.List.Folds.{list_any-append}
use Rattle.std.specs.List.{list_any, list_all, filter_map}
use Rattle.std.specs.Option.{IfSome}
use Rattle.nqs_state.specs.State.{State}
use Rattle.nqs_base.specs.Same.{name_eq}
use Rattle.nqs_types.specs.Ids.{id_eq, id_exact}
use Rattle.nqs_base_tables.specs.Table.{change_first, without_first}
use Rattle.nqs_state.specs.Keys.{is_row}
use Rattle.nqs_types.specs.declared.ids.Dest.{Dest}
use Rattle.nqs_types.specs.declared.ids.PeerNumber.{PeerNumber}
use Rattle.nqs_types.specs.declared.ids.RequestId.{RequestId}
use Rattle.nqs_types.specs.declared.request.Row.{Row}
use Rattle.nqs_types.specs.declared.request.Hand.{Hand}
use Rattle.nqs_types.specs.declared.request.Promise.{Promise}
use Rattle.nqs_types.specs.declared.edit.ConfEdit.{ConfEdit}
use Rattle.nqs_types.specs.declared.edit.ConfEdit.TheVariants.{PurgeQueue}
use Rattle.nqs_types.specs.declared.edit.LimitsEdit.{LimitsEdit}
use Rattle.nqs_types.specs.declared.edit.LimitsEdit.TheVariants.{SetGlobalLimit}
use Rattle.nqs_types.specs.declared.edit.AccessEdit.{AccessEdit}
use Rattle.nqs_types.specs.declared.edit.AccessEdit.TheVariants.{AddManager}
use Rattle.nqs_types.specs.declared.edit.DevicesEdit.{DevicesEdit}
use Rattle.nqs_types.specs.declared.edit.DevicesEdit.TheVariants.{DeleteDevice}
use Rattle.nqs_types.specs.declared.edit.RowsEdit.{RowsEdit}
use Rattle.nqs_types.specs.declared.edit.RowsEdit.TheVariants.{AbortQueue, HoldRequest, ReleaseRequest, MoveRequest, ModifyRequest}
use Rattle.nqs_types.specs.declared.edit.Edit.{Edit}
use Rattle.nqs_types.specs.declared.edit.Edit.TheVariants.{Conf, Limits as LimitsOf, Access as AccessOf, Devices as DevicesOf, Rows as RowsOf}
use Rattle.nqs_types.specs.declared.change.Change.{Change}
use Rattle.nqs_types.specs.declared.change.Change.TheVariants.{Site, Submitted, Deleted, Doomed, Started, Ended, Unlaunched, Boot, Edited, HandOpened}
use Rattle.nqs_types.specs.declared.change.Change.TheVariants.{HandCommitted, HandRefused, HandsSilent, Accepted, MovedLocal, RefusedLocal, HeldFar, StageGot}
use Rattle.nqs_rules.specs.Tests.{is_running}
use Rattle.nqs_rules.specs.Find.{peer_number, has_row, find_hand, find_promise, meant_request}
use Rattle.nqs_rules.specs.Edits.{change_peer, drop_row}
use Rattle.nqs_rules.specs.Conf.{conf_applied, is_queued_in}
use Rattle.nqs_rules.specs.Limits.{limits_applied}
use Rattle.nqs_rules.specs.Devices.{devices_applied}
use Rattle.nqs_rules.specs.Rows.{rows_applied, change_meant, doomed_in, held_row, released_row, moved_row, with_priority, next_arrival}
use Rattle.nqs_rules.specs.Routing.{dests_for, refusal_noted}
use Rattle.nqs_rules.specs.Applied.{applied, edit_applied, access_applied, doomed_row, started_row, routing_row, requeued_row, held_far, moved_local}
use Rattle.nqs_rules.specs.Applied.{local_refused, lost_row, booted_row, may_start_again, hand_committed, hand_refused, hand_silent, hands_silent, drop_promise}
use Rattle.nqs_rules.specs.Applied.{accepted}
use Rattle.nqs_rules.proofs.Chains.{imply}
use Rattle.nqs_rules.proofs.Sublists.{without_part, filter_part, part_all}
use Rattle.nqs_rules.proofs.ListFacts.{found_passes, list_all-found, list_all-weaker, list_all-changed}
use Rattle.nqs_rules.proofs.KeyFacts.{all-added, any-before}
use Rattle.nqs_rules.proofs.FindKept.{all-filter_map, all-mapped}
use Rattle.nqs_rules.proofs.RowFacts.{same_id}
use Rattle.nqs_rules.proofs.RowChanges.{noted_kept}
use Rattle.nqs_rules.proofs.OutputsKept.{file_keeps, outputs_keep}
use Rattle.nqs_changes.specs.Running.{runs_in, runs_only, may_run}

module _ {E : Type 0} where
  module _ (ids : List RequestId) where
    -- a row goes
    dropped : (id : RequestId) (rows : List (Row E)) → list_all (runs_in ids) rows ≡ true → list_all (runs_in ids) (without_first (is_row id) rows) ≡ true
    dropped id rows h = part_all (runs_in ids) (without_part (is_row id) rows) h

    -- a row changes, which runs afterwards only if it may
    changed : (id : RequestId) (f : Row E → Row E) → ((r : Row E) → runs_in ids r ≡ true → runs_in ids (f r) ≡ true) → (rows : List (Row E))
        → list_all (runs_in ids) rows ≡ true → list_all (runs_in ids) (change_first (is_row id) f rows) ≡ true
    changed id f keeps rows h = list_all-changed (runs_in ids) (is_row id) f rows h (λ r e. keeps r (list_all-found (runs_in ids) (is_row id) rows r h e))

    noted : (dests : List Dest) (dest : Dest) (refusal : ℕ) (r : Row E) → runs_in ids (refusal_noted dests dest refusal r) ≡ runs_in ids r
    noted dests dest refusal r = noted_kept (runs_in ids) (λ q l. refl) (λ q. refl) dests dest refusal r

    -- edits

    conf_runs : (e : ConfEdit) (s : State E) → runs_only ids s ≡ true → runs_only ids (conf_applied e s) ≡ true
    conf_runs (PurgeQueue q) s h = part_all (runs_in ids) (filter_part (λ r. not (is_queued_in q r)) s.rows) h
    conf_runs e s h = h

    limits_runs : (e : LimitsEdit) (s : State E) → runs_only ids s ≡ true → runs_only ids (limits_applied e s) ≡ true
    limits_runs (SetGlobalLimit n) s h = h
    limits_runs e s h = h

    access_runs : (e : AccessEdit) (s : State E) → runs_only ids s ≡ true → runs_only ids (access_applied e s) ≡ true
    access_runs (AddManager user) s h = h
    access_runs e s h = h

    devices_runs : (e : DevicesEdit) (s : State E) → runs_only ids s ≡ true → runs_only ids (devices_applied e s) ≡ true
    devices_runs (DeleteDevice d) s h = h
    devices_runs e s h = h

    meant_runs : (o : Option RequestId) (f : Row E → Row E) → ((r : Row E) → runs_in ids r ≡ true → runs_in ids (f r) ≡ true) → (s : State E)
        → runs_only ids s ≡ true → runs_only ids (change_meant o f s) ≡ true
    meant_runs None f keeps s h = h
    meant_runs (Some id) f keeps s h = changed id f keeps s.rows h

    rows_runs : (e : RowsEdit) (s : State E) → runs_only ids s ≡ true → runs_only ids (rows_applied e s) ≡ true
    rows_runs (AbortQueue q) s h = all-mapped (runs_in ids) (runs_in ids) (doomed_in q) (λ r k. by r k (is_running r.state && name_eq q r.queue)) s.rows h
      where
        by : (r : Row E) → runs_in ids r ≡ true → (b : Bool) → runs_in ids (if b then record r { doomed = true } else r) ≡ true
        by r k true = k
        by r k false = k
    rows_runs (HoldRequest id) s h = meant_runs (meant_request id s) held_row (λ r k. k) s h
    rows_runs (ReleaseRequest id) s h = meant_runs (meant_request id s) released_row (λ r k. k) s h
    rows_runs (MoveRequest id q) s h = meant_runs (meant_request id s) (moved_row q (s.arrivals + 1)) (λ r k. k) (next_arrival s) h
    rows_runs (ModifyRequest id n) s h = meant_runs (meant_request id s) (with_priority n) (λ r k. k) s h

    edit_runs : (e : Edit) (s : State E) → runs_only ids s ≡ true → runs_only ids (edit_applied e s) ≡ true
    edit_runs (Conf e) s h = conf_runs e s h
    edit_runs (LimitsOf e) s h = limits_runs e s h
    edit_runs (AccessOf e) s h = access_runs e s h
    edit_runs (DevicesOf e) s h = devices_runs e s h
    edit_runs (RowsOf e) s h = rows_runs e s h

    -- handovers

    committed_runs : (k : PeerNumber) (o : Option Hand) (s : State E) → runs_only ids s ≡ true → runs_only ids (hand_committed k o s) ≡ true
    committed_runs k None s h = h
    committed_runs k (Some x) s h = dropped x.id s.rows h

    refused_runs : (k : PeerNumber) (refusal : ℕ) (o : Option Hand) (s : State E) → runs_only ids s ≡ true → runs_only ids (hand_refused k refusal o s) ≡ true
    refused_runs k refusal None s h = h
    refused_runs k refusal (Some x) s h =
        let dest : Dest = record { queue = x.queue; host = x.peer } in
        changed x.id (λ r. refusal_noted (dests_for r s) dest refusal (requeued_row r)) (λ r q. noted (dests_for r s) dest refusal (requeued_row r)) s.rows h

    silent_runs : (until : ℕ) (k : PeerNumber) (o : Option Hand) (s : State E) → runs_only ids s ≡ true → runs_only ids (hand_silent until k o s) ≡ true
    silent_runs until k None s h = h
    silent_runs until k (Some x) s h = changed x.id requeued_row (λ r q. refl) s.rows h

    silents_run : (until : ℕ) (ks : List PeerNumber) (s : State E) → runs_only ids s ≡ true → runs_only ids (hands_silent until ks s) ≡ true
    silents_run until [] s h = h
    silents_run until (k ∷ ks) s h = silents_run until ks (hand_silent until k (find_hand k.peer k.number s) s)
        (silent_runs until k (find_hand k.peer k.number s) s h)

    accepted_runs : (k : PeerNumber) (o : Option (Promise E)) (s : State E) → runs_only ids s ≡ true → runs_only ids (accepted k o s) ≡ true
    accepted_runs k None s h = h
    accepted_runs k (Some p) s h = by (has_row p.row.id s)
      where
        t : State E
        t = drop_promise k s

        by : (b : Bool) → list_all (runs_in ids) (if b then t else record t { rows = s.rows ++ requeued_row p.row ∷ [] }).rows ≡ true
        by true = h
        by false = all-added (runs_in ids) s.rows (requeued_row p.row) h refl

    -- a start and a boot

    started_in : (id : RequestId) (device : Option (List ℕ)) (r : Row E) → is_row id r ≡ true → runs_in (ids ++ id ∷ []) (started_row device r) ≡ true
    started_in id device r same =
        list_any-append (id_eq r.id) ids (id ∷ [])
        ∙ or_right (list_any (id_eq r.id) ids) (id_eq r.id id || false) (or_left (id_eq r.id id) false (ap (id_eq r.id) (id_exact id r.id same) ∙ same_id r.id))

    started_runs : (id : RequestId) (device : Option (List ℕ)) (rows : List (Row E)) → list_all (runs_in ids) rows ≡ true
        → list_all (runs_in (ids ++ id ∷ [])) (change_first (is_row id) (started_row device) rows) ≡ true
    started_runs id device rows h =
        list_all-changed (runs_in (ids ++ id ∷ [])) (is_row id) (started_row device) rows
        (list_all-weaker (runs_in ids) (runs_in (ids ++ id ∷ [])) (λ r. imply (is_running r.state) (list_any (id_eq r.id) ids)
        (list_any (id_eq r.id) (ids ++ id ∷ [])) (any-before (id_eq r.id) ids (id ∷ []))) rows h)
        (λ r e. started_in id device r (found_passes (is_row id) rows r e))

    booted_runs : (rows : List (Row E)) → list_all (runs_in ids) rows ≡ true → list_all (runs_in []) (filter_map booted_row rows) ≡ true
    booted_runs rows h = all-filter_map (runs_in ids) (runs_in []) booted_row (λ r k. by r (is_running r.state) refl (may_start_again r)) rows h
      where
        by : (r : Row E) (b : Bool) → is_running r.state ≡ b → (c : Bool)
            → IfSome (if b then (if c then Some (lost_row r) else None) else Some r) (λ q. runs_in [] q ≡ true)
        by r true e true = refl
        by r true e false = tt
        by r false e c = or_left (not (is_running r.state)) false (ap not e)

  -- After a change run only requests that ran before it, and the one that it starts.
  pub what_may_run : (c : Change E) (ids : List RequestId) (s : State E) → runs_only ids s ≡ true → runs_only (may_run c ids) (applied c s) ≡ true
  what_may_run (Site me site) ids s h = refl
  what_may_run (Submitted queue job script) ids s h = all-added (runs_in ids) s.rows _ h refl
  what_may_run (Deleted id) ids s h = dropped ids id s.rows h
  what_may_run (Doomed id) ids s h = changed ids id doomed_row (λ r k. k) s.rows h
  what_may_run (Started id device) ids s h = started_runs ids id device s.rows h
  what_may_run (Ended id parts) ids s h = outputs_keep (runs_only ids) (λ u fs n. refl) (λ u ts ps. refl) id parts (drop_row id s) ∙ dropped ids id s.rows h
  what_may_run (Unlaunched id) ids s h = dropped ids id s.rows h
  what_may_run Boot ids s h = booted_runs ids s.rows h
  what_may_run (Edited e) ids s h = edit_runs ids e s h
  what_may_run (HandOpened peer number id queue since) ids s h = changed ids id routing_row (λ r k. refl) s.rows h
  what_may_run (HandCommitted peer number) ids s h = committed_runs ids (peer_number peer number) (find_hand peer number s) s h
  what_may_run (HandRefused peer number refusal) ids s h = refused_runs ids (peer_number peer number) refusal (find_hand peer number s) s h
  what_may_run (HandsSilent until ks) ids s h = silents_run ids until ks s h
  what_may_run (Accepted peer number) ids s h = accepted_runs ids (peer_number peer number) (find_promise peer number s) s h
  what_may_run (MovedLocal id queue) ids s h = changed ids id (moved_local queue (s.arrivals + 1)) (λ r k. k) s.rows h
  what_may_run (RefusedLocal id queue refusal) ids s h = changed ids id (local_refused queue refusal s)
      (λ r k. noted ids (dests_for r s) (record { queue = queue; host = s.me }) refusal r ∙ k) s.rows h
  what_may_run (HeldFar id) ids s h = changed ids id held_far (λ r k. k) s.rows h
  what_may_run (StageGot peer number path bytes) ids s h =
      file_keeps (runs_only ids) (λ u fs n. refl) (λ u ts ps. refl) (record { path = path; bytes = bytes })
      (change_peer peer (λ p. record p { stage_got = number }) s) ∙ h
  what_may_run c ids s h = h
