-- What is true of each row and each promised row, and stays so under each change.
use Rattle.std.proofs.Common.{◌≡◌, ℕ, ◌+◌, Bool, true, false, not, ◌&&◌, List, [], ◌∷◌, ◌++◌, Option, None, Some, true≢false, refl, sym, subst}
use Rattle.std.proofs.Common.{if◌then◌else◌}
use Rattle.std.specs.Option.{IfSome}
use Rattle.std.specs.List.{list_all}
use Rattle.nqs_base.specs.Same.{name_eq}
use Rattle.nqs_state.specs.State.{Plain}
use Rattle.nqs_base_tables.specs.Table.{change_first}
use Rattle.nqs_state.specs.Keys.{is_row, is_promise}
use Rattle.nqs_types.specs.declared.ids.HostId.{HostId}
use Rattle.nqs_types.specs.declared.ids.PeerNumber.{PeerNumber}
use Rattle.nqs_types.specs.declared.ids.RequestId.{RequestId}
use Rattle.nqs_types.specs.declared.ids.Dest.{Dest}
use Rattle.nqs_types.specs.declared.request.Hand.{Hand}
use Rattle.nqs_types.specs.declared.request.Promise.{Promise}
use Rattle.nqs_types.specs.declared.edit.ConfEdit.{ConfEdit}
use Rattle.nqs_types.specs.declared.edit.ConfEdit.TheVariants.{PurgeQueue}
use Rattle.nqs_types.specs.declared.edit.LimitsEdit.{LimitsEdit}
use Rattle.nqs_types.specs.declared.edit.AccessEdit.{AccessEdit}
use Rattle.nqs_types.specs.declared.edit.DevicesEdit.{DevicesEdit}
use Rattle.nqs_types.specs.declared.edit.LimitsEdit.TheVariants.{SetGlobalLimit}
use Rattle.nqs_types.specs.declared.edit.AccessEdit.TheVariants.{AddManager}
use Rattle.nqs_types.specs.declared.edit.DevicesEdit.TheVariants.{DeleteDevice}
use Rattle.nqs_types.specs.declared.edit.RowsEdit.{RowsEdit}
use Rattle.nqs_types.specs.declared.edit.RowsEdit.TheVariants.{AbortQueue, HoldRequest, ReleaseRequest, MoveRequest, ModifyRequest}
use Rattle.nqs_types.specs.declared.edit.Edit.{Edit}
use Rattle.nqs_types.specs.declared.edit.Edit.TheVariants.{Conf, Limits as LimitsOf, Access as AccessOf, Devices as DevicesOf, Rows as RowsOf}
use Rattle.nqs_types.specs.declared.change.Change.{Change}
use Rattle.nqs_types.specs.declared.change.Change.TheVariants.{Site, Submitted, Deleted, Doomed, Started, Ended, Unlaunched, Boot, Edited, HandOpened}
use Rattle.nqs_types.specs.declared.change.Change.TheVariants.{HandCommitted, HandRefused, HandsSilent, HandDone, OldPromised, Promised, Accepted, Dropped}
use Rattle.nqs_types.specs.declared.change.Change.TheVariants.{MovedLocal}
use Rattle.nqs_types.specs.declared.change.Change.TheVariants.{RefusedLocal, HeldFar, StageGot, StageGone, FileGone}
use Rattle.nqs_rules.specs.Tests.{is_running}
use Rattle.nqs_rules.specs.Find.{peer_number, has_row, find_hand, find_promise, meant_request}
use Rattle.nqs_rules.specs.Edits.{drop_row, change_peer}
use Rattle.nqs_rules.specs.Conf.{conf_applied, is_queued_in}
use Rattle.nqs_rules.specs.Limits.{limits_applied}
use Rattle.nqs_rules.specs.Devices.{devices_applied}
use Rattle.nqs_rules.specs.Rows.{rows_applied, change_meant, next_arrival, doomed_in, held_row, released_row, moved_row, with_priority}
use Rattle.nqs_rules.specs.Routing.{held_where, all_refused, with_refusal, refusal_noted, dests_for}
use Rattle.nqs_rules.specs.Applied.{applied, edit_applied, access_applied, new_row, first_carried, next_id, may_start_again, lost_row, booted_row, doomed_row}
use Rattle.nqs_rules.specs.Applied.{started_row, routing_row, requeued_row, moved_local, local_refused, held_far, hand_committed, hand_refused, hand_silent}
use Rattle.nqs_rules.specs.Applied.{hands_silent, drop_promise, add_promised, accepted, is_outlived, promises_from}
use Rattle.nqs_rules.specs.Fits.{fits}
use Rattle.nqs_rules.proofs.ListFacts.{list_all-changed, list_all-found}
use Rattle.nqs_rules.proofs.KeyFacts.{all-added}
use Rattle.nqs_rules.proofs.FindKept.{all-filter_map, all-mapped}
use Rattle.nqs_rules.proofs.Sublists.{part_all, without_part, filter_part}
use Rattle.nqs_rules.proofs.OutputsKept.{file_keeps, outputs_keep}
use Rattle.nqs_rules.specs.Picked.{PlainRow}

-- what a row keeps while it lies with a host
abbrev pub core : PlainRow → RequestId × Bool × List ℕ
core r = (r.id, r.job.rerun, r.script)

-- as often lost as before
pub record Stays (r q : PlainRow) : Type 0 where
  pub core : core q ≡ core r
  pub lost : q.lost ≡ r.lost

-- a test that no change of a row lets fail
pub record IsKept (t : PlainRow → Bool) : Type 0 where
  pub stays : (r q : PlainRow) → Stays r q → t r ≡ true → t q ≡ true
  pub again : (r : PlainRow) → may_start_again r ≡ true → t r ≡ true → t (lost_row r) ≡ true

pub noted_stays : (dests : List Dest) (dest : Dest) (refusal : ℕ) (r q : PlainRow) → Stays r q → Stays r (refusal_noted dests dest refusal q)
noted_stays dests dest refusal r q h = by (all_refused dests (with_refusal dests dest refusal q.refused))
  where
    by : (b : Bool) → Stays r (held_where b (record q { refused = with_refusal dests dest refusal q.refused }))
    by true = record { core = h.core; lost = h.lost }
    by false = record { core = h.core; lost = h.lost }

pub doomed_stays : (q : List ℕ) (r : PlainRow) → Stays r (doomed_in q r)
doomed_stays q r = by (is_running r.state) (name_eq q r.queue)
  where
    by : (b c : Bool) → Stays r (if b && c then record r { doomed = true } else r)
    by true true = record { core = refl; lost = refl }
    by true false = record { core = refl; lost = refl }
    by false c = record { core = refl; lost = refl }

-- the new row of a change passes
abbrev pub NewPasses : (PlainRow → Bool) → Change (List ℕ) → Plain → Type 0
NewPasses t (Submitted queue job script) s = t (new_row (first_carried (next_id s) job) queue (s.arrivals + 1) script) ≡ true
NewPasses t (OldPromised peer number queue c script) s = t (new_row c queue (s.arrivals + 1) script) ≡ true
NewPasses t (Promised peer number low queue c script) s = t (new_row c queue (s.arrivals + 1) script) ≡ true
NewPasses t c s = Unit {0}

module _ (t : PlainRow → Bool) where
  -- all rows and all promised rows pass
  pub record AllPass (s : Plain) : Type 0 where
    pub rows : list_all t s.rows ≡ true
    pub promises : list_all (λ (p : Promise (List ℕ)). t p.row) s.promises ≡ true

  same_pass : (s u : Plain) → u.rows ≡ s.rows → u.promises ≡ s.promises → AllPass s → AllPass u
  same_pass s u rows promises h = record {
    rows = subst (λ l. list_all t l ≡ true) (sym rows) h.rows;
    promises =
        subst (λ l. list_all (λ (p : Promise (List ℕ)). t p.row) l ≡ true) (sym promises) h.promises;
  }

  module _ (k : IsKept t) where
    changed : (id : RequestId) (g : PlainRow → PlainRow) → ((r : PlainRow) → Stays r (g r)) → (rows : List PlainRow) → list_all t rows ≡ true
        → list_all t (change_first (is_row id) g rows) ≡ true
    changed id g stays rows h = list_all-changed t (is_row id) g rows h (λ r found. k.stays r (g r) (stays r) (list_all-found t (is_row id) rows r h found))

    booted : (r : PlainRow) → t r ≡ true → IfSome (booted_row r) (λ q. t q ≡ true)
    booted r h = by (is_running r.state) (may_start_again r) refl
      where
        by : (b c : Bool) → may_start_again r ≡ c → IfSome (if b then (if c then Some (lost_row r) else None) else Some r) (λ q. t q ≡ true)
        by true true e = k.again r e h
        by true false e = tt
        by false c e = h

    conf_pass : (e : ConfEdit) (s : Plain) → AllPass s → AllPass (conf_applied e s)
    conf_pass (PurgeQueue q) s h = record { rows = part_all t (filter_part (λ r. not (is_queued_in q r)) s.rows) h.rows; promises = h.promises }
    conf_pass e s h = record { rows = h.rows; promises = h.promises }

    limits_pass : (e : LimitsEdit) (s : Plain) → AllPass s → AllPass (limits_applied e s)
    limits_pass (SetGlobalLimit n) s h = record { rows = h.rows; promises = h.promises }
    limits_pass e s h = record { rows = h.rows; promises = h.promises }

    access_pass : (e : AccessEdit) (s : Plain) → AllPass s → AllPass (access_applied e s)
    access_pass (AddManager user) s h = record { rows = h.rows; promises = h.promises }
    access_pass e s h = record { rows = h.rows; promises = h.promises }

    devices_pass : (e : DevicesEdit) (s : Plain) → AllPass s → AllPass (devices_applied e s)
    devices_pass (DeleteDevice d) s h = record { rows = h.rows; promises = h.promises }
    devices_pass e s h = record { rows = h.rows; promises = h.promises }

    meant_pass : (o : Option RequestId) (g : PlainRow → PlainRow) → ((r : PlainRow) → Stays r (g r)) → (s : Plain) → AllPass s → AllPass (change_meant o g s)
    meant_pass None g stays s h = h
    meant_pass (Some id) g stays s h = record { rows = changed id g stays s.rows h.rows; promises = h.promises }

    rows_pass : (e : RowsEdit) (s : Plain) → AllPass s → AllPass (rows_applied e s)
    rows_pass (AbortQueue q) s h = record {
      rows = all-mapped t t (doomed_in q)
          (λ r p. k.stays r (doomed_in q r) (doomed_stays q r) p) s.rows h.rows;
      promises = h.promises;
    }
    rows_pass (HoldRequest id) s h = meant_pass (meant_request id s) held_row (λ r. record { core = refl; lost = refl }) s h
    rows_pass (ReleaseRequest id) s h = meant_pass (meant_request id s) released_row (λ r. record { core = refl; lost = refl }) s h
    rows_pass (MoveRequest id q) s h = meant_pass (meant_request id s) (moved_row q (s.arrivals + 1)) (λ r. record { core = refl; lost = refl })
        (next_arrival s) (record { rows = h.rows; promises = h.promises })
    rows_pass (ModifyRequest id n) s h = meant_pass (meant_request id s) (with_priority n) (λ r. record { core = refl; lost = refl }) s h

    edit_pass : (e : Edit) (s : Plain) → AllPass s → AllPass (edit_applied e s)
    edit_pass (Conf e) s h = conf_pass e s h
    edit_pass (LimitsOf e) s h = limits_pass e s h
    edit_pass (AccessOf e) s h = access_pass e s h
    edit_pass (DevicesOf e) s h = devices_pass e s h
    edit_pass (RowsOf e) s h = rows_pass e s h

    dropped_row : (id : RequestId) (s : Plain) → AllPass s → AllPass (drop_row id s)
    dropped_row id s h = record { rows = part_all t (without_part (is_row id) s.rows) h.rows; promises = h.promises }

    committed_pass : (n : PeerNumber) (o : Option Hand) (s : Plain) → AllPass s → AllPass (hand_committed n o s)
    committed_pass n None s h = h
    committed_pass n (Some x) s h = let p = dropped_row x.id s h in record { rows = p.rows; promises = p.promises }

    refused_pass : (n : PeerNumber) (refusal : ℕ) (o : Option Hand) (s : Plain) → AllPass s → AllPass (hand_refused n refusal o s)
    refused_pass n refusal None s h = h
    refused_pass n refusal (Some x) s h = record {
      rows = changed x.id (λ r. refusal_noted (dests_for r s) (record { queue = x.queue; host = x.peer }) refusal (requeued_row r))
          (λ r. noted_stays (dests_for r s) (record { queue = x.queue; host = x.peer }) refusal r (requeued_row r)
          (record { core = refl; lost = refl })) s.rows h.rows;
      promises = h.promises;
    }

    silent_pass : (until : ℕ) (n : PeerNumber) (o : Option Hand) (s : Plain) → AllPass s → AllPass (hand_silent until n o s)
    silent_pass until n None s h = h
    silent_pass until n (Some x) s h = record {
      rows = changed x.id requeued_row (λ r. record { core = refl; lost = refl }) s.rows h.rows;
      promises =
          h.promises;
    }

    silents_pass : (until : ℕ) (ns : List PeerNumber) (s : Plain) → AllPass s → AllPass (hands_silent until ns s)
    silents_pass until [] s h = h
    silents_pass until (n ∷ ns) s h = silents_pass until ns (hand_silent until n (find_hand n.peer n.number s) s)
        (silent_pass until n (find_hand n.peer n.number s) s h)

    added_pass : (r : PlainRow) (s : Plain) → t r ≡ true → AllPass s → AllPass (add_promised r s)
    added_pass r s new h = by (has_row r.id s)
      where
        by : (b : Bool) → AllPass (if b then s else record s { rows = s.rows ++ requeued_row r ∷ [] })
        by true = h
        by false = record {
          rows = all-added t s.rows (requeued_row r) h.rows (k.stays r (requeued_row r) (record { core = refl; lost = refl }) new);
          promises =
              h.promises;
        }

    accepted_pass : (n : PeerNumber) (s : Plain) → AllPass s → AllPass (accepted n (find_promise n.peer n.number s) s)
    accepted_pass n s h = of (find_promise n.peer n.number s) refl
      where
        left : AllPass (drop_promise n s)
        left = record { rows = h.rows; promises = part_all (λ (p : Promise (List ℕ)). t p.row) (without_part (is_promise n) s.promises) h.promises }

        of : (o : Option (Promise (List ℕ))) → find_promise n.peer n.number s ≡ o → AllPass (accepted n o s)
        of None e = h
        of (Some p) e =
            let made = added_pass p.row (drop_promise n s) (list_all-found (λ (q : Promise (List ℕ)). t q.row)
            (is_promise (peer_number n.peer n.number)) s.promises p h.promises e) left in
            record { rows = made.rows; promises = made.promises }

    promised_pass : (peer : HostId) (low : ℕ) (s : Plain) → AllPass s → (p : Promise (List ℕ)) → t p.row ≡ true
        → list_all (λ (q : Promise (List ℕ)). t q.row) (promises_from peer low s.promises ++ p ∷ []) ≡ true
    promised_pass peer low s h p new = all-added (λ (q : Promise (List ℕ)). t q.row) (promises_from peer low s.promises) p
        (part_all (λ (q : Promise (List ℕ)). t q.row) (filter_part (λ q. not (is_outlived peer low q)) s.promises) h.promises) new

    pub change_passes : (c : Change (List ℕ)) (s : Plain) → fits c s ≡ true → NewPasses t c s → AllPass s → AllPass (applied c s)
    change_passes (Site me site) s fit new h = absurd (true≢false (sym fit))
    change_passes (Submitted queue job script) s fit new h = record { rows = all-added t s.rows _ h.rows new; promises = h.promises }
    change_passes (Deleted id) s fit new h = let p = dropped_row id s h in record { rows = p.rows; promises = p.promises }
    change_passes (Doomed id) s fit new h = record {
      rows = changed id doomed_row (λ r. record { core = refl; lost = refl }) s.rows h.rows;
      promises =
          h.promises;
    }
    change_passes (Started id device) s fit new h = record {
      rows = changed id (started_row device)
          (λ r. record { core = refl; lost = refl }) s.rows h.rows;
      promises = h.promises;
    }
    change_passes (Ended id parts) s fit new h =
        same_pass (drop_row id s) (applied (Ended id parts) s) (outputs_keep (λ u. u.rows) (λ u fs n. refl) (λ u ts ps. refl) id parts (drop_row id s))
        (outputs_keep (λ u. u.promises) (λ u fs n. refl) (λ u ts ps. refl) id parts (drop_row id s)) (dropped_row id s h)
    change_passes (Unlaunched id) s fit new h = dropped_row id s h
    change_passes Boot s fit new h = record { rows = all-filter_map t t booted_row booted s.rows h.rows; promises = h.promises }
    change_passes (Edited e) s fit new h = edit_pass e s h
    change_passes (HandOpened peer number id queue since) s fit new h = record {
      rows =
          changed id routing_row (λ r. record { core = refl; lost = refl }) s.rows h.rows;
      promises = h.promises;
    }
    change_passes (HandCommitted peer number) s fit new h = committed_pass (peer_number peer number) (find_hand peer number s) s h
    change_passes (HandRefused peer number refusal) s fit new h = refused_pass (peer_number peer number) refusal (find_hand peer number s) s h
    change_passes (HandsSilent until ns) s fit new h = silents_pass until ns s h
    change_passes (HandDone peer number) s fit new h = record { rows = h.rows; promises = h.promises }
    change_passes (OldPromised peer number queue c script) s fit new h = record {
      rows = h.rows;
      promises = promised_pass peer number s h _ new;
    }
    change_passes (Promised peer number low queue c script) s fit new h = record {
      rows = h.rows;
      promises = promised_pass peer low s h _ new;
    }
    change_passes (Accepted peer number) s fit new h = accepted_pass (peer_number peer number) s h
    change_passes (Dropped peer number) s fit new h = record {
      rows = h.rows;
      promises =
          part_all (λ (p : Promise (List ℕ)). t p.row) (without_part (is_promise (peer_number peer number)) s.promises) h.promises;
    }
    change_passes (MovedLocal id queue) s fit new h = record {
      rows = changed id (moved_local queue (s.arrivals + 1))
          (λ r. record { core = refl; lost = refl }) s.rows h.rows;
      promises = h.promises;
    }
    change_passes (RefusedLocal id queue refusal) s fit new h = record {
      rows =
          changed id (local_refused queue refusal s) (λ r. noted_stays (dests_for r s) (record { queue = queue; host = s.me }) refusal r r
          (record { core = refl; lost = refl })) s.rows h.rows;
      promises = h.promises;
    }
    change_passes (HeldFar id) s fit new h = record {
      rows = changed id held_far (λ r. record { core = refl; lost = refl }) s.rows h.rows;
      promises =
          h.promises;
    }
    change_passes (StageGot peer number path bytes) s fit new h =
        let u : Plain = change_peer peer (λ p. record p { stage_got = number }) s in
        same_pass s (applied (StageGot peer number path bytes) s) (file_keeps (λ v. v.rows) (λ v fs n. refl) (λ v ts ps. refl)
        (record { path = path; bytes = bytes }) u) (file_keeps (λ v. v.promises) (λ v fs n. refl) (λ v ts ps. refl)
        (record { path = path; bytes = bytes }) u) h
    change_passes (StageGone peer number) s fit new h = record { rows = h.rows; promises = h.promises }
    change_passes (FileGone file) s fit new h = record { rows = h.rows; promises = h.promises }
