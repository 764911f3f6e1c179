-- The extents of a host after a change are those from before it, with the change's own, and without
-- what it takes away.
use Rattle.std.proofs.Common.{◌≡◌, ℕ, ◌+◌, Bool, true, false, cond, not, ◌&&◌, nat_lt, IsTrue, if◌then◌else◌, List, [], ◌∷◌, ◌++◌, map, filter, find, Option}
use Rattle.std.proofs.Common.{Some, None, refl, sym, ap, subst, ◌∙◌, append_assoc}
use Rattle.std.specs.List.{filter_map, cons_option}
use Rattle.std.proofs.lemmas.List.{map-append}
use Rattle.nqs_base_tables.specs.Table.{without_first}
use Rattle.nqs_state.specs.Keys.{is_row, is_promise, is_stage, is_file}
use Rattle.nqs_base.specs.declared.extent.Extent.{Extent}
use Rattle.nqs_types.specs.declared.ids.HostId.{HostId}
use Rattle.nqs_types.specs.declared.ids.RequestId.{RequestId}
use Rattle.nqs_types.specs.declared.ids.PeerNumber.{PeerNumber}
use Rattle.nqs_types.specs.declared.request.Job.{Job}
use Rattle.nqs_types.specs.declared.request.Carried.{Carried}
use Rattle.nqs_types.specs.declared.request.Row.{Row}
use Rattle.nqs_types.specs.declared.request.Hand.{Hand}
use Rattle.nqs_types.specs.declared.request.Promise.{Promise}
use Rattle.nqs_types.specs.declared.request.FileOut.{FileOut}
use Rattle.nqs_types.specs.declared.change.Change.{Change}
use Rattle.nqs_types.specs.declared.change.Change.TheVariants.{Site, Submitted, Deleted, Doomed, Started, Ended, Unlaunched, Boot, Edited, HandOpened}
use Rattle.nqs_types.specs.declared.change.Change.TheVariants.{HandCommitted, HandRefused, HandsSilent, HandDone, OldPromised, Promised, Accepted, Dropped}
use Rattle.nqs_types.specs.declared.change.Change.TheVariants.{MovedLocal}
use Rattle.nqs_types.specs.declared.change.Change.TheVariants.{RefusedLocal, HeldFar, StageGot, StageGone, FileGone}
use Rattle.nqs_types.specs.declared.edit.Edit.{Edit}
use Rattle.nqs_types.specs.declared.edit.Edit.TheVariants.{Conf, Limits as LimitsOf, Access as AccessOf, Devices as DevicesOf, Rows as RowsOf}
use Rattle.nqs_types.specs.declared.edit.ConfEdit.{ConfEdit}
use Rattle.nqs_types.specs.declared.edit.ConfEdit.TheVariants.{PurgeQueue, CreatePipeQueue}
use Rattle.nqs_types.specs.declared.edit.LimitsEdit.{LimitsEdit}
use Rattle.nqs_types.specs.declared.edit.LimitsEdit.TheVariants.{SetGlobalLimit}
use Rattle.nqs_types.specs.declared.edit.AccessEdit.{AccessEdit}
use Rattle.nqs_types.specs.declared.edit.AccessEdit.TheVariants.{SetNoAccess}
use Rattle.nqs_types.specs.declared.edit.DevicesEdit.{DevicesEdit}
use Rattle.nqs_types.specs.declared.edit.DevicesEdit.TheVariants.{CreateDevice}
use Rattle.nqs_types.specs.declared.edit.RowsEdit.{RowsEdit}
use Rattle.nqs_types.specs.declared.edit.RowsEdit.TheVariants.{AbortQueue, HoldRequest, ReleaseRequest, MoveRequest, ModifyRequest}
use Rattle.nqs_spool.specs.Extents.{IsWith}
use Rattle.nqs_rules.specs.Tests.{is_running, last_u64}
use Rattle.nqs_rules.specs.Find.{peer_number, has_row, find_row, find_hand, find_promise, meant_request}
use Rattle.nqs_rules.specs.Edits.{change_row, drop_row, change_peer}
use Rattle.nqs_rules.specs.Fits.{fits}
use Rattle.nqs_rules.specs.Conf.{is_queued_in, conf_applied}
use Rattle.nqs_rules.specs.Limits.{limits_applied}
use Rattle.nqs_rules.specs.Devices.{devices_applied}
use Rattle.nqs_rules.specs.Rows.{doomed_in, held_row, released_row, moved_row, with_priority, change_meant, next_arrival, rows_applied}
use Rattle.nqs_rules.specs.Routing.{close, held_where, refusal_noted, dests_for}
use Rattle.nqs_rules.specs.Applied.{doomed_row, started_row, may_start_again, lost_row, booted_row, routing_row, requeued_row, hand_committed, hand_refused}
use Rattle.nqs_rules.specs.Applied.{hand_silent, hands_silent, is_outlived, promises_from, promised, accepted, moved_local, local_refused, held_far}
use Rattle.nqs_rules.specs.Applied.{access_applied, edit_applied}
use Rattle.nqs_rules.specs.Applied.{applied, drop_hand, drop_promise}
use Rattle.nqs_rules.specs.Stepped.{stored_parts}
use Rattle.nqs_rules.proofs.ListFacts.{map-changed}
use Rattle.nqs_rules.proofs.FindKept.{map-kept}
use Rattle.nqs_store.specs.Told.{Host}
use Rattle.nqs_store.specs.Live.{row_part, promise_part, stage_part, file_part, output_parts, live}
use Rattle.nqs_store.specs.Accounts.{Adds, Takes, IsRearranged}
use Rattle.nqs_store.specs.Frees.{part_of, goes_at_boot, row_of_hand, doubled, outlived, gone}
use Rattle.nqs_store.proofs.Extents.{with_behind, with_before, adds-behind, adds-before, adds-end, takes-behind, takes-before, takes-end, takes-append}
use Rattle.nqs_store.proofs.Extents.{in_order, moved, filter_takes, first_takes}
use Rattle.nqs_store.proofs.Outputs.{outputs}

pub record AreAccounted (before now : List Extent) (added taken : List Extent) : Type 0 where
  pub more : List Extent
  pub fewer : List Extent
  pub adds : Adds before added more
  pub takes : Takes more taken fewer
  pub order : IsRearranged fewer now

rows : Host → List Extent
rows s = map row_part s.rows

module _ (s now : Host) where
  -- the same extents
  same : live s ≡ live now → AreAccounted (live s) (live now) [] []
  same is = record { more = live s; fewer = live s; adds = refl; takes = refl; order = in_order (live s) (live now) is }

  -- rows go
  rows_go : (taken : List Extent) → Takes (map row_part s.rows) taken (map row_part now.rows) → map promise_part s.promises ≡ map promise_part now.promises
      → output_parts s ≡ output_parts now → AreAccounted (live s) (live now) [] taken
  rows_go taken takes promises outs = record {
    more = live s;
    fewer = map row_part now.rows ++ (map promise_part s.promises ++ output_parts s);
    adds = refl;
    takes = takes-behind (map row_part s.rows) taken (map row_part now.rows) (map promise_part s.promises ++ output_parts s) takes;
    order = in_order _ (live now) (λ j. map row_part now.rows ++ (promises j ++ outs j));
  }

boot_takes : (rs : List (Row Extent)) → Takes (map row_part rs) (map row_part (filter goes_at_boot rs)) (map row_part (filter_map booted_row rs))
boot_takes [] = refl
boot_takes (r ∷ rs) = by (is_running r.state) (may_start_again r) (boot_takes rs)
  where
    by : (b c : Bool) → Takes (map row_part rs) (map row_part (filter goes_at_boot rs)) (map row_part (filter_map booted_row rs))
        → Takes (r.script ∷ map row_part rs) (map row_part (cond (b && not c) (r ∷ filter goes_at_boot rs) (filter goes_at_boot rs)))
        (map row_part (cons_option (if b then (if c then Some (lost_row r) else None) else Some r) (filter_map booted_row rs)))
    by true true rest = takes-before (r.script ∷ []) _ _ _ rest
    by true false rest = (map row_part rs, record { front = []; back = map row_part rs; without = refl; within = refl }, rest)
    by false c rest = takes-before (r.script ∷ []) _ _ _ rest

held-part : (b : Bool) (r : Row Extent) → row_part (held_where b r) ≡ row_part r
held-part true r = refl
held-part false r = refl

doomed-part : (q : List ℕ) (r : Row Extent) → row_part (doomed_in q r) ≡ row_part r
doomed-part q r = by (is_running r.state && Rattle.nqs_base.specs.Same.name_eq q r.queue)
  where
    by : (b : Bool) → row_part (if b then record r { doomed = true } else r) ≡ r.script
    by true = refl
    by false = refl

-- a change of a row keeps its extent
row_changed : (id : RequestId) (f : Row Extent → Row Extent) → ((r : Row Extent) → row_part (f r) ≡ row_part r) → (s : Host)
    → AreAccounted (live s) (live (change_row id f s)) [] []
row_changed id f keeps s = same s (change_row id f s) (ap (λ l. l ++ (map promise_part s.promises ++ output_parts s))
    (sym (map-changed row_part (is_row id) f keeps s.rows)))

row_dropped : (id : RequestId) (s now : Host) → now.rows ≡ without_first (is_row id) s.rows → map promise_part s.promises ≡ map promise_part now.promises
    → output_parts s ≡ output_parts now → AreAccounted (live s) (live now) [] (part_of row_part (find_row id s))
row_dropped id s now is promises outs = rows_go s now _ (subst (λ l. Takes (map row_part s.rows) (part_of row_part (find_row id s)) (map row_part l)) (sym is)
    (first_takes row_part (is_row id) s.rows)) promises outs

-- edits

conf_accounted : (e : ConfEdit) (s : Host) → AreAccounted (live s) (live (conf_applied e s)) [] (gone (Edited (Conf e)) s)
conf_accounted (PurgeQueue q) s = rows_go s (conf_applied (PurgeQueue q) s) _ (filter_takes row_part (is_queued_in q) s.rows) refl refl
conf_accounted (CreatePipeQueue q p r o None) s = same s (conf_applied (CreatePipeQueue q p r o None) s) refl
conf_accounted (CreatePipeQueue q p r o (Some d)) s = same s (conf_applied (CreatePipeQueue q p r o (Some d)) s) refl
conf_accounted e s = same s (conf_applied e s) refl

limits_accounted : (e : LimitsEdit) (s : Host) → AreAccounted (live s) (live (limits_applied e s)) [] []
limits_accounted (SetGlobalLimit n) s = same s (limits_applied (SetGlobalLimit n) s) refl
limits_accounted e s = same s (limits_applied e s) refl

access_accounted : (e : AccessEdit) (s : Host) → AreAccounted (live s) (live (access_applied e s)) [] []
access_accounted (SetNoAccess q) s = same s (access_applied (SetNoAccess q) s) refl
access_accounted e s = same s (access_applied e s) refl

devices_accounted : (e : DevicesEdit) (s : Host) → AreAccounted (live s) (live (devices_applied e s)) [] []
devices_accounted (CreateDevice d forms) s = same s (devices_applied (CreateDevice d forms) s) refl
devices_accounted e s = same s (devices_applied e s) refl

meant_accounted : (m : Option RequestId) (f : Row Extent → Row Extent) → ((r : Row Extent) → row_part (f r) ≡ row_part r) → (s : Host)
    → AreAccounted (live s) (live (change_meant m f s)) [] []
meant_accounted None f keeps s = same s s refl
meant_accounted (Some id) f keeps s = row_changed id f keeps s

rows_accounted : (e : RowsEdit) (s : Host) → AreAccounted (live s) (live (rows_applied e s)) [] []
rows_accounted (AbortQueue q) s = same s (rows_applied (AbortQueue q) s) (ap (λ l. l ++ (map promise_part s.promises ++ output_parts s))
    (sym (map-kept row_part (doomed_in q) (doomed-part q) s.rows)))
rows_accounted (HoldRequest id) s = meant_accounted (meant_request id s) held_row (λ r. refl) s
rows_accounted (ReleaseRequest id) s = meant_accounted (meant_request id s) released_row (λ r. refl) s
rows_accounted (MoveRequest id q) s = meant_accounted (meant_request id s) (moved_row q (s.arrivals + 1)) (λ r. refl) (next_arrival s)
rows_accounted (ModifyRequest id n) s = meant_accounted (meant_request id s) (with_priority n) (λ r. refl) s

edit_accounted : (e : Edit) (s : Host) → AreAccounted (live s) (live (edit_applied e s)) [] (gone (Edited e) s)
edit_accounted (Conf e) s = conf_accounted e s
edit_accounted (LimitsOf e) s = limits_accounted e s
edit_accounted (AccessOf e) s = access_accounted e s
edit_accounted (DevicesOf e) s = devices_accounted e s
edit_accounted (RowsOf e) s = rows_accounted e s

-- handovers

noted-part : (r q : Row Extent) → row_part q ≡ row_part r → (b : Bool) → row_part (held_where b q) ≡ row_part r
noted-part r q is b = held-part b q ∙ is

committed_accounted : (k : PeerNumber) (o : Option Hand) (s : Host) → AreAccounted (live s) (live (hand_committed k o s)) [] (row_of_hand s o)
committed_accounted k None s = same s s refl
committed_accounted k (Some h) s = row_dropped h.id s (hand_committed k (Some h) s) refl refl refl

refused_accounted : (k : PeerNumber) (refusal : ℕ) (o : Option Hand) (s : Host) → AreAccounted (live s) (live (hand_refused k refusal o s)) [] []
refused_accounted k refusal None s = same s s refl
refused_accounted k refusal (Some h) s = row_changed h.id (λ r. refusal_noted (dests_for r s) (record { queue = h.queue; host = h.peer }) refusal
    (requeued_row r)) (λ r. held-part _ _) (drop_hand k s)

silent_live : (until : ℕ) (ks : List PeerNumber) (s : Host) → live (hands_silent until ks s) ≡ live s
silent_live until [] s = refl
silent_live until (k ∷ ks) s = silent_live until ks (hand_silent until k (find_hand k.peer k.number s) s) ∙ one (find_hand k.peer k.number s)
  where
    one : (o : Option Hand) → live (hand_silent until k o s) ≡ live s
    one None = refl
    one (Some h) = ap (λ l. l ++ (map promise_part s.promises ++ output_parts s)) (map-changed row_part (is_row h.id) requeued_row (λ r. refl) s.rows)

-- a promise becomes a row
accepted_accounted : (k : PeerNumber) (o : Option (Promise Extent)) (s : Host) → find (is_promise k) s.promises ≡ o
    → AreAccounted (live s) (live (accepted k o s)) [] (doubled s o)
accepted_accounted k None s found = same s s refl
accepted_accounted k (Some p) s found = by (has_row p.row.id s)
  where
    ps : List Extent
    ps = map promise_part s.promises

    fewer : List Extent
    fewer = map promise_part (without_first (is_promise k) s.promises)

    goes : Takes ps (promise_part p ∷ []) fewer
    goes = subst (λ o. Takes ps (part_of promise_part o) fewer) found (first_takes promise_part (is_promise k) s.promises)

    at : IsWith fewer (promise_part p) ps
    at = subst (λ l. IsWith l (promise_part p) ps) goes.2 goes.1

    by : (b : Bool) → AreAccounted (live s) (live (change_peer k.peer (close k.number)
        (if b then drop_promise k s else record (drop_promise k s) { rows = s.rows ++ requeued_row p.row ∷ [] }))) [] (if b then promise_part p ∷ [] else [])
    by true = record {
      more = live s;
      fewer = map row_part s.rows ++ (fewer ++ output_parts s);
      adds = refl;
      takes = takes-before (map row_part s.rows) (ps ++ output_parts s) (promise_part p ∷ []) (fewer ++ output_parts s)
          (takes-behind ps (promise_part p ∷ []) fewer (output_parts s) goes);
      order = in_order (map row_part s.rows ++ (fewer ++ output_parts s)) (map row_part s.rows ++ (fewer ++ output_parts s)) refl;
    }
    by false = record {
      more = live s;
      fewer = live s;
      adds = refl;
      takes = refl;
      order = moved (map row_part s.rows ++ (fewer ++ output_parts s)) (live s) (map row_part (s.rows ++ requeued_row p.row ∷ []) ++ (fewer ++ output_parts s))
          (promise_part p)
          (with_before (promise_part p) (map row_part s.rows) (fewer ++ output_parts s) (ps ++ output_parts s)
          (with_behind (promise_part p) fewer ps (output_parts s) at))
          (record {
            front = map row_part s.rows;
            back = fewer ++ output_parts s;
            without = refl;
            within =
                ap (λ l. l ++ (fewer ++ output_parts s)) (map-append row_part s.rows (requeued_row p.row ∷ []))
                ∙ append_assoc (map row_part s.rows) (promise_part p ∷ []) (fewer ++ output_parts s);
          });
    }

-- a row or a promise comes, or outputs do

submitted_accounted : (queue : List ℕ) (job : Job) (script : Extent) (s : Host)
    → AreAccounted (live s) (live (applied (Submitted queue job script) s)) (script ∷ []) []
submitted_accounted queue job script s =
    let rest = map promise_part s.promises ++ output_parts s in
    record {
      more = (map row_part s.rows ++ script ∷ []) ++ rest;
      fewer = (map row_part s.rows ++ script ∷ []) ++ rest;
      adds = adds-behind (map row_part s.rows) (script ∷ []) (map row_part s.rows ++ script ∷ []) rest (adds-end (map row_part s.rows) (script ∷ []));
      takes = refl;
      order = in_order _ _ (ap (λ l. l ++ rest) (sym (map-append row_part s.rows _)));
    }

promised_accounted : (peer : HostId) (number low : ℕ) (queue : List ℕ) (c : Carried) (script : Extent) (s : Host)
    → AreAccounted (live s) (live (promised peer number low queue c script s)) (script ∷ []) (outlived peer low s)
promised_accounted peer number low queue c script s =
    let front = map row_part s.rows in
    let ps = map promise_part s.promises in
    let kept = map promise_part (promises_from peer low s.promises) in
    let taken = map promise_part (filter (is_outlived peer low) s.promises) in
    let outs = output_parts s in
    record {
      more = front ++ ((ps ++ script ∷ []) ++ outs);
      fewer = front ++ ((kept ++ script ∷ []) ++ outs);
      adds = adds-before front (ps ++ outs) (script ∷ []) ((ps ++ script ∷ []) ++ outs)
          (adds-behind ps (script ∷ []) (ps ++ script ∷ []) outs (adds-end ps (script ∷ [])));
      takes = takes-before front ((ps ++ script ∷ []) ++ outs) taken ((kept ++ script ∷ []) ++ outs)
          (takes-behind (ps ++ script ∷ []) taken (kept ++ script ∷ []) outs
          (takes-behind ps taken kept (script ∷ []) (filter_takes promise_part (is_outlived peer low) s.promises)));
      order = in_order _ _ (ap (λ l. front ++ (l ++ outs)) (sym (map-append promise_part (promises_from peer low s.promises) _)));
    }

ended_accounted : (id : RequestId) (parts : List (Rattle.nqs_types.specs.declared.change.OutPart.OutPart Extent)) (s : Host)
    → AreAccounted (live s) (live (applied (Ended id parts) s)) (map Rattle.nqs_rules.specs.Stepped.part_bytes parts) (gone (Ended id parts) s)
ended_accounted id parts s =
    let next = drop_row id s in
    let out = outputs id parts next in
    let xs = map Rattle.nqs_rules.specs.Stepped.part_bytes parts in
    let rs = map row_part s.rows in
    let left = map row_part next.rows in
    let ps = map promise_part s.promises in
    record {
      more = rs ++ (ps ++ out.more);
      fewer = left ++ (ps ++ output_parts (applied (Ended id parts) s));
      adds = adds-before rs (ps ++ output_parts s) xs (ps ++ out.more) (adds-before ps (output_parts s) xs out.more out.adds);
      takes = takes-append (rs ++ (ps ++ out.more)) (part_of row_part (find_row id s)) (left ++ (ps ++ out.more)) _ _
          (takes-behind rs (part_of row_part (find_row id s)) left (ps ++ out.more) (first_takes row_part (is_row id) s.rows))
          (takes-before left (ps ++ out.more) _ _ (takes-before ps out.more _ _ out.takes));
      order = in_order _ _ (λ j. sym out.rows j ++ (sym out.promises j ++ output_parts (applied (Ended id parts) s)));
    }

got_accounted : (peer : HostId) (number : ℕ) (path : List ℕ) (bytes : Extent) (s : Host)
    → AreAccounted (live s) (live (applied (StageGot peer number path bytes) s)) (bytes ∷ []) (gone (StageGot peer number path bytes) s)
got_accounted peer number path bytes s = by (nat_lt s.file_next last_u64)
  where
    front : List Extent
    front = map row_part s.rows

    ps : List Extent
    ps = map promise_part s.promises

    st : List Extent
    st = map stage_part s.stages

    fs : List Extent
    fs = map file_part s.files

    more : List Extent
    more = front ++ (ps ++ (st ++ (fs ++ bytes ∷ [])))

    adds : Adds (live s) (bytes ∷ []) more
    adds = adds-before front (ps ++ (st ++ fs)) (bytes ∷ []) (ps ++ (st ++ (fs ++ bytes ∷ [])))
        (adds-before ps (st ++ fs) (bytes ∷ []) (st ++ (fs ++ bytes ∷ [])) (adds-before st fs (bytes ∷ []) (fs ++ bytes ∷ []) (adds-end fs (bytes ∷ []))))

    next : Host
    next = change_peer peer (λ p. record p { stage_got = number }) s

    file : FileOut Extent
    file = record { number = s.file_next; path = path; bytes = bytes }

    by : (b : Bool) → AreAccounted (live s) (live (if b then record next { files = s.files ++ file ∷ []; file_next = s.file_next + 1 } else next)) (bytes ∷ [])
        (if b then [] else bytes ∷ [])
    by true = record {
      more = more;
      fewer = more;
      adds = adds;
      takes = refl;
      order = in_order more (front ++ (ps ++ (st ++ map file_part (s.files ++ file ∷ []))))
          (ap (λ l. front ++ (ps ++ (st ++ l))) (sym (map-append file_part s.files (file ∷ []))));
    }
    by false = record {
      more = more;
      fewer = live s;
      adds = adds;
      takes = takes-before front (ps ++ (st ++ (fs ++ bytes ∷ []))) (bytes ∷ []) (ps ++ (st ++ fs))
          (takes-before ps (st ++ (fs ++ bytes ∷ [])) (bytes ∷ []) (st ++ fs) (takes-before st (fs ++ bytes ∷ []) (bytes ∷ []) fs (takes-end fs (bytes ∷ []))));
      order = in_order (live s) (live s) refl;
    }

pub accounted : (change : Change Extent) (s : Host) → IsTrue (fits change s)
    → AreAccounted (live s) (live (applied change s)) (stored_parts change) (gone change s)
accounted (Site me site) s fine = absurd (let no : ⊥ = cc in no)
accounted (Submitted queue job script) s fine = submitted_accounted queue job script s
accounted (Deleted id) s fine = row_dropped id s (applied (Deleted id) s) refl refl refl
accounted (Doomed id) s fine = row_changed id doomed_row (λ r. refl) s
accounted (Started id device) s fine = row_changed id (started_row device) (λ r. refl) s
accounted (Ended id parts) s fine = ended_accounted id parts s
accounted (Unlaunched id) s fine = row_dropped id s (applied (Unlaunched id) s) refl refl refl
accounted Boot s fine = rows_go s (applied Boot s) _ (boot_takes s.rows) refl refl
accounted (Edited e) s fine = edit_accounted e s
accounted (HandOpened peer number id queue since) s fine = same s (applied (HandOpened peer number id queue since) s)
    (ap (λ l. l ++ (map promise_part s.promises ++ output_parts s)) (sym (map-changed row_part (is_row id) routing_row (λ r. refl) s.rows)))
accounted (HandCommitted peer number) s fine = committed_accounted (peer_number peer number) (find_hand peer number s) s
accounted (HandRefused peer number refusal) s fine = refused_accounted (peer_number peer number) refusal (find_hand peer number s) s
accounted (HandsSilent until hands) s fine = same s (hands_silent until hands s) (sym (silent_live until hands s))
accounted (HandDone peer number) s fine = same s (applied (HandDone peer number) s) refl
accounted (OldPromised peer number queue c script) s fine = promised_accounted peer number number queue c script s
accounted (Promised peer number low queue c script) s fine = promised_accounted peer number low queue c script s
accounted (Accepted peer number) s fine = accepted_accounted (peer_number peer number) (find_promise peer number s) s refl
accounted (Dropped peer number) s fine =
    let k = peer_number peer number in
    record {
      more = live s;
      fewer = live (applied (Dropped peer number) s);
      adds = refl;
      takes = takes-before (map row_part s.rows) _ _ _ (takes-behind _ _ _ (output_parts s) (first_takes promise_part (is_promise k) s.promises));
      order = in_order _ _ refl;
    }
accounted (MovedLocal id queue) s fine = row_changed id (moved_local queue (s.arrivals + 1)) (λ r. refl) (next_arrival s)
accounted (RefusedLocal id queue refusal) s fine = row_changed id (local_refused queue refusal s) (λ r. held-part _ _) s
accounted (HeldFar id) s fine = row_changed id held_far (λ r. refl) s
accounted (StageGot peer number path bytes) s fine = got_accounted peer number path bytes s
accounted (StageGone peer number) s fine = record {
  more = live s;
  fewer = live (applied (StageGone peer number) s);
  adds = refl;
  takes = takes-before (map row_part s.rows) _ _ _ (takes-before (map promise_part s.promises) _ _ _
      (takes-behind _ _ _ (map file_part s.files) (first_takes stage_part (is_stage (peer_number peer number)) s.stages)));
  order = in_order _ _ refl;
}
accounted (FileGone file) s fine = record {
  more = live s;
  fewer = live (applied (FileGone file) s);
  adds = refl;
  takes = takes-before (map row_part s.rows) _ _ _ (takes-before (map promise_part s.promises) _ _ _
      (takes-before (map stage_part s.stages) _ _ _ (first_takes file_part (is_file file) s.files)));
  order = in_order _ _ refl;
}
