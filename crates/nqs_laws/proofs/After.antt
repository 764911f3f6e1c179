-- The row of a request after a change, from the row before it.
use Rattle.std.proofs.Common.{◌≡◌, ℕ, ◌+◌, Bool, true, false, cond, not, ◌&&◌, ◌||◌, List, [], ◌∷◌, ◌++◌, map, find, Option, None, Some, true≢false, refl, sym}
use Rattle.std.proofs.Common.{ap, ◌∙◌, if◌then◌else◌}
use Rattle.std.proofs.lemmas.Option.{none-some}
use Rattle.std.specs.List.{list_any}
use Rattle.std.specs.Option.{option_map, option_and_then, IfSome, option_or}
use Rattle.nqs_base.specs.Same.{name_eq}
use Rattle.nqs_types.specs.Ids.{id_eq, id_exact}
use Rattle.nqs_state.specs.State.{Plain}
use Rattle.nqs_base_tables.specs.Table.{change_first, without_first}
use Rattle.nqs_base_tables.proofs.TableLemmas.{without_first-none, change_first-none}
use Rattle.nqs_state.specs.Keys.{is_row}
use Rattle.nqs_types.specs.declared.ids.PeerNumber.{PeerNumber}
use Rattle.nqs_types.specs.declared.ids.RequestId.{RequestId}
use Rattle.nqs_types.specs.declared.request.Job.{Job}
use Rattle.nqs_types.specs.declared.request.Hand.{Hand}
use Rattle.nqs_types.specs.declared.request.Promise.{Promise}
use Rattle.nqs_types.specs.declared.edit.ConfEdit.{ConfEdit}
use Rattle.nqs_types.specs.declared.edit.ConfEdit.TheVariants.{PurgeQueue}
use Rattle.nqs_types.specs.declared.edit.LimitsEdit.{LimitsEdit}
use Rattle.nqs_types.specs.declared.edit.LimitsEdit.TheVariants.{SetGlobalLimit}
use Rattle.nqs_types.specs.declared.edit.AccessEdit.{AccessEdit}
use Rattle.nqs_types.specs.declared.edit.AccessEdit.TheVariants.{AddManager}
use Rattle.nqs_types.specs.declared.edit.DevicesEdit.{DevicesEdit}
use Rattle.nqs_types.specs.declared.edit.DevicesEdit.TheVariants.{DeleteDevice}
use Rattle.nqs_types.specs.declared.edit.RowsEdit.{RowsEdit}
use Rattle.nqs_types.specs.declared.edit.RowsEdit.TheVariants.{AbortQueue, HoldRequest, ReleaseRequest, MoveRequest, ModifyRequest}
use Rattle.nqs_types.specs.declared.edit.Edit.{Edit}
use Rattle.nqs_types.specs.declared.edit.Edit.TheVariants.{Conf, Limits as LimitsOf, Access as AccessOf, Devices as DevicesOf, Rows as RowsOf}
use Rattle.nqs_types.specs.declared.change.Change.{Change}
use Rattle.nqs_types.specs.declared.change.Change.TheVariants.{Site, Submitted, Deleted, Doomed, Started, Ended, Unlaunched, Boot, Edited, HandOpened}
use Rattle.nqs_types.specs.declared.change.Change.TheVariants.{HandCommitted, HandRefused, HandsSilent, HandDone, OldPromised, Promised, Accepted, Dropped}
use Rattle.nqs_types.specs.declared.change.Change.TheVariants.{MovedLocal}
use Rattle.nqs_types.specs.declared.change.Change.TheVariants.{RefusedLocal, HeldFar, StageGot, StageGone, FileGone}
use Rattle.nqs_state.proofs.LeastLemmas.{found_id}
use Rattle.nqs_rules.specs.Tests.{is_running}
use Rattle.nqs_rules.specs.Find.{peer_number, has_row, find_row, find_hand, find_promise, meant_request}
use Rattle.nqs_rules.specs.Edits.{drop_row, change_peer}
use Rattle.nqs_rules.specs.Conf.{conf_applied, is_queued_in}
use Rattle.nqs_rules.specs.Limits.{limits_applied}
use Rattle.nqs_rules.specs.Devices.{devices_applied}
use Rattle.nqs_rules.specs.Rows.{rows_applied, change_meant, next_arrival, doomed_in, held_row, released_row, moved_row, with_priority}
use Rattle.nqs_rules.specs.Routing.{refusal_noted, dests_for}
use Rattle.nqs_rules.specs.Applied.{applied, edit_applied, access_applied, new_row, first_carried, next_id, may_start_again, lost_row, booted_row, doomed_row}
use Rattle.nqs_rules.specs.Applied.{started_row, routing_row, requeued_row, moved_local, local_refused, held_far, hand_committed, hand_refused, hand_silent}
use Rattle.nqs_rules.specs.Applied.{hands_silent, drop_promise, accepted}
use Rattle.nqs_rules.specs.Fits.{fits}
use Rattle.nqs_rules.specs.InOrder.{IsInOrder, are_distinct}
use Rattle.nqs_rules.proofs.RowFacts.{same_id}
use Rattle.nqs_rules.proofs.RowChanges.{noted_kept}
use Rattle.nqs_rules.proofs.StateFacts.{keys_are}
use Rattle.nqs_rules.proofs.OutputsKept.{file_keeps, outputs_keep}
use Rattle.nqs_rules.specs.Picked.{PlainRow}
use Rattle.nqs_laws.proofs.Found.{only, find-added, find-without, find-changed, find-mapped, find-filtered}
use Rattle.nqs_laws.proofs.Found.{find-filter_mapped}

abbrev pub Request : Type 0
Request = RequestId

-- what changes of one row make of what is found

abbrev pub without_at : Request → Request → Option PlainRow → Option PlainRow
without_at id x o = if id_eq x id then None else o

abbrev pub changed_at : Request → (PlainRow → PlainRow) → Request → Option PlainRow → Option PlainRow
changed_at id f x o = if id_eq x id then option_map f o else o

abbrev pub meant_after : Option Request → (PlainRow → PlainRow) → Request → Option PlainRow → Option PlainRow
meant_after None f x o = o
meant_after (Some id) f x o = changed_at id f x o

abbrev pub conf_after : ConfEdit → Option PlainRow → Option PlainRow
conf_after (PurgeQueue q) o = only (λ r. not (is_queued_in q r)) o
conf_after e o = o

abbrev pub rows_after : RowsEdit → Plain → Request → Option PlainRow → Option PlainRow
rows_after (AbortQueue q) s x o = option_map (doomed_in q) o
rows_after (HoldRequest id) s x o = meant_after (meant_request id s) held_row x o
rows_after (ReleaseRequest id) s x o = meant_after (meant_request id s) released_row x o
rows_after (MoveRequest id q) s x o = meant_after (meant_request id s) (moved_row q (s.arrivals + 1)) x o
rows_after (ModifyRequest id n) s x o = meant_after (meant_request id s) (with_priority n) x o

abbrev pub edit_after : Edit → Plain → Request → Option PlainRow → Option PlainRow
edit_after (Conf e) s x o = conf_after e o
edit_after (RowsOf e) s x o = rows_after e s x o
edit_after e s x o = o

abbrev pub committed_after : Option Hand → Request → Option PlainRow → Option PlainRow
committed_after None x o = o
committed_after (Some y) x o = without_at y.id x o

-- the row of a refused offer
abbrev pub back_row : Hand → ℕ → Plain → PlainRow → PlainRow
back_row y refusal s r = refusal_noted (dests_for r s) (record { queue = y.queue; host = y.peer }) refusal (requeued_row r)

abbrev pub refused_after : Option Hand → ℕ → Plain → Request → Option PlainRow → Option PlainRow
refused_after None refusal s x o = o
refused_after (Some y) refusal s x o = changed_at y.id (back_row y refusal s) x o

abbrev pub silent_after : Option Hand → Request → Option PlainRow → Option PlainRow
silent_after None x o = o
silent_after (Some y) x o = changed_at y.id requeued_row x o

abbrev pub silents_after : ℕ → List PeerNumber → Plain → Request → Option PlainRow → Option PlainRow
silents_after until [] s x o = o
silents_after until (k ∷ ks) s x o = silents_after until ks (hand_silent until k (find_hand k.peer k.number s) s) x
    (silent_after (find_hand k.peer k.number s) x o)

abbrev pub accepted_after : Option (Promise (List ℕ)) → Request → Option PlainRow → Option PlainRow
accepted_after None x o = o
accepted_after (Some p) x o = option_or o (if id_eq x p.row.id then Some (requeued_row p.row) else None)

abbrev pub submitted_row : List ℕ → Job → List ℕ → Plain → PlainRow
submitted_row queue job script s = new_row (first_carried (next_id s) job) queue (s.arrivals + 1) script

abbrev pub after : Change (List ℕ) → Plain → Request → Option PlainRow → Option PlainRow
after (Submitted queue job script) s x o = option_or o (if id_eq x (next_id s) then Some (submitted_row queue job script s) else None)
after (Deleted id) s x o = without_at id x o
after (Doomed id) s x o = changed_at id doomed_row x o
after (Started id device) s x o = changed_at id (started_row device) x o
after (Ended id parts) s x o = without_at id x o
after (Unlaunched id) s x o = without_at id x o
after Boot s x o = option_and_then booted_row o
after (Edited e) s x o = edit_after e s x o
after (HandOpened peer number id queue since) s x o = changed_at id routing_row x o
after (HandCommitted peer number) s x o = committed_after (find_hand peer number s) x o
after (HandRefused peer number refusal) s x o = refused_after (find_hand peer number s) refusal s x o
after (HandsSilent until ks) s x o = silents_after until ks s x o
after (Accepted peer number) s x o = accepted_after (find_promise peer number s) x o
after (MovedLocal id queue) s x o = changed_at id (moved_local queue (s.arrivals + 1)) x o
after (RefusedLocal id queue refusal) s x o = changed_at id (local_refused queue refusal s) x o
after (HeldFar id) s x o = changed_at id held_far x o
after c s x o = o

abbrev IsIn : List PlainRow → Type 0
IsIn rows = are_distinct id_eq (map (λ (r : PlainRow). r.id) rows) ≡ true

without_found : (id x : Request) (rows : List PlainRow) → IsIn rows → find (is_row x) (without_first (is_row id) rows) ≡ without_at id x (find (is_row x) rows)
without_found id x rows d = of (find (is_row id) rows) refl
  where
    none : find (is_row id) rows ≡ None → (b : Bool) → id_eq x id ≡ b → find (is_row x) rows ≡ (if b then None else find (is_row x) rows)
    none e true same = ap (λ i. find (is_row i) rows) (id_exact x id same) ∙ e
    none e false same = refl

    of : (o : Option PlainRow) → find (is_row id) rows ≡ o → find (is_row x) (without_first (is_row id) rows) ≡ without_at id x (find (is_row x) rows)
    of None e = ap (find (is_row x)) (without_first-none (is_row id) rows e) ∙ none e (id_eq x id) refl
    of (Some r) e = find-without id_eq (λ (r : PlainRow). r.id) id_exact same_id (is_row id) r x rows e d
        ∙ ap (λ i. if id_eq x i then None else find (is_row x) rows) (sym (found_id id rows r e))

changed_found : (id : Request) (f : PlainRow → PlainRow) → ((r : PlainRow) → (f r).id ≡ r.id) → (x : Request) (rows : List PlainRow) → IsIn rows
    → find (is_row x) (change_first (is_row id) f rows) ≡ changed_at id f x (find (is_row x) rows)
changed_found id f keeps x rows d = of (find (is_row id) rows) refl
  where
    none : find (is_row id) rows ≡ None → (b : Bool) → id_eq x id ≡ b → find (is_row x) rows
        ≡ (if b then option_map f (find (is_row x) rows) else find (is_row x) rows)
    none e true same = let z : find (is_row x) rows ≡ None = ap (λ i. find (is_row i) rows) (id_exact x id same) ∙ e in z ∙ sym (ap (option_map f) z)
    none e false same = refl

    some : (r : PlainRow) → find (is_row id) rows ≡ Some r → (b : Bool) → id_eq x id ≡ b
        → (if b then Some (f r) else find (is_row x) rows) ≡ (if b then option_map f (find (is_row x) rows) else find (is_row x) rows)
    some r e true same = sym (ap (option_map f) (ap (λ i. find (is_row i) rows) (id_exact x id same) ∙ e))
    some r e false same = refl

    of : (o : Option PlainRow) → find (is_row id) rows ≡ o → find (is_row x) (change_first (is_row id) f rows) ≡ changed_at id f x (find (is_row x) rows)
    of None e = ap (find (is_row x)) (change_first-none (is_row id) f rows e) ∙ none e (id_eq x id) refl
    of (Some r) e =
        find-changed id_eq (λ (r : PlainRow). r.id) id_exact same_id f keeps (is_row id) r x rows e d
        ∙ (ap (λ i. if id_eq x i then Some (f r) else find (is_row x) rows) (sym (found_id id rows r e)) ∙ some r e (id_eq x id) refl)

added_found : (r : PlainRow) (x : Request) (rows : List PlainRow) → find (is_row x) (rows ++ r ∷ [])
    ≡ option_or (find (is_row x) rows) (if id_eq x r.id then Some r else None)
added_found r x rows = find-added (is_row x) rows r

pub noted_id : (dests : List _) (dest : _) (refusal : ℕ) (r : PlainRow) → (refusal_noted dests dest refusal r).id ≡ r.id
noted_id dests dest refusal r = noted_kept (λ q. q.id) (λ q l. refl) (λ q. refl) dests dest refusal r

doomed_id : (q : List ℕ) (r : PlainRow) → (doomed_in q r).id ≡ r.id
doomed_id q r = by (is_running r.state) (name_eq q r.queue)
  where
    by : (b c : Bool) → (if b && c then record r { doomed = true } else r).id ≡ r.id
    by true true = refl
    by true false = refl
    by false c = refl

booted_id : (r : PlainRow) → IfSome (booted_row r) (λ q. q.id ≡ r.id)
booted_id r = by (is_running r.state) (may_start_again r)
  where
    by : (b c : Bool) → IfSome (if b then (if c then Some (lost_row r) else None) else Some r) (λ q. q.id ≡ r.id)
    by true true = refl
    by true false = tt
    by false c = refl

module _ (x : Request) where
  conf_found : (e : ConfEdit) (s : Plain) → IsIn s.rows → find_row x (conf_applied e s) ≡ conf_after e (find_row x s)
  conf_found (PurgeQueue q) s d = find-filtered id_eq (λ (r : PlainRow). r.id) id_exact same_id (λ r. not (is_queued_in q r)) x s.rows d
  conf_found e s d = refl

  limits_found : (e : LimitsEdit) (s : Plain) → find_row x (limits_applied e s) ≡ find_row x s
  limits_found (SetGlobalLimit n) s = refl
  limits_found e s = refl

  access_found : (e : AccessEdit) (s : Plain) → find_row x (access_applied e s) ≡ find_row x s
  access_found (AddManager user) s = refl
  access_found e s = refl

  devices_found : (e : DevicesEdit) (s : Plain) → find_row x (devices_applied e s) ≡ find_row x s
  devices_found (DeleteDevice d) s = refl
  devices_found e s = refl

  meant_found : (o : Option Request) (f : PlainRow → PlainRow) → ((r : PlainRow) → (f r).id ≡ r.id) → (s : Plain) → IsIn s.rows
      → find_row x (change_meant o f s) ≡ meant_after o f x (find_row x s)
  meant_found None f keeps s d = refl
  meant_found (Some id) f keeps s d = changed_found id f keeps x s.rows d

  rows_found : (e : RowsEdit) (s : Plain) → IsIn s.rows → find_row x (rows_applied e s) ≡ rows_after e s x (find_row x s)
  rows_found (AbortQueue q) s d = find-mapped id_eq (λ (r : PlainRow). r.id) id_exact same_id (doomed_in q) (doomed_id q) x s.rows
  rows_found (HoldRequest id) s d = meant_found (meant_request id s) held_row (λ r. refl) s d
  rows_found (ReleaseRequest id) s d = meant_found (meant_request id s) released_row (λ r. refl) s d
  rows_found (MoveRequest id q) s d = meant_found (meant_request id s) (moved_row q (s.arrivals + 1)) (λ r. refl) (next_arrival s) d
  rows_found (ModifyRequest id n) s d = meant_found (meant_request id s) (with_priority n) (λ r. refl) s d

  edit_found : (e : Edit) (s : Plain) → IsIn s.rows → find_row x (edit_applied e s) ≡ edit_after e s x (find_row x s)
  edit_found (Conf e) s d = conf_found e s d
  edit_found (LimitsOf e) s d = limits_found e s
  edit_found (AccessOf e) s d = access_found e s
  edit_found (DevicesOf e) s d = devices_found e s
  edit_found (RowsOf e) s d = rows_found e s d

  committed_found : (n : PeerNumber) (o : Option Hand) (s : Plain) → IsIn s.rows → find_row x (hand_committed n o s) ≡ committed_after o x (find_row x s)
  committed_found n None s d = refl
  committed_found n (Some y) s d = without_found y.id x s.rows d

  refused_found : (n : PeerNumber) (refusal : ℕ) (o : Option Hand) (s : Plain) → IsIn s.rows
      → find_row x (hand_refused n refusal o s) ≡ refused_after o refusal s x (find_row x s)
  refused_found n refusal None s d = refl
  refused_found n refusal (Some y) s d = changed_found y.id (back_row y refusal s)
      (λ r. noted_id (dests_for r s) (record { queue = y.queue; host = y.peer }) refusal (requeued_row r)) x s.rows d

  pub silent_found : (until : ℕ) (n : PeerNumber) (o : Option Hand) (s : Plain) → IsIn s.rows
      → find_row x (hand_silent until n o s) ≡ silent_after o x (find_row x s)
  silent_found until n None s d = refl
  silent_found until n (Some y) s d = changed_found y.id requeued_row (λ r. refl) x s.rows d

  silent_in : (until : ℕ) (n : PeerNumber) (o : Option Hand) (s : Plain) → IsIn s.rows → IsIn (hand_silent until n o s).rows
  silent_in until n None s d = d
  silent_in until n (Some y) s d = ap (are_distinct id_eq) (kept s.rows) ∙ d
    where
      kept : (rows : List PlainRow) → map (λ (r : PlainRow). r.id) (change_first (is_row y.id) requeued_row rows) ≡ map (λ (r : PlainRow). r.id) rows
      kept [] = refl
      kept (r ∷ rows) = by (id_eq y.id r.id) (kept rows)
        where
          by : (b : Bool) → map (λ (q : PlainRow). q.id) (change_first (is_row y.id) requeued_row rows) ≡ map (λ (q : PlainRow). q.id) rows
              → map (λ (q : PlainRow). q.id) (if b then requeued_row r ∷ rows else r ∷ change_first (is_row y.id) requeued_row rows)
              ≡ r.id ∷ map (λ (q : PlainRow). q.id) rows
          by true rest = refl
          by false rest = ap (λ l. r.id ∷ l) rest

  silents_found : (until : ℕ) (ks : List PeerNumber) (s : Plain) → IsIn s.rows
      → find_row x (hands_silent until ks s) ≡ silents_after until ks s x (find_row x s)
  silents_found until [] s d = refl
  silents_found until (k ∷ ks) s d =
      let o = find_hand k.peer k.number s in
      let t = hand_silent until k o s in
      silents_found until ks t (silent_in until k o s d) ∙ ap (silents_after until ks t x) (silent_found until k o s d)

  accepted_found : (n : PeerNumber) (o : Option (Promise (List ℕ))) (s : Plain) → find_row x (accepted n o s) ≡ accepted_after o x (find_row x s)
  accepted_found n None s = refl
  accepted_found n (Some p) s = by (has_row p.row.id s) refl
    where
      there : has_row p.row.id s ≡ true → (b : Bool) → id_eq x p.row.id ≡ b
          → find (is_row x) s.rows ≡ option_or (find (is_row x) s.rows) (if b then Some (requeued_row p.row) else None)
      there has true same = some (find (is_row x) s.rows) refl
        where
          none : find (is_row x) s.rows ≡ None → ⊥
          none e = missing s.rows (ap (λ i. list_any (is_row i) s.rows) (id_exact x p.row.id same) ∙ has) e
            where
              missing : (rows : List PlainRow) → list_any (is_row x) rows ≡ true → find (is_row x) rows ≡ None → ⊥
              missing [] h e = true≢false (sym h)
              missing (r ∷ rows) h e = by (id_eq x r.id) h e (missing rows)
                where
                  by : (b : Bool) → (b || list_any (is_row x) rows) ≡ true → cond b (Some r) (find (is_row x) rows) ≡ None
                      → (list_any (is_row x) rows ≡ true → find (is_row x) rows ≡ None → ⊥) → ⊥
                  by true h e rest = none-some r (sym e)
                  by false h e rest = rest h e

          some : (o : Option PlainRow) → find (is_row x) s.rows ≡ o → o ≡ option_or o (Some (requeued_row p.row))
          some None e = absurd (none e)
          some (Some r) e = refl
      there has false same = some (find (is_row x) s.rows)
        where
          some : (o : Option PlainRow) → o ≡ option_or o None
          some None = refl
          some (Some r) = refl

      by : (b : Bool) → has_row p.row.id s ≡ b → find (is_row x) (if b then drop_promise n s else
          record (drop_promise n s) { rows = s.rows ++ requeued_row p.row ∷ [] }).rows ≡ accepted_after (Some p) x (find_row x s)
      by true e = there e (id_eq x p.row.id) refl
      by false e = added_found (requeued_row p.row) x s.rows

  -- the row after a change
  pub row_after : (c : Change (List ℕ)) (s : Plain) → IsInOrder s → fits c s ≡ true → find_row x (applied c s) ≡ after c s x (find_row x s)
  row_after c s h fit = of c fit
    where
      d : IsIn s.rows
      d = (keys_are s h.keys).rows

      of : (c : Change (List ℕ)) → fits c s ≡ true → find_row x (applied c s) ≡ after c s x (find_row x s)
      of (Site me site) fit = absurd (true≢false (sym fit))
      of (Submitted queue job script) fit = added_found (submitted_row queue job script s) x s.rows
      of (Deleted id) fit = without_found id x s.rows d
      of (Doomed id) fit = changed_found id doomed_row (λ r. refl) x s.rows d
      of (Started id device) fit = changed_found id (started_row device) (λ r. refl) x s.rows d
      of (Ended id parts) fit = ap (λ rows. find (is_row x) rows) (outputs_keep (λ u. u.rows) (λ u fs n. refl) (λ u ts ps. refl) id parts (drop_row id s))
          ∙ without_found id x s.rows d
      of (Unlaunched id) fit = without_found id x s.rows d
      of Boot fit = find-filter_mapped id_eq (λ (r : PlainRow). r.id) id_exact same_id booted_row booted_id x s.rows d
      of (Edited e) fit = edit_found e s d
      of (HandOpened peer number id queue since) fit = changed_found id routing_row (λ r. refl) x s.rows d
      of (HandCommitted peer number) fit = committed_found (peer_number peer number) (find_hand peer number s) s d
      of (HandRefused peer number refusal) fit = refused_found (peer_number peer number) refusal (find_hand peer number s) s d
      of (HandsSilent until ks) fit = silents_found until ks s d
      of (HandDone peer number) fit = refl
      of (OldPromised peer number queue k script) fit = refl
      of (Promised peer number low queue k script) fit = refl
      of (Accepted peer number) fit = accepted_found (peer_number peer number) (find_promise peer number s) s
      of (Dropped peer number) fit = refl
      of (MovedLocal id queue) fit = changed_found id (moved_local queue (s.arrivals + 1)) (λ r. refl) x s.rows d
      of (RefusedLocal id queue refusal) fit = changed_found id (local_refused queue refusal s)
          (λ r. noted_id (dests_for r s) (record { queue = queue; host = s.me }) refusal r) x s.rows d
      of (HeldFar id) fit = changed_found id held_far (λ r. refl) x s.rows d
      of (StageGot peer number path bytes) fit = ap (λ rows. find (is_row x) rows)
          (file_keeps (λ u. u.rows) (λ u fs n. refl) (λ u ts ps. refl) (record { path = path; bytes = bytes })
          (change_peer peer (λ p. record p { stage_got = number }) s))
      of (StageGone peer number) fit = refl
      of (FileGone file) fit = refl
