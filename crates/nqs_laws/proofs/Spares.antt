-- A change makes no row appear but a submitted or an accepted one, and spares a row that is on its
-- way.
use Rattle.std.proofs.Common.{◌≡◌, ℕ, ◌+◌, ◌⊎◌, inl, inr, Bool, true, false, not, ◌&&◌, ◌||◌, nat_lt, List, [], ◌∷◌, Option, None, Some, true≢false, refl, sym}
use Rattle.std.proofs.Common.{ap, ◌∙◌, if◌then◌else◌}
use Rattle.std.proofs.lemmas.Bool.{and_parts, false_from_ne_true}
use Rattle.std.proofs.lemmas.Option.{same_Some}
use Rattle.std.specs.Option.{option_map}
use Rattle.nqs_base.specs.Same.{name_eq}
use Rattle.nqs_types.specs.Ids.{id_eq, id_exact}
use Rattle.nqs_state.specs.State.{Plain}
use Rattle.nqs_state.specs.Keys.{is_row}
use Rattle.nqs_types.specs.declared.ids.PeerNumber.{PeerNumber}
use Rattle.nqs_types.specs.declared.ids.Named.{Named}
use Rattle.nqs_types.specs.declared.request.RowState.{RowState}
use Rattle.nqs_types.specs.declared.request.RowState.TheVariants.{Queued, Routing, Running}
use Rattle.nqs_types.specs.declared.request.Hand.{Hand}
use Rattle.nqs_types.specs.declared.request.Promise.{Promise}
use Rattle.nqs_types.specs.declared.edit.ConfEdit.TheVariants.{PurgeQueue}
use Rattle.nqs_types.specs.declared.edit.RowsEdit.TheVariants.{AbortQueue, HoldRequest, ReleaseRequest, MoveRequest, ModifyRequest}
use Rattle.nqs_types.specs.declared.edit.Edit.{Edit}
use Rattle.nqs_types.specs.declared.edit.Edit.TheVariants.{Conf, Limits as LimitsOf, Access as AccessOf, Devices as DevicesOf, Rows as RowsOf}
use Rattle.nqs_types.specs.declared.change.Change.{Change}
use Rattle.nqs_types.specs.declared.change.Change.TheVariants.{Site, Submitted, Deleted, Doomed, Started, Ended, Unlaunched, Boot, Edited, HandOpened}
use Rattle.nqs_types.specs.declared.change.Change.TheVariants.{HandCommitted, HandRefused, HandsSilent, HandDone, OldPromised, Promised, Accepted, Dropped}
use Rattle.nqs_types.specs.declared.change.Change.TheVariants.{MovedLocal}
use Rattle.nqs_types.specs.declared.change.Change.TheVariants.{RefusedLocal, HeldFar, StageGot, StageGone, FileGone}
use Rattle.nqs_state.specs.Least.{runs_now}
use Rattle.nqs_rules.specs.Tests.{passes, is_ready, is_routing, is_running, is_queued, is_unheld}
use Rattle.nqs_rules.specs.Find.{has_queue, find_row, find_hand, find_promise, find_peer, meant_request, meant_row, row_of}
use Rattle.nqs_rules.specs.Causes.{Cause}
use Rattle.nqs_rules.specs.Rows.{named_causes, idle_causes, hold_causes, release_causes, move_causes, arrivals_used, held_row, released_row, moved_row}
use Rattle.nqs_rules.specs.Rows.{with_priority}
use Rattle.nqs_rules.specs.Applied.{next_id, may_start_again, lost_row, doomed_row, started_row, routing_row, requeued_row, moved_local, local_refused}
use Rattle.nqs_rules.specs.Applied.{held_far, hand_silent}
use Rattle.nqs_rules.specs.Fits.{fits, edit_fits, row_passes, may_hop, is_next, device_fits}
use Rattle.nqs_rules.specs.Routing.{has_room_for_hand, is_within_window}
use Rattle.nqs_rules.specs.InOrder.{IsInOrder, IsConsistent, is_hold_right}
use Rattle.nqs_rules.proofs.Chains.{each}
use Rattle.nqs_rules.proofs.ConfOrder.{Allows, none_holds}
use Rattle.nqs_rules.proofs.ListFacts.{list_all-found}
use Rattle.nqs_rules.proofs.RowChanges.{routing_is}
use Rattle.nqs_rules.proofs.RowKinds.{found_row, running_unrouted, ready_unrouted}
use Rattle.nqs_rules.proofs.EditOrder.{may_move}
use Rattle.nqs_rules.specs.Picked.{PlainRow}
use Rattle.nqs_laws.proofs.After.{Request, without_at, changed_at, meant_after, edit_after, committed_after, back_row, refused_after, silent_after}
use Rattle.nqs_laws.proofs.After.{silents_after, accepted_after, submitted_row, after}

-- the request that a change brings in
abbrev pub IsNew : Change (List ℕ) → Plain → Request → Type 0
IsNew (Submitted queue job script) s x = x ≡ next_id s
IsNew (Accepted peer number) s x = (p : Promise (List ℕ)) × (find_promise peer number s ≡ Some p) × (x ≡ p.row.id)
IsNew c s x = ⊥

pub changed_none : (id : Request) (f : PlainRow → PlainRow) (x : Request) → changed_at id f x None ≡ None
changed_none id f x = by (id_eq x id)
  where
    by : (b : Bool) → (if b then option_map f None else None) ≡ None
    by true = refl
    by false = refl

without_none : (id x : Request) → without_at id x None ≡ None
without_none id x = by (id_eq x id)
  where
    by : (b : Bool) → (if◌then◌else◌ {A = Option PlainRow} b None None) ≡ None
    by true = refl
    by false = refl

meant_none : (o : Option Request) (f : PlainRow → PlainRow) (x : Request) → meant_after o f x None ≡ None
meant_none None f x = refl
meant_none (Some id) f x = changed_none id f x

edit_none : (e : Edit) (s : Plain) (x : Request) → edit_after e s x None ≡ None
edit_none (Conf (PurgeQueue q)) s x = refl
edit_none (Conf e) s x = refl
edit_none (LimitsOf e) s x = refl
edit_none (AccessOf e) s x = refl
edit_none (DevicesOf e) s x = refl
edit_none (RowsOf (AbortQueue q)) s x = refl
edit_none (RowsOf (HoldRequest id)) s x = meant_none (meant_request id s) held_row x
edit_none (RowsOf (ReleaseRequest id)) s x = meant_none (meant_request id s) released_row x
edit_none (RowsOf (MoveRequest id q)) s x = meant_none (meant_request id s) (moved_row q (s.arrivals + 1)) x
edit_none (RowsOf (ModifyRequest id n)) s x = meant_none (meant_request id s) (with_priority n) x

silents_none : (until : ℕ) (ks : List PeerNumber) (s : Plain) (x : Request) → silents_after until ks s x None ≡ None
silents_none until [] s x = refl
silents_none until (k ∷ ks) s x = of (find_hand k.peer k.number s) (silents_none until ks)
  where
    of : (o : Option Hand) → ((t : Plain) (y : Request) → silents_after until ks t y None ≡ None)
        → silents_after until ks (hand_silent until k o s) x (silent_after o x None) ≡ None
    of None rest = rest s x
    of (Some y) rest = ap (silents_after until ks (hand_silent until k (Some y) s) x) (changed_none y.id requeued_row x)
        ∙ rest (hand_silent until k (Some y) s) x

-- no other row appears
pub grows : (c : Change (List ℕ)) (s : Plain) (x : Request) → (after c s x None ≡ None) ⊎ IsNew c s x
grows (Submitted queue job script) s x = by (id_eq x (next_id s)) refl
  where
    by : (b : Bool) → id_eq x (next_id s) ≡ b → ((if b then Some (submitted_row queue job script s) else None) ≡ None) ⊎ (x ≡ next_id s)
    by true e = inr (id_exact x (next_id s) e)
    by false e = inl refl
grows (Deleted id) s x = inl (without_none id x)
grows (Doomed id) s x = inl (changed_none id doomed_row x)
grows (Started id device) s x = inl (changed_none id (started_row device) x)
grows (Ended id parts) s x = inl (without_none id x)
grows (Unlaunched id) s x = inl (without_none id x)
grows Boot s x = inl refl
grows (Edited e) s x = inl (edit_none e s x)
grows (HandOpened peer number id queue since) s x = inl (changed_none id routing_row x)
grows (HandCommitted peer number) s x = inl (of (find_hand peer number s))
  where
    of : (o : Option Hand) → committed_after o x None ≡ None
    of None = refl
    of (Some y) = without_none y.id x
grows (HandRefused peer number refusal) s x = inl (of (find_hand peer number s))
  where
    of : (o : Option Hand) → refused_after o refusal s x None ≡ None
    of None = refl
    of (Some y) = changed_none y.id (back_row y refusal s) x
grows (HandsSilent until ks) s x = inl (silents_none until ks s x)
grows (Accepted peer number) s x = of (find_promise peer number s) refl
  where
    of : (o : Option (Promise (List ℕ))) → find_promise peer number s ≡ o
        → (accepted_after o x None ≡ None) ⊎ ((p : Promise (List ℕ)) × (find_promise peer number s ≡ Some p) × (x ≡ p.row.id))
    of None e = inl refl
    of (Some p) e = by (id_eq x p.row.id) refl
      where
        by : (b : Bool) → id_eq x p.row.id ≡ b → ((if b then Some (requeued_row p.row) else None) ≡ None)
            ⊎ ((q : Promise (List ℕ)) × (find_promise peer number s ≡ Some q) × (x ≡ q.row.id))
        by true f = inr (p, e, id_exact x p.row.id f)
        by false f = inl refl
grows (MovedLocal id queue) s x = inl (changed_none id (moved_local queue (s.arrivals + 1)) x)
grows (RefusedLocal id queue refusal) s x = inl (changed_none id (local_refused queue refusal s) x)
grows (HeldFar id) s x = inl (changed_none id held_far x)
grows (Site me site) s x = inl refl
grows (HandDone peer number) s x = inl refl
grows (OldPromised peer number queue k script) s x = inl refl
grows (Promised peer number low queue k script) s x = inl refl
grows (Dropped peer number) s x = inl refl
grows (StageGot peer number path bytes) s x = inl refl
grows (StageGone peer number) s x = inl refl
grows (FileGone file) s x = inl refl

-- a change that looks at no offer
abbrev pub IsPlain : Change (List ℕ) → Type 0
IsPlain (Deleted id) = ⊥
IsPlain (HandCommitted peer number) = ⊥
IsPlain (HandRefused peer number refusal) = ⊥
IsPlain (HandsSilent until ks) = ⊥
IsPlain c = Unit {0}

-- the row that an edit names, if nothing keeps it from that
pub record IsNamed (s : Plain) (id : Named) (causes : PlainRow → List Cause) : Type 0 where
  pub request : Request
  pub row : PlainRow
  pub meant : meant_request id s ≡ Some request
  pub found : find_row request s ≡ Some row
  pub allows : Allows (causes row)

pub named : (s : Plain) (id : Named) (causes : PlainRow → List Cause) → Allows (named_causes id causes (meant_row id s)) → IsNamed s id causes
named s id causes fit = of (meant_request id s) refl fit
  where
    at : (rid : Request) → meant_request id s ≡ Some rid → (o : Option PlainRow) → find_row rid s ≡ o → Allows (named_causes id causes o) → IsNamed s id causes
    at rid meant None found fit = absurd (true≢false (sym fit))
    at rid meant (Some r) found fit = record { request = rid; row = r; meant = meant; found = found; allows = fit }

    of : (o : Option Request) → meant_request id s ≡ o → Allows (named_causes id causes (row_of o s)) → IsNamed s id causes
    of None meant fit = absurd (true≢false (sym fit))
    of (Some rid) meant fit = at rid meant (find_row rid s) refl fit

module _ (s : Plain) (h : IsInOrder s) (calm : IsConsistent s) (x : Request) (r : PlainRow) (found : find_row x s ≡ Some r)
    (routes : is_routing r.state ≡ true) where
  -- a request whose row isn't on its way is another one
  pub differs : (id : Request) (q : PlainRow) → find_row id s ≡ Some q → is_routing q.state ≡ false → id_eq x id ≡ false
  differs id q there idle = false_from_ne_true (id_eq x id) (λ e.
      let same : r ≡ q = same_Some r q (sym found ∙ (ap (λ i. find_row i s) (id_exact x id e) ∙ there)) in
      true≢false (sym routes ∙ (ap (λ (y : PlainRow). is_routing y.state) same ∙ idle)))

  passes_other : (test : PlainRow → Bool) (id : Request) → ((q : PlainRow) → test q ≡ true → is_routing q.state ≡ false) → row_passes test id s ≡ true
      → id_eq x id ≡ false
  passes_other test id idle fit = let q = found_row test id s fit in differs id q.0 q.1 (idle q.0 q.2)

  changed_other : (id : Request) (f : PlainRow → PlainRow) → id_eq x id ≡ false → changed_at id f x (Some r) ≡ Some r
  changed_other id f e = ap (λ b. if b then Some (f r) else Some r) e

  without_other : (id : Request) → id_eq x id ≡ false → without_at id x (Some r) ≡ Some r
  without_other id e = ap (λ b. if b then None else Some r) e

  meant_other : (id : Named) (causes : PlainRow → List Cause) (f : PlainRow → PlainRow)
      → ((q : PlainRow) (rid : Request) → find_row rid s ≡ Some q → Allows (causes q) → is_routing q.state ≡ false)
      → Allows (named_causes id causes (meant_row id s)) → meant_after (meant_request id s) f x (Some r) ≡ Some r
  meant_other id causes f idle fit =
      let k = named s id causes fit in
      ap (λ o. meant_after o f x (Some r)) k.meant ∙ changed_other k.request f (differs k.request k.row k.found (idle k.row k.request k.found k.allows))

  held_idle : (q : PlainRow) (rid : Request) → find_row rid s ≡ Some q → is_unheld q.hold ≡ false → is_routing q.state ≡ false
  held_idle q rid there held = by q.state (list_all-found is_hold_right (is_row rid) s.rows q calm.held there)
    where
      by : (st : RowState) → (is_queued st || is_unheld q.hold) ≡ true → is_routing st ≡ false
      by Queued k = refl
      by Routing k = absurd (true≢false (sym k ∙ held))
      by Running k = refl

  edit_spares : (e : Edit) → edit_fits e s ≡ true → edit_after e s x (Some r) ≡ Some r
  edit_spares (Conf (PurgeQueue q)) fit = ap (λ b. if not b then Some r else None) (ap (λ b. b && name_eq q r.queue) (ap is_queued (routing_is r.state routes)))
  edit_spares (Conf e) fit = refl
  edit_spares (LimitsOf e) fit = refl
  edit_spares (AccessOf e) fit = refl
  edit_spares (DevicesOf e) fit = refl
  edit_spares (RowsOf (AbortQueue q)) fit = ap (λ b. Some (if b && name_eq q r.queue then record r { doomed = true } else r))
      (ap is_running (routing_is r.state routes))
  edit_spares (RowsOf (HoldRequest id)) fit = meant_other id (hold_causes id) held_row (λ q rid there allows. (none_holds (hold_causes id q) allows).0) fit
  edit_spares (RowsOf (ReleaseRequest id)) fit = meant_other id (release_causes id) released_row
      (λ q rid there allows. held_idle q rid there (none_holds (release_causes id q) allows).0) fit
  edit_spares (RowsOf (MoveRequest id q)) fit = meant_other id (move_causes id q s) (moved_row q (s.arrivals + 1))
      (λ y rid there allows. ap is_routing (may_move s id q y allows).1) fit
  edit_spares (RowsOf (ModifyRequest id n)) fit = meant_other id (idle_causes id) (with_priority n)
      (λ q rid there allows. (none_holds (idle_causes id q) allows).0) fit

  -- a row on its way stays
  pub spares : (c : Change (List ℕ)) → fits c s ≡ true → IsPlain c → after c s x (Some r) ≡ Some r
  spares (Site me site) fit plain = refl
  spares (Submitted queue job script) fit plain = refl
  spares (Deleted id) fit plain = absurd plain
  spares (Doomed id) fit plain = changed_other id doomed_row (passes_other runs_now id running_unrouted fit)
  spares (Started id device) fit plain = changed_other id (started_row device)
      (passes_other is_ready id ready_unrouted (and_parts (row_passes is_ready id s) (device_fits device s) fit).0)
  spares (Ended id parts) fit plain = without_other id (passes_other runs_now id running_unrouted fit)
  spares (Unlaunched id) fit plain = without_other id (passes_other runs_now id running_unrouted fit)
  spares Boot fit plain = ap (λ b. if b then (if may_start_again r then Some (lost_row r) else None) else Some r) (ap is_running (routing_is r.state routes))
  spares (Edited e) fit plain = edit_spares e fit
  spares (HandOpened peer number id queue since) fit plain =
      changed_other id routing_row (passes_other may_hop id (λ q k. ready_unrouted q (and_parts (is_ready q) (nat_lt q.hops 32) k).0)
      (each (row_passes (may_hop {E = List ℕ}) id s) (passes (is_next number) (find_peer peer s) ∷ has_room_for_hand peer s
      ∷ passes (is_within_window peer s) (find_peer peer s) ∷ []) fit).0)
  spares (HandCommitted peer number) fit plain = absurd plain
  spares (HandRefused peer number refusal) fit plain = absurd plain
  spares (HandsSilent until ks) fit plain = absurd plain
  spares (HandDone peer number) fit plain = refl
  spares (OldPromised peer number queue k script) fit plain = refl
  spares (Promised peer number low queue k script) fit plain = refl
  spares (Accepted peer number) fit plain = of (find_promise peer number s)
    where
      of : (o : Option (Promise (List ℕ))) → accepted_after o x (Some r) ≡ Some r
      of None = refl
      of (Some p) = refl
  spares (Dropped peer number) fit plain = refl
  spares (MovedLocal id queue) fit plain =
      changed_other id (moved_local queue (s.arrivals + 1)) (passes_other may_hop id (λ q k. ready_unrouted q (and_parts (is_ready q) (nat_lt q.hops 32) k).0)
      (each (row_passes (may_hop {E = List ℕ}) id s) (has_queue queue s ∷ not (arrivals_used s) ∷ []) fit).0)
  spares (RefusedLocal id queue refusal) fit plain = changed_other id (local_refused queue refusal s) (passes_other is_ready id ready_unrouted fit)
  spares (HeldFar id) fit plain = changed_other id held_far (passes_other is_ready id ready_unrouted fit)
  spares (StageGot peer number path bytes) fit plain = refl
  spares (StageGone peer number) fit plain = refl
  spares (FileGone file) fit plain = refl
