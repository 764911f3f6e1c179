-- Each change of a row is one step of its request's entry, of a kind that goes with the change.
use Rattle.std.proofs.Common.{◌≡◌, ℕ, ◌+◌, ◌⊎◌, inl, inr, Bool, true, false, not, ◌&&◌, ◌||◌, nat_lt, List, [], ◌∷◌, find, Option, None, Some, true≢false, refl}
use Rattle.std.proofs.Common.{sym, ap, subst, ◌∙◌, arith, if◌then◌else◌}
use Rattle.std.proofs.lemmas.Bool.{and_parts, and_from, or_left, or_right, not-true, not-false, ltb-true}
use Rattle.std.proofs.lemmas.Bool.Decides.{nat_tests}
use Rattle.std.proofs.lemmas.Option.{same_Some}
use Rattle.std.specs.Option.{option_map}
use Rattle.std.specs.List.{list_any, list_all}
use Rattle.nqs_base.specs.Same.{name_eq}
use Rattle.nqs_types.specs.Ids.{id_eq, id_exact, peer_number_eq, peer_number_exact, hand_key}
use Rattle.nqs_state.specs.State.{Plain}
use Rattle.nqs_base_tables.specs.Table.{without_first}
use Rattle.nqs_state.specs.Keys.{is_row, is_hand}
use Rattle.nqs_types.specs.declared.ids.HostId.{HostId}
use Rattle.nqs_types.specs.declared.ids.Dest.{Dest}
use Rattle.nqs_types.specs.declared.ids.PeerNumber.{PeerNumber}
use Rattle.nqs_types.specs.declared.ids.Named.{Named}
use Rattle.nqs_types.specs.declared.request.RowState.{RowState}
use Rattle.nqs_types.specs.declared.request.RowState.TheVariants as row_state
use Rattle.nqs_types.specs.declared.request.Hold.{Hold as Holding}
use Rattle.nqs_types.specs.declared.request.Hold.TheVariants.{No, User, System}
use Rattle.nqs_types.specs.declared.request.Hand.{Hand}
use Rattle.nqs_types.specs.declared.edit.ConfEdit.TheVariants.{PurgeQueue}
use Rattle.nqs_types.specs.declared.edit.RowsEdit.TheVariants.{AbortQueue, HoldRequest, ReleaseRequest, MoveRequest, ModifyRequest}
use Rattle.nqs_types.specs.declared.edit.Edit.{Edit}
use Rattle.nqs_types.specs.declared.edit.Edit.TheVariants.{Conf, Limits as LimitsOf, Access as AccessOf, Devices as DevicesOf, Rows as RowsOf}
use Rattle.nqs_types.specs.declared.change.Change.{Change}
use Rattle.nqs_types.specs.declared.change.Change.TheVariants.{Site, Submitted, Deleted, Doomed, Started, Ended, Unlaunched, Boot, Edited, HandOpened}
use Rattle.nqs_types.specs.declared.change.Change.TheVariants.{HandCommitted, HandRefused, HandsSilent, HandDone, OldPromised, Promised, Accepted, Dropped}
use Rattle.nqs_types.specs.declared.change.Change.TheVariants.{MovedLocal}
use Rattle.nqs_types.specs.declared.change.Change.TheVariants.{RefusedLocal, HeldFar, StageGot, StageGone, FileGone}
use Rattle.nqs_types.specs.declared.table_row.NetState.{NetState}
use Rattle.nqs_state.specs.Least.{runs_now}
use Rattle.nqs_types.specs.declared.table_row.NetState.TheVariants as net
use Rattle.nqs_rules.specs.Tests.{passes, is_ready, is_queued, is_routing, is_running, is_unheld}
use Rattle.nqs_rules.specs.Find.{peer_number, has_queue, find_row, find_hand, find_peer, meant_request}
use Rattle.nqs_rules.specs.Causes.{Cause}
use Rattle.nqs_rules.specs.Conf.{row_in, is_queued_in}
use Rattle.nqs_rules.specs.Rows.{hold_causes, release_causes, move_causes, held_row, released_row, moved_row, with_priority, arrivals_used}
use Rattle.nqs_rules.specs.Routing.{has_room_for_hand, is_within_window, held_where, all_refused, with_refusal, refusal_noted, dests_for}
use Rattle.nqs_rules.specs.Applied.{next_id, may_start_again, lost_row, booted_row, doomed_row, started_row, routing_row, requeued_row, moved_local}
use Rattle.nqs_rules.specs.Applied.{local_refused, held_far, hand_silent}
use Rattle.nqs_rules.specs.Fits.{fits, edit_fits, row_passes, is_idle, may_hop, is_next, device_fits, hand_passes, is_offered_hand}
use Rattle.nqs_rules.specs.InOrder.{IsInOrder, IsConsistent, is_hold_right}
use Rattle.nqs_rules.specs.Text.{seen_state}
use Rattle.nqs_rules.specs.Net.{row_entry}
use Rattle.nqs_rules.specs.Licence.{Kind, Submit, Delete, Doom, Hold, Release, Move, Open, Back, Route, Arrive, Start, End, Again, Gone, IsIdle, IsWaiting}
use Rattle.nqs_rules.specs.Licence.{MayStartAgain, Steps}
use Rattle.nqs_rules.proofs.Chains.{each}
use Rattle.nqs_rules.proofs.ConfOrder.{Allows, none_holds}
use Rattle.nqs_rules.proofs.ListFacts.{list_all-found, list_all-weaker}
use Rattle.nqs_rules.proofs.RowChanges.{queued_is, routing_is, running_is, idle_is, ready_queued}
use Rattle.nqs_rules.proofs.EditOrder.{may_move}
use Rattle.nqs_rules.proofs.StateFacts.{keys_are}
use Rattle.nqs_rules.proofs.RowFacts.{same_peer_number}
use Rattle.nqs_rules.proofs.HandoversOrder.{not_committed, offer_or_none, still_offered, silent_one}
use Rattle.nqs_rules.proofs.ConsistentOrder.{silent_calm_one}
use Rattle.nqs_rules.specs.Picked.{PlainRow}
use Rattle.nqs_laws.specs.Licensed.{IsHanded, IsPromised, LicensesEdit}
use Rattle.nqs_laws.proofs.Found.{find-without}
use Rattle.nqs_laws.proofs.After.{Request, without_at, changed_at, meant_after, edit_after, back_row, refused_after, silent_after, silents_after, after}
use Rattle.nqs_laws.proofs.After.{silent_found}
use Rattle.nqs_laws.proofs.Spares.{IsNamed, named}
use Rattle.nqs_laws.proofs.Views.{routing_of}
use Rattle.nqs_laws.proofs.Advance.{IsInHost}

-- the kinds of step that a change takes, and of which requests
abbrev pub Turns : Change (List ℕ) → Plain → Request → Kind → Type 0
Turns (Submitted queue job script) s x Submit = x ≡ next_id s
Turns (Deleted id) s x Delete = x ≡ id
Turns (Doomed id) s x Doom = x ≡ id
Turns (Started id device) s x Start = x ≡ id
Turns (Ended id parts) s x End = x ≡ id
Turns (Unlaunched id) s x End = x ≡ id
Turns Boot s x Again = Unit {0}
Turns Boot s x Gone = Unit {0}
Turns (Edited e) s x k = LicensesEdit e s x k
Turns (HandOpened peer number id queue since) s x Open = x ≡ id
Turns (HandCommitted peer number) s x Route = IsHanded peer number s x
Turns (HandRefused peer number refusal) s x Back = IsHanded peer number s x
Turns (HandsSilent until ks) s x Back = list_any (λ (k : PeerNumber). passes (λ y. id_eq x y.id) (find_hand k.peer k.number s)) ks ≡ true
Turns (Accepted peer number) s x Arrive = IsPromised peer number s x
Turns (MovedLocal id queue) s x Move = x ≡ id
Turns (RefusedLocal id queue refusal) s x Hold = x ≡ id
Turns (HeldFar id) s x Hold = x ≡ id
Turns c s x k = ⊥

-- what is seen of a row's state
pub seen_queued : (r : PlainRow) → r.state ≡ row_state.Queued → is_unheld r.hold ≡ true → seen_state r ≡ net.Queued
seen_queued r e k = by r.hold k
  where
    of : (hold : Holding) → is_unheld hold ≡ true → seen_state (record r { state = row_state.Queued; hold = hold }) ≡ net.Queued
    of No k = refl
    of User k = absurd (true≢false (sym k))
    of System k = absurd (true≢false (sym k))

    by : (hold : Holding) → is_unheld hold ≡ true → seen_state (record r { hold = hold }) ≡ net.Queued
    by hold k = ap (λ st. seen_state (record r { state = st; hold = hold })) e ∙ of hold k

pub seen_held : (r : PlainRow) → r.state ≡ row_state.Queued → is_unheld r.hold ≡ false → seen_state r ≡ net.Held
seen_held r e k = by r.hold k
  where
    of : (hold : Holding) → is_unheld hold ≡ false → seen_state (record r { state = row_state.Queued; hold = hold }) ≡ net.Held
    of No k = absurd (true≢false k)
    of User k = refl
    of System k = refl

    by : (hold : Holding) → is_unheld hold ≡ false → seen_state (record r { hold = hold }) ≡ net.Held
    by hold k = ap (λ st. seen_state (record r { state = st; hold = hold })) e ∙ of hold k

pub seen_routing : (r : PlainRow) → r.state ≡ row_state.Routing → seen_state r ≡ net.Routing
seen_routing r e = ap (λ st. seen_state (record r { state = st })) e

pub seen_running : (r : PlainRow) → r.state ≡ row_state.Running → seen_state r ≡ net.Running
seen_running r e = ap (λ st. seen_state (record r { state = st })) e

-- a queued row is seen queued or held
seen_waiting : (r : PlainRow) → r.state ≡ row_state.Queued → IsWaiting (seen_state r)
seen_waiting r e = by (is_unheld r.hold) refl
  where
    by : (b : Bool) → is_unheld r.hold ≡ b → IsWaiting (seen_state r)
    by true k = subst IsWaiting (sym (seen_queued r e k)) tt
    by false k = subst IsWaiting (sym (seen_held r e k)) tt

seen_idle : (r : PlainRow) → is_running r.state ≡ false → IsIdle (seen_state r)
seen_idle r k = by r.state refl k
  where
    queued : r.state ≡ row_state.Queued → (b : Bool) → is_unheld r.hold ≡ b → IsIdle (seen_state r)
    queued e true f = subst IsIdle (sym (seen_queued r e f)) tt
    queued e false f = subst IsIdle (sym (seen_held r e f)) tt

    by : (st : RowState) → r.state ≡ st → is_running st ≡ false → IsIdle (seen_state r)
    by row_state.Queued e k = queued e (is_unheld r.hold) refl
    by row_state.Routing e k = subst IsIdle (sym (seen_routing r e)) tt
    by row_state.Running e k = absurd (true≢false k)

module _ (h : HostId) where
  -- a row's entry stays, or takes a step
  abbrev pub RowStep : Change (List ℕ) → Plain → Request → PlainRow → Option PlainRow → Type 0
  RowStep c s x r o = (option_map (row_entry h) o ≡ Some (row_entry h r))
      ⊎ ((k : Kind) × Turns c s x k × Steps k (Some (row_entry h r)) (option_map (row_entry h) o))

  module _ (s : Plain) (order : IsInOrder s) (calm : IsConsistent s) (x : Request) (r : PlainRow) (found : find_row x s ≡ Some r) where
    -- a row that passes is this one
    passing : (test : PlainRow → Bool) (id : Request) → row_passes test id s ≡ true → id_eq x id ≡ true → test r ≡ true
    passing test id fit same = ap (passes test) (sym (sym (ap (λ i. find_row i s) (id_exact x id same)) ∙ found)) ∙ fit

    -- a row without a hold where it isn't queued
    unheld : is_queued r.state ≡ false → is_unheld r.hold ≡ true
    unheld k = subst (λ (b : Bool). (b || is_unheld r.hold) ≡ true) k (list_all-found is_hold_right (is_row x) s.rows r calm.held found)

    unrouted_hold : (st : RowState) → r.state ≡ st → is_queued st ≡ false → is_unheld r.hold ≡ true
    unrouted_hold st e k = unheld (ap is_queued e ∙ k)

    changed_step : (c : Change (List ℕ)) (id : Request) (f : PlainRow → PlainRow) (k : Kind)
        → (id_eq x id ≡ true → (x ≡ id → Turns c s x k) × Steps k (Some (row_entry h r)) (Some (row_entry h (f r))))
        → RowStep c s x r (changed_at id f x (Some r))
    changed_step c id f k step = by (id_eq x id) refl
      where
        by : (b : Bool) → id_eq x id ≡ b → RowStep c s x r (if b then Some (f r) else Some r)
        by true e = (let g = step e in inr (k, g.0 (id_exact x id e), g.1))
        by false e = inl refl

    without_step : (c : Change (List ℕ)) (id : Request) (k : Kind) → (id_eq x id ≡ true → (x ≡ id → Turns c s x k) × Steps k (Some (row_entry h r)) None)
        → RowStep c s x r (without_at id x (Some r))
    without_step c id k step = by (id_eq x id) refl
      where
        by : (b : Bool) → id_eq x id ≡ b → RowStep c s x r (if b then None else Some r)
        by true e = (let g = step e in inr (k, g.0 (id_exact x id e), g.1))
        by false e = inl refl

    ready_seen : is_ready r ≡ true → seen_state r ≡ net.Queued
    ready_seen k = seen_queued r (ready_queued r k) (and_parts (is_queued r.state) (is_unheld r.hold) k).1

    ended_step : (c : Change (List ℕ)) (id : Request) → (x ≡ id → Turns c s x End) → row_passes runs_now id s ≡ true
        → RowStep c s x r (without_at id x (Some r))
    ended_step c id turns fit = without_step c id End (λ e. (turns, seen_running r (running_is r.state (passing runs_now id fit e))))

    boot_step : RowStep Boot s x r (booted_row r)
    boot_step = by (is_running r.state) refl (may_start_again r) refl
      where
        parts : may_start_again r ≡ true → MayStartAgain (row_entry h r)
        parts k =
            let a = and_parts (r.job.rerun && not r.doomed) (nat_lt r.starts 65535) k in
            let b = and_parts r.job.rerun (not r.doomed) a.0 in
            (b.0, not-true r.doomed b.1, ltb-true r.starts 65535 a.1)

        joined : MayStartAgain (row_entry h r) → may_start_again r ≡ true
        joined k = grind (arith, nat_tests)

        by : (b : Bool) → is_running r.state ≡ b → (c : Bool) → may_start_again r ≡ c
            → RowStep Boot s x r (if b then (if c then Some (lost_row r) else None) else Some r)
        by true e true m =
            let running = running_is r.state e in
            let queued : seen_state (lost_row r) ≡ net.Queued = seen_queued (lost_row r) refl (unrouted_hold row_state.Running running refl) in
            inr (Again, tt, (seen_running r running, parts m, (λ j. record (row_entry h r) { state = queued j; lost = r.lost + 1 })))
        by true e false m = inr (Gone, tt, (seen_running r (running_is r.state e), λ may. true≢false (sym (joined may) ∙ m)))
        by false e c m = inl refl

    -- a request that an edit names
    meant_step : (e : Edit) (id : Named) (causes : PlainRow → List Cause) (f : PlainRow → PlainRow) (k : Kind)
        → (meant_request id s ≡ Some x → LicensesEdit e s x k) → (Allows (causes r) → Steps k (Some (row_entry h r)) (Some (row_entry h (f r))))
        → IsNamed s id causes → RowStep (Edited e) s x r (meant_after (meant_request id s) f x (Some r))
    meant_step e id causes f k turns step n = subst (λ o. RowStep (Edited e) s x r (meant_after o f x (Some r))) (sym n.meant) (by (id_eq x n.request) refl)
      where
        by : (b : Bool) → id_eq x n.request ≡ b → RowStep (Edited e) s x r (if b then Some (f r) else Some r)
        by true g =
            let same : x ≡ n.request = id_exact x n.request g in
            let is : n.row ≡ r = same_Some n.row r (sym n.found ∙ (ap (λ i. find_row i s) (sym same) ∙ found)) in
            inr (k, turns (n.meant ∙ ap Some (sym same)), step (subst (λ y. Allows (causes y)) is n.allows))
        by false g = inl refl

    held_queued : is_unheld r.hold ≡ false → r.state ≡ row_state.Queued
    held_queued k = queued_is r.state (left (is_queued r.state) (is_unheld r.hold) k (list_all-found is_hold_right (is_row x) s.rows r calm.held found))
      where
        left : (b c : Bool) → c ≡ false → (b || c) ≡ true → b ≡ true
        left true c f g = refl
        left false c f g = absurd (true≢false (sym g ∙ f))

    edit_step : (e : Edit) → edit_fits e s ≡ true → RowStep (Edited e) s x r (edit_after e s x (Some r))
    edit_step (Conf (PurgeQueue q)) fit = by (is_queued r.state) refl (name_eq q r.queue) refl
      where
        by : (a : Bool) → is_queued r.state ≡ a → (b : Bool) → name_eq q r.queue ≡ b
            → RowStep (Edited (Conf (PurgeQueue q))) s x r (if not (a && b) then Some r else None)
        by true e true f = inr (
          Delete,
          ap (passes (is_queued_in q)) found
              ∙ and_from (is_queued r.state) (name_eq q r.queue) e f,
          waits (seen_state r) (seen_waiting r (queued_is r.state e)),
        )
          where
            waits : (st : NetState) → IsWaiting st → IsIdle st
            waits net.Queued k = tt
            waits net.Held k = tt
            waits net.Routing k = absurd k
            waits net.Arriving k = absurd k
            waits net.Running k = absurd k
        by true e false f = inl refl
        by false e b f = inl refl
    edit_step (Conf e) fit = inl refl
    edit_step (LimitsOf e) fit = inl refl
    edit_step (AccessOf e) fit = inl refl
    edit_step (DevicesOf e) fit = inl refl
    edit_step (RowsOf (AbortQueue q)) fit = by (is_running r.state) refl (name_eq q r.queue) refl
      where
        by : (a : Bool) → is_running r.state ≡ a → (b : Bool) → name_eq q r.queue ≡ b
            → RowStep (Edited (RowsOf (AbortQueue q))) s x r (Some (if a && b then record r { doomed = true } else r))
        by true e true f = inr (Doom, ap (passes (row_in q)) found ∙ f, (seen_running r (running_is r.state e), refl))
        by true e false f = inl refl
        by false e b f = inl refl
    edit_step (RowsOf (HoldRequest id)) fit =
        meant_step (RowsOf (HoldRequest id)) id (hold_causes id) held_row Hold (λ m. m) (λ allows.
        let k = none_holds (hold_causes id r) allows in
        let queued = idle_is r.state k.0 k.1.0 in
        (seen_queued r queued (not-false (is_unheld r.hold) k.1.1.0), (λ j. record (row_entry h r) { state = seen_held (held_row r) queued refl j })))
        (named s id (hold_causes id) fit)
    edit_step (RowsOf (ReleaseRequest id)) fit =
        meant_step (RowsOf (ReleaseRequest id)) id (release_causes id) released_row Release (λ m. m) (λ allows.
        let held = (none_holds (release_causes id r) allows).0 in
        let queued = held_queued held in
        (seen_held r queued held, (λ j. record (row_entry h r) { state = seen_queued (released_row r) queued refl j }))) (named s id (release_causes id) fit)
    edit_step (RowsOf (MoveRequest id q)) fit =
        meant_step (RowsOf (MoveRequest id q)) id (move_causes id q s) (moved_row q (s.arrivals + 1)) Move (λ m. m)
        (λ allows. (seen_waiting r (may_move s id q r allows).1, refl)) (named s id (move_causes id q s) fit)
    edit_step (RowsOf (ModifyRequest id n)) fit = of (meant_request id s)
      where
        at : (rid : Request) (b : Bool) → RowStep (Edited (RowsOf (ModifyRequest id n))) s x r (if b then Some (with_priority n r) else Some r)
        at rid true = inl refl
        at rid false = inl refl

        of : (o : Option Request) → RowStep (Edited (RowsOf (ModifyRequest id n))) s x r (meant_after o (with_priority n) x (Some r))
        of None = inl refl
        of (Some rid) = at rid (id_eq x rid)

    -- an offer is taken back: its row waits again, and may be held
    back_to : (c : Change (List ℕ)) (dests : List Dest) (dest : Dest) (refusal : ℕ) → r.state ≡ row_state.Routing
        → Steps Back (Some (row_entry h r)) (Some (row_entry h (refusal_noted dests dest refusal (requeued_row r))))
    back_to c dests dest refusal routes = by (all_refused dests (with_refusal dests dest refusal r.refused))
      where
        by : (b : Bool) → Steps Back (Some (row_entry h r)) (Some (row_entry h
            (held_where b (record (requeued_row r) { refused = with_refusal dests dest refusal r.refused }))))
        by true = (seen_routing r routes, tt, refl)
        by false = (seen_routing r routes, seen_waiting (record (requeued_row r) { refused = with_refusal dests dest refusal r.refused }) refl, refl)

    -- a refusal is noted, and the request may be held
    noted_step : (id : Request) (queue : List ℕ) (refusal : ℕ) (dests : List Dest) (dest : Dest) → x ≡ id → is_ready r ≡ true
        → RowStep (RefusedLocal id queue refusal) s x r (Some (refusal_noted dests dest refusal r))
    noted_step id queue refusal dests dest same ready = by (all_refused dests (with_refusal dests dest refusal r.refused))
      where
        by : (b : Bool) → RowStep (RefusedLocal id queue refusal) s x r (Some (held_where b (record r { refused = with_refusal dests dest refusal r.refused })))
        by true = inr (
          Hold,
          same,
          (
            ready_seen ready,
            (λ j. record (row_entry h r)
                { state = seen_held (record r { refused = with_refusal dests dest refusal r.refused; hold = System }) (ready_queued r ready) refl j }),
          ),
        )
        by false = inl refl

  -- silent offers are taken back

  pub record IsBack (ks : List PeerNumber) (s : Plain) (x : Request) (r : PlainRow) (o : Option PlainRow) : Type 0 where
    pub routes : is_routing r.state ≡ true
    pub is : o ≡ Some (requeued_row r)
    pub one_of : list_any (λ (k : PeerNumber). passes (λ y. id_eq x y.id) (find_hand k.peer k.number s)) ks ≡ true

  -- what is found under a number among fewer hands was found among all
  still_named : (s : Plain) → IsInOrder s → (n : PeerNumber) (w : Hand) → find (is_hand n) s.hands ≡ Some w → (x : Request) (k : PeerNumber)
      → passes (λ (y : Hand). id_eq x y.id) (find (is_hand k) (without_first (is_hand n) s.hands)) ≡ true
      → passes (λ (y : Hand). id_eq x y.id) (find (is_hand k) s.hands) ≡ true
  still_named s o n w there x k h = by (peer_number_eq k (hand_key w)) (ap (passes (λ (y : Hand). id_eq x y.id))
      (sym (find-without peer_number_eq hand_key peer_number_exact same_peer_number (is_hand n) w k s.hands there (keys_are s o.keys).hands)) ∙ h)
    where
      by : (b : Bool) → passes (λ (y : Hand). id_eq x y.id) (if b then None else find (is_hand k) s.hands) ≡ true
          → passes (λ (y : Hand). id_eq x y.id) (find (is_hand k) s.hands) ≡ true
      by true h = absurd (true≢false (sym h))
      by false h = h

  any_weaker : {V : Type 0} (t u : V → Bool) (vs : List V) → ((v : V) → t v ≡ true → u v ≡ true) → list_any t vs ≡ true → list_any u vs ≡ true
  any_weaker t u [] f h = h
  any_weaker t u (v ∷ vs) f h = by (t v) refl h (any_weaker t u vs f)
    where
      by : (b : Bool) → t v ≡ b → (b || list_any t vs) ≡ true → (list_any t vs ≡ true → list_any u vs ≡ true) → (u v || list_any u vs) ≡ true
      by true e h rest = or_left (u v) (list_any u vs) (f v e)
      by false e h rest = or_right (u v) (list_any u vs) (rest h)

  silents_row : (until : ℕ) (ks : List PeerNumber) (s : Plain) → IsInOrder s → IsConsistent s
      → list_all (λ k. not_committed (find_hand k.peer k.number s)) ks ≡ true → (x : Request) (r : PlainRow) → find_row x s ≡ Some r
      → (silents_after until ks s x (Some r) ≡ Some r) ⊎ IsBack ks s x r (silents_after until ks s x (Some r))
  silents_row until [] s o calm fit x r found = inl refl
  silents_row until (n ∷ ks) s o calm fit x r found =
      let p = and_parts (not_committed (find_hand n.peer n.number s)) (list_all (λ l. not_committed (find_hand l.peer l.number s)) ks) fit in
      of (find_hand n.peer n.number s) refl p.0 p.1 (silents_row until ks)
    where
      of : (w : Option Hand) → find_hand n.peer n.number s ≡ w → not_committed w ≡ true → list_all (λ l. not_committed (find_hand l.peer l.number s)) ks ≡ true
          → ((s : Plain) → IsInOrder s → IsConsistent s → list_all (λ k. not_committed (find_hand k.peer k.number s)) ks ≡ true → (x : Request) (r : PlainRow)
          → find_row x s ≡ Some r → (silents_after until ks s x (Some r) ≡ Some r) ⊎ IsBack ks s x r (silents_after until ks s x (Some r)))
          → (silents_after until ks (hand_silent until n w s) x (silent_after w x (Some r)) ≡ Some r)
          ⊎ IsBack (n ∷ ks) s x r (silents_after until ks (hand_silent until n w s) x (silent_after w x (Some r)))
      of None e opens rest again = by (again s o calm rest x r found)
        where
          by : (silents_after until ks s x (Some r) ≡ Some r) ⊎ IsBack ks s x r (silents_after until ks s x (Some r))
              → (silents_after until ks s x (Some r) ≡ Some r) ⊎ IsBack (n ∷ ks) s x r (silents_after until ks s x (Some r))
          by (inl k) = inl k
          by (inr k) = inr (record { routes = k.routes; is = k.is; one_of = or_right (passes (λ y. id_eq x y.id) (find_hand n.peer n.number s)) _ k.one_of })
      of (Some w) e opens rest again = by (id_eq x w.id) refl
        where
          rest_of : list_all (λ (l : PeerNumber). not_committed (find_hand l.peer l.number (hand_silent until n (Some w) s))) ks ≡ true
          rest_of = list_all-weaker (λ l. not_committed (find_hand l.peer l.number s))
              (λ l. not_committed (find (is_hand l) (without_first (is_hand n) s.hands))) (λ l. still_offered s o n l) ks rest

          then_row : (q : PlainRow) → find_row x (hand_silent until n (Some w) s) ≡ Some q
              → (silents_after until ks (hand_silent until n (Some w) s) x (Some q) ≡ Some q)
              ⊎ IsBack ks (hand_silent until n (Some w) s) x q (silents_after until ks (hand_silent until n (Some w) s) x (Some q))
          then_row q f = again (hand_silent until n (Some w) s) (silent_one s o n w e opens until) (silent_calm_one s o calm n w e opens until) rest_of x q f

          row_then : find_row x (hand_silent until n (Some w) s) ≡ changed_at w.id requeued_row x (Some r)
          row_then = silent_found x until n (Some w) s (keys_are s o.keys).rows ∙ ap (changed_at w.id requeued_row x) found

          named_again : IsBack ks (hand_silent until n (Some w) s) x r (silents_after until ks (hand_silent until n (Some w) s) x (Some r))
              → IsBack (n ∷ ks) s x r (silents_after until ks (hand_silent until n (Some w) s) x (Some r))
          named_again k = record {
            routes = k.routes;
            is = k.is;
            one_of = or_right (passes (λ y. id_eq x y.id) (find_hand n.peer n.number s)) _
                (any_weaker (λ (l : PeerNumber). passes (λ (y : Hand). id_eq x y.id) (find (is_hand l) (without_first (is_hand n) s.hands)))
                (λ (l : PeerNumber). passes (λ (y : Hand). id_eq x y.id) (find (is_hand l) s.hands)) ks (still_named s o n w e x) k.one_of);
          }

          other : (silents_after until ks (hand_silent until n (Some w) s) x (Some r) ≡ Some r)
              ⊎ IsBack ks (hand_silent until n (Some w) s) x r (silents_after until ks (hand_silent until n (Some w) s) x (Some r))
              → (silents_after until ks (hand_silent until n (Some w) s) x (Some r) ≡ Some r)
              ⊎ IsBack (n ∷ ks) s x r (silents_after until ks (hand_silent until n (Some w) s) x (Some r))
          other (inl k) = inl k
          other (inr k) = inr (named_again k)

          mine : id_eq x w.id ≡ true → (silents_after until ks (hand_silent until n (Some w) s) x (Some (requeued_row r)) ≡ Some (requeued_row r))
              ⊎ IsBack ks (hand_silent until n (Some w) s) x (requeued_row r)
              (silents_after until ks (hand_silent until n (Some w) s) x (Some (requeued_row r)))
              → IsBack (n ∷ ks) s x r (silents_after until ks (hand_silent until n (Some w) s) x (Some (requeued_row r)))
          mine same (inl k) =
              let routed = routing_of s o (is_hand n) w e opens in
              let is : routed.0 ≡ r = same_Some routed.0 r (sym routed.1 ∙ (ap (λ i. find_row i s) (sym (id_exact x w.id same)) ∙ found)) in
              record {
                routes = ap (λ (q : PlainRow). is_routing q.state) (sym is)
                    ∙ routed.2;
                is = k;
                one_of = or_left (passes (λ y. id_eq x y.id) (find_hand n.peer n.number s)) _
                    (ap (passes (λ (y : Hand). id_eq x y.id)) e ∙ same);
              }
          mine same (inr k) = absurd (true≢false (sym k.routes))

          by : (b : Bool) → id_eq x w.id ≡ b
              → (silents_after until ks (hand_silent until n (Some w) s) x (if b then Some (requeued_row r) else Some r) ≡ Some r)
              ⊎ IsBack (n ∷ ks) s x r (silents_after until ks (hand_silent until n (Some w) s) x (if b then Some (requeued_row r) else Some r))
          by true same = inr (mine same (then_row (requeued_row r) (row_then ∙ ap (λ b. if b then Some (requeued_row r) else Some r) same)))
          by false same = other (then_row r (row_then ∙ ap (λ b. if b then Some (requeued_row r) else Some r) same))

  module _ (s : Plain) (order : IsInOrder s) (calm : IsConsistent s) (x : Request) (r : PlainRow) (found : find_row x s ≡ Some r) where
    -- a row is what its change makes of it
    pub row_step : (c : Change (List ℕ)) → fits c s ≡ true → IsInHost c → RowStep c s x r (after c s x (Some r))
    row_step (Site me site) fit inside = absurd (true≢false (sym fit))
    row_step (Submitted queue job script) fit inside = inl refl
    row_step (Deleted id) fit inside = without_step s order calm x r found (Deleted id) id Delete
        (λ e. ((λ same. same), seen_idle r (not-true (is_running r.state) (passing s order calm x r found is_idle id fit e))))
    row_step (Doomed id) fit inside = changed_step s order calm x r found (Doomed id) id doomed_row Doom
        (λ e. ((λ same. same), (seen_running r (running_is r.state (passing s order calm x r found runs_now id fit e)), refl)))
    row_step (Started id device) fit inside =
        changed_step s order calm x r found (Started id device) id (started_row device) Start
        (λ e. (
          (λ same. same),
          (
            ready_seen s order calm x r found (passing s order calm x r found is_ready id
                (and_parts (row_passes is_ready id s) (device_fits device s) fit).0 e),
            refl,
          ),
        ))
    row_step (Ended id parts) fit inside = ended_step s order calm x r found (Ended id parts) id (λ same. same) fit
    row_step (Unlaunched id) fit inside = ended_step s order calm x r found (Unlaunched id) id (λ same. same) fit
    row_step Boot fit inside = boot_step s order calm x r found
    row_step (Edited e) fit inside = edit_step s order calm x r found e fit
    row_step (HandOpened peer number id queue since) fit inside =
        changed_step s order calm x r found (HandOpened peer number id queue since) id routing_row Open
        (λ e. (
          (λ same. same),
          (
            ready_seen s order calm x r found (and_parts (is_ready r) (nat_lt r.hops 32)
                (passing s order calm x r found may_hop id (each (row_passes (may_hop {E = List ℕ}) id s)
                (passes (is_next number) (find_peer peer s) ∷ has_room_for_hand peer s ∷ passes (is_within_window peer s) (find_peer peer s) ∷ []) fit).0 e)).0,
            refl,
          ),
        ))
    row_step (HandCommitted peer number) fit inside = absurd inside
    row_step (HandRefused peer number refusal) fit inside = of (find_hand peer number s) refl fit
      where
        of : (w : Option Hand) → find_hand peer number s ≡ w → passes is_offered_hand w ≡ true
            → RowStep (HandRefused peer number refusal) s x r (refused_after w refusal s x (Some r))
        of None e k = absurd (true≢false (sym k))
        of (Some y) e k =
            changed_step s order calm x r found (HandRefused peer number refusal) y.id (back_row y refusal s) Back (λ same.
            let routed = routing_of s order (is_hand (peer_number peer number)) y e k in
            let is : routed.0 ≡ r = same_Some routed.0 r (sym routed.1 ∙ (ap (λ i. find_row i s) (sym (id_exact x y.id same)) ∙ found)) in (
              (λ g. ap (passes (λ (z : Hand). id_eq x z.id)) e ∙ same),
              back_to s order calm x r found (HandRefused peer number refusal) (dests_for r s) (record { queue = y.queue; host = y.peer }) refusal
                  (routing_is r.state (ap (λ (q : PlainRow). is_routing q.state) (sym is) ∙ routed.2)),
            ))
    row_step (HandsSilent until ks) fit inside = by (silents_row until ks s order calm
        (list_all-weaker (λ k. hand_passes is_offered_hand k.peer k.number s) (λ l. not_committed (find_hand l.peer l.number s))
        (λ l. offer_or_none (find_hand l.peer l.number s)) ks fit) x r found)
      where
        by : (silents_after until ks s x (Some r) ≡ Some r) ⊎ IsBack ks s x r (silents_after until ks s x (Some r))
            → RowStep (HandsSilent until ks) s x r (silents_after until ks s x (Some r))
        by (inl k) = inl (ap (option_map (row_entry h)) k)
        by (inr k) = inr (
          Back,
          k.one_of,
          subst (λ o. Steps Back (Some (row_entry h r)) (option_map (row_entry h) o)) (sym k.is)
              (seen_routing r (routing_is r.state k.routes), seen_waiting (requeued_row r) refl, refl),
        )
    row_step (Accepted peer number) fit inside = absurd inside
    row_step (MovedLocal id queue) fit inside =
        changed_step s order calm x r found (MovedLocal id queue) id (moved_local queue (s.arrivals + 1)) Move
        (λ e. (
          (λ same. same),
          (
            seen_waiting r (ready_queued r (and_parts (is_ready r) (nat_lt r.hops 32)
                (passing s order calm x r found may_hop id (each (row_passes (may_hop {E = List ℕ}) id s)
                (has_queue queue s ∷ not (arrivals_used s) ∷ []) fit).0 e)).0),
            refl,
          ),
        ))
    row_step (RefusedLocal id queue refusal) fit inside = by (id_eq x id) refl
      where
        by : (b : Bool) → id_eq x id ≡ b → RowStep (RefusedLocal id queue refusal) s x r (if b then Some (local_refused queue refusal s r) else Some r)
        by true e = noted_step s order calm x r found id queue refusal (dests_for r s) (record { queue = queue; host = s.me }) (id_exact x id e)
            (passing s order calm x r found is_ready id fit e)
        by false e = inl refl
    row_step (HeldFar id) fit inside =
        changed_step s order calm x r found (HeldFar id) id held_far Hold (λ e. let ready = passing s order calm x r found is_ready id fit e in (
          (λ same. same),
          (
            ready_seen s order calm x r found ready,
            (λ j. record (row_entry h r)
                { state = seen_held (held_far r) (ready_queued r ready) refl j }),
          ),
        ))
    row_step (HandDone peer number) fit inside = inl refl
    row_step (OldPromised peer number queue k script) fit inside = inl refl
    row_step (Promised peer number low queue k script) fit inside = inl refl
    row_step (Dropped peer number) fit inside = inl refl
    row_step (StageGot peer number path bytes) fit inside = inl refl
    row_step (StageGone peer number) fit inside = inl refl
    row_step (FileGone file) fit inside = inl refl
