-- Each change takes each request by one step of its entry at most, of a kind that its cause
-- licenses.
use Rattle.std.proofs.Common.{◌≡◌, ℕ, ◌+◌, ◌⊎◌, inl, inr, Bool, true, false, cond, not, ◌&&◌, ◌||◌, List, [], ◌∷◌, filter, slice_get, Option, None, Some}
use Rattle.std.proofs.Common.{true≢false, suc, refl, sym, ap, subst, ◌∙◌, if◌then◌else◌}
use Rattle.std.proofs.lemmas.Bool.{and_parts, and_from, or_left, or_right, not-true}
use Rattle.std.proofs.lemmas.Option.{same_Some, none-some}
use Rattle.std.specs.Option.{option_map}
use Rattle.std.specs.List.{list_any, list_all}
use Rattle.nqs_types.specs.Ids.{id_eq, peer_number_eq, peer_number_exact, hand_key}
use Rattle.nqs_state.specs.State.{Plain}
use Rattle.nqs_state.specs.Keys.{is_hand, is_promise}
use Rattle.nqs_types.specs.declared.ids.HostId.{HostId}
use Rattle.nqs_types.specs.declared.ids.Named.{Named}
use Rattle.nqs_types.specs.declared.ids.PeerNumber.{PeerNumber}
use Rattle.nqs_types.specs.declared.request.Carried.{Carried}
use Rattle.nqs_types.specs.declared.request.Hand.{Hand}
use Rattle.nqs_types.specs.declared.change.Change.{Change}
use Rattle.nqs_types.specs.declared.change.Change.TheVariants.{Submitted, Deleted, Doomed, Started, Ended, Unlaunched, Boot, HandOpened, HandCommitted}
use Rattle.nqs_types.specs.declared.change.Change.TheVariants.{HandRefused, HandsSilent, Accepted, MovedLocal, RefusedLocal, HeldFar}
use Rattle.nqs_types.specs.declared.message.Body.{Body}
use Rattle.nqs_types.specs.declared.message.Body.TheVariants as body
use Rattle.nqs_types.specs.declared.message.Message.{Message}
use Rattle.nqs_types.specs.declared.event.Command.{Command}
use Rattle.nqs_types.specs.declared.event.Command.TheVariants as command
use Rattle.nqs_types.specs.declared.event.Event.{Event}
use Rattle.nqs_state.proofs.LeastLemmas.{found_id}
use Rattle.nqs_types.specs.declared.event.Event.TheVariants as event
use Rattle.nqs_types.specs.declared.table_row.NetState.TheVariants as net
use Rattle.nqs_rules.specs.Tests.{passes, is_routing, is_running, is_unheld, same_host}
use Rattle.nqs_rules.specs.Find.{peer_number, find_row, find_hand, meant_request, meant_row, row_of}
use Rattle.nqs_rules.specs.Handover.{carried_of, is_silent, silent_hands}
use Rattle.nqs_rules.specs.Applied.{applied, next_id, requeued_row}
use Rattle.nqs_rules.specs.Fits.{fits}
use Rattle.nqs_rules.specs.Step.{completed, is_start, step}
use Rattle.nqs_rules.specs.InOrder.{IsInOrder, IsConsistent, is_doom_right, is_promise_free}
use Rattle.nqs_rules.specs.Net.{Entry, entry_in, row_entry}
use Rattle.nqs_rules.specs.Licence.{Kind, Submit, Delete, Doom, Hold, Move, Open, Back, Route, Arrive, Start, End, Again, Gone, Steps}
use Rattle.nqs_rules.proofs.ListFacts.{found_passes, list_all-found, found_again}
use Rattle.nqs_rules.proofs.ListMaps.{list_any-map}
use Rattle.nqs_rules.proofs.RowFacts.{same_id, same_peer_number}
use Rattle.nqs_rules.proofs.RowChanges.{routing_is}
use Rattle.nqs_rules.proofs.StateFacts.{keys_are}
use Rattle.nqs_rules.proofs.StartIs.{StartsRow, start_is}
use Rattle.nqs_rules.proofs.Until.{steady}
use Rattle.nqs_rules.specs.Picked.{PlainRow}
use Rattle.nqs_laws.specs.Licensed.{LicensesMessage, LicensesTick, LicensesCommand, LicensesEnd, LicensesEvent, LicensesStart, LicensesBoot, Licenses, LiesWith}
use Rattle.nqs_laws.specs.Licensed.{IsLicensed}
use Rattle.nqs_laws.specs.Loads.{kept_load}
use Rattle.nqs_laws.proofs.Frame.{Way, Taken, Begun, Booted, change_by, why_by}
use Rattle.nqs_laws.proofs.Sound.{some-if}
use Rattle.nqs_laws.proofs.After.{Request, submitted_row, after, row_after}
use Rattle.nqs_laws.proofs.Spares.{IsNew, grows}
use Rattle.nqs_laws.proofs.Makes.{Answers, Obeys, Follows, step_makes}
use Rattle.nqs_laws.proofs.Views.{Pledging, host_exact, host_same}
use Rattle.nqs_laws.proofs.Tabled.{Place, Nowhere, Sits, Arrives, row_in, updated, placed_at}
use Rattle.nqs_laws.proofs.Advance.{IsInHost}
use Rattle.nqs_laws.proofs.TabledRuns.{StepOf}
use Rattle.nqs_laws.proofs.Entries.{entry_at}
use Rattle.nqs_laws.proofs.RowSteps.{Turns, row_step, seen_queued, seen_routing}
use Rattle.nqs_laws.proofs.Away.{is_away}

-- an entry stays, or takes a step of a kind that goes with the change
abbrev pub TurnStep : Change (List ℕ) → Plain → Request → Option Entry → Option Entry → Type 0
TurnStep c s x a b = (b ≡ a) ⊎ ((k : Kind) × Turns c s x k × Steps k a b)

module _ (h : HostId) (s : Plain) (me : s.me ≡ h) (o : IsInOrder s) (calm : IsConsistent s) where
  placed_entry : (p : Option PlainRow) → option_map (row_entry h) p ≡ entry_at (placed_at h p)
  placed_entry None = refl
  placed_entry (Some r) = refl

  -- a request that comes in
  new_step : (c : Change (List ℕ)) (x : Request) → IsInHost c → IsNew c s x → TurnStep c s x None (entry_at (placed_at h (after c s x None)))
  new_step (Submitted queue job script) x inside new =
      let same : id_eq x (next_id s) ≡ true = ap (λ i. id_eq i (next_id s)) new ∙ same_id (next_id s) in
      let row : after (Submitted queue job script) s x None ≡ Some (submitted_row queue job script s) =
      ap (λ b. if b then Some (submitted_row queue job script s) else None) same in
      subst (λ p. TurnStep (Submitted queue job script) s x None (entry_at (placed_at h p))) (sym row)
      (inr (Submit, new, record { here = sym me; state = refl; doomed = refl; starts = refl; lost = refl }))
  new_step (Accepted peer number) x inside new = absurd inside
  new_step c x inside new = absurd new

  -- a change in a host
  inside_step : (c : Change (List ℕ)) → fits c s ≡ true → IsInHost c → (x : Request) (t : Place) → find_row x s ≡ row_in h t
      → TurnStep c s x (entry_at t) (entry_at (updated h (find_row x (applied c s)) t))
  inside_step c fit inside x t row = subst (λ p. TurnStep c s x (entry_at t) (entry_at (updated h p t))) (sym (row_after x c s o fit)) (by t row)
    where
      found : (r : PlainRow) → find_row x s ≡ Some r → TurnStep c s x (Some (row_entry h r)) (entry_at (placed_at h (after c s x (find_row x s))))
      found r e =
          subst (λ p. TurnStep c s x (Some (row_entry h r)) (entry_at (placed_at h (after c s x p)))) (sym e)
          (subst (TurnStep c s x (Some (row_entry h r))) (placed_entry (after c s x (Some r))) (row_step h s o calm x r e c fit inside))

      none : find_row x s ≡ None → TurnStep c s x None (entry_at (placed_at h (after c s x (find_row x s))))
      none e = subst (λ p. TurnStep c s x None (entry_at (placed_at h (after c s x p)))) (sym e) (of (grows c s x))
        where
          of : (after c s x None ≡ None) ⊎ IsNew c s x → TurnStep c s x None (entry_at (placed_at h (after c s x None)))
          of (inl k) = inl (ap (λ p. entry_at (placed_at h p)) k)
          of (inr k) = new_step c x inside k

      by : (t : Place) → find_row x s ≡ row_in h t → TurnStep c s x (entry_at t) (entry_at (updated h (after c s x (find_row x s)) t))
      by Nowhere row = none row
      by (Sits g r) row = at (same_host g h) refl
        where
          at : (b : Bool) → same_host g h ≡ b → TurnStep c s x (Some (row_entry g r))
              (entry_at (if b then placed_at h (after c s x (find_row x s)) else Sits g r))
          at true e =
              let same : g ≡ h = host_exact g h e in
              subst (λ i. TurnStep c s x (Some (row_entry i r)) (entry_at (placed_at h (after c s x (find_row x s))))) (sym same)
              (found r (row ∙ ((λ j. row_in h (Sits (same j) r)) ∙ ap (λ b. if b then Some r else None) (host_same h))))
          at false e = inl refl
      by (Arrives a b n r) row = inl refl

  -- a handover that is committed
  route_step : (peer : HostId) (number : ℕ) (x : Request) (y : Hand) (r : PlainRow) (p : Pledging) → find_hand peer number s ≡ Some y → x ≡ y.id
      → is_routing r.state ≡ true → r.doomed ≡ false → (kept_load p.row).carried ≡ carried_of r → p.row.doomed ≡ false → (peer ≡ h → ⊥)
      → TurnStep (HandCommitted peer number) s x (Some (row_entry h r)) (Some (entry_in peer net.Arriving p.row))
  route_step peer number x y r p found same routes free carried undoomed far = inr (
    Route,
    ap (passes (λ (z : Hand). id_eq x z.id)) found ∙ (ap (id_eq x) (sym same) ∙ same_id x),
    (
      seen_routing r (routing_is r.state routes),
      refl,
      far,
      (
        ap (λ (c : Carried). c.id) carried,
        ap (λ (c : Carried). c.job.owner) carried,
        ap (λ (c : Carried). c.job.rerun) carried,
        undoomed
            ∙ sym free,
        ap (λ (c : Carried). c.starts) carried,
        ap (λ (c : Carried). c.lost) carried,
      ),
    ),
  )

  undoomed_row : (x : Request) (r : PlainRow) → find_row x s ≡ Some r → is_routing r.state ≡ true → r.doomed ≡ false
  undoomed_row x r found routes = not-true r.doomed (subst (λ (b : Bool). (b || not r.doomed) ≡ true)
      (ap is_running (routing_is r.state routes)) (list_all-found is_doom_right _ s.rows r calm.doomed found))

  -- what a change makes of an entry
  pub entry_step : (hands : list_all (is_away h) s.hands ≡ true) (c : Change (List ℕ)) → fits c s ≡ true → (x : Request) (t t' : Place)
      → find_row x s ≡ row_in h t → StepOf c h s x t t' → TurnStep c s x (entry_at t) (entry_at t')
  entry_step hands (HandCommitted peer number) fit x t t' row (inl same) = inl (ap entry_at same)
  entry_step hands (HandCommitted peer number) fit x t t' row (inr (y, r, p, found, same, was, routes, is, carried, free)) =
      let there : find_row x s ≡ Some r = row ∙ (ap (row_in h) was ∙ ap (λ b. if b then Some r else None) (host_same h)) in
      subst (λ u. TurnStep (HandCommitted peer number) s x (entry_at u) (entry_at t')) (sym was)
      (subst (λ u. TurnStep (HandCommitted peer number) s x (Some (row_entry h r)) (entry_at u)) (sym is)
      (route_step peer number x y r p found same routes (undoomed_row x r there routes) carried free (far y found)))
    where
      far : (y : Hand) → find_hand peer number s ≡ Some y → peer ≡ h → ⊥
      far y found here =
          let key : y.peer ≡ peer = sym (ap (λ (i : PeerNumber). i.peer) (peer_number_exact (peer_number peer number) (hand_key y)
          (found_passes (is_hand (peer_number peer number)) s.hands y found))) in
          let away : same_host h y.peer ≡ false = not-true (same_host h y.peer)
          (list_all-found (is_away h) (is_hand (peer_number peer number)) s.hands y hands found) in
          true≢false (sym (ap (same_host h) (key ∙ here) ∙ host_same h) ∙ away)
  entry_step hands (Accepted peer number) fit x t t' row (inl same) = inl (ap entry_at same)
  entry_step hands (Accepted peer number) fit x t t' row (inr (p, found, same, was, is)) =
      let free = and_parts (is_unheld p.row.hold) (not p.row.doomed) (list_all-found is_promise_free
      (is_promise (peer_number peer number)) s.promises p calm.promises found) in
      subst (λ u. TurnStep (Accepted peer number) s x (entry_at u) (entry_at t')) (sym was)
      (subst (λ u. TurnStep (Accepted peer number) s x (Some (entry_in h net.Arriving p.row)) (entry_at u)) (sym is) (inr (
        Arrive,
        ap (passes (λ (q : Pledging). id_eq x q.row.id)) found ∙ (ap (id_eq x) (sym same) ∙ same_id x),
        (refl, (λ j. record (row_entry h p.row) { state = seen_queued (requeued_row p.row) refl free.0 j })),
      )))
  entry_step hands (Submitted queue job script) fit x t t' row e = subst (λ u. TurnStep (Submitted queue job script) s x (entry_at t) (entry_at u)) (sym e)
      (inside_step (Submitted queue job script) fit tt x t row)
  entry_step hands c fit x t t' row e = subst (λ u. TurnStep c s x (entry_at t) (entry_at u)) (sym e) (inside_step c fit tt x t row)

-- the kinds of a change are those that its cause licenses

module _ (s : Plain) (o : IsInOrder s) (x : Request) where
  submit_licence : (now : ℕ) (sub : _) (queue : List ℕ) (job : _) (script : List ℕ) (k : Kind) → Turns (Submitted queue job script) s x k
      → LicensesCommand now (command.Submit sub) s x k
  submit_licence now sub queue job script Submit t = t
  submit_licence now sub queue job script k t = absurd t

  named_is : (id : Named) (r : PlainRow) → meant_row id s ≡ Some r → x ≡ r.id → meant_request id s ≡ Some x
  named_is id r e same = of (meant_request id s) refl e
    where
      of : (m : Option Request) → meant_request id s ≡ m → row_of m s ≡ Some r → meant_request id s ≡ Some x
      of None f g = absurd (none-some r g)
      of (Some rid) f g = f ∙ ap Some (found_id rid s.rows r g ∙ sym same)

  delete_licence : (now : ℕ) (id : Named) (forced : Bool) (r : PlainRow) → meant_row id s ≡ Some r → (b : Bool) (k : Kind)
      → Turns (if b then Doomed r.id else Deleted r.id) s x k → LicensesCommand now (command.Delete id forced) s x k
  delete_licence now id forced r e true Doom t = named_is id r e t
  delete_licence now id forced r e false Delete t = named_is id r e t
  delete_licence now id forced r e true k t = absurd t
  delete_licence now id forced r e false k t = absurd t

  hand_again : (i : ℕ) (z : Hand) → slice_get s.hands i ≡ Some z → find_hand z.peer z.number s ≡ Some z
  hand_again i z at = found_again peer_number_eq hand_key peer_number_exact same_peer_number s.hands i z (keys_are s o.keys).hands at

  -- one of the hands that are silent
  any_kept : (keep u v : Hand → Bool) (hands : List Hand) → ((i : ℕ) (z : Hand) → slice_get hands i ≡ Some z → u z ≡ true → v z ≡ true)
      → list_any u (filter keep hands) ≡ true → list_any (λ y. keep y && v y) hands ≡ true
  any_kept keep u v [] f h = absurd (true≢false (sym h))
  any_kept keep u v (z ∷ hands) f h = by (keep z) refl h (any_kept keep u v hands (λ i w at. f (suc i) w at))
    where
      split : (a b : Bool) → (a || b) ≡ true → (a ≡ true) ⊎ (b ≡ true)
      split true b k = inl refl
      split false b k = inr k

      by : (b : Bool) → keep z ≡ b → list_any u (cond b (z ∷ filter keep hands) (filter keep hands)) ≡ true
          → (list_any u (filter keep hands) ≡ true → list_any (λ y. keep y && v y) hands ≡ true)
          → ((keep z && v z) || list_any (λ y. keep y && v y) hands) ≡ true
      by true e h rest = of (split (u z) (list_any u (filter keep hands)) h)
        where
          of : (u z ≡ true) ⊎ (list_any u (filter keep hands) ≡ true) → ((keep z && v z) || list_any (λ y. keep y && v y) hands) ≡ true
          of (inl k) = or_left (keep z && v z) (list_any (λ y. keep y && v y) hands) (and_from (keep z) (v z) e (f 0 z refl k))
          of (inr k) = or_right (keep z && v z) (list_any (λ y. keep y && v y) hands) (rest k)
      by false e h rest = or_right (keep z && v z) (list_any (λ y. keep y && v y) hands) (rest h)

  silent_one_of : (now : ℕ) → list_any (λ (k : PeerNumber). passes (λ y. id_eq x y.id) (find_hand k.peer k.number s)) (silent_hands now s) ≡ true
      → list_any (λ y. is_silent now s y && id_eq x y.id) s.hands ≡ true
  silent_one_of now h =
      any_kept (is_silent now s) (λ (z : Hand). passes (λ (y : Hand). id_eq x y.id) (find_hand z.peer z.number s)) (λ (z : Hand). id_eq x z.id) s.hands
      (λ i z at k. ap (passes (λ (y : Hand). id_eq x y.id)) (sym (hand_again i z at)) ∙ k)
      (sym (list_any-map (λ (z : Hand). peer_number z.peer z.number) (λ (k : PeerNumber). passes (λ (y : Hand). id_eq x y.id) (find_hand k.peer k.number s))
      (filter (is_silent now s) s.hands)) ∙ h)

  tick_licence : (now until : ℕ) (k : Kind) → Turns (HandsSilent until (silent_hands now s)) s x k → LicensesTick now s x k
  tick_licence now until Back t = silent_one_of now t
  tick_licence now until k t = absurd t

  command_licence : (now : ℕ) (m : Command) (c : Change (List ℕ)) → Obeys now m s c → (k : Kind) → Turns c s x k → LicensesCommand now m s x k
  command_licence now (command.Submit sub) c f k t = submit_licence now sub f.0 (completed (s.seq + 1) sub.folder sub.job) sub.script k
      (subst (λ y. Turns y s x k) f.1 t)
  command_licence now (command.Edit e) c f k t = subst (λ y. Turns y s x k) f t
  command_licence now (command.Delete id forced) c f k t = delete_licence now id forced f.row f.found (is_running f.row.state) k
      (subst (λ y. Turns y s x k) f.is t)
  command_licence now command.Tick c f k t = tick_licence now f.0 k (subst (λ y. Turns y s x k) f.1 t)
  command_licence now m c f k t = absurd f

  ready_licence : (peer : HostId) (n : ℕ) (k : Kind) → Turns (HandCommitted peer n) s x k → LicensesMessage (body.Ready n) peer s x k
  ready_licence peer n Route t = t
  ready_licence peer n k t = absurd t

  inquire_licence : (peer : HostId) (n : ℕ) (k : Kind) → Turns (HandCommitted peer n) s x k → LicensesMessage (body.Inquire n) peer s x k
  inquire_licence peer n Route t = t
  inquire_licence peer n k t = absurd t

  refused_licence : (peer : HostId) (n refusal : ℕ) (k : Kind) → Turns (HandRefused peer n refusal) s x k → LicensesMessage (body.Refused n refusal) peer s x k
  refused_licence peer n refusal Back t = t
  refused_licence peer n refusal k t = absurd t

  commit_licence : (peer : HostId) (n : ℕ) (k : Kind) → Turns (Accepted peer n) s x k → LicensesMessage (body.Commit n) peer s x k
  commit_licence peer n Arrive t = t
  commit_licence peer n k t = absurd t

  message_licence : (b : Body) (peer : HostId) (c : Change (List ℕ)) → Answers b peer s c → (k : Kind) → Turns c s x k → LicensesMessage b peer s x k
  message_licence (body.Offer n low queue q script) peer c f k t = absurd (subst (λ y. Turns y s x k) f.0 t)
  message_licence (body.Ready n) peer c f k t = ready_licence peer n k (subst (λ y. Turns y s x k) f.0 t)
  message_licence (body.Refused n refusal) peer c f k t = refused_licence peer n refusal k (subst (λ y. Turns y s x k) f.0 t)
  message_licence (body.Commit n) peer c f k t = commit_licence peer n k (subst (λ y. Turns y s x k) f.0 t)
  message_licence (body.Done n) peer c f k t = absurd (subst (λ y. Turns y s x k) f.0 t)
  message_licence (body.Inquire n) peer c f k t = inquire_licence peer n k (subst (λ y. Turns y s x k) f.0 t)
  message_licence (body.Abort n) peer c f k t = absurd (subst (λ y. Turns y s x k) f.0 t)
  message_licence (body.Stage n path bytes) peer c f k t = absurd (subst (λ y. Turns y s x k) f.1 t)
  message_licence (body.Staged n) peer c f k t = absurd (subst (λ y. Turns y s x k) f t)
  message_licence b peer c f k t = absurd f

  end_licence : (id : Request) (start : ℕ) (r : PlainRow) → find_row id s ≡ Some r → is_start start r ≡ true → (k : Kind) → (x ≡ r.id) → k ≡ End
      → LicensesEnd id start s x k
  end_licence id start r found is k same e = subst (LicensesEnd id start s x) (sym e)
      (same ∙ sym (found_id id s.rows r found), ap (passes (is_start start)) found ∙ is)

  ended_kind : (id : Request) (parts : List _) (k : Kind) → Turns (Ended id parts) s x k → (x ≡ id) × (k ≡ End)
  ended_kind id parts End t = (t, refl)
  ended_kind id parts k t = absurd t

  unlaunched_kind : (id : Request) (k : Kind) → Turns (Unlaunched id) s x k → (x ≡ id) × (k ≡ End)
  unlaunched_kind id End t = (t, refl)
  unlaunched_kind id k t = absurd t

  event_licence : (e : Event) (c : Change (List ℕ)) → Follows e s c → (k : Kind) → Turns c s x k → LicensesEvent e s x k
  event_licence (event.Ask now port token user m) c f k t = command_licence now m c f k t
  event_licence (event.Arrived now m) c f k t = message_licence m.body m.from c f k t
  event_licence (event.Ended now port id start status output error) c f k t =
      (let g = ended_kind f.1.id f.0 k (subst (λ y. Turns y s x k) f.4 t) in end_licence id start f.1 f.2 f.3 k g.0 g.1)
  event_licence (event.Unlaunched now id start) c f k t = (let g = unlaunched_kind id k (subst (λ y. Turns y s x k) f.3 t) in
      end_licence id start f.0 f.1 f.2 k (g.0 ∙ found_id id s.rows f.0 f.1) g.1)
  event_licence (event.Written now file) c f k t = absurd (subst (λ y. Turns y s x k) f t)
  event_licence (event.Unwritten now file) c f k t = absurd f
  event_licence (event.Tick now) c f k t = tick_licence now f.0 k (subst (λ y. Turns y s x k) f.1 t)

  start_licence : (r : PlainRow) (c : Change (List ℕ)) → StartsRow s r c → (k : Kind) → Turns c s x k → LicensesStart k
  start_licence r (Started id device) f Start t = tt
  start_licence r (Started id device) f k t = absurd t
  start_licence r (HeldFar id) f Hold t = tt
  start_licence r (HeldFar id) f k t = absurd t
  start_licence r (MovedLocal id queue) f Move t = tt
  start_licence r (MovedLocal id queue) f k t = absurd t
  start_licence r (RefusedLocal id queue refusal) f Hold t = tt
  start_licence r (RefusedLocal id queue refusal) f k t = absurd t
  start_licence r (HandOpened peer number id queue since) f Open t = tt
  start_licence r (HandOpened peer number id queue since) f k t = absurd t
  start_licence r c f k t = absurd f

  boot_licence : (k : Kind) → Turns Boot s x k → LicensesBoot k
  boot_licence Again t = tt
  boot_licence Gone t = tt
  boot_licence k t = absurd t

  -- what a change does, its cause licenses
  pub way_licence : {packets : List Message} {h : HostId} (way : Way packets h s) (c : Change (List ℕ)) → change_by way ≡ Some c → (k : Kind) → Turns c s x k
      → Licenses (why_by way) s x k
  way_licence (Taken e comes) c is k t = event_licence e c (some-if (Follows e s) (step e s).change c (step_makes s e) is) k t
  way_licence (Begun now y begun) c is k t =
      let started = start_is now s y (steady s o) begun in
      start_licence started.row c (subst (StartsRow s started.row) (same_Some started.change c (sym started.makes ∙ is)) started.starts) k t
  way_licence Booted c is k t = boot_licence k (subst (λ y. Turns y s x k) (sym (same_Some Boot c is)) t)

  pub licensed_step : {packets : List Message} {h : HostId} (way : Way packets h s) (c : Change (List ℕ)) → change_by way ≡ Some c → (a b : Option Entry)
      → TurnStep c s x a b → (b ≡ a) ⊎ LiesWith s.me a → IsLicensed (why_by way) s x a b
  licensed_step way c is a b (inl same) lies = inl same
  licensed_step way c is a b (inr (k, t, steps)) (inl same) = inl same
  licensed_step way c is a b (inr (k, t, steps)) (inr lies) = inr (k, way_licence way c is k t, steps, lies)

-- a change takes requests that lie with its host

updated_here : (h : HostId) (o : Option PlainRow) (t : Place) → (entry_at (updated h o t) ≡ entry_at t) ⊎ LiesWith h (entry_at t)
updated_here h o Nowhere = inr tt
updated_here h o (Sits g r) = by (same_host g h) refl
  where
    by : (b : Bool) → same_host g h ≡ b → (entry_at (if b then placed_at h o else Sits g r) ≡ Some (row_entry g r)) ⊎ (g ≡ h)
    by true e = inr (host_exact g h e)
    by false e = inl refl
updated_here h o (Arrives a b n r) = inl refl

pub lies_here : (c : Change (List ℕ)) (h : HostId) (s : Plain) (x : Request) (t t' : Place) → StepOf c h s x t t'
    → (entry_at t' ≡ entry_at t) ⊎ LiesWith h (entry_at t)
lies_here (HandCommitted peer number) h s x t t' (inl same) = inl (ap entry_at same)
lies_here (HandCommitted peer number) h s x t t' (inr (y, r, p, found, same, was, routes, is, carried, free)) =
    inr (subst (λ u. LiesWith h (entry_at u)) (sym was) refl)
lies_here (Accepted peer number) h s x t t' (inl same) = inl (ap entry_at same)
lies_here (Accepted peer number) h s x t t' (inr (p, found, same, was, is)) = inr (subst (λ u. LiesWith h (entry_at u)) (sym was) refl)
lies_here c h s x t t' is = subst (λ u. (entry_at u ≡ entry_at t) ⊎ LiesWith h (entry_at t)) (sym is) (updated_here h (find_row x (applied c s)) t)
