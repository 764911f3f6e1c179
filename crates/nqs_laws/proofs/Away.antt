-- No host has a handover to itself.
use Rattle.std.proofs.Common.{◌≡◌, ℕ, Bool, true, false, not, ◌==◌, if◌then◌else◌, List, [], slice_get, Option, None, Some, Result, Ok, Err, true≢false, refl}
use Rattle.std.proofs.Common.{sym, ap, subst, ◌∙◌}
use Rattle.std.proofs.lemmas.Bool.{not_from_false}
use Rattle.std.proofs.lemmas.Option.{same_Some, none-some}
use Rattle.std.proofs.lemmas.Cmp.{nat_list_eq_equiv}
use Rattle.std.specs.Option.{option_map, option_and_then, IfSome}
use Rattle.std.specs.List.{list_all}
use Rattle.nqs_base.specs.Same.{name_eq, name_exact}
use Rattle.nqs_state.specs.State.{Plain}
use Rattle.nqs_types.specs.declared.ids.HostId.{HostId}
use Rattle.nqs_types.specs.declared.ids.Dest.{Dest}
use Rattle.nqs_types.specs.declared.request.Hand.{Hand}
use Rattle.nqs_types.specs.declared.request.Peer.{Peer}
use Rattle.nqs_types.specs.declared.refusal.Refusal.{Refusal}
use Rattle.nqs_types.specs.declared.queue.Kind.{Kind}
use Rattle.nqs_types.specs.declared.queue.Kind.TheVariants.{Batch, Device, Pipe}
use Rattle.nqs_types.specs.declared.queue.QueueDef.{QueueDef}
use Rattle.nqs_types.specs.declared.rule.Choice.{Choice}
use Rattle.nqs_types.specs.declared.rule.Choice.TheVariants as choice
use Rattle.nqs_types.specs.declared.change.Change.{Change}
use Rattle.nqs_types.specs.declared.change.Change.TheVariants.{Submitted, Deleted, Doomed, Started, Boot, HandOpened, MovedLocal, HeldFar}
use Rattle.nqs_types.specs.declared.event.Command.{Command}
use Rattle.nqs_types.specs.declared.event.Command.TheVariants as command
use Rattle.nqs_types.specs.declared.event.Event.{Event}
use Rattle.nqs_types.specs.declared.event.Event.TheVariants as event
use Rattle.nqs_types.specs.declared.message.Body.{Body}
use Rattle.nqs_types.specs.declared.message.Body.TheVariants as body
use Rattle.nqs_rules.specs.Tests.{passes, is_running, same_host}
use Rattle.nqs_rules.specs.Causes.{first_refusal}
use Rattle.nqs_rules.specs.Find.{find_queue, find_peer}
use Rattle.nqs_rules.specs.Devices.{free_device}
use Rattle.nqs_rules.specs.Routing.{destination}
use Rattle.nqs_rules.specs.Order.{is_local, print_on, move_to, choice_for, pick}
use Rattle.nqs_rules.specs.Picked.{IsPicked, PlainRow}
use Rattle.nqs_rules.specs.Handover.{opened_with, open_hand}
use Rattle.nqs_rules.specs.Start.{launching, printing, holding, moving_by, moving, local_causes, with_row, device_at, dest_at, started, start_by, start}
use Rattle.nqs_rules.specs.Starts.{after_change}
use Rattle.nqs_rules.specs.Stepped.{Stepped}
use Rattle.nqs_rules.specs.Step.{step}
use Rattle.nqs_rules.specs.Applied.{applied}
use Rattle.nqs_rules.specs.Fits.{fits}
use Rattle.nqs_rules.specs.World.{new_world}
use Rattle.nqs_rules.proofs.ListFacts.{found_again}
use Rattle.nqs_rules.proofs.StartIs.{IsSteady}
use Rattle.nqs_rules.proofs.PickLaws.{eligible_parts, picked_is}
use Rattle.nqs_rules.proofs.Until.{steady}
use Rattle.nqs_rules.proofs.PeersOrder.{get-other}
use Rattle.nqs_laws.proofs.Frame.{Moment, moment, put_state, Way, Taken, Begun, Booted, change_by}
use Rattle.nqs_laws.proofs.Makes.{Answers, Obeys, Follows, step_makes}
use Rattle.nqs_laws.proofs.Sound.{IsSound, Keeps, Suits, some-if, get-here}
use Rattle.nqs_laws.proofs.Views.{host_exact, host_same}
use Rattle.nqs_laws.proofs.Hands.{Opens, hands_kept}
use Rattle.nqs_laws.proofs.Paired.{At}
use Rattle.nqs_laws.proofs.TabledRuns.{new_state}

-- an offer is opened to another host

local_of : (k : Kind) (d : QueueDef) (now : ℕ) (s : Plain) (at : ℕ) (r : PlainRow) (place dest : ℕ) → choice_for k d now s at r ≡ Some (choice.Hand place dest)
    → (is_local dest d s ≡ false) × (place ≡ at)
local_of Batch d now s at r place dest e = absurd (let f : choice.Launch at ≡ choice.Hand place dest = same_Some _ _ e in let no : ⊥ = cc in no)
local_of Device d now s at r place dest e = of (free_device d r.job.forms s) e
  where
    of : (o : Option ℕ) → print_on at o ≡ Some (choice.Hand place dest) → (is_local dest d s ≡ false) × (place ≡ at)
    of None e = absurd (none-some _ e)
    of (Some n) e = absurd (let f : choice.Print at n ≡ choice.Hand place dest = same_Some _ _ e in let no : ⊥ = cc in no)
local_of Pipe d now s at r place dest e = by (r.hops == 32) (destination d now s r) e
  where
    local : (n : ℕ) (b : Bool) → is_local n d s ≡ b → (if b then Some (choice.Local at n) else Some (choice.Hand at n)) ≡ Some (choice.Hand place dest)
        → (is_local dest d s ≡ false) × (place ≡ at)
    local n true f e = absurd (let g : choice.Local at n ≡ choice.Hand place dest = same_Some _ _ e in let no : ⊥ = cc in no)
    local n false f e = (let g : choice.Hand at n ≡ choice.Hand place dest = same_Some _ _ e in let a : at ≡ place = cc in let b : n ≡ dest = cc in
        (ap (λ i. is_local i d s) (sym b) ∙ f, sym a))

    by : (b : Bool) (o : Option ℕ) → (if b then Some (choice.TooFar at) else move_to at d s o) ≡ Some (choice.Hand place dest)
        → (is_local dest d s ≡ false) × (place ≡ at)
    by true o e = absurd (let f : choice.TooFar at ≡ choice.Hand place dest = same_Some _ _ e in let no : ⊥ = cc in no)
    by false None e = absurd (none-some _ e)
    by false (Some n) e = local n (is_local n d s) refl e

module _ (now : ℕ) (s : Plain) (st : IsSteady s) (x : Stepped (List ℕ)) (peer : HostId) (number : ℕ) (id : _) (queue : List ℕ) (since : ℕ)
    (opens : x.change ≡ Some (HandOpened peer number id queue since)) where
  abbrev Away : Type 0
  Away = same_host s.me peer ≡ false

  other_change : (y : Stepped (List ℕ)) (c : Change (List ℕ)) → y.change ≡ Some c → y ≡ x → c ≡ HandOpened peer number id queue since
  other_change y c made is = same_Some c (HandOpened peer number id queue since) (sym made ∙ (ap (λ (z : Stepped (List ℕ)). z.change) is ∙ opens))

  row_done : (place : ℕ) (f : PlainRow → Option (Stepped (List ℕ))) → ((r : PlainRow) → slice_get s.rows place ≡ Some r → f r ≡ Some x → Away)
      → with_row place s f ≡ Some x → Away
  row_done place f k e = at (slice_get s.rows place) refl e
    where
      at : (o : Option PlainRow) → slice_get s.rows place ≡ o → option_and_then f o ≡ Some x → Away
      at None there e = absurd (none-some x e)
      at (Some r) there e = k r there e

  mapped : {V : Type 0} (g : V → Stepped (List ℕ)) (o : Option V) → option_map g o ≡ Some x → (v : V) × (o ≡ Some v) × (g v ≡ x)
  mapped g None e = absurd (none-some x e)
  mapped g (Some v) e = (v, refl, same_Some (g v) x e)

  moved_away : (o : Result (Unit {0}) Refusal) (q : List ℕ) (r : PlainRow) → moving_by o q r ≡ x → Away
  moved_away (Ok u) q r is = absurd (let f = other_change (moving_by (Ok u) q r) (MovedLocal r.id q) refl is in let no : ⊥ = cc in no)
  moved_away (Err refusal) q r is = absurd (let f = other_change (moving_by (Err refusal) q r) _ refl is in let no : ⊥ = cc in no)

  opened_away : (r : PlainRow) (dest : Dest) → same_host s.me dest.host ≡ false → (p : Option Peer) → opened_with p dest now s r ≡ x → Away
  opened_away r dest far None is = absurd (none-some _ (ap (λ (z : Stepped (List ℕ)). z.change) is ∙ opens))
  opened_away r dest far (Some p) is = (let f = other_change (opened_with (Some p) dest now s r) (HandOpened dest.host p.next r.id dest.queue now) refl is in
      let g : dest.host ≡ peer = cc in ap (same_host s.me) (sym g) ∙ far)

  picked_away : (c : Choice) → IsPicked now s c → started c now s ≡ Some x → Away
  picked_away (choice.Launch place) p e = row_done place (λ r. Some (launching r s))
      (λ r at e. absurd (let f = other_change (launching r s) (Started r.id None) refl (same_Some _ x e) in let no : ⊥ = cc in no)) e
  picked_away (choice.Print place device) p e =
      row_done place (λ r. option_map (λ d. printing d r s) (device_at device r s))
      (λ r at e. let k = mapped (λ d. printing d r s) (device_at device r s) e in
      absurd (let f = other_change (printing k.0 r s) (Started r.id (Some k.0)) refl k.2 in let no : ⊥ = cc in no)) e
  picked_away (choice.TooFar place) p e = row_done place (λ r. Some (holding r))
      (λ r at e. absurd (let f = other_change (holding r) (HeldFar r.id) refl (same_Some _ x e) in let no : ⊥ = cc in no)) e
  picked_away (choice.Local place dest) p e =
      row_done place (λ r. option_map (λ d. moving d s r) (dest_at dest r s))
      (λ r at e. let k = mapped (λ d. moving d s r) (dest_at dest r s) e in moved_away (first_refusal (local_causes k.0.queue s r)) k.0.queue r k.2) e
  picked_away (choice.Hand place dest) p e =
      row_done place (λ r. option_map (λ d. open_hand d now s r) (dest_at dest r s)) (λ r at e.
      let k = mapped (λ d. open_hand d now s r) (dest_at dest r s) e in
      let same : r ≡ p.row = same_Some r p.row (sym at ∙ p.first.at) in
      let known : find_queue p.row.queue s ≡ Some p.queue =
      subst (λ n. find_queue n s ≡ Some p.queue) (name_exact p.queue.name p.row.queue (eligible_parts p.queue now s p.row p.first.eligible).0)
      (found_again name_eq (λ (q : QueueDef). q.name) name_exact nat_list_eq_equiv.refl s.queues p.queue_place p.queue st.names p.next.at) in
      let there : slice_get p.queue.dests dest ≡ Some k.0 = ap (option_and_then (λ (d : QueueDef). slice_get d.dests dest)) (sym known)
      ∙ ((λ j. option_and_then (λ (d : QueueDef). slice_get d.dests dest) (find_queue (sym same j).queue s)) ∙ k.1) in
      let local = (local_of p.queue.kind p.queue now s place p.row place dest p.way).0 in
      opened_away r k.0 (sym (ap (passes (λ (d : Dest). same_host s.me d.host)) there) ∙ local) (find_peer k.0.host s) k.2) e

  -- an offer goes to another host
  pub opens_away : start now s ≡ Some x → Away
  opens_away = of (pick now s) (picked_is now s)
    where
      of : (o : Option Choice) → IfSome o (IsPicked now s) → start_by o now s ≡ Some x → same_host s.me peer ≡ false
      of None p e = absurd (none-some x e)
      of (Some c) p e = picked_away c p e

-- hands stay away

module _ (a : HostId) where
  abbrev pub is_away : Hand → Bool
  is_away y = not (same_host a y.peer)

  -- a change that opens no offer to this host
  abbrev pub OpensAway : Change (List ℕ) → Type 0
  OpensAway (HandOpened peer number id queue since) = same_host a peer ≡ false
  OpensAway c = Unit {0}

  pub opens_passing : (c : Change (List ℕ)) → OpensAway c → Opens is_away c
  opens_passing (HandOpened peer number id queue since) opens = not_from_false (same_host a peer) opens
  opens_passing c opens = tt

  away_kept : (c : Change (List ℕ)) (s : Plain) → fits c s ≡ true → OpensAway c → list_all is_away s.hands ≡ true → list_all is_away (applied c s).hands ≡ true
  away_kept c s fit opens k = hands_kept is_away (λ y. refl) c s fit (opens_passing c opens) k

-- which changes open offers

module _ (a : HostId) where
  answers_away : (b : Body) (peer : HostId) (s : Plain) (c : Change (List ℕ)) → Answers b peer s c → OpensAway a c
  answers_away (body.Offer n low queue k script) peer s c f = subst (OpensAway a) (sym f.0) tt
  answers_away (body.Ready n) peer s c f = subst (OpensAway a) (sym f.0) tt
  answers_away (body.Refused n refusal) peer s c f = subst (OpensAway a) (sym f.0) tt
  answers_away (body.Commit n) peer s c f = subst (OpensAway a) (sym f.0) tt
  answers_away (body.Done n) peer s c f = subst (OpensAway a) (sym f.0) tt
  answers_away (body.Inquire n) peer s c f = subst (OpensAway a) (sym f.0) tt
  answers_away (body.Abort n) peer s c f = subst (OpensAway a) (sym f.0) tt
  answers_away (body.Stage n path bytes) peer s c f = subst (OpensAway a) (sym f.1) tt
  answers_away (body.Staged n) peer s c f = subst (OpensAway a) (sym f) tt
  answers_away b peer s c f = absurd f

  obeys_away : (now : ℕ) (k : Command) (s : Plain) (c : Change (List ℕ)) → Obeys now k s c → OpensAway a c
  obeys_away now (command.Submit sub) s c f = subst (OpensAway a) (sym f.1) tt
  obeys_away now (command.Edit e) s c f = subst (OpensAway a) (sym f) tt
  obeys_away now (command.Delete id forced) s c f = subst (OpensAway a) (sym f.is) (by (is_running f.row.state))
    where
      by : (b : Bool) → OpensAway a (if b then Doomed f.row.id else Deleted f.row.id)
      by true = tt
      by false = tt
  obeys_away now command.Tick s c f = subst (OpensAway a) (sym f.1) tt
  obeys_away now k s c f = absurd f

  follows_away : (e : Event) (s : Plain) (c : Change (List ℕ)) → Follows e s c → OpensAway a c
  follows_away (event.Ask now port token user k) s c f = obeys_away now k s c f
  follows_away (event.Arrived now x) s c f = answers_away x.body x.from s c f
  follows_away (event.Ended now port id start status output error) s c f = subst (OpensAway a) (sym f.4) tt
  follows_away (event.Unlaunched now id start) s c f = subst (OpensAway a) (sym f.3) tt
  follows_away (event.Written now file) s c f = subst (OpensAway a) (sym f) tt
  follows_away (event.Unwritten now file) s c f = absurd f
  follows_away (event.Tick now) s c f = subst (OpensAway a) (sym f.1) tt

pub record IsAway (m : Moment) : Type 0 where
  pub hands : (a : HostId) (s : Plain) → At m.states a s → list_all (is_away a) s.hands ≡ true

module _ (site : List (List ℕ)) (m : Moment) (sound : IsSound site m) (h : HostId) (s : Plain) (there : At m.states h s) where
  way_away : (way : Way m.packets h s) (c : Change (List ℕ)) → change_by way ≡ Some c → OpensAway h c
  way_away (Taken e comes) c is = follows_away h e s c (some-if (Follows e s) (step e s).change c (step_makes s e) is)
  way_away (Begun now x begun) c is = by c is
    where
      by : (c : Change (List ℕ)) → x.change ≡ Some c → OpensAway h c
      by (HandOpened peer number id queue since) is =
          let host = sound.hosts h.0 s there in
          let me : s.me ≡ h = λ j. (host.head j).0 in
          ap (λ i. same_host i peer) (sym me) ∙ opens_away now s (steady s host.order) x peer number id queue since is begun
      by (Submitted queue job script) is = tt
      by c is = tt
  way_away Booted c is = subst (OpensAway h) (same_Some Boot c is) tt

  put_away : IsAway m → (u : Plain) → list_all (is_away h) u.hands ≡ true → (a : HostId) (v : Plain) → At (put_state h u m.states) a v
      → list_all (is_away a) v.hands ≡ true
  put_away k u new a v at = by (same_host a h) refl
    where
      by : (c : Bool) → same_host a h ≡ c → list_all (is_away a) v.hands ≡ true
      by true e =
          let here : a ≡ h = host_exact a h e in
          let same : u ≡ v = same_Some u v (sym (get-here h.0 u s m.states there)
          ∙ (ap (λ (i : HostId). slice_get (put_state h u m.states) i.0) (sym here) ∙ at)) in
          subst (λ w. list_all (is_away a) w.hands ≡ true) same (subst (λ i. list_all (is_away i) u.hands ≡ true) (sym here) new)
      by false e = k.hands a v (sym (get-other h.0 a.0 (λ _. u) m.states (λ same. true≢false (sym (ap (λ n. n == h.0) (sym same) ∙ host_same h) ∙ e))) ∙ at)

  after_away : IsAway m → (o : Option (Change (List ℕ))) → ((c : Change (List ℕ)) → o ≡ Some c → Suits s c × OpensAway h c)
      → list_all (is_away h) (after_change o s).hands ≡ true
  after_away k None suits = k.hands h s there
  after_away k (Some c) suits = let p = suits c refl in away_kept h c s p.0.fit p.1 (k.hands h s there)

pub away_keeps : (site : List (List ℕ)) → Keeps site IsAway
away_keeps site = record {
  idle = λ m x sound idle k. record { hands = k.hands };
  kept = λ m sound h s there way c is suits k. record {
    hands = put_away site m sound h s there k (applied c s)
        (away_kept h c s suits.fit (way_away site m sound h s there way c is) (k.hands h s there));
  };
  made = λ m sound h s there way suits k. record {
    hands = put_away site m sound h s there k (after_change (change_by way) s)
        (after_away site m sound h s there k (change_by way) (λ c is. (suits c is, way_away site m sound h s there way c is)));
  };
}

pub new_away : (site : List (List ℕ)) → IsAway (moment (new_world site) [])
new_away site = record {
  hands = λ a s at. (let k = new_state site 0 site a.0 s at in
      subst (λ (u : Plain). list_all (is_away a) u.hands ≡ true) (sym k.1) refl);
}
