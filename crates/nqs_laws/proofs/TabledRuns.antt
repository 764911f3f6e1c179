-- At every moment of a run the hosts tell one table.
use Rattle.std.proofs.Common.{◌≡◌, ℕ, ◌+◌, ◌<◌, ◌≤◌, ◌⊎◌, inl, inr, Bool, true, false, not, ◌||◌, nat_le, List, [], ◌∷◌, map, length, slice_get, Option, None}
use Rattle.std.proofs.Common.{Some}
use Rattle.std.proofs.Common.{true≢false, zero, suc, refl, sym, ap, subst, ◌∙◌, arith, if◌then◌else◌}
use Rattle.std.proofs.lemmas.Bool.{and_parts, eqb-true, not-true, leb-true, lt-ltb}
use Rattle.std.proofs.lemmas.Option.{same_Some, none-some}
use Rattle.nqs_types.specs.Ids.{id_eq, id_exact}
use Rattle.nqs_state.specs.State.{Plain}
use Rattle.nqs_state.specs.Keys.{is_hand, is_promise}
use Rattle.nqs_types.specs.declared.ids.HostId.{HostId}
use Rattle.nqs_types.specs.declared.request.Hand.{Hand}
use Rattle.nqs_types.specs.declared.request.Phase.{Phase}
use Rattle.nqs_types.specs.declared.request.Phase.TheVariants.{Offered, Committed}
use Rattle.nqs_types.specs.declared.change.Change.{Change}
use Rattle.nqs_types.specs.declared.change.Change.TheVariants.{Submitted, HandCommitted, HandsSilent, Accepted}
use Rattle.nqs_rules.specs.Tests.{is_offered, is_routing, is_unheld}
use Rattle.nqs_rules.specs.Find.{peer_number, find_row, find_hand, find_promise, host_at}
use Rattle.nqs_rules.specs.Format.{formatted, new_peer}
use Rattle.nqs_rules.specs.Handover.{closes, was_given, carried_of}
use Rattle.nqs_rules.specs.Applied.{applied, requeued_row}
use Rattle.nqs_rules.specs.Fits.{is_offered_hand}
use Rattle.nqs_rules.specs.Starts.{after_change}
use Rattle.nqs_rules.specs.InOrder.{IsInOrder, IsConsistent, is_hand_right, is_hand_given, is_promise_free}
use Rattle.nqs_rules.specs.World.{Act, new_world, hosts_from}
use Rattle.nqs_rules.specs.Run.{run}
use Rattle.nqs_rules.proofs.KeyFacts.{place_below}
use Rattle.nqs_rules.proofs.ListFacts.{list_all-found, list_all-weaker}
use Rattle.nqs_rules.proofs.StateFacts.{sites_are}
use Rattle.nqs_rules.proofs.RowsOrder.{hand_is}
use Rattle.nqs_rules.proofs.HandoversOrder.{not_committed, offer_or_none}
use Rattle.nqs_rules.specs.Picked.{PlainRow}
use Rattle.nqs_laws.specs.History.{history}
use Rattle.nqs_laws.specs.Sane.{AreSane, IsSite}
use Rattle.nqs_laws.specs.Loads.{Load, kept_load}
use Rattle.nqs_laws.proofs.Frame.{Moment, moment, put_state, put-same, Way, change_by}
use Rattle.nqs_rules.proofs.Sides.{head_kept}
use Rattle.nqs_laws.proofs.Sound.{IsSound, Keeps, Suits, me_is, host_kept, runs_keep}
use Rattle.nqs_laws.proofs.After.{Request}
use Rattle.nqs_laws.proofs.Makes.{HasHand}
use Rattle.nqs_laws.proofs.Pair.{Ok}
use Rattle.nqs_laws.proofs.Views.{Pledging, pair_of, offered, hand_peer}
use Rattle.nqs_laws.proofs.Turns.{offer_at}
use Rattle.nqs_laws.proofs.Lows.{IsWide}
use Rattle.nqs_laws.proofs.Targets.{KeptPeer, known_peer, sender_known, promise_at}
use Rattle.nqs_laws.proofs.Paired.{At, IsPaired, GuardsOf, IsOne}
use Rattle.nqs_laws.proofs.Guarded.{way_guards}
use Rattle.nqs_laws.proofs.PairedRuns.{paired_keeps, low_right}
use Rattle.nqs_laws.proofs.Tabled.{Place, Nowhere, Sits, Arrives, Table, IsTabled, claim, updated}
use Rattle.nqs_laws.proofs.Handed.{row, promise, was_here, committed_table, committed_tabled, pledge, was_arriving, accepted_table, accepted_tabled, put_place}
use Rattle.nqs_laws.proofs.Advance.{row_table, IsInHost, host_tabled, silent_tabled}

-- what a change makes of the place of a request
abbrev pub StepOf : Change (List ℕ) → HostId → Plain → Request → Place → Place → Type 0
StepOf (HandCommitted peer number) h s x t t' =
    (t' ≡ t)
    ⊎ ((y : Hand) × (r : PlainRow) × (p : Pledging) × (find_hand peer number s ≡ Some y) × (x ≡ y.id) × (t ≡ Sits h r) × (is_routing r.state ≡ true)
    × (t' ≡ Arrives h peer number p.row) × ((kept_load p.row).carried ≡ carried_of r) × (p.row.doomed ≡ false))
StepOf (Accepted peer number) h s x t t' = (t' ≡ t) ⊎ ((p : Pledging) × (find_promise peer number s ≡ Some p) × (x ≡ p.row.id)
    × (t ≡ Arrives peer h number p.row)
    × (t' ≡ Sits h (requeued_row p.row)))
StepOf c h s x t t' = t' ≡ updated h (find_row x (applied c s)) t

-- the table after a change
pub record Advanced (states : List Plain) (h : HostId) (s : Plain) (c : Change (List ℕ)) (table : Table) : Type 0 where
  pub then_table : Table
  pub told : IsTabled (put_state h (applied c s) states) then_table
  pub steps : (x : Request) → StepOf c h s x (table x) (then_table x)

committed_step : (table : Table) (h : HostId) (s : Plain) (peer : HostId) (number : ℕ) (y : Hand) (r : PlainRow) (p : Pledging)
    → find_hand peer number s ≡ Some y → is_routing r.state ≡ true → (kept_load p.row).carried ≡ carried_of r → p.row.doomed ≡ false → table y.id ≡ Sits h r
    → (x : Request) → StepOf (HandCommitted peer number) h s x (table x) (put_place y.id (Arrives h peer number p.row) table x)
committed_step table h s peer number y r p found routes carried free here x = by (id_eq x y.id) refl
  where
    by : (b : Bool) → id_eq x y.id ≡ b → StepOf (HandCommitted peer number) h s x (table x) (if b then Arrives h peer number p.row else table x)
    by true e = inr (y, r, p, found, id_exact x y.id e, ap table (id_exact x y.id e) ∙ here, routes, refl, carried, free)
    by false e = inl refl

accepted_step : (table : Table) (h : HostId) (s : Plain) (peer : HostId) (number : ℕ) (p : Pledging) → find_promise peer number s ≡ Some p
    → table p.row.id ≡ Arrives peer h number p.row
    → (x : Request) → StepOf (Accepted peer number) h s x (table x) (put_place p.row.id (Sits h (requeued_row p.row)) table x)
accepted_step table h s peer number p found here x = by (id_eq x p.row.id) refl
  where
    by : (b : Bool) → id_eq x p.row.id ≡ b → StepOf (Accepted peer number) h s x (table x) (if b then Sits h (requeued_row p.row) else table x)
    by true e = inr (p, found, id_exact x p.row.id e, ap table (id_exact x p.row.id e) ∙ here, refl)
    by false e = inl refl

-- there is a state at each place below the number of states
state_below : (states : List Plain) (n : ℕ) → n < length states → (t : Plain) × (slice_get states n ≡ Some t)
state_below [] n below = absurd (omega arith)
state_below (t ∷ states) zero below = (t, refl)
state_below (t ∷ states) (suc n) below = state_below states n (omega arith)

module _ (site : List (List ℕ)) (m : Moment) (sound : IsSound site m) (paired : IsPaired m.states m.packets) (h : HostId) (s : Plain)
    (there : At m.states h s) where
  -- a peer that is known has a state
  pub peer_state : (peer : HostId) → KeptPeer s peer → (t : Plain) × At m.states peer t
  peer_state peer known =
      let host = sound.hosts h.0 s there in
      let below = place_below s.peers peer.0 known.0 known.1 in
      let peers : length s.peers ≡ length s.site = eqb-true (length s.peers) (length s.site) (sites_are s host.order.site).peers in
      let sites : length s.site ≡ length site = ap length (λ j. (host.head j).1) in
      state_below m.states peer.0 (let count = sound.count in omega (arith, below, peers, sites, count))

  module _ (table : Table) (told : IsTabled m.states table) (way : Way m.packets h s) (c : Change (List ℕ)) (is : change_by way ≡ Some c)
      (suits : Suits s c) where
    guards_of : IsOne c → GuardsOf m.states h s c
    guards_of one = way_guards m.states m.packets paired h s there (sound.hosts h.0 s there).order (sound.hosts h.0 s there).calm way c is suits.fit one

    in_host : IsOne c → IsInHost c → IsTabled (put_state h (applied c s) m.states) (row_table h (applied c s) table)
    in_host one inside =
        let host = sound.hosts h.0 s there in
        host_tabled m.states m.packets paired h s there (me_is site m sound h s there) host.order host.calm table told c
        suits.fit (low_right c suits.sane) one inside
        (host_kept site h.0 s host c suits.fit suits.sane suits.short).order (λ j. (head_kept c s suits.fit j).0) (guards_of one)

  offer_phase : (y : Hand) → is_offered_hand y ≡ true → y.phase ≡ Offered
  offer_phase y k = by y.phase refl k
    where
      by : (p : Phase) → y.phase ≡ p → is_offered p ≡ true → y.phase ≡ Offered
      by Offered e k = e
      by Committed e k = absurd (true≢false (sym k))

  undoomed : (peer : HostId) (number : ℕ) (t : Plain) → At m.states peer t → (p : Pledging) → find_promise h number t ≡ Some p → p.row.doomed ≡ false
  undoomed peer number t at p e = not-true p.row.doomed (and_parts (is_unheld p.row.hold) (not p.row.doomed)
      (list_all-found is_promise_free (is_promise (peer_number h number)) t.promises p (sound.hosts peer.0 t at).calm.promises e)).1

  module _ (table : Table) (told : IsTabled m.states table) (way : Way m.packets h s) where
    committed : (peer : HostId) (number : ℕ) → change_by way ≡ Some (HandCommitted peer number) → Suits s (HandCommitted peer number)
        → (o : IsInOrder s) (calm : IsConsistent s) (hand : HasHand Offered peer number s) (t : Plain) (at : At m.states peer t)
        → Advanced m.states h s (HandCommitted peer number) table
    committed peer number is suits o calm hand t at =
        let guards = way_guards m.states m.packets paired h s there o calm way (HandCommitted peer number) is suits.fit
        (λ until ks e. (let no : ⊥ = cc in no)) in
        let r = row m.states m.packets paired h s there o calm table told peer number suits.fit guards hand t at in
        let p = promise m.states m.packets paired h s there o calm table told peer number suits.fit guards hand t at in
        record {
          then_table = committed_table m.states m.packets paired h s there o calm table told peer number suits.fit guards hand t at;
          told = committed_tabled m.states m.packets paired h s there o calm table told peer number suits.fit guards hand t at;
          steps = committed_step table h s peer number hand.hand r.0 p.0 hand.found r.2 (ap (λ (l : Load). l.carried) p.2) (undoomed peer number t at p.0 p.1)
              (was_here m.states m.packets paired h s there o calm table told peer number suits.fit guards hand t at);
        }

    accepts : (peer : HostId) (number : ℕ) → change_by way ≡ Some (Accepted peer number) → Suits s (Accepted peer number)
        → (o : IsInOrder s) (calm : IsConsistent s) (u : Plain) (at : At m.states peer u) → Advanced m.states h s (Accepted peer number) table
    accepts peer number is suits o calm u at =
        let guards = way_guards m.states m.packets paired h s there o calm way (Accepted peer number) is suits.fit (λ until ks e. (let no : ⊥ = cc in no)) in
        let p = pledge m.states m.packets paired h s there o calm table told peer number suits.fit guards u at in
        record {
          then_table = accepted_table m.states m.packets paired h s there o calm table told peer number suits.fit guards u at;
          told = accepted_tabled m.states m.packets paired h s there o calm table told peer number suits.fit guards u at;
          steps = accepted_step table h s peer number p.0 p.1 (was_arriving m.states m.packets paired h s there o calm table told peer number suits.fit guards u
              at);
        }

    plain_advance : (c : Change (List ℕ)) → ((x : Request) → StepOf c h s x (table x) (row_table h (applied c s) table x))
        → IsTabled (put_state h (applied c s) m.states) (row_table h (applied c s) table) → Advanced m.states h s c table
    plain_advance c steps then_told = record { then_table = row_table h (applied c s) table; told = then_told; steps = steps }

    -- the table after a change
    pub advance : (c : Change (List ℕ)) → change_by way ≡ Some c → Suits s c → Advanced m.states h s c table
    advance (HandCommitted peer number) is suits =
        let host = sound.hosts h.0 s there in
        let k = offer_at s host.order host.calm peer number is_offered_hand suits.fit in
        let hand : HasHand Offered peer number s = record { hand = k.0; found = k.1; is = offer_phase k.0 k.2 } in
        let known = subst (KeptPeer s) (sym (hand_peer s (peer_number peer number) k.0 k.1))
        (known_peer s k.0.peer (is_hand_given k.0.number) (hand_is s k.0
        (list_all-found (is_hand_right s) (is_hand (peer_number peer number)) s.hands k.0 host.order.hands k.1)).given) in
        let t = peer_state peer known in
        committed peer number is suits host.order host.calm hand t.0 t.1
    advance (Accepted peer number) is suits =
        let host = sound.hosts h.0 s there in
        let p = promise_at s peer number suits.fit in
        let u = peer_state peer (sender_known s host.order (peer_number peer number) p.0 p.1) in
        accepts peer number is suits host.order host.calm u.0 u.1
    advance (HandsSilent until ks) is suits =
        let host = sound.hosts h.0 s there in
        plain_advance (HandsSilent until ks) (λ x. refl)
        (silent_tabled until ks m.states m.packets h s there (me_is site m sound h s there) host.order host.calm
        (list_all-weaker _ (λ l. not_committed (find_hand l.peer l.number s))
        (λ l. offer_or_none (find_hand l.peer l.number s)) ks suits.fit) paired table told)
    advance (Submitted queue job script) is suits = plain_advance (Submitted queue job script) (λ x. refl)
        (in_host table told way (Submitted queue job script) is suits (λ until ks e. (let no : ⊥ = cc in no)) tt)
    advance c is suits = plain_advance c (λ x. refl) (in_host table told way c is suits (λ until ks e. (let no : ⊥ = cc in no)) tt)

-- the pairs of hosts, and the table that they tell
pub record IsNet (m : Moment) : Type 0 where
  pub paired : IsPaired m.states m.packets
  pub table : Table
  pub told : IsTabled m.states table

-- a new network

pub new_state : (site : List (List ℕ)) (place : ℕ) (names : List (List ℕ)) (n : ℕ) (s : Plain)
    → slice_get (map (λ x. x.state) (hosts_from place site names)) n ≡ Some s → (k : ℕ) × (s ≡ formatted (host_at k) site)
new_state site place [] n s e = absurd (none-some s e)
new_state site place (name ∷ names) zero s e = (place, sym (same_Some _ s e))
new_state site place (name ∷ names) (suc n) s e = new_state site (place + 1) names n s e

-- each host knows each
pub new_known : (site : List (List ℕ)) (place : ℕ) (names : List (List ℕ)) (n : ℕ) (s : Plain)
    → slice_get (map (λ x. x.state) (hosts_from place site names)) n ≡ Some s → slice_get (map (λ _. new_peer) names) n ≡ Some new_peer
new_known site place [] n s e = absurd (none-some s e)
new_known site place (name ∷ names) zero s e = refl
new_known site place (name ∷ names) (suc n) s e = new_known site (place + 1) names n s e

new_closed : (site : List (List ℕ)) (n k : ℕ) → closes n (slice_get (map (λ _. new_peer) site) k) ≡ true → n ≤ 0
new_closed [] n k e = absurd (true≢false (sym e))
new_closed (name ∷ site) n zero e = leb-true n 0 (of (nat_le n 0) e)
  where
    of : (b : Bool) → (b || false) ≡ true → b ≡ true
    of true e = refl
    of false e = absurd (true≢false (sym e))
new_closed (name ∷ site) n (suc k) e = new_closed site n k e

new_pair : (site : List (List ℕ)) (a b : HostId) (i j : ℕ) → slice_get (map (λ _. new_peer) site) b.0 ≡ Some new_peer → (n : ℕ)
    → Ok (pair_of a (formatted (host_at i) site) b (formatted (host_at j) site) n)
new_pair site a b i j known n = record {
  offer = tt;
  pledge = tt;
  closed = λ e. (let few = new_closed site n a.0 e in ap (was_given n) known ∙ lt-ltb n 1 (omega (arith, few)));
}

pub new_net : (site : List (List ℕ)) → IsNet (moment (new_world site) [])
new_net site = record {
  paired = record {
    wide = λ a s at. (let k = new_state site 0 site a.0 s at in subst IsWide (sym k.1) (λ b. omega arith));
    pairs = λ a b s t at bt n. (let k = new_state site 0 site a.0 s at in let l = new_state site 0 site b.0 t bt in
        subst (λ u. Ok (pair_of a u b t n)) (sym k.1) (subst (λ v. Ok (pair_of a (formatted (host_at k.0) site) b v n)) (sym l.1)
        (new_pair site a b k.0 l.0 (new_known site 0 site b.0 t bt) n)));
    words = λ x sent. absurd (none-some x sent.1);
    lows = λ x sent. absurd (none-some x sent.1);
  };
  table = λ x. Nowhere;
  told = record {
    rows = λ h s at x. (let k = new_state site 0 site h.0 s at in subst (λ u. find_row x u ≡ None) (sym k.1) refl);
    claims = λ a b s t at bt n x. (let k = new_state site 0 site a.0 s at in subst (λ u. claim (offered u b n) (find_promise a n t) x ≡ None) (sym k.1) refl);
    given = λ x s at below. refl;
    placed = λ x. tt;
  };
}

pub new_nowhere : (site : List (List ℕ)) (x : Request) → (new_net site).table x ≡ Nowhere
unfolding new_net
new_nowhere site x = refl

module _ (site : List (List ℕ)) where
  net_kept : (m : Moment) → IsSound site m → (h : HostId) (s : Plain) → At m.states h s → (way : Way m.packets h s) (o : Option (Change (List ℕ)))
      → change_by way ≡ o → ((c : Change (List ℕ)) → o ≡ Some c → Suits s c) → IsNet m → (t : Table) × IsTabled (put_state h (after_change o s) m.states) t
  net_kept m sound h s there way None is suits k = (k.table, subst (λ l. IsTabled l k.table) (sym (put-same h.0 s m.states there)) k.told)
  net_kept m sound h s there way (Some c) is suits k = let a = advance site m sound k.paired h s there k.table k.told way c is (suits c refl) in
      (a.then_table, a.told)

  pub net_keeps : Keeps site IsNet
  net_keeps = record {
    idle = λ m x sound idle k. record { paired = k.paired; table = k.table; told = k.told };
    kept = λ m sound h s there way c is suits k. (let a = advance site m sound k.paired h s there k.table k.told way c is suits in
        record { paired = (paired_keeps site).kept m sound h s there way c is suits k.paired; table = a.then_table; told = a.told });
    made = λ m sound h s there way suits k. (let a = net_kept m sound h s there way (change_by way) refl suits k in
        record { paired = (paired_keeps site).made m sound h s there way suits k.paired; table = a.0; told = a.1 });
  }

  pub run_net : IsSite site → (acts : List Act) → AreSane acts → IsNet (moment (run acts (new_world site)).world (history acts (new_world site)))
  run_net few acts sane = runs_keep site IsNet net_keeps few.1 (new_net site) acts sane
