-- Handovers in every world that a run reaches.
use Rattle.std.proofs.Common.{◌≡◌, ℕ, Bool, true, false, ◌||◌, nat_lt, List, length, slice_get, Option, None, Some}
use Rattle.std.proofs.Common.{is_some, true≢false, refl, sym, ap, subst, ◌∙◌, arith, if◌then◌else◌}
use Rattle.std.proofs.lemmas.Bool.{and_parts, or_left, or_right, or_from, eqb-true, ltb-true, not-true, false_from_ne_true}
use Rattle.std.proofs.lemmas.Option.{none-some, same_Some}
use Rattle.std.specs.Option.{option_map, option_and_then}
use Rattle.nqs_base.proofs.Plain.{item_at}
use Rattle.nqs_state.specs.Keys.{is_row, is_hand, is_promise}
use Rattle.nqs_state.specs.State.{Plain}
use Rattle.nqs_types.specs.declared.ids.HostId.{HostId}
use Rattle.nqs_types.specs.declared.request.Carried.{Carried}
use Rattle.nqs_types.specs.declared.request.Hand.{Hand}
use Rattle.nqs_types.specs.declared.request.Peer.{Peer}
use Rattle.nqs_types.specs.declared.request.Phase.{Phase}
use Rattle.nqs_types.specs.declared.request.Phase.TheVariants.{Offered, Committed}
use Rattle.nqs_types.specs.declared.message.Message.{Message}
use Rattle.nqs_types.specs.declared.message.Body.{Body}
use Rattle.nqs_state.proofs.LeastLemmas.{found_id}
use Rattle.nqs_types.specs.declared.message.Body.TheVariants as body
use Rattle.nqs_rules.specs.Tests.{passes, is_offered, is_committed, same_host}
use Rattle.nqs_rules.specs.Find.{peer_number, has_row, find_row, find_hand, find_promise, has_promise, find_peer}
use Rattle.nqs_rules.specs.Fits.{is_offered_hand, is_committed_hand}
use Rattle.nqs_rules.specs.InOrder.{IsInOrder}
use Rattle.nqs_rules.specs.Handover.{was_given, is_not_given_here}
use Rattle.nqs_rules.specs.World.{World, Act, new_world, body_number}
use Rattle.nqs_rules.specs.Run.{run, states_of}
use Rattle.nqs_rules.proofs.KeyFacts.{place_below, found_any, any_found, none_found}
use Rattle.nqs_rules.proofs.RowFacts.{same_id}
use Rattle.nqs_rules.proofs.ListFacts.{list_all-found}
use Rattle.nqs_rules.proofs.StateFacts.{sites_are}
use Rattle.nqs_rules.specs.Net.{is_committed_to}
use Rattle.nqs_rules.specs.Picked.{PlainRow}
use Rattle.nqs_laws.specs.History.{history}
use Rattle.nqs_laws.specs.Sane.{AreSane, IsSite}
use Rattle.nqs_laws.specs.Handovers.{IsStateOf, WasSent as WasSentIn, is_open, is_closed_for, is_taken_for, AreInStep, IsTrueOf}
use Rattle.nqs_laws.specs.Loads.{Load, offered_load, kept_load, sent_load, load_of, promised_load, errand, handed_errand, promised_errand}
use Rattle.nqs_laws.specs.Between.{HasGivenNumber}
use Rattle.nqs_laws.proofs.Frame.{Moment, moment, WasSent as Sent, packet_sent}
use Rattle.nqs_laws.proofs.Sound.{IsSound, run_sound}
use Rattle.nqs_laws.proofs.Makes.{HasHand}
use Rattle.nqs_laws.proofs.Pair.{Offer, NoOffer, Open, Given, Pledged, IsTaken, IsNoOffer, IsGiven, IsOf, IsPromisedAs, Agrees}
use Rattle.nqs_laws.proofs.Pair.{OfferOk, PledgeOk, Ok}
use Rattle.nqs_laws.proofs.Views.{Pledging, offered, gave, pledge_seen, pledged, pair_of, host_exact, host_same, hand_peer}
use Rattle.nqs_laws.proofs.Targets.{promise_at}
use Rattle.nqs_laws.proofs.Paired.{At, HoldsFor, LowWord, open_row, open_offer, given_offer, committed_hand, pledge_at}
use Rattle.nqs_laws.proofs.Tabled.{Nowhere, Sits, Arrives, row_in, claim, sits_here, arrives_here}
use Rattle.nqs_laws.proofs.TabledRuns.{IsNet}
use Rattle.nqs_laws.proofs.Away.{IsAway, is_away}
use Rattle.nqs_laws.proofs.LicensedRuns.{IsHistory, run_history}

-- a handover that is found
hand_is : (phase : Phase) (test : Hand → Bool) → ((y : Hand) → test y ≡ true → y.phase ≡ phase) → (to : HostId) (n : ℕ) (s : Plain)
    → passes test (find_hand to n s) ≡ true → HasHand phase to n s
hand_is phase test exact to n s k = of (find_hand to n s) refl k
  where
    of : (o : Option Hand) → find_hand to n s ≡ o → passes test o ≡ true → HasHand phase to n s
    of None e k = absurd (true≢false (sym k))
    of (Some y) e k = record { hand = y; found = e; is = exact y k }

phase_offered : (p : Phase) → is_offered p ≡ true → p ≡ Offered
phase_offered Offered k = refl
phase_offered Committed k = absurd (true≢false (sym k))

phase_committed : (p : Phase) → is_committed p ≡ true → p ≡ Committed
phase_committed Offered k = absurd (true≢false (sym k))
phase_committed Committed k = refl

pub open_hand : (to : HostId) (n : ℕ) (s : Plain) → is_open to n s ≡ true → HasHand Offered to n s
open_hand = hand_is Offered is_offered_hand (λ y k. phase_offered y.phase k)

pub given_hand : (to : HostId) (n : ℕ) (s : Plain) → is_committed_to to n s ≡ true → HasHand Committed to n s
given_hand = hand_is Committed is_committed_hand (λ y k. phase_committed y.phase k)

module _ (site : List (List ℕ)) (m : Moment) (sound : IsSound site m) (net : IsNet m) where
  -- hosts know one another
  peer_is : (a b : HostId) (s t : Plain) → At m.states a s → At m.states b t → (p : Peer) × (find_peer a t ≡ Some p)
  peer_is a b s t sat tat =
      let host = sound.hosts b.0 t tat in
      let below = place_below m.states a.0 s sat in
      let peers : length t.peers ≡ length t.site = eqb-true (length t.peers) (length t.site) (sites_are t host.order.site).peers in
      let sites : length t.site ≡ length site = ap length (λ j. (host.head j).1) in
      item_at t.peers a.0 (let count = sound.count in omega (arith, below, peers, sites, count))

  module _ (a b : HostId) (s t : Plain) (sat : At m.states a s) (tat : At m.states b t) where
    order_s : IsInOrder s
    order_s = (sound.hosts a.0 s sat).order

    order_t : IsInOrder t
    order_t = (sound.hosts b.0 t tat).order

    ok : (n : ℕ) → Ok (pair_of a s b t n)
    ok n = net.paired.pairs a b s t sat tat n

    pub taken_up : (n : ℕ) → IsTaken (pledged t a n) (is_closed_for a n t) → is_taken_for a n t ≡ true
    taken_up n taken = by (has_promise a n t) refl
      where
        by : (c : Bool) → has_promise a n t ≡ c → (c || is_closed_for a n t) ≡ true
        by true e = refl
        by false e = subst (λ o. IsTaken (pledge_seen o) (is_closed_for a n t)) (none_found (is_promise (peer_number a n)) t.promises e) taken

    promised_ok : (n : ℕ) → has_promise a n t ≡ true → (was_given n (find_peer b s) ≡ true) × (is_closed_for a n t ≡ false)
    promised_ok n k = let p = pledge_at t a n k in subst (λ q. PledgeOk q (gave s b n) (is_closed_for a n t)) p.1 (ok n).pledge

    pub in_step : AreInStep a b s t
    in_step = record {
      offered = λ n k. (let e = open_offer s order_s b n (open_hand b n s k) in
          let o = subst (λ o. OfferOk o (gave s b n) (pledged t a n) (is_closed_for a n t)) e.1 (ok n).offer in o.1);
      given = λ n k. (let e = given_offer s b n (given_hand b n s k) in
          let o = subst (λ o. OfferOk o (gave s b n) (pledged t a n) (is_closed_for a n t)) e (ok n).offer in taken_up n o.1);
      promised = λ n k. (promised_ok n k).1;
      numbered = λ n k. numbered n (has_promise a n t) refl k;
    }
      where
        numbered : (n : ℕ) (c : Bool) → has_promise a n t ≡ c → (c || is_closed_for a n t) ≡ true → was_given n (find_peer b s) ≡ true
        numbered n true e k = (promised_ok n e).0
        numbered n false e k = (ok n).closed k

    -- messages

    given_or_closed : (n : ℕ) → IsGiven (offered s b n) (is_closed_for a n t) → (is_committed_to b n s || is_closed_for a n t) ≡ true
    given_or_closed n given = by (offered s b n) refl given
      where
        by : (o : Offer) → offered s b n ≡ o → IsGiven o (is_closed_for a n t) → (is_committed_to b n s || is_closed_for a n t) ≡ true
        by NoOffer e g = or_right (is_committed_to b n s) (is_closed_for a n t) g
        by (Open load) e g = or_right (is_committed_to b n s) (is_closed_for a n t) g
        by (Given id queue) e g = or_left (is_committed_to b n s) (is_closed_for a n t) (committed_hand s b n id queue e)

    pub no_hand : (n : ℕ) → IsNoOffer (offered s b n) → is_some (find_hand b n s) ≡ false
    no_hand n none = of (find_hand b n s) refl
      where
        by : (y : Hand) → find_hand b n s ≡ Some y → (p : Phase) → y.phase ≡ p → ⊥
        by y e Offered is = let o = open_offer s order_s b n (record { hand = y; found = e; is = is }) in subst IsNoOffer o.1 none
        by y e Committed is = subst IsNoOffer (given_offer s b n (record { hand = y; found = e; is = is })) none

        of : (o : Option Hand) → find_hand b n s ≡ o → is_some o ≡ false
        of None e = refl
        of (Some y) e = absurd (by y e y.phase refl)

    -- the row of an open handover, and what it carries
    pub open_load : (n : ℕ) → is_open b n s ≡ true → (hand : HasHand Offered b n s) × (r : PlainRow) × (find_row hand.hand.id s ≡ Some r)
        × (offered s b n ≡ Open (offered_load hand.hand.queue r)) × (load_of b n s ≡ Some (offered_load hand.hand.queue r))
    open_load n k =
        let hand = open_hand b n s k in
        let r = open_row s order_s b n hand in (
          hand,
          r.0,
          r.1,
          r.2,
          ap (option_and_then (λ (h : Hand). option_map (offered_load h.queue) (find_row h.id s))) hand.found
              ∙ ap (option_map (offered_load hand.hand.queue)) r.1,
        )

    pub offers_load : (n : ℕ) (load : Load) → IsOf (offered s b n) load → is_open b n s ≡ true → load_of b n s ≡ Some load
    offers_load n load is k =
        let o = open_load n k in
        let same : load ≡ offered_load o.0.hand.queue o.1 = subst (λ o. IsOf o load) o.3 is in
        o.4 ∙ ap Some (sym same)

    -- a promise, and what is seen of it
    pledge_found : (n : ℕ) → has_promise a n t ≡ true → (p : Pledging) × (find_promise a n t ≡ Some p) × (pledged t a n ≡ Pledged (kept_load p.row))
    pledge_found n promised = let p = promise_at t a n promised in (p.0, p.1, ap pledge_seen p.1)

    -- an open handover, and the promise of its number
    pub promise_agrees : (n : ℕ) → is_open b n s ≡ true → has_promise a n t ≡ true → promised_load a n t ≡ load_of b n s
    promise_agrees n opens promised =
        let o = open_load n opens in
        let p = pledge_found n promised in
        let agrees : Agrees (pledged t a n) (offered_load o.0.hand.queue o.1) =
        (subst (λ x. OfferOk x (gave s b n) (pledged t a n) (is_closed_for a n t)) o.3 (ok n).offer).2 in
        let same : kept_load p.0.row ≡ offered_load o.0.hand.queue o.1 = subst (λ x. Agrees x (offered_load o.0.hand.queue o.1)) p.2 agrees in
        ap (option_map (λ (p : Pledging). kept_load p.row)) p.1 ∙ (ap Some same ∙ sym o.4)

    -- a committed handover, and the promise of its number
    pub promise_named : (n : ℕ) → is_committed_to b n s ≡ true → has_promise a n t ≡ true → promised_errand a n t ≡ handed_errand b n s
    promise_named n given promised =
        let hand = given_hand b n s given in
        let p = pledge_found n promised in
        let e = given_offer s b n hand in
        let named : IsPromisedAs (pledged t a n) hand.hand.id hand.hand.queue =
        (subst (λ x. OfferOk x (gave s b n) (pledged t a n) (is_closed_for a n t)) e (ok n).offer).2 in
        let same : (p.0.row.id ≡ hand.hand.id) × (p.0.row.queue ≡ hand.hand.queue) =
        subst (λ x. IsPromisedAs x hand.hand.id hand.hand.queue) p.2 named in
        ap (option_map (λ (p : Pledging). errand p.row.id p.row.queue)) p.1
        ∙ ((λ j. Some (errand (same.0 j) (same.1 j))) ∙ sym (ap (option_map (λ (h : Hand). errand h.id h.queue)) hand.found))

  -- what was ever said is true
  pub words_are_true : (x : Message) → Sent x m.packets → (s t : Plain) → At m.states x.from s → At m.states x.to t → IsTrueOf x.body x.from x.to s t
  words_are_true x sent s t sat tat = of x.body (net.paired.words x sent s t sat tat) (net.paired.lows x sent s sat)
    where
      of : (b : Body) → HoldsFor (pair_of x.from s x.to t (body_number b)) (pair_of x.to t x.from s (body_number b)) b → LowWord b x.to s
          → IsTrueOf b x.from x.to s t
      of (body.Offer n low queue c script) h l = (offers_load x.from x.to s t sat tat n (sent_load queue c script) h.1, l.2, l.1)
      of (body.Ready n) h l = taken_up x.to x.from t s tat sat n h.1
      of (body.Refused n refusal) h l = h.0
      of (body.Commit n) h l = given_or_closed x.from x.to s t sat tat n h.1
      of (body.Done n) h l = h.1
      of (body.Inquire n) h l = taken_up x.to x.from t s tat sat n h.1
      of (body.Abort n) h l = no_hand x.from x.to s t sat tat n h.1
      of b h l = tt

  -- the number of what was ever said was given
  pub words_are_numbered : (x : Message) → Sent x m.packets → (s t : Plain) → At m.states x.from s → At m.states x.to t → HasGivenNumber x.body x.from x.to s t
  words_are_numbered x sent s t sat tat = of x.body (net.paired.words x sent s t sat tat)
    where
      of : (b : Body) → HoldsFor (pair_of x.from s x.to t (body_number b)) (pair_of x.to t x.from s (body_number b)) b → HasGivenNumber b x.from x.to s t
      of (body.Offer n low queue c script) h = h.0
      of (body.Ready n) h = h.0
      of (body.Refused n refusal) h = h.0
      of (body.Commit n) h = h.0
      of (body.Done n) h = h.0
      of (body.Inquire n) h = h.0
      of (body.Abort n) h = h.0
      of b h = tt

  module _ (away : IsAway m) where
    -- an open offer finds its request at its receiver neither as a row nor as one that is still to
    -- come
    pub offer_is_new : (a b : HostId) (s t : Plain) → At m.states a s → At m.states b t → (n : ℕ) (c : Carried) (queue script : List ℕ) → is_open b n s ≡ true
        → load_of b n s ≡ Some (sent_load queue c script) → (has_row c.id t || is_not_given_here c.id t) ≡ false
    offer_is_new a b s t sat tat n c queue script is carried = or_from (has_row c.id t) (is_not_given_here c.id t) (false_from_ne_true (has_row c.id t) no_row)
        (false_from_ne_true (is_not_given_here c.id t) no_number)
      where
        row : (r : PlainRow) × (find_row c.id s ≡ Some r)
        row =
            let o = open_load a b s t sat tat n is in
            let same : offered_load o.0.hand.queue o.1 ≡ sent_load queue c script =
            same_Some (offered_load o.0.hand.queue o.1) (sent_load queue c script) (sym o.4 ∙ carried) in
            let key : c.id ≡ o.0.hand.id = ap (λ (l : Load). l.carried.id) (sym same) ∙ sym (found_id o.0.hand.id s.rows o.1 o.2) in
            (o.1, ap (λ i. find_row i s) key ∙ o.2)

        here : net.table c.id ≡ Sits a row.0
        here = sits_here a (net.table c.id) row.0 (sym (net.told.rows a s sat c.id) ∙ row.1)

        apart : a ≡ b → ⊥
        apart e =
            let hand = open_hand b n s is in
            let peer : b ≡ hand.hand.peer = hand_peer s (peer_number b n) hand.hand hand.found in
            let far = list_all-found (is_away a) (is_hand (peer_number b n)) s.hands hand.hand (away.hands a s sat) hand.found in
            true≢false (sym (host_same a) ∙ (ap (same_host a) (e ∙ peer) ∙ not-true (same_host a hand.hand.peer) far))

        no_row : has_row c.id t ≡ true → ⊥
        no_row k = of (find_row c.id t) refl (found_any (is_row c.id) t.rows k)
          where
            of : (o : Option PlainRow) → find_row c.id t ≡ o → passes (λ _. true) o ≡ true → ⊥
            of None e k = true≢false (sym k)
            of (Some q) e k =
                let there : net.table c.id ≡ Sits b q = sits_here b (net.table c.id) q (sym (net.told.rows b t tat c.id) ∙ e) in
                apart (host_of (sym here ∙ there))
              where
                host_of : Sits a row.0 ≡ Sits b q → a ≡ b
                host_of e = cc

        no_number : is_not_given_here c.id t ≡ true → ⊥
        no_number k =
            let p = and_parts (same_host t.me c.id.host) (nat_lt t.seq c.id.seq) k in
            let me : t.me ≡ b = λ j. ((sound.hosts b.0 t tat).head j).0 in
            let host : c.id.host ≡ b = sym (host_exact t.me c.id.host p.0) ∙ me in
            let none = net.told.given c.id t ((λ j. slice_get m.states (host j).0) ∙ tat) (ltb-true t.seq c.id.seq p.1) in
            let no : Nowhere ≡ Sits a row.0 = sym none ∙ here in
            let wrong : ⊥ = cc in wrong

  -- a promise whose commit was sent finds no row of its request
  pub commit_finds_none : (a b : HostId) (s t : Plain) → At m.states a s → At m.states b t → (n : ℕ) (p : Pledging) → find_promise a n t ≡ Some p
      → (is_committed_to b n s || is_closed_for a n t) ≡ true → has_row p.row.id t ≡ false
  commit_finds_none a b s t sat tat n p found sent = false_from_ne_true (has_row p.row.id t)
      (λ k. of (find_row p.row.id t) refl (found_any (is_row p.row.id) t.rows k))
    where
      promised : has_promise a n t ≡ true
      promised = any_found (is_promise (peer_number a n)) t.promises p found

      committed : (c : Bool) → is_committed_to b n s ≡ c → (c || is_closed_for a n t) ≡ true → is_committed_to b n s ≡ true
      committed true e k = e
      committed false e k = absurd (true≢false (sym k ∙ (in_step a b s t sat tat).promised n promised))

      arrives : net.table p.row.id ≡ Arrives a b n p.row
      arrives =
          let hand = given_hand b n s (committed (is_committed_to b n s) refl sent) in
          let given : offered s b n ≡ Given hand.hand.id hand.hand.queue = given_offer s b n hand in
          let claims : claim (offered s b n) (find_promise a n t) p.row.id ≡ Some p.row =
          (λ j. claim (given j) (found j) p.row.id) ∙ ap (λ (c : Bool). if c then Some p.row else None) (same_id p.row.id) in
          arrives_here a b n (net.table p.row.id) p.row (sym (net.told.claims a b s t sat tat n p.row.id) ∙ claims)

      of : (o : Option PlainRow) → find_row p.row.id t ≡ o → passes (λ _. true) o ≡ true → ⊥
      of None e k = true≢false (sym k)
      of (Some q) e k = none-some q (ap (row_in b) (sym arrives) ∙ (sym (net.told.rows b t tat p.row.id) ∙ e))

-- worlds that a run reaches

module _ (site : List (List ℕ)) (few : IsSite site) (acts : List Act) (sane : AreSane acts) where
  abbrev world : World
  world = (run acts (new_world site)).world

  abbrev end : Moment
  end = moment world (history acts (new_world site))

  sound_end : IsSound site end
  sound_end = run_sound site few.1 acts sane

  history_end : IsHistory (states_of (new_world site)) end
  history_end = run_history site few acts sane

  pub all_in_step : (a b : HostId) (s t : Plain) → IsStateOf world a s → IsStateOf world b t → AreInStep a b s t
  all_in_step a b s t sat tat = in_step site end sound_end history_end.net a b s t sat tat

  pub all_true : (m : Message) → WasSentIn world m → (s t : Plain) → IsStateOf world m.from s → IsStateOf world m.to t → IsTrueOf m.body m.from m.to s t
  all_true m sent s t sat tat = words_are_true site end sound_end history_end.net m (packet_sent sent.0 world m sent.1) s t sat tat

  pub all_numbered : (m : Message) → WasSentIn world m → (s t : Plain) → IsStateOf world m.from s → IsStateOf world m.to t
      → HasGivenNumber m.body m.from m.to s t
  all_numbered m sent s t sat tat = words_are_numbered site end sound_end history_end.net m (packet_sent sent.0 world m sent.1) s t sat tat

  pub all_agree : (a b : HostId) (s t : Plain) → IsStateOf world a s → IsStateOf world b t → (n : ℕ) → is_open b n s ≡ true → has_promise a n t ≡ true
      → promised_load a n t ≡ load_of b n s
  all_agree a b s t sat tat = promise_agrees site end sound_end history_end.net a b s t sat tat

  pub all_named : (a b : HostId) (s t : Plain) → IsStateOf world a s → IsStateOf world b t → (n : ℕ) → is_committed_to b n s ≡ true → has_promise a n t ≡ true
      → promised_errand a n t ≡ handed_errand b n s
  all_named a b s t sat tat = promise_named site end sound_end history_end.net a b s t sat tat

  pub open_offers : (m : Message) (n low : ℕ) (queue : List ℕ) (c : Carried) (script : List ℕ) → WasSentIn world m → m.body ≡ body.Offer n low queue c script
      → (s t : Plain) → IsStateOf world m.from s → IsStateOf world m.to t → is_open m.to n s ≡ true → (has_row c.id t || is_not_given_here c.id t) ≡ false
  open_offers m n low queue c script sent is s t sat tat opens =
      offer_is_new site end sound_end history_end.net history_end.away m.from m.to s t sat tat n c queue script opens
      ((subst (λ b. IsTrueOf b m.from m.to s t) is (all_true m sent s t sat tat)).0 opens)

  pub accepted_rows : (m : Message) (n : ℕ) (p : Pledging) → WasSentIn world m → m.body ≡ body.Commit n → (s t : Plain) → IsStateOf world m.from s
      → IsStateOf world m.to t → find_promise m.from n t ≡ Some p → has_row p.row.id t ≡ false
  accepted_rows m n p sent is s t sat tat found =
      commit_finds_none site end sound_end history_end.net m.from m.to s t sat tat n p found
      (subst (λ b. IsTrueOf b m.from m.to s t) is (all_true m sent s t sat tat))
