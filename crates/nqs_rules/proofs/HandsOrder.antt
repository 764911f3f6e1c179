-- Changes of handovers: a state in order stays so.
use Rattle.std.proofs.Common.{◌≡◌, ◌+◌, Bool, true, false, cond, not, ◌&&◌, ◌==◌, nat_le, List, [], ◌∷◌, ◌++◌, map, filter, find, length, Some, suc, refl, sym}
use Rattle.std.proofs.Common.{ap, ◌∙◌, arith, if◌then◌else◌}
use Rattle.std.proofs.lemmas.Bool.{and_parts, and_from, leb-true, le-leb, ltb-true, not-true, not_from_false, or_parts, or_from}
use Rattle.std.proofs.lemmas.List.{map-append, length-append}
use Rattle.std.proofs.lemmas.List.Elements.{filter-append}
use Rattle.std.proofs.lemmas.Option.{same_Some, none-some}
use Rattle.std.specs.List.{list_any, list_all}
use Rattle.nqs_state.specs.State.{State}
use Rattle.nqs_base.specs.Same.{number_exact}
use Rattle.nqs_types.specs.Ids.{id_eq, id_exact, peer_number_eq, peer_number_exact, hand_key}
use Rattle.nqs_base_tables.specs.Table.{change_first, without_first}
use Rattle.nqs_state.specs.Keys.{is_hand}
use Rattle.nqs_types.specs.declared.ids.HostId.{HostId}
use Rattle.nqs_types.specs.declared.ids.RequestId.{RequestId}
use Rattle.nqs_types.specs.declared.ids.PeerNumber.{PeerNumber}
use Rattle.nqs_types.specs.declared.request.Hand.{Hand}
use Rattle.nqs_rules.specs.Tests.{is_offered, same_host}
use Rattle.nqs_rules.specs.Routing.{has_room_for_hand}
use Rattle.nqs_rules.specs.Applied.{committed, drop_hand}
use Rattle.nqs_rules.specs.Fits.{is_offered_hand}
use Rattle.nqs_rules.specs.InOrder.{IsInOrder, are_distinct, offered_ids, hands_to, has_few_hands, is_hand_right}
use Rattle.nqs_rules.proofs.Chains.{differ}
use Rattle.nqs_rules.proofs.Sublists.{IsPart, skip, keep, whole, without_part, filter_parts, map_part, part_length, part_all, part_distinct}
use Rattle.nqs_rules.proofs.ListFacts.{list_all-weaker, list_all-changed, map-changed, list_all-found}
use Rattle.nqs_rules.proofs.ListMaps.{list_any-map}
use Rattle.nqs_rules.proofs.KeyFacts.{all-added, distinct-added, turned}
use Rattle.nqs_rules.proofs.StateFacts.{keys_are}
use Rattle.nqs_rules.proofs.SameBut.{with_hands}
use Rattle.nqs_rules.proofs.RowFacts.{same_id, same_it, same_peer_number}
use Rattle.nqs_rules.proofs.RowsOrder.{is_no_offer_of, hand_is, hand_right}

-- offers

-- a committed hand is no offer
committed_offers : (t : Hand → Bool) (hs : List Hand) → IsPart (map (λ h. h.id) (filter is_offered_hand (change_first t committed hs)))
    (map (λ h. h.id) (filter is_offered_hand hs))
committed_offers t [] = whole []
committed_offers t (x ∷ hs) = by (t x) (is_offered x.phase) (committed_offers t hs)
  where
    kept : (c : Bool) → IsPart (map (λ h. h.id) (filter is_offered_hand (change_first t committed hs))) (map (λ h. h.id) (filter is_offered_hand hs))
        → IsPart (map (λ h. h.id) (cond c (x ∷ filter is_offered_hand (change_first t committed hs)) (filter is_offered_hand (change_first t committed hs))))
        (map (λ h. h.id) (cond c (x ∷ filter is_offered_hand hs) (filter is_offered_hand hs)))
    kept true rest = keep rest
    kept false rest = rest

    gone : (c : Bool) → IsPart (map (λ h. h.id) (filter is_offered_hand hs))
        (map (λ h. h.id) (cond c (x ∷ filter is_offered_hand hs) (filter is_offered_hand hs)))
    gone true = skip (whole (map (λ h. h.id) (filter is_offered_hand hs)))
    gone false = whole (map (λ h. h.id) (filter is_offered_hand hs))

    by : (b c : Bool) → IsPart (map (λ h. h.id) (filter is_offered_hand (change_first t committed hs))) (map (λ h. h.id) (filter is_offered_hand hs))
        → IsPart (map (λ h. h.id) (filter is_offered_hand (if b then committed x ∷ hs else x ∷ change_first t committed hs)))
        (map (λ h. h.id) (filter is_offered_hand (x ∷ hs)))
    by true c rest = gone (is_offered x.phase)
    by false c rest = kept (is_offered x.phase) rest

-- what no offer passes, the found one doesn't
found_offer : (q : RequestId → Bool) (t : Hand → Bool) (hs : List Hand) (h : Hand) → find t hs ≡ Some h → is_offered h.phase ≡ true
    → list_any q (map (λ x. x.id) (filter is_offered_hand hs)) ≡ false → q h.id ≡ false
found_offer q t [] h found offered none = absurd (none-some h found)
found_offer q t (x ∷ hs) h found offered none = by (t x) found (is_offered x.phase) refl none (found_offer q t hs h)
  where
    by : (b : Bool) → cond b (Some x) (find t hs) ≡ Some h → (c : Bool) → is_offered x.phase ≡ c
        → list_any q (map (λ y. y.id) (cond c (x ∷ filter is_offered_hand hs) (filter is_offered_hand hs))) ≡ false
        → (find t hs ≡ Some h → is_offered h.phase ≡ true → list_any q (map (λ y. y.id) (filter is_offered_hand hs)) ≡ false → q h.id ≡ false) → q h.id ≡ false
    by true found true e none rest = ap (λ y. q y.id) (sym (same_Some x h found))
        ∙ (or_parts (q x.id) (list_any q (map (λ y. y.id) (filter is_offered_hand hs))) none).0
    by true found false e none rest = differ (is_offered h.phase) offered (ap (λ y. is_offered y.phase) (sym (same_Some x h found)) ∙ e)
    by false found true e none rest = rest found offered (or_parts (q x.id) (list_any q (map (λ y. y.id) (filter is_offered_hand hs))) none).1
    by false found false e none rest = rest found offered none

no_offers_left : (id : RequestId) (hs : List Hand) → list_any (id_eq id) (map (λ x. x.id) (filter is_offered_hand hs)) ≡ false
    → list_all (is_no_offer_of id) hs ≡ true
no_offers_left id [] none = refl
no_offers_left id (x ∷ hs) none = by (is_offered x.phase) none (no_offers_left id hs)
  where
    by : (c : Bool) → list_any (id_eq id) (map (λ y. y.id) (cond c (x ∷ filter is_offered_hand hs) (filter is_offered_hand hs))) ≡ false
        → (list_any (id_eq id) (map (λ y. y.id) (filter is_offered_hand hs)) ≡ false → list_all (is_no_offer_of id) hs ≡ true)
        → (not (c && id_eq id x.id) && list_all (is_no_offer_of id) hs) ≡ true
    by true none rest = let p = or_parts (id_eq id x.id) (list_any (id_eq id) (map (λ y. y.id) (filter is_offered_hand hs))) none in
        and_from (not (id_eq id x.id)) (list_all (is_no_offer_of id) hs) (not_from_false _ p.0) (rest p.1)
    by false none rest = rest none

-- with the one offer of a request gone, or committed, it has none
module _ (t : Hand → Bool) (h : Hand) (offered : is_offered h.phase ≡ true) where
  not_twice : (x : Hand) (hs : List Hand) → find t hs ≡ Some h → (c : Bool)
      → are_distinct id_eq (map (λ y. y.id) (cond c (x ∷ filter is_offered_hand hs) (filter is_offered_hand hs))) ≡ true
      → (not (c && id_eq h.id x.id) ≡ true) × (are_distinct id_eq (map (λ y. y.id) (filter is_offered_hand hs)) ≡ true)
  not_twice x hs found true d =
      let p = and_parts (not (list_any (id_eq x.id) (map (λ y. y.id) (filter is_offered_hand hs))))
      (are_distinct id_eq (map (λ y. y.id) (filter is_offered_hand hs))) d in
      (not_from_false _ (turned id_eq id_exact same_id x.id h.id (found_offer (id_eq x.id) t hs h found offered (not-true _ p.0))), p.1)
  not_twice x hs found false d = (refl, d)

  first_gone : (x : Hand) (hs : List Hand) → x ≡ h → (c : Bool) → is_offered x.phase ≡ c
      → are_distinct id_eq (map (λ y. y.id) (cond c (x ∷ filter is_offered_hand hs) (filter is_offered_hand hs))) ≡ true
      → list_all (is_no_offer_of h.id) hs ≡ true
  first_gone x hs is true e d = no_offers_left h.id hs (ap (λ y. list_any (id_eq y.id) (map (λ z. z.id) (filter is_offered_hand hs))) (sym is)
      ∙ not-true _ (and_parts (not (list_any (id_eq x.id) (map (λ y. y.id) (filter is_offered_hand hs))))
      (are_distinct id_eq (map (λ y. y.id) (filter is_offered_hand hs))) d).0)
  first_gone x hs is false e d = differ (is_offered h.phase) offered (ap (λ y. is_offered y.phase) (sym is) ∙ e)

  pub offer_gone : (hs : List Hand) → find t hs ≡ Some h → are_distinct id_eq (map (λ y. y.id) (filter is_offered_hand hs)) ≡ true
      → list_all (is_no_offer_of h.id) (without_first t hs) ≡ true
  offer_gone [] found d = refl
  offer_gone (x ∷ hs) found d = by (t x) found (offer_gone hs)
    where
      by : (b : Bool) → cond b (Some x) (find t hs) ≡ Some h → (find t hs ≡ Some h → are_distinct id_eq (map (λ y. y.id) (filter is_offered_hand hs)) ≡ true
          → list_all (is_no_offer_of h.id) (without_first t hs) ≡ true)
          → list_all (is_no_offer_of h.id) (if b then hs else x ∷ without_first t hs) ≡ true
      by true found rest = first_gone x hs (same_Some x h found) (is_offered x.phase) refl d
      by false found rest = let p = not_twice x hs found (is_offered x.phase) d in
          and_from (is_no_offer_of h.id x) (list_all (is_no_offer_of h.id) (without_first t hs)) p.0 (rest found p.1)

  pub offer_committed : (hs : List Hand) → find t hs ≡ Some h → are_distinct id_eq (map (λ y. y.id) (filter is_offered_hand hs)) ≡ true
      → list_all (is_no_offer_of h.id) (change_first t committed hs) ≡ true
  offer_committed [] found d = refl
  offer_committed (x ∷ hs) found d = by (t x) found (offer_committed hs)
    where
      by : (b : Bool) → cond b (Some x) (find t hs) ≡ Some h → (find t hs ≡ Some h → are_distinct id_eq (map (λ y. y.id) (filter is_offered_hand hs)) ≡ true
          → list_all (is_no_offer_of h.id) (change_first t committed hs) ≡ true)
          → list_all (is_no_offer_of h.id) (if b then committed x ∷ hs else x ∷ change_first t committed hs) ≡ true
      by true found rest = first_gone x hs (same_Some x h found) (is_offered x.phase) refl d
      by false found rest = let p = not_twice x hs found (is_offered x.phase) d in
          and_from (is_no_offer_of h.id x) (list_all (is_no_offer_of h.id) (change_first t committed hs)) p.0 (rest found p.1)

-- as many go to a host as before
few_changed : (t : Hand → Bool) (peer : HostId) (hs : List Hand) → length (filter (λ h. same_host peer h.peer) (change_first t committed hs))
    ≡ length (filter (λ h. same_host peer h.peer) hs)
few_changed t peer [] = refl
few_changed t peer (x ∷ hs) = by (t x) (same_host peer x.peer) (few_changed t peer hs)
  where
    there : (c : Bool) → length (filter (λ h. same_host peer h.peer) (change_first t committed hs)) ≡ length (filter (λ h. same_host peer h.peer) hs)
        → length (cond c (x ∷ filter (λ h. same_host peer h.peer) (change_first t committed hs))
        (filter (λ h. same_host peer h.peer) (change_first t committed hs)))
        ≡ length (cond c (x ∷ filter (λ h. same_host peer h.peer) hs) (filter (λ h. same_host peer h.peer) hs))
    there true rest = ap suc rest
    there false rest = rest

    here : (c : Bool) → length (cond c (committed x ∷ filter (λ h. same_host peer h.peer) hs) (filter (λ h. same_host peer h.peer) hs))
        ≡ length (cond c (x ∷ filter (λ h. same_host peer h.peer) hs) (filter (λ h. same_host peer h.peer) hs))
    here true = refl
    here false = refl

    by : (b c : Bool) → length (filter (λ h. same_host peer h.peer) (change_first t committed hs)) ≡ length (filter (λ h. same_host peer h.peer) hs)
        → length (filter (λ h. same_host peer h.peer) (if b then committed x ∷ hs else x ∷ change_first t committed hs))
        ≡ length (filter (λ h. same_host peer h.peer) (x ∷ hs))
    by true c rest = here (same_host peer x.peer)
    by false c rest = there (same_host peer x.peer) rest

module _ {E : Type 0} where
  -- fewer hands
  pub hands_part : (s : State E) (hands : List Hand) → IsPart hands s.hands → IsInOrder s → IsInOrder (record s { hands = hands })
  hands_part s hands part h = with_hands s hands h (part_distinct peer_number_eq (map_part hand_key part) (keys_are s h.keys).hands)
      (part_all (is_hand_right s) part h.hands)
      (list_all-weaker (has_few_hands s) (has_few_hands (record s { hands = hands })) fewer hands (part_all (has_few_hands s) part h.few))
      (part_distinct id_eq (map_part (λ x. x.id) (filter_parts is_offered_hand part)) h.offers)
    where
      fewer : (x : Hand) → has_few_hands s x ≡ true → has_few_hands (record s { hands = hands }) x ≡ true
      fewer x k =
          let less = part_length (filter_parts (λ y. same_host x.peer y.peer) part) in
          let few = leb-true (length (hands_to x.peer s)) 8 k in
          le-leb (length (hands_to x.peer (record s { hands = hands }))) 8 (omega (arith, less, few))

  pub hand_dropped : (s : State E) (k : PeerNumber) → IsInOrder s → IsInOrder (drop_hand k s)
  hand_dropped s k h = hands_part s (without_first (is_hand k) s.hands) (without_part (is_hand k) s.hands) h

  -- a hand is committed
  pub hand_changed : (s : State E) (k : PeerNumber) → IsInOrder s → IsInOrder (record s { hands = change_first (is_hand k) committed s.hands })
  hand_changed s k h =
      let t : State E = record s { hands = change_first (is_hand k) committed s.hands } in
      with_hands s (change_first (is_hand k) committed s.hands) h
      (ap (are_distinct peer_number_eq) (map-changed hand_key (is_hand k) committed (λ x. refl) s.hands) ∙ (keys_are s h.keys).hands)
      (list_all-changed (is_hand_right s) (is_hand k) committed s.hands h.hands
      (λ x found. right x (list_all-found (is_hand_right s) (is_hand k) s.hands x h.hands found)))
      (list_all-changed (has_few_hands t) (is_hand k) committed s.hands (list_all-weaker (has_few_hands s) (has_few_hands t) fewer s.hands h.few)
      (λ x found. fewer x (list_all-found (has_few_hands s) (is_hand k) s.hands x h.few found)))
      (part_distinct id_eq (committed_offers (is_hand k) s.hands) h.offers)
    where
      fewer : (x : Hand) → has_few_hands s x ≡ true → has_few_hands (record s { hands = change_first (is_hand k) committed s.hands }) x ≡ true
      fewer x q = ap (λ n. nat_le n 8) (few_changed (is_hand k) x.peer s.hands) ∙ q

      right : (x : Hand) → is_hand_right s x ≡ true → is_hand_right s (committed x) ≡ true
      right x q = let p = hand_is s x q in hand_right s (committed x) (record { id = p.id; given = p.given; stands = refl })

  -- one hand more, under a new number, to a host that fewer than eight went to, for a request that
  -- wasn't offered
  pub hand_added : (s : State E) (x : Hand) → IsInOrder s → is_hand_right s x ≡ true → has_room_for_hand x.peer s ≡ true
      → list_any (is_hand (hand_key x)) s.hands ≡ false → list_all (is_no_offer_of x.id) s.hands ≡ true → is_offered x.phase ≡ true
      → IsInOrder (record s { hands = s.hands ++ x ∷ [] })
  hand_added s x h right room new unoffered offered =
      let t : State E = record s { hands = s.hands ++ x ∷ [] } in
      with_hands s (s.hands ++ x ∷ []) h
      (ap (are_distinct peer_number_eq) (map-append hand_key s.hands (x ∷ []))
      ∙ distinct-added peer_number_eq peer_number_exact same_peer_number (map hand_key s.hands) (hand_key x)
      (list_any-map hand_key (peer_number_eq (hand_key x)) s.hands ∙ new) (keys_are s h.keys).hands)
      (all-added (is_hand_right s) s.hands x h.hands right)
      (all-added (has_few_hands t) s.hands x (list_all-weaker (has_few_hands s) (has_few_hands t) (λ y few. few_old y few (same_host x.peer y.peer) refl)
      s.hands h.few) few_new)
      (ap (are_distinct id_eq) offers_more ∙ distinct-added id_eq id_exact same_id (offered_ids s) x.id (offer_new s.hands unoffered) h.offers)
    where
      offer_new : (hs : List Hand) → list_all (is_no_offer_of x.id) hs ≡ true → list_any (id_eq x.id) (map (λ y. y.id) (filter is_offered_hand hs)) ≡ false
      offer_new [] all = refl
      offer_new (y ∷ hs) all = let p = and_parts (is_no_offer_of x.id y) (list_all (is_no_offer_of x.id) hs) all in
          by (is_offered y.phase) p.0 (offer_new hs p.1)
        where
          by : (c : Bool) → not (c && id_eq x.id y.id) ≡ true → list_any (id_eq x.id) (map (λ z. z.id) (filter is_offered_hand hs)) ≡ false
              → list_any (id_eq x.id) (map (λ z. z.id) (cond c (y ∷ filter is_offered_hand hs) (filter is_offered_hand hs))) ≡ false
          by true k rest = or_from (id_eq x.id y.id) (list_any (id_eq x.id) (map (λ z. z.id) (filter is_offered_hand hs))) (not-true _ k) rest
          by false k rest = rest

      offers_more : offered_ids (record s { hands = s.hands ++ x ∷ [] }) ≡ offered_ids s ++ x.id ∷ []
      offers_more = ap (map (λ y. y.id)) (filter-append is_offered_hand s.hands (x ∷ []))
          ∙ map-append (λ y. y.id) (filter is_offered_hand s.hands) (filter is_offered_hand (x ∷ []))
          ∙ ap (λ b. offered_ids s ++ map (λ y. y.id) (cond b (x ∷ []) [])) offered

      count : (peer : HostId) → length (hands_to peer (record s { hands = s.hands ++ x ∷ [] }))
          ≡ length (hands_to peer s) + length (cond (same_host peer x.peer) (x ∷ []) [])
      count peer = ap length (filter-append (λ y. same_host peer y.peer) s.hands (x ∷ []))
          ∙ length-append (hands_to peer s) (filter (λ y. same_host peer y.peer) (x ∷ []))

      few_new : has_few_hands (record s { hands = s.hands ++ x ∷ [] }) x ≡ true
      few_new =
          let one : length (cond (same_host x.peer x.peer) (x ∷ []) []) ≡ 1 = ap (λ b. length (cond b (x ∷ []) [])) (same_it x.peer.0) in
          let below = ltb-true (length (hands_to x.peer s)) 8 room in
          le-leb (length (hands_to x.peer (record s { hands = s.hands ++ x ∷ [] }))) 8 (omega (arith, count x.peer, one, below))

      few_old : (y : Hand) → has_few_hands s y ≡ true → (b : Bool) → same_host x.peer y.peer ≡ b
          → has_few_hands (record s { hands = s.hands ++ x ∷ [] }) y ≡ true
      few_old y few true same = ap (λ n. nat_le (length (filter (λ z. n == z.peer.0) (s.hands ++ x ∷ []))) 8)
          (sym (number_exact x.peer.0 y.peer.0 same)) ∙ few_new
      few_old y few false other =
          let k = leb-true (length (hands_to y.peer s)) 8 few in
          let no : length (cond (same_host y.peer x.peer) (x ∷ []) []) ≡ 0 =
          ap (λ b. length (cond b (x ∷ []) [])) (turned (λ a b. a == b) number_exact same_it x.peer.0 y.peer.0 other) in
          le-leb (length (hands_to y.peer (record s { hands = s.hands ++ x ∷ [] }))) 8 (omega (arith, count y.peer, no, k))
