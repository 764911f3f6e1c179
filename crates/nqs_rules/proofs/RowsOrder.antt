-- Changes of rows: a state in order stays so.
use Rattle.std.proofs.Common.{◌≡◌, ◌+◌, Bool, true, false, not, ◌&&◌, ◌||◌, nat_lt, nat_le, List, [], ◌∷◌, ◌++◌, map, find, length, Some, true≢false, refl, sym}
use Rattle.std.proofs.Common.{ap, ◌∙◌, arith}
use Rattle.std.proofs.lemmas.Bool.{leb-true, le-leb, not-true}
use Rattle.std.proofs.lemmas.Bool.Decides.{nat_tests}
use Rattle.std.proofs.lemmas.List.{map-append, length-append}
use Rattle.std.specs.List.{list_any, list_all}
use Rattle.nqs_state.specs.State.{State}
use Rattle.nqs_base.specs.Same.{number_exact}
use Rattle.nqs_types.specs.Ids.{id_eq, id_exact}
use Rattle.nqs_base_tables.specs.Table.{change_first, without_first}
use Rattle.nqs_state.specs.Keys.{is_row}
use Rattle.nqs_types.specs.declared.ids.RequestId.{RequestId}
use Rattle.nqs_types.specs.declared.request.Row.{Row}
use Rattle.nqs_types.specs.declared.request.Hand.{Hand}
use Rattle.nqs_rules.specs.Tests.{passes, is_offered, is_routing}
use Rattle.nqs_rules.specs.Find.{find_row, find_peer, has_row, held_count}
use Rattle.nqs_rules.specs.Applied.{is_offered_for}
use Rattle.nqs_rules.specs.Edits.{change_row, drop_row}
use Rattle.nqs_rules.specs.InOrder.{IsInOrder, are_distinct, same_number, arrivals_of, is_id_right, is_hand_given, is_hand_right, is_routing_row, is_row_right}
use Rattle.nqs_rules.proofs.Chains.{each, chained, imply, implied, not_both}
use Rattle.nqs_rules.proofs.Sublists.{without_part, map_part, part_before, part_length, part_all, part_distinct}
use Rattle.nqs_rules.proofs.ListFacts.{list_all-found, list_all-weaker, list_all-changed, map-changed}
use Rattle.nqs_rules.proofs.ListMaps.{list_any-map}
use Rattle.nqs_rules.proofs.KeyFacts.{all-both, all-added, find-before, turned, distinct-added, distinct-between, find-without_other, found_other}
use Rattle.nqs_rules.proofs.KeyFacts.{length_changed}
use Rattle.nqs_rules.proofs.StateFacts.{short_are, keys_are}
use Rattle.nqs_rules.proofs.SameBut.{with_requests}
use Rattle.nqs_rules.proofs.RowFacts.{same_id, same_it}

abbrev pub is_no_offer_of : RequestId → Hand → Bool
is_no_offer_of id h = not (is_offered_for id h)

module _ {E : Type 0} where
  -- the hands of offers have routing rows among these
  abbrev stands : List (Row E) → Hand → Bool
  stands rows h = not (is_offered h.phase) || passes is_routing_row (find (is_row h.id) rows)

  abbrev hand_tests : State E → Hand → List Bool
  hand_tests s h = passes (is_hand_given h.number) (find_peer h.peer s) ∷ stands s.rows h ∷ []

  pub record IsHand (s : State E) (h : Hand) : Type 0 where
    pub id : is_id_right s h.id ≡ true
    pub given : passes (is_hand_given h.number) (find_peer h.peer s) ≡ true
    pub stands : (not (is_offered h.phase) || passes is_routing_row (find_row h.id s)) ≡ true

  pub hand_is : (s : State E) (h : Hand) → is_hand_right s h ≡ true → IsHand s h
  hand_is s h k = let p = each (is_id_right s h.id) (hand_tests s h) k in record { id = p.0; given = p.1.0; stands = p.1.1.0 }

  pub hand_right : (s : State E) (h : Hand) → IsHand s h → is_hand_right s h ≡ true
  hand_right s h k = chained (is_id_right s h.id) (hand_tests s h) (k.id, (k.given, (k.stands, tt)))

  -- other rows of a state in order
  pub with_rows : (s : State E) (rows : List (Row E)) → IsInOrder s → nat_le (length rows + length s.promises) 10000 ≡ true
      → list_all (is_row_right s) rows ≡ true → are_distinct id_eq (map (λ r. r.id) rows) ≡ true
      → are_distinct same_number (map (λ r. r.arrival) rows ++ map (λ p. p.row.arrival) s.promises) ≡ true
      → list_all (stands rows) s.hands ≡ true → IsInOrder (record s { rows = rows })
  with_rows s rows h few right ids arrivals offers =
      let t = record s { rows = rows } in
      with_requests s rows s.promises h few ids (keys_are s h.keys).promises arrivals right h.promises
      (all-both (is_hand_right s) (stands rows) (is_hand_right t)
      (λ x k stay. let p = hand_is s x k in hand_right t x (record { id = p.id; given = p.given; stands = stay })) s.hands h.hands offers)

  -- a row that isn't on its way has no offer
  pub no_offer : (s : State E) (id : RequestId) → IsInOrder s → (r : Row E) → find_row id s ≡ Some r → is_routing r.state ≡ false
      → list_all (is_no_offer_of id) s.hands ≡ true
  no_offer s id h r found idle = list_all-weaker (is_hand_right s) (is_no_offer_of id) (λ x k. not_both (is_offered x.phase) (id_eq id x.id) (λ offered same.
      let e : id ≡ x.id = id_exact id x.id same in
      let routes : passes is_routing_row (find_row x.id s) ≡ true = implied (is_offered x.phase) (passes is_routing_row (find_row x.id s))
      (hand_is s x k).stands offered in
      true≢false (sym (ap (passes is_routing_row) (sym found ∙ ap (λ i. find_row i s) e) ∙ routes) ∙ idle))) s.hands h.hands

  -- offers of other requests stand where the others are found as before
  pub others_stand : (s : State E) (id : RequestId) (rows : List (Row E)) → IsInOrder s → list_all (is_no_offer_of id) s.hands ≡ true
      → ((k : RequestId) → id_eq k id ≡ false → find (is_row k) rows ≡ find (is_row k) s.rows) → list_all (stands rows) s.hands ≡ true
  others_stand s id rows h none others = all-both (is_hand_right s) (is_no_offer_of id) (stands rows)
      (λ x k n. one x (is_offered x.phase) refl k n) s.hands h.hands none
    where
      one : (x : Hand) (b : Bool) → is_offered x.phase ≡ b → is_hand_right s x ≡ true → not (b && id_eq id x.id) ≡ true
          → (not b || passes is_routing_row (find (is_row x.id) rows)) ≡ true
      one x true e k n =
          ap (passes is_routing_row) (others x.id (turned id_eq id_exact same_id id x.id (not-true (id_eq id x.id) n)))
          ∙ implied (is_offered x.phase) (passes is_routing_row (find_row x.id s)) (hand_is s x k).stands e
      one x false e k n = refl

  -- rows whose offers still find them on their way
  pub still_stand : (s : State E) (rows : List (Row E)) → IsInOrder s → ((k : RequestId) → passes is_routing_row (find_row k s) ≡ true
      → passes is_routing_row (find (is_row k) rows) ≡ true) → list_all (stands rows) s.hands ≡ true
  still_stand s rows h finds = list_all-weaker (is_hand_right s) (stands rows)
      (λ x k. imply (is_offered x.phase) (passes is_routing_row (find_row x.id s)) (passes is_routing_row (find (is_row x.id) rows)) (finds x.id)
      (hand_is s x k).stands) s.hands h.hands

  -- one row goes that has no offer
  pub row_dropped : (s : State E) (id : RequestId) → IsInOrder s → list_all (is_no_offer_of id) s.hands ≡ true → IsInOrder (drop_row id s)
  row_dropped s id h none =
      let part = without_part (is_row id) s.rows in
      let few = part_length part in
      let held : nat_le (length s.rows + length s.promises) 10000 ≡ true = (short_are s h.short).held in
      with_rows s (without_first (is_row id) s.rows) h (le-leb _ 10000 (let k = leb-true (length s.rows + length s.promises) 10000 held in
      omega (arith, few, k))) (part_all (is_row_right s) part h.rows)
      (part_distinct id_eq (map_part (λ r. r.id) part) (keys_are s h.keys).rows)
      (part_distinct same_number (part_before _ (map_part (λ r. r.arrival) part)) h.arrivals)
      (others_stand s id _ h none (λ k other. find-without_other id_eq (λ r. r.id) id_exact same_id k id s.rows other))

  -- one row changes, by what keeps its request
  module _ (s : State E) (id : RequestId) (f : Row E → Row E) (h : IsInOrder s) (ids : (r : Row E) → (f r).id ≡ r.id)
      (right : (r : Row E) → find_row id s ≡ Some r → is_row_right s r ≡ true → is_row_right s (f r) ≡ true) where
    pub changed_with : are_distinct same_number (map (λ r. r.arrival) (change_first (is_row id) f s.rows) ++ map (λ p. p.row.arrival) s.promises) ≡ true
        → list_all (stands (change_first (is_row id) f s.rows)) s.hands ≡ true → IsInOrder (change_row id f s)
    changed_with arrivals offers =
        with_rows s (change_first (is_row id) f s.rows) h (ap (λ n. nat_le (n + length s.promises) 10000) (length_changed (is_row id) f s.rows)
        ∙ (short_are s h.short).held)
        (list_all-changed (is_row_right s) (is_row id) f s.rows h.rows (λ r found. right r found
        (list_all-found (is_row_right s) (is_row id) s.rows r h.rows found)))
        (ap (are_distinct id_eq) (map-changed (λ r. r.id) (is_row id) f ids s.rows) ∙ (keys_are s h.keys).rows) arrivals offers

    pub others_found : (k : RequestId) → id_eq k id ≡ false → find (is_row k) (change_first (is_row id) f s.rows) ≡ find (is_row k) s.rows
    others_found k other = found_other id_eq (λ r. r.id) id_exact f ids k id s.rows other

    -- the arrival stays too, and the row has no offer
    pub row_changed : ((r : Row E) → (f r).arrival ≡ r.arrival) → list_all (is_no_offer_of id) s.hands ≡ true → IsInOrder (change_row id f s)
    row_changed arrivals none =
        changed_with (ap (λ l. are_distinct same_number (l ++ map (λ p. p.row.arrival) s.promises)) (map-changed (λ r. r.arrival) (is_row id) f arrivals s.rows)
        ∙ h.arrivals) (others_stand s id _ h none others_found)

  -- one row more
  pub row_added : (s : State E) (r : Row E) → IsInOrder s → nat_lt (held_count s) 10000 ≡ true → is_row_right s r ≡ true → has_row r.id s ≡ false
      → list_any (same_number r.arrival) (arrivals_of s) ≡ false → IsInOrder (record s { rows = s.rows ++ r ∷ [] })
  row_added s r h room right new arrives =
      let grown : length (s.rows ++ r ∷ []) ≡ length s.rows + length (r ∷ []) = length-append s.rows (r ∷ []) in
      let one : length (r ∷ []) ≡ 1 = refl in
      let room : nat_lt (length s.rows + length s.promises) 10000 ≡ true = room in
      with_rows s (s.rows ++ r ∷ []) h (grind (arith, nat_tests, grown, one)) (all-added (is_row_right s) s.rows r h.rows right)
      (ap (are_distinct id_eq) (map-append (λ q. q.id) s.rows (r ∷ [])) ∙ distinct-added id_eq id_exact same_id (map (λ q. q.id) s.rows) r.id
      (list_any-map (λ q. q.id) (id_eq r.id) s.rows ∙ new) (keys_are s h.keys).rows)
      (ap (λ l. are_distinct same_number (l ++ map (λ p. p.row.arrival) s.promises)) (map-append (λ q. q.arrival) s.rows (r ∷ []))
      ∙ distinct-between same_number number_exact same_it (map (λ q. q.arrival) s.rows) (map (λ p. p.row.arrival) s.promises) r.arrival arrives h.arrivals)
      (still_stand s _ h (λ k found. find-before (is_row k) is_routing_row s.rows (r ∷ []) found))
