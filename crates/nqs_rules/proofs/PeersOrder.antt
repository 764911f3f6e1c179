-- Changes of peers and promises: a state in order stays so.
use Rattle.std.proofs.Common.{◌≡◌, ℕ, ◌+◌, ◌-◌, ◌≤◌, Bool, true, false, not, ◌&&◌, ◌||◌, ◌==◌, nat_lt, nat_le, List, [], ◌∷◌, ◌++◌, map, length, slice_get}
use Rattle.std.proofs.Common.{Option}
use Rattle.std.proofs.Common.{None, Some, true≢false, zero, suc, refl, sym, ap, ◌∙◌, arith}
use Rattle.std.proofs.lemmas.Bool.{and_parts, and_from, leb-true, le-leb, ltb-true, lt-ltb, eqb-true, not-true, not_from_false, or_from}
use Rattle.std.proofs.lemmas.Bool.Decides.{nat_tests}
use Rattle.std.proofs.lemmas.List.{map-append, length-append, append_assoc}
use Rattle.std.specs.List.{list_any, list_all}
use Rattle.nqs_state.specs.State.{State}
use Rattle.nqs_base.specs.Same.{number_exact}
use Rattle.nqs_types.specs.Ids.{peer_number_eq, peer_number_exact, promise_key}
use Rattle.nqs_base_tables.specs.Table.{without_first}
use Rattle.nqs_state.specs.Keys.{is_promise}
use Rattle.nqs_types.specs.declared.ids.HostId.{HostId}
use Rattle.nqs_types.specs.declared.ids.PeerNumber.{PeerNumber}
use Rattle.nqs_types.specs.declared.request.Hand.{Hand}
use Rattle.nqs_types.specs.declared.request.Promise.{Promise}
use Rattle.nqs_types.specs.declared.request.Peer.{Peer}
use Rattle.nqs_types.specs.declared.request.Stage.{Stage}
use Rattle.nqs_base.specs.Path.{is_path}
use Rattle.nqs_rules.specs.Tests.{passes, same_host}
use Rattle.nqs_rules.specs.Routing.{has_number, is_closed, close, raise_floor}
use Rattle.nqs_rules.specs.Applied.{drop_promise, is_outlived}
use Rattle.nqs_rules.specs.Edits.{change_at, change_peer}
use Rattle.nqs_rules.specs.Find.{peer_number, find_peer, held_count}
use Rattle.nqs_rules.specs.InOrder.{IsInOrder, are_distinct, same_number, arrivals_of, is_given, ascends_from, is_peer_right, is_hand_given, is_stage_given}
use Rattle.nqs_rules.specs.InOrder.{is_hand_right, is_promise_right, is_stage_right}
use Rattle.nqs_rules.proofs.Chains.{each, chained}
use Rattle.nqs_rules.proofs.ClosedNumbers.{closed-close, closed-raised, close-ascends, raise-ascends}
use Rattle.nqs_rules.proofs.Sublists.{IsPart, without_part, map_part, part_behind, part_length, part_all, part_distinct}
use Rattle.nqs_rules.proofs.ListFacts.{list_all-weaker}
use Rattle.nqs_rules.proofs.ListMaps.{list_any-map}
use Rattle.nqs_rules.proofs.KeyFacts.{all-both, all-added, all_from_none, distinct-added}
use Rattle.nqs_rules.proofs.StateFacts.{parameters_kept, sites_are, sites_right, short_are, keys_are}
use Rattle.nqs_rules.proofs.SameBut.{with_requests}
use Rattle.nqs_rules.proofs.RowFacts.{same_it, same_peer_number, Keeps, promise_is, promise_right, row_kept, rows_kept}
use Rattle.nqs_rules.proofs.RowsOrder.{hand_is, hand_right}
use Rattle.nqs_rules.specs.Fits.{is_open_number}

module _ {V : Type 0} where
  length-at : (n : ℕ) (f : V → V) (vs : List V) → length (change_at n f vs) ≡ length vs
  length-at n f [] = refl
  length-at zero f (v ∷ vs) = refl
  length-at (suc n) f (v ∷ vs) = ap suc (length-at n f vs)

  pub get-other : (n k : ℕ) (f : V → V) (vs : List V) → (n ≡ k → ⊥) → slice_get (change_at n f vs) k ≡ slice_get vs k
  get-other n k f [] other = refl
  get-other zero zero f (v ∷ vs) other = absurd (other refl)
  get-other zero (suc k) f (v ∷ vs) other = refl
  get-other (suc n) zero f (v ∷ vs) other = refl
  get-other (suc n) (suc k) f (v ∷ vs) other = get-other n k f vs (λ e. other (ap suc e))

  get-kept : (p q : V → Bool) (n k : ℕ) (f : V → V) (vs : List V) → ((v : V) → slice_get vs n ≡ Some v → p v ≡ true → q (f v) ≡ true)
      → ((v : V) → p v ≡ true → q v ≡ true) → passes p (slice_get vs k) ≡ true → passes q (slice_get (change_at n f vs) k) ≡ true
  get-kept p q n k f [] changed same h = absurd (true≢false (sym h))
  get-kept p q zero zero f (v ∷ vs) changed same h = changed v refl h
  get-kept p q zero (suc k) f (v ∷ vs) changed same h = weaker (slice_get vs k) h
    where
      weaker : (o : Option V) → passes p o ≡ true → passes q o ≡ true
      weaker None h = h
      weaker (Some w) h = same w h
  get-kept p q (suc n) zero f (v ∷ vs) changed same h = same v h
  get-kept p q (suc n) (suc k) f (v ∷ vs) changed same h = get-kept p q n k f vs changed same h

  all-at : (p : V → Bool) (n : ℕ) (f : V → V) (vs : List V) → ((v : V) → slice_get vs n ≡ Some v → p v ≡ true → p (f v) ≡ true) → list_all p vs ≡ true
      → list_all p (change_at n f vs) ≡ true
  all-at p n f [] changed h = refl
  all-at p zero f (v ∷ vs) changed h = let q = and_parts (p v) (list_all p vs) h in and_from (p (f v)) (list_all p vs) (changed v refl q.0) q.1
  all-at p (suc n) f (v ∷ vs) changed h = let q = and_parts (p v) (list_all p vs) h in
      and_from (p v) (list_all p (change_at n f vs)) q.0 (all-at p n f vs changed q.1)

-- numbers that were given stay so as the counter grows
pub given_more : (number n m : ℕ) → n ≤ m → is_given number n ≡ true → is_given number m ≡ true
given_more number n m more h =
    let p = and_parts (nat_le 1 number) (nat_lt number n) h in
    let below = ltb-true number n p.1 in
    and_from (nat_le 1 number) (nat_lt number m) p.0 (lt-ltb number m (omega arith))

pub same_host_exact : (a b : HostId) → same_host a b ≡ true → a ≡ b
same_host_exact a b h = (λ j. record { 0 = eqb-true a.0 b.0 h j })

pub record Counts (p q : Peer) : Type 0 where
  pub next : p.next ≤ q.next
  pub stage_next : p.stage_next ≤ q.stage_next

module _ {E : Type 0} where
  -- what is known of one peer changes: its counters don't fall, its closed numbers ascend, and the
  -- promises' numbers stay open
  pub peer_changed : (s : State E) (host : HostId) (f : Peer → Peer) → IsInOrder s → ((p : Peer) → find_peer host s ≡ Some p → Counts p (f p))
      → ((p : Peer) → find_peer host s ≡ Some p → ascends_from p.floor p.closed ≡ true → ascends_from (f p).floor (f p).closed ≡ true)
      → list_all (λ p. passes (is_open_number p.number) (find_peer p.peer (change_peer host f s))) s.promises ≡ true → IsInOrder (change_peer host f s)
  peer_changed s host f h counts ascends opens =
      let t : State E = change_peer host f s in
      let site = sites_are s h.site in
      let keeps : Keeps s t = record { me = refl; site = refl; seq = omega arith; arrivals = omega arith; queues = λ q k. k; devices = λ d k. k } in
      record {
        site = sites_right t (record {
          some = site.some;
          few = site.few;
          me = site.me;
          peers = ap (λ n. n == length s.site) (length-at host.0 f s.peers)
              ∙ site.peers;
        });
        parameters = parameters_kept s t refl (λ q k. k) h.parameters;
        short = h.short;
        keys = h.keys;
        arrivals = h.arrivals;
        queues = h.queues;
        complexes = h.complexes;
        rows = rows_kept s t keeps s.rows h.rows;
        promises = all-both (is_promise_right s) (λ p. passes (is_open_number p.number) (find_peer p.peer t))
            (is_promise_right t) promise s.promises h.promises opens;
        hands = list_all-weaker (is_hand_right s) (is_hand_right t) hand s.hands h.hands;
        few = h.few;
        offers = h.offers;
        peers = all-at is_peer_right host.0 f s.peers right h.peers;
        stages = list_all-weaker (is_stage_right s) (is_stage_right t) stage s.stages h.stages;
        files = h.files;
      }
    where
      right : (p : Peer) → find_peer host s ≡ Some p → is_peer_right p ≡ true → is_peer_right (f p) ≡ true
      right p found k =
          let q = each (nat_le 1 p.next) (nat_le 1 p.stage_next ∷ ascends_from p.floor p.closed ∷ []) k in
          let c = counts p found in
          let a = leb-true 1 p.next q.0 in
          let b = leb-true 1 p.stage_next q.1.0 in
          let more = c.next in
          let later = c.stage_next in
          chained (nat_le 1 (f p).next) (nat_le 1 (f p).stage_next ∷ ascends_from (f p).floor (f p).closed ∷ [])
          (le-leb 1 (f p).next (omega arith), (le-leb 1 (f p).stage_next (omega arith), (ascends p found q.1.1.0, tt)))

      hand : (x : Hand) → is_hand_right s x ≡ true → is_hand_right (change_peer host f s) x ≡ true
      hand x k =
          let p = hand_is s x k in
          hand_right (change_peer host f s) x (record {
            id = p.id;
            given =
                get-kept (is_hand_given x.number) (is_hand_given x.number) host.0 x.peer.0 f s.peers
                (λ q found g. given_more x.number q.next (f q).next (counts q found).next g) (λ q g. g) p.given;
            stands = p.stands;
          })

      stage : (x : Stage E) → is_stage_right s x ≡ true → is_stage_right (change_peer host f s) x ≡ true
      stage x k =
          let p = and_parts (is_path x.path) (passes (is_stage_given x.number) (find_peer x.peer s)) k in
          and_from (is_path x.path) (passes (is_stage_given x.number) (find_peer x.peer (change_peer host f s))) p.0
          (get-kept (is_stage_given x.number) (is_stage_given x.number) host.0 x.peer.0 f s.peers
          (λ q found g. given_more x.number q.stage_next (f q).stage_next (counts q found).stage_next g) (λ q g. g) p.1)

      promise : (p : Promise E) → is_promise_right s p ≡ true → passes (is_open_number p.number) (find_peer p.peer (change_peer host f s)) ≡ true
          → is_promise_right (change_peer host f s) p ≡ true
      promise p k opens =
          let t : State E = change_peer host f s in
          let q = promise_is s p k in
          let keeps : Keeps s t = record { me = refl; site = refl; seq = omega arith; arrivals = omega arith; queues = λ q k. k; devices = λ d k. k } in
          promise_right t p (record { row = row_kept s t keeps p.row q.row; queued = q.queued; some = q.some; opens = opens })

  -- where nothing is closed, all stays open
  pub peer_counted : (s : State E) (host : HostId) (f : Peer → Peer) → IsInOrder s → ((p : Peer) → find_peer host s ≡ Some p → Counts p (f p))
      → ((p : Peer) → ((f p).floor ≡ p.floor) × ((f p).closed ≡ p.closed)) → IsInOrder (change_peer host f s)
  peer_counted s host f h counts closed = peer_changed s host f h counts (λ p found k. (λ j. ascends_from ((closed p).0 j) ((closed p).1 j)) ∙ k)
      (list_all-weaker (is_promise_right s)
      (λ p. passes (is_open_number p.number) (find_peer p.peer (change_peer host f s))) (λ p k.
      get-kept (is_open_number p.number) (is_open_number p.number) host.0 p.peer.0 f s.peers
      (λ q found g. (λ j. not (nat_le p.number ((closed q).0 j) || has_number p.number ((closed q).1 j))) ∙ g)
      (λ q g. g) (promise_is s p k).opens) s.promises h.promises)

  -- a promise's number stays open where only its own host changes it, and leaves it open
  open_behind : (s : State E) (host : HostId) (p : Promise E) (f : Peer → Peer) → passes (is_open_number p.number) (find_peer p.peer s) ≡ true
      → ((host.0 == p.peer.0) ≡ true → (q : Peer) → is_open_number p.number q ≡ true → is_open_number p.number (f q) ≡ true)
      → passes (is_open_number p.number) (find_peer p.peer (change_peer host f s)) ≡ true
  open_behind s host p f opens keeps = by (host.0 == p.peer.0) refl
    where
      by : (b : Bool) → (host.0 == p.peer.0) ≡ b → passes (is_open_number p.number) (find_peer p.peer (change_peer host f s)) ≡ true
      by true e = get-kept (is_open_number p.number) (is_open_number p.number) host.0 p.peer.0 f s.peers (λ q found g. keeps e q g) (λ q g. g) opens
      by false e = ap (passes (is_open_number p.number)) (get-other host.0 p.peer.0 f s.peers
          (λ is. true≢false (sym (same_it host.0) ∙ ap (λ m. host.0 == m) is ∙ e))) ∙ opens

  -- A number that isn't closed, and that no promise has, may be closed.
  pub peer_closed : (s : State E) (host : HostId) (number : ℕ) → IsInOrder s → passes (is_open_number number) (find_peer host s) ≡ true
      → list_any (is_promise (peer_number host number)) s.promises ≡ false → IsInOrder (change_peer host (close number) s)
  peer_closed s host number h opens none =
      peer_changed s host (close number) h (λ p found. record { next = omega arith; stage_next = omega arith })
      (λ p found k. close-ascends number p (opened p found) k)
      (all-both (is_promise_right s) (λ p. not (is_promise (peer_number host number) p))
      (λ p. passes (is_open_number p.number) (find_peer p.peer (change_peer host (close number) s))) stays s.promises h.promises
      (all_from_none (λ p. not (is_promise (peer_number host number) p)) (is_promise (peer_number host number))
      (λ p e. not_from_false (is_promise (peer_number host number) p) e) s.promises none))
    where
      opened : (p : Peer) → find_peer host s ≡ Some p → is_closed number p ≡ false
      opened p found = not-true (is_closed number p) (ap (passes (is_open_number number)) (sym found) ∙ opens)

      stays : (p : Promise E) → is_promise_right s p ≡ true → not (is_promise (peer_number host number) p) ≡ true
          → passes (is_open_number p.number) (find_peer p.peer (change_peer host (close number) s)) ≡ true
      stays p k other = open_behind s host p (close number) (promise_is s p k).opens (λ same q g. ap not (closed-close p.number number q
          ∙ or_from (p.number == number) (is_closed p.number q) (apart same) (not-true (is_closed p.number q) g)))
        where
          apart : (host.0 == p.peer.0) ≡ true → (p.number == number) ≡ false
          apart same =
              let no : (number == p.number) ≡ false = ap (λ b. b && (number == p.number)) (sym same)
              ∙ not-true (is_promise (peer_number host number) p) other in
              grind (arith, nat_tests)

  -- The floor may be raised to below a low, where no promise of the host is below that.
  pub floor_raised : (s : State E) (host : HostId) (low : ℕ) → IsInOrder s → list_all (λ p. not (is_outlived host low p)) s.promises ≡ true
      → IsInOrder (change_peer host (raise_floor (low - 1)) s)
  floor_raised s host low h none =
      peer_changed s host (raise_floor (low - 1)) h (λ p found. record { next = omega arith; stage_next = omega arith })
      (λ p found k. raise-ascends (low - 1) p k)
      (all-both (is_promise_right s) (λ p. not (is_outlived host low p))
      (λ p. passes (is_open_number p.number) (find_peer p.peer (change_peer host (raise_floor (low - 1)) s))) stays s.promises h.promises none)
    where
      stays : (p : Promise E) → is_promise_right s p ≡ true → not (is_outlived host low p) ≡ true
          → passes (is_open_number p.number) (find_peer p.peer (change_peer host (raise_floor (low - 1)) s)) ≡ true
      stays p k other = open_behind s host p (raise_floor (low - 1)) (promise_is s p k).opens (λ same q g. ap not (closed-raised p.number (low - 1) q
          ∙ or_from (nat_le p.number (low - 1)) (is_closed p.number q) (above same) (not-true (is_closed p.number q) g)))
        where
          above : (host.0 == p.peer.0) ≡ true → nat_le p.number (low - 1) ≡ false
          above same =
              let no : nat_lt p.number low ≡ false = ap (λ b. b && nat_lt p.number low) (sym same) ∙ not-true (is_outlived host low p) other in
              let some = leb-true 1 p.number (promise_is s p k).some in
              grind (arith, nat_tests)

  -- fewer promises
  pub promises_part : (s : State E) (ps : List (Promise E)) → IsPart ps s.promises → IsInOrder s → IsInOrder (record s { promises = ps })
  promises_part s ps part h =
      let keys = keys_are s h.keys in
      let few = part_length part in
      let held : nat_le (length s.rows + length s.promises) 10000 ≡ true = (short_are s h.short).held in
      with_requests s s.rows ps h
      (le-leb (length s.rows + length ps) 10000 (let k = leb-true (length s.rows + length s.promises) 10000 held in omega (arith, few, k))) keys.rows
      (part_distinct peer_number_eq (map_part promise_key part) keys.promises)
      (part_distinct same_number (part_behind (map (λ r. r.arrival) s.rows) (map_part (λ p. p.row.arrival) part)) h.arrivals)
      h.rows (part_all (is_promise_right s) part h.promises) h.hands

  pub promise_dropped : (s : State E) (k : PeerNumber) → IsInOrder s → IsInOrder (drop_promise k s)
  promise_dropped s k h = promises_part s (without_first (is_promise k) s.promises) (without_part (is_promise k) s.promises) h

  -- one promise more, under a number of its host that none had
  pub promise_added : (s : State E) (p : Promise E) → IsInOrder s → is_promise_right s p ≡ true → list_any (is_promise (promise_key p)) s.promises ≡ false
      → list_any (same_number p.row.arrival) (arrivals_of s) ≡ false → nat_lt (held_count s) 10000 ≡ true
      → IsInOrder (record s { promises = s.promises ++ p ∷ [] })
  promise_added s p h right other new few =
      let keys = keys_are s h.keys in
      let held : nat_lt (length s.rows + length s.promises) 10000 ≡ true = few in
      let below = ltb-true (length s.rows + length s.promises) 10000 held in
      let grown : length (s.promises ++ p ∷ []) ≡ length s.promises + length (p ∷ []) = length-append s.promises (p ∷ []) in
      let one : length (p ∷ []) ≡ 1 = refl in
      with_requests s s.rows (s.promises ++ p ∷ []) h (le-leb (length s.rows + length (s.promises ++ p ∷ [])) 10000
      (omega (arith, grown, one, below))) keys.rows
      (ap (are_distinct peer_number_eq) (map-append promise_key s.promises (p ∷ []))
      ∙ distinct-added peer_number_eq peer_number_exact same_peer_number (map promise_key s.promises) (promise_key p)
      (list_any-map promise_key (peer_number_eq (promise_key p)) s.promises ∙ other) keys.promises) arrivals h.rows
      (all-added (is_promise_right s) s.promises p h.promises right) h.hands
    where
      arrivals : are_distinct same_number (map (λ r. r.arrival) s.rows ++ map (λ q. q.row.arrival) (s.promises ++ p ∷ [])) ≡ true
      arrivals =
          ap (λ l. are_distinct same_number (map (λ r. r.arrival) s.rows ++ l)) (map-append (λ q. q.row.arrival) s.promises (p ∷ []))
          ∙ ap (are_distinct same_number) (sym (append_assoc (map (λ r. r.arrival) s.rows) (map (λ q. q.row.arrival) s.promises) (p.row.arrival ∷ [])))
          ∙ distinct-added same_number number_exact same_it (arrivals_of s) p.row.arrival new h.arrivals
