-- The entries of the network table are those of the table that the hosts tell.
use Rattle.std.proofs.Common.{◌≡◌, ℕ, ◌+◌, ◌<◌, ◌⊎◌, inl, inr, Bool, true, false, cond, not, ◌||◌, List, [], ◌∷◌, ◌++◌, map, filter, find, slice_get}
use Rattle.std.proofs.Common.{Option, None, Some, true≢false, zero, suc, refl, sym, ap, subst, ◌∙◌, arith, if◌then◌else◌}
use Rattle.std.proofs.lemmas.Bool.{and_parts, and_from, or_parts, or_left, or_right, not_from_false, not-true, false_from_ne_true}
use Rattle.std.proofs.lemmas.Option.{same_Some, none-some}
use Rattle.std.proofs.lemmas.List.{map-append}
use Rattle.std.proofs.lemmas.List.Folds.{list_any-append}
use Rattle.std.specs.List.{list_any, AllByRecursion}
use Rattle.nqs_types.specs.Ids.{id_eq, id_exact, peer_number_eq, peer_number_exact, promise_key}
use Rattle.nqs_base.proofs.Plain.{all_weaker, find_in_filter}
use Rattle.nqs_state.specs.State.{Plain}
use Rattle.nqs_state.specs.Keys.{is_row, is_promise}
use Rattle.nqs_types.specs.declared.ids.HostId.{HostId}
use Rattle.nqs_types.specs.declared.request.Hand.{Hand}
use Rattle.nqs_types.specs.declared.request.Phase.{Phase}
use Rattle.nqs_types.specs.declared.request.Phase.TheVariants.{Offered, Committed}
use Rattle.nqs_types.specs.declared.table_row.NetState.TheVariants.{Arriving}
use Rattle.nqs_rules.specs.Tests.{passes, is_committed}
use Rattle.nqs_rules.specs.Find.{peer_number, find_row, find_hand, find_promise, host_at}
use Rattle.nqs_rules.specs.Fits.{is_committed_hand}
use Rattle.nqs_rules.specs.InOrder.{IsInOrder, are_distinct}
use Rattle.nqs_rules.specs.Net.{Entry, entry_in, row_entry, promise_entry, is_committed_to, is_arriving, arriving, entries_at, entries_from, entries, is_table}
use Rattle.nqs_rules.specs.Net.{entry_of}
use Rattle.nqs_rules.proofs.ListFacts.{found_passes, found_again}
use Rattle.nqs_rules.proofs.RowFacts.{same_id, same_peer_number}
use Rattle.nqs_rules.proofs.StateFacts.{keys_are}
use Rattle.nqs_rules.proofs.Sublists.{part_distinct, map_part, filter_part}
use Rattle.nqs_rules.specs.Picked.{PlainRow}
use Rattle.nqs_laws.proofs.After.{Request}
use Rattle.nqs_laws.proofs.Pair.{Offer, NoOffer, Open, Given}
use Rattle.nqs_laws.proofs.Views.{Pledging, offered, promise_key_is}
use Rattle.nqs_laws.proofs.Paired.{At, given_offer, committed_hand}
use Rattle.nqs_laws.proofs.Spoken.{all-both}
use Rattle.nqs_laws.proofs.Tabled.{Place, Nowhere, Sits, Arrives, Table, IsTabled, IsPlaced, row_in, claim_in, claim, sits_here, arrives_here, row_of_sits}
use Rattle.nqs_laws.proofs.Tabled.{claim_of_arrives}

-- the entry of a place
abbrev pub entry_at : Place → Option Entry
entry_at Nowhere = None
entry_at (Sits h r) = Some (row_entry h r)
entry_at (Arrives a b n r) = Some (entry_in b Arriving r)

abbrev pub host_of_place : Place → ℕ
host_of_place Nowhere = 0
host_of_place (Sits h r) = h.0
host_of_place (Arrives a b n r) = b.0

-- a list in which each value, with its place, has a property
every : {V : Type 0} (P : V → Type 0) (vs : List V) → ((i : ℕ) (v : V) → slice_get vs i ≡ Some v → P v) → AllByRecursion P vs
every P [] f = tt
every P (v ∷ vs) f = (f 0 v refl, every P vs (λ i w at. f (suc i) w at))

every_map : {V W : Type 0} (P : W → Type 0) (g : V → W) (vs : List V) → AllByRecursion (λ v. P (g v)) vs → AllByRecursion P (map g vs)
every_map P g [] all = tt
every_map P g (v ∷ vs) all = (all.0, every_map P g vs all.1)

every_kept : {V : Type 0} (P : V → Type 0) (keep : V → Bool) (vs : List V) → ((i : ℕ) (v : V) → slice_get vs i ≡ Some v → keep v ≡ true → P v)
    → AllByRecursion P (filter keep vs)
every_kept P keep [] f = tt
every_kept P keep (v ∷ vs) f = by (keep v) refl (every_kept P keep vs (λ i w at. f (suc i) w at))
  where
    by : (b : Bool) → keep v ≡ b → AllByRecursion P (filter keep vs) → AllByRecursion P (cond b (v ∷ filter keep vs) (filter keep vs))
    by true e rest = (f 0 v refl e, rest)
    by false e rest = rest

-- keys of two lists
module _ (states : List Plain) (table : Table) (told : IsTabled states table) (orders : (a : HostId) (s : Plain) → At states a s → IsInOrder s) where
  -- an entry is that of its request's place
  abbrev pub IsEntry : Entry → Type 0
  IsEntry e = entry_at (table e.id) ≡ Some e

  module _ (h : HostId) (s : Plain) (at : At states h s) where
    row_sits : (i : ℕ) (r : PlainRow) → slice_get s.rows i ≡ Some r → table r.id ≡ Sits h r
    row_sits i r there =
        let found = found_again id_eq (λ (q : PlainRow). q.id) id_exact same_id s.rows i r (keys_are s (orders h s at).keys).rows there in
        sits_here h (table r.id) r (sym (told.rows h s at r.id) ∙ found)

    -- a promise that its sender has committed
    promise_arrives : (i : ℕ) (p : Pledging) → slice_get s.promises i ≡ Some p → is_arriving states h p ≡ true
        → table p.row.id ≡ Arrives p.peer h p.number p.row
    promise_arrives i p there comes = of (slice_get states p.peer.0) refl comes
      where
        promised : find_promise p.peer p.number s ≡ Some p
        promised = found_again peer_number_eq promise_key peer_number_exact same_peer_number s.promises i p (keys_are s (orders h s at).keys).promises there

        by : (u : Plain) → At states p.peer u → (x : Option Hand) → find_hand h p.number u ≡ x → passes is_committed_hand x ≡ true
            → table p.row.id ≡ Arrives p.peer h p.number p.row
        by u uat None e k = absurd (true≢false (sym k))
        by u uat (Some y) e k =
            let given = given_offer u h p.number (record { hand = y; found = e; is = phase y.phase refl k }) in
            arrives_here p.peer h p.number (table p.row.id) p.row
            (sym (told.claims p.peer h u s uat at p.number p.row.id)
            ∙ ((λ j. claim (given j) (promised j) p.row.id) ∙ ap (λ z. if z then Some p.row else None) (same_id p.row.id)))
          where
            phase : (q : Phase) → y.phase ≡ q → is_committed q ≡ true → y.phase ≡ Committed
            phase Committed f g = f
            phase Offered f g = absurd (true≢false (sym g))

        of : (x : Option Plain) → slice_get states p.peer.0 ≡ x → passes (is_committed_to h p.number) x ≡ true
            → table p.row.id ≡ Arrives p.peer h p.number p.row
        of None e k = absurd (true≢false (sym k))
        of (Some u) e k = by u e (find_hand h p.number u) refl k

    -- the requests of this host
    abbrev IsOf : Entry → Type 0
    IsOf e = IsEntry e × (host_of_place (table e.id) ≡ h.0)

    rows_of : AllByRecursion IsOf (map (row_entry h) s.rows)
    rows_of = every_map IsOf (row_entry h) s.rows (every (λ r. IsOf (row_entry h r)) s.rows
        (λ i r there. (ap entry_at (row_sits i r there), ap host_of_place (row_sits i r there))))

    abbrev ComesHere : Pledging → Type 0
    ComesHere p = table p.row.id ≡ Arrives p.peer h p.number p.row

    arriving_here : AllByRecursion ComesHere (arriving states h s)
    arriving_here = every_kept ComesHere (is_arriving states h) s.promises promise_arrives

    promises_of : AllByRecursion IsOf (map (promise_entry h) (arriving states h s))
    promises_of = every_map IsOf (promise_entry h) (arriving states h s) (mapped (arriving states h s) arriving_here)
      where
        mapped : (ps : List Pledging) → AllByRecursion ComesHere ps → AllByRecursion (λ p. IsOf (promise_entry h p)) ps
        mapped [] all = tt
        mapped (p ∷ ps) all = ((ap entry_at all.0, ap host_of_place all.0), mapped ps all.1)

    pub host_entries : AllByRecursion IsOf (entries_at states h s)
    host_entries = all-both IsOf (map (row_entry h) s.rows) (map (promise_entry h) (arriving states h s)) rows_of promises_of

    -- no two of one request

    abbrev ids_of : List Entry → List Request
    ids_of es = map (λ (e : Entry). e.id) es

    row_ids : (rows : List PlainRow) → ids_of (map (row_entry h) rows) ≡ map (λ (r : PlainRow). r.id) rows
    row_ids [] = refl
    row_ids (r ∷ rows) = ap (λ l. r.id ∷ l) (row_ids rows)

    arriving_distinct : (ps : List Pledging) → AllByRecursion ComesHere ps → are_distinct peer_number_eq (map promise_key ps) ≡ true
        → are_distinct id_eq (ids_of (map (promise_entry h) ps)) ≡ true
    arriving_distinct [] all d = refl
    arriving_distinct (p ∷ ps) all d =
        let k = and_parts (not (list_any (peer_number_eq (promise_key p)) (map promise_key ps))) (are_distinct peer_number_eq (map promise_key ps)) d in
        and_from (not (list_any (id_eq p.row.id) (ids_of (map (promise_entry h) ps)))) (are_distinct id_eq (ids_of (map (promise_entry h) ps)))
        (not_from_false _ (none ps all.1 (not-true (list_any (peer_number_eq (promise_key p)) (map promise_key ps)) k.0))) (arriving_distinct ps all.1 k.1)
      where
        none : (qs : List Pledging) → AllByRecursion ComesHere qs → list_any (peer_number_eq (promise_key p)) (map promise_key qs) ≡ false
            → list_any (id_eq p.row.id) (ids_of (map (promise_entry h) qs)) ≡ false
        none [] comes far = refl
        none (q ∷ qs) comes far =
            let f = or_parts (peer_number_eq (promise_key p) (promise_key q)) (list_any (peer_number_eq (promise_key p)) (map promise_key qs)) far in
            let other : id_eq p.row.id q.row.id ≡ false = false_from_ne_true (id_eq p.row.id q.row.id) (λ same.
            let places : Arrives p.peer h p.number p.row ≡ Arrives q.peer h q.number q.row = sym all.0
            ∙ (ap table (id_exact p.row.id q.row.id same) ∙ comes.0) in
            let peers : p.peer ≡ q.peer = cc in
            let numbers : p.number ≡ q.number = cc in
            let keys : promise_key p ≡ promise_key q = (λ j. record { peer = peers j; number = numbers j }) in
            true≢false (sym (ap (peer_number_eq (promise_key p)) (sym keys) ∙ same_peer_number (promise_key p)) ∙ f.0)) in
            (λ j. other j || none qs comes.1 f.1 j)

    apart : (r : PlainRow) (i : ℕ) → slice_get s.rows i ≡ Some r → (ps : List Pledging) → AllByRecursion ComesHere ps
        → list_any (id_eq r.id) (ids_of (map (promise_entry h) ps)) ≡ false
    apart r i there [] all = refl
    apart r i there (p ∷ ps) all =
        let other : id_eq r.id p.row.id ≡ false = false_from_ne_true (id_eq r.id p.row.id) (λ same.
        let places : Sits h r ≡ Arrives p.peer h p.number p.row = sym (row_sits i r there) ∙ (ap table (id_exact r.id p.row.id same) ∙ all.0) in
        let no : ⊥ = cc in no) in
        (λ j. other j || apart r i there ps all.1 j)

  -- two lists of keys without a common one
  distinct_both : (xs ys : List Request) → are_distinct id_eq xs ≡ true → are_distinct id_eq ys ≡ true → AllByRecursion (λ x. list_any (id_eq x) ys ≡ false) xs
      → are_distinct id_eq (xs ++ ys) ≡ true
  distinct_both [] ys a b far = b
  distinct_both (x ∷ xs) ys a b far =
      let k = and_parts (not (list_any (id_eq x) xs)) (are_distinct id_eq xs) a in
      and_from (not (list_any (id_eq x) (xs ++ ys))) (are_distinct id_eq (xs ++ ys))
      (not_from_false _ (list_any-append (id_eq x) xs ys ∙ (λ j. not-true (list_any (id_eq x) xs) k.0 j || far.0 j))) (distinct_both xs ys k.1 b far.1)

  host_distinct : (h : HostId) (s : Plain) → At states h s → are_distinct id_eq (map (λ (e : Entry). e.id) (entries_at states h s)) ≡ true
  host_distinct h s at =
      let rows = map (row_entry h) s.rows in
      let promises = map (promise_entry h) (arriving states h s) in
      ap (are_distinct id_eq) (map-append (λ (e : Entry). e.id) rows promises)
      ∙ distinct_both (map (λ (e : Entry). e.id) rows) (map (λ (e : Entry). e.id) promises)
      (ap (are_distinct id_eq) (row_ids h s at s.rows) ∙ (keys_are s (orders h s at).keys).rows)
      (arriving_distinct h s at (arriving states h s) (arriving_here h s at) (fewer_keys s.promises (keys_are s (orders h s at).keys).promises))
      (every_map (λ x. list_any (id_eq x) (map (λ (e : Entry). e.id) promises) ≡ false) (λ (e : Entry). e.id) rows
      (every_map (λ (e : Entry). list_any (id_eq e.id) (map (λ (e : Entry). e.id) promises) ≡ false) (row_entry h) s.rows
      (every (λ r. list_any (id_eq r.id) (map (λ (e : Entry). e.id) promises) ≡ false) s.rows
      (λ i r there. apart h s at r i there (arriving states h s) (arriving_here h s at)))))
    where
      fewer_keys : (ps : List Pledging) → are_distinct peer_number_eq (map promise_key ps) ≡ true
          → are_distinct peer_number_eq (map promise_key (filter (is_arriving states h) ps)) ≡ true
      fewer_keys ps d = part_distinct peer_number_eq (map_part promise_key (filter_part (is_arriving states h) ps)) d

  -- requests of other hosts
  far_off : (x : Request) (n : ℕ) → host_of_place (table x) ≡ n → (es : List Entry) → AllByRecursion (λ (e : Entry). n < host_of_place (table e.id)) es
      → list_any (id_eq x) (map (λ (e : Entry). e.id) es) ≡ false
  far_off x n here [] all = refl
  far_off x n here (e ∷ es) all =
      let other : id_eq x e.id ≡ false = false_from_ne_true (id_eq x e.id) (λ same.
      let equal : host_of_place (table x) ≡ host_of_place (table e.id) = ap (λ i. host_of_place (table i)) (id_exact x e.id same) in
      let more = all.0 in omega (arith, here, equal, more)) in
      (λ j. other j || far_off x n here es all.1 j)

  -- the entries from a host on
  pub record Listed (place : ℕ) (es : List Entry) : Type 0 where
    pub right : AllByRecursion IsEntry es
    pub behind : (n : ℕ) → n < place → AllByRecursion (λ (e : Entry). n < host_of_place (table e.id)) es
    pub distinct : are_distinct id_eq (map (λ (e : Entry). e.id) es) ≡ true

  listed : (place : ℕ) (rest : List Plain) → ((n : ℕ) (s : Plain) → slice_get rest n ≡ Some s → slice_get states (place + n) ≡ Some s)
      → Listed place (entries_from place states rest)
  listed place [] all = record { right = tt; behind = λ n below. tt; distinct = refl }
  listed place (s ∷ rest) all =
      let h : HostId = host_at place in
      let at : At states h s = (let z : place + 0 ≡ place = omega arith in ap (slice_get states) (sym z) ∙ all 0 s refl) in
      let later = listed (place + 1) rest (λ n t there. (let z : place + suc n ≡ (place + 1) + n = omega arith in
      ap (slice_get states) (sym z) ∙ all (suc n) t there)) in
      let own = host_entries h s at in
      let es = entries_at states h s in
      let fs = entries_from (place + 1) states rest in
      record {
        right = all-both IsEntry es fs (all_weaker (λ (e : Entry). IsEntry e × (host_of_place (table e.id) ≡ place)) IsEntry (λ e k. k.0) es own) later.right;
        behind = λ n below. all-both (λ (e : Entry). n < host_of_place (table e.id)) es fs
            (all_weaker (λ (e : Entry). IsEntry e × (host_of_place (table e.id) ≡ place)) (λ (e : Entry). n < host_of_place (table e.id))
            (λ e k. (let f = k.1 in omega (arith, f, below))) es own) (later.behind n (omega arith));
        distinct = ap (are_distinct id_eq) (map-append (λ (e : Entry). e.id) es fs)
            ∙ distinct_both (map (λ (e : Entry). e.id) es) (map (λ (e : Entry). e.id) fs) (host_distinct h s at) later.distinct
            (every_map (λ x. list_any (id_eq x) (map (λ (e : Entry). e.id) fs) ≡ false) (λ (e : Entry). e.id) es
            (all_weaker (λ (e : Entry). IsEntry e × (host_of_place (table e.id) ≡ place))
            (λ (e : Entry). list_any (id_eq e.id) (map (λ (e : Entry). e.id) fs) ≡ false)
            (λ e k. far_off e.id place k.1 fs (later.behind place (omega arith))) es own));
      }

  all_listed : Listed 0 (entries states)
  all_listed = listed 0 states (λ n s there. (let z : 0 + n ≡ n = omega arith in ap (slice_get states) z ∙ there))

  -- no request lies in two places
  pub one_place : is_table states ≡ true
  one_place = all_listed.distinct

  -- every place has its entry

  in_list : (x : Request) (es : List Entry) → list_any (λ (e : Entry). id_eq x e.id) es ≡ true → (e : Entry) × (find (λ (e : Entry). id_eq x e.id) es ≡ Some e)
  in_list x [] k = absurd (true≢false (sym k))
  in_list x (e ∷ es) k = by (id_eq x e.id) k (in_list x es)
    where
      by : (b : Bool) → (b || list_any (λ (e : Entry). id_eq x e.id) es) ≡ true
          → (list_any (λ (e : Entry). id_eq x e.id) es ≡ true → (e : Entry) × (find (λ (e : Entry). id_eq x e.id) es ≡ Some e))
          → (f : Entry) × (cond b (Some e) (find (λ (e : Entry). id_eq x e.id) es) ≡ Some f)
      by true k rest = (e, refl)
      by false k rest = rest k

  found_right : (x : Request) (es : List Entry) → AllByRecursion IsEntry es → (e : Entry) → find (λ (e : Entry). id_eq x e.id) es ≡ Some e
      → entry_at (table x) ≡ Some e
  found_right x [] all e k = absurd (none-some e k)
  found_right x (f ∷ es) all e k = by (id_eq x f.id) refl k (found_right x es all.1 e)
    where
      by : (b : Bool) → id_eq x f.id ≡ b → cond b (Some f) (find (λ (e : Entry). id_eq x e.id) es) ≡ Some e
          → (find (λ (e : Entry). id_eq x e.id) es ≡ Some e → entry_at (table x) ≡ Some e) → entry_at (table x) ≡ Some e
      by true same k rest = ap (λ i. entry_at (table i)) (id_exact x f.id same) ∙ (all.0 ∙ k)
      by false same k rest = rest k

  any_both : (t : Entry → Bool) (a b : List Entry) → (list_any t a ≡ true) ⊎ (list_any t b ≡ true) → list_any t (a ++ b) ≡ true
  any_both t a b (inl k) = list_any-append t a b ∙ or_left (list_any t a) (list_any t b) k
  any_both t a b (inr k) = list_any-append t a b ∙ or_right (list_any t a) (list_any t b) k

  somewhere : (t : Entry → Bool) (place : ℕ) (rest : List Plain) (n : ℕ) (s : Plain) → slice_get rest n ≡ Some s
      → list_any t (entries_at states (host_at (place + n)) s) ≡ true → list_any t (entries_from place states rest) ≡ true
  somewhere t place [] n s at k = absurd (none-some s at)
  somewhere t place (u ∷ rest) zero s at k =
      let z : place + 0 ≡ place = omega arith in
      let same : u ≡ s = same_Some u s at in
      any_both t (entries_at states (host_at place) u) (entries_from (place + 1) states rest)
      (inl ((λ j. list_any t (entries_at states (host_at (sym z j)) (same j))) ∙ k))
  somewhere t place (u ∷ rest) (suc n) s at k =
      let z : (place + 1) + n ≡ place + suc n = omega arith in
      any_both t (entries_at states (host_at place) u) (entries_from (place + 1) states rest)
      (inr (somewhere t (place + 1) rest n s at ((λ j. list_any t (entries_at states (host_at (z j)) s)) ∙ k)))

  any_mapped : {V : Type 0} (t : Entry → Bool) (g : V → Entry) (u : V → Bool) (vs : List V) (v : V) → find u vs ≡ Some v → t (g v) ≡ true
      → list_any t (map g vs) ≡ true
  any_mapped t g u [] v e k = absurd (none-some v e)
  any_mapped t g u (x ∷ vs) v e k = by (u x) e (any_mapped t g u vs v)
    where
      by : (b : Bool) → cond b (Some x) (find u vs) ≡ Some v → (find u vs ≡ Some v → t (g v) ≡ true → list_any t (map g vs) ≡ true)
          → (t (g x) || list_any t (map g vs)) ≡ true
      by true e rest = or_left (t (g x)) (list_any t (map g vs)) (ap (λ y. t (g y)) (same_Some x v e) ∙ k)
      by false e rest = or_right (t (g x)) (list_any t (map g vs)) (rest e k)

  listed_there : (x : Request) (t : Place) → table x ≡ t → (t ≡ Nowhere → ⊥) → list_any (λ (e : Entry). id_eq x e.id) (entries states) ≡ true
  listed_there x Nowhere e some = absurd (some refl)
  listed_there x (Sits h r) e some = at_host placed_here
    where
      placed_here : (s : Plain) × At states h s
      placed_here = subst (IsPlaced states) e (told.placed x)

      at_host : (s : Plain) × At states h s → list_any (λ (e : Entry). id_eq x e.id) (entries states) ≡ true
      at_host (s, at) =
          let found : find_row x s ≡ Some r = told.rows h s at x ∙ (ap (row_in h) e ∙ row_of_sits h r) in
          let z : 0 + h.0 ≡ h.0 = omega arith in
          somewhere (λ (e : Entry). id_eq x e.id) 0 states h.0 s at
          ((λ j. list_any (λ (e : Entry). id_eq x e.id) (entries_at states (host_at (z j)) s))
          ∙ any_both (λ (e : Entry). id_eq x e.id) (map (row_entry h) s.rows) (map (promise_entry h) (arriving states h s))
          (inl (any_mapped (λ (e : Entry). id_eq x e.id) (row_entry h) (is_row x) s.rows r found (found_passes (is_row x) s.rows r found))))
  listed_there x (Arrives a b n r) e some = at_hosts placed_here
    where
      placed_here : (s : Plain) × (t : Plain) × At states a s × At states b t
      placed_here = subst (IsPlaced states) e (told.placed x)

      at_hosts : (s : Plain) × (t : Plain) × At states a s × At states b t → list_any (λ (e : Entry). id_eq x e.id) (entries states) ≡ true
      at_hosts (s, t, sat, tat) = by (offered s b n) refl (find_promise a n t) refl
          (told.claims a b s t sat tat n x ∙ (ap (claim_in a b n) e ∙ claim_of_arrives a b n r))
        where
          by : (o : Offer) → offered s b n ≡ o → (q : Option Pledging) → find_promise a n t ≡ q → claim o q x ≡ Some r
              → list_any (λ (e : Entry). id_eq x e.id) (entries states) ≡ true
          by NoOffer f q g k = absurd (none-some r k)
          by (Open load) f q g k = absurd (none-some r k)
          by (Given id queue) f None g k = absurd (none-some r k)
          by (Given id queue) f (Some p) g k = named (id_eq x p.row.id) refl k
            where
              named : (c : Bool) → id_eq x p.row.id ≡ c → (if c then Some p.row else None) ≡ Some r
                  → list_any (λ (e : Entry). id_eq x e.id) (entries states) ≡ true
              named true is k =
                  let key : peer_number a n ≡ promise_key p = promise_key_is t (peer_number a n) p g in
                  let comes : is_arriving states b p ≡ true = (λ j. passes (is_committed_to b (sym key j).number) (slice_get states (sym key j).peer.0))
                  ∙ (ap (passes (is_committed_to b n)) sat ∙ committed_hand s b n id queue f) in
                  let z : 0 + b.0 ≡ b.0 = omega arith in
                  somewhere (λ (e : Entry). id_eq x e.id) 0 states b.0 t tat
                  ((λ j. list_any (λ (e : Entry). id_eq x e.id) (entries_at states (host_at (z j)) t))
                  ∙ any_both (λ (e : Entry). id_eq x e.id) (map (row_entry b) t.rows) (map (promise_entry b) (arriving states b t))
                  (inr (any_mapped (λ (e : Entry). id_eq x e.id) (promise_entry b) (is_promise (peer_number a n)) (arriving states b t) p
                  (find_in_filter (is_promise (peer_number a n)) (is_arriving states b) t.promises p g comes) is)))
              named false is k = absurd (none-some r k)

  -- where a request lies is where the table has it
  pub entry_is : (x : Request) → entry_of x states ≡ entry_at (table x)
  entry_is x = of (entry_of x states) refl
    where
      nowhere : entry_of x states ≡ None → (t : Place) → table x ≡ t → None ≡ entry_at t
      nowhere none Nowhere e = refl
      nowhere none (Sits h r) e = absurd (let k = in_list x (entries states) (listed_there x (Sits h r) e (λ f. let no : ⊥ = cc in no)) in
          none-some k.0 (sym none ∙ k.1))
      nowhere none (Arrives a b n r) e = absurd (let k = in_list x (entries states) (listed_there x (Arrives a b n r) e (λ f. let no : ⊥ = cc in no)) in
          none-some k.0 (sym none ∙ k.1))

      of : (y : Option Entry) → entry_of x states ≡ y → y ≡ entry_at (table x)
      of None e = nowhere e (table x) refl
      of (Some f) e = sym (found_right x (entries states) all_listed.right f e)
