-- A tick takes back all offers that are silent.
use Rattle.std.proofs.Common.{◌≡◌, ℕ, Bool, true, false, cond, not, ◌&&◌, ◌||◌, nat_le, List, [], ◌∷◌, map, filter, find, slice_get, Option, None, Some}
use Rattle.std.proofs.Common.{true≢false, zero, suc, refl, sym, ap, ◌∙◌, if◌then◌else◌}
use Rattle.std.proofs.lemmas.Bool.{and_parts, and_from, or_left, or_right, not-true, not_from_false}
use Rattle.std.proofs.lemmas.Option.{same_Some, none-some}
use Rattle.std.specs.List.{list_any, list_all}
use Rattle.nqs_base.proofs.Plain.{all_places}
use Rattle.nqs_types.specs.Ids.{peer_number_eq, peer_number_exact, hand_key}
use Rattle.nqs_state.specs.State.{Plain}
use Rattle.nqs_base_tables.specs.Table.{without_first}
use Rattle.nqs_state.specs.Keys.{is_hand}
use Rattle.nqs_types.specs.declared.ids.PeerNumber.{PeerNumber}
use Rattle.nqs_types.specs.declared.request.Hand.{Hand}
use Rattle.nqs_rules.specs.Tests.{is_offered}
use Rattle.nqs_rules.specs.Find.{peer_number, find_hand}
use Rattle.nqs_rules.specs.Handover.{later, is_silent, silent_hands, silence}
use Rattle.nqs_rules.specs.Applied.{hand_silent, hands_silent}
use Rattle.nqs_rules.specs.Starts.{after_change}
use Rattle.nqs_rules.specs.InOrder.{IsInOrder, are_distinct}
use Rattle.nqs_rules.proofs.ListMaps.{list_any-map}
use Rattle.nqs_rules.proofs.RowFacts.{same_peer_number}
use Rattle.nqs_rules.proofs.StateFacts.{keys_are}
use Rattle.nqs_rules.proofs.Sublists.{part_all, without_part, map_part, part_distinct}
use Rattle.nqs_laws.specs.AtOnce.{has_no_silence}

-- lists

listed : (t q : Hand → Bool) (ys : List Hand) (i : ℕ) (y : Hand) → slice_get ys i ≡ Some y → t y ≡ true → q y ≡ true → list_any q (filter t ys) ≡ true
listed t q [] i y at e k = absurd (none-some y at)
listed t q (z ∷ ys) zero y at e k = let same : z ≡ y = same_Some z y at in
    ap (λ b. list_any q (cond b (z ∷ filter t ys) (filter t ys))) (ap t same ∙ e) ∙ or_left (q z) (list_any q (filter t ys)) (ap q same ∙ k)
listed t q (z ∷ ys) (suc i) y at e k = by (t z) (listed t q ys i y at e k)
  where
    by : (b : Bool) → list_any q (filter t ys) ≡ true → list_any q (cond b (z ∷ filter t ys) (filter t ys)) ≡ true
    by true rest = or_right (q z) (list_any q (filter t ys)) rest
    by false rest = rest

none_any : (t : Hand → Bool) (ys : List Hand) → list_all (λ y. not (t y) || false) ys ≡ true → list_any t ys ≡ false
none_any t [] k = refl
none_any t (y ∷ ys) k = let p = and_parts (not (t y) || false) (list_all (λ y. not (t y) || false) ys) k in by (t y) p.0 (none_any t ys p.1)
  where
    by : (b : Bool) → (not b || false) ≡ true → list_any t ys ≡ false → (b || list_any t ys) ≡ false
    by true k rest = absurd (true≢false (sym k))
    by false k rest = rest

none_of : (k : PeerNumber) (ys : List Hand) → find (is_hand k) ys ≡ None → list_all (λ y. not (is_hand k y)) ys ≡ true
none_of k [] e = refl
none_of k (y ∷ ys) e = by (is_hand k y) e (none_of k ys)
  where
    by : (b : Bool) → cond b (Some y) (find (is_hand k) ys) ≡ None → (find (is_hand k) ys ≡ None → list_all (λ y. not (is_hand k y)) ys ≡ true)
        → (not b && list_all (λ y. not (is_hand k y)) ys) ≡ true
    by true e rest = absurd (none-some y (sym e))
    by false e rest = rest e

-- of distinct hands one at most has a key
none_left : (k : PeerNumber) (ys : List Hand) → are_distinct peer_number_eq (map hand_key ys) ≡ true
    → list_all (λ y. not (is_hand k y)) (without_first (is_hand k) ys) ≡ true
none_left k [] d = refl
none_left k (y ∷ ys) d = let p = and_parts (not (list_any (peer_number_eq (hand_key y)) (map hand_key ys))) (are_distinct peer_number_eq (map hand_key ys)) d in
    by (is_hand k y) refl p.0 (none_left k ys p.1)
  where
    others : (zs : List Hand) → list_any (is_hand k) zs ≡ false → list_all (λ y. not (is_hand k y)) zs ≡ true
    others [] e = refl
    others (z ∷ zs) e = of (is_hand k z) e (others zs)
      where
        of : (b : Bool) → (b || list_any (is_hand k) zs) ≡ false → (list_any (is_hand k) zs ≡ false → list_all (λ y. not (is_hand k y)) zs ≡ true)
            → (not b && list_all (λ y. not (is_hand k y)) zs) ≡ true
        of true e rest = absurd (true≢false e)
        of false e rest = rest e

    by : (b : Bool) → is_hand k y ≡ b → not (list_any (peer_number_eq (hand_key y)) (map hand_key ys)) ≡ true
        → list_all (λ y. not (is_hand k y)) (without_first (is_hand k) ys) ≡ true
        → list_all (λ y. not (is_hand k y)) (if b then ys else y ∷ without_first (is_hand k) ys) ≡ true
    by true e far rest =
        let key : k ≡ hand_key y = peer_number_exact k (hand_key y) e in
        others ys (sym (list_any-map hand_key (peer_number_eq k) ys) ∙ (ap (λ i. list_any (peer_number_eq i) (map hand_key ys)) key
        ∙ not-true (list_any (peer_number_eq (hand_key y)) (map hand_key ys)) far))
    by false e far rest = and_from (not (is_hand k y)) (list_all (λ y. not (is_hand k y)) (without_first (is_hand k) ys)) (not_from_false (is_hand k y) e) rest

module _ (silent : Hand → Bool) where
  -- a silent hand is one of these
  abbrev is_covered : List PeerNumber → Hand → Bool
  is_covered ks y = not (silent y) || list_any (λ k. is_hand k y) ks

  uncovered : (k : PeerNumber) (ks : List PeerNumber) (ys : List Hand) → list_all (is_covered (k ∷ ks)) ys ≡ true → list_all (λ y. not (is_hand k y)) ys ≡ true
      → list_all (is_covered ks) ys ≡ true
  uncovered k ks [] a b = refl
  uncovered k ks (y ∷ ys) a b =
      let p = and_parts (is_covered (k ∷ ks) y) (list_all (is_covered (k ∷ ks)) ys) a in
      let q = and_parts (not (is_hand k y)) (list_all (λ y. not (is_hand k y)) ys) b in
      and_from (is_covered ks y) (list_all (is_covered ks) ys) (of (silent y) (is_hand k y) (list_any (λ k. is_hand k y) ks) p.0 q.0)
      (uncovered k ks ys p.1 q.1)
    where
      of : (a b c : Bool) → (not a || (b || c)) ≡ true → not b ≡ true → (not a || c) ≡ true
      of true true c k l = absurd (true≢false (sym l))
      of true false c k l = k
      of false b c k l = refl

  silences : (until : ℕ) (ks : List PeerNumber) (s : Plain) → are_distinct peer_number_eq (map hand_key s.hands) ≡ true
      → list_all (is_covered ks) s.hands ≡ true → list_any silent (hands_silent until ks s).hands ≡ false
  silences until [] s d cover = none_any silent s.hands cover
  silences until (k ∷ ks) s d cover = of (find_hand k.peer k.number s) refl (silences until ks)
    where
      of : (o : Option Hand) → find_hand k.peer k.number s ≡ o → ((u : Plain) → are_distinct peer_number_eq (map hand_key u.hands) ≡ true
          → list_all (is_covered ks) u.hands ≡ true → list_any silent (hands_silent until ks u).hands ≡ false)
          → list_any silent (hands_silent until ks (hand_silent until k o s)).hands ≡ false
      of None e rest = rest s d (uncovered k ks s.hands cover (none_of k s.hands e))
      of (Some y) e rest =
          rest (hand_silent until k (Some y) s) (part_distinct peer_number_eq (map_part hand_key (without_part (is_hand k) s.hands)) d)
          (uncovered k ks (without_first (is_hand k) s.hands) (part_all (is_covered (k ∷ ks)) (without_part (is_hand k) s.hands) cover) (none_left k s.hands d))

  all_covered : (ys : List Hand) → list_all (is_covered (map (λ (h : Hand). peer_number h.peer h.number) (filter silent ys))) ys ≡ true
  all_covered ys = all_places (is_covered (map (λ (h : Hand). peer_number h.peer h.number) (filter silent ys))) ys (λ i y at. by i y at (silent y) refl)
    where
      by : (i : ℕ) (y : Hand) → slice_get ys i ≡ Some y → (b : Bool) → silent y ≡ b
          → (not b || list_any (λ k. is_hand k y) (map (λ (h : Hand). peer_number h.peer h.number) (filter silent ys))) ≡ true
      by i y at true e =
          list_any-map (λ (h : Hand). peer_number h.peer h.number) (λ k. is_hand k y) (filter silent ys)
          ∙ listed silent (λ (z : Hand). is_hand (peer_number z.peer z.number) y) ys i y at e (same_peer_number (hand_key y))
      by i y at false e = refl

silents_patience : (until : ℕ) (ks : List PeerNumber) (s : Plain) → (hands_silent until ks s).patience ≡ s.patience
silents_patience until [] s = refl
silents_patience until (k ∷ ks) s = silents_patience until ks (hand_silent until k (find_hand k.peer k.number s) s) ∙ of (find_hand k.peer k.number s)
  where
    of : (o : Option Hand) → (hand_silent until k o s).patience ≡ s.patience
    of None = refl
    of (Some y) = refl

module _ (now : ℕ) (s : Plain) (o : IsInOrder s) where
  abbrev silent_by : ℕ → Hand → Bool
  silent_by patience y = is_offered y.phase && nat_le (later y.since patience) now

  pub none_silent : (until : ℕ) → list_any (is_silent now s) (hands_silent until (silent_hands now s) s).hands ≡ false
  none_silent until = silences (silent_by s.patience) until (silent_hands now s) s (keys_are s o.keys).hands (all_covered (silent_by s.patience) s.hands)

  -- those that are silent are taken back
  pub no_silence : (until : ℕ) → has_no_silence now (hands_silent until (silent_hands now s) s) ≡ true
  no_silence until =
      ap (λ p. not (list_any (silent_by p) (hands_silent until (silent_hands now s) s).hands)) (silents_patience until (silent_hands now s) s)
      ∙ not_from_false (list_any (silent_by s.patience) (hands_silent until (silent_hands now s) s).hands)
      (none_silent until)

  -- and where there are none, nothing changes
  pub silence_ends : has_no_silence now (after_change (silence now s.retry_wait (silent_hands now s)) s) ≡ true
  silence_ends = ap (has_no_silence now) (same (silent_hands now s)) ∙ no_silence (later now s.retry_wait)
    where
      same : (ks : List PeerNumber) → after_change (silence now s.retry_wait ks) s ≡ hands_silent (later now s.retry_wait) ks s
      same [] = refl
      same (k ∷ ks) = refl
