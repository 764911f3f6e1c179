-- A host in order has at most 128 hands: at most eight to each of at most sixteen hosts.
use Rattle.std.proofs.Common.{◌≡◌, ℕ, zero, suc, ◌+◌, ◌*◌, ◌<◌, ◌≤◌, Bool, true, false, cond, ◌||◌, ◌==◌, nat_lt, List, [], ◌∷◌, find, filter, length, Option}
use Rattle.std.proofs.Common.{None, Some, true≢false, refl, sym, ap, ◌∙◌, arith}
use Rattle.std.proofs.lemmas.Bool.{and_parts, leb-true, ltb-true, eqb-true, lt-ltb}
use Rattle.std.proofs.lemmas.Bool.Decides.{nat_tests}
use Rattle.std.specs.List.{list_all}
use Rattle.nqs_state.specs.State.{State}
use Rattle.nqs_types.specs.declared.ids.HostId.{HostId}
use Rattle.nqs_types.specs.declared.request.Peer.{Peer}
use Rattle.nqs_rules.specs.Tests.{passes, same_host}
use Rattle.nqs_rules.specs.Find.{find_peer}
use Rattle.nqs_rules.specs.InOrder.{IsInOrder, is_hand_given, is_hand_right, has_few_hands}
use Rattle.nqs_rules.proofs.KeyFacts.{place_below}
use Rattle.nqs_rules.proofs.ListFacts.{found_passes, list_all-found, list_all-weaker}
use Rattle.nqs_rules.proofs.RowsOrder.{hand_is}
use Rattle.nqs_rules.proofs.StateFacts.{sites_are}

module _ {V : Type 0} where
  -- what a test finds nothing of, it keeps nothing of
  found_or_none : (t : V → Bool) (vs : List V) (k : ℕ) → ((v : V) → find t vs ≡ Some v → length (filter t vs) ≤ k) → length (filter t vs) ≤ k
  found_or_none t vs k some = by (find t vs) refl
    where
      none : (ws : List V) → find t ws ≡ None → length (filter t ws) ≡ 0
      none [] e = refl
      none (w ∷ ws) e = at (t w) e (none ws)
        where
          at : (b : Bool) → cond b (Some w) (find t ws) ≡ None → (find t ws ≡ None → length (filter t ws) ≡ 0)
              → length (cond b (w ∷ filter t ws) (filter t ws)) ≡ 0
          at true e rest = absurd (let no : ⊥ = cc in no)
          at false e rest = rest e

      by : (o : Option V) → find t vs ≡ o → length (filter t vs) ≤ k
      by None e = let nothing = none vs e in omega (arith, nothing)
      by (Some v) e = some v e

  -- one place more has those below it, and its own
  one_more : (place : V → ℕ) (n : ℕ) (vs : List V) → length (filter (λ v. nat_lt (place v) (suc n)) vs) ≤ length (filter (λ v. nat_lt (place v) n) vs)
      + length (filter (λ v. n == place v) vs)
  one_more place n [] = omega arith
  one_more place n (v ∷ vs) = by (nat_lt (place v) (suc n)) (nat_lt (place v) n) (n == place v) (split (place v)) (one_more place n vs)
    where
      split : (m : ℕ) → nat_lt m (suc n) ≡ true → (nat_lt m n || (n == m)) ≡ true
      split m below = grind (arith, nat_tests)

      by : (b c d : Bool) → (b ≡ true → (c || d) ≡ true) → length (filter (λ v. nat_lt (place v) (suc n)) vs) ≤ length (filter (λ v. nat_lt (place v) n) vs)
          + length (filter (λ v. n == place v) vs)
          → length (cond b (v ∷ filter (λ v. nat_lt (place v) (suc n)) vs) (filter (λ v. nat_lt (place v) (suc n)) vs))
          ≤ length (cond c (v ∷ filter (λ v. nat_lt (place v) n) vs) (filter (λ v. nat_lt (place v) n) vs))
          + length (cond d (v ∷ filter (λ v. n == place v) vs) (filter (λ v. n == place v) vs))
      by true true true h rest = omega (arith, rest)
      by true true false h rest = omega (arith, rest)
      by true false true h rest = omega (arith, rest)
      by true false false h rest = absurd (true≢false (sym (h refl)))
      by false true true h rest = omega (arith, rest)
      by false true false h rest = omega (arith, rest)
      by false false true h rest = omega (arith, rest)
      by false false false h rest = rest

  -- at most eight at each place
  few_below : (place : V → ℕ) (vs : List V) → ((n : ℕ) → length (filter (λ v. n == place v) vs) ≤ 8) → (n : ℕ)
      → length (filter (λ v. nat_lt (place v) n) vs) ≤ n * 8
  few_below place vs few zero = let none = found_or_none (λ v. nat_lt (place v) 0) vs 0
      (λ v e. absurd (below (place v) (found_passes (λ v. nat_lt (place v) 0) vs v e))) in omega (arith, none)
    where
      below : (m : ℕ) → nat_lt m 0 ≡ true → ⊥
      below m h = let less = ltb-true m 0 h in omega (arith, less)
  few_below place vs few (suc n) = let more = one_more place n vs in let rest = few_below place vs few n in let here = few n in omega (arith, more, rest, here)

  all_kept : (t : V → Bool) (vs : List V) → list_all t vs ≡ true → length (filter t vs) ≡ length vs
  all_kept t [] h = refl
  all_kept t (v ∷ vs) h = let p = and_parts (t v) (list_all t vs) h in ap (λ b. length (cond b (v ∷ filter t vs) (filter t vs))) p.0
      ∙ ap suc (all_kept t vs p.1)

module _ {E : Type 0} (s : State E) (h : IsInOrder s) where
  -- of whom something is known, that host is of the site
  pub known_below : (test : Peer → Bool) (host : HostId) → passes test (find_peer host s) ≡ true → host.0 < 16
  known_below test host known = by (find_peer host s) refl known
    where
      by : (o : Option Peer) → find_peer host s ≡ o → passes test o ≡ true → host.0 < 16
      by None e k = absurd (true≢false (sym k))
      by (Some p) e k =
          let below = place_below s.peers host.0 p e in
          let same = eqb-true (length s.peers) (length s.site) (sites_are s h.site).peers in
          let few = leb-true (length s.site) 16 (sites_are s h.site).few in
          omega (arith, below, same, few)

  pub hands_few : length s.hands ≤ 128
  hands_few =
      let few = few_below (λ x. x.peer.0) s.hands at 16 in
      let all = all_kept (λ x. nat_lt x.peer.0 16) s.hands (list_all-weaker (is_hand_right s) (λ x. nat_lt x.peer.0 16)
      (λ x k. lt-ltb x.peer.0 16 (known_below (is_hand_given x.number) x.peer (hand_is s x k).given)) s.hands h.hands) in
      omega (arith, few, all)
    where
      at : (n : ℕ) → length (filter (λ x. n == x.peer.0) s.hands) ≤ 8
      at n = found_or_none (λ x. n == x.peer.0) s.hands 8 (λ x found.
          let few = leb-true (length (filter (λ y. same_host x.peer y.peer) s.hands)) 8
          (list_all-found (has_few_hands s) (λ y. n == y.peer.0) s.hands x h.few found) in
          let same = ap (λ m. length (filter (λ y. m == y.peer.0) s.hands)) (eqb-true n x.peer.0 (found_passes (λ y. n == y.peer.0) s.hands x found)) in
          omega (arith, few, same))
