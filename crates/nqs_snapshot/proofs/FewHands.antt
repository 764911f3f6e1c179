-- Few hands go to each host where few go to each of 16.
use Rattle.std.proofs.Common.{◌≡◌, ℕ, ◌<◌, Bool, true, false, nat_le, List, [], ◌∷◌, length, filter, cond, refl, sym, ap, ◌∙◌, true≢false, arith}
use Rattle.std.proofs.lemmas.Bool.Decides.{nat_tests}
use Rattle.std.proofs.lemmas.Bool.{and_parts, and_from, ltb-true, eqb-true}
use Rattle.std.specs.List.{list_all, AllByRecursion}
use Rattle.nqs_base.specs.declared.extent.Extent.{Extent}
use Rattle.nqs_state.specs.State.{State}
use Rattle.nqs_types.specs.declared.request.Hand.{Hand}
use Rattle.nqs_rules.specs.Tests.{same_host}
use Rattle.nqs_rules.specs.Find.{host_at}
use Rattle.nqs_rules.specs.InOrder.{hands_to, has_few_hands}
use Rattle.nqs_snapshot.specs.Values.{IsHand}
use Rattle.nqs_snapshot.specs.Sound.{are_hands_few}

pub above : (n : ℕ) → 8 < n → nat_le n 8 ≡ false
above n more = grind (arith, nat_tests)

-- how many hands go to the host of this number is few
abbrev pub is_few_to : State Extent → ℕ → Bool
is_few_to s p = nat_le (length (hands_to (host_at p) s)) 8

module _ (s : State Extent) (few : (p : ℕ) → p < 16 → is_few_to s p ≡ true) where
  each_few : (hands : List Hand) → AllByRecursion IsHand hands → list_all (has_few_hands s) hands ≡ true
  each_few [] all = refl
  each_few (h ∷ hs) all = and_from (has_few_hands s h) (list_all (has_few_hands s) hs) (few h.peer.0 (ltb-true h.peer.0 16 all.0.0)) (each_few hs all.1)

  pub all_few : AllByRecursion IsHand s.hands → are_hands_few s ≡ true
  unfolding are_hands_few
  all_few all = each_few s.hands all

-- none passes a test where what passes it fails another, which each passes
none_in : {V : Type 0} (t q : V → Bool) → ((v : V) → t v ≡ true → q v ≡ false) → (vs : List V) → list_all q vs ≡ true → length (filter t vs) ≡ 0
none_in t q fails [] all = refl
none_in {V} t q fails (v ∷ vs) all = let k = and_parts (q v) (list_all q vs) all in by (t v) refl k.0 (none_in t q fails vs k.1)
  where
    by : (b : Bool) → t v ≡ b → q v ≡ true → length (filter t vs) ≡ 0 → length (cond b (v ∷ filter t vs) (filter t vs)) ≡ 0
    by true is ok rest = absurd (true≢false (sym ok ∙ fails v is))
    by false is ok rest = rest

pub not_few : (s : State Extent) (p : ℕ) → is_few_to s p ≡ false → are_hands_few s ≡ false
unfolding are_hands_few
not_few s p many = by (list_all (has_few_hands s) s.hands) refl
  where
    fails : (h : Hand) → same_host (host_at p) h.peer ≡ true → has_few_hands s h ≡ false
    fails h is = ap (is_few_to s) (sym (eqb-true p h.peer.0 is)) ∙ many

    by : (b : Bool) → list_all (has_few_hands s) s.hands ≡ b → b ≡ false
    by false is = refl
    by true is = absurd (true≢false (sym (ap (λ n. nat_le n 8) (none_in (λ h. same_host (host_at p) h.peer) (has_few_hands s) fails s.hands is)) ∙ many))
