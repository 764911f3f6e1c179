-- The low of a host: that of the handover which was found, and at most the next number.
use Rattle.std.proofs.Common.{◌≡◌, ◌≤◌, ◌+◌, ◌∙◌, ℕ, Bool, true, false, nat_lt, min, List, [], ◌∷◌, Option, None, Some, if◌then◌else◌, refl, ap, arith}
use Rattle.std.proofs.lemmas.Bool.Decides.{nat_tests}
use Rattle.nqs_base_tables.specs.Table.{better, best_from}
use Rattle.nqs_types.specs.declared.ids.HostId.{HostId}
use Rattle.nqs_types.specs.declared.request.Hand.{Hand}
use Rattle.nqs_rules.specs.Routing.{is_hand_to, low}
use Rattle.nqs_routing.specs.Low.{is_before, low_with}

module _ (peer : HostId) (next : ℕ) where
  -- one handover more
  pub better_low : (x : ℕ × Hand) (o : Option (ℕ × Hand)) → low_with next (better is_before x o) ≡ min x.1.number (low_with next o)
  better_low x None = refl
  better_low x (Some y) = by (nat_lt y.1.number x.1.number) refl
    where
      by : (b : Bool) → nat_lt y.1.number x.1.number ≡ b → low_with next (if b then Some y else Some x) ≡ min x.1.number (min y.1.number next)
      by true e = (let k : y.1.number + 1 ≤ x.1.number = grind (arith, nat_tests) in omega arith)
      by false e = (let k : x.1.number ≤ y.1.number = grind (arith, nat_tests) in omega arith)

  -- the low is that of the least
  pub low_found : (n : ℕ) (hands : List Hand) → low_with next (best_from (is_hand_to peer) is_before n hands) ≡ low peer next hands
  low_found n [] = refl
  low_found n (h ∷ hs) = by (is_hand_to peer h) (low_found (n + 1) hs)
    where
      by : (b : Bool) → low_with next (best_from (is_hand_to peer) is_before (n + 1) hs) ≡ low peer next hs
          → low_with next (if b then better is_before (n, h) (best_from (is_hand_to peer) is_before (n + 1) hs)
          else best_from (is_hand_to peer) is_before (n + 1) hs)
          ≡ (if b then min h.number (low peer next hs) else low peer next hs)
      by true rest = better_low (n, h) (best_from (is_hand_to peer) is_before (n + 1) hs) ∙ ap (min h.number) rest
      by false rest = rest

  -- it is at most the next number
  pub low_within : (hands : List Hand) → low peer next hands ≤ next
  low_within [] = omega arith
  low_within (h ∷ hs) = by (is_hand_to peer h) (low_within hs)
    where
      by : (b : Bool) → low peer next hs ≤ next → (if b then min h.number (low peer next hs) else low peer next hs) ≤ next
      by true rest = omega (arith, rest)
      by false rest = rest
