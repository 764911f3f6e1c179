-- A peer's low is the least of its next number and of the numbers of its hands.
use Rattle.std.proofs.Common.{◌≡◌, ℕ, ◌≤◌, Bool, true, false, cond, ◌||◌, ◌==◌, nat_le, min, List, [], ◌∷◌, map, filter, refl, ap, ◌∙◌, arith, if◌then◌else◌}
use Rattle.std.proofs.lemmas.Bool.{and_from, leb-true, leb-false, le-leb, or_left, or_right}
use Rattle.std.specs.List.{list_all}
use Rattle.nqs_types.specs.declared.ids.HostId.{HostId}
use Rattle.nqs_types.specs.declared.request.Hand.{Hand}
use Rattle.nqs_rules.specs.Routing.{has_number, is_hand_to, low}
use Rattle.nqs_rules.proofs.ListFacts.{list_all-weaker}
use Rattle.nqs_rules.proofs.RowFacts.{same_it}

pub low-most : (peer : HostId) (next : ℕ) (hands : List Hand) → low peer next hands ≤ next
low-most peer next [] = omega arith
low-most peer next (h ∷ hs) = by (is_hand_to peer h) (low-most peer next hs)
  where
    by : (b : Bool) → low peer next hs ≤ next → (if b then min h.number (low peer next hs) else low peer next hs) ≤ next
    by true rest = omega arith
    by false rest = rest

pub low-least : (peer : HostId) (next : ℕ) (hands : List Hand)
    → list_all (λ h. nat_le (low peer next hands) h.number) (filter (is_hand_to peer) hands) ≡ true
low-least peer next [] = refl
low-least peer next (h ∷ hs) = by (is_hand_to peer h) (low-least peer next hs)
  where
    lower : (x : Hand) → nat_le (low peer next hs) x.number ≡ true → nat_le (min h.number (low peer next hs)) x.number ≡ true
    lower x k = let q = leb-true (low peer next hs) x.number k in le-leb (min h.number (low peer next hs)) x.number (omega arith)

    by : (b : Bool) → list_all (λ x. nat_le (low peer next hs) x.number) (filter (is_hand_to peer) hs) ≡ true
        → list_all (λ x. nat_le (if b then min h.number (low peer next hs) else low peer next hs) x.number)
        (cond b (h ∷ filter (is_hand_to peer) hs) (filter (is_hand_to peer) hs)) ≡ true
    by true rest = and_from (nat_le (min h.number (low peer next hs)) h.number)
        (list_all (λ x. nat_le (min h.number (low peer next hs)) x.number) (filter (is_hand_to peer) hs))
        (le-leb (min h.number (low peer next hs)) h.number (omega arith))
        (list_all-weaker (λ x. nat_le (low peer next hs) x.number) (λ x. nat_le (min h.number (low peer next hs)) x.number) lower
        (filter (is_hand_to peer) hs) rest)
    by false rest = rest

pub low-one : (peer : HostId) (next : ℕ) (hands : List Hand)
    → has_number (low peer next hands) (next ∷ map (λ h. h.number) (filter (is_hand_to peer) hands)) ≡ true
low-one peer next [] = or_left (next == next) false (same_it next)
low-one peer next (h ∷ hs) = by (is_hand_to peer h) (low-one peer next hs)
  where
    numbers : List ℕ
    numbers = map (λ x. x.number) (filter (is_hand_to peer) hs)

    least : (n m : ℕ) → (nat_le n m ≡ true → min n m ≡ n) × (nat_le n m ≡ false → min n m ≡ m)
    least n m = (λ e. let k = leb-true n m e in omega arith, λ e. let k = leb-false n m e in omega arith)

    two : (c : Bool) → nat_le h.number (low peer next hs) ≡ c → has_number (low peer next hs) (next ∷ numbers) ≡ true
        → has_number (min h.number (low peer next hs)) (next ∷ h.number ∷ numbers) ≡ true
    two true e rest = ap (λ n. has_number n (next ∷ h.number ∷ numbers)) ((least h.number (low peer next hs)).0 e)
        ∙ or_right (h.number == next) ((h.number == h.number) || has_number h.number numbers)
        (or_left (h.number == h.number) (has_number h.number numbers) (same_it h.number))
    two false e rest = ap (λ n. has_number n (next ∷ h.number ∷ numbers)) ((least h.number (low peer next hs)).1 e)
        ∙ more (low peer next hs == next) (low peer next hs == h.number) (has_number (low peer next hs) numbers) rest
      where
        more : (a b c : Bool) → (a || c) ≡ true → (a || (b || c)) ≡ true
        more true b c k = refl
        more false true c k = refl
        more false false c k = k

    by : (b : Bool) → has_number (low peer next hs) (next ∷ numbers) ≡ true
        → has_number (if b then min h.number (low peer next hs) else low peer next hs)
        (next ∷ map (λ x. x.number) (cond b (h ∷ filter (is_hand_to peer) hs) (filter (is_hand_to peer) hs))) ≡ true
    by true rest = two (nat_le h.number (low peer next hs)) refl rest
    by false rest = rest
