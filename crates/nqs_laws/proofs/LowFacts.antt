-- The low of handovers to a host, as a bound of their numbers.
use Rattle.std.proofs.Common.{ℕ, ◌≡◌, ◌≤◌, Bool, true, false, not, ◌||◌, nat_le, min, List, [], ◌∷◌, refl, arith, if◌then◌else◌}
use Rattle.std.proofs.lemmas.Bool.{and_parts, and_from, leb-true, le-leb}
use Rattle.std.specs.List.{list_all}
use Rattle.nqs_types.specs.declared.ids.HostId.{HostId}
use Rattle.nqs_types.specs.declared.request.Hand.{Hand}
use Rattle.nqs_rules.specs.Routing.{is_hand_to, low}

-- a hand that doesn't go to this host, or has this number at least
abbrev pub is_above : HostId → ℕ → Hand → Bool
is_above b v y = not (is_hand_to b y) || nat_le v y.number

-- what is at most the next number, and each number of a hand, is at most the low
pub low_above : (b : HostId) (v next : ℕ) (ys : List Hand) → v ≤ next → list_all (is_above b v) ys ≡ true → v ≤ low b next ys
low_above b v next [] few k = few
low_above b v next (y ∷ ys) few k =
    let p = and_parts (is_above b v y) (list_all (is_above b v) ys) k in
    by (is_hand_to b y) p.0 (low_above b v next ys few p.1)
  where
    by : (c : Bool) → (not c || nat_le v y.number) ≡ true → v ≤ low b next ys → v ≤ (if c then min y.number (low b next ys) else low b next ys)
    by true k rest = let l = leb-true v y.number k in omega (arith, l, rest)
    by false k rest = rest

-- and the other way round
pub low_next : (b : HostId) (next : ℕ) (ys : List Hand) → low b next ys ≤ next
low_next b next [] = omega arith
low_next b next (y ∷ ys) = by (is_hand_to b y) (low_next b next ys)
  where
    by : (c : Bool) → low b next ys ≤ next → (if c then min y.number (low b next ys) else low b next ys) ≤ next
    by true rest = omega (arith, rest)
    by false rest = rest

pub low_each : (b : HostId) (v next : ℕ) (ys : List Hand) → v ≤ low b next ys → list_all (is_above b v) ys ≡ true
low_each b v next [] few = refl
low_each b v next (y ∷ ys) few = and_from (is_above b v y) (list_all (is_above b v) ys) (own (is_hand_to b y) few)
    (low_each b v next ys (less (is_hand_to b y) few))
  where
    own : (c : Bool) → v ≤ (if c then min y.number (low b next ys) else low b next ys) → (not c || nat_le v y.number) ≡ true
    own true few = le-leb v y.number (omega (arith, few))
    own false few = refl

    less : (c : Bool) → v ≤ (if c then min y.number (low b next ys) else low b next ys) → v ≤ low b next ys
    less true few = omega (arith, few)
    less false few = few
