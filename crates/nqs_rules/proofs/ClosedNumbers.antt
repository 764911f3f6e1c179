-- Closed numbers of a peer: what closing one and raising the floor leave closed, and that they
-- ascend.
use Rattle.std.proofs.Common.{◌≡◌, ℕ, ◌≤◌, Bool, true, false, cond, ◌||◌, ◌&&◌, ◌==◌, nat_lt, nat_le, max, List, [], ◌∷◌, filter, refl, sym, ap, ◌∙◌}
use Rattle.std.proofs.Common.{arith, if◌then◌else◌}
use Rattle.std.proofs.lemmas.Bool.{and_parts, and_from, or_parts, leb-true, leb-false, le-leb, lt-leb, ltb-true, lt-ltb}
use Rattle.std.proofs.lemmas.Bool.Decides.{nat_tests}
use Rattle.nqs_types.specs.declared.request.Peer.{Peer}
use Rattle.nqs_rules.specs.Routing.{has_number, is_closed, joined, close, raise_floor}
use Rattle.nqs_rules.specs.InOrder.{ascends_from}
use Rattle.nqs_rules.proofs.Sublists.{IsPart, none, skip, keep, filter_part}

or_turned : (a b c : Bool) → (a || (b || c)) ≡ (b || (a || c))
or_turned true true c = refl
or_turned true false c = refl
or_turned false b c = refl

-- which numbers are there

has-joined : (m n : ℕ) (ns : List ℕ) → has_number m (joined n ns) ≡ ((m == n) || has_number m ns)
has-joined m n [] = refl
has-joined m n (k ∷ ns) = by (nat_lt n k) (has-joined m n ns)
  where
    by : (b : Bool) → has_number m (joined n ns) ≡ ((m == n) || has_number m ns) → has_number m (if b then n ∷ k ∷ ns else k ∷ joined n ns)
        ≡ ((m == n) || ((m == k) || has_number m ns))
    by true rest = refl
    by false rest = ap (λ o. (m == k) || o) rest ∙ or_turned (m == k) (m == n) (has_number m ns)

-- numbers above a bound that stay
has-above : (m b : ℕ) (ns : List ℕ) → nat_le m b ≡ false → has_number m (filter (nat_lt b) ns) ≡ has_number m ns
has-above m b [] above = refl
has-above m b (k ∷ ns) above = by (nat_lt b k) refl (has-above m b ns above)
  where
    other : nat_lt b k ≡ false → (m == k) ≡ false
    other e = grind (arith, nat_tests)

    by : (c : Bool) → nat_lt b k ≡ c → has_number m (filter (nat_lt b) ns) ≡ has_number m ns
        → has_number m (cond c (k ∷ filter (nat_lt b) ns) (filter (nat_lt b) ns)) ≡ ((m == k) || has_number m ns)
    by true e rest = ap (λ o. (m == k) || o) rest
    by false e rest = rest ∙ ap (λ o. o || has_number m ns) (sym (other e))

below-max : (m a b : ℕ) → nat_le m (max a b) ≡ (nat_le m b || nat_le m a)
below-max m a b = by (nat_le m b) refl (nat_le m a) refl
  where
    by : (c : Bool) → nat_le m b ≡ c → (d : Bool) → nat_le m a ≡ d → nat_le m (max a b) ≡ (c || d)
    by true e d g = let k = leb-true m b e in le-leb m (max a b) (omega arith)
    by false e true g = let k = leb-true m a g in le-leb m (max a b) (omega arith)
    by false e false g = let k = leb-false m b e in let l = leb-false m a g in lt-leb m (max a b) (omega arith)

-- a number is closed behind a close if it is that number, or was closed
pub closed-close : (m n : ℕ) (p : Peer) → is_closed m (close n p) ≡ ((m == n) || is_closed m p)
closed-close m n p = ap (λ o. nat_le m p.floor || o) (has-joined m n p.closed) ∙ or_turned (nat_le m p.floor) (m == n) (has_number m p.closed)

-- a number is closed behind a raised floor if it is at most that, or was closed
pub closed-raised : (m n : ℕ) (p : Peer) → is_closed m (raise_floor n p) ≡ (nat_le m n || is_closed m p)
closed-raised m n p =
    by (nat_le m (max p.floor n)) refl
    ∙ ap (λ o. o || has_number m p.closed) (below-max m p.floor n)
    ∙ grouped (nat_le m n) (nat_le m p.floor) (has_number m p.closed)
  where
    by : (b : Bool) → nat_le m (max p.floor n) ≡ b → (b || has_number m (filter (nat_lt (max p.floor n)) p.closed)) ≡ (b || has_number m p.closed)
    by true e = refl
    by false e = has-above m (max p.floor n) p.closed e

    grouped : (a b c : Bool) → ((a || b) || c) ≡ (a || (b || c))
    grouped true b c = refl
    grouped false b c = refl

-- they ascend

ascends-lower : (a b : ℕ) (ns : List ℕ) → a ≤ b → ascends_from b ns ≡ true → ascends_from a ns ≡ true
ascends-lower a b [] less h = refl
ascends-lower a b (n ∷ ns) less h =
    let p = and_parts (nat_lt b n) (ascends_from n ns) h in
    let below = ltb-true b n p.0 in
    and_from (nat_lt a n) (ascends_from n ns) (lt-ltb a n (omega arith)) p.1

ascends-part : (a : ℕ) {ms ns : List ℕ} → IsPart ms ns → ascends_from a ns ≡ true → ascends_from a ms ≡ true
ascends-part a none h = refl
ascends-part a (skip {v = v} {xs = xs} part) h =
    let p = and_parts (nat_lt a v) (ascends_from v xs) h in
    let below = ltb-true a v p.0 in
    ascends-part a part (ascends-lower a v xs (omega arith) p.1)
ascends-part a (keep {v = v} {ys = ys} {xs = xs} part) h = let p = and_parts (nat_lt a v) (ascends_from v xs) h in
    and_from (nat_lt a v) (ascends_from v ys) p.0 (ascends-part v part p.1)

joined-ascends : (a n : ℕ) (ns : List ℕ) → nat_lt a n ≡ true → has_number n ns ≡ false → ascends_from a ns ≡ true → ascends_from a (joined n ns) ≡ true
joined-ascends a n [] above new h = and_from (nat_lt a n) true above refl
joined-ascends a n (k ∷ ns) above new h =
    let p = and_parts (nat_lt a k) (ascends_from k ns) h in
    let q = or_parts (n == k) (has_number n ns) new in
    by (nat_lt n k) refl p.0 p.1 (λ more. joined-ascends k n ns (next q.0 more) q.1 p.1)
  where
    next : (n == k) ≡ false → nat_lt n k ≡ false → nat_lt k n ≡ true
    next other e = grind (arith, nat_tests)

    by : (b : Bool) → nat_lt n k ≡ b → nat_lt a k ≡ true → ascends_from k ns ≡ true → (nat_lt n k ≡ false → ascends_from k (joined n ns) ≡ true)
        → ascends_from a (if b then n ∷ k ∷ ns else k ∷ joined n ns) ≡ true
    by true e below rest more = and_from (nat_lt a n) (nat_lt n k && ascends_from k ns) above (and_from (nat_lt n k) (ascends_from k ns) e rest)
    by false e below rest more = and_from (nat_lt a k) (ascends_from k (joined n ns)) below (more e)

above-ascends : (a b : ℕ) (ns : List ℕ) → ascends_from a ns ≡ true → ascends_from b (filter (nat_lt b) ns) ≡ true
above-ascends a b [] h = refl
above-ascends a b (k ∷ ns) h = by (nat_lt b k) refl (and_parts (nat_lt a k) (ascends_from k ns) h).1 (above-ascends k b ns)
  where
    by : (c : Bool) → nat_lt b k ≡ c → ascends_from k ns ≡ true → (ascends_from k ns ≡ true → ascends_from b (filter (nat_lt b) ns) ≡ true)
        → ascends_from b (cond c (k ∷ filter (nat_lt b) ns) (filter (nat_lt b) ns)) ≡ true
    by true e h rest = and_from (nat_lt b k) (ascends_from k (filter (nat_lt b) ns)) e (ascends-part k (filter_part (nat_lt b) ns) h)
    by false e h rest = rest h

-- closed numbers ascend above the floor, behind a close of one that wasn't closed
pub close-ascends : (n : ℕ) (p : Peer) → is_closed n p ≡ false → ascends_from p.floor p.closed ≡ true → ascends_from (close n p).floor (close n p).closed ≡ true
close-ascends n p opens h = let q = or_parts (nat_le n p.floor) (has_number n p.closed) opens in joined-ascends p.floor n p.closed (above q.0) q.1 h
  where
    above : nat_le n p.floor ≡ false → nat_lt p.floor n ≡ true
    above e = grind (arith, nat_tests)

-- and behind a raise of the floor
pub raise-ascends : (n : ℕ) (p : Peer) → ascends_from p.floor p.closed ≡ true → ascends_from (raise_floor n p).floor (raise_floor n p).closed ≡ true
raise-ascends n p h = above-ascends p.floor (max p.floor n) p.closed h
