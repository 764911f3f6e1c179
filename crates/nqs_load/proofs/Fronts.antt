-- Destinations that are put first, one after the other, from the last to the first.
use Rattle.std.proofs.Common.{◌≡◌, ℕ, ◌+◌, Bool, true, false, cond, not, ◌||◌, List, [], ◌∷◌, ◌++◌, length, find, Some, refl, sym, ap, ◌∙◌, arith}
use Rattle.std.proofs.Common.{if◌then◌else◌, true≢false}
use Rattle.std.proofs.lemmas.Bool.{and_parts, and_from, or_parts, or_left, or_right, not-true}
use Rattle.std.proofs.lemmas.Option.{same_Some}
use Rattle.std.specs.List.{list_any}
use Rattle.nqs_base.specs.Same.{name_eq, name_exact, number_exact}
use Rattle.nqs_base_tables.specs.Table.{change_first, without_first}
use Rattle.nqs_rules.specs.InOrder.{are_distinct}
use Rattle.nqs_rules.specs.Tests.{same_dest, same_host}
use Rattle.nqs_rules.proofs.KeyFacts.{length_without}
use Rattle.nqs_rules.proofs.RowFacts.{same_it, same_name}
use Rattle.nqs_types.specs.declared.ids.Dest.{Dest}

module _ {V : Type 0} (t : V → Bool) where
  -- what none of the first passes goes from behind them
  pub without_behind : (xs ys : List V) → list_any t xs ≡ false → without_first t (xs ++ ys) ≡ xs ++ without_first t ys
  without_behind [] ys none = refl
  without_behind (x ∷ xs) ys none =
      let p = or_parts (t x) (list_any t xs) none in
      ap (λ b. if b then xs ++ ys else x ∷ without_first t (xs ++ ys)) p.0 ∙ ap (λ l. x ∷ l) (without_behind xs ys p.1)

  -- two changes of one value are one
  pub changed_twice : (g f : V → V) → ((v : V) → t (f v) ≡ t v) → (vs : List V)
      → change_first t g (change_first t f vs) ≡ change_first t (λ v. g (f v)) vs
  changed_twice g f same [] = refl
  changed_twice g f same (x ∷ vs) = by (t x) refl (changed_twice g f same vs)
    where
      by : (b : Bool) → t x ≡ b → change_first t g (change_first t f vs) ≡ change_first t (λ v. g (f v)) vs
          → change_first t g (if b then f x ∷ vs else x ∷ change_first t f vs) ≡ (if b then g (f x) ∷ vs else x ∷ change_first t (λ v. g (f v)) vs)
      by true e rest = ap (λ b. if b then g (f x) ∷ vs else f x ∷ change_first t g vs) (same x ∙ e)
      by false e rest = ap (λ b. if b then g x ∷ change_first t f vs else x ∷ change_first t g (change_first t f vs)) e ∙ ap (λ l. x ∷ l) rest

  -- what makes the same of the one that is found makes the same of all
  pub changed_alike : (g h : V → V) (vs : List V) (v : V) → find t vs ≡ Some v → g v ≡ h v → change_first t g vs ≡ change_first t h vs
  changed_alike g h [] v found same = refl
  changed_alike g h (x ∷ vs) v found same = by (t x) found (λ f. changed_alike g h vs v f same)
    where
      by : (b : Bool) → cond b (Some x) (find t vs) ≡ Some v → (find t vs ≡ Some v → change_first t g vs ≡ change_first t h vs)
          → (if b then g x ∷ vs else x ∷ change_first t g vs) ≡ (if b then h x ∷ vs else x ∷ change_first t h vs)
      by true found rest = let e : x ≡ v = same_Some x v found in ap (λ y. y ∷ vs) (ap g e ∙ same ∙ ap h (sym e))
      by false found rest = ap (λ l. x ∷ l) (rest found)

pub dest_exact : (a b : Dest) → same_dest a b ≡ true → a ≡ b
dest_exact a b h =
    let p = and_parts (name_eq a.queue b.queue) (same_host a.host b.host) h in
    (λ j. record { queue = name_exact a.queue b.queue p.0 j; host = record { 0 = number_exact a.host.0 b.host.0 p.1 j } })

pub dest_itself : (d : Dest) → same_dest d d ≡ true
dest_itself d = and_from (name_eq d.queue d.queue) (same_host d.host d.host) (same_name d.queue) (same_it d.host.0)

-- what is left of destinations without those of a list
abbrev pub without_all : List Dest → List Dest → List Dest
without_all [] ys = ys
without_all (x ∷ xs) ys = without_first (same_dest x) (without_all xs ys)

-- another one stays
other_stays : (z x : Dest) → same_dest z x ≡ false → (ys : List Dest) → list_any (same_dest z) ys ≡ true
    → list_any (same_dest z) (without_first (same_dest x) ys) ≡ true
other_stays z x other [] h = h
other_stays z x other (y ∷ ys) h = by (same_dest x y) refl (other_stays z x other ys) h
  where
    rest_of : (b : Bool) → b ≡ false → (b || list_any (same_dest z) ys) ≡ true → list_any (same_dest z) ys ≡ true
    rest_of true e h = absurd (true≢false e)
    rest_of false e h = h

    either : (b c d : Bool) → (c ≡ true → d ≡ true) → (b || c) ≡ true → (b || d) ≡ true
    either true c d f h = refl
    either false c d f h = f h

    by : (b : Bool) → same_dest x y ≡ b → (list_any (same_dest z) ys ≡ true → list_any (same_dest z) (without_first (same_dest x) ys) ≡ true)
        → (same_dest z y || list_any (same_dest z) ys) ≡ true
        → list_any (same_dest z) (if b then ys else y ∷ without_first (same_dest x) ys) ≡ true
    by true e rest h = rest_of (same_dest z y) (ap (same_dest z) (sym (dest_exact x y e)) ∙ other) h
    by false e rest h = either (same_dest z y) (list_any (same_dest z) ys) _ rest h

-- one that isn't of the list stays behind it
pub still_there : (z : Dest) (xs ys : List Dest) → list_any (same_dest z) xs ≡ false → list_any (same_dest z) ys ≡ true
    → list_any (same_dest z) (without_all xs ys) ≡ true
still_there z [] ys none there = there
still_there z (x ∷ xs) ys none there =
    let p = or_parts (same_dest z x) (list_any (same_dest z) xs) none in
    other_stays z x p.0 (without_all xs ys) (still_there z xs ys p.1 there)

as_many : (xs ys : List Dest) → are_distinct same_dest xs ≡ true → ((z : Dest) → list_any (same_dest z) xs ≡ true → list_any (same_dest z) ys ≡ true)
    → length ys ≡ length (without_all xs ys) + length xs
as_many [] ys once there = omega arith
as_many (x ∷ xs) ys once there =
    let p = and_parts (not (list_any (same_dest x) xs)) (are_distinct same_dest xs) once in
    let rest = as_many xs ys p.1 (λ z h. there z (or_right (same_dest z x) (list_any (same_dest z) xs) h)) in
    let listed = there x (or_left (same_dest x x) (list_any (same_dest x) xs) (dest_itself x)) in
    let less = length_without (same_dest x) (without_all xs ys) (still_there x xs ys (not-true _ p.0) listed) in
    omega (arith, rest, less)

none_left : (l : List Dest) (n : ℕ) → n ≡ length l + n → l ≡ []
none_left [] n h = refl
none_left (x ∷ l) n h = absurd (omega (arith, h))

-- of a list nothing is left without all that it has
pub nothing_left : (xs ys : List Dest) → are_distinct same_dest xs ≡ true
    → ((z : Dest) → list_any (same_dest z) xs ≡ true → list_any (same_dest z) ys ≡ true) → length ys ≡ length xs → without_all xs ys ≡ []
nothing_left xs ys once there long = none_left (without_all xs ys) (length xs) (sym long ∙ as_many xs ys once there)
