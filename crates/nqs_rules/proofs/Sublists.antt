-- Parts of lists in their order: what stays of a list where some of it goes, and what holds of such
-- a part.
use Rattle.std.proofs.Common.{◌≡◌, ◌≤◌, Bool, true, false, cond, not, List, [], ◌∷◌, ◌++◌, map, filter, length, Option, None, Some, refl, sym, subst, arith}
use Rattle.std.proofs.Common.{if◌then◌else◌}
use Rattle.std.proofs.lemmas.Bool.{and_parts, and_from, or_parts, or_from, not-true, not_from_false}
use Rattle.std.specs.List.{list_any, list_all, filter_map, cons_option}
use Rattle.std.specs.Option.{IfSome}
use Rattle.nqs_base_tables.specs.Table.{without_first}
use Rattle.nqs_rules.specs.InOrder.{are_distinct}

pub data IsPart {V : Type 0} : List V → List V → Type 0 where
  none : IsPart [] []
  skip : {v : V} {ys xs : List V} → IsPart ys xs → IsPart ys (v ∷ xs)
  keep : {v : V} {ys xs : List V} → IsPart ys xs → IsPart (v ∷ ys) (v ∷ xs)

-- what is a part

module _ {V : Type 0} where
  pub whole : (xs : List V) → IsPart xs xs
  whole [] = none
  whole (x ∷ xs) = keep (whole xs)

  pub without_part : (test : V → Bool) (xs : List V) → IsPart (without_first test xs) xs
  without_part test [] = none
  without_part test (x ∷ xs) = by (test x) (without_part test xs)
    where
      by : (b : Bool) → IsPart (without_first test xs) xs → IsPart (if b then xs else x ∷ without_first test xs) (x ∷ xs)
      by true rest = skip (whole xs)
      by false rest = keep rest

  pub filter_part : (test : V → Bool) (xs : List V) → IsPart (filter test xs) xs
  filter_part test [] = none
  filter_part test (x ∷ xs) = by (test x) (filter_part test xs)
    where
      by : (b : Bool) → IsPart (filter test xs) xs → IsPart (cond b (x ∷ filter test xs) (filter test xs)) (x ∷ xs)
      by true rest = keep rest
      by false rest = skip rest

  -- more behind both
  pub part_before : {ys xs : List V} (zs : List V) → IsPart ys xs → IsPart (ys ++ zs) (xs ++ zs)
  part_before zs none = whole zs
  part_before zs (skip p) = skip (part_before zs p)
  part_before zs (keep p) = keep (part_before zs p)

  pub part_behind : (zs : List V) {ys xs : List V} → IsPart ys xs → IsPart (zs ++ ys) (zs ++ xs)
  part_behind [] p = p
  part_behind (z ∷ zs) p = keep (part_behind zs p)

  pub filter_parts : (test : V → Bool) {ys xs : List V} → IsPart ys xs → IsPart (filter test ys) (filter test xs)
  filter_parts test none = none
  filter_parts test (skip {v = v} {ys = ys} {xs = xs} p) = by (test v) (filter_parts test p)
    where
      by : (b : Bool) → IsPart (filter test ys) (filter test xs) → IsPart (filter test ys) (cond b (v ∷ filter test xs) (filter test xs))
      by true rest = skip rest
      by false rest = rest
  filter_parts test (keep {v = v} {ys = ys} {xs = xs} p) = by (test v) (filter_parts test p)
    where
      by : (b : Bool) → IsPart (filter test ys) (filter test xs) → IsPart (cond b (v ∷ filter test ys) (filter test ys))
          (cond b (v ∷ filter test xs) (filter test xs))
      by true rest = keep rest
      by false rest = rest

pub map_part : {V K : Type 0} (key : V → K) {ys xs : List V} → IsPart ys xs → IsPart (map key ys) (map key xs)
map_part key none = none
map_part key (skip p) = skip (map_part key p)
map_part key (keep p) = keep (map_part key p)

-- where a key is kept, the keys of what stays are a part of the keys
pub filter_map_part : {V K : Type 0} (key : V → K) (f : V → Option V) → ((v : V) → IfSome (f v) (λ w. key w ≡ key v)) → (xs : List V)
    → IsPart (map key (filter_map f xs)) (map key xs)
filter_map_part key f same [] = none
filter_map_part key f same (x ∷ xs) = by (f x) (same x) (filter_map_part key f same xs)
  where
    by : (o : Option _) → IfSome o (λ w. key w ≡ key x) → IsPart (map key (filter_map f xs)) (map key xs)
        → IsPart (map key (cons_option o (filter_map f xs))) (key x ∷ map key xs)
    by None e rest = skip rest
    by (Some w) e rest = subst (λ k. IsPart (k ∷ map key (filter_map f xs)) (key x ∷ map key xs)) (sym e) (keep rest)

-- what holds of a part

module _ {V : Type 0} where
  pub part_length : {ys xs : List V} → IsPart ys xs → length ys ≤ length xs
  part_length none = omega arith
  part_length (skip p) = let h = part_length p in omega (arith, h)
  part_length (keep p) = let h = part_length p in omega (arith, h)

  pub part_all : (test : V → Bool) {ys xs : List V} → IsPart ys xs → list_all test xs ≡ true → list_all test ys ≡ true
  part_all test none h = refl
  part_all test (skip {v = v} {xs = xs} p) h = part_all test p (and_parts (test v) (list_all test xs) h).1
  part_all test (keep {v = v} {ys = ys} {xs = xs} p) h = let q = and_parts (test v) (list_all test xs) h in
      and_from (test v) (list_all test ys) q.0 (part_all test p q.1)

  pub part_none : (test : V → Bool) {ys xs : List V} → IsPart ys xs → list_any test xs ≡ false → list_any test ys ≡ false
  part_none test none h = refl
  part_none test (skip {v = v} {xs = xs} p) h = part_none test p (or_parts (test v) (list_any test xs) h).1
  part_none test (keep {v = v} {ys = ys} {xs = xs} p) h = let q = or_parts (test v) (list_any test xs) h in
      or_from (test v) (list_any test ys) q.0 (part_none test p q.1)

  pub part_distinct : (eq : V → V → Bool) {ys xs : List V} → IsPart ys xs → are_distinct eq xs ≡ true → are_distinct eq ys ≡ true
  part_distinct eq none h = refl
  part_distinct eq (skip {v = v} {xs = xs} p) h = part_distinct eq p (and_parts (not (list_any (eq v) xs)) (are_distinct eq xs) h).1
  part_distinct eq (keep {v = v} {ys = ys} {xs = xs} p) h =
      let q = and_parts (not (list_any (eq v) xs)) (are_distinct eq xs) h in
      and_from (not (list_any (eq v) ys)) (are_distinct eq ys) (not_from_false _ (part_none (eq v) p (not-true _ q.0))) (part_distinct eq p q.1)
