-- Flat names: two paths never share one.
use Rattle.std.proofs.Common.{◌≡◌, ℕ, ◌+◌, ◌*◌, ◌/◌, ◌%◌, ◌==◌, Bool, true, false, if◌then◌else◌, List, [], ◌∷◌, ◌++◌, take}
use Rattle.std.proofs.Common.{refl, sym, subst, arith, take_all, div-add-mod'}
use Rattle.std.specs.List.{flat_map}
use Rattle.nqs_real.specs.Lost.{is_plain, digit, spelled, coded, coded_first, flat_name, longest_name, NamesDiffer}

digit_same : (m n : ℕ) → digit m ≡ digit n → m ≡ n
digit_same m n same = grind arith

whole : (a b : ℕ) → a / 16 ≡ b / 16 → a % 16 ≡ b % 16 → a ≡ b
whole a b quotients rests =
    let first : a / 16 * 16 + a % 16 ≡ a = div-add-mod' a 16 in
    let second : b / 16 * 16 + b % 16 ≡ b = div-add-mod' b 16 in
    grind arith

-- what stands in front, and what behind it

spelled_same : (a b : ℕ) (xs ys : List ℕ) → spelled a ++ xs ≡ spelled b ++ ys → (a ≡ b) × (xs ≡ ys)
spelled_same a b xs ys same =
    let quotients : digit (a / 16) ≡ digit (b / 16) = cc in
    let rests : digit (a % 16) ≡ digit (b % 16) = cc in
    let behind : xs ≡ ys = cc in
    (whole a b (digit_same (a / 16) (b / 16) quotients) (digit_same (a % 16) (b % 16) rests), behind)

not_plain : (a : ℕ) → a ≡ 37 → is_plain a ≡ true → ⊥
not_plain a is plain =
    let never : false ≡ true = subst (λ (n : ℕ). is_plain n ≡ true) is plain in
    let no : ⊥ = cc in no

coded_by : (p q : Bool) (a b : ℕ) (xs ys : List ℕ) → is_plain a ≡ p → is_plain b ≡ q
    → (if p then a ∷ [] else spelled a) ++ xs ≡ (if q then b ∷ [] else spelled b) ++ ys → (a ≡ b) × (xs ≡ ys)
coded_by true true a b xs ys first second same =
    let front : a ≡ b = cc in
    let behind : xs ≡ ys = cc in (front, behind)
coded_by true false a b xs ys first second same = let is : a ≡ 37 = cc in absurd (not_plain a is first)
coded_by false true a b xs ys first second same = let is : b ≡ 37 = cc in absurd (not_plain b is second)
coded_by false false a b xs ys first second same = spelled_same a b xs ys same

coded_same : (a b : ℕ) (xs ys : List ℕ) → coded a ++ xs ≡ coded b ++ ys → (a ≡ b) × (xs ≡ ys)
coded_same a b xs ys same = coded_by (is_plain a) (is_plain b) a b xs ys refl refl same

mixed_by : (q : Bool) (a b : ℕ) (xs ys : List ℕ) → is_plain b ≡ q → spelled a ++ xs ≡ (if q then b ∷ [] else spelled b) ++ ys → (a ≡ b) × (xs ≡ ys)
mixed_by true a b xs ys second same = let is : b ≡ 37 = cc in absurd (not_plain b is second)
mixed_by false a b xs ys second same = spelled_same a b xs ys same

mixed_same : (a b : ℕ) (xs ys : List ℕ) → spelled a ++ xs ≡ coded b ++ ys → (a ≡ b) × (xs ≡ ys)
mixed_same a b xs ys same = mixed_by (is_plain b) a b xs ys refl same

first_by : (p q : Bool) (a b : ℕ) (xs ys : List ℕ) → (if p then spelled a else coded a) ++ xs ≡ (if q then spelled b else coded b) ++ ys
    → (a ≡ b) × (xs ≡ ys)
first_by true true a b xs ys same = spelled_same a b xs ys same
first_by true false a b xs ys same = mixed_same a b xs ys same
first_by false true a b xs ys same = let turned = mixed_same b a ys xs (sym same) in (sym turned.0, sym turned.1)
first_by false false a b xs ys same = coded_same a b xs ys same

first_same : (a b : ℕ) (xs ys : List ℕ) → coded_first a ++ xs ≡ coded_first b ++ ys → (a ≡ b) × (xs ≡ ys)
first_same a b xs ys same = first_by (a == 46) (b == 46) a b xs ys same

-- something stands for each byte

coded_some : (p : Bool) (b : ℕ) (xs : List ℕ) → [] ≡ (if p then b ∷ [] else spelled b) ++ xs → ⊥
coded_some true b xs none = let no : ⊥ = cc in no
coded_some false b xs none = let no : ⊥ = cc in no

first_some : (p : Bool) (b : ℕ) (xs : List ℕ) → [] ≡ (if p then spelled b else coded b) ++ xs → ⊥
first_some true b xs none = let no : ⊥ = cc in no
first_some false b xs none = coded_some (is_plain b) b xs none

-- all bytes

rest_same : (path other : List ℕ) → flat_map coded path ≡ flat_map coded other → path ≡ other
rest_same [] [] same = refl
rest_same [] (b ∷ ys) same = absurd (coded_some (is_plain b) b (flat_map coded ys) same)
rest_same (a ∷ xs) [] same = absurd (coded_some (is_plain a) a (flat_map coded xs) (sym same))
rest_same (a ∷ xs) (b ∷ ys) same =
    let both : (a ≡ b) × (flat_map coded xs ≡ flat_map coded ys) = coded_same a b (flat_map coded xs) (flat_map coded ys) same in
    let front : a ≡ b = both.0 in
    let behind : xs ≡ ys = rest_same xs ys both.1 in cc

name_same : (path other : List ℕ) → flat_name path ≡ flat_name other → path ≡ other
unfolding flat_name
name_same [] [] same = refl
name_same [] (b ∷ ys) same = absurd (first_some (b == 46) b (flat_map coded ys) same)
name_same (a ∷ xs) [] same = absurd (first_some (a == 46) a (flat_map coded xs) (sym same))
name_same (a ∷ xs) (b ∷ ys) same =
    let both : (a ≡ b) × (flat_map coded xs ≡ flat_map coded ys) = first_same a b (flat_map coded xs) (flat_map coded ys) same in
    let front : a ≡ b = both.0 in
    let behind : xs ≡ ys = rest_same xs ys both.1 in cc

pub names_differ : NamesDiffer
names_differ path other short short_too same =
    let first : take longest_name (flat_name path) ≡ flat_name path = take_all longest_name (flat_name path) short in
    let second : take longest_name (flat_name other) ≡ flat_name other = take_all longest_name (flat_name other) short_too in
    let names : flat_name path ≡ flat_name other = cc in
    name_same path other names
