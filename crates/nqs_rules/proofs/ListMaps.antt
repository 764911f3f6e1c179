-- Lists over a map: what a test finds among images is the image of what it finds.
use Rattle.std.proofs.Common.{◌≡◌, ℕ, ◌+◌, Bool, true, false, cond, ◌||◌, List, [], ◌∷◌, map, filter, find, flat_map, ◌++◌, Option, None, Some}
use Rattle.std.proofs.Common.{option_map, refl, ap, ◌∙◌, if◌then◌else◌}
use Rattle.std.proofs.lemmas.List.{map-append}
use Rattle.std.specs.List.{filter_map, cons_option, list_any}
use Rattle.nqs_base_tables.specs.Table.{change_first, without_first, better, best_from}

-- what is done behind a test may be done in each of its branches
pub if-map : {V W : Type 0} (m : V → W) (b : Bool) (x y : V) → (if b then m x else m y) ≡ m (if b then x else y)
if-map m true x y = refl
if-map m false x y = refl

-- two ways round a square, for each item
pub map-mapped : {A B V W : Type 0} (m : V → W) (k : A → B) (h : A → V) (g : B → W) → ((a : A) → m (h a) ≡ g (k a)) → (xs : List A)
    → map m (map h xs) ≡ map g (map k xs)
map-mapped m k h g same [] = refl
map-mapped m k h g same (x ∷ xs) = (λ j. same x j ∷ map-mapped m k h g same xs j)

module _ {V W : Type 0} (m : V → W) where
  pub map-change_first : (t : W → Bool) (h : V → V) (g : W → W) → ((v : V) → m (h v) ≡ g (m v)) → (vs : List V)
      → map m (change_first (λ v. t (m v)) h vs) ≡ change_first t g (map m vs)
  map-change_first t h g same [] = refl
  map-change_first t h g same (v ∷ vs) = by (t (m v)) (map-change_first t h g same vs)
    where
      by : (b : Bool) → map m (change_first (λ v. t (m v)) h vs) ≡ change_first t g (map m vs)
          → map m (if b then h v ∷ vs else v ∷ change_first (λ v. t (m v)) h vs) ≡ (if b then g (m v) ∷ map m vs else m v ∷ change_first t g (map m vs))
      by true rest = ap (λ w. w ∷ map m vs) (same v)
      by false rest = ap (λ l. m v ∷ l) rest

  pub map-without_first : (t : W → Bool) (vs : List V) → map m (without_first (λ v. t (m v)) vs) ≡ without_first t (map m vs)
  map-without_first t [] = refl
  map-without_first t (v ∷ vs) = by (t (m v)) (map-without_first t vs)
    where
      by : (b : Bool) → map m (without_first (λ v. t (m v)) vs) ≡ without_first t (map m vs)
          → map m (if b then vs else v ∷ without_first (λ v. t (m v)) vs) ≡ (if b then map m vs else m v ∷ without_first t (map m vs))
      by true rest = refl
      by false rest = ap (λ l. m v ∷ l) rest

  pub map-filter : (t : W → Bool) (vs : List V) → map m (filter (λ v. t (m v)) vs) ≡ filter t (map m vs)
  map-filter t [] = refl
  map-filter t (v ∷ vs) = by (t (m v)) (map-filter t vs)
    where
      by : (b : Bool) → map m (filter (λ v. t (m v)) vs) ≡ filter t (map m vs)
          → map m (cond b (v ∷ filter (λ v. t (m v)) vs) (filter (λ v. t (m v)) vs)) ≡ cond b (m v ∷ filter t (map m vs)) (filter t (map m vs))
      by true rest = ap (λ l. m v ∷ l) rest
      by false rest = rest

  pub map-filter_map : (h : V → Option V) (g : W → Option W) → ((v : V) → option_map m (h v) ≡ g (m v)) → (vs : List V)
      → map m (filter_map h vs) ≡ filter_map g (map m vs)
  map-filter_map h g same [] = refl
  map-filter_map h g same (v ∷ vs) = by (h v) ∙ (λ j. cons_option (same v j) (map-filter_map h g same vs j))
    where
      by : (o : Option V) → map m (cons_option o (filter_map h vs)) ≡ cons_option (option_map m o) (map m (filter_map h vs))
      by None = refl
      by (Some x) = refl

  pub find-map : (t : W → Bool) (vs : List V) → find t (map m vs) ≡ option_map m (find (λ v. t (m v)) vs)
  find-map t [] = refl
  find-map t (v ∷ vs) = by (t (m v)) (find-map t vs)
    where
      by : (b : Bool) → find t (map m vs) ≡ option_map m (find (λ v. t (m v)) vs)
          → cond b (Some (m v)) (find t (map m vs)) ≡ option_map m (cond b (Some v) (find (λ v. t (m v)) vs))
      by true rest = refl
      by false rest = rest

  pub list_any-map : (t : W → Bool) (vs : List V) → list_any t (map m vs) ≡ list_any (λ v. t (m v)) vs
  list_any-map t [] = refl
  list_any-map t (v ∷ vs) = ap (λ b. t (m v) || b) (list_any-map t vs)

  -- the image of a value at a place
  abbrev pub at_place : ℕ × V → ℕ × W
  at_place p = (p.0, m p.1)

  better-map : (beats : W → W → Bool) (x : ℕ × V) (o : Option (ℕ × V)) → better beats (at_place x) (option_map at_place o)
      ≡ option_map at_place (better (λ u v. beats (m u) (m v)) x o)
  better-map beats x None = refl
  better-map beats x (Some y) = by (beats (m y.1) (m x.1))
    where
      by : (b : Bool) → (if b then Some (at_place y) else Some (at_place x)) ≡ option_map at_place (if b then Some y else Some x)
      by true = refl
      by false = refl

  pub best_from-map : (t : W → Bool) (beats : W → W → Bool) (n : ℕ) (vs : List V)
      → best_from t beats n (map m vs) ≡ option_map at_place (best_from (λ v. t (m v)) (λ u v. beats (m u) (m v)) n vs)
  best_from-map t beats n [] = refl
  best_from-map t beats n (v ∷ vs) = by (t (m v)) (best_from-map t beats (n + 1) vs)
    where
      by : (b : Bool) → best_from t beats (n + 1) (map m vs) ≡ option_map at_place (best_from (λ v. t (m v)) (λ u v. beats (m u) (m v)) (n + 1) vs)
          → (if b then better beats (n, m v) (best_from t beats (n + 1) (map m vs)) else best_from t beats (n + 1) (map m vs))
          ≡ option_map at_place (if b then better (λ u v. beats (m u) (m v)) (n, v) (best_from (λ v. t (m v)) (λ u v. beats (m u) (m v)) (n + 1) vs) else
          best_from (λ v. t (m v)) (λ u v. beats (m u) (m v)) (n + 1) vs)
      by true rest = ap (better beats (n, m v)) rest ∙ better-map beats (n, v) (best_from (λ v. t (m v)) (λ u v. beats (m u) (m v)) (n + 1) vs)
      by false rest = rest

  pub map-flat_map : {A : Type 0} (h : A → List V) (g : A → List W) → ((a : A) → map m (h a) ≡ g a) → (vs : List A) → map m (flat_map h vs) ≡ flat_map g vs
  map-flat_map h g same [] = refl
  map-flat_map h g same (a ∷ vs) = map-append m (h a) (flat_map h vs) ∙ (λ j. same a j ++ map-flat_map h g same vs j)
