-- The least running row, found by its request.
use Rattle.std.proofs.Common.{◌≡◌, ℕ, ◌+◌, Bool, true, false, ◌&&◌, List, [], ◌∷◌, find, Option, None, Some, IfSome}
use Rattle.std.proofs.Common.{refl, sym, ap, ◌∙◌, arith, if◌then◌else◌, true≢false}
use Rattle.std.specs.Prelude.{cond}
use Rattle.std.specs.Option.{option_map}
use Rattle.std.proofs.lemmas.Bool.Decides.{nat_tests}
use Rattle.std.proofs.lemmas.Option.{same_Some, none-some}
use Rattle.nqs_base.proofs.Plain.{found_passes}
use Rattle.nqs_base_tables.specs.Table.{better, best_from}
use Rattle.nqs_types.specs.Ids.{id_eq, id_exact}
use Rattle.nqs_types.specs.RowStates.{is_running}
use Rattle.nqs_types.specs.declared.ids.RequestId.{RequestId}
use Rattle.nqs_types.specs.declared.request.Row.{Row}
use Rattle.nqs_index.specs.declared.index.Index.{Index}
use Rattle.nqs_index.specs.Indexed.{number, running_in, StandsForIndex}
use Rattle.nqs_index.specs.Runs.{is_less_id, IsLeast}
use Rattle.nqs_index.specs.Seats.{seat_of}
use Rattle.nqs_index.specs.Tallies.{one}
use Rattle.nqs_index.proofs.Numbers.{number-cons, number-map}
use Rattle.nqs_state.specs.Keys.{is_row}
use Rattle.nqs_state.specs.Least.{runs_now, is_less_row, least_running}

-- of two requests that aren't one, one is less
less_other : (a b : RequestId) → id_eq b a ≡ false → is_less_id a b ≡ false → is_less_id b a ≡ true
less_other a b other isnt = grind (arith, nat_tests)

none_of : (b : Bool) (n : ℕ) → n + one b ≡ 0 → (n ≡ 0) × (b ≡ false)
none_of true n h = absurd (let no : ⊥ = omega (arith, h) in no)
none_of false n h = (omega (arith, h), refl)

module _ {E : Type 0} where
  apart : (p : Row E → Bool) (r : Row E) (rs : List (Row E)) → number p (r ∷ rs) ≡ 0 → (number p rs ≡ 0) × (p r ≡ false)
  apart p r rs none = none_of (p r) (number p rs) (sym (number-cons p r rs) ∙ none)

  -- where no running row passes a test, the best of them doesn't
  best_fails : (q : Row E → Bool) (n : ℕ) (rows : List (Row E)) → number (λ r. runs_now r && q r) rows ≡ 0
      → IfSome (best_from runs_now is_less_row n rows) (λ p. q p.1 ≡ false)
  best_fails q n [] none = tt
  best_fails q n (r ∷ rs) none =
      let parts = apart (λ r. runs_now r && q r) r rs none in
      by (runs_now r) refl parts.1 (best_from runs_now is_less_row (n + 1) rs) (best_fails q (n + 1) rs parts.0)
    where
      first : (o : Option (ℕ × Row E)) → q r ≡ false → IfSome o (λ p. q p.1 ≡ false) → IfSome (better is_less_row (n, r) o) (λ p. q p.1 ≡ false)
      first None isnt rest = isnt
      first (Some y) isnt rest = of (is_less_row y.1 r)
        where
          of : (b : Bool) → IfSome (if b then Some y else Some (n, r)) (λ p. q p.1 ≡ false)
          of true = rest
          of false = isnt

      by : (b : Bool) → runs_now r ≡ b → (b && q r) ≡ false → (o : Option (ℕ × Row E)) → IfSome o (λ p. q p.1 ≡ false)
          → IfSome (if b then better is_less_row (n, r) o else o) (λ p. q p.1 ≡ false)
      by true e isnt o rest = first o isnt rest
      by false e isnt o rest = rest

  -- the row that is found has the request
  pub found_id : (id : RequestId) (rows : List (Row E)) (r : Row E) → find (is_row id) rows ≡ Some r → id ≡ r.id
  found_id id rows r h = id_exact id r.id (found_passes (is_row id) rows r h)

  -- a running row that is found by its request, where none that runs is less, is the least
  found_least : (id : RequestId) (n : ℕ) (rows : List (Row E)) (r : Row E) → number (λ r. runs_now r && is_less_id r.id id) rows ≡ 0
      → find (is_row id) rows ≡ Some r → runs_now r ≡ true → option_map (λ (p : ℕ × Row E). p.1) (best_from runs_now is_less_row n rows) ≡ Some r
  found_least id n [] r none found runs = absurd (none-some r found)
  found_least id n (v ∷ vs) r none found runs =
      let parts = apart (λ r. runs_now r && is_less_id r.id id) v vs none in
      by (id_eq id v.id) refl found parts.1 (best_from runs_now is_less_row (n + 1) vs)
      (best_fails (λ r. is_less_id r.id id) (n + 1) vs parts.0) (λ there. found_least id (n + 1) vs r parts.0 there runs)
    where
      -- it is the first row
      first : (o : Option (ℕ × Row E)) → id ≡ v.id → IfSome o (λ p. is_less_id p.1.id id ≡ false)
          → option_map (λ (p : ℕ × Row E). p.1) (better is_less_row (n, v) o) ≡ Some v
      first None same none = refl
      first (Some y) same isnt = (λ j. option_map (λ (p : ℕ × Row E). p.1) (if is_less_id y.1.id (sym same j) then Some y else Some (n, v)))
          ∙ (λ j. option_map (λ (p : ℕ × Row E). p.1) (if isnt j then Some y else Some (n, v)))

      -- it is a later one, and less than the first
      later : (o : Option (ℕ × Row E)) → is_less_id r.id v.id ≡ true → option_map (λ (p : ℕ × Row E). p.1) o ≡ Some r
          → option_map (λ (p : ℕ × Row E). p.1) (better is_less_row (n, v) o) ≡ Some r
      later None less is = absurd (none-some r is)
      later (Some y) less is =
          let same : y.1 ≡ r = same_Some y.1 r is in
          (λ j. option_map (λ (p : ℕ × Row E). p.1) (if is_less_id (same j).id v.id then Some y else Some (n, v)))
          ∙ (λ j. option_map (λ (p : ℕ × Row E). p.1) (if less j then Some y else Some (n, v))) ∙ is

      behind : (b : Bool) → runs_now v ≡ b → id_eq id v.id ≡ false → id ≡ r.id → (b && is_less_id v.id id) ≡ false → (o : Option (ℕ × Row E))
          → option_map (λ (p : ℕ × Row E). p.1) o ≡ Some r
          → option_map (λ (p : ℕ × Row E). p.1) (if b then better is_less_row (n, v) o else o) ≡ Some r
      behind true e other same isnt o is = later o (ap (λ i. is_less_id i v.id) (sym same) ∙ less_other v.id id other isnt) is
      behind false e other same isnt o is = is

      by : (b : Bool) → id_eq id v.id ≡ b → cond b (Some v) (find (is_row id) vs) ≡ Some r → (runs_now v && is_less_id v.id id) ≡ false
          → (o : Option (ℕ × Row E)) → IfSome o (λ p. is_less_id p.1.id id ≡ false)
          → (find (is_row id) vs ≡ Some r → option_map (λ (p : ℕ × Row E). p.1) o ≡ Some r)
          → option_map (λ (p : ℕ × Row E). p.1) (if runs_now v then better is_less_row (n, v) o else o) ≡ Some r
      by true e is isnt o none rest =
          let same : v ≡ r = same_Some v r is in
          (λ j. option_map (λ (p : ℕ × Row E). p.1) (if (ap runs_now same ∙ runs) j then better is_less_row (n, v) o else o))
          ∙ first o (id_exact id v.id e) none ∙ is
      by false e is isnt o none rest = behind (runs_now v) refl e (found_id id vs r is) isnt o (rest is)

  module _ (i : Index) (rows : List (Row E)) (stands : StandsForIndex i rows) where
    -- the running requests are those of the rows
    running_rows : (test : RequestId → Bool) → number test (running_in i) ≡ number (λ (r : Row E). runs_now r && test r.id) rows
    running_rows test = stands.running test ∙ number-map seat_of (λ t. is_running t.state && test t.id) rows

    pub by_index : (id : RequestId) (r : Row E) → IsLeast id (running_in i) → find (is_row id) rows ≡ Some r → runs_now r ≡ true → Some r ≡ least_running rows
    by_index id r least found runs = sym (found_least id 0 rows r (sym (running_rows (λ other. is_less_id other id)) ∙ least.1) found runs)

    pub none_by_index : running_in i ≡ [] → None ≡ least_running rows
    none_by_index none = by (best_from runs_now is_less_row 0 rows)
        (best_fails (λ _. true) 0 rows (sym (running_rows (λ _. true)) ∙ ap (number (λ _. true)) none))
      where
        by : (o : Option (ℕ × Row E)) → IfSome o (λ _. true ≡ false) → None ≡ option_map (λ (p : ℕ × Row E). p.1) o
        by None _ = refl
        by (Some y) h = absurd (true≢false h)
