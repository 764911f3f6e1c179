-- The best of a list: it passes and stands at its place, nothing that passes beats it, and it beats
-- all before it that pass.
use Rattle.std.proofs.Common.{◌≡◌, ℕ, ◌+◌, ◌<◌, Bool, true, false, ◌||◌, List, [], ◌∷◌, Option, None, Some, slice_get, is_some, true≢false, zero, suc, refl}
use Rattle.std.proofs.Common.{sym, ap, subst, ◌∙◌, arith, if◌then◌else◌}
use Rattle.std.proofs.lemmas.Option.{same_Some, none-some}
use Rattle.std.specs.List.{list_any}
use Rattle.std.specs.Option.{IfSome}
use Rattle.nqs_base_tables.specs.Table.{better, best_from}

module _ {V : Type 0} (test : V → Bool) (beats : V → V → Bool) where
  -- what holds of each value that passes, with its place
  abbrev pub EachThat : List V → (ℕ → V → Type 0) → Type 0
  EachThat vs P = (k : ℕ) (u : V) → slice_get vs k ≡ Some u → test u ≡ true → P k u

  -- the best stands so far behind the first place
  pub record IsBest (vs : List V) (k : ℕ) (v : V) : Type 0 where
    pub at : slice_get vs k ≡ Some v
    pub passes : test v ≡ true
    pub unbeaten : EachThat vs (λ _ u. beats u v ≡ false)
    pub first : EachThat vs (λ i u. i < k → beats v u ≡ true)

  abbrev Law : ℕ → List V → Option (ℕ × V) → Type 0
  Law n vs None = EachThat vs (λ _ _. ⊥)
  Law n vs (Some p) = (k : ℕ) × (p.0 ≡ n + k) × IsBest vs k p.1

  pub best_is_some : (n : ℕ) (vs : List V) → is_some (best_from test beats n vs) ≡ list_any test vs
  best_is_some n [] = refl
  best_is_some n (v ∷ vs) = by (test v) (best_is_some (n + 1) vs)
    where
      some : (o : Option (ℕ × V)) → is_some (better beats (n, v) o) ≡ true
      some None = refl
      some (Some y) = of (beats y.1 v)
        where
          of : (b : Bool) → is_some (if b then Some y else Some (n, v)) ≡ true
          of true = refl
          of false = refl

      by : (b : Bool) → is_some (best_from test beats (n + 1) vs) ≡ list_any test vs
          → is_some (if b then better beats (n, v) (best_from test beats (n + 1) vs) else best_from test beats (n + 1) vs) ≡ (b || list_any test vs)
      by true rest = some (best_from test beats (n + 1) vs)
      by false rest = rest

  module _ (irreflexive : (v : V) → beats v v ≡ false)
      (one_way : (u v : V) → beats u v ≡ true → beats v u ≡ false)
      (through : (u v w : V) → beats u v ≡ false → beats v w ≡ false → beats u w ≡ false) where
    -- behind a value that the best of the rest beats
    behind : (v q : V) (vs : List V) (k : ℕ) → beats q v ≡ true → IsBest vs k q → IsBest (v ∷ vs) (suc k) q
    behind v q vs k over b = record {
      at = b.at;
      passes = b.passes;
      unbeaten = unbeaten;
      first = first;
    }
      where
        unbeaten : EachThat (v ∷ vs) (λ _ u. beats u q ≡ false)
        unbeaten zero u there passes = subst (λ w. beats w q ≡ false) (same_Some v u there) (one_way q v over)
        unbeaten (suc i) u there passes = b.unbeaten i u there passes

        first : EachThat (v ∷ vs) (λ i u. i < suc k → beats q u ≡ true)
        first zero u there passes below = subst (λ w. beats q w ≡ true) (same_Some v u there) over
        first (suc i) u there passes below = b.first i u there passes (omega arith)

    -- in front of a rest whose best does not beat it
    front : (v : V) (vs : List V) → test v ≡ true → EachThat vs (λ _ u. beats u v ≡ false) → IsBest (v ∷ vs) 0 v
    front v vs passes rest = record { at = refl; passes = passes; unbeaten = unbeaten; first = λ k u there p below. absurd (omega arith) }
      where
        unbeaten : EachThat (v ∷ vs) (λ _ u. beats u v ≡ false)
        unbeaten zero u there p = subst (λ w. beats w v ≡ false) (same_Some v u there) (irreflexive v)
        unbeaten (suc i) u there p = rest i u there p

    -- behind a value that does not pass
    passed : (v q : V) (vs : List V) (k : ℕ) → test v ≡ false → IsBest vs k q → IsBest (v ∷ vs) (suc k) q
    passed v q vs k fails b = record {
      at = b.at;
      passes = b.passes;
      unbeaten = skip _ b.unbeaten;
      first =
          skip _ (λ i u there p below. b.first i u there p (omega arith));
    }
      where
        skip : (P : ℕ → V → Type 0) → EachThat vs (λ i u. P (suc i) u) → EachThat (v ∷ vs) P
        skip P rest zero u there p = absurd (true≢false (sym p ∙ ap test (sym (same_Some v u there)) ∙ fails))
        skip P rest (suc i) u there p = rest i u there p

    law : (n : ℕ) (vs : List V) → Law n vs (best_from test beats n vs)
    law n [] = λ k u there p. absurd (none-some u there)
    law n (v ∷ vs) = by (test v) refl (best_from test beats (n + 1) vs) (law (n + 1) vs)
      where
        chosen : (q : ℕ × V) (b : Bool) → beats q.1 v ≡ b → test v ≡ true → Law (n + 1) vs (Some q) → Law n (v ∷ vs) (if b then Some q else Some (n, v))
        chosen q true over p (k, place, best) = (suc k, omega arith, behind v q.1 vs k over best)
        chosen q false over p (k, place, best) = (0, omega arith, front v vs p (λ i u there t. through u q.1 v (best.unbeaten i u there t) over))

        by : (b : Bool) → test v ≡ b → (o : Option (ℕ × V)) → Law (n + 1) vs o → Law n (v ∷ vs) (if b then better beats (n, v) o else o)
        by true p None h = (0, omega arith, front v vs p (λ i u there t. absurd (h i u there t)))
        by true p (Some q) h = chosen q (beats q.1 v) refl p h
        by false fails None h = none
          where
            none : EachThat (v ∷ vs) (λ _ _. ⊥)
            none zero u there p = true≢false (sym p ∙ ap test (sym (same_Some v u there)) ∙ fails)
            none (suc i) u there p = h i u there p
        by false fails (Some q) (k, place, best) = (suc k, omega arith, passed v q.1 vs k fails best)

    pub best_is : (vs : List V) → IfSome (best_from test beats 0 vs) (λ p. IsBest vs p.0 p.1)
    best_is vs = of (best_from test beats 0 vs) (law 0 vs)
      where
        of : (o : Option (ℕ × V)) → Law 0 vs o → IfSome o (λ p. IsBest vs p.0 p.1)
        of None h = tt
        of (Some p) (k, place, best) = subst (λ i. IsBest vs i p.1) (let e : k ≡ p.0 = omega arith in e) best
