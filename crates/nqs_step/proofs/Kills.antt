-- The kills of an aborted queue, row by row.
use Rattle.std.proofs.Common.{◌≡◌, ◌∙◌, ℕ, Bool, true, false, cond, List, [], ◌∷◌, ◌++◌, map, filter, if◌then◌else◌, refl, ap}
use Rattle.std.specs.Prelude.{fold, flat_map}
use Rattle.nqs_base.specs.declared.extent.Extent.{Extent}
use Rattle.nqs_types.specs.declared.event.Plan.{Plan}
use Rattle.nqs_types.specs.declared.request.Row.{Row}
use Rattle.nqs_rules.specs.Step.{kill, runs_in_queue}
use Rattle.nqs_plans.specs.More.{with_more}
use Rattle.nqs_plans.proofs.Grown.{folded-more}
use Rattle.nqs_step.specs.Asked.{kill_in}

module _ {A V : Type 0} (t : V → Bool) (f : V → A) where
  pub some-mapped : (vs : List V) → flat_map (λ v. if t v then f v ∷ [] else []) vs ≡ map f (filter t vs)
  some-mapped [] = refl
  some-mapped (v ∷ vs) = by (t v) (some-mapped vs)
    where
      by : (b : Bool) → flat_map (λ u. if t u then f u ∷ [] else []) vs ≡ map f (filter t vs)
          → (if b then f v ∷ [] else []) ++ flat_map (λ u. if t u then f u ∷ [] else []) vs ≡ map f (cond b (v ∷ filter t vs) (filter t vs))
      by true rest = ap (λ l. f v ∷ l) rest
      by false rest = rest

pub kills_are : (q : List ℕ) (p : Plan) (rows : List (Row Extent)) → fold (λ p r. with_more p (kill_in q r)) p rows
    ≡ with_more p (map kill (filter (runs_in_queue q) rows))
kills_are q p rows = folded-more (kill_in q) p rows ∙ ap (with_more p) (some-mapped (runs_in_queue q) kill rows)
