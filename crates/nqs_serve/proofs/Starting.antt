-- Starts go on until there is none, whatever bytes are put for scripts.
use Rattle.std.proofs.Common.{◌≡◌, ℕ, true, List, [], ◌∷◌, ◌++◌, Option, None, Some, is_some, refl, sym, ap, ◌∙◌}
use Rattle.std.proofs.Common.{false, append_assoc}
use Rattle.std.proofs.lemmas.List.{append-nil}
use Rattle.std.proofs.lemmas.Grind.{flat_map-append}
use Rattle.std.specs.List.{flat_map}
use Rattle.nqs_state.specs.State.{Plain}
use Rattle.nqs_types.specs.declared.event.Output.{Output}
use Rattle.nqs_rules.specs.Start.{start}
use Rattle.nqs_rules.specs.Stepped.{Stepped, quiet}
use Rattle.nqs_rules.specs.Measure.{starts_left}
use Rattle.nqs_rules.specs.Starts.{after_step, starts, after_starts}
use Rattle.nqs_rules.proofs.StartIs.{IsSteady}
use Rattle.nqs_rules.proofs.Until.{none_starts, starts-steady}
use Rattle.nqs_node.specs.Carried.{started}
use Rattle.nqs_serve.specs.Steps.{said}

module _ (now : ℕ) where
  -- where none starts, there are no starts
  pub starts_none : (s : Plain) → is_some (start now s) ≡ false → starts now s ≡ []
  starts_none s e = by (start now s) refl e
    where
      by : (o : Option (Stepped (List ℕ))) → start now s ≡ o → is_some o ≡ false → starts now s ≡ []
      by None is none = none_starts now (starts_left s) s is
      by (Some x) is none = absurd (let stop : ⊥ = cc in stop)

  -- where one starts, it is the first
  pub starts_next : (s : Plain) → IsSteady s → is_some (start now s) ≡ true → starts now s ≡ started now s ∷ starts now (after_step (started now s) s)
  starts_next s calm some = by (start now s) refl some
    where
      by : (o : Option (Stepped (List ℕ))) → start now s ≡ o → is_some o ≡ true
          → starts now s ≡ (elim o [ None ↦ quiet | Some x ↦ x ]) ∷ starts now (after_step (elim o [ None ↦ quiet | Some x ↦ x ]) s)
      by None is some = absurd (let stop : ⊥ = cc in stop)
      by (Some x) is some = starts-steady now s x calm is

-- one start more, behind others
pub after_more : (xs : List (Stepped (List ℕ))) (x : Stepped (List ℕ)) (s : Plain) → after_starts (xs ++ x ∷ []) s ≡ after_step x (after_starts xs s)
after_more [] x s = refl
after_more (y ∷ xs) x s = after_more xs x (after_step y s)

pub said_more : (out : List Output) (xs : List (Stepped (List ℕ))) (x : Stepped (List ℕ))
    → (out ++ flat_map said xs) ++ said x ≡ out ++ flat_map said (xs ++ x ∷ [])
said_more out xs x =
    append_assoc out (flat_map said xs) (said x)
    ∙ ap (λ (l : List Output). out ++ l) (ap (λ (l : List Output). flat_map said xs ++ l) (sym (append-nil (said x))) ∙ sym (flat_map-append said xs (x ∷ [])))

-- the next start, behind those before it
pub one_start : (now : ℕ) (s : Plain) (xs : List (Stepped (List ℕ))) → IsSteady (after_starts xs s) → starts now s ≡ xs ++ starts now (after_starts xs s)
    → is_some (start now (after_starts xs s)) ≡ true
    → starts now s ≡ (xs ++ started now (after_starts xs s) ∷ []) ++ starts now (after_starts (xs ++ started now (after_starts xs s) ∷ []) s)
one_start now s xs calm so_far some =
    let u = after_starts xs s in
    let x = started now u in
    so_far
    ∙ ap (λ (l : List (Stepped (List ℕ))). xs ++ l) (starts_next now u calm some)
    ∙ sym (append_assoc xs (x ∷ []) (starts now (after_step x u)))
    ∙ ap (λ v. (xs ++ x ∷ []) ++ starts now v) (sym (after_more xs x s))

-- there was no other
pub last_start : (now : ℕ) (s : Plain) (xs : List (Stepped (List ℕ))) → starts now s ≡ xs ++ starts now (after_starts xs s)
    → is_some (start now (after_starts xs s)) ≡ false → starts now s ≡ xs
last_start now s xs so_far none = so_far ∙ ap (λ (l : List (Stepped (List ℕ))). xs ++ l) (starts_none now (after_starts xs s) none) ∙ append-nil xs

pub none_started : (now : ℕ) (s : Plain) → is_some (start now s) ≡ false → started now s ≡ quiet
none_started now s none = by (start now s) none
  where
    by : (o : Option (Stepped (List ℕ))) → is_some o ≡ false → (elim o [ None ↦ quiet {E = List ℕ} | Some x ↦ x ]) ≡ quiet {E = List ℕ}
    by None e = refl
    by (Some x) e = absurd (let stop : ⊥ = cc in stop)
