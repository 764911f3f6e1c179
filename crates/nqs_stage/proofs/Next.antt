-- The stage that is due when another one arrived.
use Rattle.std.proofs.Common.{◌≡◌, ◌∙◌, ℕ, ◌+◌, Bool, true, false, true≢false, not, ◌&&◌, ◌||◌, List, [], ◌∷◌, map, Option, None, Some, if◌then◌else◌, refl}
use Rattle.std.proofs.Common.{sym, ap, subst}
use Rattle.std.specs.Option.{option_map}
use Rattle.std.specs.List.{list_any}
use Rattle.std.proofs.lemmas.Bool.{and_parts, not-true}
use Rattle.nqs_state.specs.State.{State}
use Rattle.nqs_types.specs.Ids.{peer_number_eq, stage_key, peer_number_exact}
use Rattle.nqs_state.specs.Keys.{is_stage}
use Rattle.nqs_base_tables.specs.Table.{better, best_from, without_first, has_key}
use Rattle.nqs_types.specs.declared.ids.PeerNumber.{PeerNumber}
use Rattle.nqs_types.specs.declared.request.Stage.{Stage}
use Rattle.nqs_rules.specs.InOrder.{are_distinct}
use Rattle.nqs_rules.specs.Stage.{is_stage_to, is_earlier_stage, send_stage, due_of}
use Rattle.nqs_rules.specs.Stepped.{Pending}
use Rattle.nqs_stage.specs.Files.{HasDistinctStages}

module _ {V : Type 0} (beats : V → V → Bool) where
  abbrev value : Option (ℕ × V) → Option V
  value o = option_map (λ p. p.1) o

  abbrev better_value : V → Option V → Option V
  better_value v None = Some v
  better_value v (Some y) = if beats y v then Some y else Some v

  -- the best value, without its place
  abbrev best_value : (V → Bool) → List V → Option V
  best_value t [] = None
  best_value t (v ∷ vs) = if t v then better_value v (best_value t vs) else best_value t vs

  value-better : (n : ℕ) (v : V) (o : Option (ℕ × V)) → value (better beats (n, v) o) ≡ better_value v (value o)
  value-better n v None = refl
  value-better n v (Some y) = of (beats y.1 v)
    where
      of : (b : Bool) → value (if b then Some y else Some (n, v)) ≡ (if b then Some y.1 else Some v)
      of true = refl
      of false = refl

  value-best : (t : V → Bool) (n : ℕ) (vs : List V) → value (best_from t beats n vs) ≡ best_value t vs
  value-best t n [] = refl
  value-best t n (v ∷ vs) = by (t v) (value-best t (n + 1) vs)
    where
      by : (b : Bool) → value (best_from t beats (n + 1) vs) ≡ best_value t vs
          → value (if b then better beats (n, v) (best_from t beats (n + 1) vs) else best_from t beats (n + 1) vs)
          ≡ (if b then better_value v (best_value t vs) else best_value t vs)
      by true rest = value-better n v (best_from t beats (n + 1) vs) ∙ ap (better_value v) rest
      by false rest = rest

  module _ {K : Type 0} (eq : K → K → Bool) (key : V → K) (exact : (a b : K) → eq a b ≡ true → a ≡ b) (t : V → Bool) (k : K) where
    -- passes, and has another key
    abbrev other : V → Bool
    other v = t v && not (has_key eq key k v)

    all-other : (vs : List V) → list_any (eq k) (map key vs) ≡ false → best_value other vs ≡ best_value t vs
    all-other [] h = refl
    all-other (v ∷ vs) h = by (t v) (eq k (key v)) h (all-other vs)
      where
        by : (b c : Bool) → (c || list_any (eq k) (map key vs)) ≡ false → (list_any (eq k) (map key vs) ≡ false → best_value other vs ≡ best_value t vs)
            → (if b && not c then better_value v (best_value other vs) else best_value other vs)
            ≡ (if b then better_value v (best_value t vs) else best_value t vs)
        by b true h rest = absurd (true≢false h)
        by true false h rest = ap (better_value v) (rest h)
        by false false h rest = rest h

    -- the best of another key is the best without the one of this key
    best-without : (vs : List V) → are_distinct eq (map key vs) ≡ true → best_value other vs ≡ best_value t (without_first (has_key eq key k) vs)
    best-without [] h = refl
    best-without (v ∷ vs) h =
        let parts = and_parts (not (list_any (eq (key v)) (map key vs))) (are_distinct eq (map key vs)) h in
        by (t v) (eq k (key v)) refl (not-true _ parts.0) (best-without vs parts.1) ∙ sym (rest_is (eq k (key v)))
      where
        rest_is : (c : Bool) → best_value t (if c then vs else v ∷ without_first (has_key eq key k) vs)
            ≡ (if c then best_value t vs else (if t v then better_value v (best_value t (without_first (has_key eq key k) vs)) else
            best_value t (without_first (has_key eq key k) vs)))
        rest_is true = refl
        rest_is false = refl

        gone : (c : Bool) → c ≡ true → eq k (key v) ≡ c → list_any (eq (key v)) (map key vs) ≡ false → best_value other vs ≡ best_value t vs
        gone c holds e none = all-other vs (subst (λ a. list_any (eq a) (map key vs) ≡ false) (sym (exact k (key v) (e ∙ holds))) none)

        by : (b c : Bool) → eq k (key v) ≡ c → list_any (eq (key v)) (map key vs) ≡ false
            → best_value other vs ≡ best_value t (without_first (has_key eq key k) vs)
            → (if b && not c then better_value v (best_value other vs) else best_value other vs)
            ≡ (if c then best_value t vs else (if b then better_value v (best_value t (without_first (has_key eq key k) vs)) else
            best_value t (without_first (has_key eq key k) vs)))
        by true true e none rest = gone true refl e none
        by false true e none rest = gone true refl e none
        by true false e none rest = ap (better_value v) rest
        by false false e none rest = rest

module _ {E : Type 0} (s : State E) where
  abbrev send_value : Option (Stage E) → List (Pending E)
  send_value None = []
  send_value (Some stage) = send_stage s (Some (0, stage))

  sent_is : (o : Option (ℕ × Stage E)) → send_stage s o ≡ send_value (option_map (λ p. p.1) o)
  sent_is None = refl
  sent_is (Some p) = refl

  -- the least of the other stages to a host is the one that is due without this one
  pub next_due : (k : PeerNumber) → HasDistinctStages s
      → send_stage s (best_from (λ t. is_stage_to k.peer t && not (is_stage k t)) is_earlier_stage 0 s.stages)
      ≡ due_of s k.peer (without_first (is_stage k) s.stages)
  next_due k h =
      let others : Option (ℕ × Stage E) = best_from (λ t. is_stage_to k.peer t && not (is_stage k t)) is_earlier_stage 0 s.stages in
      let left : Option (ℕ × Stage E) = best_from (is_stage_to k.peer) is_earlier_stage 0 (without_first (is_stage k) s.stages) in
      sent_is others
      ∙ ap send_value (
      value-best is_earlier_stage (λ t. is_stage_to k.peer t && not (is_stage k t)) 0 s.stages
      ∙ best-without is_earlier_stage peer_number_eq stage_key peer_number_exact (is_stage_to k.peer) k s.stages h
      ∙ sym (value-best is_earlier_stage (is_stage_to k.peer) 0 (without_first (is_stage k) s.stages))
      )
      ∙ sym (sent_is left)
