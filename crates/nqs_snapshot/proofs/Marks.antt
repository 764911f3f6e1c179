-- Marks that are added one by one.
use Rattle.std.proofs.Common.{◌≡◌, ℕ, ◌+◌, Bool, true, false, cond, List, [], ◌∷◌, ◌++◌, map, filter, drop, slice_get, Some, refl, sym, ap, ◌∙◌, append_assoc}
use Rattle.std.proofs.Common.{Ok, Err, IfOk}
use Rattle.std.specs.declared.result.Result.{Result}
use Rattle.std.proofs.lemmas.List.{map-append}
use Rattle.nqs_base_tables.proofs.TableLemmas.{drop-at}

-- the mark of the value at the place goes behind those before
pub one_more : {M V K : Type 0} (key : M → K) (of : V → K) (marks next : List M) (items : List V) (i : ℕ) (v : V) (m : M) → slice_get items i ≡ Some v
    → next ≡ marks ++ m ∷ [] → key m ≡ of v → map key marks ++ map of (drop i items) ≡ map key next ++ map of (drop (i + 1) items)
one_more key of marks next items i v m at pushed is =
    ap (λ l. map key marks ++ map of l) (drop-at items i v at)
    ∙ sym (append_assoc (map key marks) (of v ∷ []) (map of (drop (i + 1) items)))
    ∙ ap (λ k. (map key marks ++ k ∷ []) ++ map of (drop (i + 1) items)) (sym is)
    ∙ ap (λ l. l ++ map of (drop (i + 1) items)) (sym (map-append key marks (m ∷ [])))
    ∙ ap (λ l. map key l ++ map of (drop (i + 1) items)) (sym pushed)

filter_one : {V : Type 0} (t : V → Bool) (v : V) (vs : List V) → filter t (v ∷ vs) ≡ filter t (v ∷ []) ++ filter t vs
filter_one t v vs = by (t v)
  where
    by : (b : Bool) → cond b (v ∷ filter t vs) (filter t vs) ≡ cond b (v ∷ []) [] ++ filter t vs
    by true = refl
    by false = refl

-- the same of those that pass a test
pub one_if : {M V K : Type 0} (key : M → K) (of : V → K) (t : V → Bool) (marks next : List M) (items : List V) (i : ℕ) (v : V) → slice_get items i ≡ Some v
    → map key next ≡ map key marks ++ map of (filter t (v ∷ []))
    → map key marks ++ map of (filter t (drop i items)) ≡ map key next ++ map of (filter t (drop (i + 1) items))
one_if key of t marks next items i v at added =
    let rest = filter t (drop (i + 1) items) in
    ap (λ l. map key marks ++ map of (filter t l)) (drop-at items i v at)
    ∙ ap (λ l. map key marks ++ map of l) (filter_one t v (drop (i + 1) items))
    ∙ ap (λ l. map key marks ++ l) (map-append of (filter t (v ∷ [])) rest)
    ∙ sym (append_assoc (map key marks) (map of (filter t (v ∷ []))) (map of rest))
    ∙ ap (λ l. l ++ map of rest) (sym added)

-- an answer that is one value is the other, where they are one
pub same_answer : {E : Type 0} (answer : Result Bool E) (a b : Bool) → a ≡ b → IfOk answer (λ x. x ≡ a) → IfOk answer (λ x. x ≡ b)
same_answer (Ok x) a b same is = is ∙ same
same_answer (Err e) a b same is = tt
