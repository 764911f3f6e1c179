-- What a plan does, but for the stored bytes.
use Rattle.std.proofs.Common.{◌≡◌, ℕ, ◌+◌, ◌<◌, ◌≤◌, true, zero, suc, List, [], ◌∷◌, ◌++◌, map, filter, length, Option, option_map, None, Some, IfSome, refl}
use Rattle.std.proofs.Common.{sym, ap, subst, ◌∙◌, arith, length-append}
use Rattle.std.proofs.lemmas.List.{map-append}
use Rattle.std.proofs.lemmas.List.Elements.{filter-append}
use Rattle.std.proofs.lemmas.Simd.{map-map}
use Rattle.nqs_state.specs.State.{State, Plain}
use Rattle.nqs_base.specs.declared.extent.Extent.{Extent}
use Rattle.nqs_types.specs.declared.change.Change.{Change}
use Rattle.nqs_types.specs.declared.change.Change.TheVariants.{Ended, Boot}
use Rattle.nqs_types.specs.declared.event.Event.{Event}
use Rattle.nqs_types.specs.declared.event.Output.{Output}
use Rattle.nqs_types.specs.declared.event.Output.TheVariants as out
use Rattle.nqs_types.specs.declared.event.Plan.{Plan}
use Rattle.nqs_types.specs.declared.message.Body.{Body}
use Rattle.nqs_types.specs.declared.message.Body.TheVariants as body
use Rattle.nqs_rules.specs.Applied.{applied}
use Rattle.nqs_rules.specs.Edits.{change_at}
use Rattle.nqs_rules.specs.InOrder.{IsInOrder}
use Rattle.nqs_rules.specs.Measure.{starts_left}
use Rattle.nqs_rules.specs.Plain.{map_row, map_promise, map_stage, map_file}
use Rattle.nqs_rules.specs.Start.{start}
use Rattle.nqs_rules.specs.Starts.{after_change, after_step}
use Rattle.nqs_rules.specs.Step.{step}
use Rattle.nqs_rules.specs.Stepped.{Stepped, Pending, map_part, map_change, map_pending, map_stepped, no_extent, sent_with, with_bytes, shown, output_of}
use Rattle.nqs_rules.specs.Stepped.{plan_of}
use Rattle.nqs_rules.proofs.PlainLemmas.{applied-map}
use Rattle.nqs_rules.proofs.StartPlain.{starts_left-map}
use Rattle.nqs_back.specs.Back.{brings_back, comebacks, comes_back}
use Rattle.nqs_back.specs.Bare.{emptied, blank, without_bytes}
use Rattle.nqs_back.proofs.Counts.{start_few, bare_counted}
use Rattle.nqs_back.proofs.Lowered.{bare_left, bare_lowers}
use Rattle.nqs_back.proofs.Over.{over}

-- changes

twice : {E F G : Type 0} (f : E → F) (g : F → G) (c : Change E) → map_change g (map_change f c) ≡ map_change (λ x. g (f x)) c
twice f g (Ended id parts) = ap (Ended id) (map-map (map_part g) (map_part f) parts)
twice f g Boot = refl
twice f g c = refl

blank_shape : (c d : Change Extent) → map_change (λ _. no_extent) d ≡ map_change (λ _. no_extent) c → blank d ≡ blank c
blank_shape c d shape = sym (twice (λ _. no_extent) (λ _. []) d) ∙ ap blank shape ∙ twice (λ _. no_extent) (λ _. []) c

-- what is kept is the change, whatever extents were put into it
pub bare_made : (c d : Change Extent) (s t u : State Extent) → map_change (λ _. no_extent) d ≡ map_change (λ _. no_extent) c → u ≡ applied d t → t ≡ s
    → emptied u ≡ applied (blank c) (emptied s)
bare_made c d s t u shape made same = ap emptied made ∙ applied-map (λ _. []) d t ∙ (λ j. applied (blank_shape c d shape j) (emptied (same j)))

pub emptied_twice : {E : Type 0} (s : State E) → emptied (emptied s) ≡ emptied s
emptied_twice {E = E} s = λ j. record (emptied s) {
  rows = map-map (map_row {E = List ℕ} {F = List ℕ} (λ _. [])) (map_row {E = E} {F = List ℕ} (λ _. [])) s.rows j;
  promises = map-map (map_promise {E = List ℕ} {F = List ℕ} (λ _. [])) (map_promise {E = E} {F = List ℕ} (λ _. [])) s.promises j;
  stages = map-map (map_stage {E = List ℕ} {F = List ℕ} (λ _. [])) (map_stage {E = E} {F = List ℕ} (λ _. [])) s.stages j;
  files = map-map (map_file {E = List ℕ} {F = List ℕ} (λ _. [])) (map_file {E = E} {F = List ℕ} (λ _. [])) s.files j;
}

-- what a plan makes is what is done, without the bytes
pub bare_done : (done : Stepped Extent) (plan : Plan) → plan ≡ plan_of done → (s : State Extent)
    → after_change (option_map blank plan.change) (emptied s) ≡ emptied (after_step (map_stepped (λ _. []) done) (emptied s))
bare_done done plan is s = ap (λ (p : Plan). after_change (option_map blank p.change) (emptied s)) is ∙ by done.change
  where
    by : (o : Option (Change (List ℕ))) → after_change (option_map blank (option_map (map_change (λ _. no_extent)) o)) (emptied s)
        ≡ emptied (after_change o (emptied s))
    by None = sym (emptied_twice s)
    by (Some c) = ap (λ x. applied x (emptied s)) (twice (λ _. no_extent) (λ _. []) c) ∙ ap (applied (blank c)) (sym (emptied_twice s))
        ∙ sym (applied-map (λ _. []) c (emptied s))

-- outputs

pub sent_twice : (a b : List ℕ) (x : Body) → sent_with a (sent_with b x) ≡ sent_with a x
sent_twice a b (body.Offer n low queue c script) = refl
sent_twice a b (body.Ready n) = refl
sent_twice a b (body.Refused n refusal) = refl
sent_twice a b (body.Stage n path bytes) = refl
sent_twice a b x = refl

with_twice : (a b : List ℕ) (o : Output) → with_bytes a (with_bytes b o) ≡ with_bytes a o
with_twice a b (out.Send m) = ap (λ x. out.Send (record { from = m.from; to = m.to; body = x })) (sent_twice a b m.body)
with_twice a b (out.Launch order script) = refl
with_twice a b (out.Print device order script) = refl
with_twice a b (out.File file path bytes) = refl
with_twice a b o = refl

pub filled_alike : (i : ℕ) (bytes : List ℕ) (os : List Output) → map without_bytes (change_at i (with_bytes bytes) os) ≡ map without_bytes os
filled_alike i bytes [] = refl
filled_alike zero bytes (o ∷ os) = ap (λ x. x ∷ map without_bytes os) (with_twice [] bytes o)
filled_alike (suc i) bytes (o ∷ os) = ap (λ l. without_bytes o ∷ l) (filled_alike i bytes os)

planned_alike : (ps : List (Pending Extent)) → map without_bytes (map output_of ps) ≡ map without_bytes (map shown (map (map_pending (λ _. [])) ps))
planned_alike [] = refl
planned_alike (p ∷ ps) = λ j. one p.1 j ∷ planned_alike ps j
  where
    one : (o : Option Extent) → without_bytes p.0 ≡ without_bytes (shown (map_pending (λ _. []) (p.0, o)))
    one None = refl
    one (Some x) = sym (with_twice [] [] p.0)

-- what a plan sends out is what is sent, without the bytes
pub said_alike : (done : Stepped Extent) (plan : Plan) → plan ≡ plan_of done
    → map without_bytes plan.outputs ≡ map without_bytes (map shown (map_stepped (λ _. []) done).outputs)
said_alike done plan is = ap (λ (p : Plan). map without_bytes p.outputs) is ∙ planned_alike done.outputs

-- the same, seen from what is done without the bytes

pub bare_step : (old new : State Extent) (F : Plain → Stepped (List ℕ)) (done : Stepped Extent) (plan : Plan) → plan ≡ plan_of done
    → F (emptied old) ≡ map_stepped (λ _. []) done
    → emptied new ≡ after_change (option_map blank plan.change) (emptied old) → emptied new ≡ emptied (after_step (F (emptied old)) (emptied old))
bare_step old new F done plan is law made = made ∙ bare_done done plan is old ∙ ap (λ x. emptied (after_step x (emptied old))) (sym law)

pub alike_step : (old : State Extent) (F : Plain → Stepped (List ℕ)) (done : Stepped Extent) (plan : Plan) → plan ≡ plan_of done
    → F (emptied old) ≡ map_stepped (λ _. []) done
    → (os now : List Output) → map without_bytes now ≡ map without_bytes os ++ map without_bytes plan.outputs
    → map without_bytes now ≡ map without_bytes os ++ map without_bytes (map shown (F (emptied old)).outputs)
alike_step old F done plan is law os now said = said ∙ ap (λ l. map without_bytes os ++ l)
    (said_alike done plan is ∙ ap (λ (x : Stepped (List ℕ)). map without_bytes (map shown x.outputs)) (sym law))

pub added_alike : (front back was now : List Output) → now ≡ front ++ back → map without_bytes back ≡ map without_bytes was
    → map without_bytes now ≡ map without_bytes front ++ map without_bytes was
added_alike front back was now is alike = ap (map without_bytes) is ∙ map-append without_bytes front back ∙ ap (λ l. map without_bytes front ++ l) alike

-- what comes back

counted : (os more now : List Output) → map without_bytes now ≡ map without_bytes os ++ map without_bytes more → comebacks now ≡ comebacks os + comebacks more
counted os more now is =
    sym (bare_counted now) ∙ ap comebacks is ∙ ap length (filter-append brings_back (map without_bytes os) (map without_bytes more))
    ∙ length-append (filter brings_back (map without_bytes os)) (filter brings_back (map without_bytes more)) ∙ (λ j. bare_counted os j + bare_counted more j)

module _ (old new : State Extent) where
  left_after : (x : Stepped (List ℕ)) → emptied new ≡ emptied (after_step x (emptied old))
      → starts_left new ≡ starts_left (emptied (after_step x (emptied old)))
  left_after x is = sym (bare_left new) ∙ ap starts_left is

  pub no_more_left : (e : Event) → comes_back e ≡ true → emptied new ≡ emptied (after_step (step e (emptied old)) (emptied old))
      → starts_left new ≤ starts_left old
  no_more_left e back is =
      let x = step e (emptied old) in
      let t = after_step x (emptied old) in
      subst (λ n. starts_left new ≤ n) (bare_left old) (subst (λ n. n ≤ starts_left (emptied old)) (sym (left_after x is ∙ starts_left-map (λ _. []) t))
      (over (emptied old) e back).fewer)

  pub fewer_left : (now : ℕ) (x : Stepped (List ℕ)) → IsInOrder old → start now (emptied old) ≡ Some x → emptied new ≡ emptied (after_step x (emptied old))
      → starts_left new < starts_left old
  fewer_left now x order picked is = subst (λ n. n < starts_left old) (sym (left_after x is)) (bare_lowers old now x order picked)

  pub none_back : (e : Event) → comes_back e ≡ true → (os more : List Output)
      → map without_bytes more ≡ map without_bytes os ++ map without_bytes (map shown (step e (emptied old)).outputs) → comebacks more ≡ comebacks os
  none_back e back os more is =
      let a = counted os (map shown (step e (emptied old)).outputs) more is in
      let b = (over (emptied old) e back).none in
      omega (arith, a, b)

  pub one_back : (now : ℕ) (x : Stepped (List ℕ)) → start now (emptied old) ≡ Some x → (os more : List Output)
      → map without_bytes more ≡ map without_bytes os ++ map without_bytes (map shown x.outputs) → comebacks more ≤ comebacks os + 1
  one_back now x picked os more is =
      let a = counted os (map shown x.outputs) more is in
      let b : comebacks (map shown x.outputs) ≤ 1 = (let f : IfSome (Some x) (λ y. comebacks (map shown y.outputs) ≤ 1) =
      subst (λ (o : Option (Stepped (List ℕ))). IfSome o (λ y. comebacks (map shown y.outputs) ≤ 1)) picked (start_few (emptied old) now) in f) in
      omega (arith, a, b)
