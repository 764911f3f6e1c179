-- How plans grow.
use Rattle.std.proofs.Common.{◌≡◌, ◌∙◌, ℕ, ◌+◌, List, [], ◌∷◌, ◌++◌, map, length, append_assoc, append-nil, length-append, arith, sym, ap}
use Rattle.std.specs.Prelude.{flat_map, fold}
use Rattle.std.proofs.lemmas.List.{map-append, length-map}
use Rattle.nqs_rules.specs.Stepped.{Stepped, Pending, output_of, read_at, reads_from, plan_of}
use Rattle.nqs_plans.specs.More.{also, with_more}
use Rattle.nqs_base.specs.declared.extent.Extent.{Extent}
use Rattle.nqs_types.specs.declared.event.Plan.{Plan}

pub reads-append : (n : ℕ) (ps qs : List (Pending Extent)) → reads_from n (ps ++ qs) ≡ reads_from n ps ++ reads_from (n + length ps) qs
reads-append n [] qs = ap (λ m. reads_from m qs) (omega arith)
reads-append n (p ∷ ps) qs =
    let e : (n + 1) + length ps ≡ n + length (p ∷ ps) = omega arith in
    ap (λ l. read_at n p.1 ++ l) (reads-append (n + 1) ps qs ∙ ap (λ m. reads_from (n + 1) ps ++ reads_from m qs) e)
    ∙ sym (append_assoc (read_at n p.1) (reads_from (n + 1) ps) (reads_from (n + length (p ∷ ps)) qs))

-- nothing more
pub more-none : (p : Plan) → with_more p [] ≡ p
more-none p = (λ j. record { change = p.change; puts = p.puts; outputs = append-nil p.outputs j; reads = append-nil p.reads j; halts = p.halts })

-- more, and more behind it
pub more-both : (p : Plan) (ps qs : List (Pending Extent)) → with_more (with_more p ps) qs ≡ with_more p (ps ++ qs)
more-both p ps qs =
    let outputs : (p.outputs ++ map output_of ps) ++ map output_of qs ≡ p.outputs ++ map output_of (ps ++ qs) =
    append_assoc p.outputs (map output_of ps) (map output_of qs) ∙ ap (λ l. p.outputs ++ l) (sym (map-append output_of ps qs)) in
    let count : length (p.outputs ++ map output_of ps) ≡ length p.outputs + length ps =
    length-append p.outputs (map output_of ps) ∙ ap (λ n. length p.outputs + n) (length-map ps output_of) in
    let reads : (p.reads ++ reads_from (length p.outputs) ps) ++ reads_from (length (p.outputs ++ map output_of ps)) qs
    ≡ p.reads ++ reads_from (length p.outputs) (ps ++ qs) =
    append_assoc p.reads (reads_from (length p.outputs) ps) (reads_from (length (p.outputs ++ map output_of ps)) qs)
    ∙ ap (λ n. p.reads ++ (reads_from (length p.outputs) ps ++ reads_from n qs)) count
    ∙ ap (λ l. p.reads ++ l) (sym (reads-append (length p.outputs) ps qs)) in
    (λ j. record { change = p.change; puts = p.puts; outputs = outputs j; reads = reads j; halts = p.halts })

-- the plan of a step with more is that of the step, with more
pub plan-also : (x : Stepped Extent) (ps : List (Pending Extent)) → with_more (plan_of x) ps ≡ plan_of (also x ps)
plan-also x ps =
    let outputs : map output_of x.outputs ++ map output_of ps ≡ map output_of (x.outputs ++ ps) = sym (map-append output_of x.outputs ps) in
    let reads : reads_from 0 x.outputs ++ reads_from (length (map output_of x.outputs)) ps ≡ reads_from 0 (x.outputs ++ ps) =
    ap (λ n. reads_from 0 x.outputs ++ reads_from n ps) (length-map x.outputs output_of ∙ omega arith) ∙ sym (reads-append 0 x.outputs ps) in
    (λ j. record { change = (plan_of x).change; puts = (plan_of x).puts; outputs = outputs j; reads = reads j; halts = x.halts })

-- what is added for one value after the other
pub folded-more : {V : Type 0} (g : V → List (Pending Extent)) (p : Plan) (vs : List V) → fold (λ q v. with_more q (g v)) p vs ≡ with_more p (flat_map g vs)
folded-more g p [] = sym (more-none p)
folded-more g p (v ∷ vs) = folded-more g (with_more p (g v)) vs ∙ more-both p (g v) (flat_map g vs)
