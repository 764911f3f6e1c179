-- A destination that is put first: the others stand as they stood.
use Rattle.std.proofs.Common.{◌≡◌, Bool, true, false, cond, not, List, [], ◌∷◌, filter, refl, ap, ◌∙◌, arith, if◌then◌else◌}
use Rattle.std.proofs.lemmas.Bool.{and_from}
use Rattle.std.specs.List.{list_any}
use Rattle.nqs_base_tables.specs.Table.{without_first}
use Rattle.nqs_types.specs.declared.ids.Dest.{Dest}
use Rattle.nqs_rules.specs.Tests.{same_dest, same_host}
use Rattle.nqs_base.specs.Same.{name_eq}
use Rattle.nqs_rules.specs.PutFirst.{IsPutFirst}
use Rattle.nqs_rules.proofs.KeyFacts.{length_without}
use Rattle.nqs_rules.proofs.RowFacts.{same_it, same_name}

same_itself : (d : Dest) → same_dest d d ≡ true
same_itself d = and_from (name_eq d.queue d.queue) (same_host d.host d.host) (same_name d.queue) (same_it d.host.0)

others-without : {V : Type 0} (t : V → Bool) (vs : List V) → filter (λ v. not (t v)) (without_first t vs) ≡ filter (λ v. not (t v)) vs
others-without t [] = refl
others-without t (v ∷ vs) = by (t v) refl (others-without t vs)
  where
    by : (b : Bool) → t v ≡ b → filter (λ w. not (t w)) (without_first t vs) ≡ filter (λ w. not (t w)) vs
        → filter (λ w. not (t w)) (if b then vs else v ∷ without_first t vs)
        ≡ cond (not b) (v ∷ filter (λ w. not (t w)) vs) (filter (λ w. not (t w)) vs)
    by true e rest = refl
    by false e rest = ap (λ b. cond (not b) (v ∷ filter (λ w. not (t w)) (without_first t vs)) (filter (λ w. not (t w)) (without_first t vs))) e
        ∙ ap (λ l. v ∷ l) rest

pub put_first : (dest : Dest) (dests : List Dest) → list_any (same_dest dest) dests ≡ true → IsPutFirst dest dests (dest ∷ without_first (same_dest dest) dests)
put_first dest dests listed = record {
  first = refl;
  others =
      ap (λ b. cond (not b) (dest ∷ filter (λ d. not (same_dest dest d)) (without_first (same_dest dest) dests))
      (filter (λ d. not (same_dest dest d)) (without_first (same_dest dest) dests))) (same_itself dest)
      ∙ others-without (same_dest dest) dests;
  as_many = let as_many = length_without (same_dest dest) dests listed in omega (arith, as_many);
}
