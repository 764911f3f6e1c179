-- Paths that the rules call paths are paths.
use Rattle.std.proofs.Common.{◌≡◌, ℕ, zero, suc, ◌<◌, true, not, ◌==◌, nat_le, List, [], ◌∷◌, length, slice_index, arith}
use Rattle.std.proofs.lemmas.Bool.{and_parts, and_from, leb-true, not-true}
use Rattle.std.specs.List.{list_all}
use Rattle.nqs_base.specs.Path.{is_visible, PathAllowedBelow, has_parent, begins_with_slash, IsPath, is_path}
use Rattle.nqs_rules.proofs.Chains.{each}

seen_at : (bs : List ℕ) → list_all is_visible bs ≡ true → (i : ℕ) → i < length bs → is_visible (slice_index bs i) ≡ true
seen_at [] all i less = absurd (omega arith)
seen_at (b ∷ bs) all zero less = (and_parts (is_visible b) (list_all is_visible bs) all).0
seen_at (b ∷ bs) all (suc i) less = seen_at bs (and_parts (is_visible b) (list_all is_visible bs) all).1 i (omega (arith, less))

allowed_below : (p : List ℕ) → list_all is_visible p ≡ true → not (begins_with_slash p) ≡ true → PathAllowedBelow p (length p)
allowed_below [] all first i less = absurd (omega arith)
allowed_below (b ∷ bs) all first zero less = and_from (is_visible b) (not (b == 47)) (seen_at (b ∷ bs) all 0 less) first
allowed_below (b ∷ bs) all first (suc i) less = seen_at (b ∷ bs) all (suc i) less

pub path_stands : (p : List ℕ) → is_path p ≡ true → IsPath p
path_stands p h =
    let k = each (nat_le 1 (length p)) (nat_le (length p) 255 ∷ list_all is_visible p ∷ not (begins_with_slash p) ∷ not (has_parent p) ∷ []) h in
    record {
      some = leb-true 1 (length p) k.0;
      few = leb-true (length p) 255 k.1.0;
      allowed = allowed_below p k.1.1.0 k.1.1.1.0;
      below = not-true (has_parent p) k.1.1.1.1.0;
    }
