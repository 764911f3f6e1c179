-- Things counted one after another.
use Rattle.std.proofs.Common.{◌≡◌, ℕ, ◌+◌, ◌<◌, ◌≤◌, List, ◌∷◌, length, drop, get_or, ap, sym, ◌∙◌}
use Rattle.std.proofs.lemmas.List.{drop_all, drop_more}
use Rattle.nqs_types.specs.declared.world.Seen.{Seen}
use Rattle.nqs_schedule.specs.declared.summary.Summary.{Summary}
use Rattle.nqs_schedule.specs.Summary.{counted, summary_of}

pub count_more : (xs : List Seen) (i : ℕ) (x : Seen) (s t all : Summary) → i < length xs → x ≡ get_or xs i x → t ≡ counted s x → summary_of s (drop i xs) ≡ all
    → summary_of t (drop (i + 1) xs) ≡ all
unfolding summary_of
count_more xs i x s t all less is counts before =
    let first : drop i xs ≡ x ∷ drop (i + 1) xs = drop_more xs i x less ∙ ap (λ (y : Seen). y ∷ drop (i + 1) xs) (sym is) in
    ap (λ (u : Summary). summary_of u (drop (i + 1) xs)) counts ∙ (sym (ap (summary_of s) first) ∙ before)

pub count_end : (xs : List Seen) (i : ℕ) (s all : Summary) → length xs ≤ i → summary_of s (drop i xs) ≡ all → s ≡ all
unfolding summary_of
count_end xs i s all past before = sym (ap (summary_of s) (drop_all i xs past)) ∙ before
