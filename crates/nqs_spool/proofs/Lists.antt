-- Lists with an extent more or less.
use Rattle.std.proofs.Common.{◌≡◌, ◌⊎◌, inl, inr, ℕ, ◌<◌, List, [], ◌∷◌, ◌++◌, refl, sym, ap, arith, subst}
use Rattle.std.specs.List.{AllByRecursion}
use Rattle.nqs_base.specs.declared.extent.Extent.{Extent}
use Rattle.nqs_spool.specs.Extents.{extent_at, IsApart, IsClearOf, AreApart, IsLeastPlace, Has, IsWith, Covers}
use Rattle.nqs_spool.proofs.Rows.{lt_cases}

pub all_put : (P : Extent → Type 0) (front back : List Extent) (x : Extent) → P x → AllByRecursion P (front ++ back) → AllByRecursion P (front ++ x ∷ back)
all_put P [] back x new all = (new, all)
all_put P (y ∷ front) back x new all = (all.0, all_put P front back x new all.1)

pub all_cut : (P : Extent → Type 0) (front back : List Extent) (x : Extent) → AllByRecursion P (front ++ x ∷ back) → P x × AllByRecursion P (front ++ back)
all_cut P [] back x all = all
all_cut P (y ∷ front) back x all = let rest = all_cut P front back x all.1 in (rest.0, (all.0, rest.1))

pub all_has : (P : Extent → Type 0) (live : List Extent) (x : Extent) → AllByRecursion P live → Has live x → P x
all_has P [] x all has = absurd has
all_has P (y ∷ live) x all (inl is) = subst P (sym is) all.0
all_has P (y ∷ live) x all (inr has) = all_has P live x all.1 has

pub has_all : (P : Extent → Type 0) (live : List Extent) → ((x : Extent) → Has live x → P x) → AllByRecursion P live
has_all P [] each = tt
has_all P (y ∷ live) each = (each y (inl refl), has_all P live (λ x has. each x (inr has)))

-- what a list has, a longer one has
pub has_left : (front back : List Extent) (x : Extent) → Has front x → Has (front ++ back) x
has_left [] back x has = absurd has
has_left (y ∷ front) back x (inl is) = inl is
has_left (y ∷ front) back x (inr has) = inr (has_left front back x has)

pub has_right : (front back : List Extent) (x : Extent) → Has back x → Has (front ++ back) x
has_right [] back x has = has
has_right (y ∷ front) back x has = inr (has_right front back x has)

pub has_put : (front back : List Extent) (x y : Extent) → (y ≡ x) ⊎ Has (front ++ back) y → Has (front ++ x ∷ back) y
has_put [] back x y has = has
has_put (z ∷ front) back x y (inl is) = inr (has_put front back x y (inl is))
has_put (z ∷ front) back x y (inr (inl is)) = inl is
has_put (z ∷ front) back x y (inr (inr has)) = inr (has_put front back x y (inr has))

pub has_cut : (front back : List Extent) (x y : Extent) → Has (front ++ x ∷ back) y → (y ≡ x) ⊎ Has (front ++ back) y
has_cut [] back x y has = has
has_cut (z ∷ front) back x y (inl is) = inr (inl is)
has_cut (z ∷ front) back x y (inr has) = elim (has_cut front back x y has) [ inl is ↦ inl is | inr rest ↦ inr (inr rest) ]

apart_turned : (x y : Extent) → IsApart x y → IsApart y x
apart_turned x y apart = omega (arith, apart)

pub apart_put : (front back : List Extent) (x : Extent) → IsClearOf (front ++ back) x → AreApart (front ++ back) → AreApart (front ++ x ∷ back)
apart_put [] back x clear apart = (clear, apart)
apart_put (y ∷ front) back x clear apart = (all_put (IsApart y) front back x (apart_turned x y clear.0) apart.0, apart_put front back x clear.1 apart.1)

pub apart_cut : (front back : List Extent) (x : Extent) → AreApart (front ++ x ∷ back) → IsClearOf (front ++ back) x × AreApart (front ++ back)
apart_cut [] back x apart = apart
apart_cut (y ∷ front) back x apart =
    let first = all_cut (IsApart y) front back x apart.0 in
    let rest = apart_cut front back x apart.1 in
    ((apart_turned y x first.0, rest.0), (first.1, rest.1))

-- what isn't empty meets itself
meets_itself : (x : Extent) → 0 < x.length → IsApart x x → ⊥
meets_itself x some apart = absurd (omega (arith, some, apart))

once : (live : List Extent) (x : Extent) → 0 < x.length → IsClearOf live x → Has live x → ⊥
once live x some clear has = meets_itself x some (all_has (IsApart x) live x clear has)

-- the same put in, or taken out, on both sides
module _ (kept more live more' : List Extent) (x : Extent) (at : IsWith kept x more) (at' : IsWith live x more') where
  pub covers_put : IsClearOf live x → Covers kept live → Covers more more'
  covers_put clear so_far = record {
    same = λ y some. (
      (λ has. rw at.within (has_put at.front at.back x y (elim (has_cut at'.front at'.back x y (rw at'.within at has)) [
        | inl is ↦ inl is
        | inr rest ↦ inr
            (rw at.without at ((so_far.same y some).0 (rw at'.without rest)))
      ]))),
      (λ has. rw at'.within (has_put at'.front at'.back x y (elim (has_cut at.front at.back x y (rw at.within at has)) [
        | inl is ↦ inl is
        | inr rest ↦ inr
            (rw at'.without at ((so_far.same y some).1 (rw at.without rest)))
      ]))),
    );
    apart = rw at'.within (apart_put at'.front at'.back x (rw at'.without at clear) (rw at'.without at so_far.apart));
  }

  pub covers_cut : 0 < x.length → AreApart more → Covers more more' → Covers kept live
  covers_cut some kept_apart so_far =
      let apart = apart_cut at'.front at'.back x (rw at'.within at so_far.apart) in
      let alone = apart_cut at.front at.back x (rw at.within at kept_apart) in
      record {
        same = λ y some_y. (
          (λ has. elim (has_cut at.front at.back x y (rw at.within at ((so_far.same y some_y).0
              (rw at'.within (has_put at'.front at'.back x y (inr (rw at'.without at has))))))) [
                | inl is ↦ absurd (once (at'.front ++ at'.back) x some apart.0 (subst (Has (at'.front ++ at'.back)) is (rw at'.without at has)))
                | inr rest ↦ rw at.without rest
              ]),
          (λ has. elim (has_cut at'.front at'.back x y (rw at'.within at ((so_far.same y some_y).1
              (rw at.within (has_put at.front at.back x y (inr (rw at.without at has))))))) [
                | inl is ↦ absurd (once (at.front ++ at.back) x some alone.0 (subst (Has (at.front ++ at.back)) is (rw at.without at has)))
                | inr rest ↦ rw at'.without rest
              ]),
        );
        apart = rw at'.without apart.1;
      }

-- an empty extent meets nothing, and isn't kept
module _ (kept live more : List Extent) (x : Extent) (empty : x.length ≡ 0) (at : IsWith live x more) where
  not_it : (y : Extent) → 0 < y.length → y ≡ x → ⊥
  not_it y some is = absurd (omega (arith, some, empty, ap (λ (z : Extent). z.length) is))

  clear : (others : List Extent) → IsClearOf others x
  clear others = has_all (IsApart x) others (λ y has. omega (arith, empty))

  pub empty_put : Covers kept live → Covers kept more
  empty_put so_far = record {
    same = λ y some. (
      (λ has. elim (has_cut at.front at.back x y (rw at.within at has)) [
        | inl is ↦ absurd (not_it y some is)
        | inr rest ↦ (so_far.same y some).0
            (rw at.without rest)
      ]),
      (λ has. rw at.within (has_put at.front at.back x y (inr (rw at.without at ((so_far.same y some).1 has))))),
    );
    apart = rw at.within (apart_put at.front at.back x (clear (at.front ++ at.back)) (rw at.without at so_far.apart));
  }

  pub empty_cut : Covers kept more → Covers kept live
  empty_cut so_far = record {
    same = λ y some. (
      (λ has. (so_far.same y some).0 (rw at.within (has_put at.front at.back x y (inr (rw at.without at has))))),
      (λ has. elim (has_cut at.front at.back x y (rw at.within at ((so_far.same y some).1 has))) [
        | inl is ↦ absurd
            (not_it y some is)
        | inr rest ↦ rw at.without rest
      ]),
    );
    apart = rw at.without (apart_cut at.front at.back x (rw at.within at so_far.apart)).1;
  }

pub all_front : (P : Extent → Type 0) (front back : List Extent) → AllByRecursion P (front ++ back) → AllByRecursion P front
all_front P [] back all = tt
all_front P (y ∷ front) back all = (all.0, all_front P front back all.1)

-- what meets none of the live extents meets none of those that are kept
pub clear_kept : (kept live : List Extent) (x : Extent) → ((y : Extent) → Has kept y → 0 < y.length) → Covers kept live → IsClearOf live x → IsClearOf kept x
clear_kept kept live x some so_far clear = has_all (IsApart x) kept (λ y has. all_has (IsApart x) live y clear ((so_far.same y (some y has)).1 has))

-- and the other way round
pub clear_live : (kept live : List Extent) (x : Extent) → Covers kept live → IsClearOf kept x → IsClearOf live x
clear_live kept live x so_far clear = has_all (IsApart x) live (λ y has. elim (lt_cases 0 y.length) [
  | inl full ↦ all_has (IsApart x) kept y clear ((so_far.same y full.1).0 has)
  | inr empty ↦ omega (arith, empty.1)
])

-- what is the least place for those that are kept is it for the live extents
pub least_of_live : (kept live : List Extent) (count place : ℕ) → ((y : Extent) → Has kept y → 0 < y.length) → Covers kept live → IsLeastPlace kept count place
    → IsLeastPlace live count place
least_of_live kept live count place some so_far is = record {
  clear = clear_live kept live (extent_at place count) so_far is.clear;
  least = λ other clear. is.least other (clear_kept kept live (extent_at other count) some so_far clear);
}

pub all_with : (P : Extent → Type 0) (live more : List Extent) (x : Extent) → IsWith live x more → P x → AllByRecursion P live → AllByRecursion P more
all_with P live more x at new all = rw at.within (all_put P at.front at.back x new (rw at.without at all))

pub all_without : (P : Extent → Type 0) (live more : List Extent) (x : Extent) → IsWith live x more → AllByRecursion P more → AllByRecursion P live
all_without P live more x at all = rw at.without (all_cut P at.front at.back x (rw at.within at all)).1

pub has_with : (live more : List Extent) (x : Extent) → IsWith live x more → Has more x
has_with live more x at = rw at.within (has_put at.front at.back x x (inl refl))

pub clear_of_none : (live : List Extent) (x : Extent) → x.length ≡ 0 → IsClearOf live x
clear_of_none live x empty = has_all (IsApart x) live (λ y has. omega (arith, empty))
