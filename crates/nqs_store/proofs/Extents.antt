-- Extents put in and taken out, in parts of a list.
use Rattle.std.proofs.Common.{◌≡◌, inl, inr, Bool, true, false, cond, not, List, [], ◌∷◌, ◌++◌, map, filter, find, Some, refl, sym, ap, subst, ◌∙◌}
use Rattle.std.proofs.Common.{append_assoc}
use Rattle.std.proofs.lemmas.List.{append-nil}
use Rattle.std.specs.List.{AllByRecursion}
use Rattle.nqs_base_tables.specs.Table.{without_first}
use Rattle.nqs_base.specs.declared.extent.Extent.{Extent}
use Rattle.nqs_spool.specs.Extents.{Has, IsWith, AreApart, IsClearOf}
use Rattle.nqs_spool.proofs.Lists.{has_put, has_cut, apart_put, apart_cut, all_without}
use Rattle.nqs_store.specs.Accounts.{Adds, Takes, IsRearranged}
use Rattle.nqs_store.specs.Frees.{part_of}

module _ (x : Extent) where
  pub with_first : (live : List Extent) → IsWith live x (x ∷ live)
  with_first live = record { front = []; back = live; without = refl; within = refl }

  pub with_behind : (live more back : List Extent) → IsWith live x more → IsWith (live ++ back) x (more ++ back)
  with_behind live more back at = record {
    front = at.front;
    back = at.back ++ back;
    without = ap (λ (l : List Extent). l ++ back) at.without ∙ append_assoc at.front at.back back;
    within = ap (λ (l : List Extent). l ++ back) at.within ∙ append_assoc at.front (x ∷ at.back) back;
  }

  pub with_before : (front live more : List Extent) → IsWith live x more → IsWith (front ++ live) x (front ++ more)
  with_before front live more at = record {
    front = front ++ at.front;
    back = at.back;
    without = ap (λ (l : List Extent). front ++ l) at.without ∙ sym (append_assoc front at.front at.back);
    within = ap (λ (l : List Extent). front ++ l) at.within ∙ sym (append_assoc front at.front (x ∷ at.back));
  }

-- put in

pub adds-behind : (live xs more back : List Extent) → Adds live xs more → Adds (live ++ back) xs (more ++ back)
adds-behind live [] more back is = ap (λ (l : List Extent). l ++ back) is
adds-behind live (x ∷ xs) more back adds = (adds.0 ++ back, with_behind x live adds.0 back adds.1, adds-behind adds.0 xs more back adds.2)

pub adds-before : (front live xs more : List Extent) → Adds live xs more → Adds (front ++ live) xs (front ++ more)
adds-before front live [] more is = ap (λ (l : List Extent). front ++ l) is
adds-before front live (x ∷ xs) more adds = (front ++ adds.0, with_before x front live adds.0 adds.1, adds-before front adds.0 xs more adds.2)

pub adds-end : (live xs : List Extent) → Adds live xs (live ++ xs)
adds-end live [] = sym (append-nil live)
adds-end live (x ∷ xs) = (
  live ++ x ∷ [],
  record { front = live; back = []; without = sym (append-nil live); within = refl },
  subst (Adds (live ++ x ∷ []) xs) (append_assoc live (x ∷ []) xs) (adds-end (live ++ x ∷ []) xs),
)

-- taken out

pub takes-behind : (live xs fewer back : List Extent) → Takes live xs fewer → Takes (live ++ back) xs (fewer ++ back)
takes-behind live [] fewer back is = ap (λ (l : List Extent). l ++ back) is
takes-behind live (x ∷ xs) fewer back takes = (takes.0 ++ back, with_behind x takes.0 live back takes.1, takes-behind takes.0 xs fewer back takes.2)

pub takes-before : (front live xs fewer : List Extent) → Takes live xs fewer → Takes (front ++ live) xs (front ++ fewer)
takes-before front live [] fewer is = ap (λ (l : List Extent). front ++ l) is
takes-before front live (x ∷ xs) fewer takes = (front ++ takes.0, with_before x front takes.0 live takes.1, takes-before front takes.0 xs fewer takes.2)

pub takes-end : (live xs : List Extent) → Takes (live ++ xs) xs live
takes-end live [] = append-nil live
takes-end live (x ∷ xs) = (live ++ xs, record { front = live; back = xs; without = refl; within = refl }, takes-end live xs)

pub takes-append : (live xs mid ys fewer : List Extent) → Takes live xs mid → Takes mid ys fewer → Takes live (xs ++ ys) fewer
takes-append live [] mid ys fewer is rest = subst (λ l. Takes l ys fewer) (sym is) rest
takes-append live (x ∷ xs) mid ys fewer takes rest = (takes.0, takes.1, takes-append takes.0 xs mid ys fewer takes.2 rest)

-- what is left is part of what was

pub takes_all : (P : Extent → Type 0) (live xs fewer : List Extent) → Takes live xs fewer → AllByRecursion P live → AllByRecursion P fewer
takes_all P live [] fewer is all = subst (AllByRecursion P) is all
takes_all P live (x ∷ xs) fewer takes all = takes_all P takes.0 xs fewer takes.2 (all_without P takes.0 live x takes.1 all)

pub takes_apart : (live xs fewer : List Extent) → Takes live xs fewer → AreApart live → AreApart fewer
takes_apart live [] fewer is apart = subst AreApart is apart
takes_apart live (x ∷ xs) fewer takes apart =
    let at = takes.1 in
    takes_apart takes.0 xs fewer takes.2 (rw at.without (apart_cut at.front at.back x (rw at.within at apart)).1)

-- the same in another order

pub in_order : (xs ys : List Extent) → xs ≡ ys → IsRearranged xs ys
in_order xs ys is = record { same = λ x. (subst (λ l. Has l x) (sym is), subst (λ l. Has l x) is); apart = subst AreApart is }

pub moved : (live xs ys : List Extent) (x : Extent) → IsWith live x xs → IsWith live x ys → IsRearranged xs ys
moved live xs ys x at at' = record {
  same = λ y. (over xs ys at at' y, over ys xs at' at y);
  apart = λ apart. let cut = apart_cut at.front at.back x (subst AreApart at.within apart) in
      let is : at.front ++ at.back ≡ at'.front ++ at'.back = sym at.without ∙ at'.without in
      subst AreApart (sym at'.within) (apart_put at'.front at'.back x (subst (λ l. IsClearOf l x) is cut.0) (subst AreApart is cut.1));
}
  where
    over : (us vs : List Extent) → IsWith live x us → IsWith live x vs → (y : Extent) → Has vs y → Has us y
    over us vs a b y has = subst (λ l. Has l y) (sym a.within) (has_put a.front a.back x y
        (elim (has_cut b.front b.back x y (subst (λ l. Has l y) b.within has)) [
          | inl is ↦ inl is
          | inr rest ↦ inr (subst (λ l. Has l y) (sym b.without ∙ a.without) rest)
        ]))

-- parts of values of a list
module _ {V : Type 0} (part : V → Extent) where
  pub filter_takes : (goes : V → Bool) (vs : List V) → Takes (map part vs) (map part (filter goes vs)) (map part (filter (λ v. not (goes v)) vs))
  filter_takes goes [] = refl
  filter_takes goes (v ∷ vs) = by (goes v) (filter_takes goes vs)
    where
      by : (b : Bool) → Takes (map part vs) (map part (filter goes vs)) (map part (filter (λ v. not (goes v)) vs))
          → Takes (part v ∷ map part vs) (map part (cond b (v ∷ filter goes vs) (filter goes vs)))
          (map part (cond (not b) (v ∷ filter (λ v. not (goes v)) vs) (filter (λ v. not (goes v)) vs)))
      by true rest = (map part vs, with_first (part v) (map part vs), rest)
      by false rest = takes-before (part v ∷ []) (map part vs) (map part (filter goes vs)) (map part (filter (λ v. not (goes v)) vs)) rest

  pub first_takes : (test : V → Bool) (vs : List V) → Takes (map part vs) (part_of part (find test vs)) (map part (without_first test vs))
  first_takes test [] = refl
  first_takes test (v ∷ vs) = by (test v) (first_takes test vs)
    where
      by : (b : Bool) → Takes (map part vs) (part_of part (find test vs)) (map part (without_first test vs))
          → Takes (part v ∷ map part vs) (part_of part (cond b (Some v) (find test vs))) (map part (cond b vs (v ∷ without_first test vs)))
      by true rest = (map part vs, with_first (part v) (map part vs), refl)
      by false rest = takes-before (part v ∷ []) (map part vs) (part_of part (find test vs)) (map part (without_first test vs)) rest
