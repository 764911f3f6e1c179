-- Told lists by one more.
use Rattle.std.proofs.Common.{◌≡◌, ◌≤◌, Bool, true, false, List, [], ◌∷◌, ◌++◌, Option, Ok, map, refl, sym, subst, ◌∙◌}
use Rattle.std.proofs.lemmas.List.{map_push}
use Rattle.nqs_outside.proofs.Told.{extends_none}
use Rattle.nqs_outside.specs.Told.{Extends}
use Rattle.nqs_fakes.specs.Told.{told_of}
use Rattle.nqs_cli.specs.Parts.{Lent, MachineTold, HandsOver}

-- a list that is kept tells one more where one more is kept
pub told_more : {A B : Type 0} (starved : Bool) (tell : A → B) (xs ys : List A) (x : A) → ys ≡ xs ++ x ∷ []
    → Extends (told_of starved tell xs) (told_of starved tell ys) (tell x ∷ [])
told_more true tell xs ys x more l told = absurd (let never : ⊥ = cc in never)
told_more false tell xs ys x more l told = (map tell xs, refl, let same : map tell ys ≡ l = cc in sym same ∙ rw more (map_push tell xs x))

-- a machine handed parts over, which were kept
pub handed : {T E : Type 0} (was now : MachineTold) (mid : Option (List Lent)) (says : T → Lent) (fault : E) (part : T) (l : Lent) → mid ≡ was.lent
    → now.back ≡ was.back → was.faults ≤ now.faults → l ≡ says part → Extends mid now.lent (l ∷ []) → HandsOver was now says fault (Ok part)
handed was now mid says fault part l before back later is lent = record {
  lent = subst (λ (s : Lent). Extends was.lent now.lent (s ∷ [])) is
      (subst (λ (k : Option (List Lent)). Extends k now.lent (l ∷ [])) before lent);
  none = tt;
  back = subst (λ b. Extends was.back b []) (sym back) (extends_none was.back);
  later = later;
  failed = λ failed. absurd (let never : ⊥ = cc in never);
}
