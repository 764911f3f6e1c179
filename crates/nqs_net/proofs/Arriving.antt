-- Packets that arrive: the newest of two hosts, and why each is within its limits.
use Rattle.std.proofs.Common.{◌≡◌, ℕ, zero, suc, ◌<◌, Bool, true, false, cond, List, [], ◌∷◌, length, drop, filter, get_or, Some}
use Rattle.std.proofs.Common.{sym, ap, subst, ◌∙◌, arith}
use Rattle.std.proofs.lemmas.Bool.{and_parts}
use Rattle.std.proofs.lemmas.Option.{same_Some, none-some}
use Rattle.std.specs.List.{list_all}
use Rattle.nqs_types.specs.declared.ids.HostId.{HostId}
use Rattle.nqs_types.specs.declared.message.Message.{Message}
use Rattle.nqs_rules.specs.World.{World as Network, last_of, packet_at, is_between, newest_between}
use Rattle.nqs_rules.proofs.KeyFacts.{all_get}

module _ {A : Type 0} where
  last_more : (x m : A) (ys : List A) → last_of ys ≡ Some m → last_of (x ∷ ys) ≡ Some m
  last_more x m [] e = absurd (none-some m e)
  last_more x m (y ∷ ys) e = e

  module _ (t : A → Bool) where
    -- the last that passes, where none behind it does
    pub last_at : (l : List A) (n : ℕ) (m : A) → n < length l → m ≡ get_or l n m → t m ≡ true → filter t (drop (suc n) l) ≡ [] → last_of (filter t l) ≡ Some m
    last_at [] n m within here holds none = absurd (omega (arith, within))
    last_at (x ∷ xs) zero m within here holds none =
        ap (λ b. last_of (cond b (x ∷ filter t xs) (filter t xs))) (ap t (sym here) ∙ holds) ∙ ap (λ l. last_of (x ∷ l)) none ∙ ap Some (sym here)
    last_at (x ∷ xs) (suc n) m within here holds none = by (t x) (last_at xs n m (omega (arith, within)) here holds none)
      where
        by : (b : Bool) → last_of (filter t xs) ≡ Some m → last_of (cond b (x ∷ filter t xs) (filter t xs)) ≡ Some m
        by true e = last_more x m (filter t xs) e
        by false e = e

    pub none_from : (l : List A) (n : ℕ) (m : A) → n < length l → m ≡ get_or l n m → t m ≡ false → filter t (drop (suc n) l) ≡ [] → filter t (drop n l) ≡ []
    none_from [] n m within here fails none = absurd (omega (arith, within))
    none_from (x ∷ xs) zero m within here fails none = ap (λ b. cond b (x ∷ filter t xs) (filter t xs)) (ap t (sym here) ∙ fails) ∙ none
    none_from (x ∷ xs) (suc n) m within here fails none = none_from xs n m (omega (arith, within)) here fails none

    all_last : (p : A → Bool) (l : List A) (m : A) → list_all t l ≡ true → last_of (filter p l) ≡ Some m → t m ≡ true
    all_last p [] m all e = absurd (none-some m e)
    all_last p (x ∷ xs) m all e = by (p x) (filter p xs) e (all_last p xs m (and_parts (t x) (list_all t xs) all).1)
      where
        by : (b : Bool) (ys : List A) → last_of (cond b (x ∷ ys) ys) ≡ Some m → (last_of ys ≡ Some m → t m ≡ true) → t m ≡ true
        by true [] at rest = subst (λ y. t y ≡ true) (same_Some x m at) (and_parts (t x) (list_all t xs) all).0
        by true (y ∷ ys) at rest = rest at
        by false ys at rest = rest at

pub numbered_sane : (t : Message → Bool) (k : ℕ) (w : Network) (m : Message) → list_all t w.packets ≡ true → packet_at k w ≡ Some m → t m ≡ true
numbered_sane t zero w m all e = absurd (none-some m e)
numbered_sane t (suc k) w m all e = all_get t w.packets k m all e

pub newest_sane : (t : Message → Bool) (a b : HostId) (w : Network) (m : Message) → list_all t w.packets ≡ true → newest_between a b w ≡ Some m → t m ≡ true
newest_sane t a b w m all e = all_last t (is_between a b) w.packets m all e

pub latest : (a b : HostId) (w : Network) (l : List Message) (p n : ℕ) (m : Message) → l ≡ w.packets → p ≡ suc n → n < length l → m ≡ get_or l n m
    → is_between a b m ≡ true → filter (is_between a b) (drop p l) ≡ []
    → Some m ≡ newest_between a b w
latest a b w l p n m same next within here holds none =
    sym (last_at (is_between a b) l n m within here holds (ap (λ k. filter (is_between a b) (drop k l)) (sym next) ∙ none))
    ∙ ap (λ k. last_of (filter (is_between a b) k)) same
