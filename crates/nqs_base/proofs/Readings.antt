-- What a reading gives and which faults it has, as two relations. Readings are joined as their
-- relations are.
use Rattle.std.proofs.Common.{◌≡◌, ◌⊎◌, inl, inr, ◌↔◌, Bool, true, false, cond, Option, Some, None, Result, Ok, Err, refl, ap, sym, ◌∙◌}
use Rattle.nqs_base.specs.Reads.{◌>>=◌, or_fault}

-- it gives just these values, and has just these faults
abbrev pub Reads : {A E : Type 0} → Result A E → (A → Type 0) → (E → Type 0) → Type 0
Reads {A} {E} r P F = ((a : A) → (r ≡ Ok a) ↔ P a) × ((x : E) → (r ≡ Err x) ↔ F x)

-- ---- steps

pub given : {A E : Type 0} (a b : A) → ◌≡◌ {A = Result A E} (Ok a) (Ok b) → b ≡ a
given a b e = cc

pub refused : {A E : Type 0} (x y : E) → ◌≡◌ {A = Result A E} (Err x) (Err y) → y ≡ x
refused x y e = cc

pub bound : {A B E : Type 0} (r : Result A E) (f : A → Result B E) (b : B) → (r >>= f) ≡ Ok b → (a : A) × (r ≡ Ok a) × (f a ≡ Ok b)
bound (Ok a) f b e = (a, refl, e)
bound (Err x) f b e = cc

pub failed : {A B E : Type 0} (r : Result A E) (f : A → Result B E) (x : E) → (r >>= f) ≡ Err x → (r ≡ Err x) ⊎ ((a : A) × (r ≡ Ok a) × (f a ≡ Err x))
failed (Ok a) f x e = inr (a, refl, e)
failed {A} {B} {E} (Err y) f x e = inl (ap (λ (z : E). Err z) (sym (refused {A = B} y x e)))

pub bind : {A B E : Type 0} (r : Result A E) (f : A → Result B E) (a : A) (s : Result B E) → r ≡ Ok a → f a ≡ s → (r >>= f) ≡ s
bind r f a s e g = rw e g

pub fail : {A B E : Type 0} (r : Result A E) (f : A → Result B E) (x : E) → r ≡ Err x → (r >>= f) ≡ Err x
fail r f x e = rw e refl

-- ---- answers that are apart

-- what is given isn't refused
pub apart : {A E : Type 0} (a : A) (x : E) → ◌≡◌ {A = Result A E} (Ok a) (Err x) → ⊥
apart a x e = cc

-- a reading doesn't both give and refuse
pub never : {A E : Type 0} (r : Result A E) (a : A) (x : E) → r ≡ Ok a → r ≡ Err x → ⊥
never r a x gives refuses = apart a x (sym gives ∙ refuses)

-- ---- ways out of a test

-- what a test lets pass
pub passed : {A E : Type 0} (t : Bool) (x : E) (a b : A) → ◌≡◌ {A = Result A E} (cond t (Ok a) (Err x)) (Ok b) → (t ≡ true) × (a ≡ b)
passed true x a b e = (refl, cc)
passed false x a b e = cc

-- what a test for a fault lets pass
pub faultless : {A E : Type 0} (t : Bool) (x : E) (a b : A) → ◌≡◌ {A = Result A E} (cond t (Err x) (Ok a)) (Ok b) → (t ≡ false) × (a ≡ b)
faultless true x a b e = cc
faultless false x a b e = (refl, cc)

-- what a test leaves there
pub found : {A : Type 0} (t : Bool) (a b : A) → cond t (Some a) None ≡ Some b → (t ≡ true) × (a ≡ b)
found true a b e = (refl, cc)
found false a b e = cc

-- ---- joined relations

-- one reading behind another
pub reads-bind : {A B E : Type 0} (r : Result A E) (f : A → Result B E) (P : A → Type 0) (F : E → Type 0) (Q : A → B → Type 0) (G : A → E → Type 0)
    → Reads r P F → ((a : A) → Reads (f a) (Q a) (G a)) → Reads (r >>= f) (λ (b : B). (a : A) × P a × Q a b) (λ (x : E). F x ⊎ ((a : A) × P a × G a x))
reads-bind {A} {B} {E} r f P F Q G first next = (
  (λ b. (
    (λ e. let t = bound r f b e in (t.0, (first.0 t.0).0 t.1, ((next t.0).0 b).0 t.2)),
    (λ h. bind r f h.0 (Ok b) ((first.0 h.0).1 h.1) (((next h.0).0 b).1 h.2)),
  )),
  (λ x. ((λ e. to x (failed r f x e)), from x)),
)
  where
    to : (x : E) → (r ≡ Err x) ⊎ ((a : A) × (r ≡ Ok a) × (f a ≡ Err x)) → F x ⊎ ((a : A) × P a × G a x)
    to x (inl e) = inl ((first.1 x).0 e)
    to x (inr t) = inr (t.0, (first.0 t.0).0 t.1, ((next t.0).1 x).0 t.2)

    from : (x : E) → F x ⊎ ((a : A) × P a × G a x) → (r >>= f) ≡ Err x
    from x (inl h) = fail r f x ((first.1 x).1 h)
    from x (inr t) = bind r f t.0 (Err x) ((first.0 t.0).1 t.1) (((next t.0).1 x).1 t.2)

-- what is given is made into another thing
pub reads-map : {A B E : Type 0} (r : Result A E) (h : A → B) (P : A → Type 0) (F : E → Type 0) → Reads r P F
    → Reads (r >>= (λ a. Ok (h a))) (λ (b : B). (a : A) × P a × (b ≡ h a)) F
reads-map {A} {B} {E} r h P F first = (
  (λ b. (
    (λ e. let t = bound r g b e in (t.0, (first.0 t.0).0 t.1, given (h t.0) b t.2)),
    (λ t. bind r g t.0 (Ok b) ((first.0 t.0).1 t.1) (ap (λ (c : B). Ok c) (sym t.2))),
  )),
  (λ x. ((λ e. to x (failed r g x e)), (λ k. fail r g x ((first.1 x).1 k)))),
)
  where
    g : A → Result B E
    g a = Ok (h a)

    to : (x : E) → (r ≡ Err x) ⊎ ((a : A) × (r ≡ Ok a) × (g a ≡ Err x)) → F x
    to x (inl e) = (first.1 x).0 e
    to x (inr t) = let no = t.2 in cc

-- what stands there
pub reads-or_fault : {A E : Type 0} (o : Option A) (x : E) → Reads (or_fault o x) (λ (a : A). o ≡ Some a) (λ (y : E). (o ≡ None) × (y ≡ x))
reads-or_fault {A} {E} (Some c) x = ((λ a. ((λ e. cc), (λ e. cc))), (λ y. ((λ e. cc), (λ h. let no = h.0 in cc))))
reads-or_fault {A} {E} None x = ((λ a. ((λ e. cc), (λ e. cc))), (λ y. ((λ e. (refl, refused {A = A} x y e)), (λ h. ap (λ (z : E). Err z) (sym h.1)))))
