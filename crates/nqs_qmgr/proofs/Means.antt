-- What a reading means: which values it gives, as a relation. Readings are joined as their
-- relations are.
use Rattle.std.proofs.Common.{◌≡◌, ◌↔◌, ℕ, Ok, refl, ap, sym, subst}
use Rattle.nqs_base.proofs.Readings.{given, bound, bind}
use Rattle.nqs_qmgr.specs.Read.{Read, ◌>>=◌}

abbrev pub Means : {A : Type 0} → Read A → (A → Type 0) → Type 0
Means {A} r P = (a : A) → (r ≡ Ok a) ↔ P a

-- ---- joined relations

pub means-Ok : {A : Type 0} (a : A) → Means (Ok a) (λ (b : A). b ≡ a)
means-Ok {A} a b = (given a b, λ e. ap (λ (c : A). Ok c) (sym e))

pub means-bind : {A B : Type 0} (r : Read A) (f : A → Read B) (P : A → Type 0) (Q : A → B → Type 0)
    → Means r P → ((a : A) → Means (f a) (Q a)) → Means (r >>= f) (λ (b : B). (a : A) × P a × Q a b)
means-bind r f P Q hr hf b = (
  (λ e. let t = bound r f b e in (t.0, (hr t.0).0 t.1, (hf t.0 b).0 t.2)),
  (λ h. bind r f h.0 (Ok b) ((hr h.0).1 h.1) ((hf h.0 b).1 h.2)),
)

-- a value, made into another
pub means-map : {A B : Type 0} (r : Read A) (f : A → B) (P : A → Type 0) → Means r P → Means (r >>= (λ a. Ok (f a))) (λ (b : B). (a : A) × P a × (b ≡ f a))
means-map {A} {B} r f P hr = means-bind r (λ a. Ok (f a)) P (λ a b. b ≡ f a) hr (λ a. means-Ok (f a))

-- a step that gives nothing, and another
pub means-then : {B : Type 0} (r : Read (Unit {0})) (s : Unit {0} → Read B) (P : Type 0) (Q : B → Type 0)
    → Means r (λ (u : Unit {0}). P) → Means (s tt) Q → Means (r >>= s) (λ (b : B). P × Q b)
means-then r s P Q hr hs b = (
  (λ e. let t = bound r s b e in ((hr t.0).0 t.1, (hs b).0 t.2)),
  (λ h. bind r s tt (Ok b) ((hr tt).1 h.0) ((hs b).1 h.1)),
)

-- a value with the place behind it, and the end there
pub means-last : {A : Type 0} (r : Read (A × ℕ)) (end : ℕ → Read (Unit {0})) (P : A × ℕ → Type 0) (E : ℕ → Type 0)
    → Means r P → ((place : ℕ) → Means (end place) (λ (u : Unit {0}). E place))
    → Means (r >>= (λ p. end p.1 >>= (λ done. Ok p.0))) (λ (a : A). (after : ℕ) × P (a, after) × E after)
means-last {A} r end P E hr he a = (
  (λ e.
      let b = bound r f a e in
      let d = bound (end b.0.1) (g b.0) a b.2 in
      let same = given b.0.0 a d.2 in
      (b.0.1, subst (λ (x : A). P (x, b.0.1)) (sym same) ((hr b.0).0 b.1), (he b.0.1 d.0).0 d.1)),
  (λ h. bind r f (a, h.0) (Ok a) ((hr (a, h.0)).1 h.1) (bind (end h.0) (g (a, h.0)) tt (Ok a) ((he h.0 tt).1 h.2) refl)),
)
  where
    g : A × ℕ → Unit {0} → Read A
    g p done = Ok p.0

    f : A × ℕ → Read A
    f p = end p.1 >>= g p

-- a value with the place behind it, and another value from there
pub means-pair-after : {A B : Type 0} (r : Read (A × ℕ)) (s : ℕ → Read B) (P : A × ℕ → Type 0) (Q : ℕ → B → Type 0)
    → Means r P → ((place : ℕ) → Means (s place) (Q place))
    → Means (r >>= (λ p. s p.1 >>= (λ b. Ok (p.0, b)))) (λ (z : A × B). (after : ℕ) × P (z.0, after) × Q after z.1)
means-pair-after {A} {B} r s P Q hr hs z = (
  (λ e.
      let b = bound r f z e in
      let d = bound (s b.0.1) (g b.0) z b.2 in
      let same = given {A = A × B} (b.0.0, d.0) z d.2 in
      subst (λ (x : A × B). (after : ℕ) × P (x.0, after) × Q after x.1) (sym same) (b.0.1, (hr b.0).0 b.1, (hs b.0.1 d.0).0 d.1)),
  (λ h. bind r f (z.0, h.0) (Ok z) ((hr (z.0, h.0)).1 h.1) (bind (s h.0) (g (z.0, h.0)) z.1 (Ok z) ((hs h.0 z.1).1 h.2) refl)),
)
  where
    g : A × ℕ → B → Read (A × B)
    g p b = Ok (p.0, b)

    f : A × ℕ → Read (A × B)
    f p = s p.1 >>= g p

-- a value, and another that doesn't hang on it
pub means-pair : {A B : Type 0} (r : Read A) (s : Read B) (P : A → Type 0) (Q : B → Type 0)
    → Means r P → Means s Q → Means (r >>= (λ a. s >>= (λ b. Ok (a, b)))) (λ (z : A × B). P z.0 × Q z.1)
means-pair {A} {B} r s P Q hr hs z = (
  (λ e.
      let b = bound r f z e in
      let d = bound s (g b.0) z b.2 in
      let same = given {A = A × B} (b.0, d.0) z d.2 in
      subst (λ (x : A × B). P x.0 × Q x.1) (sym same) ((hr b.0).0 b.1, (hs d.0).0 d.1)),
  (λ h. bind r f z.0 (Ok z) ((hr z.0).1 h.0) (bind s (g z.0) z.1 (Ok z) ((hs z.1).1 h.1) refl)),
)
  where
    g : A → B → Read (A × B)
    g a b = Ok (a, b)

    f : A → Read (A × B)
    f a = s >>= g a

-- a value, and a step that gives nothing
pub means-ended : {A : Type 0} (r : Read A) (end : Read (Unit {0})) (P : A → Type 0) (E : Type 0)
    → Means r P → Means end (λ (u : Unit {0}). E) → Means (r >>= (λ a. end >>= (λ done. Ok a))) (λ (a : A). P a × E)
means-ended {A} r end P E hr he a = (
  (λ e.
      let b = bound r f a e in
      let d = bound end (g b.0) a b.2 in
      let same = given b.0 a d.2 in
      (subst P (sym same) ((hr b.0).0 b.1), (he d.0).0 d.1)),
  (λ h. bind r f a (Ok a) ((hr a).1 h.0) (bind end (g a) tt (Ok a) ((he tt).1 h.1) refl)),
)
  where
    g : A → Unit {0} → Read A
    g a done = Ok a

    f : A → Read A
    f a = end >>= g a
