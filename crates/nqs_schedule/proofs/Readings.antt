-- Readings by their answers: of one thing, behind a test, and with one cause to refuse.
use Rattle.std.proofs.Common.{◌≡◌, ◌⊎◌, inl, inr, ◌↔◌, refl, ap, sym, ◌∙◌, Some, Option, Ok, Err}
use Rattle.nqs_base.proofs.Readings.{Reads, given, refused, bound, failed, apart, reads-bind, reads-or_fault}
use Rattle.nqs_schedule.specs.declared.cause.Cause.{Cause}
use Rattle.nqs_schedule.specs.Words.{Read, ◌>>=◌, or_fault}
use Rattle.nqs_schedule.specs.Spelled.{IsNone}

pub reads-Ok : {A : Type 0} (a : A) → Reads {E = Cause} (Ok a) (λ (b : A). b ≡ a) (λ why. ⊥)
reads-Ok {A} a = ((λ b. ((λ e. given a b e), (λ e. ap (λ (c : A). Ok c) (sym e)))), (λ why. ((λ e. apart a why e), (λ h. absurd h))))

pub reads-Err : {A : Type 0} (x : Cause) → Reads {A = A} (Err x) (λ (b : A). ⊥) (λ why. why ≡ x)
reads-Err {A} x = (
  (λ b. ((λ e. apart b x (sym e)), (λ h. absurd h))),
  (λ why.
      ((λ e. refused {A = A} x why e), (λ e. ap (λ (c : Cause). Err c) (sym e)))),
)

-- a test, and then a thing that is known
pub reads-then : {B : Type 0} (m : Read (Unit {0})) (d : B) (P : Type 0) (N : Cause → Type 0) → Reads m (λ u. P) N
    → Reads (m >>= (λ u. Ok d)) (λ (b : B). P × (b ≡ d)) N
reads-then {B} m d P N hm = (
  (λ b. (
    (λ e. let t = bound m (λ u. Ok d) b e in ((hm.0 t.0).0 t.1, given d b t.2)),
    (λ h. let is = (hm.0 tt).1 h.0 in rw is (ap (λ (c : B). Ok c) (sym h.1))),
  )),
  (λ why. ((λ e. there why (failed m (λ u. Ok d) why e)), (λ n. let is = (hm.1 why).1 n in rw is refl))),
)
  where
    there : (why : Cause) → (m ≡ Err why) ⊎ ((u : Unit {0}) × (m ≡ Ok u) × (◌≡◌ {A = Read B} (Ok d) (Err why))) → N why
    there why (inl e) = (hm.1 why).0 e
    there why (inr t) = absurd (apart d why t.2)

-- there is one cause to refuse
pub reads-one : {A : Type 0} (m : Read A) (P : A → Type 0) (c : Cause) → ((a : A) → m ≡ Ok a ↔ P a) → ((why : Cause) → m ≡ Err why → why ≡ c)
    → Reads m P (IsNone P c)
reads-one {A} m P c ok one = (ok, (λ why. ((λ e. ((λ a p. apart a why (sym ((ok a).1 p) ∙ e)), one why e)), (λ n. back why m refl n))))
  where
    back : (why : Cause) (r : Read A) → m ≡ r → IsNone P c why → m ≡ Err why
    back why (Ok a) is n = absurd (n.0 a ((ok a).0 is))
    back why (Err x) is n = is ∙ ap (λ (y : Cause). Err y) (one x is ∙ sym n.1)

pub reads-cause : {A : Type 0} (o : Option A) (P : A → Type 0) (c : Cause) → ((a : A) → o ≡ Some a ↔ P a) → Reads (or_fault o c) P (IsNone P c)
reads-cause {A} o P c some = reads-one (or_fault o c) P c
    (λ a. ((λ e. (some a).0 (((reads-or_fault o c).0 a).0 e)), (λ p. let is = (some a).1 p in rw is refl)))
    (λ why e. (((reads-or_fault o c).1 why).0 e).1)

-- the same said in other words
pub reads-same : {A : Type 0} (m : Read A) (P Q : A → Type 0) (N M : Cause → Type 0) → Reads m P N → ((a : A) → P a ↔ Q a) → ((why : Cause) → N why ↔ M why)
    → Reads m Q M
reads-same m P Q N M h p n = (
  (λ a. ((λ e. (p a).0 ((h.0 a).0 e)), (λ q. (h.0 a).1 ((p a).1 q)))),
  (λ why. ((λ e. (n why).0 ((h.1 why).0 e)), (λ k. (h.1 why).1 ((n why).1 k)))),
)

-- a test, and then a reading
pub reads-after : {B : Type 0} (m : Read (Unit {0})) (r : Read B) (P : Type 0) (N : Cause → Type 0) (Q : B → Type 0) (M : Cause → Type 0) → Reads m (λ u. P) N
    → Reads r Q M
    → Reads (m >>= (λ u. r)) (λ (b : B). P × Q b) (λ why. N why ⊎ (P × M why))
reads-after {B} m r P N Q M hm hr = reads-same (m >>= (λ u. r)) (λ b. (u : Unit {0}) × P × Q b) (λ b. P × Q b) (λ why. N why ⊎ ((u : Unit {0}) × P × M why))
    (λ why. N why ⊎ (P × M why))
    (reads-bind m (λ u. r) (λ u. P) N (λ u. Q) (λ u. M) hm (λ u. hr)) (λ b. ((λ h. (h.1, h.2)), (λ h. (tt, h.0, h.1)))) (λ why. (there why, back why))
  where
    there : (why : Cause) → N why ⊎ ((u : Unit {0}) × P × M why) → N why ⊎ (P × M why)
    there why (inl n) = inl n
    there why (inr h) = inr (h.1, h.2)

    back : (why : Cause) → N why ⊎ (P × M why) → N why ⊎ ((u : Unit {0}) × P × M why)
    back why (inl n) = inl n
    back why (inr h) = inr (tt, h.0, h.1)
