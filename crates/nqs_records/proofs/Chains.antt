-- Chains of readings: each keeps that what is found stands there, and that what stands there is
-- found.
use Rattle.std.proofs.Common.{◌≡◌, ℕ, zero, suc, ◌+◌, Bool, true, false, cond, IsTrue, List, [], ◌∷◌, ◌++◌, length, drop, Option, Some, None, refl, sym, ap}
use Rattle.std.proofs.Common.{◌∙◌, subst, arith, length-append, append_assoc, append-nil, Ok, Err}
use Rattle.std.specs.Prelude.{flat_map}
use Rattle.std.specs.List.{AllByRecursion}
use Rattle.nqs_base.proofs.Readings.{given, bound, bind, passed}
use Rattle.nqs_base.proofs.Plain.{rest_behind}
use Rattle.nqs_codec.specs.Fields.{bool_field}
use Rattle.nqs_codec.specs.Takes.{Stands}
use Rattle.nqs_codec.proofs.Lengths.{two_stand}
use Rattle.nqs_records.specs.Reading.{Reading, ◌>>=◌, mapped, both, within, repeated, counted, if_there}
use Rattle.nqs_records.specs.Fields.{bool_at, opt_at}
use Rattle.nqs_records.specs.Values.{IsOpt, IsList}
use Rattle.nqs_records.specs.Spelling.{opt_field}
use Rattle.nqs_records.specs.Changes.{AreBytes}
use Rattle.nqs_records.specs.declared.fault.RecordFault.TheVariants.{BadField}
use Rattle.nqs_records.proofs.IsRead.{IsRead}
use Rattle.nqs_records.proofs.Named.{bool_read}

-- what a reading found
abbrev pub Found : {A : Type 0} → (A → Type 0) → (A → List ℕ) → List ℕ → ℕ → A × ℕ → Type 0
Found {A} IsValue field bytes place p = IsValue p.0 × Stands bytes place (field p.0) p.1

longer : (place : ℕ) (p q : List ℕ) → place + length p + length q ≡ place + length (p ++ q)
longer place p q = omega (arith, length-append p q)

pub both_read : {A B : Type 0} {IsA : A → Type 0} {IsB : A → B → Type 0} {fa : A → List ℕ} {fb : A → B → List ℕ} {ra : Reading A} {rb : A → Reading B}
    → IsRead IsA fa ra → ((a : A) → IsA a → IsRead (IsB a) (fb a) (rb a)) → IsRead (λ v. IsA v.0 × IsB v.0 v.1) (λ v. fa v.0 ++ fb v.0 v.1) (both ra rb)
both_read {A} {B} {IsA} {IsB} {fa} {fb} {ra} {rb} one other = record {
  found = λ bytes place value next fits e.
      let a = bound (ra bytes place) (λ a. rb a.0 bytes a.1 >>= (λ b. Ok ((a.0, b.0), b.1))) (value, next) e in
      let b = bound (rb a.0.0 bytes a.0.1) (λ b. Ok ((a.0.0, b.0), b.1)) (value, next) a.2 in
      let here = one.found bytes place a.0.0 a.0.1 fits a.1 in
      let there = (other a.0.0 here.0).found bytes a.0.1 b.0.0 b.0.1 fits b.1 in
      subst (Found (λ (v : A × B). IsA v.0 × IsB v.0 v.1) (λ v. fa v.0 ++ fb v.0 v.1) bytes place) (sym (given ((a.0.0, b.0.0), b.0.1) (value, next) b.2))
      ((here.0, there.0), two_stand bytes place a.0.1 b.0.1 (fa a.0.0) (fb a.0.0 b.0.0) here.1 there.1);
  taken = λ bytes rest place value fits is_value is.
      let front = fa value.0 in
      let back = fb value.0 value.1 in
      let text = is ∙ append_assoc front back rest in
      let here = one.taken bytes (back ++ rest) place value.0 fits is_value.0 text in
      let behind = rest_behind bytes place front (back ++ rest) text in
      let there = (other value.0 is_value.0).taken bytes rest (place + length front) value.1 fits is_value.1 behind in
      bind (ra bytes place) _ _ _ here (bind (rb value.0 bytes (place + length front)) _ _ _ there (ap (λ (n : ℕ). Ok (value, n)) (longer place front back)));
}

-- as mapped_read, where what is made is spelled alike only of values that may stand
pub mapped_where : {A B : Type 0} {IsA : A → Type 0} {fa : A → List ℕ} {ra : Reading A} (IsB : B → Type 0) (fb : B → List ℕ) (make : A → B) (part : B → A)
    → ((b : B) → make (part b) ≡ b) → ((a : A) → IsA a → IsB (make a)) → ((b : B) → IsB b → IsA (part b)) → ((a : A) → IsA a → fb (make a) ≡ fa a)
    → IsRead IsA fa ra → IsRead IsB fb (mapped make ra)
mapped_where {A} {B} {IsA} {fa} {ra} IsB fb make part again to from spelled one = record {
  found = λ bytes place value next fits e.
      let a = bound (ra bytes place) (λ a. Ok (make a.0, a.1)) (value, next) e in
      let here = one.found bytes place a.0.0 a.0.1 fits a.1 in
      subst (Found IsB fb bytes place) (sym (given (make a.0.0, a.0.1) (value, next) a.2))
      (to a.0.0 here.0, subst (λ (l : List ℕ). Stands bytes place l a.0.1) (sym (spelled a.0.0 here.0)) here.1);
  taken = λ bytes rest place value fits is_value is.
      let same : fb value ≡ fa (part value) = ap fb (sym (again value)) ∙ spelled (part value) (from value is_value) in
      let here = one.taken bytes rest place (part value) fits (from value is_value) (is ∙ ap (λ (l : List ℕ). l ++ rest) same) in
      bind (ra bytes place) _ _ _ here (λ j. Ok (again value j, place + length (sym same j)));
}

pub mapped_read : {A B : Type 0} {IsA : A → Type 0} {fa : A → List ℕ} {ra : Reading A} (IsB : B → Type 0) (fb : B → List ℕ) (make : A → B) (part : B → A)
    → ((b : B) → make (part b) ≡ b) → ((a : A) → IsA a → IsB (make a)) → ((b : B) → IsB b → IsA (part b)) → ((a : A) → fb (make a) ≡ fa a)
    → IsRead IsA fa ra → IsRead IsB fb (mapped make ra)
mapped_read IsB fb make part again to from spelled one = mapped_where IsB fb make part again to from (λ a is. spelled a) one

pub within_read : {A : Type 0} {IsA : A → Type 0} {f : A → List ℕ} {r : Reading A} (test : A → Bool) → ((a : A) → IsTrue (test a) → IsA a) → IsRead IsA f r
    → IsRead (λ a. IsTrue (test a)) f (within test r)
within_read {A} {IsA} {f} {r} test fits_it one = record {
  found = λ bytes place value next fits e.
      let a = bound (r bytes place) (λ a. cond (test a.0) (Ok a) (Err (BadField place))) (value, next) e in
      let here = one.found bytes place a.0.0 a.0.1 fits a.1 in
      let p = passed (test a.0.0) (BadField place) a.0 (value, next) a.2 in
      subst (Found (λ (v : A). IsTrue (test v)) f bytes place) p.1 (p.0, here.1);
  taken = λ bytes rest place value fits is_value is.
      bind (r bytes place) _ _ _ (one.taken bytes rest place value fits (fits_it value is_value) is) (rw is_value refl);
}

-- nothing more behind the last field
pub last_read : {A : Type 0} {IsA : A → Type 0} {f : A → List ℕ} {r : Reading A} → IsRead IsA f r → IsRead IsA (λ a. f a ++ []) r
last_read {A} {IsA} {f} {r} one = subst (λ (g : A → List ℕ). IsRead IsA g r) (λ j a. sym (append-nil (f a)) j) one

-- ---- what may be left out

there_found : {A : Type 0} {IsA : A → Type 0} {f : A → List ℕ} {r : Reading A} → IsRead IsA f r → (bytes : List ℕ) (place : ℕ) → AreBytes bytes
    → (is_there : Bool) (start : ℕ) → Stands bytes place (bool_field is_there) start
    → (value : Option A) (next : ℕ) → if_there is_there r bytes start ≡ Ok (value, next) → Found (IsOpt IsA) (opt_field f) bytes place (value, next)
there_found {A} {IsA} {f} {r} one bytes place fits false start stands value next e =
    subst (Found (IsOpt IsA) (opt_field f) bytes place) (sym (given (None, start) (value, next) e)) (tt, stands)
there_found {A} {IsA} {f} {r} one bytes place fits true start stands value next e =
    let a = bound (r bytes start) (λ a. Ok (Some a.0, a.1)) (value, next) e in
    let here = one.found bytes start a.0.0 a.0.1 fits a.1 in
    subst (Found (IsOpt IsA) (opt_field f) bytes place) (sym (given (Some a.0.0, a.0.1) (value, next) a.2))
    (here.0, two_stand bytes place start a.0.1 (bool_field true) (f a.0.0) stands here.1)

opt_taken : {A : Type 0} {IsA : A → Type 0} {f : A → List ℕ} {r : Reading A} → IsRead IsA f r → (bytes rest : List ℕ) (place : ℕ) (value : Option A)
    → AreBytes bytes → IsOpt IsA value
    → drop place bytes ≡ opt_field f value ++ rest → opt_at r bytes place ≡ Ok (value, place + length (opt_field f value))
unfolding opt_at
opt_taken {A} {IsA} {f} {r} one bytes rest place None fits is_value is = bind (bool_at bytes place) _ _ _
    (bool_read.taken bytes rest place false fits tt is) refl
opt_taken {A} {IsA} {f} {r} one bytes rest place (Some a) fits is_value is =
    let text = is ∙ append_assoc (bool_field true) (f a) rest in
    let start = place + length (bool_field true) in
    let there = one.taken bytes rest start a fits is_value (rest_behind bytes place (bool_field true) (f a ++ rest) text) in
    bind (bool_at bytes place) _ _ _ (bool_read.taken bytes (f a ++ rest) place true fits tt text)
    (bind (r bytes start) _ _ _ there (ap (λ (n : ℕ). Ok (Some a, n)) (longer place (bool_field true) (f a))))

pub opt_read : {A : Type 0} {IsA : A → Type 0} {f : A → List ℕ} {r : Reading A} → IsRead IsA f r → IsRead (IsOpt IsA) (opt_field f) (opt_at r)
unfolding opt_at
opt_read {A} {IsA} {f} {r} one = record {
  found = λ bytes place value next fits e.
      let tag = bound (bool_at bytes place) (λ tag. if_there tag.0 r bytes tag.1) (value, next) e in
      there_found one bytes place fits tag.0.0 tag.0.1 (bool_read.found bytes place tag.0.0 tag.0.1 fits tag.1).1 value next tag.2;
  taken = λ bytes rest place value fits is_value is. opt_taken one bytes rest place value fits is_value is;
}

-- ---- lists

abbrev pub AreSo : {A : Type 0} → (A → Type 0) → ℕ → List A → Type 0
AreSo {A} IsA n l = (length l ≡ n) × AllByRecursion IsA l

repeated_found : {A : Type 0} {IsA : A → Type 0} {f : A → List ℕ} {r : Reading A} → IsRead IsA f r
    → (n : ℕ) (bytes : List ℕ) (place : ℕ) (value : List A) (next : ℕ) → AreBytes bytes
    → repeated n r bytes place ≡ Ok (value, next) → Found (AreSo IsA n) (flat_map f) bytes place (value, next)
unfolding repeated
repeated_found {A} {IsA} {f} {r} one zero bytes place value next fits e =
    subst (Found (AreSo IsA 0) (flat_map f) bytes place) (sym (given ([], place) (value, next) e)) ((refl, tt), record { text = refl; behind = omega arith })
repeated_found {A} {IsA} {f} {r} one (suc n) bytes place value next fits e =
    let x = bound (r bytes place) (λ x. repeated n r bytes x.1 >>= (λ xs. Ok (x.0 ∷ xs.0, xs.1))) (value, next) e in
    let xs = bound (repeated n r bytes x.0.1) (λ xs. Ok (x.0.0 ∷ xs.0, xs.1)) (value, next) x.2 in
    let here = one.found bytes place x.0.0 x.0.1 fits x.1 in
    let there = repeated_found one n bytes x.0.1 xs.0.0 xs.0.1 fits xs.1 in
    subst (Found (AreSo IsA (suc n)) (flat_map f) bytes place) (sym (given (x.0.0 ∷ xs.0.0, xs.0.1) (value, next) xs.2))
    ((ap (λ (k : ℕ). suc k) there.0.0, (here.0, there.0.1)), two_stand bytes place x.0.1 xs.0.1 (f x.0.0) (flat_map f xs.0.0) here.1 there.1)

repeated_taken : {A : Type 0} {IsA : A → Type 0} {f : A → List ℕ} {r : Reading A} → IsRead IsA f r → (value : List A) (bytes rest : List ℕ) (place : ℕ)
    → AreBytes bytes → AllByRecursion IsA value
    → drop place bytes ≡ flat_map f value ++ rest → repeated (length value) r bytes place ≡ Ok (value, place + length (flat_map f value))
unfolding repeated
repeated_taken {A} {IsA} {f} {r} one [] bytes rest place fits all is = ap (λ (n : ℕ). Ok ([], n)) (omega arith)
repeated_taken {A} {IsA} {f} {r} one (x ∷ xs) bytes rest place fits all is =
    let text = is ∙ append_assoc (f x) (flat_map f xs) rest in
    let start = place + length (f x) in
    let there = repeated_taken one xs bytes rest start fits all.1 (rest_behind bytes place (f x) (flat_map f xs ++ rest) text) in
    bind (r bytes place) _ _ _ (one.taken bytes (flat_map f xs ++ rest) place x fits all.0 text)
    (bind (repeated (length xs) r bytes start) _ _ _ there (ap (λ (n : ℕ). Ok (x ∷ xs, n)) (longer place (f x) (flat_map f xs))))

pub counted_read : {A : Type 0} {IsN : ℕ → Type 0} {fn : ℕ → List ℕ} {rn : Reading ℕ} {IsA : A → Type 0} {f : A → List ℕ} {r : Reading A}
    → IsRead IsN fn rn → IsRead IsA f r → IsRead (IsList IsN IsA) (λ l. fn (length l) ++ flat_map f l) (counted rn r)
counted_read {A} {IsN} {fn} {rn} {IsA} {f} {r} count one = record {
  found = λ bytes place value next fits e.
      let n = bound (rn bytes place) (λ n. repeated n.0 r bytes n.1) (value, next) e in
      let here = count.found bytes place n.0.0 n.0.1 fits n.1 in
      let there = repeated_found one n.0.0 bytes n.0.1 value next fits n.2 in (
        (subst IsN (sym there.0.0) here.0, there.0.1),
        two_stand bytes place n.0.1 next (fn (length value)) (flat_map f value)
            (subst (λ (k : ℕ). Stands bytes place (fn k) n.0.1) (sym there.0.0) here.1) there.1,
      );
  taken = λ bytes rest place value fits is_value is.
      let front = fn (length value) in
      let text = is ∙ append_assoc front (flat_map f value) rest in
      let there = repeated_taken one value bytes rest (place + length front) fits is_value.1 (rest_behind bytes place front (flat_map f value ++ rest) text) in
      bind (rn bytes place) _ _ _ (count.taken bytes (flat_map f value ++ rest) place (length value) fits is_value.0 text)
      (there ∙ ap (λ (n : ℕ). Ok (value, n)) (longer place front (flat_map f value)));
}
