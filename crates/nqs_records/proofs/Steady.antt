-- Readings whose answer stays whatever follows the bytes, unless these are short.
use Rattle.std.proofs.Common.{◌≡◌, ℕ, zero, suc, ◌<◌, Bool, true, false, cond, List, ◌∷◌, ◌++◌, length, Some, refl, sym, ap, subst, Ok, Err}
use Rattle.nqs_records.specs.declared.fault.RecordFault.TheVariants.{Short, Kind, BadField, Trailing, Memory}
use Rattle.nqs_records.specs.Reading.{◌>>=◌, Read, Reading, mapped, both, within, repeated, counted, if_there}

-- an answer that is short at the end, or the same as the other one
abbrev pub Stays : {A : Type 0} → List ℕ → Read A → Read A → Type 0
Stays {A} bytes (Ok a) other = other ≡ Ok a
Stays {A} bytes (Err (Short end)) other = end ≡ length bytes
Stays {A} bytes (Err (Kind place)) other = ⊥
Stays {A} bytes (Err (BadField place)) other = (place < length bytes) × (other ≡ Err (BadField place))
Stays {A} bytes (Err (Trailing place)) other = ⊥
Stays {A} bytes (Err (Memory memory)) other = ⊥

abbrev pub IsSteady : {A : Type 0} → Reading A → Type 0
IsSteady {A} r = (bytes more : List ℕ) (place : ℕ) → Stays bytes (r bytes place) (r (bytes ++ more) place)

-- what is read has a first byte
abbrev pub TakesSome : {A : Type 0} → Reading A → Type 0
TakesSome {A} r = (bytes : List ℕ) (place : ℕ) (v : A × ℕ) → r bytes place ≡ Ok v → place < length bytes

pub then : {A B : Type 0} (bytes : List ℕ) (r s : Read A) (f g : A → Read B)
    → Stays bytes r s → ((a : A) → r ≡ Ok a → Stays bytes (f a) (g a)) → Stays bytes (r >>= f) (s >>= g)
then bytes (Ok a) s f g one other = subst (λ (x : Read _). Stays bytes (f a) (x >>= g)) (sym one) (other a refl)
then bytes (Err (Short end)) s f g one other = one
then bytes (Err (Kind place)) s f g one other = absurd one
then bytes (Err (BadField place)) s f g one other = (one.0, ap (λ (x : Read _). x >>= g) one.1)
then bytes (Err (Trailing place)) s f g one other = absurd one
then bytes (Err (Memory memory)) s f g one other = absurd one

pub mapped_steady : {A B : Type 0} (make : A → B) (r : Reading A) → IsSteady r → IsSteady (mapped make r)
mapped_steady make r one bytes more place =
    then bytes (r bytes place) (r (bytes ++ more) place) (λ a. Ok (make a.0, a.1)) (λ a. Ok (make a.0, a.1)) (one bytes more place) (λ a is. refl)

pub both_steady : {A B : Type 0} (ra : Reading A) (rb : A → Reading B) → IsSteady ra → ((a : A) → IsSteady (rb a)) → IsSteady (both ra rb)
both_steady ra rb one other bytes more place =
    then bytes (ra bytes place) (ra (bytes ++ more) place) (λ a. rb a.0 bytes a.1 >>= (λ b. Ok ((a.0, b.0), b.1)))
    (λ a. rb a.0 (bytes ++ more) a.1 >>= (λ b. Ok ((a.0, b.0), b.1)))
    (one bytes more place)
    (λ a is. then bytes (rb a.0 bytes a.1) (rb a.0 (bytes ++ more) a.1) (λ b. Ok ((a.0, b.0), b.1)) (λ b. Ok ((a.0, b.0), b.1))
    (other a.0 bytes more a.1) (λ b is. refl))

pub passes_or_bad : {A : Type 0} (bytes : List ℕ) (place : ℕ) (t : Bool) (a : A) → place < length bytes
    → Stays bytes (cond t (Ok a) (Err (BadField place))) (cond t (Ok a) (Err (BadField place)))
passes_or_bad bytes place true a some = refl
passes_or_bad bytes place false a some = (some, refl)

pub within_steady : {A : Type 0} (test : A → Bool) (r : Reading A) → TakesSome r → IsSteady r → IsSteady (within test r)
within_steady test r some one bytes more place =
    then bytes (r bytes place) (r (bytes ++ more) place) (λ a. cond (test a.0) (Ok a) (Err (BadField place)))
    (λ a. cond (test a.0) (Ok a) (Err (BadField place)))
    (one bytes more place)
    (λ a is. passes_or_bad bytes place (test a.0) a (some bytes place a is))

pub repeated_steady : {A : Type 0} (n : ℕ) (r : Reading A) → IsSteady r → IsSteady (repeated n r)
unfolding repeated
repeated_steady zero r one bytes more place = refl
repeated_steady (suc n) r one bytes more place =
    then bytes (r bytes place) (r (bytes ++ more) place)
    (λ x. repeated n r bytes x.1 >>= (λ xs. Ok (x.0 ∷ xs.0, xs.1))) (λ x. repeated n r (bytes ++ more) x.1 >>= (λ xs. Ok (x.0 ∷ xs.0, xs.1)))
    (one bytes more place)
    (λ x is. then bytes (repeated n r bytes x.1) (repeated n r (bytes ++ more) x.1) (λ xs. Ok (x.0 ∷ xs.0, xs.1)) (λ xs. Ok (x.0 ∷ xs.0, xs.1))
    (repeated_steady n r one bytes more x.1) (λ xs is. refl))

pub counted_steady : {A : Type 0} (count : Reading ℕ) (r : Reading A) → IsSteady count → IsSteady r → IsSteady (counted count r)
counted_steady count r one other bytes more place =
    then bytes (count bytes place) (count (bytes ++ more) place) (λ n. repeated n.0 r bytes n.1) (λ n. repeated n.0 r (bytes ++ more) n.1)
    (one bytes more place) (λ n is. repeated_steady n.0 r other bytes more n.1)

pub there_steady : {A : Type 0} (t : Bool) (r : Reading A) → IsSteady r → IsSteady (if_there t r)
there_steady true r one bytes more place = mapped_steady (λ a. Some a) r one bytes more place
there_steady false r one bytes more place = refl

-- ---- tables

infixr 5 ◌⨾◌
-- what is so for the first, and for the others
abbrev pub ◌⨾◌ : {P Q : Type 0} → P → Q → P × Q
◌⨾◌ {P} {Q} p q = (p, q)
