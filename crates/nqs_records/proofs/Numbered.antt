-- Values behind a number that says which kind they are of.
use Rattle.std.proofs.Common.{◌≡◌, ℕ, zero, suc, ◌+◌, List, [], ◌∷◌, ◌++◌, sym, ap, ◌∙◌, subst, arith}
use Rattle.std.proofs.Common.{Ok}
use Rattle.std.specs.Prelude.{⊤}
use Rattle.nqs_base.proofs.Readings.{given, bound}
use Rattle.nqs_codec.specs.Fields.{u8_field}
use Rattle.nqs_codec.specs.Takes.{Stands}
use Rattle.nqs_records.specs.Reading.{Read, Reading, mapped, nth_of, numbered}
use Rattle.nqs_records.specs.Changes.{AreBytes}
use Rattle.nqs_records.proofs.IsRead.{IsRead}

-- behind the number the rest of the value's spelling stands
pub record IsOfKind {A : Type 0} (IsValue : A → Type 0) (spelling : A → List ℕ) (k : ℕ) (bytes : List ℕ) (place : ℕ) (value : A) (next : ℕ) : Type 0 where
  pub is_value : IsValue value
  pub args : List ℕ
  pub spelled : spelling value ≡ u8_field k ++ args
  pub stands : Stands bytes place args next

-- what this reading finds is of that kind
abbrev pub Finds : {A : Type 0} → (A → Type 0) → (A → List ℕ) → ℕ → Reading A → Type 0
Finds {A} IsValue spelling k reading = (bytes : List ℕ) (place : ℕ) (value : A) (next : ℕ) → AreBytes bytes → reading bytes place ≡ Ok (value, next)
    → IsOfKind IsValue spelling k bytes place value next

-- and each reading of a table, from that number on
abbrev pub AllFind : {A : Type 0} → (A → Type 0) → (A → List ℕ) → ℕ → List (Reading A) → Type 0
AllFind {A} IsValue spelling k [] = ⊤
AllFind {A} IsValue spelling k (r ∷ rs) = Finds IsValue spelling k r × AllFind IsValue spelling (suc k) rs

pub same_pair : {A : Type 0} (a b : A) (m n : ℕ) → ◌≡◌ {A = Read (A × ℕ)} (Ok (a, m)) (Ok (b, n)) → (a ≡ b) × (m ≡ n)
same_pair a b m n e = let p = sym (given (a, m) (b, n) e) in (ap (λ v. v.0) p, ap (λ v. v.1) p)

pub finds : {A T : Type 0} {IsT : T → Type 0} {f : T → List ℕ} {r : Reading T} {IsValue : A → Type 0} {spelling : A → List ℕ} (k : ℕ) (make : T → A)
    → ((t : T) → IsT t → IsValue (make t)) → ((t : T) → spelling (make t) ≡ u8_field k ++ f t) → IsRead IsT f r → Finds IsValue spelling k (mapped make r)
finds {A} {T} {IsT} {f} {r} {IsValue} {spelling} k make to spelled one bytes place value next fits e =
    let t = bound (r bytes place) (λ t. Ok (make t.0, t.1)) (value, next) e in
    let here = one.found bytes place t.0.0 t.0.1 fits t.1 in
    let same = same_pair (make t.0.0) value t.0.1 next t.2 in
    record {
      is_value = subst IsValue same.0 (to t.0.0 here.0);
      args = f t.0.0;
      spelled = ap spelling (sym same.0) ∙ spelled t.0.0;
      stands = subst (λ (n : ℕ). Stands bytes place (f t.0.0) n) same.1 here.1;
    }

same_number : (k n : ℕ) → n ≡ 0 + k → k ≡ n
same_number k n is = omega (arith, is)

nth_finds : {A : Type 0} (IsValue : A → Type 0) (spelling : A → List ℕ) (rs : List (Reading A)) (k i n : ℕ) (other : Reading A) → n ≡ i + k
    → ((bytes : List ℕ) (place : ℕ) (v : A × ℕ) → other bytes place ≡ Ok v → ⊥) → AllFind IsValue spelling k rs → Finds IsValue spelling n (nth_of rs i other)
nth_finds IsValue spelling [] k i n other is never all bytes place value next fits e = absurd (never bytes place (value, next) e)
nth_finds IsValue spelling (r ∷ rs) k zero n other is never all bytes place value next fits e =
    subst (λ (m : ℕ). IsOfKind IsValue spelling m bytes place value next) (same_number k n is) (all.0 bytes place value next fits e)
nth_finds IsValue spelling (r ∷ rs) k (suc i) n other is never all bytes place value next fits e =
    nth_finds IsValue spelling rs (suc k) i n other (omega (arith, is)) never all.1 bytes place value next fits e

pub numbered_finds : {A : Type 0} (IsValue : A → Type 0) (spelling : A → List ℕ) (rs : List (Reading A)) (n : ℕ) (other : Reading A)
    → ((bytes : List ℕ) (place : ℕ) (v : A × ℕ) → other bytes place ≡ Ok v → ⊥) → AllFind IsValue spelling 1 rs → Finds IsValue spelling n (numbered rs n other)
numbered_finds IsValue spelling rs zero other never all bytes place value next fits e = absurd (never bytes place (value, next) e)
numbered_finds IsValue spelling rs (suc i) other never all bytes place value next fits e =
    nth_finds IsValue spelling rs 1 i (suc i) other (omega arith) never all bytes place value next fits e
