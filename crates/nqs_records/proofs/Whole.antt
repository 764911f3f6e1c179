-- A whole list of bytes that is read as one value: it is the value's spelling, and each fault comes
-- where the bytes are so.
use Rattle.std.proofs.Common.{◌≡◌, ℕ, zero, suc, ◌+◌, ◌<◌, ◌≤◌, Bool, true, false, cond, nat_lt, List, [], ◌∷◌, ◌++◌, length, drop, refl, sym, ap, ◌∙◌, subst}
use Rattle.std.proofs.Common.{arith, append-nil, length-append, Ok, Err}
use Rattle.std.specs.Prelude.{⊤}
use Rattle.std.proofs.lemmas.Bool.{ltb-true, ltb-false, lt-ltb}
use Rattle.std.proofs.lemmas.Bool.Decides.{nat_tests}
use Rattle.std.proofs.lemmas.List.{length-drop}
use Rattle.nqs_base.proofs.Readings.{bound, bind, never, faultless}
use Rattle.nqs_base.proofs.Plain.{longer}
use Rattle.nqs_records.specs.declared.fault.RecordFault.{RecordFault}
use Rattle.nqs_records.specs.declared.fault.RecordFault.TheVariants.{Short, Kind, BadField, Trailing, Memory}
use Rattle.nqs_records.specs.Reading.{◌>>=◌, Read, Reading, alone}
use Rattle.nqs_records.specs.Changes.{AreBytes}
use Rattle.nqs_records.specs.Whole.{IsFollowed, IsCut, SpellsNoneWith}
use Rattle.nqs_records.specs.Faults.{IsFinal}
use Rattle.nqs_records.proofs.IsRead.{IsRead}
use Rattle.nqs_records.proofs.Steady.{Stays}

nothing_left : (n : ℕ) (l : List ℕ) → length l ≤ n → drop n l ≡ []
nothing_left zero [] few = refl
nothing_left zero (b ∷ bs) few = absurd (omega (arith, few))
nothing_left (suc n) [] few = refl
nothing_left (suc n) (b ∷ bs) few = nothing_left n bs (omega (arith, few))

pub not_short : (m n : ℕ) → n ≤ m → nat_lt m n ≡ false
not_short m n long = grind (arith, nat_tests)

pub both_bytes : (bytes more : List ℕ) → AreBytes bytes → AreBytes more → AreBytes (bytes ++ more)
both_bytes [] more fits others i = others i
both_bytes (b ∷ bs) more fits others zero = fits 0
both_bytes (b ∷ bs) more fits others (suc i) = both_bytes bs more (λ j. fits (suc j)) others i

-- what was read, where nothing is behind it
abbrev ended : {A : Type 0} → List ℕ → Read (A × ℕ) → Read A
ended {A} bytes r = r >>= (λ v. cond (nat_lt v.1 (length bytes)) (Err (Trailing v.1)) (Ok v.0))

-- what an answer tells of the bytes, and of the answer for more bytes
abbrev pub Tells : {A : Type 0} → (A → Type 0) → (A → List ℕ) → (ℕ → Type 0) → List ℕ → Read A → Read A → Type 0
Tells {A} IsA f IsKind bytes (Ok value) other = ⊤
Tells {A} IsA f IsKind bytes (Err (Short end)) other = end ≡ length bytes
Tells {A} IsA f IsKind bytes (Err (Kind place)) other = IsKind place × (other ≡ Err (Kind place))
Tells {A} IsA f IsKind bytes (Err (BadField place)) other = (place < length bytes) × (other ≡ Err (BadField place))
Tells {A} IsA f IsKind bytes (Err (Trailing place)) other = IsFollowed IsA f bytes place × (other ≡ Err (Trailing place))
Tells {A} IsA f IsKind bytes (Err (Memory memory)) other = ⊥

module _ {A : Type 0} {IsA : A → Type 0} {f : A → List ℕ} {r : Reading A} (one : IsRead IsA f r) where
  -- ---- the spelling

  pub alone_found : (bytes : List ℕ) (place : ℕ) (value : A) → AreBytes bytes → alone r bytes place ≡ Ok value → (drop place bytes ≡ f value) × IsA value
  alone_found bytes place value fits e =
      let v = bound (r bytes place) (λ v. cond (nat_lt v.1 (length bytes)) (Err (Trailing v.1)) (Ok v.0)) value e in
      let end = faultless (nat_lt v.0.1 (length bytes)) (Trailing v.0.1) v.0.0 value v.2 in
      let here = one.found bytes place v.0.0 v.0.1 fits v.1 in
      let left = nothing_left v.0.1 bytes (ltb-false v.0.1 (length bytes) end.0) in
      let text = here.1.text ∙ ap (λ (l : List ℕ). f v.0.0 ++ l) left ∙ append-nil (f v.0.0) in
      (text ∙ ap f end.1, subst IsA end.1 here.0)

  pub alone_taken : (bytes : List ℕ) (place : ℕ) (value : A) → AreBytes bytes → drop place bytes ≡ f value → IsA value → alone r bytes place ≡ Ok value
  alone_taken bytes place value fits is ok =
      let there = one.taken bytes [] place value fits ok (is ∙ sym (append-nil (f value))) in
      bind (r bytes place) _ _ _ there
      (rw (not_short (place + length (f value)) (length bytes) (omega (arith, ap length is, length-drop place bytes))) refl)

  -- ---- what is behind it

  alone_is : (bytes : List ℕ) (place : ℕ) (s : Read (A × ℕ)) → r bytes place ≡ s → alone r bytes place ≡ ended bytes s
  alone_is bytes place s e = ap (ended bytes) e

  past : (bytes : List ℕ) (place : ℕ) (value : A) (n : ℕ) → r bytes place ≡ Ok (value, n) → n < length bytes → alone r bytes place ≡ Err (Trailing n)
  past bytes place value n e less =
      alone_is bytes place (Ok (value, n)) e ∙ ap (λ (t : Bool). cond t (Err (Trailing n)) (Ok value)) (lt-ltb n (length bytes) less)

  pub followed_by : (bytes rest : List ℕ) (place : ℕ) (value : A) → AreBytes bytes → IsA value → drop place bytes ≡ f value ++ rest → 0 < length rest
      → alone r bytes place ≡ Err (Trailing (place + length (f value)))
  followed_by bytes rest place value fits may text some =
      past bytes place value (place + length (f value)) (one.taken bytes rest place value fits may text)
      (omega (arith, ap length text, length-drop place bytes, length-append (f value) rest, some))

  pub trailing_is : (bytes : List ℕ) (place : ℕ) → AreBytes bytes → IsFollowed IsA f bytes place → alone r bytes 0 ≡ Err (Trailing place)
  trailing_is bytes place fits is =
      let size : 0 + length (f is.value) ≡ place = omega (arith, is.is_place) in
      followed_by bytes is.rest 0 is.value fits is.may is.text is.some ∙ ap (λ (n : ℕ). Err (Trailing n)) size

  followed : (bytes : List ℕ) (value : A) (n : ℕ) → AreBytes bytes → r bytes 0 ≡ Ok (value, n) → n < length bytes → IsFollowed IsA f bytes n
  followed bytes value n fits e less =
      let here = one.found bytes 0 value n fits e in
      record {
        value = value;
        may = here.0;
        rest = drop n bytes;
        some = omega (arith, length-drop n bytes, less);
        text = here.1.text;
        is_place = omega (arith, here.1.behind);
      }

  -- ---- what an answer tells

  pub whole_tells : (IsKind : ℕ → Type 0) (bytes more : List ℕ) → AreBytes bytes → Stays bytes (r bytes 0) (r (bytes ++ more) 0)
      → Tells IsA f IsKind bytes (alone r bytes 0) (alone r (bytes ++ more) 0)
  whole_tells IsKind bytes more fits stays = by (r bytes 0) refl stays
    where
      told : (value : A) (n : ℕ) → r bytes 0 ≡ Ok (value, n) → r (bytes ++ more) 0 ≡ Ok (value, n) → (t : Bool) → nat_lt n (length bytes) ≡ t
          → Tells IsA f IsKind bytes (cond t (Err (Trailing n)) (Ok value)) (alone r (bytes ++ more) 0)
      told value n e same true is =
          let less = ltb-true n (length bytes) is in
          (followed bytes value n fits e less, past (bytes ++ more) 0 value n same (longer n bytes more less))
      told value n e same false is = tt

      named : (s : Read (A × ℕ)) → r bytes 0 ≡ s → Tells IsA f IsKind bytes (ended bytes s) (alone r (bytes ++ more) 0)
          → Tells IsA f IsKind bytes (alone r bytes 0) (alone r (bytes ++ more) 0)
      named s e t = subst (λ (x : Read A). Tells IsA f IsKind bytes x (alone r (bytes ++ more) 0)) (sym (alone_is bytes 0 s e)) t

      by : (s : Read (A × ℕ)) → r bytes 0 ≡ s → Stays bytes s (r (bytes ++ more) 0)
          → Tells IsA f IsKind bytes (alone r bytes 0) (alone r (bytes ++ more) 0)
      by (Ok v) e same = named (Ok v) e (told v.0 v.1 e same (nat_lt v.1 (length bytes)) refl)
      by (Err (Short end)) e same = named (Err (Short end)) e same
      by (Err (Kind place)) e same = absurd same
      by (Err (BadField place)) e same = named (Err (BadField place)) e (same.0, alone_is (bytes ++ more) 0 (Err (BadField place)) same.1)
      by (Err (Trailing place)) e same = absurd same
      by (Err (Memory memory)) e same = absurd same

  -- ---- the first fault

  module _ (IsKind : List ℕ → ℕ → Type 0)
      (tells : (bytes more : List ℕ) → AreBytes bytes → Tells IsA f (IsKind bytes) bytes (alone r bytes 0) (alone r (bytes ++ more) 0)) where
    pub told_by : (bytes more : List ℕ) (fault : RecordFault) → AreBytes bytes → alone r bytes 0 ≡ Err fault
        → Tells IsA f (IsKind bytes) bytes (Err fault) (alone r (bytes ++ more) 0)
    told_by bytes more fault fits e = subst (λ (x : Read A). Tells IsA f (IsKind bytes) bytes x (alone r (bytes ++ more) 0)) e (tells bytes more fits)

    still_so : (bytes more : List ℕ) (fault : RecordFault) → IsFinal fault → Tells IsA f (IsKind bytes) bytes (Err fault) (alone r (bytes ++ more) 0)
        → alone r (bytes ++ more) 0 ≡ Err fault
    still_so bytes more (Short end) final t = absurd final
    still_so bytes more (Kind place) final t = t.1
    still_so bytes more (BadField place) final t = t.1
    still_so bytes more (Trailing place) final t = t.1
    still_so bytes more (Memory memory) final t = absurd final

    -- whatever follows
    pub still : (bytes : List ℕ) → AreBytes bytes → (fault : RecordFault) → IsFinal fault → alone r bytes 0 ≡ Err fault → (more : List ℕ)
        → alone r (bytes ++ more) 0 ≡ Err fault
    still bytes fits fault final e more = still_so bytes more fault final (told_by bytes more fault fits e)

    pub none_with : (bytes : List ℕ) → AreBytes bytes → (fault : RecordFault) → IsFinal fault → alone r bytes 0 ≡ Err fault → SpellsNoneWith IsA f bytes
    none_with bytes fits fault final e more others value may text =
        never (alone r (bytes ++ more) 0) value fault (alone_taken (bytes ++ more) 0 value (both_bytes bytes more fits others) text may)
        (still bytes fits fault final e more)

    -- a value that is cut off
    pub cut_is : (bytes : List ℕ) → AreBytes bytes → IsCut IsA f bytes → alone r bytes 0 ≡ Err (Short (length bytes))
    cut_is bytes fits cut = by (alone r bytes 0) refl
      where
        longer_fits : AreBytes (bytes ++ cut.rest)
        longer_fits = both_bytes bytes cut.rest fits cut.fits

        read : alone r (bytes ++ cut.rest) 0 ≡ Ok cut.value
        read = alone_taken (bytes ++ cut.rest) 0 cut.value longer_fits cut.text cut.may

        final : (fault : RecordFault) → IsFinal fault → alone r bytes 0 ≡ Err fault → ⊥
        final fault is e = never (alone r (bytes ++ cut.rest) 0) cut.value fault read (still bytes fits fault is e cut.rest)

        by : (s : Read A) → alone r bytes 0 ≡ s → alone r bytes 0 ≡ Err (Short (length bytes))
        by (Ok value) e =
            let here = alone_found bytes 0 value fits e in
            let text = ap (λ (l : List ℕ). l ++ cut.rest) here.0 in
            absurd (never (alone r (bytes ++ cut.rest) 0) cut.value (Trailing (0 + length (f value))) read
            (followed_by (bytes ++ cut.rest) cut.rest 0 value longer_fits here.1 text cut.some))
        by (Err (Short end)) e = e ∙ ap (λ (n : ℕ). Err (Short n)) (told_by bytes [] (Short end) fits e)
        by (Err (Kind place)) e = absurd (final (Kind place) tt e)
        by (Err (BadField place)) e = absurd (final (BadField place) tt e)
        by (Err (Trailing place)) e = absurd (final (Trailing place) tt e)
        by (Err (Memory memory)) e = absurd (told_by bytes [] (Memory memory) fits e)
