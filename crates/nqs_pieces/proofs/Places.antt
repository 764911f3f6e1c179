-- Where a piece's message stands among those gathered.
use Rattle.std.proofs.Common.{◌≡◌, ℕ, zero, suc, ◌≤◌, true, false, not, List, [], ◌∷◌, ◌++◌, length, drop, refl, sym, ap, ◌∙◌, inl, inr, arith}
use Rattle.std.proofs.lemmas.Bool.{cases_Bool, cond-true, cond-false, or_parts, or_from, or_cases, both_ways, not_from_true, not_from_false}
use Rattle.nqs_pieces.specs.declared.piece.Piece.{Piece}
use Rattle.nqs_pieces.specs.declared.piece.MessageKey.{MessageKey}
use Rattle.nqs_pieces.specs.declared.gather.Gathered.{Gathered}
use Rattle.nqs_pieces.specs.Gathering.{key_of, same_key, begun, with_piece, is_of, grown, placed, forgotten}
use Rattle.nqs_pieces.specs.Feeds.{is_awaited}

-- ---- one step of each definition

pub grown-is : (q : Piece) (m : Gathered) (ms : List Gathered) → is_of q m ≡ true → grown q (m ∷ ms) ≡ with_piece q m
unfolding grown
grown-is q m ms e = cond-true (is_of q m) (with_piece q m) (grown q ms) e

pub grown-not : (q : Piece) (m : Gathered) (ms : List Gathered) → is_of q m ≡ false → grown q (m ∷ ms) ≡ grown q ms
unfolding grown
grown-not q m ms e = cond-false (is_of q m) (with_piece q m) (grown q ms) e

pub placed-is : (q : Piece) (m : Gathered) (ms : List Gathered) → is_of q m ≡ true → placed q (m ∷ ms) ≡ with_piece q m ∷ ms
unfolding placed
placed-is q m ms e = cond-true (is_of q m) (with_piece q m ∷ ms) (m ∷ placed q ms) e

pub placed-not : (q : Piece) (m : Gathered) (ms : List Gathered) → is_of q m ≡ false → placed q (m ∷ ms) ≡ m ∷ placed q ms
unfolding placed
placed-not q m ms e = cond-false (is_of q m) (with_piece q m ∷ ms) (m ∷ placed q ms) e

pub forgotten-is : (q : Piece) (m : Gathered) (ms : List Gathered) → is_of q m ≡ true → forgotten q (m ∷ ms) ≡ forgotten q ms
unfolding forgotten
forgotten-is q m ms e = cond-false (not (is_of q m)) (m ∷ forgotten q ms) (forgotten q ms) (not_from_true (is_of q m) e)

pub forgotten-not : (q : Piece) (m : Gathered) (ms : List Gathered) → is_of q m ≡ false → forgotten q (m ∷ ms) ≡ m ∷ forgotten q ms
unfolding forgotten
forgotten-not q m ms e = cond-true (not (is_of q m)) (m ∷ forgotten q ms) (forgotten q ms) (not_from_false (is_of q m) e)

-- ---- a piece whose key is at a place, or nowhere

pub grown_at : (q : Piece) (front : List Gathered) (m : Gathered) (behind : List Gathered)
    → is_awaited (key_of q) front ≡ false → is_of q m ≡ true → grown q (front ++ m ∷ behind) ≡ with_piece q m
grown_at q [] m behind apart e = grown-is q m behind e
grown_at q (x ∷ front) m behind apart e =
    let two = or_parts (is_of q x) (is_awaited (key_of q) front) apart in
    grown-not q x (front ++ m ∷ behind) two.0 ∙ grown_at q front m behind two.1 e

pub placed_at : (q : Piece) (front : List Gathered) (m : Gathered) (behind : List Gathered)
    → is_awaited (key_of q) front ≡ false → is_of q m ≡ true → placed q (front ++ m ∷ behind) ≡ front ++ with_piece q m ∷ behind
placed_at q [] m behind apart e = placed-is q m behind e
placed_at q (x ∷ front) m behind apart e =
    let two = or_parts (is_of q x) (is_awaited (key_of q) front) apart in
    placed-not q x (front ++ m ∷ behind) two.0 ∙ ap (λ rest. x ∷ rest) (placed_at q front m behind two.1 e)

pub grown_new : (q : Piece) (ms : List Gathered) → is_awaited (key_of q) ms ≡ false → grown q ms ≡ with_piece q (begun q)
unfolding grown
grown_new q [] apart = refl
grown_new q (x ∷ ms) apart =
    let two = or_parts (is_of q x) (is_awaited (key_of q) ms) apart in
    grown-not q x ms two.0 ∙ grown_new q ms two.1

pub placed_new : (q : Piece) (ms : List Gathered) → is_awaited (key_of q) ms ≡ false → placed q ms ≡ ms ++ with_piece q (begun q) ∷ []
unfolding placed
placed_new q [] apart = refl
placed_new q (x ∷ ms) apart =
    let two = or_parts (is_of q x) (is_awaited (key_of q) ms) apart in
    placed-not q x ms two.0 ∙ ap (λ rest. x ∷ rest) (placed_new q ms two.1)

-- ---- a piece of another key than a message's

pub placed_front : (q : Piece) (front rest : List Gathered) → is_awaited (key_of q) front ≡ true → placed q (front ++ rest) ≡ placed q front ++ rest
placed_front q [] rest there = absurd (both_ways false refl there)
placed_front q (x ∷ front) rest there =
    elim (cases_Bool (is_of q x)) [
      | inl so ↦ placed-is q x (front ++ rest) so ∙ ap (λ all. all ++ rest) (sym (placed-is q x front so))
      | inr isnt ↦
          let later : is_awaited (key_of q) front ≡ true =
          elim (or_cases (is_of q x) (is_awaited (key_of q) front) there) [ inl so ↦ absurd (both_ways (is_of q x) isnt so) | inr later ↦ later ] in
          placed-not q x (front ++ rest) isnt
          ∙ ap (λ all. x ∷ all) (placed_front q front rest later)
          ∙ ap (λ all. all ++ rest) (sym (placed-not q x front isnt))
    ]

pub placed_behind : (q : Piece) (front : List Gathered) (m : Gathered) (behind : List Gathered)
    → is_awaited (key_of q) front ≡ false → is_of q m ≡ false → placed q (front ++ m ∷ behind) ≡ front ++ m ∷ placed q behind
placed_behind q [] m behind apart e = placed-not q m behind e
placed_behind q (x ∷ front) m behind apart e =
    let two = or_parts (is_of q x) (is_awaited (key_of q) front) apart in
    placed-not q x (front ++ m ∷ behind) two.0 ∙ ap (λ rest. x ∷ rest) (placed_behind q front m behind two.1 e)

pub forgotten_around : (q : Piece) (front : List Gathered) (m : Gathered) (behind : List Gathered)
    → is_of q m ≡ false → forgotten q (front ++ m ∷ behind) ≡ forgotten q front ++ m ∷ forgotten q behind
unfolding forgotten
forgotten_around q [] m behind e = forgotten-not q m behind e
forgotten_around q (x ∷ front) m behind e =
    elim (cases_Bool (is_of q x)) [
      | inl so ↦
          forgotten-is q x (front ++ m ∷ behind) so ∙ forgotten_around q front m behind e
          ∙ ap (λ all. all ++ m ∷ forgotten q behind) (sym (forgotten-is q x front so))
      | inr isnt ↦
          forgotten-not q x (front ++ m ∷ behind) isnt ∙ ap (λ rest. x ∷ rest) (forgotten_around q front m behind e)
          ∙ ap (λ all. all ++ m ∷ forgotten q behind) (sym (forgotten-not q x front isnt))
    ]

-- ---- a key that isn't awaited is so after a piece of another

pub apart_placed : (k : MessageKey) (q : Piece) (ms : List Gathered) → same_key (key_of q) k ≡ false
    → is_awaited k ms ≡ false → is_awaited k (placed q ms) ≡ false
unfolding placed
apart_placed k q [] other apart = or_from (same_key (key_of q) k) false other refl
apart_placed k q (x ∷ ms) other apart =
    let two = or_parts (same_key x.key k) (is_awaited k ms) apart in
    elim (cases_Bool (is_of q x)) [
      | inl so ↦ ap (is_awaited k) (placed-is q x ms so) ∙ or_from (same_key (key_of q) k) (is_awaited k ms) other two.1
      | inr isnt ↦ ap (is_awaited k) (placed-not q x ms isnt) ∙ or_from (same_key x.key k) (is_awaited k (placed q ms)) two.0 (apart_placed k q ms other two.1)
    ]

pub apart_forgotten : (k : MessageKey) (q : Piece) (ms : List Gathered) → is_awaited k ms ≡ false → is_awaited k (forgotten q ms) ≡ false
unfolding forgotten
apart_forgotten k q [] apart = refl
apart_forgotten k q (x ∷ ms) apart =
    let two = or_parts (same_key x.key k) (is_awaited k ms) apart in
    elim (cases_Bool (is_of q x)) [
      | inl so ↦ ap (is_awaited k) (forgotten-is q x ms so) ∙ apart_forgotten k q ms two.1
      | inr isnt ↦ ap (is_awaited k) (forgotten-not q x ms isnt) ∙ or_from (same_key x.key k) (is_awaited k (forgotten q ms)) two.0
          (apart_forgotten k q ms two.1)
    ]

-- a key that was forgotten isn't awaited
pub gone_forgotten : (q : Piece) (ms : List Gathered) → is_awaited (key_of q) (forgotten q ms) ≡ false
unfolding forgotten
gone_forgotten q [] = refl
gone_forgotten q (x ∷ ms) =
    elim (cases_Bool (is_of q x)) [
      | inl so ↦ ap (is_awaited (key_of q)) (forgotten-is q x ms so) ∙ gone_forgotten q ms
      | inr isnt ↦ ap (is_awaited (key_of q)) (forgotten-not q x ms isnt)
          ∙ or_from (is_of q x) (is_awaited (key_of q) (forgotten q ms)) isnt (gone_forgotten q ms)
    ]

pub apart_drop : (k : MessageKey) (n : ℕ) (ms : List Gathered) → is_awaited k ms ≡ false → is_awaited k (drop n ms) ≡ false
apart_drop k zero ms apart = apart
apart_drop k (suc n) [] apart = refl
apart_drop k (suc n) (x ∷ ms) apart = apart_drop k n ms (or_parts (same_key x.key k) (is_awaited k ms) apart).1

pub length-forgotten : (q : Piece) (ms : List Gathered) → length (forgotten q ms) ≤ length ms
unfolding forgotten
length-forgotten q [] = omega arith
length-forgotten q (x ∷ ms) =
    elim (cases_Bool (is_of q x)) [
      | inl so ↦ omega (arith, ap length (forgotten-is q x ms so), length-forgotten q ms)
      | inr isnt ↦ omega (arith, ap length (forgotten-not q x ms isnt), length-forgotten q ms)
    ]
