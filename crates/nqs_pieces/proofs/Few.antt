-- Messages of few keys are few.
use Rattle.std.proofs.Common.{◌≡◌, ◌<◌, ◌≤◌, true, false, if◌then◌else◌, List, [], ◌∷◌, length, refl, sym, ap, ◌∙◌, subst, inl, inr, arith}
use Rattle.std.proofs.lemmas.Bool.{cases_Bool, cond-true, cond-false, or_parts, or_left, or_right, or_cases, both_ways}
use Rattle.nqs_pieces.specs.declared.piece.Piece.{Piece}
use Rattle.nqs_pieces.specs.declared.piece.MessageKey.{MessageKey}
use Rattle.nqs_pieces.specs.declared.gather.Gathered.{Gathered}
use Rattle.nqs_pieces.specs.Gathering.{key_of, same_key, is_of, placed, forgotten}
use Rattle.nqs_pieces.specs.Feeds.{is_awaited, is_among}
use Rattle.nqs_pieces.proofs.KeyLaws.{same_key-true, same_key-other, same_key-along}
use Rattle.nqs_pieces.proofs.Places.{placed-is, placed-not, forgotten-is, forgotten-not, apart_placed, apart_forgotten}

-- messages of these keys, each once
abbrev pub Few : List MessageKey → List Gathered → Type 0
Few keys [] = Unit {0}
Few keys (m ∷ ms) = (is_among m.key keys ≡ true) × (is_awaited m.key ms ≡ false) × Few keys ms

-- keys without one
unfoldable without : MessageKey → List MessageKey → List MessageKey
without k [] = []
without k (x ∷ keys) = if same_key x k then without k keys else x ∷ without k keys

without-is : (k x : MessageKey) (keys : List MessageKey) → same_key x k ≡ true → without k (x ∷ keys) ≡ without k keys
unfolding without
without-is k x keys e = cond-true (same_key x k) (without k keys) (x ∷ without k keys) e

without-not : (k x : MessageKey) (keys : List MessageKey) → same_key x k ≡ false → without k (x ∷ keys) ≡ x ∷ without k keys
unfolding without
without-not k x keys e = cond-false (same_key x k) (without k keys) (x ∷ without k keys) e

-- another key stays among them
among_without : (k other : MessageKey) (keys : List MessageKey) → same_key other k ≡ false → is_among other keys ≡ true
    → is_among other (without k keys) ≡ true
among_without k other [] apart there = absurd (both_ways false refl there)
among_without k other (x ∷ keys) apart there =
    elim (cases_Bool (same_key x k)) [
      | inl so ↦
          let differs : same_key x other ≡ false = same_key-along x k other so ∙ same_key-other other k apart in
          let later : is_among other keys ≡ true =
          elim (or_cases (same_key x other) (is_among other keys) there) [ inl is ↦ absurd (both_ways (same_key x other) differs is) | inr later ↦ later ] in
          ap (is_among other) (without-is k x keys so) ∙ among_without k other keys apart later
      | inr isnt ↦
          ap (is_among other) (without-not k x keys isnt)
          ∙ elim (or_cases (same_key x other) (is_among other keys) there) [
            | inl is ↦ or_left (same_key x other) (is_among other (without k keys)) is
            | inr later ↦ or_right (same_key x other) (is_among other (without k keys)) (among_without k other keys apart later)
          ]
    ]

length-without : (k : MessageKey) (keys : List MessageKey) → length (without k keys) ≤ length keys
unfolding without
length-without k [] = omega arith
length-without k (x ∷ keys) =
    elim (cases_Bool (same_key x k)) [
      | inl so ↦ omega (arith, ap length (without-is k x keys so), length-without k keys)
      | inr isnt ↦ omega (arith, ap length (without-not k x keys isnt), length-without k keys)
    ]

-- one that is among them makes them fewer
shorter_without : (k : MessageKey) (keys : List MessageKey) → is_among k keys ≡ true → length (without k keys) < length keys
shorter_without k [] there = absurd (both_ways false refl there)
shorter_without k (x ∷ keys) there =
    elim (cases_Bool (same_key x k)) [
      | inl so ↦ omega (arith, ap length (without-is k x keys so), length-without k keys)
      | inr isnt ↦
          elim (or_cases (same_key x k) (is_among k keys) there) [
            | inl so ↦ absurd (both_ways (same_key x k) isnt so)
            | inr later ↦ omega (arith, ap length (without-not k x keys isnt), shorter_without k keys later)
          ]
    ]

few_without : (k : MessageKey) (keys : List MessageKey) (ms : List Gathered) → is_awaited k ms ≡ false → Few keys ms → Few (without k keys) ms
few_without k keys [] apart few = tt
few_without k keys (m ∷ ms) apart few =
    let two = or_parts (same_key m.key k) (is_awaited k ms) apart in
    (among_without k m.key keys two.0 few.0, few.1, few_without k keys ms two.1 few.2)

-- there are no more messages than keys
pub few_length : (keys : List MessageKey) (ms : List Gathered) → Few keys ms → length ms ≤ length keys
few_length keys [] few = omega arith
few_length keys (m ∷ ms) few =
    omega (arith, few_length (without m.key keys) ms (few_without m.key keys ms few.1 few.2), shorter_without m.key keys few.0)

-- a piece of one of these keys keeps them few
pub few_placed : (q : Piece) (keys : List MessageKey) (ms : List Gathered) → is_among (key_of q) keys ≡ true → Few keys ms → Few keys (placed q ms)
unfolding placed
few_placed q keys [] there few = (there, refl, tt)
few_placed q keys (m ∷ ms) there few =
    elim (cases_Bool (is_of q m)) [
      | inl so ↦
          let one : m.key ≡ key_of q = same_key-true m.key (key_of q) so in
          let apart : is_awaited (key_of q) ms ≡ false = ap (λ k. is_awaited k ms) (sym one) ∙ few.1 in
          subst (Few keys) (sym (placed-is q m ms so)) (there, apart, few.2)
      | inr isnt ↦
          subst (Few keys) (sym (placed-not q m ms isnt))
          (few.0, apart_placed m.key q ms (same_key-other m.key (key_of q) isnt) few.1, few_placed q keys ms there few.2)
    ]

pub few_forgotten : (q : Piece) (keys : List MessageKey) (ms : List Gathered) → Few keys ms → Few keys (forgotten q ms)
unfolding forgotten
few_forgotten q keys [] few = tt
few_forgotten q keys (m ∷ ms) few =
    elim (cases_Bool (is_of q m)) [
      | inl so ↦ subst (Few keys) (sym (forgotten-is q m ms so)) (few_forgotten q keys ms few.2)
      | inr isnt ↦
          subst (Few keys) (sym (forgotten-not q m ms isnt))
          (few.0, apart_forgotten m.key q ms few.1, few_forgotten q keys ms few.2)
    ]
