-- Tests that hold together.
use Rattle.std.proofs.Common.{◌≡◌, ℕ, zero, suc, Bool, true, false, not, ◌&&◌, ◌||◌, List, [], ◌∷◌, slice_set, sym, ◌∙◌, true≢false}
use Rattle.std.proofs.lemmas.Bool.{and_parts, and_from}

abbrev pub Each : List Bool → Type 0
Each [] = Unit {0}
Each (b ∷ bs) = (b ≡ true) × Each bs

abbrev pub chain : Bool → List Bool → Bool
chain b [] = b
chain b (c ∷ cs) = chain (b && c) cs

pub each : (b : Bool) (cs : List Bool) → chain b cs ≡ true → Each (b ∷ cs)
each b [] h = (h, tt)
each b (c ∷ cs) h = let rest = each (b && c) cs h in let two = and_parts b c rest.0 in (two.0, (two.1, rest.1))

pub chained : (b : Bool) (cs : List Bool) → Each (b ∷ cs) → chain b cs ≡ true
chained b [] h = h.0
chained b (c ∷ cs) h = chained (b && c) cs (and_from b c h.0 h.1.0, h.1.1)

abbrev pub all_of : List Bool → Bool
all_of [] = true
all_of (b ∷ bs) = chain b bs

set_each : (bs : List Bool) (n : ℕ) {c : Bool} → c ≡ true → Each bs → Each (slice_set bs n c)
set_each [] n e h = tt
set_each (b ∷ bs) zero e h = (e, h.1)
set_each (b ∷ bs) (suc n) e h = (h.0, set_each bs n e h.1)

-- another test stands in the place of one, and holds too
pub replaced : (b : Bool) (bs : List Bool) (n : ℕ) {c : Bool} → c ≡ true → chain b bs ≡ true → all_of (slice_set (b ∷ bs) n c) ≡ true
replaced b bs zero {c = c} e h = chained c bs (e, (each b bs h).1)
replaced b bs (suc n) {c = c} e h = let p = each b bs h in chained b (slice_set bs n c) (p.0, set_each bs n e p.1)

-- a test implies another, where one of them is asked for
pub imply : (b c d : Bool) → (c ≡ true → d ≡ true) → (not b || c) ≡ true → (not b || d) ≡ true
imply true c d f h = f h
imply false c d f h = h

-- where the first holds, the second does
pub implied : (b c : Bool) → (not b || c) ≡ true → b ≡ true → c ≡ true
implied true c h e = h
implied false c h e = absurd (true≢false (sym e))

pub differ : {A : Type 0} (b : Bool) → b ≡ true → b ≡ false → A
differ b t f = absurd (true≢false (sym t ∙ f))

pub not_both : (b c : Bool) → (b ≡ true → c ≡ true → ⊥) → not (b && c) ≡ true
not_both true true h = absurd (h (λ _. true) (λ _. true))
not_both true false h = λ _. true
not_both false c h = λ _. true
