-- Bytes are read in one way.
use Rattle.std.proofs.Common.{◌≡◌, ℕ, suc, ◌+◌, List, [], ◌∷◌, ◌++◌, length, get_or, Ok, Err, refl, sym, subst, ap, ◌∙◌, ◌⊎◌, inl, inr, append_assoc, arith}
use Rattle.std.specs.List.{flat_map}
use Rattle.std.proofs.lemmas.List.{length-append, get_or_at}
use Rattle.nqs_base.proofs.Readings.{bound, never}
use Rattle.nqs_schedule.specs.declared.cause.Cause.{Cause}
use Rattle.nqs_schedule.specs.declared.cause.Cause.TheVariants as cause
use Rattle.nqs_schedule.specs.declared.line.Says.{Says}
use Rattle.nqs_schedule.specs.Words.{Read}
use Rattle.nqs_schedule.specs.Says.{line_says}
use Rattle.nqs_schedule.specs.Schedule.{State, start, after, lines_say, ended, IsLine, AreLines, Front, BeginsBad, IsSchedule, IsFirstBad}

-- the first line feed parts a list in one way
parts_once : (l m x y : List ℕ) → IsLine l → IsLine m → l ++ 10 ∷ x ≡ m ++ 10 ∷ y → (l ≡ m) × (x ≡ y)
parts_once [] [] x y h k e = (refl, cc)
parts_once [] (b ∷ m) x y h k e = let here : b ≡ 10 = cc in absurd (k 0 0 (omega arith) here)
parts_once (a ∷ l) [] x y h k e = let here : a ≡ 10 = cc in absurd (h 0 0 (omega arith) here)
parts_once (a ∷ l) (b ∷ m) x y h k e =
    let head : a ≡ b = cc in
    let tail : l ++ 10 ∷ x ≡ m ++ 10 ∷ y = cc in
    let rest = parts_once l m x y (λ i d lt. h (suc i) d (omega arith)) (λ i d lt. k (suc i) d (omega arith)) tail in
    (cc (head, rest.0), rest.1)

line_parts : (l m x y : List ℕ) → IsLine l → IsLine m → ended l ++ x ≡ ended m ++ y → (l ≡ m) × (x ≡ y)
line_parts l m x y h k e = parts_once l m x y h k (sym (append_assoc l (10 ∷ []) x) ∙ e ∙ append_assoc m (10 ∷ []) y)

one_state : (s t : State) → ◌≡◌ {A = Read State} (Ok s) (Ok t) → s ≡ t
one_state s t e = cc

one_said : (r : Read Says) (x y : Says) → r ≡ Ok x → r ≡ Ok y → x ≡ y
one_said r x y a b = let same : ◌≡◌ {A = Read Says} (Ok x) (Ok y) = sym a ∙ b in cc

one_why : (r : Read Says) (x y : Cause) → r ≡ Err x → r ≡ Err y → x ≡ y
one_why r x y a b = let same : ◌≡◌ {A = Read Says} (Err x) (Err y) = sym a ∙ b in cc

-- a rest that has a line feed is no line
no_feed : (l x rest : List ℕ) → rest ≡ ended l ++ x → IsLine rest → ⊥
no_feed l x rest split is =
    let whole : rest ≡ l ++ 10 ∷ x = split ∙ append_assoc l (10 ∷ []) x in
    is (length l) 0 (omega (arith, ap length whole, length-append l (10 ∷ x)))
    (ap (λ (r : List ℕ). get_or r (length l) 0) whole ∙ get_or_at l 10 x 0 (length l) refl)

not_empty : (l x rest : List ℕ) → rest ≡ ended l ++ x → rest ≡ [] → ⊥
not_empty l x rest split none = absurd (omega (arith, ap length (sym none ∙ split), length-append (ended l) x, length-append l (10 ∷ [])))

abbrev IsEnd : State → List ℕ → Type 0
IsEnd s rest = (rest ≡ []) ⊎ ((why : Cause) × BeginsBad s rest why)

-- where lines end, no good line begins
no_line : (s : State) (l x rest : List ℕ) (says : Says) → IsLine l → line_says s.site s.is_open l ≡ Ok says → rest ≡ ended l ++ x → IsEnd s rest → ⊥
no_line s l x rest says is good split (inl none) = not_empty l x rest split none
no_line s l x rest says is good split (inr (why, inl bad)) =
    let parts = line_parts l bad.0 x bad.1 is bad.3 (sym split ∙ bad.2) in
    never (line_says s.site s.is_open l) says why good (ap (line_says s.site s.is_open) parts.0 ∙ bad.4)
no_line s l x rest says is good split (inr (why, inr last)) = no_feed l x rest split last.2

same_front : (s : State) (ls ms : List (List ℕ)) (t u : State) (r q : List ℕ) → AreLines ls → AreLines ms → lines_say s ls ≡ Ok t → lines_say s ms ≡ Ok u
    → IsEnd t r → IsEnd u q
    → flat_map ended ls ++ r ≡ flat_map ended ms ++ q → (ls ≡ ms) × (t ≡ u) × (r ≡ q)
unfolding lines_say
same_front s [] [] t u r q h k a b x y e = (refl, one_state t u (sym a ∙ b), e)
same_front s [] (m ∷ ms) t u r q h k a b x y e =
    let d = bound (line_says s.site s.is_open m) (λ w. lines_say (after s w) ms) u b in
    let at : IsEnd s r = subst (λ (z : State). IsEnd z r) (sym (one_state s t a)) x in
    absurd (no_line s m (flat_map ended ms ++ q) r d.0 k.0 d.1 (e ∙ append_assoc (ended m) (flat_map ended ms) q) at)
same_front s (l ∷ ls) [] t u r q h k a b x y e =
    let d = bound (line_says s.site s.is_open l) (λ w. lines_say (after s w) ls) t a in
    let at : IsEnd s q = subst (λ (z : State). IsEnd z q) (sym (one_state s u b)) y in
    absurd (no_line s l (flat_map ended ls ++ r) q d.0 h.0 d.1 (sym e ∙ append_assoc (ended l) (flat_map ended ls) r) at)
same_front s (l ∷ ls) (m ∷ ms) t u r q h k a b x y e =
    let parts = line_parts l m (flat_map ended ls ++ r) (flat_map ended ms ++ q) h.0 k.0
    (sym (append_assoc (ended l) (flat_map ended ls) r) ∙ e ∙ append_assoc (ended m) (flat_map ended ms) q) in
    let c = bound (line_says s.site s.is_open l) (λ w. lines_say (after s w) ls) t a in
    let d = bound (line_says s.site s.is_open m) (λ w. lines_say (after s w) ms) u b in
    let said = one_said (line_says s.site s.is_open l) c.0 d.0 c.1 (ap (line_says s.site s.is_open) parts.0 ∙ d.1) in
    let goes : lines_say (after s c.0) ms ≡ Ok u = ap (λ (w : Says). lines_say (after s w) ms) said ∙ d.2 in
    let others = same_front (after s c.0) ls ms t u r q h.1 k.1 c.2 goes x y parts.1 in
    (cc (parts.0, others.0), others.1, others.2)

same_bytes : (bytes : List ℕ) (ls ms : List (List ℕ)) (t u : State) (r q : List ℕ) → Front bytes ls t r → Front bytes ms u q → IsEnd t r → IsEnd u q
    → (ls ≡ ms) × (t ≡ u) × (r ≡ q)
same_bytes bytes ls ms t u r q f g x y = same_front start ls ms t u r q f.whole g.whole f.say g.say x y (sym f.split ∙ g.split)

pub one_schedule : (bytes : List ℕ) (one other : State) → IsSchedule bytes one → IsSchedule bytes other → one ≡ other
one_schedule bytes one other a b = (same_bytes bytes a.0 b.0 one other [] [] a.1 b.1 (inl refl) (inl refl)).1

some_bad : (s : State) (rest : List ℕ) (why : Cause) → BeginsBad s rest why → rest ≡ [] → ⊥
some_bad s rest why (inl bad) none = not_empty bad.0 bad.1 rest bad.2 none
some_bad s rest why (inr last) none = last.1 none

pub good_or_bad : (bytes : List ℕ) (state : State) (number : ℕ) (why : Cause) → IsSchedule bytes state → IsFirstBad bytes number why → ⊥
good_or_bad bytes state number why a b =
    let same = same_bytes bytes a.0 b.0 state b.1 [] b.2 a.1 b.3 (inl refl) (inr (why, b.4)) in
    some_bad b.1 b.2 why b.4 (sym same.2)

one_cause : (s : State) (rest : List ℕ) (c d : Cause) → BeginsBad s rest c → BeginsBad s rest d → c ≡ d
one_cause s rest c d (inl a) (inl b) =
    let parts = line_parts a.0 b.0 a.1 b.1 a.3 b.3 (sym a.2 ∙ b.2) in
    one_why (line_says s.site s.is_open a.0) c d a.4 (ap (line_says s.site s.is_open) parts.0 ∙ b.4)
one_cause s rest c d (inl a) (inr b) = absurd (no_feed a.0 a.1 rest a.2 b.2)
one_cause s rest c d (inr a) (inl b) = absurd (no_feed b.0 b.1 rest b.2 a.2)
one_cause s rest c d (inr a) (inr b) = a.0 ∙ sym b.0

pub one_fault : (bytes : List ℕ) (one other : ℕ) (why because : Cause) → IsFirstBad bytes one why → IsFirstBad bytes other because
    → (one ≡ other) × (why ≡ because)
one_fault bytes one other why because a b =
    let same = same_bytes bytes a.0 b.0 a.1 b.1 a.2 b.2 a.3 b.3 (inr (why, a.4)) (inr (because, b.4)) in
    let there : BeginsBad b.1 b.2 why = subst (λ (r : List ℕ). BeginsBad b.1 r why) same.2 (subst (λ (z : State). BeginsBad z a.2 why) same.1 a.4) in
    (a.5 ∙ ap (λ (ls : List (List ℕ)). length ls + 1) same.0 ∙ sym b.5, one_cause b.1 b.2 why because there b.4)
