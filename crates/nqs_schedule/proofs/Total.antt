-- Bytes are a schedule or have a first bad line.
use Rattle.std.proofs.Common.{◌≡◌, ◌⊎◌, inl, inr, ℕ, zero, suc, ◌+◌, ◌≤◌, List, [], ◌∷◌, ◌++◌, length, Ok, Err, Bool, true, false, ◌==◌, refl, ap, subst, arith}
use Rattle.std.specs.Prelude.{codes}
use Rattle.std.proofs.lemmas.Bool.{eqb-true}
use Rattle.std.proofs.lemmas.List.{length-append}
use Rattle.nqs_schedule.specs.declared.cause.Cause.{Cause}
use Rattle.nqs_schedule.specs.declared.cause.Cause.TheVariants as cause
use Rattle.nqs_schedule.specs.declared.line.Says.{Says}
use Rattle.nqs_schedule.specs.Words.{Read}
use Rattle.nqs_schedule.specs.Says.{line_says}
use Rattle.nqs_schedule.specs.Schedule.{State, start, after, ended, IsLine, Front, IsSchedule, IsFirstBad}
use Rattle.nqs_schedule.specs.Laws.{IsSaidOrBad}
use Rattle.nqs_schedule.proofs.Fronts.{Front-start, Front-more}

abbrev BeginsWithLine : List ℕ → Type 0
BeginsWithLine rest = (line : List ℕ) × (more : List ℕ) × (rest ≡ ended line ++ more) × IsLine line

line_more : (b : ℕ) (bs : List ℕ) → (b == 10) ≡ false → IsLine bs → IsLine (b ∷ bs)
line_more b bs is h zero d less = λ e. let no_way : (b == 10) ≡ true = rw e refl in cc
line_more b bs is h (suc i) d less = h i d (omega (arith, less))

no_line : IsLine []
no_line i d less = absurd (omega (arith, less))

-- bytes without a line feed, or a line first
first_feed : (rest : List ℕ) → IsLine rest ⊎ BeginsWithLine rest
first_feed [] = inl no_line
first_feed (b ∷ bs) = by (b == 10) refl (first_feed bs)
  where
    by : (t : Bool) → (b == 10) ≡ t → IsLine bs ⊎ BeginsWithLine bs → IsLine (b ∷ bs) ⊎ BeginsWithLine (b ∷ bs)
    by true is others = inr ([], bs, ap (λ (c : ℕ). c ∷ bs) (eqb-true b 10 is), no_line)
    by false is (inl h) = inl (line_more b bs is h)
    by false is (inr h) = inr (b ∷ h.0, h.1, ap (λ (l : List ℕ). b ∷ l) h.2, line_more b h.0 is h.3)

abbrev SaidOrBad : List ℕ → Type 0
SaidOrBad bytes = ((state : State) × IsSchedule bytes state) ⊎ ((number : ℕ) × (why : Cause) × IsFirstBad bytes number why)

whole : (bytes : List ℕ) (lines : List (List ℕ)) (state : State) (rest : List ℕ) → Front bytes lines state rest → rest ≡ [] → SaidOrBad bytes
whole bytes lines state rest front none = inl (state, (lines, subst (λ (r : List ℕ). Front bytes lines state r) none front))

go : (n : ℕ) (bytes : List ℕ) (lines : List (List ℕ)) (state : State) (rest : List ℕ) → length rest ≤ n → Front bytes lines state rest → SaidOrBad bytes
go n bytes lines state [] less front = whole bytes lines state [] front refl
go zero bytes lines state (b ∷ bs) less front = absurd (omega (arith, less))
go (suc n) bytes lines state (b ∷ bs) less front = by (go n bytes) (first_feed (b ∷ bs))
  where
    said : ((lines : List (List ℕ)) (state : State) (rest : List ℕ) → length rest ≤ n → Front bytes lines state rest → SaidOrBad bytes)
        → (h : BeginsWithLine (b ∷ bs)) → (r : Read Says) → line_says state.site state.is_open h.0 ≡ r → SaidOrBad bytes
    said others h (Ok says) is =
        others (lines ++ h.0 ∷ []) (after state says) h.1 (omega (arith, less, ap length h.2, length-append (ended h.0) h.1, length-append h.0 (10 ∷ [])))
        (Front-more bytes lines state (b ∷ bs) h.0 h.1 says front h.2 h.3 is)
    said others h (Err why) is = inr (length lines + 1, why, (lines, state, b ∷ bs, front, inl (h.0, h.1, h.2, h.3, is), refl))

    by : ((lines : List (List ℕ)) (state : State) (rest : List ℕ) → length rest ≤ n → Front bytes lines state rest → SaidOrBad bytes)
        → IsLine (b ∷ bs) ⊎ BeginsWithLine (b ∷ bs) → SaidOrBad bytes
    by others (inl h) = inr (length lines + 1, cause.Unended, (lines, state, b ∷ bs, front, inr (refl, (λ e. cc), h), refl))
    by others (inr h) = said others h (line_says state.site state.is_open h.0) refl

pub said_or_bad : IsSaidOrBad
said_or_bad bytes = go (length bytes) bytes [] start bytes (omega arith) (Front-start bytes (codes "alpha" ∷ []) [] refl refl)
