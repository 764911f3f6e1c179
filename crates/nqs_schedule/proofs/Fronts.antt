-- One line more at the end of the lines so far.
use Rattle.std.proofs.Common.{◌≡◌, inl, ℕ, ◌+◌, ◌<◌, List, [], ◌∷◌, ◌++◌, length, take, drop, get_or, Ok, Err, refl, sym, ap, ◌∙◌, append_assoc}
use Rattle.std.proofs.Common.{take-append-drop}
use Rattle.std.specs.List.{flat_map}
use Rattle.std.proofs.lemmas.List.{drop_more, flat_map_more}
use Rattle.std.specs.Prelude.{codes, true}
use Rattle.nqs_types.specs.declared.world.WorldEvent.{WorldEvent}
use Rattle.nqs_schedule.specs.declared.cause.Cause.TheVariants as cause
use Rattle.nqs_schedule.specs.declared.line.Says.{Says}
use Rattle.nqs_schedule.specs.declared.reader.ScheduleFault.{ScheduleFault}
use Rattle.nqs_schedule.specs.declared.reader.ScheduleFault.TheVariants.{Bad, Memory}
use Rattle.nqs_schedule.specs.Words.{Read, ◌>>=◌}
use Rattle.nqs_schedule.specs.Says.{line_says}
use Rattle.nqs_schedule.specs.Schedule.{State, start, after, lines_say, ended, IsLine, AreLines, Front, ReadsSchedule}
use Rattle.nqs_schedule.specs.Taking.{TakesLine}

-- the lines and one more
say-more : (s : State) (lines : List (List ℕ)) (t : State) (line : List ℕ) (says : Says) → lines_say s lines ≡ Ok t → line_says t.site t.is_open line ≡ Ok says
    → lines_say s (lines ++ line ∷ []) ≡ Ok (after t says)
unfolding lines_say
say-more s [] t line says so_far is =
    let same : s ≡ t = cc in
    rw same (rw is refl)
say-more s (l ∷ ls) t line says so_far is = by (line_says s.site s.is_open l) (λ (x : Says). say-more (after s x) ls t line says) so_far
  where
    by : (r : Read Says) → ((x : Says) → lines_say (after s x) ls ≡ Ok t → line_says t.site t.is_open line ≡ Ok says
        → lines_say (after s x) (ls ++ line ∷ []) ≡ Ok (after t says))
        → (r >>= (λ x. lines_say (after s x) ls)) ≡ Ok t → (r >>= (λ x. lines_say (after s x) (ls ++ line ∷ []))) ≡ Ok (after t says)
    by (Ok x) others h = others x h is
    by (Err e) others h = cc

whole-more : (lines : List (List ℕ)) (line : List ℕ) → AreLines lines → IsLine line → AreLines (lines ++ line ∷ [])
whole-more [] line are is = (is, tt)
whole-more (l ∷ ls) line are is = (are.0, whole-more ls line are.1 is)

pub Front-more : (bytes : List ℕ) (lines : List (List ℕ)) (state : State) (rest line more : List ℕ) (says : Says)
    → Front bytes lines state rest → rest ≡ ended line ++ more → IsLine line → line_says state.site state.is_open line ≡ Ok says
    → Front bytes (lines ++ line ∷ []) (after state says) more
Front-more bytes lines state rest line more says front split is_line has = record {
  split = front.split ∙ ap (λ (r : List ℕ). flat_map ended lines ++ r) split ∙ sym (append_assoc (flat_map ended lines) (ended line) more)
      ∙ ap (λ (l : List ℕ). l ++ more) (flat_map_more ended [] lines line);
  whole = whole-more lines line front.whole is_line;
  say = say-more start lines state line says front.say has;
}

-- the first line and what comes after it
pub first_line : (rest : List ℕ) (end : ℕ) → end < length rest → get_or rest end 0 ≡ 10 → rest ≡ ended (take end rest) ++ drop (end + 1) rest
first_line rest end inside feed =
    sym (take-append-drop end rest) ∙ ap (λ (l : List ℕ). take end rest ++ l) (drop_more rest end 0 inside ∙ ap (λ (b : ℕ). b ∷ drop (end + 1) rest) feed)
    ∙ sym (append_assoc (take end rest) (10 ∷ []) (drop (end + 1) rest))

-- a line that is refused is the first bad one
pub bad_line : (e : ScheduleFault) (bytes : List ℕ) (lines : List (List ℕ)) (state : State) (rest line more : List ℕ) (number : ℕ) (new : State)
    → Front bytes lines state rest → number ≡ length lines + 1 → rest ≡ ended line ++ more → IsLine line → TakesLine state line number (Err e) new
    → ReadsSchedule bytes (Err e)
bad_line (Bad fault) bytes lines state rest line more number new front is split is_line takes =
    (lines, state, rest, front, inl (line, more, split, is_line, takes.1), takes.0 ∙ is)
bad_line (Memory memory) bytes lines state rest line more number new front is split is_line takes = tt

-- nothing was read yet
pub Front-start : (bytes : List ℕ) (site : List (List ℕ)) (events : List WorldEvent) → site ≡ codes "alpha" ∷ [] → events ≡ []
    → Front bytes [] (record { site = site; events = events; is_open = true }) bytes
unfolding lines_say
Front-start bytes site events at none = record { split = refl; whole = tt; say = λ j. Ok (record { site = sym at j; events = sym none j; is_open = true }) }
