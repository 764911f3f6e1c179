-- Lines are split into the words that are written in them.
use Rattle.std.proofs.Common.{◌≡◌, ◌≢◌, ◌⊎◌, inl, inr, ℕ, zero, suc, ◌+◌, ◌-◌, ◌<◌, ◌≤◌, List, [], ◌∷◌, ◌++◌, length, take, drop, map, All, refl, ap, sym}
use Rattle.std.proofs.Common.{subst, ◌∙◌, Some, None, Bool, true, false, cond, not, ◌==◌, arith, nat_lt, slice_range}
use Rattle.std.specs.List.{position_or_len}
use Rattle.std.proofs.lemmas.Bool.{eqb-true, lt-ltb}
use Rattle.std.proofs.lemmas.Bool.Decides.{nat_tests}
use Rattle.std.proofs.lemmas.List.{append-nil, length-append, length-drop, take_at}
use Rattle.std.proofs.Math.Seq.{drop-drop}
use Rattle.nqs_base.proofs.Plain.{lt_itself, rest_behind}
use Rattle.nqs_words.specs.Quoted.{Quoted, quoted, quoted_text}
use Rattle.nqs_words.specs.Words.{is_gap, end_of, next_word}
use Rattle.nqs_words.specs.declared.words.Gaps.TheVariants.{Spaces}
use Rattle.nqs_schedule.specs.declared.words.Next.TheVariants.{End, BadQuote, Found}
use Rattle.nqs_schedule.specs.Events.{text_of_word}
use Rattle.nqs_schedule.specs.Lines.{is_over, begins_with_quote, by_quoted, quoted_word, word_there, next_of, words_from}
use Rattle.nqs_schedule.specs.Schedule.{IsLine}
use Rattle.nqs_schedule.specs.Written.{AreSpaces, BeginsPlain, IsPlain, Writes, EndsWord, BeginsWith, BeginsBadly, Holds, SplitsLines}
use Rattle.nqs_schedule.proofs.Quotes.{reads_back, was_quoted, line-drop}

-- ---- spaces in front

no_space : (b : ℕ) → b ≢ 32 → (b == 32) ≡ false
no_space b h = by (b == 32) refl
  where
    by : (t : Bool) → (b == 32) ≡ t → t ≡ false
    by true is = absurd (h (eqb-true b 32 is))
    by false is = refl

space : (b : ℕ) → b ≡ 32 → (b == 32) ≡ true
space b h = rw h refl

-- how many bytes stand in front that are no word's
abbrev front_spaces : List ℕ → ℕ
front_spaces l = position_or_len (λ b. not (is_gap Spaces b)) l

-- how many bytes stand in front that are a word's
abbrev front_word : List ℕ → ℕ
front_word l = position_or_len (is_gap Spaces) l

-- what begins with another byte than a space
abbrev BeginsWord : List ℕ → Type 0
BeginsWord l = (b : ℕ) × (bs : List ℕ) × (l ≡ b ∷ bs) × (b ≢ 32)

spaces_tail : (b : ℕ) (bs : List ℕ) → AreSpaces (b ∷ bs) → AreSpaces bs
spaces_tail b bs h = λ i d lt. h (suc i) d (omega (arith, lt))

spaces_head : (b : ℕ) (bs : List ℕ) → AreSpaces (b ∷ bs) → b ≡ 32
spaces_head b bs h = h 0 0 (omega arith)

abbrev HasNoSpace : List ℕ → Type 0
HasNoSpace text = All (λ b. b ≢ 32) text

word_tail : (b : ℕ) (bs : List ℕ) → HasNoSpace (b ∷ bs) → HasNoSpace bs
word_tail b bs h = λ i d lt. h (suc i) d (omega (arith, lt))

word_head : (b : ℕ) (bs : List ℕ) → HasNoSpace (b ∷ bs) → b ≢ 32
word_head b bs h = h 0 0 (omega arith)

all_spaces : (gap : List ℕ) → AreSpaces gap → front_spaces gap ≡ length gap
all_spaces [] h = refl
all_spaces (b ∷ bs) h = let more = all_spaces bs (spaces_tail b bs h) in rw (space b (spaces_head b bs h)) (omega (arith, more))

spaces_first : (gap l : List ℕ) → AreSpaces gap → BeginsWord l → front_spaces (gap ++ l) ≡ length gap
spaces_first [] l h w = ap front_spaces w.2 ∙ rw (no_space w.0 w.3) refl
spaces_first (b ∷ bs) l h w = let more = spaces_first bs l (spaces_tail b bs h) w in rw (space b (spaces_head b bs h)) (omega (arith, more))

all_word : (text : List ℕ) → All (λ b. b ≢ 32) text → front_word text ≡ length text
all_word [] h = refl
all_word (b ∷ bs) h = let more = all_word bs (word_tail b bs h) in rw (no_space b (word_head b bs h)) (omega (arith, more))

word_first : (text more : List ℕ) → All (λ b. b ≢ 32) text → front_word (text ++ 32 ∷ more) ≡ length text
word_first [] more h = refl
word_first (b ∷ bs) more h = let others = word_first bs more (word_tail b bs h) in rw (no_space b (word_head b bs h)) (omega (arith, others))

-- ---- the next word

next-end : (line : List ℕ) (place : ℕ) → AreSpaces (drop place line) → next_of line place ≡ End
unfolding next_of next_word
next-end line place h = rw (all_spaces (drop place line) h, lt_itself (length (drop place line))) refl

next-start : (line : List ℕ) (place : ℕ) (gap l : List ℕ) → drop place line ≡ gap ++ l → AreSpaces gap → BeginsWord l
    → next_of line place ≡ word_there line (record { start = place + length gap; end = end_of Spaces line (place + length gap) })
unfolding next_of next_word
next-start line place gap l is h w =
    let first : front_spaces (drop place line) ≡ length gap = ap front_spaces is ∙ spaces_first gap l h w in
    let long : length gap < length (drop place line) = omega (arith, ap length is, length-append gap l, ap length w.2) in
    rw (first, lt-ltb (length gap) (length (drop place line)) long) refl

over-is : (rest : List ℕ) → EndsWord rest → is_over rest ≡ true
over-is rest (inl e) = ap is_over e
over-is rest (inr e) = ap is_over e.1

is-over : (rest : List ℕ) → is_over rest ≡ true → EndsWord rest
is-over [] h = inl refl
is-over (b ∷ bs) h = inr (bs, ap (λ (c : ℕ). c ∷ bs) (eqb-true b 32 h))

-- where a plain word ends
plain-end : (line : List ℕ) (start : ℕ) (text rest : List ℕ) → drop start line ≡ text ++ rest → All (λ b. b ≢ 32) text → EndsWord rest
    → end_of Spaces line start ≡ start + length text
unfolding end_of
plain-end line start text rest is h (inl none) =
    let all : drop start line ≡ text = is ∙ (ap (λ (l : List ℕ). text ++ l) none ∙ append-nil text) in
    let size : length line - start ≡ length text = sym (length-drop start line) ∙ ap length all in
    rw (all, all_word text h, lt_itself (length text)) (ap (λ (n : ℕ). start + n) size)
plain-end line start text rest is h (inr more) =
    let all : drop start line ≡ text ++ 32 ∷ more.0 = is ∙ ap (λ (l : List ℕ). text ++ l) more.1 in
    rw (all, word_first text more.0 h, lt-ltb (length text) (length (text ++ 32 ∷ more.0)) (omega (arith, length-append text (32 ∷ more.0)))) refl

no_quote : (text rest : List ℕ) → BeginsPlain text → begins_with_quote (text ++ rest) ≡ false
no_quote [] rest h = absurd h
no_quote (b ∷ bs) rest h = by (b == 34) refl
  where
    by : (t : Bool) → (b == 34) ≡ t → t ≡ false
    by true is = absurd (h (eqb-true b 34 is))
    by false is = refl

plain-word : (line : List ℕ) (start : ℕ) (text rest : List ℕ) → drop start line ≡ text ++ rest → IsPlain text → EndsWord rest
    → word_there line (record { start = start; end = end_of Spaces line start }) ≡ Found (record { text = text; end = start + length text })
unfolding word_there
plain-word line start text rest is h over =
    let end = plain-end line start text rest is h.1 over in
    let few : start + length text - start ≡ length text = omega arith in
    let taken : take (start + length text - start) (text ++ rest) ≡ text = ap (λ (n : ℕ). take n (text ++ rest)) few ∙ take_at text rest (length text) refl in
    rw (is, no_quote text rest h.0, end) (λ j. Found (record { text = taken j; end = start + length text }))

-- the bytes behind a quote
behind : (line : List ℕ) (start : ℕ) (l : List ℕ) → drop start line ≡ 34 ∷ l → drop (start + 1) line ≡ l
behind line start l is = sym (drop-drop 1 start line) ∙ ap (drop 1) is

quoted-word : (line : List ℕ) (start : ℕ) (word rest : List ℕ) → drop start line ≡ (34 ∷ quoted_text word) ++ rest → EndsWord rest
    → quoted_word line start ≡ Found (record { text = word; end = start + length (34 ∷ quoted_text word) })
unfolding quoted_word
quoted-word line start word rest is over =
    let there = behind line start (quoted_text word ++ rest) is in
    let size : length line - length rest ≡ start + length (34 ∷ quoted_text word) =
    omega (arith, length-drop start line, ap length is, length-append (34 ∷ quoted_text word) rest) in
    rw (there, reads_back word rest, over-is rest over) (λ j. Found (record { text = word; end = size j }))

quote_first : (word rest : List ℕ) → begins_with_quote ((34 ∷ quoted_text word) ++ rest) ≡ true
quote_first word rest = refl

word-next : (line : List ℕ) (place : ℕ) (gap text word rest : List ℕ) → drop place line ≡ gap ++ (text ++ rest) → AreSpaces gap → Writes text word
    → EndsWord rest
    → next_of line place ≡ Found (record { text = word; end = place + length gap + length text })
unfolding word_there
word-next line place gap text word rest is spaces (inl plain) over =
    let start = place + length gap in
    let there = rest_behind line place gap (text ++ rest) is in
    next-start line place gap (text ++ rest) is spaces (begins text plain.0)
    ∙ (plain-word line start text rest there plain.0 over ∙ (λ j. Found (record { text = sym plain.1 j; end = start + length text })))
  where
    begins : (text : List ℕ) → IsPlain text → BeginsWord (text ++ rest)
    begins [] h = absurd h.0
    begins (b ∷ bs) h = (b, bs ++ rest, refl, word_head b bs h.1)
word-next line place gap text word rest is spaces (inr written) over =
    let start = place + length gap in
    let all : drop place line ≡ gap ++ ((34 ∷ quoted_text word) ++ rest) = is ∙ ap (λ (t : List ℕ). gap ++ (t ++ rest)) written in
    let there = rest_behind line place gap ((34 ∷ quoted_text word) ++ rest) all in
    let quote : begins_with_quote (drop start line) ≡ true = ap begins_with_quote there in
    next-start line place gap ((34 ∷ quoted_text word) ++ rest) all spaces (34, quoted_text word ++ rest, refl, (λ e. let h : 34 ≡ 32 = e in omega (arith, h)))
    ∙ (ap (λ (t : Bool). cond t (quoted_word line start) (Found (record {
      text = slice_range line start (end_of Spaces line start);
      end =
          end_of Spaces line start;
    }))) quote
    ∙ (quoted-word line start word rest there over ∙ (λ j. Found (record { text = word; end = start + length (sym written j) }))))

bad-next : (line : List ℕ) (place : ℕ) → IsLine line → (h : BeginsBadly (drop place line)) → next_of line place ≡ BadQuote
unfolding word_there quoted_word
bad-next line place is h =
    let start = place + length h.gap in
    let there = rest_behind line place h.gap (34 ∷ h.rest) h.written in
    let quote : begins_with_quote (drop start line) ≡ true = ap begins_with_quote there in
    let next = behind line start h.rest there in
    next-start line place h.gap (34 ∷ h.rest) h.written h.spaces (34, h.rest, refl, (λ e. let x : 34 ≡ 32 = e in omega (arith, x)))
    ∙ (ap (λ (t : Bool). cond t (quoted_word line start) (Found (record {
      text = slice_range line start (end_of Spaces line start);
      end =
          end_of Spaces line start;
    }))) quote
    ∙ (ap (λ (l : List ℕ). by_quoted line (quoted (length l) l)) next ∙ by (quoted (length h.rest) h.rest) refl))
  where
    rest_is : IsLine h.rest
    rest_is = subst IsLine (behind line (place + length h.gap) h.rest (rest_behind line place h.gap (34 ∷ h.rest) h.written))
        (line-drop (place + length h.gap + 1) line is)

    over : (p : List ℕ × List ℕ) (t : Bool) → is_over p.1 ≡ t → h.rest ≡ quoted_text p.0 ++ p.1
        → cond t (Found (record { text = p.0; end = length line - length p.1 })) BadQuote ≡ BadQuote
    over p true e was = absurd (h.unquoted p.0 p.1 was (is-over p.1 e))
    over p false e was = refl

    by : (q : Quoted) → quoted (length h.rest) h.rest ≡ q → by_quoted line q ≡ BadQuote
    by None e = refl
    by (Some p) e = over p (is_over p.1) refl (was_quoted h.rest p.0 p.1 rest_is e)

-- ---- all words

-- what writes a word is some bytes
some : (text word : List ℕ) → Writes text word → 1 ≤ length text
some [] word (inl h) = absurd h.0.0
some (b ∷ bs) word (inl h) = omega arith
some text word (inr h) = omega (arith, ap length h)

-- so many words at most are split off as they are written
held : (n : ℕ) (line : List ℕ) (place : ℕ) (words : List (List ℕ)) (bad : Bool) → IsLine line → length (drop place line) ≤ n → Holds (drop place line) words bad
    → (map text_of_word (words_from n line place).words ≡ words) × ((words_from n line place).bad ≡ bad)
unfolding words_from
held zero line place [] false is less h = (refl, refl)
held zero line place [] true is less h = absurd (omega (arith, less, ap length h.written, length-append h.gap (34 ∷ h.rest)))
held zero line place (word ∷ words) bad is less h =
    absurd (omega (arith, less, ap length h.1.written, length-append h.1.gap (h.1.text ++ h.0), length-append h.1.text h.0, some h.1.text word h.1.writes))
held (suc n) line place [] false is less h = rw (next-end line place h) (refl, refl)
held (suc n) line place [] true is less h = rw (bad-next line place is h) (refl, refl)
held (suc n) line place (word ∷ words) bad is less h =
    let b = h.1 in
    let end = place + length b.gap + length b.text in
    let there = rest_behind line (place + length b.gap) b.text h.0 (rest_behind line place b.gap (b.text ++ h.0) b.written) in
    let shorter : length (drop end line) ≤ n = omega (
      arith,
      less,
      ap length there,
      ap length b.written,
      length-append b.gap
          (b.text ++ h.0),
      length-append b.text h.0,
      some b.text word b.writes,
    ) in
    let others = held n line end words bad is shorter (subst (λ (l : List ℕ). Holds l words bad) (sym there) h.2) in
    rw (word-next line place b.gap b.text word h.0 b.written b.spaces b.writes b.over) (ap (λ (l : List (List ℕ)). word ∷ l) others.0, others.1)

-- ---- each line holds words

-- what begins a line
abbrev Begins : List ℕ → Type 0
Begins line = AreSpaces line ⊎ BeginsBadly line ⊎ ((word : List ℕ) × (rest : List ℕ) × BeginsWith line word rest)

no_spaces : AreSpaces []
no_spaces i d lt = absurd (omega (arith, lt))

more_spaces : (b : ℕ) (gap : List ℕ) → b ≡ 32 → AreSpaces gap → AreSpaces (b ∷ gap)
more_spaces b gap e h zero d lt = e
more_spaces b gap e h (suc i) d lt = h i d (omega (arith, lt))

more_word : (b : ℕ) (text : List ℕ) → b ≢ 32 → All (λ c. c ≢ 32) text → All (λ c. c ≢ 32) (b ∷ text)
more_word b text e h zero d lt = e
more_word b text e h (suc i) d lt = h i d (omega (arith, lt))

not_space : (b : ℕ) → (b == 32) ≡ false → b ≢ 32
not_space b is e = let x : (32 == 32) ≡ false = subst (λ (c : ℕ). (c == 32) ≡ false) e is in cc

not_quote : (b : ℕ) → (b == 34) ≡ false → b ≢ 34
not_quote b is e = let x : (34 == 34) ≡ false = subst (λ (c : ℕ). (c == 34) ≡ false) e is in cc

-- the bytes up to a space
to_space : (l : List ℕ) → (text : List ℕ) × (rest : List ℕ) × (l ≡ text ++ rest) × All (λ c. c ≢ 32) text × EndsWord rest
to_space [] = ([], [], refl, (λ i d lt. absurd (omega (arith, lt))), inl refl)
to_space (b ∷ bs) = by (b == 32) refl (to_space bs)
  where
    by : (t : Bool) → (b == 32) ≡ t → (text : List ℕ) × (rest : List ℕ) × (bs ≡ text ++ rest) × All (λ c. c ≢ 32) text × EndsWord rest
        → (text : List ℕ) × (rest : List ℕ) × (b ∷ bs ≡ text ++ rest) × All (λ c. c ≢ 32) text × EndsWord rest
    by true is more = ([], b ∷ bs, refl, (λ i d lt. absurd (omega (arith, lt))), inr (bs, ap (λ (c : ℕ). c ∷ bs) (eqb-true b 32 is)))
    by false is more = (b ∷ more.0, more.1, ap (λ (l : List ℕ). b ∷ l) more.2, more_word b more.0 (not_space b is) more.3, more.4)

none_word : (rest : List ℕ) → quoted (length rest) rest ≡ None → (word more : List ℕ) → rest ≡ quoted_text word ++ more → EndsWord more → ⊥
none_word rest none word more is over =
    let e : ◌≡◌ {A = Quoted} None (Some (word, more)) = sym none ∙ (ap (λ (l : List ℕ). quoted (length l) l) is ∙ reads_back word more) in cc

other_word : (rest : List ℕ) (p : List ℕ × List ℕ) → quoted (length rest) rest ≡ Some p → is_over p.1 ≡ false → (word more : List ℕ)
    → rest ≡ quoted_text word ++ more → EndsWord more → ⊥
other_word rest p some_p not_over word more is over =
    let e : ◌≡◌ {A = Quoted} (Some p) (Some (word, more)) = sym some_p ∙ (ap (λ (l : List ℕ). quoted (length l) l) is ∙ reads_back word more) in
    let same : p ≡ (word, more) = cc in
    let x : true ≡ false = sym (over-is more over) ∙ (ap (λ (q : List ℕ × List ℕ). is_over q.1) (sym same) ∙ not_over) in
    cc

-- a line that begins with a quote
at_quote : (bs : List ℕ) → IsLine bs → Begins (34 ∷ bs)
at_quote bs is = by (quoted (length bs) bs) refl
  where
    bad : ((word more : List ℕ) → bs ≡ quoted_text word ++ more → EndsWord more → ⊥) → Begins (34 ∷ bs)
    bad never = inr (inl (record { gap = []; rest = bs; written = refl; spaces = no_spaces; unquoted = never }))

    some_p : (p : List ℕ × List ℕ) (t : Bool) → quoted (length bs) bs ≡ Some p → is_over p.1 ≡ t → Begins (34 ∷ bs)
    some_p p true e over = inr (inr (
      p.0,
      p.1,
      record {
        gap = [];
        text = 34 ∷ quoted_text p.0;
        written =
            ap (λ (l : List ℕ). 34 ∷ l) (was_quoted bs p.0 p.1 is e);
        spaces = no_spaces;
        writes = inr refl;
        over = is-over p.1 over;
      },
    ))
    some_p p false e over = bad (other_word bs p e over)

    by : (q : Quoted) → quoted (length bs) bs ≡ q → Begins (34 ∷ bs)
    by None e = bad (none_word bs e)
    by (Some p) e = some_p p (is_over p.1) e refl

-- one space more in front
one_space : (b : ℕ) (bs : List ℕ) → b ≡ 32 → Begins bs → Begins (b ∷ bs)
one_space b bs e (inl h) = inl (more_spaces b bs e h)
one_space b bs e (inr (inl h)) = inr (inl (record {
  gap = b ∷ h.gap;
  rest = h.rest;
  written = ap (λ (l : List ℕ). b ∷ l) h.written;
  spaces =
      more_spaces b h.gap e h.spaces;
  unquoted = h.unquoted;
}))
one_space b bs e (inr (inr h)) = inr (inr (
  h.0,
  h.1,
  record {
    gap = b ∷ h.2.gap;
    text = h.2.text;
    written = ap (λ (l : List ℕ). b ∷ l) h.2.written;
    spaces =
        more_spaces b h.2.gap e h.2.spaces;
    writes = h.2.writes;
    over = h.2.over;
  },
))

plain_first : (b : ℕ) (bs : List ℕ) → (b == 32) ≡ false → (b == 34) ≡ false → Begins (b ∷ bs)
plain_first b bs s q =
    let t = to_space bs in
    inr (inr (
      b ∷ t.0,
      t.1,
      record {
        gap = [];
        text = b ∷ t.0;
        written = ap (λ (l : List ℕ). b ∷ l) t.2;
        spaces = no_spaces;
        writes = inl ((not_quote b q, more_word b t.0 (not_space b s) t.3), refl);
        over = t.4;
      },
    ))

begins : (line : List ℕ) → IsLine line → Begins line
begins [] is = inl no_spaces
begins (b ∷ bs) is = by (b == 32) (b == 34) refl refl (begins bs (line-drop 1 (b ∷ bs) is))
  where
    by : (t u : Bool) → (b == 32) ≡ t → (b == 34) ≡ u → Begins bs → Begins (b ∷ bs)
    by true u p q more = one_space b bs (eqb-true b 32 p) more
    by false true p q more = subst (λ (c : ℕ). Begins (c ∷ bs)) (sym (eqb-true b 34 q)) (at_quote bs (line-drop 1 (b ∷ bs) is))
    by false false p q more = plain_first b bs p q

-- so long a line holds some words
holds : (n : ℕ) (line : List ℕ) → IsLine line → length line ≤ n → (words : List (List ℕ)) × (bad : Bool) × Holds line words bad
holds zero line is short = ([], false, (λ i d lt. absurd (omega (arith, lt, short))))
holds (suc n) line is short = by (holds n) (begins line is)
  where
    line_rest : (h : (word : List ℕ) × (rest : List ℕ) × BeginsWith line word rest) → IsLine h.1
    line_rest h =
        let b = h.2 in
        subst IsLine (rest_behind line (0 + length b.gap) b.text h.1 (rest_behind line 0 b.gap (b.text ++ h.1) b.written))
        (line-drop (0 + length b.gap + length b.text) line is)

    by : ((rest : List ℕ) → IsLine rest → length rest ≤ n → (words : List (List ℕ)) × (bad : Bool) × Holds rest words bad) → Begins line
        → (words : List (List ℕ)) × (bad : Bool) × Holds line words bad
    by others (inl h) = ([], false, h)
    by others (inr (inl h)) = ([], true, h)
    by others (inr (inr h)) =
        let b = h.2 in
        let more = others h.1 (line_rest h) (omega (
          arith,
          short,
          ap length b.written,
          length-append b.gap
              (b.text ++ h.1),
          length-append b.text h.1,
          some b.text h.0 b.writes,
        )) in
        (h.0 ∷ more.0, more.1, (h.1, b, more.2))

pub lines_are_split : SplitsLines
lines_are_split line words bad is = (
  (λ h.
      let some_words = holds (length line) line is (omega arith) in
      let there = held (length line) line 0 some_words.0 some_words.1 is (omega arith) some_words.2 in
      subst (λ (ws : List (List ℕ)). Holds line ws bad) (sym there.0 ∙ h.0) (subst (λ (b : Bool). Holds line some_words.0 b) (sym there.1 ∙ h.1) some_words.2)),
  held (length line) line 0 words bad is (omega arith),
)
