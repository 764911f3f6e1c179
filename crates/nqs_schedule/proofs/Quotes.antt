-- Quoted words are written and read in one way.
use Rattle.std.proofs.Common.{◌≡◌, ℕ, zero, suc, ◌+◌, ◌<◌, ◌≤◌, List, [], ◌∷◌, ◌++◌, length, drop, flat_map, Some, None, Bool, true, false, cond, ◌==◌, refl}
use Rattle.std.proofs.Common.{ap, sym, ◌∙◌, append_assoc, arith}
use Rattle.std.proofs.lemmas.Bool.{eqb-true}
use Rattle.std.proofs.lemmas.List.{length-append, drop_at}
use Rattle.nqs_words.specs.Quoted.{Quoted, after, by_step, escape_of, step_of, quoted, escaped, quoted_text}
use Rattle.nqs_words.specs.declared.quoted.Step.{Step}
use Rattle.nqs_words.specs.declared.quoted.Step.TheVariants.{End, Bad, Byte}
use Rattle.nqs_schedule.specs.Schedule.{IsLine}
use Rattle.nqs_schedule.specs.Laws.{QuotedReadsBack, ReadWasQuoted}

-- how a byte is written, by three tests
written : Bool → Bool → Bool → ℕ → List ℕ
written t u v b = cond t (92 ∷ 110 ∷ []) (cond u (92 ∷ 34 ∷ []) (cond v (92 ∷ 92 ∷ []) (b ∷ [])))

step_written : (t u v : Bool) (b : ℕ) (more : List ℕ) → (b == 10) ≡ t → (b == 34) ≡ u → (b == 92) ≡ v
    → step_of (written t u v b ++ more) ≡ Byte b (length (written t u v b))
unfolding written step_of
step_written true u v b more p q r = ap (λ (x : ℕ). Byte x 2) (sym (eqb-true b 10 p))
step_written false true v b more p q r = ap (λ (x : ℕ). Byte x 2) (sym (eqb-true b 34 q))
step_written false false true b more p q r = ap (λ (x : ℕ). Byte x 2) (sym (eqb-true b 92 r))
step_written false false false b more p q r = rw (q, r) refl

step_escaped : (b : ℕ) (more : List ℕ) → step_of (escaped b ++ more) ≡ Byte b (length (escaped b))
unfolding written
step_escaped b more = step_written (b == 10) (b == 34) (b == 92) b more refl refl refl

some_written : (t u v : Bool) (b : ℕ) → 1 ≤ length (written t u v b)
unfolding written
some_written true u v b = omega arith
some_written false true v b = omega arith
some_written false false true b = omega arith
some_written false false false b = omega arith

some_escaped : (b : ℕ) → 1 ≤ length (escaped b)
unfolding written
some_escaped b = some_written (b == 10) (b == 34) (b == 92) b

-- a byte in front
in_front : (b : ℕ) (word rest : List ℕ) → quoted_text (b ∷ word) ++ rest ≡ escaped b ++ (quoted_text word ++ rest)
in_front b word rest =
    ap (λ (l : List ℕ). l ++ rest) (append_assoc (escaped b) (flat_map escaped word) (34 ∷ [])) ∙ append_assoc (escaped b) (quoted_text word) rest

back : (n : ℕ) (word rest : List ℕ) → length word < n → quoted n (quoted_text word ++ rest) ≡ Some (word, rest)
unfolding quoted step_of
back zero word rest less = absurd (omega arith)
back (suc n) [] rest less = refl
back (suc n) (b ∷ word) rest less =
    let others = quoted_text word ++ rest in
    let split : quoted_text (b ∷ word) ++ rest ≡ escaped b ++ others = in_front b word rest in
    let there : drop (length (escaped b)) (escaped b ++ others) ≡ others = drop_at (escaped b) others (length (escaped b)) refl in
    ap (quoted (suc n)) split ∙ (ap (λ (s : Step). by_step (escaped b ++ others) s (quoted n)) (step_escaped b others)
    ∙ (ap (λ (l : List ℕ). after (b ∷ []) (quoted n l)) there ∙ ap (after (b ∷ [])) (back n word rest (omega arith))))

text_long : (word : List ℕ) → length word < length (quoted_text word)
text_long word = by word
  where
    long : (w : List ℕ) → length w ≤ length (flat_map escaped w)
    long [] = omega arith
    long (b ∷ w) = omega (arith, length-append (escaped b) (flat_map escaped w), some_escaped b, long w)

    by : (w : List ℕ) → length w < length (quoted_text w)
    by w = omega (arith, length-append (flat_map escaped w) (34 ∷ []), long w)

pub reads_back : QuotedReadsBack
reads_back word rest = back (length (quoted_text word ++ rest)) word rest (omega (arith, text_long word, length-append (quoted_text word) rest))

-- what a step says of the bytes
SaysStep : List ℕ → Step → Type 0
SaysStep bytes End = bytes ≡ 34 ∷ drop 1 bytes
SaysStep bytes Bad = Unit {0}
SaysStep bytes (Byte b taken) = bytes ≡ escaped b ++ drop taken bytes

escape_says : (b : ℕ) (bs : List ℕ) → b ≡ 92 → SaysStep (b ∷ bs) (escape_of bs)
unfolding SaysStep
escape_says b [] is = tt
escape_says b (c ∷ cs) is = by (c == 110) (c == 34) (c == 92) refl refl refl
  where
    by : (t u v : Bool) → (c == 110) ≡ t → (c == 34) ≡ u → (c == 92) ≡ v → SaysStep (b ∷ c ∷ cs)
        (cond t (Byte 10 2) (cond u (Byte 34 2) (cond v (Byte 92 2) Bad)))
    by true u v p q r = λ j. is j ∷ eqb-true c 110 p j ∷ cs
    by false true v p q r = λ j. is j ∷ eqb-true c 34 q j ∷ cs
    by false false true p q r = λ j. is j ∷ eqb-true c 92 r j ∷ cs
    by false false false p q r = tt

not_feed : (b : ℕ) (bs : List ℕ) → IsLine (b ∷ bs) → (b == 10) ≡ true → ⊥
not_feed b bs is h = is 0 0 (omega arith) (eqb-true b 10 h)

step_says : (bytes : List ℕ) → IsLine bytes → SaysStep bytes (step_of bytes)
unfolding SaysStep step_of
step_says [] is = tt
step_says (b ∷ bs) is = by (b == 10) (b == 34) (b == 92) refl refl refl
  where
    by : (t u v : Bool) → (b == 10) ≡ t → (b == 34) ≡ u → (b == 92) ≡ v → SaysStep (b ∷ bs) (cond u End (cond v (escape_of bs) (Byte b 1)))
    by true u v p q r = absurd (not_feed b bs is p)
    by false true v p q r = λ j. eqb-true b 34 q j ∷ bs
    by false false true p q r = escape_says b bs (eqb-true b 92 r)
    by false false false p q r = rw (p, q, r) refl

abbrev word_in : Quoted → List ℕ
word_in None = []
word_in (Some p) = p.0

abbrev rest_in : Quoted → List ℕ
rest_in None = []
rest_in (Some p) = p.1

pub line-drop : (n : ℕ) (bytes : List ℕ) → IsLine bytes → IsLine (drop n bytes)
line-drop zero bytes is = is
line-drop (suc n) [] is = is
line-drop (suc n) (b ∷ bs) is = line-drop n bs (λ i d less. is (suc i) d (omega arith))

parsed : (n : ℕ) (bytes word rest : List ℕ) → IsLine bytes → quoted n bytes ≡ Some (word, rest) → bytes ≡ quoted_text word ++ rest
unfolding quoted SaysStep
parsed zero bytes word rest is e = cc
parsed (suc n) bytes word rest is e = by (parsed n) (step_of bytes) (step_says bytes is) e
  where
    joined : (b taken : ℕ) (q : Quoted) → ((w r : List ℕ) → q ≡ Some (w, r) → drop taken bytes ≡ quoted_text w ++ r) → bytes ≡ escaped b ++ drop taken bytes
        → after (b ∷ []) q ≡ Some (word, rest) → bytes ≡ quoted_text word ++ rest
    joined b taken None others says h = cc
    joined b taken (Some p) others says h =
        let w : b ∷ p.0 ≡ word = ap word_in h in
        let r : p.1 ≡ rest = ap rest_in h in
        says ∙ (ap (λ (l : List ℕ). escaped b ++ l) (others p.0 p.1 refl) ∙ (sym (in_front b p.0 p.1) ∙ (λ j. quoted_text (w j) ++ r j)))

    by : ((bytes word rest : List ℕ) → IsLine bytes → quoted n bytes ≡ Some (word, rest) → bytes ≡ quoted_text word ++ rest)
        → (s : Step) → SaysStep bytes s → by_step bytes s (quoted n) ≡ Some (word, rest) → bytes ≡ quoted_text word ++ rest
    by others Bad says h = cc
    by others End says h =
        let w : [] ≡ word = ap word_in h in
        let r : drop 1 bytes ≡ rest = ap rest_in h in
        says ∙ (λ j. quoted_text (w j) ++ r j)
    by others (Byte b taken) says h = joined b taken (quoted n (drop taken bytes)) (λ w r g. others (drop taken bytes) w r (line-drop taken bytes is) g) says h

pub was_quoted : ReadWasQuoted
was_quoted bytes word rest is e = parsed (length bytes) bytes word rest is e
