-- Words split one after another.
use Rattle.std.proofs.Common.{◌≡◌, ℕ, suc, ◌+◌, ◌-◌, ◌<◌, ◌≤◌, List, [], ◌∷◌, ◌++◌, length, take, drop, map, get_or, refl, ap, sym, ◌∙◌, append_assoc, Some}
use Rattle.std.proofs.Common.{None, Bool, true, false, arith}
use Rattle.std.proofs.lemmas.List.{append-nil, length-drop}
use Rattle.std.proofs.Math.Seq.{drop-drop}
use Rattle.nqs_words.specs.Quoted.{quoted}
use Rattle.nqs_schedule.specs.declared.words.LineWord.{LineWord}
use Rattle.nqs_schedule.specs.declared.words.LineWords.{LineWords}
use Rattle.nqs_schedule.specs.declared.words.Next.{Next}
use Rattle.nqs_schedule.specs.declared.words.Next.TheVariants.{End, BadQuote, Found}
use Rattle.std.proofs.lemmas.List.{take_more, map-append}
use Rattle.nqs_schedule.specs.Events.{text_of_word}
use Rattle.nqs_schedule.specs.Lines.{is_over, quoted_word, next_of, by_next, words_from}

-- words that were split off, and the others
abbrev pub joined : List LineWord → LineWords → LineWords
joined front others = record { words = front ++ others.words; bad = others.bad }

first : (n i : ℕ) (line : List ℕ) (place : ℕ) → i < n → words_from (n - i) line place ≡ by_next (next_of line place) (words_from (n - (i + 1)) line)
unfolding words_from
first n i line place less = let e : n - i ≡ suc (n - (i + 1)) = omega arith in ap (λ (k : ℕ). words_from k line place) e

stopped : (front : List LineWord) (b : Bool) → joined front (record { words = []; bad = b }) ≡ record { words = front; bad = b }
stopped front b = λ j. record { words = append-nil front j; bad = b }

pub words_end : (n i : ℕ) (line : List ℕ) (place : ℕ) (front : List LineWord) (all : LineWords) (next : Next)
    → i < n → next ≡ next_of line place → joined front (words_from (n - i) line place) ≡ all → next ≡ End → record { words = front; bad = false } ≡ all
words_end n i line place front all next less is before end = sym (stopped front false) ∙ (rw (first n i line place less, ← is, end) at before)

pub words_bad : (n i : ℕ) (line : List ℕ) (place : ℕ) (front : List LineWord) (all : LineWords) (next : Next)
    → i < n → next ≡ next_of line place → joined front (words_from (n - i) line place) ≡ all → next ≡ BadQuote → record { words = front; bad = true } ≡ all
words_bad n i line place front all next less is before end = sym (stopped front true) ∙ (rw (first n i line place less, ← is, end) at before)

pub words_more : (n i : ℕ) (line : List ℕ) (place : ℕ) (front : List LineWord) (all : LineWords) (next : Next) (word : LineWord)
    → i < n → next ≡ next_of line place → joined front (words_from (n - i) line place) ≡ all → next ≡ Found word
    → joined (front ++ word ∷ []) (words_from (n - (i + 1)) line word.end) ≡ all
words_more n i line place front all next word less is before found =
    let others = words_from (n - (i + 1)) line word.end in
    let e : joined (front ++ word ∷ []) others ≡ joined front (record { words = word ∷ others.words; bad = others.bad }) =
    λ j. record { words = append_assoc front (word ∷ []) others.words j; bad = others.bad } in
    e ∙ (rw (first n i line place less, ← is, found) at before)

pub words_done : (n i : ℕ) (line : List ℕ) (place : ℕ) (front : List LineWord) (all : LineWords) → n ≤ i → joined front (words_from (n - i) line place) ≡ all
    → record { words = front; bad = false } ≡ all
unfolding words_from
words_done n i line place front all past before = let e : n - i ≡ 0 = omega arith in
    sym (stopped front false) ∙ (sym (ap (λ (k : ℕ). joined front (words_from k line place)) e) ∙ before)

-- a quoted word ends within the line, so many bytes behind its quote
pub over : (line : List ℕ) (start taken : ℕ) (text : List ℕ) → taken ≤ length (drop (start + 1) line) → start + 1 ≤ length line
    → quoted (length (drop (start + 1) line)) (drop (start + 1) line) ≡ Some (text, drop taken (drop (start + 1) line))
    → is_over (drop (start + 1 + taken) line) ≡ true
    → Found (record { text = text; end = start + 1 + taken }) ≡ quoted_word line start
unfolding quoted_word
over line start taken text inside within read ends =
    let same : drop taken (drop (start + 1) line) ≡ drop (start + 1 + taken) line = drop-drop taken (start + 1) line in
    let size : length line - length (drop (start + 1 + taken) line) ≡ start + 1 + taken =
    omega (arith, length-drop (start + 1 + taken) line, length-drop (start + 1) line) in
    rw (read, same, ends) (λ j. Found (record { text = text; end = sym size j }))

pub not_over : (line : List ℕ) (start taken : ℕ) (text : List ℕ) → quoted (length (drop (start + 1) line)) (drop (start + 1) line)
    ≡ Some (text, drop taken (drop (start + 1) line)) → is_over (drop (start + 1 + taken) line) ≡ false
    → BadQuote ≡ quoted_word line start
unfolding quoted_word
not_over line start taken text read ends =
    let same : drop taken (drop (start + 1) line) ≡ drop (start + 1 + taken) line = drop-drop taken (start + 1) line in
    rw (read, same, ends) refl

pub no_end : (line : List ℕ) (start : ℕ) → quoted (length (drop (start + 1) line)) (drop (start + 1) line) ≡ None → BadQuote ≡ quoted_word line start
unfolding quoted_word
no_end line start read = rw read refl

-- one text more
pub texts_more : (words : List LineWord) (i : ℕ) (d : LineWord) (texts : List (List ℕ)) → i < length words → d ≡ get_or words i d
    → texts ≡ map text_of_word (take i words) → texts ++ text_of_word d ∷ [] ≡ map text_of_word (take (i + 1) words)
texts_more words i d texts less there so_far =
    let more : map text_of_word (take (i + 1) words) ≡ map text_of_word (take i words) ++ text_of_word (get_or words i d) ∷ [] =
    ap (map text_of_word) (take_more words i d less) ∙ map-append text_of_word (take i words) (get_or words i d ∷ []) in
    sym (more ∙ (ap (λ (l : List (List ℕ)). l ++ text_of_word (get_or words i d) ∷ []) (sym so_far)
    ∙ ap (λ (w : LineWord). texts ++ text_of_word w ∷ []) (sym there)))
