-- A fault is decided by the words up to it: whatever follows them, the line has it.
use Rattle.std.proofs.Common.{◌≡◌, ◌⊎◌, inl, inr, ℕ, ◌+◌, ◌-◌, ◌≤◌, ◌==◌, List, [], ◌∷◌, length, drop, slice_range, Some, None, Option, option_map, unwrap_or}
use Rattle.std.proofs.Common.{Bool, true, false, is_some, not, refl, ap, sym, subst, ◌∙◌, arith}
use Rattle.std.specs.List.{position}
use Rattle.std.proofs.lemmas.List.{length-take}
use Rattle.std.proofs.lemmas.List.Quantifiers.{position-Some}
use Rattle.nqs_types.specs.declared.ids.Named.{Named}
use Rattle.nqs_types.specs.declared.event.Command.{Command}
use Rattle.nqs_types.specs.declared.fault.GrammarFault.{GrammarFault}
use Rattle.nqs_types.specs.declared.fault.GrammarFault.TheVariants as fault
use Rattle.nqs_words.specs.Words.{is_gap, end_of, next_word}
use Rattle.nqs_words.specs.Values.{name_of, named_of, number_of, dest_of, place_of as byte_place}
use Rattle.nqs_words.specs.Keywords.{keyword_of}
use Rattle.nqs_words.specs.declared.words.Word.{Word}
use Rattle.nqs_words.specs.declared.words.Gaps.TheVariants.{SpacesAndTabs}
use Rattle.nqs_words.specs.declared.keyword.Keyword.{Keyword}
use Rattle.nqs_words.specs.declared.keyword.Keyword.TheVariants as k
use Rattle.nqs_words.specs.declared.keywords.NoKeyword.{NoKeyword}
use Rattle.nqs_words.specs.declared.keywords.NoKeyword.TheVariants.{Unknown, Ambiguous}
use Rattle.nqs_words.specs.declared.values.NotNamed.{NotNamed}
use Rattle.nqs_words.specs.declared.values.NotNamed.TheVariants.{BadNumber, BadName}
use Rattle.nqs_qmgr.specs.declared.head.Head.{Head}
use Rattle.nqs_qmgr.specs.declared.options.Settings.{Settings}
use Rattle.nqs_qmgr.specs.Heads.{word_text, stem_of, limit_of}
use Rattle.nqs_qmgr.specs.Options.{no_settings}
use Rattle.nqs_qmgr.specs.Lines.{verbs, nouns, shape_of}
use Rattle.nqs_qmgr.specs.Shapes.{Shape, nothing}
use Rattle.nqs_qmgr.specs.Says.{HasHead, HasNoValue, Given, NameIs, RequestIs, GivesOption, Says}
use Rattle.nqs_qmgr.specs.Faults.{WordTooMany, unnamed, NoKeywordThere, NoHead, NoName, unread_request, NoRequest, ValueTooMany, NoValue, Value, a_number}
use Rattle.nqs_qmgr.specs.Faults.{a_limit, a_name, a_dest, Rest, the_end, a_name_then, a_request_then, a_setting, some_options, value_of, rest_of, Stands}
use Rattle.nqs_qmgr.specs.Faults.{Misstands, Misgiven, NoOption, FaultsBehind, FaultsRest, FaultsFrom, FaultsShape, FaultsNoun, FaultsVerb, Faults}
use Rattle.nqs_qmgr.specs.Law.{SharesWords, place_of, IsAt, NoCommandBeginsSo}
use Rattle.nqs_qmgr.proofs.Faulted.{never_both}

-- the fault is that the line ends too early, or each line with the same words up to some word has
-- it
abbrev Decided : (List ℕ → Type 0) → List ℕ → ℕ → GrammarFault → Type 0
Decided R line place f = (f ≡ fault.Missing (length line)) ⊎ ((word : Word) × (place ≤ word.end)
    × (IsAt f word × ((other : List ℕ) → SharesWords line other word.end → R other)))

-- from a place further on, behind what is shared
behind : {R S : List ℕ → Type 0} (line : List ℕ) (place after : ℕ) (f : GrammarFault) → place ≤ after
    → ((other : List ℕ) (end : ℕ) → after ≤ end → SharesWords line other end → R other → S other) → Decided R line after f → Decided S line place f
behind {R} {S} line place after f before keeps (inl h) = inl h
behind {R} {S} line place after f before keeps (inr h) =
    inr (h.0, omega (arith, h.1), (h.2.0, (λ other shares. keeps other h.0.end h.1 shares (h.2.1 other shares))))

-- ---- places

order : (line : List ℕ) (place : ℕ) (word : Word) → next_word SpacesAndTabs line place ≡ Some word → (place ≤ word.start) × (word.start ≤ word.end)
unfolding next_word end_of
order line place word e = by (position (λ b. not (is_gap SpacesAndTabs b)) (drop place line)) e
  where
    made : ℕ → Word
    made gap = record { start = place + gap; end = end_of SpacesAndTabs line (place + gap) }

    by : (o : Option ℕ) → option_map (λ gap. record { start = place + gap; end = end_of SpacesAndTabs line (place + gap) }) o ≡ Some word
        → (place ≤ word.start) × (word.start ≤ word.end)
    by (Some gap) h =
        let same : record { start = place + gap; end = end_of SpacesAndTabs line (place + gap) } ≡ word = cc in
        subst (λ (w : Word). (place ≤ w.start) × (w.start ≤ w.end)) same (omega arith, omega arith)
    by None h = cc

stem_fits : (line : List ℕ) (word : Word) → word.start ≤ word.end → (word.start ≤ stem_of line word) × (stem_of line word ≤ word.end)
unfolding stem_of byte_place
stem_fits line word ordered = by (position (λ b. b == 61) (word_text line word)) refl
  where
    by : (o : Option ℕ) → position (λ b. b == 61) (word_text line word) ≡ o
        → (word.start ≤ word.start + unwrap_or o (word.end - word.start)) × (word.start + unwrap_or o (word.end - word.start) ≤ word.end)
    by (Some i) is =
        let within = (position-Some (λ b. b == 61) (word_text line word) i 0 is).0 in
        let long = length-take (word.end - word.start) (drop word.start line) in
        (omega arith, omega arith)
    by None is = (omega arith, omega arith)

same_stem : (line other : List ℕ) (word : Word) (end : ℕ) → word.end ≤ end → SharesWords line other end → stem_of other word ≡ stem_of line word
unfolding stem_of
same_stem line other word end below shares = ap (λ (text : List ℕ). word.start + unwrap_or (byte_place 61 text) (word.end - word.start))
    (sym (shares.1 word.start word.end below))

-- ---- what stands in the line stands in each that shares its words

keeps_head : (ks : List Keyword) (line other : List ℕ) (place : ℕ) (head : Head) (end : ℕ) → head.word.end ≤ end → SharesWords line other end
    → HasHead ks line place head → HasHead ks other place head
keeps_head ks line other place head end below shares h =
    let ord = order line place head.word h.next in
    let fits = stem_fits line head.word ord.1 in
    let stem : head.stem ≡ stem_of line head.word = h.stem in
    record {
      next = shares.0 place head.word h.next below;
      stem = h.stem ∙ sym (same_stem line other head.word end below shares);
      named = ap (λ (text : List ℕ). keyword_of ks text) (sym (shares.1 head.word.start head.stem (omega arith))) ∙ h.named;
    }

keeps_given : {A : Type 0} (read : List ℕ → Option A) (line other : List ℕ) (head : Head) (a : A) (end : ℕ) → head.word.end ≤ end → SharesWords line other end
    → Given read line head a → Given read other head a
keeps_given read line other head a end below shares h = (h.0, ap read (sym (shares.1 (head.stem + 1) head.word.end below)) ∙ h.1)

keeps_name : (line other : List ℕ) (place after : ℕ) (q : List ℕ) (end : ℕ) → after ≤ end → SharesWords line other end → NameIs line place (q, after)
    → NameIs other place (q, after)
keeps_name line other place after q end below shares (word, next, named, is) =
    let below : word.end ≤ end = omega arith in
    (word, shares.0 place word next below, ap name_of (sym (shares.1 word.start word.end below)) ∙ named, is)

keeps_request : (line other : List ℕ) (place after : ℕ) (r : Named) (end : ℕ) → after ≤ end → SharesWords line other end → RequestIs line place (r, after)
    → RequestIs other place (r, after)
keeps_request line other place after r end below shares (word, next, named, is) =
    let below : word.end ≤ end = omega arith in
    (word, shares.0 place word next below, ap named_of (sym (shares.1 word.start word.end below)) ∙ named, is)

keeps_value : (v : Option Value) (line other : List ℕ) (head : Head) (end : ℕ) → head.word.end ≤ end → SharesWords line other end → Stands v line head
    → Stands v other head
keeps_value None line other head end below shares h = h
keeps_value (Some (a_number low high)) line other head end below shares h = (h.0, keeps_given (number_of low high) line other head h.0 end below shares h.1)
keeps_value (Some (a_limit amount)) line other head end below shares h = (h.0, keeps_given (limit_of amount) line other head h.0 end below shares h.1)
keeps_value (Some a_name) line other head end below shares h = (h.0, keeps_given name_of line other head h.0 end below shares h.1)
keeps_value (Some a_dest) line other head end below shares h = (h.0, keeps_given dest_of line other head h.0 end below shares h.1)

keeps_option : (line other : List ℕ) (head : Head) (s : Settings) (keyword : Keyword) (more : Settings) (end : ℕ) → head.word.end ≤ end
    → SharesWords line other end → GivesOption line head s keyword more → GivesOption other head s keyword more
keeps_option line other head s k.Priority more end below shares h = (
  h.0,
  (h.1.0, keeps_given (number_of 0 63) line other head h.1.0 end below shares h.1.1, h.1.2),
)
keeps_option line other head s k.RunLimit more end below shares h = (
  h.0,
  (h.1.0, keeps_given (number_of 0 10000) line other head h.1.0 end below shares h.1.1, h.1.2),
)
keeps_option line other head s k.PipeOnly more end below shares h = h
keeps_option line other head s k.Destination more end below shares h = (h.0, (h.1.0, keeps_given dest_of line other head h.1.0 end below shares h.1.1, h.1.2))
keeps_option line other head s _ more end below shares h = absurd h

-- ---- the word at the fault

at_start : (f : GrammarFault) (word : Word) → place_of f ≡ word.start → word.start ≤ word.end → IsAt f word
at_start f word is ordered = (omega arith, omega arith)

too_many : (line : List ℕ) (place : ℕ) (f : GrammarFault) → WordTooMany line place f → Decided (λ (other : List ℕ). WordTooMany other place f) line place f
too_many line place f (word, next, is) =
    let ord = order line place word next in
    inr (word, omega arith, (at_start f word (ap place_of is) ord.1, (λ other shares. (word, shares.0 place word next (omega arith), is))))

unnamed_at : (why : NoKeyword) (place : ℕ) → place_of (unnamed why place) ≡ place
unnamed_at Unknown place = refl
unnamed_at Ambiguous place = refl

no_keyword : (ks : List Keyword) (line : List ℕ) (place : ℕ) (f : GrammarFault) → NoKeywordThere ks line place f
    → Decided (λ (other : List ℕ). NoKeywordThere ks other place f) line place f
no_keyword ks line place f (word, next, (why, names, is)) =
    let ord = order line place word next in
    let fits = stem_fits line word ord.1 in
    inr (
      word,
      omega arith,
      (
        at_start f word (ap place_of is ∙ unnamed_at why word.start) ord.1,
        (λ other shares. (
          word,
          shares.0 place word next (omega arith),
          (
            why,
            ap (λ (stem : ℕ). keyword_of ks (slice_range other word.start stem))
                (same_stem line other word word.end (omega arith) shares)
                ∙ ap (λ (text : List ℕ). keyword_of ks text) (sym (shares.1 word.start (stem_of line word) fits.1)) ∙ names,
            is,
          ),
        )),
      ),
    )

no_head : (ks : List Keyword) (line : List ℕ) (place : ℕ) (f : GrammarFault) → NoHead ks line place f
    → Decided (λ (other : List ℕ). NoHead ks other place f) line place f
no_head ks line place f (inl h) = inl h.1
no_head ks line place f (inr h) = behind line place place f (omega arith) (λ other end before shares there. inr there) (no_keyword ks line place f h)

no_name : (line : List ℕ) (place : ℕ) (f : GrammarFault) → NoName line place f → Decided (λ (other : List ℕ). NoName other place f) line place f
no_name line place f (inl h) = inl h.1
no_name line place f (inr (word, next, (none, is))) =
    let ord = order line place word next in
    inr (
      word,
      omega arith,
      (
        at_start f word (ap place_of is) ord.1,
        (λ other shares.
            inr (word, shares.0 place word next (omega arith), (ap name_of (sym (shares.1 word.start word.end (omega arith))) ∙ none, is))),
      ),
    )

unread_at : (why : NotNamed) (place : ℕ) → place_of (unread_request why place) ≡ place
unread_at BadNumber place = refl
unread_at BadName place = refl

no_request : (line : List ℕ) (place : ℕ) (f : GrammarFault) → NoRequest line place f → Decided (λ (other : List ℕ). NoRequest other place f) line place f
no_request line place f (inl h) = inl h.1
no_request line place f (inr (word, next, (why, none, is))) =
    let ord = order line place word next in
    inr (
      word,
      omega arith,
      (
        at_start f word (ap place_of is ∙ unread_at why word.start) ord.1,
        (λ other shares.
            inr (word, shares.0 place word next (omega arith), (why, ap named_of (sym (shares.1 word.start word.end (omega arith))) ∙ none, is))),
      ),
    )

-- the keyword's stem lies in its word
record Lies (head : Head) : Type 0 where
  ordered : head.word.start ≤ head.word.end
  above : head.word.start ≤ head.stem
  below : head.stem ≤ head.word.end

lies : (ks : List Keyword) (line : List ℕ) (place : ℕ) (head : Head) → HasHead ks line place head → Lies head
lies ks line place head h =
    let ord = order line place head.word h.next in
    let fits = stem_fits line head.word ord.1 in
    let stem : head.stem ≡ stem_of line head.word = h.stem in
    record { ordered = ord.1; above = omega arith; below = omega arith }

-- what is decided at a keyword or behind it is decided from the place before it
headed : {R : List ℕ → Type 0} (ks : List Keyword) (line : List ℕ) (place : ℕ) (head : Head) (f : GrammarFault) → HasHead ks line place head
    → Decided R line head.word.end f
    → Decided (λ (other : List ℕ). HasHead ks other place head × R other) line place f
headed {R} ks line place head f has decided =
    let ord = order line place head.word has.next in
    behind line place head.word.end f (omega arith) (λ other end before shares there.
    (keeps_head ks line other place head end before shares has, there)) decided

value_too_many : (line : List ℕ) (head : Head) (f : GrammarFault) → Lies head → ValueTooMany head f
    → Decided (λ (other : List ℕ). ValueTooMany head f) line head.word.end f
value_too_many line head f l h = inr (head.word, omega arith, (at_start f head.word (ap place_of h.1) l.ordered, (λ other shares. h)))

no_value : {A : Type 0} (read : List ℕ → Option A) (bad : ℕ → GrammarFault) (line : List ℕ) (head : Head) (f : GrammarFault)
    → ((at : ℕ) → place_of (bad at) ≡ at) → Lies head
    → NoValue read bad line head f → Decided (λ (other : List ℕ). NoValue read bad other head f) line head.word.end f
no_value read bad line head f at l (inl h) =
    let is : place_of f ≡ head.word.end = ap place_of h.1 in
    let ordered = l.ordered in
    inr (head.word, omega arith, ((omega arith, omega arith), (λ other shares. inl h)))
no_value read bad line head f at l (inr (has, (none, is))) =
    let told : place_of f ≡ head.stem + 1 = ap place_of is ∙ at (head.stem + 1) in
    let above = l.above in
    inr (
      head.word,
      omega arith,
      (
        (omega arith, omega arith),
        (λ other shares. inr
            (has, (ap read (sym (shares.1 (head.stem + 1) head.word.end (omega arith))) ∙ none, is))),
      ),
    )

misstands : (v : Option Value) (line : List ℕ) (head : Head) (f : GrammarFault) → Lies head → Misstands v line head f
    → Decided (λ (other : List ℕ). Misstands v other head f) line head.word.end f
misstands None line head f l h = value_too_many line head f l h
misstands (Some (a_number low high)) line head f l h = no_value (number_of low high) fault.BadNumber line head f (λ at. refl) l h
misstands (Some (a_limit amount)) line head f l h = no_value (limit_of amount) fault.BadNumber line head f (λ at. refl) l h
misstands (Some a_name) line head f l h = no_value name_of fault.BadName line head f (λ at. refl) l h
misstands (Some a_dest) line head f l h = no_value dest_of fault.BadName line head f (λ at. refl) l h

-- ---- options

once_more : {R : List ℕ → Type 0} (t : Bool) (line : List ℕ) (head : Head) (f : GrammarFault) → Lies head → (R line → Decided R line head.word.end f)
    → ((t ≡ true) × (f ≡ fault.Extra head.word.start)) ⊎ ((t ≡ false) × R line)
    → Decided (λ (other : List ℕ). ((t ≡ true) × (f ≡ fault.Extra head.word.start)) ⊎ ((t ≡ false) × R other)) line head.word.end f
once_more {R} t line head f l decided (inl h) = inr (head.word, omega arith, (at_start f head.word (ap place_of h.1) l.ordered, (λ other shares. inl h)))
once_more {R} t line head f l decided (inr h) = behind line head.word.end head.word.end f (omega arith) (λ other end before shares there. inr (h.0, there))
    (decided h.1)

misgiven : (line : List ℕ) (head : Head) (s : Settings) (keyword : Keyword) (f : GrammarFault) → Lies head → Misgiven line head s keyword f
    → Decided (λ (other : List ℕ). Misgiven other head s keyword f) line head.word.end f
misgiven line head s k.Priority f l h =
    once_more {R = λ (other : List ℕ). NoValue (number_of 0 63) fault.BadNumber other head f} (is_some s.priority) line head f l
    (no_value (number_of 0 63) fault.BadNumber line head f (λ at. refl) l) h
misgiven line head s k.RunLimit f l h =
    once_more {R = λ (other : List ℕ). NoValue (number_of 0 10000) fault.BadNumber other head f} (is_some s.run_limit) line head f l
    (no_value (number_of 0 10000) fault.BadNumber line head f (λ at. refl) l) h
misgiven line head s k.PipeOnly f l h =
    once_more {R = λ (other : List ℕ). ValueTooMany head f} s.pipe_only line head f l (value_too_many line head f l) h
misgiven line head s k.Destination f l h =
    once_more {R = λ (other : List ℕ). NoValue dest_of fault.BadName other head f} (is_some s.destination) line head f l
    (no_value dest_of fault.BadName line head f (λ at. refl) l) h
misgiven line head s _ f l h = inr (head.word, omega arith, (at_start f head.word (ap place_of h) l.ordered, (λ other shares. h)))

no_option : (ks : List Keyword) (line : List ℕ) (place : ℕ) (s : Settings) (f : GrammarFault) → NoOption ks line place s f
    → Decided (λ (other : List ℕ). NoOption ks other place s f) line place f
no_option ks line place s f (inl h) = behind line place place f (omega arith) (λ other end before shares there. inl there) (no_keyword ks line place f h)
no_option ks line place s f (inr (head, has, h)) =
    behind line place place f (omega arith) (λ other end before shares there. inr (head, there.0, there.1))
    (headed {R = λ (other : List ℕ). Misgiven other head s head.keyword f} ks line place head f has
    (misgiven line head s head.keyword f (lies ks line place head has) h))

faults_behind : (ks : List Keyword) (line : List ℕ) (heads : List Head) (place : ℕ) (s : Settings) (f : GrammarFault) → FaultsBehind ks line place s heads f
    → Decided (λ (other : List ℕ). FaultsBehind ks other place s heads f) line place f
faults_behind ks line [] place s f h = no_option ks line place s f h
faults_behind ks line (head ∷ heads) place s f (has, (more, gives, rest)) =
    let ord = order line place head.word has.next in
    behind line place head.word.end f (omega arith)
    (λ other end before shares there. (
      keeps_head ks line other place head end before shares has,
      (more, keeps_option line other head s head.keyword more end before shares gives, there),
    ))
    (faults_behind ks line heads head.word.end more f rest)

-- ---- lines

faults_rest : (rest : Rest) (line : List ℕ) (place : ℕ) (f : GrammarFault) → FaultsRest rest line place f
    → Decided (λ (other : List ℕ). FaultsRest rest other place f) line place f
faults_rest the_end line place f h = too_many line place f h
faults_rest (a_name_then rest) line place f (inl h) = behind line place place f (omega arith) (λ other end before shares there. inl there)
    (no_name line place f h)
faults_rest (a_name_then rest) line place f (inr (after, (q, is), h)) =
    let ord = order line place is.0 is.1 in
    let far : after ≡ is.0.end = is.3 in
    behind line place after f (omega arith) (λ other end before shares there. inr (after, (q, keeps_name line other place after q end before shares is), there))
    (faults_rest rest line after f h)
faults_rest (a_request_then rest) line place f (inl h) = behind line place place f (omega arith) (λ other end before shares there. inl there)
    (no_request line place f h)
faults_rest (a_request_then rest) line place f (inr (after, (r, is), h)) =
    let ord = order line place is.0 is.1 in
    let far : after ≡ is.0.end = is.3 in
    behind line place after f (omega arith) (λ other end before shares there. inr
    (after, (r, keeps_request line other place after r end before shares is), there)) (faults_rest rest line after f h)
faults_rest (a_setting keyword v) line place f (inl h) = behind line place place f (omega arith) (λ other end before shares there. inl there)
    (no_head (keyword ∷ []) line place f h)
faults_rest (a_setting keyword v) line place f (inr (head, has, inl h)) =
    behind line place place f (omega arith) (λ other end before shares there. inr (head, there.0, inl there.1))
    (headed {R = λ (other : List ℕ). Misstands (Some v) other head f} (keyword ∷ []) line place head f has
    (misstands (Some v) line head f (lies (keyword ∷ []) line place head has) h))
faults_rest (a_setting keyword v) line place f (inr (head, has, inr (stands, h))) =
    let ord = order line place head.word has.next in
    behind line place head.word.end f (omega arith)
    (λ other end before shares there. inr (
      head,
      keeps_head (keyword ∷ []) line other place head end before shares has,
      inr
          (keeps_value (Some v) line other head end before shares stands, there),
    ))
    (too_many line head.word.end f h)
faults_rest (some_options ks) line place f h = behind line place place f (omega arith) (λ other end before shares there. (h.0, there))
    (faults_behind ks line h.0 place no_settings f h.1)

faults_from : (v : Option Value) (rest : Rest) (line : List ℕ) (head : Head) (f : GrammarFault) → Lies head → FaultsFrom v rest line head f
    → Decided (λ (other : List ℕ). FaultsFrom v rest other head f) line head.word.end f
faults_from v rest line head f l (inl h) = behind line head.word.end head.word.end f (omega arith) (λ other end before shares there. inl there)
    (misstands v line head f l h)
faults_from v rest line head f l (inr (stands, h)) =
    behind line head.word.end head.word.end f (omega arith) (λ other end before shares there. inr
    (keeps_value v line other head end before shares stands, there)) (faults_rest rest line head.word.end f h)

faults_shape : (shape : Shape) (line : List ℕ) (head : Head) (f : GrammarFault) → Lies head → FaultsShape shape line head f
    → Decided (λ (other : List ℕ). FaultsShape shape other head f) line head.word.end f
faults_shape nothing line head f l h = inr (head.word, omega arith, (at_start f head.word (ap place_of h) l.ordered, (λ other shares. h)))
faults_shape shape line head f l h = faults_from (value_of shape) (rest_of shape) line head f l h

faults_noun : (line : List ℕ) (place : ℕ) (verb : Keyword) (f : GrammarFault) → FaultsNoun line place verb f
    → Decided (λ (other : List ℕ). FaultsNoun other place verb f) line place f
faults_noun line place verb f (inl h) = behind line place place f (omega arith) (λ other end before shares there. inl there)
    (no_head (nouns verb) line place f h)
faults_noun line place verb f (inr (head, has, h)) =
    behind line place place f (omega arith) (λ other end before shares there. inr (head, there.0, there.1))
    (headed {R = λ (other : List ℕ). FaultsShape (shape_of verb head.keyword) other head f} (nouns verb) line place head f has
    (faults_shape (shape_of verb head.keyword) line head f (lies (nouns verb) line place head has) h))

-- behind a verb with a second keyword
Other : List ℕ → Head → Keyword → GrammarFault → Type 0
Other line verb keyword f = ValueTooMany verb f ⊎ (HasNoValue verb × FaultsNoun line verb.word.end keyword f)

faults_other : (line : List ℕ) (verb : Head) (keyword : Keyword) (f : GrammarFault) → Lies verb → Other line verb keyword f
    → Decided (λ (other : List ℕ). Other other verb keyword f) line verb.word.end f
unfolding Other
faults_other line verb keyword f l (inl h) = behind line verb.word.end verb.word.end f (omega arith) (λ other end before shares there. inl there)
    (value_too_many line verb f l h)
faults_other line verb keyword f l (inr (bare, h)) = behind line verb.word.end verb.word.end f (omega arith)
    (λ other end before shares there. inr (bare, there)) (faults_noun line verb.word.end keyword f h)

faults_verb : (line : List ℕ) (verb : Head) (keyword : Keyword) (f : GrammarFault) → Lies verb → FaultsVerb line verb keyword f
    → Decided (λ (other : List ℕ). FaultsVerb other verb keyword f) line verb.word.end f
unfolding Other
faults_verb line verb k.Shutdown f l h = faults_from None the_end line verb f l h
faults_verb line verb keyword f l h = faults_other line verb keyword f l h

decided : (line : List ℕ) (f : GrammarFault) → Faults line f → Decided (λ (other : List ℕ). Faults other f) line 0 f
decided line f (inl h) = behind line 0 0 f (omega arith) (λ other end before shares there. inl there) (no_head verbs line 0 f h)
decided line f (inr (verb, has, h)) =
    behind line 0 0 f (omega arith) (λ other end before shares there. inr (verb, there.0, there.1))
    (headed {R = λ (other : List ℕ). FaultsVerb other verb verb.keyword f} verbs line 0 verb f has
    (faults_verb line verb verb.keyword f (lies verbs line 0 verb has) h))

pub no_command_begins_so : NoCommandBeginsSo
no_command_begins_so line f h = by (decided line f h)
  where
    by : Decided (λ (other : List ℕ). Faults other f) line 0 f
        → (f ≡ fault.Missing (length line)) ⊎ ((word : Word) × IsAt f word
        × ((other : List ℕ) → SharesWords line other word.end → Faults other f × ((command : Command) → Says other command → ⊥)))
    by (inl e) = inl e
    by (inr t) = inr (t.0, t.2.0, (λ other shares. (t.2.1 other shares, (λ command says. never_both other command f says (t.2.1 other shares)))))
