-- A line of qmgr asks for an edit within its limits, whatever it says.
use Rattle.std.proofs.Common.{◌≡◌, ℕ, zero, suc, Bool, true, false, cond, nat_le, List, [], ◌∷◌, refl, Option, Some, None, option_map, is_some, Ok, Err, IfOk}
use Rattle.std.proofs.Common.{codes}
use Rattle.std.proofs.lemmas.Bool.{and_from}
use Rattle.std.specs.Prelude.{find}
use Rattle.std.specs.List.{AllByRecursion}
use Rattle.std.specs.Option.{option_map_or}
use Rattle.nqs_base.specs.Same.{name_eq}
use Rattle.nqs_types.specs.declared.ids.Named.{Named}
use Rattle.nqs_types.specs.declared.ids.NamedDest.{NamedDest}
use Rattle.nqs_types.specs.declared.event.Command.{Command}
use Rattle.nqs_types.specs.declared.fault.GrammarFault.{GrammarFault}
use Rattle.nqs_types.specs.declared.fault.GrammarFault.TheVariants as fault
use Rattle.nqs_rules.specs.Conf.{at_most}
use Rattle.nqs_rules.specs.Sane.{is_sane_command}
use Rattle.nqs_words.specs.Values.{name_of, number_of, dest_of}
use Rattle.nqs_words.specs.Words.{next_word}
use Rattle.nqs_words.specs.declared.words.Word.{Word}
use Rattle.nqs_words.specs.declared.words.Gaps.TheVariants.{SpacesAndTabs}
use Rattle.nqs_words.specs.declared.keyword.Keyword.{Keyword}
use Rattle.nqs_words.specs.declared.keyword.Keyword.TheVariants as k
use Rattle.nqs_qmgr.specs.declared.head.Head.{Head}
use Rattle.nqs_qmgr.specs.declared.value.Amount.{Amount}
use Rattle.nqs_qmgr.specs.declared.value.Amount.TheVariants.{Count}
use Rattle.nqs_qmgr.specs.declared.options.Settings.{Settings}
use Rattle.nqs_qmgr.specs.Read.{Read, ◌>>=◌, or_fault}
use Rattle.nqs_qmgr.specs.Heads.{name_at, request_at, nothing_after, last_name, head_of, head_at, bare, value_at, valued, limit_of}
use Rattle.nqs_qmgr.specs.Options.{no_settings, once, with_priority, with_run_limit, with_pipe_only, with_destination, with_option, per_word, options}
use Rattle.nqs_qmgr.specs.Shapes.{Shape, nothing, alone, one_name, number, name_value, number_and_name, limit_and_name, two_names, dest_and_name, one_request}
use Rattle.nqs_qmgr.specs.Shapes.{request_and_name, request_and_priority, name_and_forms, made_queue}
use Rattle.nqs_qmgr.specs.Lines.{Line, table, is_line, shape_of, verbs, nouns, read_alone, read_one_name, read_value, read_value_and_name, read_one_request}
use Rattle.nqs_qmgr.specs.Lines.{read_request_and_name, last_value, read_request_and_priority, read_name_and_forms, read_made_queue, read_shape, after_verb}
use Rattle.nqs_qmgr.specs.Lines.{qmgr_line}
use Rattle.nqs_language_acts.specs.Acts.{of_line}
use Rattle.nqs_language_acts.specs.Laws.{EditsAreSane}
use Rattle.nqs_language_acts.proofs.Steps.{each_step, next_step}
use Rattle.nqs_language_acts.proofs.Options.{number_is_between}

abbrev IsSane : Command → Type 0
IsSane c = is_sane_command c ≡ true

-- a number between two
abbrev Between : ℕ → ℕ → ℕ → Type 0
Between low high n = (nat_le low n ≡ true) × (nat_le n high ≡ true)

-- a count, where the amount is one
abbrev Within : Amount → Option ℕ → Type 0
Within Count l = at_most 10000 l ≡ true
Within _ l = Unit {0}

record AreSettled (s : Settings) : Type 0 where
  priority : at_most 63 s.priority ≡ true
  run_limit : at_most 10000 s.run_limit ≡ true

-- all that lines of a shape ask for is within the limits
abbrev Allows : Shape → Type 0
Allows nothing = Unit {0}
Allows (alone c) = IsSane c
Allows (one_name f) = (q : List ℕ) → IsSane (f q)
Allows (number low high f) = (n : ℕ) → Between low high n → IsSane (f n)
Allows (name_value f) = (q : List ℕ) → IsSane (f q)
Allows (number_and_name low high f) = (n : ℕ) (q : List ℕ) → Between low high n → IsSane (f n q)
Allows (limit_and_name amount f) = (l : Option ℕ) (q : List ℕ) → Within amount l → IsSane (f l q)
Allows (two_names f) = (p q : List ℕ) → IsSane (f p q)
Allows (dest_and_name f) = (d : NamedDest) (q : List ℕ) → IsSane (f d q)
Allows (one_request f) = (r : Named) → IsSane (f r)
Allows (request_and_name f) = (r : Named) (q : List ℕ) → IsSane (f r q)
Allows (request_and_priority f) = (r : Named) (n : ℕ) → Between 0 63 n → IsSane (f r n)
Allows (name_and_forms f) = (d g : List ℕ) → IsSane (f d g)
Allows (made_queue keywords f) = (q : List ℕ) (s : Settings) → AreSettled s → IsSane (f q s)

-- ---- the table of lines

infixr 5 ◌&◌
-- the two together
◌&◌ : {A B : Type 0} → A → B → A × B
a & b = (a, b)

-- each line of the table, in its order
each_allows : AllByRecursion (λ (l : Line). Allows l.shape) table
unfolding table
each_allows =
    -- create
    (λ q s h. and_from _ _ h.priority h.run_limit)
    & (λ q s h. and_from _ _ h.priority h.run_limit)
    & (λ q s h. and_from _ _ h.priority h.run_limit)
    & (λ c. refl)
    & (λ d f. refl)
    -- delete
    & (λ q. refl)
    & (λ c. refl)
    & (λ d. refl)
    & (λ r. refl)
    -- enable
    & (λ q. refl)
    & (λ d. refl)
    -- disable
    & (λ q. refl)
    & (λ d. refl)
    -- start
    & (λ q. refl)
    -- stop
    & (λ q. refl)
    -- purge
    & (λ q. refl)
    -- abort
    & (λ q. refl)
    -- set
    & (λ n q h. h.1)
    & (λ n q h. h.1)
    & (λ l q h. h)
    & (λ l q h. refl)
    & (λ l q h. refl)
    & (λ n c h. h.1)
    & (λ n h. h.1)
    & (λ f d. refl)
    & (λ q. refl)
    & (λ q. refl)
    & (λ q. refl)
    & refl
    & (λ n h. and_from _ _ h.0 h.1)
    & (λ n h. and_from _ _ h.0 h.1)
    -- add
    & (λ d q. refl)
    & (λ q c. refl)
    & (λ d q. refl)
    & (λ u q. refl)
    & (λ u. refl)
    & (λ u. refl)
    -- remove
    & (λ d q. refl)
    & (λ q c. refl)
    & (λ d q. refl)
    & (λ u q. refl)
    & (λ u. refl)
    & (λ u. refl)
    -- first
    & (λ d q. refl)
    -- hold
    & (λ r. refl)
    -- release
    & (λ r. refl)
    -- move
    & (λ r q. refl)
    -- modify
    & (λ r n h. h.1)
    -- show
    & refl
    & refl
    & refl
    & refl
    & refl
    & (λ r. refl)
    & tt

-- and what stands behind two keywords, which is that of the first such line
found_allows : (test : Line → Bool) (lines : List Line) → AllByRecursion (λ (l : Line). Allows l.shape) lines
    → Allows (option_map_or (λ (l : Line). l.shape) (find test lines) nothing)
found_allows test [] h = tt
found_allows test (line ∷ lines) h = by (test line) (found_allows test lines h.1)
  where
    by : (t : Bool) → Allows (option_map_or (λ (l : Line). l.shape) (find test lines) nothing)
        → Allows (option_map_or (λ (l : Line). l.shape) (cond t (Some line) (find test lines)) nothing)
    by true later = h.0
    by false later = later

shape_allows : (verb noun : Keyword) → Allows (shape_of verb noun)
unfolding shape_of
shape_allows verb noun = found_allows (is_line verb noun) table each_allows

-- ---- values

or_read : {A : Type 0} (P : A → Type 0) (o : Option A) (why : GrammarFault) → ((a : A) → o ≡ Some a → P a) → IfOk (or_fault o why) P
or_read P (Some a) why h = h a refl
or_read P None why h = tt

-- all that a text may be read as
abbrev Reads : {A : Type 0} → (List ℕ → Option A) → (A → Type 0) → Type 0
Reads {A} read P = (text : List ℕ) (a : A) → read text ≡ Some a → P a

value_read : {A : Type 0} (P : A → Type 0) (read : List ℕ → Option A) (bad : ℕ → GrammarFault) (line : List ℕ) (head : Head) → Reads read P
    → IfOk (valued read bad line head) P
unfolding valued
value_read P read bad line head h = each_step P (value_at head) _ (λ place is. or_read P _ (bad place) (h _))

last_value_read : {A : Type 0} (P : A → Type 0) (read : List ℕ → Option A) (bad : ℕ → GrammarFault) (line : List ℕ) (head : Head) → Reads read P
    → IfOk (read_value read bad line head) P
unfolding read_value
last_value_read P read bad line head h = next_step P P (valued read bad line head) _ (value_read P read bad line head h)
    (λ a p. each_step P (nothing_after line head.word.end) _ (λ done is. p))

named_value_read : {A : Type 0} (P : A → Type 0) (read : List ℕ → Option A) (bad : ℕ → GrammarFault) (line : List ℕ) (head : Head) → Reads read P
    → IfOk (read_value_and_name read bad line head) (λ p. P p.0)
unfolding read_value_and_name
named_value_read P read bad line head h = next_step P (λ p. P p.0) (valued read bad line head) _ (value_read P read bad line head h)
    (λ a p. each_step (λ p. P p.0) (last_name line head.word.end) _ (λ name is. p))

priority_read : (line : List ℕ) (head : Head) → IfOk (read_request_and_priority line head) (λ p. Between 0 63 p.1)
unfolding read_request_and_priority last_value
priority_read line head =
    each_step Second (bare head) _ (λ place is.
    each_step Second (request_at line place) _ (λ id it.
    next_step (Between 0 63) Second (last_value (number_of 0 63) fault.BadNumber k.Priority line id.1) _
    (each_step (Between 0 63) (head_at (k.Priority ∷ []) line id.1) _ (λ head has. last_value_read (Between 0 63) (number_of 0 63) fault.BadNumber line head
    (number_is_between 0 63)))
    (λ n between. between)))
  where
    Second : Named × ℕ → Type 0
    Second p = Between 0 63 p.1

amount_within : (amount : Amount) → Reads (limit_of amount) (Within amount)
unfolding limit_of
amount_within Count text l e = by (name_eq (codes "none") text) (number_of 0 10000 text) (λ n is. (number_is_between 0 10000 text n is).1) e
  where
    by : (t : Bool) (o : Option ℕ) → ((n : ℕ) → o ≡ Some n → nat_le n 10000 ≡ true) → cond t (Some None) (option_map (λ n. Some n) o) ≡ Some l
        → at_most 10000 l ≡ true
    by true o h e = let same : l ≡ None = cc in rw same refl
    by false (Some n) h e = let same : l ≡ Some n = cc in rw same (h n refl)
    by false None h e = cc
amount_within _ text l e = tt

-- ---- options of a queue

free : {A : Type 0} (P : A → Type 0) (t : Bool) (head : Head) (r : Read A) → IfOk r P → IfOk (once t head >>= (λ first. r)) P
free P t head r h = each_step P (once t head) (λ first. r) (λ first is. h)

option_settled : (line : List ℕ) (head : Head) (s : Settings) (keyword : Keyword) → AreSettled s → IfOk (with_option line head s keyword) AreSettled
unfolding with_option with_priority with_run_limit with_pipe_only with_destination
option_settled line head s k.Priority h =
    free AreSettled (is_some s.priority) head _ (next_step (Between 0 63) AreSettled (valued (number_of 0 63) fault.BadNumber line head) _
    (value_read (Between 0 63) (number_of 0 63) fault.BadNumber line head (number_is_between 0 63))
    (λ n between. record { priority = between.1; run_limit = h.run_limit }))
option_settled line head s k.RunLimit h =
    free AreSettled (is_some s.run_limit) head _ (next_step (Between 0 10000) AreSettled (valued (number_of 0 10000) fault.BadNumber line head) _
    (value_read (Between 0 10000) (number_of 0 10000) fault.BadNumber line head (number_is_between 0 10000))
    (λ n between. record { priority = h.priority; run_limit = between.1 }))
option_settled line head s k.PipeOnly h = free AreSettled s.pipe_only head _
    (each_step AreSettled (bare head) _ (λ place is. record { priority = h.priority; run_limit = h.run_limit }))
option_settled line head s k.Destination h =
    free AreSettled (is_some s.destination) head _ (each_step AreSettled (valued dest_of fault.BadName line head) _
    (λ d is. record { priority = h.priority; run_limit = h.run_limit }))
option_settled line head s _ h = tt

word_settled : (word : Option Word) (last : Read Settings) (next : Word → Read Settings) → IfOk last AreSettled → ((w : Word) → IfOk (next w) AreSettled)
    → IfOk (per_word word last next) AreSettled
word_settled None last next l n = l
word_settled (Some word) last next l n = n word

options_settled : (left : ℕ) (keywords : List Keyword) (line : List ℕ) (place : ℕ) (s : Settings) → AreSettled s
    → IfOk (options left keywords line place s) AreSettled
unfolding options
options_settled zero keywords line place s h = tt
options_settled (suc left) keywords line place s h =
    word_settled (next_word SpacesAndTabs line place) (Ok s) _ h (λ word.
    each_step AreSettled (head_of keywords line word) _ (λ head is.
    next_step AreSettled AreSettled (with_option line head s head.keyword) _ (option_settled line head s head.keyword h)
    (λ more settled. options_settled left keywords line word.end more settled)))

made_settled : (keywords : List Keyword) (line : List ℕ) (head : Head) → IfOk (read_made_queue keywords line head) (λ p. AreSettled p.1)
unfolding read_made_queue
made_settled keywords line head =
    each_step Second (bare head) _ (λ place is.
    each_step Second (name_at line place) _ (λ name it.
    next_step AreSettled Second (options 5 keywords line name.1 no_settings) _
    (options_settled 5 keywords line name.1 no_settings (record { priority = refl; run_limit = refl })) (λ s settled. settled)))
  where
    Second : List ℕ × Settings → Type 0
    Second p = AreSettled p.1

-- ---- lines

shape_read : (s : Shape) (line : List ℕ) (head : Head) → Allows s → IfOk (read_shape s line head) IsSane
unfolding read_shape
shape_read nothing line head h = tt
shape_read (alone c) line head h = each_step IsSane (read_alone line head) _ (λ done is. h)
shape_read (one_name f) line head h = each_step IsSane (read_one_name line head) _ (λ q is. h q)
shape_read (number low high f) line head h = next_step (Between low high) IsSane (read_value (number_of low high) fault.BadNumber line head) _
    (last_value_read (Between low high) (number_of low high) fault.BadNumber line head (number_is_between low high)) (λ n between. h n between)
shape_read (name_value f) line head h = each_step IsSane (read_value name_of fault.BadName line head) _ (λ q is. h q)
shape_read (number_and_name low high f) line head h =
    next_step (λ (p : ℕ × List ℕ). Between low high p.0) IsSane (read_value_and_name (number_of low high) fault.BadNumber line head) _
    (named_value_read (Between low high) (number_of low high) fault.BadNumber line head (number_is_between low high)) (λ p between. h p.0 p.1 between)
shape_read (limit_and_name amount f) line head h =
    next_step (λ (p : Option ℕ × List ℕ). Within amount p.0) IsSane (read_value_and_name (limit_of amount) fault.BadNumber line head) _
    (named_value_read (Within amount) (limit_of amount) fault.BadNumber line head (amount_within amount)) (λ p within. h p.0 p.1 within)
shape_read (two_names f) line head h = each_step IsSane (read_value_and_name name_of fault.BadName line head) _ (λ p is. h p.0 p.1)
shape_read (dest_and_name f) line head h = each_step IsSane (read_value_and_name dest_of fault.BadName line head) _ (λ p is. h p.0 p.1)
shape_read (one_request f) line head h = each_step IsSane (read_one_request line head) _ (λ r is. h r)
shape_read (request_and_name f) line head h = each_step IsSane (read_request_and_name line head) _ (λ p is. h p.0 p.1)
shape_read (request_and_priority f) line head h = next_step (λ (p : Named × ℕ). Between 0 63 p.1) IsSane (read_request_and_priority line head) _
    (priority_read line head) (λ p between. h p.0 p.1 between)
shape_read (name_and_forms f) line head h = each_step IsSane (read_name_and_forms line head) _ (λ p is. h p.0 p.1)
shape_read (made_queue keywords f) line head h = next_step (λ (p : List ℕ × Settings). AreSettled p.1) IsSane (read_made_queue keywords line head) _
    (made_settled keywords line head) (λ p settled. h p.0 p.1 settled)

other_read : (line : List ℕ) (verb : Head) (keyword : Keyword) → IfOk (bare verb >>=
    (λ place. head_at (nouns keyword) line place >>= (λ head. read_shape (shape_of keyword head.keyword) line head))) IsSane
other_read line verb keyword =
    each_step IsSane (bare verb) _ (λ place is. each_step IsSane (head_at (nouns keyword) line place) _
    (λ head has. shape_read (shape_of keyword head.keyword) line head (shape_allows keyword head.keyword)))

verb_read : (line : List ℕ) (verb : Head) (keyword : Keyword) → IfOk (after_verb line verb keyword) IsSane
unfolding after_verb
verb_read line verb k.Shutdown = each_step IsSane (read_alone line verb) _ (λ done is. refl)
verb_read line verb keyword = other_read line verb keyword

line_read : (line : List ℕ) → IfOk (qmgr_line line) IsSane
unfolding qmgr_line
line_read line = each_step IsSane (head_at verbs line 0) _ (λ verb has. verb_read line verb verb.keyword)

pub edits_are_sane : EditsAreSane
edits_are_sane line = by (qmgr_line line) (line_read line)
  where
    by : (r : Read Command) → IfOk r IsSane → is_sane_command (of_line r) ≡ true
    by (Ok c) h = h
    by (Err why) h = refl
