-- Each shape means what the grammar says of it.
use Rattle.std.proofs.Common.{◌≡◌, ℕ, zero, suc, ◌+◌, ◌<◌, List, [], ◌∷◌, arith, refl, ap, sym, subst, Some, None, Option, Ok, Bool, true, false, is_some}
use Rattle.nqs_base.proofs.Readings.{bound}
use Rattle.nqs_types.specs.declared.ids.Named.{Named}
use Rattle.nqs_types.specs.declared.ids.NamedDest.{NamedDest}
use Rattle.nqs_types.specs.declared.event.Command.{Command}
use Rattle.nqs_types.specs.declared.event.Command.TheVariants as command
use Rattle.nqs_types.specs.declared.fault.GrammarFault.{GrammarFault}
use Rattle.nqs_types.specs.declared.fault.GrammarFault.TheVariants as fault
use Rattle.nqs_words.specs.Words.{next_word}
use Rattle.nqs_words.specs.Values.{name_of, number_of, dest_of}
use Rattle.nqs_words.specs.declared.words.Word.{Word}
use Rattle.nqs_words.specs.declared.words.Gaps.TheVariants.{SpacesAndTabs}
use Rattle.nqs_words.specs.declared.keyword.Keyword.{Keyword}
use Rattle.nqs_words.specs.declared.keyword.Keyword.TheVariants as k
use Rattle.nqs_words.proofs.Missing.{missing, missing_one}
use Rattle.nqs_qmgr.specs.declared.head.Head.{Head}
use Rattle.nqs_qmgr.specs.declared.options.Settings.{Settings}
use Rattle.nqs_qmgr.specs.Read.{Read, ◌>>=◌}
use Rattle.nqs_qmgr.specs.Heads.{name_at, request_at, nothing_after, last_name, head_of, head_at, bare, valued, limit_of}
use Rattle.nqs_qmgr.specs.Options.{once, with_priority, with_run_limit, with_pipe_only, with_destination, with_option, per_word, options, no_settings}
use Rattle.nqs_qmgr.specs.Shapes.{Shape, nothing, alone, one_name, number, name_value, number_and_name, limit_and_name, two_names, dest_and_name, one_request}
use Rattle.nqs_qmgr.specs.Shapes.{request_and_name, request_and_priority, name_and_forms, made_queue}
use Rattle.nqs_qmgr.specs.Lines.{read_alone, read_one_name, read_value, read_value_and_name, last_value, read_one_request, read_request_and_name}
use Rattle.nqs_qmgr.specs.Lines.{read_request_and_priority, read_name_and_forms, read_made_queue, read_shape, shape_of, verbs, nouns, after_verb, qmgr_line}
use Rattle.nqs_qmgr.specs.Says.{HasHead, HasNoValue, Given, Ends, NameIs, RequestIs, LastName, Alone, OneName, ValueAlone, ValueAndName, LastValue, RequestThen}
use Rattle.nqs_qmgr.specs.Says.{NameThen, OneRequest, GivesOption, GiveOptions, Options, HasShape, AfterVerb}
use Rattle.nqs_qmgr.specs.Law.{ReadsWhatIsSaid}
use Rattle.nqs_qmgr.proofs.Means.{Means, means-bind, means-map, means-then, means-last, means-pair, means-pair-after, means-ended, means-Ok}
use Rattle.nqs_qmgr.proofs.Said.{means-end, means-name, means-request, means-last_name, head_of-Ok, head_of-has, means-head, means-bare, means-valued}

-- ---- shapes without options

means-alone : (line : List ℕ) (head : Head) → Means (read_alone line head) (λ (u : Unit {0}). Alone line head)
unfolding read_alone
means-alone line head = means-bare head (nothing_after line) (λ (u : Unit {0}). Ends line head.word.end) (means-end line head.word.end)

means-one_name : (line : List ℕ) (head : Head) → Means (read_one_name line head) (OneName line head)
unfolding read_one_name
means-one_name line head = means-bare head (last_name line) (LastName line head.word.end) (means-last_name line head.word.end)

means-value : {A : Type 0} (read : List ℕ → Option A) (bad : ℕ → GrammarFault) (line : List ℕ) (head : Head)
    → Means (read_value read bad line head) (ValueAlone read line head)
unfolding read_value
means-value read bad line head =
    means-ended (valued read bad line head) (nothing_after line head.word.end) (Given read line head) (Ends line head.word.end)
    (means-valued read bad line head) (means-end line head.word.end)

means-value_and_name : {A : Type 0} (read : List ℕ → Option A) (bad : ℕ → GrammarFault) (line : List ℕ) (head : Head)
    → Means (read_value_and_name read bad line head) (ValueAndName read line head)
unfolding read_value_and_name
means-value_and_name read bad line head =
    means-pair (valued read bad line head) (last_name line head.word.end) (Given read line head) (LastName line head.word.end) (means-valued read bad line head)
    (means-last_name line head.word.end)

means-last_value : {A : Type 0} (read : List ℕ → Option A) (bad : ℕ → GrammarFault) (keyword : Keyword) (line : List ℕ) (place : ℕ)
    → Means (last_value read bad keyword line place) (LastValue read keyword line place)
unfolding last_value
means-last_value read bad keyword line place =
    means-bind (head_at (keyword ∷ []) line place) (read_value read bad line) (HasHead (keyword ∷ []) line place) (ValueAlone read line)
    (means-head (keyword ∷ []) line place) (means-value read bad line)

means-one_request : (line : List ℕ) (head : Head) → Means (read_one_request line head) (OneRequest line head)
unfolding read_one_request
means-one_request line head =
    means-bare head f (λ (r : Named). (after : ℕ) × RequestIs line head.word.end (r, after) × Ends line after)
    (means-last (request_at line head.word.end) (nothing_after line) (RequestIs line head.word.end) (Ends line) (means-request line head.word.end)
    (means-end line))
  where
    f : ℕ → Read Named
    f place = request_at line place >>= (λ id. nothing_after line id.1 >>= (λ done. Ok id.0))

-- a request, and what is read behind it
request_then : {A : Type 0} (line : List ℕ) (head : Head) (s : ℕ → Read A) (Follows : ℕ → A → Type 0) → ((place : ℕ) → Means (s place) (Follows place))
    → Means (bare head >>= (λ place. request_at line place >>= (λ id. s id.1 >>= (λ a. Ok (id.0, a))))) (RequestThen Follows line head)
request_then {A} line head s Follows hs =
    means-bare head f (λ (z : Named × A). (after : ℕ) × RequestIs line head.word.end (z.0, after) × Follows after z.1)
    (means-pair-after (request_at line head.word.end) s (RequestIs line head.word.end) Follows (means-request line head.word.end) hs)
  where
    f : ℕ → Read (Named × A)
    f place = request_at line place >>= (λ id. s id.1 >>= (λ a. Ok (id.0, a)))

name_then : {A : Type 0} (line : List ℕ) (head : Head) (s : ℕ → Read A) (Follows : ℕ → A → Type 0) → ((place : ℕ) → Means (s place) (Follows place))
    → Means (bare head >>= (λ place. name_at line place >>= (λ name. s name.1 >>= (λ a. Ok (name.0, a))))) (NameThen Follows line head)
name_then {A} line head s Follows hs =
    means-bare head f (λ (z : List ℕ × A). (after : ℕ) × NameIs line head.word.end (z.0, after) × Follows after z.1)
    (means-pair-after (name_at line head.word.end) s (NameIs line head.word.end) Follows (means-name line head.word.end) hs)
  where
    f : ℕ → Read (List ℕ × A)
    f place = name_at line place >>= (λ name. s name.1 >>= (λ a. Ok (name.0, a)))

means-request_and_name : (line : List ℕ) (head : Head) → Means (read_request_and_name line head) (RequestThen (LastName line) line head)
unfolding read_request_and_name
means-request_and_name line head = request_then line head (last_name line) (LastName line) (means-last_name line)

means-request_and_priority : (line : List ℕ) (head : Head) → Means (read_request_and_priority line head)
    (RequestThen (LastValue (number_of 0 63) k.Priority line) line head)
unfolding read_request_and_priority
means-request_and_priority line head =
    request_then line head (last_value (number_of 0 63) fault.BadNumber k.Priority line) (LastValue (number_of 0 63) k.Priority line)
    (means-last_value (number_of 0 63) fault.BadNumber k.Priority line)

means-name_and_forms : (line : List ℕ) (head : Head) → Means (read_name_and_forms line head) (NameThen (LastValue name_of k.Forms line) line head)
unfolding read_name_and_forms
means-name_and_forms line head =
    name_then line head (last_value name_of fault.BadName k.Forms line) (LastValue name_of k.Forms line) (means-last_value name_of fault.BadName k.Forms line)

-- ---- options

means-once : {B : Type 0} (t : Bool) (head : Head) (r : Read B) (P : B → Type 0) → Means r P
    → Means (once t head >>= (λ first. r)) (λ (b : B). (t ≡ false) × P b)
unfolding once
means-once true head r P hr b = (λ e. cc, λ h. let no = h.0 in cc)
means-once false head r P hr b = (λ e. (refl, (hr b).0 e), λ h. (hr b).1 h.1)

pub means-option : (line : List ℕ) (head : Head) (s : Settings) (keyword : Keyword) → Means (with_option line head s keyword) (GivesOption line head s keyword)
unfolding with_option with_priority with_run_limit with_pipe_only with_destination
means-option line head s k.Priority =
    means-once (is_some s.priority) head (valued (number_of 0 63) fault.BadNumber line head >>= (λ n. Ok (record s { priority = Some n }))) _
    (means-map (valued (number_of 0 63) fault.BadNumber line head) (λ (n : ℕ). record s { priority = Some n }) (Given (number_of 0 63) line head)
    (means-valued (number_of 0 63) fault.BadNumber line head))
means-option line head s k.RunLimit =
    means-once (is_some s.run_limit) head (valued (number_of 0 10000) fault.BadNumber line head >>= (λ n. Ok (record s { run_limit = Some n }))) _
    (means-map (valued (number_of 0 10000) fault.BadNumber line head) (λ (n : ℕ). record s { run_limit = Some n }) (Given (number_of 0 10000) line head)
    (means-valued (number_of 0 10000) fault.BadNumber line head))
means-option line head s k.PipeOnly =
    means-once s.pipe_only head (bare head >>= (λ place. Ok (record s { pipe_only = true }))) _
    (means-bare head (λ (place : ℕ). Ok (record s { pipe_only = true })) (λ (b : Settings). b ≡ record s { pipe_only = true })
    (means-Ok (record s { pipe_only = true })))
means-option line head s k.Destination =
    means-once (is_some s.destination) head (valued dest_of fault.BadName line head >>= (λ d. Ok (record s { destination = Some d }))) _
    (means-map (valued dest_of fault.BadName line head) (λ (d : NamedDest). record s { destination = Some d }) (Given dest_of line head)
    (means-valued dest_of fault.BadName line head))
means-option line head s _ = λ (more : Settings). (λ e. cc, λ h. absurd h)

-- how many options aren't given
abbrev pub left : Settings → ℕ
left s = missing (is_some s.priority) + missing (is_some s.run_limit) + missing s.pipe_only + missing (is_some s.destination)

pub fewer : (line : List ℕ) (head : Head) (s : Settings) (keyword : Keyword) (more : Settings) → GivesOption line head s keyword more → left more + 1 ≡ left s
unfolding missing
fewer line head s k.Priority more h = let e = ap left h.1.2 in let g = missing_one (is_some s.priority) h.0 in omega arith
fewer line head s k.RunLimit more h = let e = ap left h.1.2 in let g = missing_one (is_some s.run_limit) h.0 in omega arith
fewer line head s k.PipeOnly more h = let e = ap left h.1.1 in let g = missing_one s.pipe_only h.0 in omega arith
fewer line head s k.Destination more h = let e = ap left h.1.2 in let g = missing_one (is_some s.destination) h.0 in omega arith
fewer line head s _ more h = absurd h

abbrev Rest : ℕ → List Keyword → List ℕ → Settings → Word → Read Settings
Rest n ks line s word = head_of ks line word >>= (λ head. with_option line head s head.keyword >>= (λ more. options n ks line word.end more))

options-Ok : (n : ℕ) (ks : List Keyword) (line : List ℕ) (place : ℕ) (s all : Settings) → options n ks line place s ≡ Ok all
    → (heads : List Head) × GiveOptions ks line place s heads all
unfolding options
options-Ok zero ks line place s all e = cc
options-Ok (suc n) ks line place s all e = by (options-Ok n ks line) (next_word SpacesAndTabs line place) refl e
  where
    by : ((place : ℕ) (s all : Settings) → options n ks line place s ≡ Ok all → (heads : List Head) × GiveOptions ks line place s heads all)
        → (o : Option Word) → next_word SpacesAndTabs line place ≡ o → per_word o (Ok s) (Rest n ks line s) ≡ Ok all
        → (heads : List Head) × GiveOptions ks line place s heads all
    by others None is h = let same : all ≡ s = cc in ([], (is, same))
    by others (Some word) is h =
        let g : Head → Read Settings = λ head. with_option line head s head.keyword >>= (λ more. options n ks line word.end more) in
        let b = bound (head_of ks line word) g all h in
        let d = bound (with_option line b.0 s b.0.keyword) (λ more. options n ks line word.end more) all b.2 in
        let has = head_of-Ok ks line place word b.0 is b.1 in
        let at : word ≡ b.0.word = cc in
        let rest = others word.end d.0 all d.2 in
        (b.0 ∷ rest.0, (has, (d.0, (means-option line b.0 s b.0.keyword d.0).0 d.1, subst (λ (w : Word). GiveOptions ks line w.end d.0 rest.0 all) at rest.1)))

options-has : (n : ℕ) (ks : List Keyword) (line : List ℕ) (heads : List Head) (place : ℕ) (s all : Settings) → left s < n
    → GiveOptions ks line place s heads all → options n ks line place s ≡ Ok all
unfolding options
options-has zero ks line heads place s all less h = absurd (omega arith)
options-has (suc n) ks line [] place s all less h = rw h.0 (ap (λ (x : Settings). Ok x) (sym h.1))
options-has (suc n) ks line (head ∷ heads) place s all less (has, (more, gives, rest)) =
    let few = fewer line head s head.keyword more gives in
    rw (has.next, head_of-has ks line place head has, (means-option line head s head.keyword more).1 gives)
    (options-has n ks line heads head.word.end more all (omega arith) rest)

means-options : (ks : List Keyword) (line : List ℕ) (place : ℕ) → Means (options 5 ks line place no_settings) (Options ks line place)
unfolding missing
means-options ks line place all = (options-Ok 5 ks line place no_settings all, λ h. options-has 5 ks line h.0 place no_settings all (omega arith) h.1)

means-made_queue : (ks : List Keyword) (line : List ℕ) (head : Head) → Means (read_made_queue ks line head) (NameThen (Options ks line) line head)
unfolding read_made_queue
means-made_queue ks line head = name_then line head (λ (place : ℕ). options 5 ks line place no_settings) (Options ks line) (means-options ks line)

-- ---- lines

means-shape : (s : Shape) (line : List ℕ) (head : Head) → Means (read_shape s line head) (HasShape s line head)
unfolding read_shape
means-shape nothing line head = λ (c : Command). (λ e. cc, λ h. absurd h)
means-shape (alone d) line head = means-then (read_alone line head) (λ (u : Unit {0}). Ok d) (Alone line head) (λ (c : Command). c ≡ d) (means-alone line head)
    (means-Ok d)
means-shape (one_name f) line head = means-map (read_one_name line head) f (OneName line head) (means-one_name line head)
means-shape (number low high f) line head = means-map (read_value (number_of low high) fault.BadNumber line head) f (ValueAlone (number_of low high) line head)
    (means-value (number_of low high) fault.BadNumber line head)
means-shape (name_value f) line head = means-map (read_value name_of fault.BadName line head) f (ValueAlone name_of line head)
    (means-value name_of fault.BadName line head)
means-shape (number_and_name low high f) line head = means-map (read_value_and_name (number_of low high) fault.BadNumber line head)
    (λ (p : ℕ × List ℕ). f p.0 p.1) (ValueAndName (number_of low high) line head) (means-value_and_name (number_of low high) fault.BadNumber line head)
means-shape (limit_and_name amount f) line head = means-map (read_value_and_name (limit_of amount) fault.BadNumber line head)
    (λ (p : Option ℕ × List ℕ). f p.0 p.1) (ValueAndName (limit_of amount) line head) (means-value_and_name (limit_of amount) fault.BadNumber line head)
means-shape (two_names f) line head = means-map (read_value_and_name name_of fault.BadName line head) (λ (p : List ℕ × List ℕ). f p.0 p.1)
    (ValueAndName name_of line head) (means-value_and_name name_of fault.BadName line head)
means-shape (dest_and_name f) line head = means-map (read_value_and_name dest_of fault.BadName line head) (λ (p : NamedDest × List ℕ). f p.0 p.1)
    (ValueAndName dest_of line head) (means-value_and_name dest_of fault.BadName line head)
means-shape (one_request f) line head = means-map (read_one_request line head) f (OneRequest line head) (means-one_request line head)
means-shape (request_and_name f) line head = means-map (read_request_and_name line head) (λ (p : Named × List ℕ). f p.0 p.1)
    (RequestThen (LastName line) line head) (means-request_and_name line head)
means-shape (request_and_priority f) line head = means-map (read_request_and_priority line head) (λ (p : Named × ℕ). f p.0 p.1)
    (RequestThen (LastValue (number_of 0 63) k.Priority line) line head) (means-request_and_priority line head)
means-shape (name_and_forms f) line head = means-map (read_name_and_forms line head) (λ (p : List ℕ × List ℕ). f p.0 p.1)
    (NameThen (LastValue name_of k.Forms line) line head) (means-name_and_forms line head)
means-shape (made_queue ks f) line head = means-map (read_made_queue ks line head) (λ (p : List ℕ × Settings). f p.0 p.1) (NameThen (Options ks line) line head)
    (means-made_queue ks line head)

Other : List ℕ → Head → Keyword → Command → Type 0
Other line verb keyword c = HasNoValue verb × ((head : Head) × HasHead (nouns keyword) line verb.word.end head
    × HasShape (shape_of keyword head.keyword) line head c)

means-other : (line : List ℕ) (verb : Head) (keyword : Keyword) → Means (bare verb >>=
    (λ place. head_at (nouns keyword) line place >>= (λ head. read_shape (shape_of keyword head.keyword) line head))) (Other line verb keyword)
unfolding Other
means-other line verb keyword =
    means-bare verb f (λ (c : Command). (head : Head) × HasHead (nouns keyword) line verb.word.end head × HasShape (shape_of keyword head.keyword) line head c)
    (means-bind (head_at (nouns keyword) line verb.word.end) (λ (head : Head). read_shape (shape_of keyword head.keyword) line head)
    (HasHead (nouns keyword) line verb.word.end) (λ (head : Head). HasShape (shape_of keyword head.keyword) line head)
    (means-head (nouns keyword) line verb.word.end) (λ (head : Head). means-shape (shape_of keyword head.keyword) line head))
  where
    f : ℕ → Read Command
    f place = head_at (nouns keyword) line place >>= (λ head. read_shape (shape_of keyword head.keyword) line head)

means-after : (line : List ℕ) (verb : Head) (keyword : Keyword) → Means (after_verb line verb keyword) (AfterVerb line verb keyword)
unfolding Other after_verb
means-after line verb k.Shutdown = means-then (read_alone line verb) (λ (u : Unit {0}). Ok command.Shutdown) (Alone line verb)
    (λ (c : Command). c ≡ command.Shutdown) (means-alone line verb) (means-Ok command.Shutdown)
means-after line verb keyword = means-other line verb keyword

pub reads_said : ReadsWhatIsSaid
unfolding qmgr_line
reads_said line =
    means-bind (head_at verbs line 0) (λ (verb : Head). after_verb line verb verb.keyword) (HasHead verbs line 0)
    (λ (verb : Head). AfterVerb line verb verb.keyword) (means-head verbs line 0) (λ (verb : Head). means-after line verb verb.keyword)
