-- Each shape has the faults that the grammar says of it, and each line one command or one first
-- fault.
use Rattle.std.proofs.Common.{◌≡◌, ◌⊎◌, inl, inr, ℕ, zero, suc, ◌<◌, List, [], ◌∷◌, arith, refl, ap, sym, subst, Some, None, Option, Result, Ok, Err, Bool}
use Rattle.std.proofs.Common.{true, false, is_some}
use Rattle.nqs_base.proofs.Readings.{failed}
use Rattle.nqs_types.specs.declared.ids.Named.{Named}
use Rattle.nqs_types.specs.declared.ids.NamedDest.{NamedDest}
use Rattle.nqs_types.specs.declared.event.Command.{Command}
use Rattle.nqs_types.specs.declared.event.Command.TheVariants as command
use Rattle.nqs_types.specs.declared.fault.GrammarFault.{GrammarFault}
use Rattle.nqs_types.specs.declared.fault.GrammarFault.TheVariants as fault
use Rattle.nqs_words.specs.Words.{next_word}
use Rattle.nqs_words.specs.Values.{name_of, number_of, dest_of}
use Rattle.nqs_words.specs.declared.words.Word.{Word}
use Rattle.nqs_words.specs.declared.words.Gaps.TheVariants.{SpacesAndTabs}
use Rattle.nqs_words.specs.declared.keyword.Keyword.{Keyword}
use Rattle.nqs_words.specs.declared.keyword.Keyword.TheVariants as k
use Rattle.nqs_words.proofs.Missing.{missing}
use Rattle.nqs_qmgr.specs.declared.head.Head.{Head}
use Rattle.nqs_qmgr.specs.declared.options.Settings.{Settings}
use Rattle.nqs_qmgr.specs.Read.{Read, ◌>>=◌}
use Rattle.nqs_qmgr.specs.Heads.{name_at, request_at, nothing_after, last_name, head_of, head_at, bare, valued, limit_of}
use Rattle.nqs_qmgr.specs.Options.{once, with_priority, with_run_limit, with_pipe_only, with_destination, with_option, per_word, options, no_settings}
use Rattle.nqs_qmgr.specs.Shapes.{Shape, nothing, alone, one_name, number, name_value, number_and_name, limit_and_name, two_names, dest_and_name, one_request}
use Rattle.nqs_qmgr.specs.Shapes.{request_and_name, request_and_priority, name_and_forms, made_queue}
use Rattle.nqs_qmgr.specs.Lines.{read_alone, read_one_name, read_value, read_value_and_name, last_value, read_one_request, read_request_and_name}
use Rattle.nqs_qmgr.specs.Lines.{read_request_and_priority, read_name_and_forms, read_made_queue, read_shape, shape_of, verbs, nouns, after_verb, qmgr_line}
use Rattle.nqs_qmgr.specs.Says.{HasHead, HasNoValue, Given, NameIs, RequestIs, Says}
use Rattle.nqs_qmgr.specs.Faults.{WordTooMany, NoHead, NoName, NoRequest, ValueTooMany, NoValue, a_number, a_name, the_end, a_name_then, a_request_then}
use Rattle.nqs_qmgr.specs.Faults.{a_setting, some_options, Misgiven, FaultsBehind, FaultsOptions, FaultsRest, FaultsFrom, FaultsShape, FaultsNoun, FaultsVerb}
use Rattle.nqs_qmgr.specs.Faults.{Faults}
use Rattle.nqs_qmgr.specs.Law.{FindsTheFault, SaysOrFaults, NeverBoth, OneCommand, OneFault, Answers}
use Rattle.nqs_qmgr.proofs.Said.{means-name, means-request, head_of-Ok, head_of-has, means-head, means-valued}
use Rattle.nqs_qmgr.proofs.Shapes.{means-option, left, fewer, reads_said}
use Rattle.nqs_qmgr.proofs.Fails.{Fails, fails-bind, fails-then, fails-after, fails-map, fails-end, fails-name, fails-request, fails-head_of}
use Rattle.nqs_qmgr.proofs.Fails.{fails-head, fails-bare, fails-valued}

-- ---- what stands behind a keyword

fails-last_name : (line : List ℕ) (place : ℕ) → Fails (last_name line place) (FaultsRest (a_name_then the_end) line place)
unfolding last_name
fails-last_name line place =
    fails-after (name_at line place) (λ (p : List ℕ × ℕ). nothing_after line p.1 >>= (λ done. Ok p.0)) (NameIs line place) (NoName line place)
    (WordTooMany line) (means-name line place) (fails-name line place)
    (λ (p : List ℕ × ℕ). fails-map (nothing_after line p.1) (λ (done : Unit {0}). p.0) (WordTooMany line p.1) (fails-end line p.1))

-- a request, and what is read behind it
request_then : {A B : Type 0} (line : List ℕ) (place : ℕ) (s : ℕ → Read A) (h : Named → A → B) (G : ℕ → GrammarFault → Type 0)
    → ((after : ℕ) → Fails (s after) (G after))
    → Fails (request_at line place >>= (λ id. s id.1 >>= (λ a. Ok (h id.0 a))))
    (λ (f : GrammarFault). NoRequest line place f ⊎ ((after : ℕ) × ((r : Named) × RequestIs line place (r, after)) × G after f))
request_then {A} {B} line place s h G fails =
    fails-after (request_at line place) (λ (id : Named × ℕ). s id.1 >>= (λ a. Ok (h id.0 a))) (RequestIs line place) (NoRequest line place) G
    (means-request line place) (fails-request line place)
    (λ (id : Named × ℕ). fails-map (s id.1) (h id.0) (G id.1) (fails id.1))

-- a name, and what is read behind it
name_then : {A B : Type 0} (line : List ℕ) (place : ℕ) (s : ℕ → Read A) (h : List ℕ → A → B) (G : ℕ → GrammarFault → Type 0)
    → ((after : ℕ) → Fails (s after) (G after))
    → Fails (name_at line place >>= (λ name. s name.1 >>= (λ a. Ok (h name.0 a))))
    (λ (f : GrammarFault). NoName line place f ⊎ ((after : ℕ) × ((q : List ℕ) × NameIs line place (q, after)) × G after f))
name_then {A} {B} line place s h G fails =
    fails-after (name_at line place) (λ (name : List ℕ × ℕ). s name.1 >>= (λ a. Ok (h name.0 a))) (NameIs line place) (NoName line place) G
    (means-name line place) (fails-name line place)
    (λ (name : List ℕ × ℕ). fails-map (s name.1) (h name.0) (G name.1) (fails name.1))

-- ---- shapes without options

fails-alone : (line : List ℕ) (head : Head) → Fails (read_alone line head) (FaultsFrom None the_end line head)
unfolding read_alone
fails-alone line head = fails-bare head (nothing_after line) (WordTooMany line head.word.end) (fails-end line head.word.end)

fails-one_name : (line : List ℕ) (head : Head) → Fails (read_one_name line head) (FaultsFrom None (a_name_then the_end) line head)
unfolding read_one_name
fails-one_name line head = fails-bare head (last_name line) (FaultsRest (a_name_then the_end) line head.word.end) (fails-last_name line head.word.end)

-- a value, and nothing or a name behind it
abbrev FaultsValue : {A : Type 0} → (List ℕ → Option A) → (ℕ → GrammarFault) → (ℕ → GrammarFault → Type 0) → List ℕ → Head → GrammarFault → Type 0
FaultsValue {A} read bad G line head f = NoValue read bad line head f ⊎ (((a : A) × Given read line head a) × G head.word.end f)

fails-value : {A : Type 0} (read : List ℕ → Option A) (bad : ℕ → GrammarFault) (line : List ℕ) (head : Head)
    → Fails (read_value read bad line head) (FaultsValue read bad (WordTooMany line) line head)
unfolding read_value
fails-value {A} read bad line head =
    fails-then (valued read bad line head) (λ (a : A). nothing_after line head.word.end >>= (λ done. Ok a)) (Given read line head) (NoValue read bad line head)
    (WordTooMany line head.word.end)
    (means-valued read bad line head) (fails-valued read bad line head)
    (λ (a : A). fails-map (nothing_after line head.word.end) (λ (done : Unit {0}). a) (WordTooMany line head.word.end) (fails-end line head.word.end))

fails-value_and_name : {A : Type 0} (read : List ℕ → Option A) (bad : ℕ → GrammarFault) (line : List ℕ) (head : Head)
    → Fails (read_value_and_name read bad line head) (FaultsValue read bad (FaultsRest (a_name_then the_end) line) line head)
unfolding read_value_and_name
fails-value_and_name {A} read bad line head =
    fails-then (valued read bad line head) (λ (a : A). last_name line head.word.end >>= (λ name. Ok (a, name))) (Given read line head)
    (NoValue read bad line head) (FaultsRest (a_name_then the_end) line head.word.end)
    (means-valued read bad line head) (fails-valued read bad line head)
    (λ (a : A). fails-map (last_name line head.word.end) (λ (name : List ℕ). (a, name)) (FaultsRest (a_name_then the_end) line head.word.end)
    (fails-last_name line head.word.end))

fails-last_value : {A : Type 0} (read : List ℕ → Option A) (bad : ℕ → GrammarFault) (keyword : Keyword) (line : List ℕ) (place : ℕ)
    → Fails (last_value read bad keyword line place) (λ (f : GrammarFault). NoHead (keyword ∷ []) line place f
    ⊎ ((head : Head) × HasHead (keyword ∷ []) line place head × FaultsValue read bad (WordTooMany line) line head f))
unfolding last_value
fails-last_value read bad keyword line place =
    fails-bind (head_at (keyword ∷ []) line place) (read_value read bad line) (HasHead (keyword ∷ []) line place) (NoHead (keyword ∷ []) line place)
    (FaultsValue read bad (WordTooMany line) line)
    (means-head (keyword ∷ []) line place) (fails-head (keyword ∷ []) line place) (fails-value read bad line)

fails-one_request : (line : List ℕ) (head : Head) → Fails (read_one_request line head) (FaultsFrom None (a_request_then the_end) line head)
unfolding read_one_request
fails-one_request line head =
    fails-bare head (λ (place : ℕ). request_at line place >>= (λ id. nothing_after line id.1 >>= (λ done. Ok id.0)))
    (FaultsRest (a_request_then the_end) line head.word.end)
    (request_then line head.word.end (nothing_after line) (λ (r : Named) (done : Unit {0}). r) (WordTooMany line) (fails-end line))

fails-request_and_name : (line : List ℕ) (head : Head) → Fails (read_request_and_name line head)
    (FaultsFrom None (a_request_then (a_name_then the_end)) line head)
unfolding read_request_and_name
fails-request_and_name line head =
    fails-bare head (λ (place : ℕ). request_at line place >>= (λ id. last_name line id.1 >>= (λ name. Ok (id.0, name))))
    (FaultsRest (a_request_then (a_name_then the_end)) line head.word.end)
    (request_then line head.word.end (last_name line) (λ (r : Named) (q : List ℕ). (r, q)) (FaultsRest (a_name_then the_end) line) (fails-last_name line))

fails-request_and_priority : (line : List ℕ) (head : Head) → Fails (read_request_and_priority line head)
    (FaultsFrom None (a_request_then (a_setting k.Priority (a_number 0 63))) line head)
unfolding read_request_and_priority
fails-request_and_priority line head =
    fails-bare head (λ (place : ℕ). request_at line place >>= (λ id. last_value (number_of 0 63) fault.BadNumber k.Priority line id.1 >>= (λ n. Ok (id.0, n))))
    (FaultsRest (a_request_then (a_setting k.Priority (a_number 0 63))) line head.word.end)
    (request_then line head.word.end (last_value (number_of 0 63) fault.BadNumber k.Priority line) (λ (r : Named) (n : ℕ). (r, n))
    (FaultsRest (a_setting k.Priority (a_number 0 63)) line) (fails-last_value (number_of 0 63) fault.BadNumber k.Priority line))

fails-name_and_forms : (line : List ℕ) (head : Head) → Fails (read_name_and_forms line head)
    (FaultsFrom None (a_name_then (a_setting k.Forms a_name)) line head)
unfolding read_name_and_forms
fails-name_and_forms line head =
    fails-bare head (λ (place : ℕ). name_at line place >>= (λ name. last_value name_of fault.BadName k.Forms line name.1 >>= (λ forms. Ok (name.0, forms))))
    (FaultsRest (a_name_then (a_setting k.Forms a_name)) line head.word.end)
    (name_then line head.word.end (last_value name_of fault.BadName k.Forms line) (λ (d f : List ℕ). (d, f)) (FaultsRest (a_setting k.Forms a_name) line)
    (fails-last_value name_of fault.BadName k.Forms line))

-- ---- options

fails-once : {B : Type 0} (t : Bool) (head : Head) (r : Read B) (F : GrammarFault → Type 0) → Fails r F
    → Fails (once t head >>= (λ first. r)) (λ (f : GrammarFault). ((t ≡ true) × (f ≡ fault.Extra head.word.start)) ⊎ ((t ≡ false) × F f))
unfolding once
fails-once {B} true head r F fails f = ((λ e. inl (refl, cc)), from)
  where
    from : ((true ≡ true) × (f ≡ fault.Extra head.word.start)) ⊎ ((true ≡ false) × F f) → ◌≡◌ {A = Read B} (Err (fault.Extra head.word.start)) (Err f)
    from (inl h) = ap (λ (y : GrammarFault). Err y) (sym h.1)
    from (inr h) = let no = h.0 in cc
fails-once {B} false head r F fails f = ((λ e. inr (refl, (fails f).0 e)), from)
  where
    from : ((false ≡ true) × (f ≡ fault.Extra head.word.start)) ⊎ ((false ≡ false) × F f) → r ≡ Err f
    from (inl h) = let no = h.0 in cc
    from (inr h) = (fails f).1 h.1

fails-unvalued : (head : Head) (s : Settings) → Fails (bare head >>= (λ place. Ok s)) (ValueTooMany head)
unfolding bare
fails-unvalued head s f = (
  (λ e. to ((fails-bare head (λ (place : ℕ). Ok s) (λ (g : GrammarFault). ⊥)
      (λ (g : GrammarFault). ((λ e. cc), (λ no. absurd no))) f).0 e)),
  λ h.
      (fails-bare head (λ (place : ℕ). Ok s) (λ (g : GrammarFault). ⊥) (λ (g : GrammarFault). ((λ e. cc), (λ no. absurd no))) f).1 (inl h),
)
  where
    to : ValueTooMany head f ⊎ (HasNoValue head × ⊥) → ValueTooMany head f
    to (inl h) = h
    to (inr h) = absurd h.1

fails-option : (line : List ℕ) (head : Head) (s : Settings) (keyword : Keyword) → Fails (with_option line head s keyword) (Misgiven line head s keyword)
unfolding with_option with_priority with_run_limit with_pipe_only with_destination
fails-option line head s k.Priority =
    fails-once (is_some s.priority) head (valued (number_of 0 63) fault.BadNumber line head >>= (λ n. Ok (record s { priority = Some n })))
    (NoValue (number_of 0 63) fault.BadNumber line head)
    (fails-map (valued (number_of 0 63) fault.BadNumber line head) (λ (n : ℕ). record s { priority = Some n })
    (NoValue (number_of 0 63) fault.BadNumber line head) (fails-valued (number_of 0 63) fault.BadNumber line head))
fails-option line head s k.RunLimit =
    fails-once (is_some s.run_limit) head (valued (number_of 0 10000) fault.BadNumber line head >>= (λ n. Ok (record s { run_limit = Some n })))
    (NoValue (number_of 0 10000) fault.BadNumber line head)
    (fails-map (valued (number_of 0 10000) fault.BadNumber line head) (λ (n : ℕ). record s { run_limit = Some n })
    (NoValue (number_of 0 10000) fault.BadNumber line head) (fails-valued (number_of 0 10000) fault.BadNumber line head))
fails-option line head s k.PipeOnly =
    fails-once s.pipe_only head (bare head >>= (λ place. Ok (record s { pipe_only = true }))) (ValueTooMany head)
    (fails-unvalued head (record s { pipe_only = true }))
fails-option line head s k.Destination =
    fails-once (is_some s.destination) head (valued dest_of fault.BadName line head >>= (λ d. Ok (record s { destination = Some d })))
    (NoValue dest_of fault.BadName line head)
    (fails-map (valued dest_of fault.BadName line head) (λ (d : NamedDest). record s { destination = Some d }) (NoValue dest_of fault.BadName line head)
    (fails-valued dest_of fault.BadName line head))
fails-option line head s _ = λ (f : GrammarFault). ((λ e. cc), (λ h. ap (λ (y : GrammarFault). Err y) (sym h)))

options-Err : (n : ℕ) (ks : List Keyword) (line : List ℕ) (place : ℕ) (s : Settings) (f : GrammarFault) → left s < n → options n ks line place s ≡ Err f
    → (heads : List Head) × FaultsBehind ks line place s heads f
unfolding options
options-Err zero ks line place s f less e = absurd (omega arith)
options-Err (suc n) ks line place s f less e = by (options-Err n ks line) (next_word SpacesAndTabs line place) refl e
  where
    Others : Type 0
    Others = (place : ℕ) (s : Settings) (f : GrammarFault) → left s < n → options n ks line place s ≡ Err f
        → (heads : List Head) × FaultsBehind ks line place s heads f

    rest : Word → Head → Read Settings
    rest word head = with_option line head s head.keyword >>= (λ more. options n ks line word.end more)

    given : ((place : ℕ) (s : Settings) (f : GrammarFault) → left s < n → options n ks line place s ≡ Err f
        → (heads : List Head) × FaultsBehind ks line place s heads f)
        → (word : Word) (head : Head) → HasHead ks line place head → word ≡ head.word
        → (with_option line head s head.keyword ≡ Err f) ⊎ ((more : Settings) × (with_option line head s head.keyword ≡ Ok more)
        × (options n ks line word.end more ≡ Err f))
        → (heads : List Head) × FaultsBehind ks line place s heads f
    given others word head has at (inl e) = ([], inr (head, has, (fails-option line head s head.keyword f).0 e))
    given others word head has at (inr (more, gives, e)) =
        let g = (means-option line head s head.keyword more).0 gives in
        let few = fewer line head s head.keyword more g in
        let t = others word.end more f (omega arith) e in
        (head ∷ t.0, (has, (more, g, subst (λ (w : Word). FaultsBehind ks line w.end more t.0 f) at t.1)))

    named : ((place : ℕ) (s : Settings) (f : GrammarFault) → left s < n → options n ks line place s ≡ Err f
        → (heads : List Head) × FaultsBehind ks line place s heads f)
        → (word : Word) → next_word SpacesAndTabs line place ≡ Some word
        → (head_of ks line word ≡ Err f) ⊎ ((head : Head) × (head_of ks line word ≡ Ok head) × (rest word head ≡ Err f))
        → (heads : List Head) × FaultsBehind ks line place s heads f
    named others word is (inl e) = ([], inl (word, is, (fails-head_of ks line word f).0 e))
    named others word is (inr (head, names, e)) =
        let has = head_of-Ok ks line place word head is names in
        let at : word ≡ head.word = let next = has.next in cc in
        given others word head has at (failed (with_option line head s head.keyword) (λ (more : Settings). options n ks line word.end more) f e)

    by : ((place : ℕ) (s : Settings) (f : GrammarFault) → left s < n → options n ks line place s ≡ Err f
        → (heads : List Head) × FaultsBehind ks line place s heads f)
        → (o : Option Word) → next_word SpacesAndTabs line place ≡ o → per_word o (Ok s) (λ (word : Word). head_of ks line word >>= rest word) ≡ Err f
        → (heads : List Head) × FaultsBehind ks line place s heads f
    by others None is h = cc
    by others (Some word) is h = named others word is (failed (head_of ks line word) (rest word) f h)

options-fault : (n : ℕ) (ks : List Keyword) (line : List ℕ) (heads : List Head) (place : ℕ) (s : Settings) (f : GrammarFault) → left s < n
    → FaultsBehind ks line place s heads f → options n ks line place s ≡ Err f
unfolding options
options-fault zero ks line heads place s f less h = absurd (omega arith)
options-fault (suc n) ks line [] place s f less (inl (word, next, names)) = rw (next, (fails-head_of ks line word f).1 names) refl
options-fault (suc n) ks line [] place s f less (inr (head, has, misgiven)) =
    rw (has.next, head_of-has ks line place head has, (fails-option line head s head.keyword f).1 misgiven) refl
options-fault (suc n) ks line (head ∷ heads) place s f less (has, (more, gives, rest)) =
    let few = fewer line head s head.keyword more gives in
    rw (has.next, head_of-has ks line place head has, (means-option line head s head.keyword more).1 gives)
    (options-fault n ks line heads head.word.end more f (omega arith) rest)

fails-options : (ks : List Keyword) (line : List ℕ) (place : ℕ) → Fails (options 5 ks line place no_settings) (FaultsOptions ks line place)
unfolding missing
fails-options ks line place f = (
  options-Err 5 ks line place no_settings f (omega arith),
  λ h. options-fault 5 ks line h.0 place no_settings f
      (omega arith) h.1,
)

fails-made_queue : (ks : List Keyword) (line : List ℕ) (head : Head) → Fails (read_made_queue ks line head)
    (FaultsFrom None (a_name_then (some_options ks)) line head)
unfolding read_made_queue
fails-made_queue ks line head =
    fails-bare head (λ (place : ℕ). name_at line place >>= (λ name. options 5 ks line name.1 no_settings >>= (λ settings. Ok (name.0, settings))))
    (FaultsRest (a_name_then (some_options ks)) line head.word.end)
    (name_then line head.word.end (λ (place : ℕ). options 5 ks line place no_settings) (λ (q : List ℕ) (s : Settings). (q, s))
    (FaultsRest (some_options ks) line) (fails-options ks line))

-- ---- lines

fails-shape : (s : Shape) (line : List ℕ) (head : Head) → Fails (read_shape s line head) (FaultsShape s line head)
unfolding read_shape
fails-shape nothing line head = λ (f : GrammarFault). ((λ e. cc), (λ h. ap (λ (y : GrammarFault). Err y) (sym h)))
fails-shape (alone c) line head = fails-map (read_alone line head) (λ (done : Unit {0}). c) (FaultsShape (alone c) line head) (fails-alone line head)
fails-shape (one_name c) line head = fails-map (read_one_name line head) c (FaultsShape (one_name c) line head) (fails-one_name line head)
fails-shape (number low high c) line head = fails-map (read_value (number_of low high) fault.BadNumber line head) c (FaultsShape (number low high c) line head)
    (fails-value (number_of low high) fault.BadNumber line head)
fails-shape (name_value c) line head = fails-map (read_value name_of fault.BadName line head) c (FaultsShape (name_value c) line head)
    (fails-value name_of fault.BadName line head)
fails-shape (number_and_name low high c) line head = fails-map (read_value_and_name (number_of low high) fault.BadNumber line head)
    (λ (p : ℕ × List ℕ). c p.0 p.1) (FaultsShape (number_and_name low high c) line head) (fails-value_and_name (number_of low high) fault.BadNumber line head)
fails-shape (limit_and_name amount c) line head = fails-map (read_value_and_name (limit_of amount) fault.BadNumber line head)
    (λ (p : Option ℕ × List ℕ). c p.0 p.1) (FaultsShape (limit_and_name amount c) line head) (fails-value_and_name (limit_of amount) fault.BadNumber line head)
fails-shape (two_names c) line head = fails-map (read_value_and_name name_of fault.BadName line head) (λ (p : List ℕ × List ℕ). c p.0 p.1)
    (FaultsShape (two_names c) line head) (fails-value_and_name name_of fault.BadName line head)
fails-shape (dest_and_name c) line head = fails-map (read_value_and_name dest_of fault.BadName line head) (λ (p : NamedDest × List ℕ). c p.0 p.1)
    (FaultsShape (dest_and_name c) line head) (fails-value_and_name dest_of fault.BadName line head)
fails-shape (one_request c) line head = fails-map (read_one_request line head) c (FaultsShape (one_request c) line head) (fails-one_request line head)
fails-shape (request_and_name c) line head = fails-map (read_request_and_name line head) (λ (p : Named × List ℕ). c p.0 p.1)
    (FaultsShape (request_and_name c) line head) (fails-request_and_name line head)
fails-shape (request_and_priority c) line head = fails-map (read_request_and_priority line head) (λ (p : Named × ℕ). c p.0 p.1)
    (FaultsShape (request_and_priority c) line head) (fails-request_and_priority line head)
fails-shape (name_and_forms c) line head = fails-map (read_name_and_forms line head) (λ (p : List ℕ × List ℕ). c p.0 p.1)
    (FaultsShape (name_and_forms c) line head) (fails-name_and_forms line head)
fails-shape (made_queue ks c) line head = fails-map (read_made_queue ks line head) (λ (p : List ℕ × Settings). c p.0 p.1)
    (FaultsShape (made_queue ks c) line head) (fails-made_queue ks line head)

fails-noun : (line : List ℕ) (place : ℕ) (verb : Keyword) → Fails (head_at (nouns verb) line place >>=
    (λ head. read_shape (shape_of verb head.keyword) line head)) (FaultsNoun line place verb)
fails-noun line place verb =
    fails-bind (head_at (nouns verb) line place) (λ (head : Head). read_shape (shape_of verb head.keyword) line head) (HasHead (nouns verb) line place)
    (NoHead (nouns verb) line place)
    (λ (head : Head). FaultsShape (shape_of verb head.keyword) line head) (means-head (nouns verb) line place) (fails-head (nouns verb) line place)
    (λ (head : Head). fails-shape (shape_of verb head.keyword) line head)

Other : List ℕ → Head → Keyword → GrammarFault → Type 0
Other line verb keyword f = ValueTooMany verb f ⊎ (HasNoValue verb × FaultsNoun line verb.word.end keyword f)

fails-other : (line : List ℕ) (verb : Head) (keyword : Keyword) → Fails (bare verb >>=
    (λ place. head_at (nouns keyword) line place >>= (λ head. read_shape (shape_of keyword head.keyword) line head))) (Other line verb keyword)
unfolding Other
fails-other line verb keyword =
    fails-bare verb (λ (place : ℕ). head_at (nouns keyword) line place >>= (λ head. read_shape (shape_of keyword head.keyword) line head))
    (FaultsNoun line verb.word.end keyword) (fails-noun line verb.word.end keyword)

fails-verb : (line : List ℕ) (verb : Head) (keyword : Keyword) → Fails (after_verb line verb keyword) (FaultsVerb line verb keyword)
unfolding Other after_verb
fails-verb line verb k.Shutdown = fails-map (read_alone line verb) (λ (done : Unit {0}). command.Shutdown) (FaultsFrom None the_end line verb)
    (fails-alone line verb)
fails-verb line verb keyword = fails-other line verb keyword

-- ---- the laws

pub finds_fault : FindsTheFault
unfolding qmgr_line
finds_fault line =
    fails-bind (head_at verbs line 0) (λ (verb : Head). after_verb line verb verb.keyword) (HasHead verbs line 0) (NoHead verbs line 0)
    (λ (verb : Head). FaultsVerb line verb verb.keyword)
    (means-head verbs line 0) (fails-head verbs line 0) (λ (verb : Head). fails-verb line verb verb.keyword)

pub says_or_faults : SaysOrFaults
says_or_faults line = by (qmgr_line line) refl
  where
    by : (r : Read Command) → qmgr_line line ≡ r → ((command : Command) × Says line command) ⊎ ((fault : GrammarFault) × Faults line fault)
    by (Ok c) is = inl (c, (reads_said line c).0 is)
    by (Err x) is = inr (x, (finds_fault line x).0 is)

pub never_both : NeverBoth
never_both line command fault says faults =
    let read = (reads_said line command).1 says in
    let failed = (finds_fault line fault).1 faults in
    cc

pub one_command : OneCommand
one_command line c d says other =
    let first = (reads_said line c).1 says in
    let second = (reads_said line d).1 other in
    cc

pub one_fault : OneFault
one_fault line f g faults other =
    let first = (finds_fault line f).1 faults in
    let second = (finds_fault line g).1 other in
    cc

-- what is read is the answer
pub answers : (line : List ℕ) (r : Result Command GrammarFault) → r ≡ qmgr_line line → Answers line r
answers line (Ok c) is = (reads_said line c).0 (sym is)
answers line (Err f) is = (finds_fault line f).0 (sym is)
