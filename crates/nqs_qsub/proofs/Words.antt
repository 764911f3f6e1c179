-- Options one behind another: at most twelve, as each may stand once.
use Rattle.std.proofs.Common.{◌≡◌, ◌⊎◌, inl, inr, ℕ, zero, suc, ◌+◌, ◌<◌, List, [], ◌∷◌, Some, None, Option, Ok, Err, true, false, is_some, refl, ap}
use Rattle.std.proofs.Common.{sym, ◌∙◌, arith}
use Rattle.nqs_base.proofs.Readings.{Reads, bound, failed}
use Rattle.nqs_types.specs.declared.fault.WordsFault.{WordsFault}
use Rattle.nqs_types.specs.declared.fault.WordsCause.{WordsCause}
use Rattle.nqs_types.specs.declared.fault.WordsCause.TheVariants as cause
use Rattle.nqs_words.specs.Values.{name_of, number_of}
use Rattle.nqs_words.specs.Amounts.{time_of, size_of}
use Rattle.nqs_words.specs.Moments.{moment_of}
use Rattle.nqs_words.proofs.Missing.{missing, missing_one, at_most_one}
use Rattle.nqs_qsub.specs.declared.token.Source.{Source}
use Rattle.nqs_qsub.specs.declared.token.Stated.{Stated}
use Rattle.nqs_qsub.specs.declared.token.Token.{Token}
use Rattle.nqs_qsub.specs.declared.options.Flag.{Flag}
use Rattle.nqs_qsub.specs.declared.options.Flag.TheVariants as flag
use Rattle.nqs_qsub.specs.declared.options.Options.{Options}
use Rattle.nqs_qsub.specs.declared.reading.Progress.{Progress}
use Rattle.nqs_qsub.specs.Tokens.{Read, ◌>>=◌, stated, next_token, text_of}
use Rattle.nqs_qsub.specs.Options.{is_given, takes_value, marked, given, path_at, valued, one_option, per_token, read_words}
use Rattle.nqs_qsub.specs.Says.{GivesMark, GivesValue, GivesOption, GiveOptions, WordsGive}
use Rattle.nqs_qsub.specs.Faults.{FaultsBehind, WordsFail}
use Rattle.nqs_qsub.proofs.Gives.{reads-option}

-- ---- how many options aren't given

abbrev pub left : Options → ℕ
left o =
    missing (is_some o.queue) + missing (is_some o.priority) + missing (is_some o.job_name) + missing (is_some o.earliest) + missing (is_some o.out)
    + missing (is_some o.error)
    + missing o.join + missing o.no_rerun + missing (is_some o.cpu) + missing (is_some o.memory) + missing (is_some o.forms)
    + missing (is_some o.folder)

pub few : (o : Options) → left o < 13
few o =
    let a = at_most_one (is_some o.queue) in
    let b = at_most_one (is_some o.priority) in
    let c = at_most_one (is_some o.job_name) in
    let d = at_most_one (is_some o.earliest) in
    let e = at_most_one (is_some o.out) in
    let f = at_most_one (is_some o.error) in
    let g = at_most_one o.join in
    let h = at_most_one o.no_rerun in
    let i = at_most_one (is_some o.cpu) in
    let j = at_most_one (is_some o.memory) in
    let k = at_most_one (is_some o.forms) in
    let l = at_most_one (is_some o.folder) in
    omega arith

given-Ok : {A : Type 0} (v : Option A) (why : WordsCause) (set : A → Options) (more : Options) → given v why set ≡ Ok more → (a : A) × (more ≡ set a)
given-Ok {A} (Some a) why set more e = (a, cc)
given-Ok {A} None why set more e = cc

marked-fewer : (o : Options) (f : Flag) → takes_value f ≡ false → is_given o f ≡ false → left (marked o f) + 1 ≡ left o
unfolding missing takes_value is_given marked
marked-fewer o flag.Join t g = let m = missing_one o.join g in omega arith
marked-fewer o flag.NoRerun t g = let m = missing_one o.no_rerun g in omega arith
marked-fewer o _ t g = cc

valued-fewer : (o : Options) (f : Flag) (text : List ℕ) (at : Stated) (more : Options) → takes_value f ≡ true → is_given o f ≡ false
    → valued o f text at ≡ Ok more → left more + 1 ≡ left o
unfolding missing takes_value is_given valued
valued-fewer o flag.Queue text at more t g e = let v = given-Ok (name_of text) cause.BadName (λ (q : List ℕ). record o { queue = Some q }) more e in
    let l = ap left v.1 in let m = missing_one (is_some o.queue) g in omega arith
valued-fewer o flag.Priority text at more t g e = let v = given-Ok (number_of 0 63 text) cause.BadNumber (λ (n : ℕ). record o { priority = Some n }) more e in
    let l = ap left v.1 in let m = missing_one (is_some o.priority) g in omega arith
valued-fewer o flag.JobName text at more t g e = let v = given-Ok (name_of text) cause.BadName (λ (n : List ℕ). record o { job_name = Some n }) more e in
    let l = ap left v.1 in let m = missing_one (is_some o.job_name) g in omega arith
valued-fewer o flag.Earliest text at more t g e = let v = given-Ok (moment_of text) cause.BadMoment (λ (n : ℕ). record o { earliest = Some n }) more e in
    let l = ap left v.1 in let m = missing_one (is_some o.earliest) g in omega arith
valued-fewer o flag.Out text at more t g e = let v = given-Ok (path_at text at) cause.BadPath (λ (p : Stated). record o { out = Some p }) more e in
    let l = ap left v.1 in let m = missing_one (is_some o.out) g in omega arith
valued-fewer o flag.Error text at more t g e = let v = given-Ok (path_at text at) cause.BadPath (λ (p : Stated). record o { error = Some p }) more e in
    let l = ap left v.1 in let m = missing_one (is_some o.error) g in omega arith
valued-fewer o flag.Join text at more t g e = cc
valued-fewer o flag.NoRerun text at more t g e = cc
valued-fewer o flag.Cpu text at more t g e = let v = given-Ok (time_of text) cause.BadNumber (λ (n : ℕ). record o { cpu = Some n }) more e in
    let l = ap left v.1 in let m = missing_one (is_some o.cpu) g in omega arith
valued-fewer o flag.Memory text at more t g e = let v = given-Ok (size_of text) cause.BadNumber (λ (n : ℕ). record o { memory = Some n }) more e in
    let l = ap left v.1 in let m = missing_one (is_some o.memory) g in omega arith
valued-fewer o flag.Forms text at more t g e = let v = given-Ok (name_of text) cause.BadName (λ (q : List ℕ). record o { forms = Some q }) more e in
    let l = ap left v.1 in let m = missing_one (is_some o.forms) g in omega arith
valued-fewer o flag.Folder text at more t g e = let v = given-Ok (name_of text) cause.BadName (λ (q : List ℕ). record o { folder = Some q }) more e in
    let l = ap left v.1 in let m = missing_one (is_some o.folder) g in omega arith

pub fewer : (source : Source) (words : List (List ℕ)) (text : List ℕ) (line n place : ℕ) (o : Options) (p : Progress)
    → GivesOption source words text line n place o p → left p.options + 1 ≡ left o
fewer source words text line n place o p (token, next, (f, is, (may, gives))) = by gives
  where
    by : GivesMark n token o f p ⊎ GivesValue source words text line n token o f p → left p.options + 1 ≡ left o
    by (inl h) = ap (λ (q : Progress). left q.options + 1) h.1 ∙ marked-fewer o f h.0 may.0
    by (inr h) = ap (λ (q : Progress). left q.options + 1) h.1.2.2
        ∙ valued-fewer o f (text_of words text h.1.0.at) (stated h.1.0.at line (n + 1)) h.1.2.0 h.0 may.0 h.1.2.1

-- ---- the words from a place on

-- what follows an option
abbrev Next : ℕ → Source → List (List ℕ) → List ℕ → ℕ → Progress → Read Options
Next left source words text line p = read_words left source words text line p.number p.place p.options

pub words-Ok : (m : ℕ) (source : Source) (words : List (List ℕ)) (text : List ℕ) (line n place : ℕ) (o all : Options)
    → read_words m source words text line n place o ≡ Ok all → (steps : List Progress) × GiveOptions source words text line n place o steps all
unfolding read_words
words-Ok zero source words text line n place o all e = cc
words-Ok (suc m) source words text line n place o all e = by (words-Ok m source words text line) (next_token source words text place) refl e
  where
    by : ((n place : ℕ) (o all : Options) → read_words m source words text line n place o ≡ Ok all
        → (steps : List Progress) × GiveOptions source words text line n place o steps all)
        → (t : Option Token) → next_token source words text place ≡ t → per_token t (Ok o)
        (λ (token : Token). one_option source words text line n token o >>= Next m source words text line) ≡ Ok all
        → (steps : List Progress) × GiveOptions source words text line n place o steps all
    by others None is h = ([], (is, cc))
    by others (Some token) is h =
        let b = bound (one_option source words text line n token o) (Next m source words text line) all h in
        let g = ((reads-option source words text line n token o).0 b.0).0 b.1 in
        let rest = others b.0.number b.0.place b.0.options all b.2 in
        (b.0 ∷ rest.0, ((token, is, g), rest.1))

pub words-Err : (m : ℕ) (source : Source) (words : List (List ℕ)) (text : List ℕ) (line n place : ℕ) (o : Options) (x : WordsFault) → left o < m
    → read_words m source words text line n place o ≡ Err x → (steps : List Progress) × FaultsBehind source words text line n place o steps x
unfolding read_words
words-Err zero source words text line n place o x less e = absurd (omega arith)
words-Err (suc m) source words text line n place o x less e = by (words-Err m source words text line) (next_token source words text place) refl e
  where
    behind : ((n place : ℕ) (o : Options) (x : WordsFault) → left o < m → read_words m source words text line n place o ≡ Err x
        → (steps : List Progress) × FaultsBehind source words text line n place o steps x)
        → (token : Token) → next_token source words text place ≡ Some token
        → (one_option source words text line n token o ≡ Err x) ⊎ ((p : Progress) × (one_option source words text line n token o ≡ Ok p)
        × (Next m source words text line p ≡ Err x))
        → (steps : List Progress) × FaultsBehind source words text line n place o steps x
    behind others token is (inl e) = ([], (token, is, ((reads-option source words text line n token o).1 x).0 e))
    behind others token is (inr (p, gives, e)) =
        let g = ((reads-option source words text line n token o).0 p).0 gives in
        let few = fewer source words text line n place o p (token, is, g) in
        let rest = others p.number p.place p.options x (omega arith) e in
        (p ∷ rest.0, ((token, is, g), rest.1))

    by : ((n place : ℕ) (o : Options) (x : WordsFault) → left o < m → read_words m source words text line n place o ≡ Err x
        → (steps : List Progress) × FaultsBehind source words text line n place o steps x)
        → (t : Option Token) → next_token source words text place ≡ t → per_token t (Ok o)
        (λ (token : Token). one_option source words text line n token o >>= Next m source words text line) ≡ Err x
        → (steps : List Progress) × FaultsBehind source words text line n place o steps x
    by others None is h = cc
    by others (Some token) is h = behind others token is (failed (one_option source words text line n token o) (Next m source words text line) x h)

words-give : (m : ℕ) (source : Source) (words : List (List ℕ)) (text : List ℕ) (line n place : ℕ) (o all : Options) (steps : List Progress) → left o < m
    → GiveOptions source words text line n place o steps all → read_words m source words text line n place o ≡ Ok all
unfolding read_words
words-give zero source words text line n place o all steps less h = absurd (omega arith)
words-give (suc m) source words text line n place o all [] less h = rw h.0 (ap (λ (x : Options). Ok x) (sym h.1))
words-give (suc m) source words text line n place o all (p ∷ steps) less (gives, rest) =
    let few = fewer source words text line n place o p gives in
    rw (gives.1, ((reads-option source words text line n gives.0 o).0 p).1 gives.2)
    (words-give m source words text line p.number p.place p.options all steps (omega arith) rest)

words-fail : (m : ℕ) (source : Source) (words : List (List ℕ)) (text : List ℕ) (line n place : ℕ) (o : Options) (steps : List Progress) (x : WordsFault)
    → left o < m → FaultsBehind source words text line n place o steps x → read_words m source words text line n place o ≡ Err x
unfolding read_words
words-fail zero source words text line n place o steps x less h = absurd (omega arith)
words-fail (suc m) source words text line n place o [] x less h = rw (h.1, ((reads-option source words text line n h.0 o).1 x).1 h.2) refl
words-fail (suc m) source words text line n place o (p ∷ steps) x less (gives, rest) =
    let few = fewer source words text line n place o p gives in
    rw (gives.1, ((reads-option source words text line n gives.0 o).0 p).1 gives.2)
    (words-fail m source words text line p.number p.place p.options steps x (omega arith) rest)

pub reads-words : (source : Source) (words : List (List ℕ)) (text : List ℕ) (line place : ℕ) (o : Options)
    → Reads (read_words 13 source words text line 1 place o) (WordsGive source words text line place o) (WordsFail source words text line place o)
reads-words source words text line place o = (
  (λ all. (words-Ok 13 source words text line 1 place o all, (λ h. words-give 13 source words text line 1 place o all h.0 (few o) h.1))),
  (λ x. (words-Err 13 source words text line 1 place o x (few o), (λ h. words-fail 13 source words text line 1 place o h.0 x (few o) h.1))),
)
