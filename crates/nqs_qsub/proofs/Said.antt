-- Lines of a script one behind another, and submissions whole.
use Rattle.std.proofs.Common.{◌≡◌, ◌⊎◌, inl, inr, ℕ, zero, suc, ◌+◌, ◌<◌, ◌≤◌, List, [], ◌∷◌, length, take, drop, Ok, Err, Result, Bool, true, false, cond}
use Rattle.std.proofs.Common.{nat_lt, nat_le, Option, Some, None, refl, ap, sym, ◌∙◌, arith}
use Rattle.std.proofs.lemmas.Bool.Decides.{nat_tests}
use Rattle.std.proofs.lemmas.List.{drop_all}
use Rattle.std.proofs.lemmas.Bool.{ltb-true, ltb-false, leb-true, leb-false}
use Rattle.nqs_base.proofs.Readings.{Reads, refused, bound, failed, reads-bind, reads-map}
use Rattle.nqs_base.proofs.Plain.{no_two}
use Rattle.nqs_types.specs.Scripts.{longest_script}
use Rattle.nqs_types.specs.declared.fault.WordsFault.{WordsFault}
use Rattle.nqs_types.specs.declared.fault.WordsCause.TheVariants as cause
use Rattle.nqs_types.specs.declared.event.Submission.{Submission}
use Rattle.nqs_qsub.specs.declared.token.Source.TheVariants.{Command, Script}
use Rattle.nqs_qsub.specs.declared.options.Options.{Options}
use Rattle.nqs_qsub.specs.declared.script.LineKind.{LineKind}
use Rattle.nqs_qsub.specs.declared.script.LineKind.TheVariants.{Last, Remark, Words}
use Rattle.nqs_rules.specs.Step.{within}
use Rattle.nqs_qsub.specs.declared.token.Stated.{Stated}
use Rattle.nqs_qsub.specs.Tokens.{Read, ◌>>=◌, fault_at, text_of}
use Rattle.nqs_qsub.specs.Options.{read_words, no_options}
use Rattle.nqs_qsub.specs.Script.{line_kind, line_end, next_line, line_options, go_on, script_options}
use Rattle.nqs_qsub.specs.Qsub.{merged, fits, fitted, both_options, qsub_options, ReadsQsub}
use Rattle.nqs_qsub.specs.Says.{WordsGive, LineGives, GiveLines, ScriptGives, PathFits, PathsFit, Says}
use Rattle.nqs_qsub.specs.Faults.{WordsFail, FaultsBelow, ScriptFails, PathFails, PathsFail, Faults}
use Rattle.nqs_qsub.specs.Law.{ReadsWhatIsSaid, FindsTheFault, SaysOrFaults, NeverBoth, OneFault, Answers}
use Rattle.nqs_qsub.proofs.Words.{reads-words}

-- ---- lines

at_end : (script : List ℕ) (place : ℕ) → length script ≤ place → line_kind (drop place script) ≡ Last
unfolding line_kind
at_end script place past = rw (drop_all place script past) refl

-- a line that isn't the last that is looked at begins within the script
inside : (script : List ℕ) (place : ℕ) (k : LineKind) → line_kind (drop place script) ≡ k → (k ≡ Last → ⊥) → place < length script
inside script place k is other = by (nat_lt place (length script)) refl
  where
    by : (t : Bool) → nat_lt place (length script) ≡ t → place < length script
    by true e = ltb-true place (length script) e
    by false e = absurd (other (sym is ∙ at_end script place (ltb-false place (length script) e)))

further : (script : List ℕ) (place : ℕ) → place < length script → place < next_line script place
unfolding next_line line_end
further script place less = by (nat_lt (line_end script place) (length script)) refl
  where
    by : (t : Bool) → nat_lt (line_end script place) (length script) ≡ t → place < cond t (line_end script place + 1) (length script)
    by true e = omega arith
    by false e = less

-- a line of words, and what follows it
goes : (r : Read Options) (g : Options → Read Options) → ((r >>= (λ (more : Options). Ok (more, true))) >>= (λ (step : Options × Bool). go_on step g))
    ≡ (r >>= g)
goes (Ok a) g = refl
goes (Err x) g = refl

abbrev Line : LineKind → (Options → Read Options) → List ℕ → ℕ → ℕ → Options → Read Options
Line k g script line place o = line_options k script line place o >>= (λ (step : Options × Bool). go_on step g)

abbrev OfLine : List ℕ → ℕ → ℕ → Options → Read Options
OfLine script line place o = read_words 13 Script [] (take (line_end script place) script) line 1 (place + 3) o

of_words : (script : List ℕ) (line place : ℕ) (o : Options) (g : Options → Read Options) → Line Words g script line place o ≡ (OfLine script line place o >>= g)
unfolding line_options
of_words script line place o g = goes (OfLine script line place o) g

lines-Ok : (m : ℕ) (script : List ℕ) (line place : ℕ) (o all : Options) → length script ≤ m + place → script_options m script line place o ≡ Ok all
    → (lines : List Options) × GiveLines script line place o lines all
unfolding script_options line_options
lines-Ok zero script line place o all past e = ([], (at_end script place (omega arith), cc))
lines-Ok (suc m) script line place o all past e = by (lines-Ok m script (line + 1) (next_line script place)) (line_kind (drop place script)) refl e
  where
    next : Options → Read Options
    next = script_options m script (line + 1) (next_line script place)

    by : ((o all : Options) → length script ≤ m + next_line script place → script_options m script (line + 1) (next_line script place) o ≡ Ok all
        → (lines : List Options) × GiveLines script (line + 1) (next_line script place) o lines all)
        → (k : LineKind) → line_kind (drop place script) ≡ k → Line k (script_options m script (line + 1) (next_line script place)) script line place o ≡ Ok all
        → (lines : List Options) × GiveLines script line place o lines all
    by others Last is h = ([], (is, cc))
    by others Remark is h =
        let less = further script place (inside script place Remark is (λ no. cc)) in
        let rest = others o all (omega arith) h in
        (o ∷ rest.0, (inl (is, refl), rest.1))
    by others Words is h =
        let less = further script place (inside script place Words is (λ no. cc)) in
        let b = bound (OfLine script line place o) (script_options m script (line + 1) (next_line script place)) all
        (sym (of_words script line place o (script_options m script (line + 1) (next_line script place))) ∙ h) in
        let rest = others b.0 all (omega arith) b.2 in
        (b.0 ∷ rest.0, (inr (is, ((reads-words Script [] (take (line_end script place) script) line (place + 3) o).0 b.0).0 b.1), rest.1))

lines-Err : (m : ℕ) (script : List ℕ) (line place : ℕ) (o : Options) (x : WordsFault) → script_options m script line place o ≡ Err x
    → (lines : List Options) × FaultsBelow script line place o lines x
unfolding script_options line_options
lines-Err zero script line place o x e = cc
lines-Err (suc m) script line place o x e = by (lines-Err m script (line + 1) (next_line script place)) (line_kind (drop place script)) refl e
  where
    words : ((o : Options) (x : WordsFault) → script_options m script (line + 1) (next_line script place) o ≡ Err x
        → (lines : List Options) × FaultsBelow script (line + 1) (next_line script place) o lines x)
        → line_kind (drop place script) ≡ Words
        → (OfLine script line place o ≡ Err x) ⊎ ((more : Options) × (OfLine script line place o ≡ Ok more)
        × (script_options m script (line + 1) (next_line script place) more ≡ Err x))
        → (lines : List Options) × FaultsBelow script line place o lines x
    words others is (inl e) = ([], (is, ((reads-words Script [] (take (line_end script place) script) line (place + 3) o).1 x).0 e))
    words others is (inr (more, gives, e)) =
        let rest = others more x e in
        (more ∷ rest.0, (inr (is, ((reads-words Script [] (take (line_end script place) script) line (place + 3) o).0 more).0 gives), rest.1))

    by : ((o : Options) (x : WordsFault) → script_options m script (line + 1) (next_line script place) o ≡ Err x
        → (lines : List Options) × FaultsBelow script (line + 1) (next_line script place) o lines x)
        → (k : LineKind) → line_kind (drop place script) ≡ k → Line k (script_options m script (line + 1) (next_line script place)) script line place o ≡ Err x
        → (lines : List Options) × FaultsBelow script line place o lines x
    by others Last is h = cc
    by others Remark is h = let rest = others o x h in (o ∷ rest.0, (inl (is, refl), rest.1))
    by others Words is h =
        words others is (failed (OfLine script line place o) (script_options m script (line + 1) (next_line script place)) x
        (sym (of_words script line place o (script_options m script (line + 1) (next_line script place))) ∙ h))

-- one line more
first_line : (m : ℕ) (script : List ℕ) (line place : ℕ) (o more : Options) → LineGives script line place o more
    → script_options (suc m) script line place o ≡ script_options m script (line + 1) (next_line script place) more
unfolding script_options line_options
first_line m script line place o more (inl h) = rw h.0 (ap (script_options m script (line + 1) (next_line script place)) (sym h.1))
first_line m script line place o more (inr h) =
    rw (h.0, ((reads-words Script [] (take (line_end script place) script) line (place + 3) o).0 more).1 h.1) refl

begins_inside : (script : List ℕ) (line place : ℕ) (o more : Options) → LineGives script line place o more → place < length script
begins_inside script line place o more (inl h) = inside script place Remark h.0 (λ no. cc)
begins_inside script line place o more (inr h) = inside script place Words h.0 (λ no. cc)

lines-give : (m : ℕ) (script : List ℕ) (line place : ℕ) (o all : Options) (lines : List Options) → length script ≤ m + place
    → GiveLines script line place o lines all → script_options m script line place o ≡ Ok all
unfolding script_options line_options
lines-give zero script line place o all [] past h = ap (λ (x : Options). Ok x) (sym h.1)
lines-give zero script line place o all (more ∷ lines) past h = let no = begins_inside script line place o more h.0 in absurd (omega arith)
lines-give (suc m) script line place o all [] past h = rw h.0 (ap (λ (x : Options). Ok x) (sym h.1))
lines-give (suc m) script line place o all (more ∷ lines) past h =
    let less = further script place (begins_inside script line place o more h.0) in
    first_line m script line place o more h.0 ∙ lines-give m script (line + 1) (next_line script place) more all lines (omega arith) h.1

lines-fail : (m : ℕ) (script : List ℕ) (line place : ℕ) (o : Options) (lines : List Options) (x : WordsFault) → length script ≤ m + place
    → FaultsBelow script line place o lines x → script_options m script line place o ≡ Err x
unfolding script_options line_options
lines-fail zero script line place o [] x past h = let no = inside script place Words h.0 (λ no. cc) in absurd (omega arith)
lines-fail zero script line place o (more ∷ lines) x past h = let no = begins_inside script line place o more h.0 in absurd (omega arith)
lines-fail (suc m) script line place o [] x past h = rw (h.0, ((reads-words Script [] (take (line_end script place) script) line (place + 3) o).1 x).1 h.1) refl
lines-fail (suc m) script line place o (more ∷ lines) x past h =
    let less = further script place (begins_inside script line place o more h.0) in
    first_line m script line place o more h.0 ∙ lines-fail m script (line + 1) (next_line script place) more lines x (omega arith) h.1

reads-script : (script : List ℕ) → Reads (script_options (length script) script 1 0 no_options) (ScriptGives script) (ScriptFails script)
reads-script script = (
  (λ all. (
    lines-Ok (length script) script 1 0 no_options all (omega arith),
    (λ h. lines-give (length script) script 1 0 no_options all h.0 (omega arith) h.1),
  )),
  (λ x. (lines-Err (length script) script 1 0 no_options x, (λ h. lines-fail (length script) script 1 0 no_options h.0 x (omega arith) h.1))),
)

-- ---- submissions

-- a path that is tried by its length
abbrev Tried : Bool → WordsFault → Read (Unit {0})
Tried t x = cond t (Ok tt) (Err x)

reads-tried : (n : ℕ) (x : WordsFault) → Reads (Tried (nat_le n 255) x) (λ (u : Unit {0}). n ≤ 255) (λ (y : WordsFault). (255 < n) × (y ≡ x))
reads-tried n x = by (nat_le n 255) refl
  where
    by : (t : Bool) → nat_le n 255 ≡ t → Reads (Tried t x) (λ (u : Unit {0}). n ≤ 255) (λ (y : WordsFault). (255 < n) × (y ≡ x))
    by true e = (
      (λ u. ((λ h. leb-true n 255 e), (λ h. refl))),
      (λ y. ((λ h. cc), (λ h. no_two 255 n h.0 (leb-true n 255 e)))),
    )
    by false e = (
      (λ u. ((λ h. cc), (λ h. no_two 255 n (leb-false n 255 e) h))),
      (λ y. ((λ h. (leb-false n 255 e, refused {A = Unit {0}} x y h)), (λ h. ap (λ (z : WordsFault). Err z) (sym h.1)))),
    )

reads-fits : (words : List (List ℕ)) (script : List ℕ) (folder : Option (List ℕ)) (path : Option Stated)
    → Reads (fits words script folder path) (λ (u : Unit {0}). PathFits words script folder path) (PathFails words script folder path)
reads-fits words script folder None = ((λ u. ((λ h. tt), (λ h. refl))), (λ x. ((λ h. cc), (λ h. absurd h))))
reads-fits words script folder (Some path) =
    reads-tried (length (within folder (text_of words script path.at))) (fault_at path.line path.number cause.BadPath)

reads-fitted : (words : List (List ℕ)) (script : List ℕ) (o : Options)
    → Reads (fitted words script o) (λ (all : Options). PathsFit words script o × (all ≡ o)) (PathsFail words script o)
unfolding fitted
reads-fitted words script o = (
  (λ all. (
    (λ e. let t = (both.0 all).0 e in ((t.1, t.2.1), t.2.2)),
    (λ h. (both.0 all).1 (tt, h.0.0, (tt, h.0.1, h.1))),
  )),
  (λ x. ((λ e. to x ((both.1 x).0 e)), (λ h. (both.1 x).1 (from x h)))),
)
  where
    both : Reads (fitted words script o)
        (λ (all : Options). (u : Unit {0}) × PathFits words script o.folder o.out × ((v : Unit {0}) × PathFits words script o.folder o.error × (all ≡ o)))
        (λ (x : WordsFault). PathFails words script o.folder o.out x ⊎ ((u : Unit {0}) × PathFits words script o.folder o.out
        × PathFails words script o.folder o.error x))
    both =
        reads-bind (fits words script o.folder o.out) (λ (u : Unit {0}). fits words script o.folder o.error >>= (λ (v : Unit {0}). Ok o))
        (λ (u : Unit {0}). PathFits words script o.folder o.out) (PathFails words script o.folder o.out)
        (λ (u : Unit {0}) (all : Options). (v : Unit {0}) × PathFits words script o.folder o.error × (all ≡ o))
        (λ (u : Unit {0}). PathFails words script o.folder o.error)
        (reads-fits words script o.folder o.out)
        (λ (u : Unit {0}). reads-map (fits words script o.folder o.error) (λ (v : Unit {0}). o) (λ (v : Unit {0}). PathFits words script o.folder o.error)
        (PathFails words script o.folder o.error)
        (reads-fits words script o.folder o.error))

    to : (x : WordsFault)
        → PathFails words script o.folder o.out x ⊎ ((u : Unit {0}) × PathFits words script o.folder o.out × PathFails words script o.folder o.error x)
        → PathsFail words script o x
    to x (inl h) = inl h
    to x (inr h) = inr (h.1, h.2)

    from : (x : WordsFault) → PathsFail words script o x
        → PathFails words script o.folder o.out x ⊎ ((u : Unit {0}) × PathFits words script o.folder o.out × PathFails words script o.folder o.error x)
    from x (inl h) = inl h
    from x (inr h) = inr (tt, h.0, h.1)

reads-both : (words : List (List ℕ)) (script : List ℕ)
    → Reads (both_options words script) (λ (o : Options). (command : Options) × WordsGive Command words [] 0 0 no_options command
    × ((scripted : Options) × ScriptGives script scripted × (PathsFit words script (merged command scripted) × (o ≡ merged command scripted))))
    (λ (x : WordsFault). WordsFail Command words [] 0 0 no_options x ⊎ ((command : Options) × WordsGive Command words [] 0 0 no_options command
    × (ScriptFails script x ⊎ ((scripted : Options) × ScriptGives script scripted × PathsFail words script (merged command scripted) x))))
unfolding both_options
reads-both words script =
    reads-bind (read_words 13 Command words [] 0 1 0 no_options) (λ (command : Options). script_options (length script) script 1 0 no_options >>=
    (λ scripted. fitted words script (merged command scripted)))
    (WordsGive Command words [] 0 0 no_options) (WordsFail Command words [] 0 0 no_options)
    (λ (command o : Options). (scripted : Options) × ScriptGives script scripted
    × (PathsFit words script (merged command scripted) × (o ≡ merged command scripted)))
    (λ (command : Options) (x : WordsFault). ScriptFails script x ⊎ ((scripted : Options) × ScriptGives script scripted
    × PathsFail words script (merged command scripted) x))
    (reads-words Command words [] 0 0 no_options)
    (λ (command : Options). reads-bind (script_options (length script) script 1 0 no_options)
    (λ (scripted : Options). fitted words script (merged command scripted)) (ScriptGives script) (ScriptFails script)
    (λ (scripted o : Options). PathsFit words script (merged command scripted) × (o ≡ merged command scripted))
    (λ (scripted : Options). PathsFail words script (merged command scripted))
    (reads-script script)
    (λ (scripted : Options). reads-fitted words script (merged command scripted)))

reads : (words : List (List ℕ)) (script : List ℕ) → Reads (qsub_options words script) (Says words script) (Faults words script)
unfolding qsub_options
reads words script = by (nat_lt longest_script (length script)) refl
  where
    by : (t : Bool) → nat_lt longest_script (length script) ≡ t → Reads (cond t (Err (fault_at 0 0 cause.ScriptTooLong)) (both_options words script))
        (Says words script)
        (Faults words script)
    by true e = (
      (λ o. ((λ h. cc), (λ h. no_two longest_script (length script) (ltb-true longest_script (length script) e) h.0))),
      (λ x. ((λ h. inl (ltb-true longest_script (length script) e, cc)), from x)),
    )
      where
        from : (x : WordsFault) → Faults words script x → ◌≡◌ {A = Read Options} (Err (fault_at 0 0 cause.ScriptTooLong)) (Err x)
        from x (inl h) = ap (λ (y : WordsFault). Err y) (sym h.1)
        from x (inr h) = no_two longest_script (length script) (ltb-true longest_script (length script) e) h.0
    by false e = (
      (λ o. ((λ h. (ltb-false longest_script (length script) e, ((reads-both words script).0 o).0 h)), (λ h. ((reads-both words script).0 o).1 h.1))),
      (λ x. ((λ h. inr (ltb-false longest_script (length script) e, ((reads-both words script).1 x).0 h)), from x)),
    )
      where
        from : (x : WordsFault) → Faults words script x → both_options words script ≡ Err x
        from x (inl h) = no_two longest_script (length script) h.0 (ltb-false longest_script (length script) e)
        from x (inr h) = ((reads-both words script).1 x).1 h.1

-- ---- the laws

pub reads_said : ReadsWhatIsSaid
reads_said words script = (reads words script).0

pub finds_fault : FindsTheFault
finds_fault words script = (reads words script).1

pub says_or_faults : SaysOrFaults
says_or_faults words script = by (qsub_options words script) refl
  where
    by : (r : Read Options) → qsub_options words script ≡ r → ((o : Options) × Says words script o) ⊎ ((fault : WordsFault) × Faults words script fault)
    by (Ok o) is = inl (o, (reads_said words script o).0 is)
    by (Err x) is = inr (x, (finds_fault words script x).0 is)

pub never_both : NeverBoth
never_both words script o fault says faults =
    let read = (reads_said words script o).1 says in
    let failed = (finds_fault words script fault).1 faults in
    cc

pub one_fault : OneFault
one_fault words script f g faults other =
    let first = (finds_fault words script f).1 faults in
    let second = (finds_fault words script g).1 other in
    cc

-- what is read is the answer
pub answers : (user : List ℕ) (words : List (List ℕ)) (script : List ℕ) (r : Result Submission WordsFault) → ReadsQsub user words script r
    → Answers user words script r
answers user words script (Ok s) h = (h.0, (reads_said words script h.0).0 h.1, h.2)
answers user words script (Err f) h = (finds_fault words script f).0 h
