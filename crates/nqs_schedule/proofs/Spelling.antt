-- Words of a form are read as what they spell.
use Rattle.std.proofs.Common.{◌≡◌, ◌⊎◌, inl, inr, ℕ, zero, suc, ◌<◌, ◌≤◌, List, [], ◌∷◌, length, map, drop, refl, ap, sym, subst, ◌∙◌, Some, None, Option, Ok}
use Rattle.std.proofs.Common.{Err, Bool, true, false, cond, ◌||◌, is_some, arith, nat_lt}
use Rattle.std.specs.Prelude.{slice_get}
use Rattle.std.proofs.lemmas.Bool.{ltb-true, ltb-false}
use Rattle.nqs_base.proofs.Readings.{Reads, reads-bind}
use Rattle.nqs_types.specs.declared.world.WorldEvent.{WorldEvent}
use Rattle.nqs_words.specs.Values.{name_of, named_of, number_of}
use Rattle.nqs_schedule.specs.declared.cause.Cause.{Cause}
use Rattle.nqs_schedule.specs.declared.cause.Cause.TheVariants as cause
use Rattle.nqs_schedule.specs.declared.words.LineWord.{LineWord}
use Rattle.nqs_schedule.specs.declared.words.LineWords.{LineWords}
use Rattle.nqs_schedule.specs.Words.{Read, ◌>>=◌, or_fault, no_word, text_or, text_at, name_at, number_at, host_of, host_at, or_bad_request, request_at}
use Rattle.nqs_schedule.specs.Words.{disk_of, disk_at, tear_of, tear_at, short_enough, output_at, nothing_at, all_good}
use Rattle.nqs_schedule.specs.Events.{text_of_word, text_in, bytes_at, words_behind, qmgr_text}
use Rattle.nqs_schedule.specs.Forms.{Form, never, done, host, name, request, number, disk, tear, text, words, outputs, rest}
use Rattle.nqs_schedule.specs.Spelled.{IsNameWord, NoName, IsNumber, NoNumber, IsHost, NoHost, IsId, NoId, IsDisk, NoDisk, IsTear, NoTear, IsText, NoText}
use Rattle.nqs_schedule.specs.Spelled.{IsShort, IsTooLong, FirstIs, FirstFault, IsOver, IsNotOver, HasBadQuote, AreOutputs, AreNoOutputs, Spells, Faults}
use Rattle.nqs_schedule.proofs.Readings.{reads-Ok, reads-Err, reads-then, reads-after, reads-same}
use Rattle.nqs_schedule.proofs.Leaves.{reads-name, reads-number, reads-host, reads-id, reads-disk, reads-tear}

-- ---- the words from a place on

abbrev texts_from : List LineWord → ℕ → List (List ℕ)
texts_from ws i = map text_of_word (drop i ws)

abbrev NoneAt : List LineWord → ℕ → Type 0
NoneAt ws i = (slice_get ws i ≡ None) × (texts_from ws i ≡ [])

abbrev OneAt : List LineWord → ℕ → Type 0
OneAt ws i = (w : LineWord) × (slice_get ws i ≡ Some w) × (texts_from ws i ≡ w.text ∷ texts_from ws (suc i))

at : (ws : List LineWord) (i : ℕ) → NoneAt ws i ⊎ OneAt ws i
at [] zero = inl (refl, refl)
at [] (suc i) = inl (refl, refl)
at (w ∷ ws) zero = inr (w, refl, refl)
at (w ∷ ws) (suc i) = at ws i

past : (ws : List LineWord) (i : ℕ) → NoneAt ws i → NoneAt ws (suc i)
past [] i h = (refl, refl)
past (w ∷ ws) zero h = let e = h.0 in cc
past (w ∷ ws) (suc i) h = past ws i h

-- ---- a word, and then the others

slot : {A : Type 0} (ws : LineWords) (i : ℕ) (leaf : List ℕ → Read A) (Is : List ℕ → A → Type 0) (No : List ℕ → Cause → Type 0) (behind : A → Read WorldEvent)
    (S : A → List (List ℕ) → WorldEvent → Type 0) (F : A → List (List ℕ) → Cause → Type 0)
    → ((word : List ℕ) → Reads (leaf word) (Is word) (No word)) → ((a : A) → Reads (behind a) (S a (words_behind ws (suc i))) (F a (words_behind ws (suc i))))
    → Reads ((text_at ws i >>= leaf) >>= behind) (λ e. FirstIs Is (λ a more. S a more e) (words_behind ws i))
    (λ why. FirstFault Is No (λ a more. F a more why) ws.bad (words_behind ws i) why)
unfolding text_at
slot {A} ws i leaf Is No behind S F hl hb = by (at ws.words i)
  where
    Goal : Option LineWord → List (List ℕ) → Type 0
    Goal o texts = Reads ((text_or o ws.bad >>= leaf) >>= behind) (λ e. FirstIs Is (λ a more. S a more e) texts)
        (λ why. FirstFault Is No (λ a more. F a more why) ws.bad texts why)

    by : NoneAt ws.words i ⊎ OneAt ws.words i → Goal (slice_get ws.words i) (words_behind ws i)
    by (inl h) = subst (λ (o : Option LineWord). Goal o (words_behind ws i)) (sym h.0)
        (subst (λ (l : List (List ℕ)). Goal None l) (sym h.1) (reads-Err {A = WorldEvent} (no_word ws.bad)))
    by (inr h) = subst (λ (o : Option LineWord). Goal o (words_behind ws i)) (sym h.1) (subst (λ (l : List (List ℕ)). Goal (Some h.0) l) (sym h.2)
        (reads-bind (leaf h.0.text) behind (Is h.0.text) (No h.0.text) (λ a. S a (words_behind ws (suc i))) (λ a. F a (words_behind ws (suc i)))
        (hl h.0.text) hb))

-- ---- tests

abbrev good_test : Bool → Read (Unit {0})
good_test t = cond t (Err cause.BadQuote) (Ok tt)

reads-good : (bad : Bool) → Reads (good_test bad) (λ u. bad ≡ false) (HasBadQuote bad)
reads-good true = reads-same {A = Unit {0}} (Err cause.BadQuote) (λ u. ⊥) (λ u. true ≡ false) (λ why. why ≡ cause.BadQuote) (HasBadQuote true)
    (reads-Err {A = Unit {0}} cause.BadQuote)
    (λ u. ((λ x. absurd x), (λ e. cc))) (λ why. ((λ e. (refl, e)), (λ h. h.1)))
reads-good false = reads-same {A = Unit {0}} (Ok tt) (λ u. u ≡ tt) (λ u. false ≡ false) (λ why. ⊥) (HasBadQuote false) (reads-Ok {A = Unit {0}} tt)
    (λ u. ((λ e. refl), (λ e. refl))) (λ why. ((λ x. absurd x), (λ h. let e = h.0 in cc)))

abbrev over_test : Bool → Read (Unit {0})
over_test t = cond t (Err cause.ExtraWord) (Ok tt)

reads-more : (P : Type 0) (t : Bool) → (t ≡ true → P → ⊥) → (t ≡ false → P) → Reads (over_test t) (λ u. P) (λ why. (P → ⊥) × (why ≡ cause.ExtraWord))
reads-more P true others is = reads-same {A = Unit {0}} (Err cause.ExtraWord) (λ u. ⊥) (λ u. P) (λ why. why ≡ cause.ExtraWord)
    (λ why. (P → ⊥) × (why ≡ cause.ExtraWord)) (reads-Err {A = Unit {0}} cause.ExtraWord)
    (λ u. ((λ x. absurd x), others refl)) (λ why. ((λ e. (others refl, e)), (λ h. h.1)))
reads-more P false others is = reads-same {A = Unit {0}} (Ok tt) (λ u. u ≡ tt) (λ u. P) (λ why. ⊥) (λ why. (P → ⊥) × (why ≡ cause.ExtraWord))
    (reads-Ok {A = Unit {0}} tt)
    (λ u. ((λ e. is refl), (λ p. refl))) (λ why. ((λ x. absurd x), (λ h. absurd (h.0 (is refl)))))

reads-nothing : (ws : LineWords) (i : ℕ) → Reads (nothing_at ws i) (λ u. IsOver ws.bad (words_behind ws i)) (IsNotOver ws.bad (words_behind ws i))
unfolding nothing_at
reads-nothing ws i = by (at ws.words i)
  where
    Goal : Option LineWord → List (List ℕ) → Type 0
    Goal o texts = Reads (over_test (is_some o || ws.bad)) (λ u. IsOver ws.bad texts) (IsNotOver ws.bad texts)

    true_false : (b : Bool) → b ≡ true → b ≡ false → ⊥
    true_false b p q = let e : true ≡ false = sym p ∙ q in cc

    by : NoneAt ws.words i ⊎ OneAt ws.words i → Goal (slice_get ws.words i) (words_behind ws i)
    by (inl h) = subst (λ (o : Option LineWord). Goal o (words_behind ws i)) (sym h.0) (subst (λ (l : List (List ℕ)). Goal None l) (sym h.1)
        (reads-more (IsOver ws.bad []) ws.bad (λ is p. true_false ws.bad is p.1) (λ is. (refl, is))))
    by (inr h) = subst (λ (o : Option LineWord). Goal o (words_behind ws i)) (sym h.1) (subst (λ (l : List (List ℕ)). Goal (Some h.0) l) (sym h.2)
        (reads-more (IsOver ws.bad (h.0.text ∷ words_behind ws (suc i))) true (λ is p. let e = p.0 in cc) (λ is. cc)))

-- ---- outputs

reads-short : (word : LineWord) (bad : Bool) → Reads (short_enough (Some word) bad) (λ u. IsShort word.text) (IsTooLong word.text)
reads-short word bad = by (nat_lt 16384 (length word.text)) refl
  where
    long_short : 16384 < length word.text → length word.text ≤ 16384 → ⊥
    long_short p q = omega (arith, p, q)

    by : (t : Bool) → nat_lt 16384 (length word.text) ≡ t → Reads {A = Unit {0}} (cond t (Err cause.OutputTooLong) (Ok tt)) (λ u. IsShort word.text)
        (IsTooLong word.text)
    by true is =
        let long = ltb-true 16384 (length word.text) is in
        reads-same {A = Unit {0}} (Err cause.OutputTooLong) (λ u. ⊥) (λ u. IsShort word.text) (λ why. why ≡ cause.OutputTooLong) (IsTooLong word.text)
        (reads-Err {A = Unit {0}} cause.OutputTooLong)
        (λ u. ((λ x. absurd x), (λ short. absurd (long_short long short)))) (λ why. ((λ e. (long, e)), (λ h. h.1)))
    by false is =
        let short = ltb-false 16384 (length word.text) is in
        reads-same {A = Unit {0}} (Ok tt) (λ u. u ≡ tt) (λ u. IsShort word.text) (λ why. ⊥) (IsTooLong word.text) (reads-Ok {A = Unit {0}} tt)
        (λ u. ((λ e. short), (λ h. refl))) (λ why. ((λ x. absurd x), (λ h. absurd (long_short h.0 short))))

-- a good end, tested twice
reads-end : (e : WorldEvent) (bad : Bool) → Reads {A = WorldEvent} (good_test bad >>= (λ u. over_test (false || bad) >>= (λ v. Ok e)))
    (λ d. (bad ≡ false) × (d ≡ e)) (HasBadQuote bad)
reads-end e true = reads-same {A = WorldEvent} (Err cause.BadQuote) (λ d. ⊥) (λ d. (true ≡ false) × (d ≡ e)) (λ why. why ≡ cause.BadQuote) (HasBadQuote true)
    (reads-Err {A = WorldEvent} cause.BadQuote)
    (λ d. ((λ x. absurd x), (λ h. let never_so = h.0 in cc))) (λ why. ((λ is. (refl, is)), (λ h. h.1)))
reads-end e false = reads-same {A = WorldEvent} (Ok e) (λ d. d ≡ e) (λ d. (false ≡ false) × (d ≡ e)) (λ why. ⊥) (HasBadQuote false) (reads-Ok e)
    (λ d. ((λ is. (refl, is)), (λ h. h.1))) (λ why. ((λ x. absurd x), (λ h. let never_so = h.0 in cc)))

reads-ends : (e : WorldEvent) (bad : Bool) → Reads {A = WorldEvent} (good_test bad >>= (λ u. good_test bad >>= (λ w. over_test (false || bad) >>= (λ v. Ok e))))
    (λ d. (bad ≡ false) × (d ≡ e)) (HasBadQuote bad)
reads-ends e true = reads-end e true
reads-ends e false = reads-end e false

unfoldable pub outputs_at : (List ℕ → List ℕ → WorldEvent) → LineWords → ℕ → Read WorldEvent
outputs_at f ws i = output_at ws i >>= (λ u. output_at ws (suc i) >>= (λ v. nothing_at ws (suc (suc i)) >>=
    (λ w. Ok (f (bytes_at ws i) (bytes_at ws (suc i))))))

reads-outputs : (f : List ℕ → List ℕ → WorldEvent) (ws : LineWords) (i : ℕ)
    → Reads (outputs_at f ws i) (AreOutputs f ws.bad (words_behind ws i)) (AreNoOutputs ws.bad (words_behind ws i))
unfolding outputs_at output_at nothing_at
reads-outputs f ws i = by (at ws.words i) (at ws.words (suc i))
  where
    Reading : Option LineWord → Option LineWord → Option LineWord → Read WorldEvent
    Reading o p q = short_enough o ws.bad >>= (λ u. short_enough p ws.bad >>= (λ v. over_test (is_some q || ws.bad) >>= (λ w. Ok (f (text_in o) (text_in p)))))

    Goal : Option LineWord → Option LineWord → Option LineWord → List (List ℕ) → Type 0
    Goal o p q texts = Reads (Reading o p q) (AreOutputs f ws.bad texts) (AreNoOutputs ws.bad texts)

    third : Option LineWord
    third = slice_get ws.words (suc (suc i))

    from : (o p q : Option LineWord) (texts : List (List ℕ)) → slice_get ws.words i ≡ o → slice_get ws.words (suc i) ≡ p → slice_get ws.words (suc (suc i)) ≡ q
        → words_behind ws i ≡ texts → Goal o p q texts
        → Goal (slice_get ws.words i) (slice_get ws.words (suc i)) (slice_get ws.words (suc (suc i))) (words_behind ws i)
    from o p q texts a b c d goal = rw (a, b, c, d) goal

    by : NoneAt ws.words i ⊎ OneAt ws.words i → NoneAt ws.words (suc i) ⊎ OneAt ws.words (suc i)
        → Goal (slice_get ws.words i) (slice_get ws.words (suc i)) (slice_get ws.words (suc (suc i))) (words_behind ws i)
    by (inl h) k =
        let second = past ws.words i h in
        let last = past ws.words (suc i) second in
        from None None None [] h.0 second.0 last.0 h.1 (reads-ends (f [] []) ws.bad)
    by (inr h) (inl k) =
        let last = past ws.words (suc i) k in
        from (Some h.0) None None (h.0.text ∷ []) h.1 k.0 last.0 (h.2 ∙ ap (λ (l : List (List ℕ)). h.0.text ∷ l) k.1)
        (reads-after (short_enough (Some h.0) ws.bad) _ (IsShort h.0.text) (IsTooLong h.0.text) (λ d. (ws.bad ≡ false) × (d ≡ f h.0.text []))
        (HasBadQuote ws.bad) (reads-short h.0 ws.bad) (reads-end (f h.0.text []) ws.bad))
    by (inr h) (inr k) =
        let more = words_behind ws (suc (suc i)) in
        from (Some h.0) (Some k.0) (slice_get ws.words (suc (suc i))) (h.0.text ∷ k.0.text ∷ more) h.1 k.1 refl
        (h.2 ∙ ap (λ (l : List (List ℕ)). h.0.text ∷ l) k.2)
        (reads-after (short_enough (Some h.0) ws.bad) _ (IsShort h.0.text) (IsTooLong h.0.text)
        (λ d. IsShort k.0.text × (IsOver ws.bad more × (d ≡ f h.0.text k.0.text)))
        (λ why. IsTooLong k.0.text why ⊎ (IsShort k.0.text × IsNotOver ws.bad more why)) (reads-short h.0 ws.bad)
        (reads-after (short_enough (Some k.0) ws.bad) _ (IsShort k.0.text) (IsTooLong k.0.text) (λ d. IsOver ws.bad more × (d ≡ f h.0.text k.0.text))
        (IsNotOver ws.bad more) (reads-short k.0 ws.bad)
        (reads-then (nothing_at ws (suc (suc i))) (f h.0.text k.0.text) (IsOver ws.bad more) (IsNotOver ws.bad more) (reads-nothing ws (suc (suc i))))))

-- ---- a whole form

-- reading words of a form from a place on
unfoldable pub read_form : List (List ℕ) → List ℕ → LineWords → Form → ℕ → Read WorldEvent
read_form site line ws (never why) i = Err why
read_form site line ws (done e) i = nothing_at ws i >>= (λ u. Ok e)
read_form site line ws (host f) i = host_at site ws i >>= (λ h. read_form site line ws (f h) (suc i))
read_form site line ws (name f) i = name_at ws i >>= (λ n. read_form site line ws (f n) (suc i))
read_form site line ws (request f) i = request_at site ws i >>= (λ id. read_form site line ws (f id) (suc i))
read_form site line ws (number low high f) i = number_at low high ws i >>= (λ n. read_form site line ws (f n) (suc i))
read_form site line ws (disk f) i = disk_at ws i >>= (λ d. read_form site line ws (f d) (suc i))
read_form site line ws (tear f) i = tear_at ws i >>= (λ t. read_form site line ws (f t) (suc i))
read_form site line ws (text f) i = text_at ws i >>= (λ t. read_form site line ws (f t) (suc i))
read_form site line ws (words f) i = all_good ws >>= (λ u. Ok (f (words_behind ws i)))
read_form site line ws (outputs f) i = outputs_at f ws i
read_form site line ws (rest f) i = Ok (f (qmgr_text line ws))

joined : {A B C : Type 0} (m : Read A) (f : A → Read B) (g : B → Read C) → ((m >>= f) >>= g) ≡ (m >>= (λ a. f a >>= g))
joined (Ok a) f g = refl
joined (Err x) f g = refl

handed : {A : Type 0} (m : Read A) → m ≡ (m >>= (λ a. Ok a))
handed (Ok a) = refl
handed (Err x) = refl

host-word : (site : List (List ℕ)) (ws : LineWords) (i : ℕ) → host_at site ws i
    ≡ (text_at ws i >>= (λ word. or_fault (name_of word) cause.BadName >>= host_of site))
unfolding host_at name_at
host-word site ws i = joined (text_at ws i) (λ word. or_fault (name_of word) cause.BadName) (host_of site)

pub reads-form : (site : List (List ℕ)) (line : List ℕ) (ws : LineWords) (form : Form) (i : ℕ)
    → Reads (read_form site line ws form i) (Spells site (qmgr_text line ws) ws.bad form (words_behind ws i)) (Faults site ws.bad form (words_behind ws i))
unfolding read_form Spells Faults name_at number_at request_at disk_at tear_at all_good outputs_at
reads-form site line ws (never why) i = reads-Err {A = WorldEvent} why
reads-form site line ws (done e) i = reads-then (nothing_at ws i) e (IsOver ws.bad (words_behind ws i)) (IsNotOver ws.bad (words_behind ws i))
    (reads-nothing ws i)
reads-form site line ws (host f) i =
    rw (host-word site ws i) (slot ws i (λ word. or_fault (name_of word) cause.BadName >>= host_of site) (IsHost site) (NoHost site)
    (λ h. read_form site line ws (f h) (suc i))
    (λ h more e. Spells site (qmgr_text line ws) ws.bad (f h) more e) (λ h more why. Faults site ws.bad (f h) more why) (reads-host site)
    (λ h. reads-form site line ws (f h) (suc i)))
reads-form site line ws (name f) i =
    slot ws i (λ word. or_fault (name_of word) cause.BadName) IsNameWord NoName (λ n. read_form site line ws (f n) (suc i))
    (λ n more e. Spells site (qmgr_text line ws) ws.bad (f n) more e) (λ n more why. Faults site ws.bad (f n) more why) reads-name
    (λ n. reads-form site line ws (f n) (suc i))
reads-form site line ws (request f) i =
    slot ws i (λ word. or_bad_request (named_of word) >>= (λ id. host_of site id.host >>= (λ h. Ok (record { seq = id.seq; host = h })))) (IsId site)
    (NoId site) (λ id. read_form site line ws (f id) (suc i))
    (λ id more e. Spells site (qmgr_text line ws) ws.bad (f id) more e) (λ id more why. Faults site ws.bad (f id) more why) (reads-id site)
    (λ id. reads-form site line ws (f id) (suc i))
reads-form site line ws (number low high f) i =
    slot ws i (λ word. or_fault (number_of low high word) cause.BadNumber) (IsNumber low high) (NoNumber low high) (λ n. read_form site line ws (f n) (suc i))
    (λ n more e. Spells site (qmgr_text line ws) ws.bad (f n) more e) (λ n more why. Faults site ws.bad (f n) more why) (reads-number low high)
    (λ n. reads-form site line ws (f n) (suc i))
reads-form site line ws (disk f) i =
    slot ws i (λ word. or_fault (disk_of word) cause.UnknownWord) IsDisk NoDisk (λ d. read_form site line ws (f d) (suc i))
    (λ d more e. Spells site (qmgr_text line ws) ws.bad (f d) more e) (λ d more why. Faults site ws.bad (f d) more why) reads-disk
    (λ d. reads-form site line ws (f d) (suc i))
reads-form site line ws (tear f) i =
    slot ws i tear_of IsTear NoTear (λ t. read_form site line ws (f t) (suc i))
    (λ t more e. Spells site (qmgr_text line ws) ws.bad (f t) more e) (λ t more why. Faults site ws.bad (f t) more why) reads-tear
    (λ t. reads-form site line ws (f t) (suc i))
reads-form site line ws (text f) i =
    rw (handed (text_at ws i)) (slot ws i (λ word. Ok word) IsText NoText (λ t. read_form site line ws (f t) (suc i))
    (λ t more e. Spells site (qmgr_text line ws) ws.bad (f t) more e) (λ t more why. Faults site ws.bad (f t) more why) (λ word. reads-Ok word)
    (λ t. reads-form site line ws (f t) (suc i)))
reads-form site line ws (words f) i = reads-then (good_test ws.bad) (f (words_behind ws i)) (ws.bad ≡ false) (HasBadQuote ws.bad) (reads-good ws.bad)
reads-form site line ws (outputs f) i = reads-outputs f ws i
reads-form site line ws (rest f) i = reads-Ok (f (qmgr_text line ws))
