-- Which faults a reading has, as a relation. Readings are joined as their relations are.
use Rattle.std.proofs.Common.{◌≡◌, ◌↔◌, ◌⊎◌, inl, inr, ℕ, ◌+◌, List, length, slice_range, Some, None, Option, Result, Ok, Err, Bool, true, false}
use Rattle.std.proofs.Common.{cond, nat_lt, refl, ap, sym, ◌∙◌}
use Rattle.std.proofs.lemmas.Bool.{ltb-true, ltb-false}
use Rattle.nqs_base.proofs.Readings.{failed, fail, bind, reads-or_fault}
use Rattle.nqs_base.proofs.Plain.{no_two}
use Rattle.nqs_types.specs.declared.ids.Named.{Named}
use Rattle.nqs_types.specs.declared.fault.GrammarFault.{GrammarFault}
use Rattle.nqs_types.specs.declared.fault.GrammarFault.TheVariants as fault
use Rattle.nqs_words.specs.Words.{next_word}
use Rattle.nqs_words.specs.Values.{name_of, named_of}
use Rattle.nqs_words.specs.Keywords.{keyword_of}
use Rattle.nqs_words.specs.declared.words.Word.{Word}
use Rattle.nqs_words.specs.declared.words.Gaps.TheVariants.{SpacesAndTabs}
use Rattle.nqs_words.specs.declared.keyword.Keyword.{Keyword}
use Rattle.nqs_words.specs.declared.keywords.NoKeyword.{NoKeyword}
use Rattle.nqs_words.specs.declared.keywords.NoKeyword.TheVariants.{Unknown, Ambiguous}
use Rattle.nqs_words.specs.declared.values.NotNamed.{NotNamed}
use Rattle.nqs_words.specs.declared.values.NotNamed.TheVariants.{BadNumber, BadName}
use Rattle.nqs_qmgr.specs.declared.head.Head.{Head}
use Rattle.nqs_qmgr.specs.Read.{Read, ◌>>=◌, or_fault}
use Rattle.nqs_qmgr.specs.Heads.{word_text, word_at, name_at, or_not_named, request_at, nothing_more, nothing_after, stem_of, chosen, head_of, head_at, bare}
use Rattle.nqs_qmgr.specs.Heads.{value_at, valued}
use Rattle.nqs_qmgr.specs.Says.{HasNoValue}
use Rattle.nqs_qmgr.specs.Faults.{NoWord, WordTooMany, unnamed, NamesNone, NoHead, NoName, unread_request, NoRequest, ValueTooMany, NoValue}
use Rattle.nqs_qmgr.proofs.Means.{Means}
use Rattle.nqs_qmgr.proofs.Said.{means-word}

abbrev pub Fails : {A : Type 0} → Read A → (GrammarFault → Type 0) → Type 0
Fails {A} r F = (f : GrammarFault) → (r ≡ Err f) ↔ F f

-- ---- joined relations

pub fails-bind : {A B : Type 0} (r : Read A) (g : A → Read B) (P : A → Type 0) (F : GrammarFault → Type 0) (G : A → GrammarFault → Type 0)
    → Means r P → Fails r F → ((a : A) → Fails (g a) (G a)) → Fails (r >>= g) (λ (f : GrammarFault). F f ⊎ ((a : A) × P a × G a f))
fails-bind {A} {B} r g P F G means fails behind f = ((λ e. to (failed r g f e)), from)
  where
    to : (r ≡ Err f) ⊎ ((a : A) × (r ≡ Ok a) × (g a ≡ Err f)) → F f ⊎ ((a : A) × P a × G a f)
    to (inl e) = inl ((fails f).0 e)
    to (inr t) = inr (t.0, (means t.0).0 t.1, (behind t.0 f).0 t.2)

    from : F f ⊎ ((a : A) × P a × G a f) → (r >>= g) ≡ Err f
    from (inl h) = fail r g f ((fails f).1 h)
    from (inr t) = bind r g t.0 (Err f) ((means t.0).1 t.1) ((behind t.0 f).1 t.2)

-- a value that only decides whether the reading goes on
pub fails-then : {A B : Type 0} (r : Read A) (g : A → Read B) (P : A → Type 0) (F G : GrammarFault → Type 0)
    → Means r P → Fails r F → ((a : A) → Fails (g a) G) → Fails (r >>= g) (λ (f : GrammarFault). F f ⊎ (((a : A) × P a) × G f))
fails-then {A} {B} r g P F G means fails behind f = ((λ e. to (failed r g f e)), from)
  where
    to : (r ≡ Err f) ⊎ ((a : A) × (r ≡ Ok a) × (g a ≡ Err f)) → F f ⊎ (((a : A) × P a) × G f)
    to (inl e) = inl ((fails f).0 e)
    to (inr t) = inr ((t.0, (means t.0).0 t.1), (behind t.0 f).0 t.2)

    from : F f ⊎ (((a : A) × P a) × G f) → (r >>= g) ≡ Err f
    from (inl h) = fail r g f ((fails f).1 h)
    from (inr t) = bind r g t.0.0 (Err f) ((means t.0.0).1 t.0.1) ((behind t.0.0 f).1 t.1)

-- a value with the place behind it
pub fails-after : {A B : Type 0} (r : Read (A × ℕ)) (g : A × ℕ → Read B) (P : A × ℕ → Type 0) (F : GrammarFault → Type 0) (G : ℕ → GrammarFault → Type 0)
    → Means r P → Fails r F → ((p : A × ℕ) → Fails (g p) (G p.1)) → Fails (r >>= g)
    (λ (f : GrammarFault). F f ⊎ ((after : ℕ) × ((a : A) × P (a, after)) × G after f))
fails-after {A} {B} r g P F G means fails behind f = ((λ e. to (failed r g f e)), from)
  where
    to : (r ≡ Err f) ⊎ ((p : A × ℕ) × (r ≡ Ok p) × (g p ≡ Err f)) → F f ⊎ ((after : ℕ) × ((a : A) × P (a, after)) × G after f)
    to (inl e) = inl ((fails f).0 e)
    to (inr t) = inr (t.0.1, (t.0.0, (means t.0).0 t.1), (behind t.0 f).0 t.2)

    from : F f ⊎ ((after : ℕ) × ((a : A) × P (a, after)) × G after f) → (r >>= g) ≡ Err f
    from (inl h) = fail r g f ((fails f).1 h)
    from (inr t) = bind r g (t.1.0, t.0) (Err f) ((means (t.1.0, t.0)).1 t.1.1) ((behind (t.1.0, t.0) f).1 t.2)

-- what is made of the value at the end fails nowhere
pub fails-map : {A B : Type 0} (r : Read A) (h : A → B) (F : GrammarFault → Type 0) → Fails r F → Fails (r >>= (λ a. Ok (h a))) F
fails-map {A} {B} r h F fails f = ((λ e. to (failed r g f e)), λ x. fail r g f ((fails f).1 x))
  where
    g : A → Read B
    g a = Ok (h a)

    to : (r ≡ Err f) ⊎ ((a : A) × (r ≡ Ok a) × (g a ≡ Err f)) → F f
    to (inl e) = (fails f).0 e
    to (inr t) = let no = t.2 in cc

-- ---- words

pub fails-word : (line : List ℕ) (place : ℕ) → Fails (word_at line place) (NoWord line place)
unfolding word_at
fails-word line place = (reads-or_fault (next_word SpacesAndTabs line place) (fault.Missing (length line))).1

pub fails-end : (line : List ℕ) (place : ℕ) → Fails (nothing_after line place) (WordTooMany line place)
unfolding nothing_after
fails-end line place f = ((λ e. to (next_word SpacesAndTabs line place) e), (λ h. rw h.1 (ap (λ (y : GrammarFault). Err y) (sym h.2))))
  where
    to : (o : Option Word) → nothing_more o ≡ Err f → (word : Word) × (o ≡ Some word) × (f ≡ fault.Extra word.start)
    to (Some w) e = (w, refl, cc)
    to None e = cc

pub fails-name : (line : List ℕ) (place : ℕ) → Fails (name_at line place) (NoName line place)
unfolding name_at
fails-name line place =
    fails-bind (word_at line place) (λ (word : Word). or_fault (name_of (word_text line word)) (fault.BadName word.start) >>= (λ name. Ok (name, word.end)))
    (λ (word : Word). next_word SpacesAndTabs line place ≡ Some word) (NoWord line place)
    (λ (word : Word) (f : GrammarFault). (name_of (word_text line word) ≡ None) × (f ≡ fault.BadName word.start))
    (means-word line place) (fails-word line place)
    (λ (word : Word). fails-map (or_fault (name_of (word_text line word)) (fault.BadName word.start)) (λ (name : List ℕ). (name, word.end))
    (λ (f : GrammarFault). (name_of (word_text line word) ≡ None) × (f ≡ fault.BadName word.start))
    (reads-or_fault (name_of (word_text line word)) (fault.BadName word.start)).1)

unread : (place : ℕ) (why : NotNamed) → or_not_named place (Err why) ≡ Err (unread_request why place)
unread place BadNumber = refl
unread place BadName = refl

fails-named : (place : ℕ) (r : Result Named NotNamed) → Fails (or_not_named place r)
    (λ (f : GrammarFault). (why : NotNamed) × (r ≡ Err why) × (f ≡ unread_request why place))
fails-named place r f = (to r, (λ h. ap (or_not_named place) h.1 ∙ unread place h.0 ∙ ap (λ (y : GrammarFault). Err y) (sym h.2)))
  where
    to : (q : Result Named NotNamed) → or_not_named place q ≡ Err f → (why : NotNamed) × (q ≡ Err why) × (f ≡ unread_request why place)
    to (Ok id) e = cc
    to (Err BadNumber) e = (BadNumber, refl, cc)
    to (Err BadName) e = (BadName, refl, cc)

pub fails-request : (line : List ℕ) (place : ℕ) → Fails (request_at line place) (NoRequest line place)
unfolding request_at
fails-request line place =
    fails-bind (word_at line place) (λ (word : Word). or_not_named word.start (named_of (word_text line word)) >>= (λ id. Ok (id, word.end)))
    (λ (word : Word). next_word SpacesAndTabs line place ≡ Some word) (NoWord line place) F (means-word line place) (fails-word line place)
    (λ (word : Word). fails-map (or_not_named word.start (named_of (word_text line word))) (λ (id : Named). (id, word.end)) (F word)
    (fails-named word.start (named_of (word_text line word))))
  where
    F : Word → GrammarFault → Type 0
    F word f = (why : NotNamed) × (named_of (word_text line word) ≡ Err why) × (f ≡ unread_request why word.start)

-- ---- keywords

refused : (place : ℕ) (why : NoKeyword) → chosen place (Err why) ≡ Err (unnamed why place)
refused place Unknown = refl
refused place Ambiguous = refl

fails-chosen : (place : ℕ) (r : Result Keyword NoKeyword) → Fails (chosen place r)
    (λ (f : GrammarFault). (why : NoKeyword) × (r ≡ Err why) × (f ≡ unnamed why place))
fails-chosen place r f = (to r, (λ h. ap (chosen place) h.1 ∙ refused place h.0 ∙ ap (λ (y : GrammarFault). Err y) (sym h.2)))
  where
    to : (q : Result Keyword NoKeyword) → chosen place q ≡ Err f → (why : NoKeyword) × (q ≡ Err why) × (f ≡ unnamed why place)
    to (Ok keyword) e = cc
    to (Err Unknown) e = (Unknown, refl, cc)
    to (Err Ambiguous) e = (Ambiguous, refl, cc)

pub fails-head_of : (ks : List Keyword) (line : List ℕ) (word : Word) → Fails (head_of ks line word) (NamesNone ks line word)
unfolding head_of
fails-head_of ks line word =
    let r = keyword_of ks (slice_range line word.start (stem_of line word)) in
    fails-map (chosen word.start r) (λ (keyword : Keyword). record { keyword = keyword; word = word; stem = stem_of line word }) (NamesNone ks line word)
    (fails-chosen word.start r)

pub fails-head : (ks : List Keyword) (line : List ℕ) (place : ℕ) → Fails (head_at ks line place) (NoHead ks line place)
unfolding head_at
fails-head ks line place =
    fails-bind (word_at line place) (head_of ks line) (λ (word : Word). next_word SpacesAndTabs line place ≡ Some word) (NoWord line place) (NamesNone ks line)
    (means-word line place) (fails-word line place) (fails-head_of ks line)

-- ---- values

-- a keyword without a value, and what is read behind it
pub fails-bare : {B : Type 0} (head : Head) (g : ℕ → Read B) (G : GrammarFault → Type 0) → Fails (g head.word.end) G
    → Fails (bare head >>= g) (λ (f : GrammarFault). ValueTooMany head f ⊎ (HasNoValue head × G f))
unfolding bare
fails-bare {B} head g G fails f = by (nat_lt head.stem head.word.end) refl
  where
    by : (t : Bool) → nat_lt head.stem head.word.end ≡ t → ((cond t (Err (fault.Extra head.word.start)) (Ok head.word.end) >>= g) ≡ Err f) ↔
        (ValueTooMany head f ⊎ (HasNoValue head × G f))
    by true is = ((λ e. inl (ltb-true head.stem head.word.end is, cc)), from)
      where
        from : ValueTooMany head f ⊎ (HasNoValue head × G f) → ◌≡◌ {A = Read B} (Err (fault.Extra head.word.start)) (Err f)
        from (inl h) = ap (λ (y : GrammarFault). Err y) (sym h.1)
        from (inr h) = no_two head.stem head.word.end (ltb-true head.stem head.word.end is) h.0
    by false is = ((λ e. inr (ltb-false head.stem head.word.end is, (fails f).0 e)), from)
      where
        from : ValueTooMany head f ⊎ (HasNoValue head × G f) → g head.word.end ≡ Err f
        from (inl h) = no_two head.stem head.word.end h.0 (ltb-false head.stem head.word.end is)
        from (inr h) = (fails f).1 h.1

pub fails-valued : {A : Type 0} (read : List ℕ → Option A) (bad : ℕ → GrammarFault) (line : List ℕ) (head : Head)
    → Fails (valued read bad line head) (NoValue read bad line head)
unfolding valued value_at
fails-valued {A} read bad line head f = by (nat_lt head.stem head.word.end) refl
  where
    g : ℕ → Read A
    g place = or_fault (read (slice_range line place head.word.end)) (bad place)

    by : (t : Bool) → nat_lt head.stem head.word.end ≡ t → ((cond t (Ok (head.stem + 1)) (Err (fault.Missing head.word.end)) >>= g)
        ≡ Err f) ↔ NoValue read bad line head f
    by true is = (
      (λ e. inr (
        ltb-true head.stem head.word.end is,
        ((reads-or_fault (read (slice_range line (head.stem + 1) head.word.end)) (bad (head.stem + 1))).1 f).0 e,
      )),
      from,
    )
      where
        from : NoValue read bad line head f → g (head.stem + 1) ≡ Err f
        from (inl h) = no_two head.stem head.word.end (ltb-true head.stem head.word.end is) h.0
        from (inr h) = ((reads-or_fault (read (slice_range line (head.stem + 1) head.word.end)) (bad (head.stem + 1))).1 f).1 h.1
    by false is = ((λ e. inl (ltb-false head.stem head.word.end is, cc)), from)
      where
        from : NoValue read bad line head f → ◌≡◌ {A = Read A} (Err (fault.Missing head.word.end)) (Err f)
        from (inl h) = ap (λ (y : GrammarFault). Err y) (sym h.1)
        from (inr h) = no_two head.stem head.word.end h.0 (ltb-false head.stem head.word.end is)
