use Rattle.std.proofs.Common.{◌≡◌, ℕ, ◌+◌, ◌<◌, List, length, arith, refl, ap, ◌∙◌, sym, subst, Some, None, Option, Result, Ok, Err, cond, true, false}
use Rattle.std.proofs.Common.{nat_lt, slice_range}
use Rattle.std.proofs.lemmas.Bool.Decides.{nat_tests}
use Rattle.nqs_base.proofs.Readings.{bound, bind, passed, faultless, reads-or_fault}
use Rattle.nqs_types.specs.declared.ids.Named.{Named}
use Rattle.nqs_types.specs.declared.fault.GrammarFault.{GrammarFault}
use Rattle.nqs_types.specs.declared.fault.GrammarFault.TheVariants as fault
use Rattle.nqs_words.specs.Words.{next_word}
use Rattle.nqs_words.specs.Values.{name_of, named_of}
use Rattle.nqs_words.specs.Keywords.{keyword_of}
use Rattle.nqs_words.specs.declared.words.Word.{Word}
use Rattle.nqs_words.specs.declared.words.Gaps.TheVariants.{SpacesAndTabs}
use Rattle.nqs_words.specs.declared.keyword.Keyword.{Keyword}
use Rattle.nqs_words.specs.declared.keywords.NoKeyword.{NoKeyword}
use Rattle.nqs_words.specs.declared.keywords.NoKeyword.TheVariants.{Unknown, Ambiguous}
use Rattle.nqs_words.specs.declared.values.NotNamed.{NotNamed}
use Rattle.nqs_words.specs.declared.values.NotNamed.TheVariants.{BadNumber, BadName}
use Rattle.nqs_qmgr.specs.declared.head.Head.{Head}
use Rattle.nqs_qmgr.specs.Read.{Read, ◌>>=◌, or_fault}
use Rattle.nqs_qmgr.specs.Heads.{word_text, word_at, name_at, or_not_named, request_at, nothing_more, nothing_after, last_name, stem_of, chosen, head_of}
use Rattle.nqs_qmgr.specs.Heads.{head_at, bare, value_at, valued}
use Rattle.nqs_qmgr.specs.Says.{HasHead, HasNoValue, Given, Ends, NameIs, RequestIs, LastName}
use Rattle.nqs_qmgr.proofs.Means.{Means, means-last}

-- ---- words

pub means-word : (line : List ℕ) (place : ℕ) → Means (word_at line place) (λ (word : Word). next_word SpacesAndTabs line place ≡ Some word)
unfolding word_at
means-word line place = (reads-or_fault (next_word SpacesAndTabs line place) (fault.Missing (length line))).0

pub means-end : (line : List ℕ) (place : ℕ) → Means (nothing_after line place) (λ (u : Unit {0}). Ends line place)
unfolding nothing_after
means-end line place u = (λ e. by (next_word SpacesAndTabs line place) e, λ e. rw e refl)
  where
    by : (o : Option Word) → nothing_more o ≡ Ok u → o ≡ None
    by None h = refl
    by (Some w) h = cc

named_pair : {A : Type 0} (a : A) (n : ℕ) (p : A × ℕ) → ◌≡◌ {A = Read (A × ℕ)} (Ok (a, n)) (Ok p) → (a ≡ p.0) × (p.1 ≡ n)
named_pair a n p e = (cc, cc)

pub means-name : (line : List ℕ) (place : ℕ) → Means (name_at line place) (NameIs line place)
unfolding name_at
means-name line place p = (
  (λ e.
      let d = bound (word_at line place) f p e in
      let n = bound (or_fault (name_of (word_text line d.0)) (fault.BadName d.0.start)) (g d.0) p d.2 in
      let named = ((reads-or_fault (name_of (word_text line d.0)) (fault.BadName d.0.start)).0 n.0).0 n.1 in
      let same = named_pair n.0 d.0.end p n.2 in
      (d.0, (means-word line place d.0).0 d.1, named ∙ ap (λ (x : List ℕ). Some x) same.0, same.1)),
  (λ h. bind (word_at line place) f h.0 (Ok p) ((means-word line place h.0).1 h.1)
      (bind (or_fault (name_of (word_text line h.0)) (fault.BadName h.0.start)) (g h.0) p.0 (Ok p)
      (((reads-or_fault (name_of (word_text line h.0)) (fault.BadName h.0.start)).0 p.0).1 h.2)
      (ap (λ (n : ℕ). Ok (p.0, n)) (sym h.3)))),
)
  where
    g : Word → List ℕ → Read (List ℕ × ℕ)
    g word name = Ok (name, word.end)

    f : Word → Read (List ℕ × ℕ)
    f word = or_fault (name_of (word_text line word)) (fault.BadName word.start) >>= g word

named-Ok : (place : ℕ) (r : Result Named NotNamed) (id : Named) → or_not_named place r ≡ Ok id → r ≡ Ok id
named-Ok place (Ok j) id e = cc
named-Ok place (Err BadNumber) id e = cc
named-Ok place (Err BadName) id e = cc

pub means-request : (line : List ℕ) (place : ℕ) → Means (request_at line place) (RequestIs line place)
unfolding request_at
means-request line place p = (
  (λ e.
      let d = bound (word_at line place) f p e in
      let n = bound (or_not_named d.0.start (named_of (word_text line d.0))) (g d.0) p d.2 in
      let named = named-Ok d.0.start (named_of (word_text line d.0)) n.0 n.1 in
      let same = named_pair n.0 d.0.end p n.2 in
      (d.0, (means-word line place d.0).0 d.1, named ∙ ap (λ (x : Named). Ok x) same.0, same.1)),
  (λ h. bind (word_at line place) f h.0 (Ok p) ((means-word line place h.0).1 h.1)
      (bind (or_not_named h.0.start (named_of (word_text line h.0))) (g h.0) p.0 (Ok p) (ap (or_not_named h.0.start) h.2)
      (ap (λ (n : ℕ). Ok (p.0, n)) (sym h.3)))),
)
  where
    g : Word → Named → Read (Named × ℕ)
    g word id = Ok (id, word.end)

    f : Word → Read (Named × ℕ)
    f word = or_not_named word.start (named_of (word_text line word)) >>= g word

pub means-last_name : (line : List ℕ) (place : ℕ) → Means (last_name line place) (LastName line place)
unfolding last_name
means-last_name line place = means-last (name_at line place) (nothing_after line) (NameIs line place) (Ends line) (means-name line place) (means-end line)

-- ---- keywords

chosen-Ok : (place : ℕ) (r : Result Keyword NoKeyword) (keyword : Keyword) → chosen place r ≡ Ok keyword → r ≡ Ok keyword
chosen-Ok place (Ok j) keyword e = cc
chosen-Ok place (Err Unknown) keyword e = cc
chosen-Ok place (Err Ambiguous) keyword e = cc

pub head_of-Ok : (ks : List Keyword) (line : List ℕ) (place : ℕ) (word : Word) (head : Head) → next_word SpacesAndTabs line place ≡ Some word
    → head_of ks line word ≡ Ok head → HasHead ks line place head
unfolding head_of
head_of-Ok ks line place word head next e =
    let r = keyword_of ks (slice_range line word.start (stem_of line word)) in
    let f : Keyword → Read Head = λ keyword. Ok (record { keyword = keyword; word = word; stem = stem_of line word }) in
    let b = bound (chosen word.start r) f head e in
    let named = chosen-Ok word.start r b.0 b.1 in
    let made : Head = record { keyword = b.0; word = word; stem = stem_of line word } in
    let g = b.2 in
    let same : made ≡ head = cc in
    subst (HasHead ks line place) same (record { next = next; stem = refl; named = named })

pub head_of-has : (ks : List Keyword) (line : List ℕ) (place : ℕ) (head : Head) → HasHead ks line place head → head_of ks line head.word ≡ Ok head
unfolding head_of
head_of-has ks line place head h = rw (← h.stem, h.named) refl

pub means-head : (ks : List Keyword) (line : List ℕ) (place : ℕ) → Means (head_at ks line place) (HasHead ks line place)
unfolding head_at
means-head ks line place head = (
  (λ e. let b = bound (word_at line place) (head_of ks line) head e in head_of-Ok ks line place b.0 head ((means-word line place b.0).0 b.1) b.2),
  (λ h. bind (word_at line place) (head_of ks line) head.word (Ok head) ((means-word line place head.word).1 h.next) (head_of-has ks line place head h)),
)

pub means-bare : {B : Type 0} (head : Head) (f : ℕ → Read B) (Q : B → Type 0) → Means (f head.word.end) Q
    → Means (bare head >>= f) (λ (b : B). HasNoValue head × Q b)
unfolding bare
means-bare {B} head f Q hf b = (
  (λ e.
      let d = bound (cond (nat_lt head.stem head.word.end) (Err (fault.Extra head.word.start)) (Ok head.word.end)) f b e in
      let t = faultless (nat_lt head.stem head.word.end) (fault.Extra head.word.start) head.word.end d.0 d.1 in
      let none = t.0 in
      (grind (arith, nat_tests), (hf b).0 (ap f t.1 ∙ d.2))),
  (λ h. let past = h.0 in let none : nat_lt head.stem head.word.end ≡ false = grind (arith, nat_tests) in rw none ((hf b).1 h.1)),
)

-- ---- values

pub value_at-Ok : (head : Head) (place : ℕ) → value_at head ≡ Ok place → (head.stem < head.word.end) × (head.stem + 1 ≡ place)
unfolding value_at
value_at-Ok head place e =
    let t = passed (nat_lt head.stem head.word.end) (fault.Missing head.word.end) (head.stem + 1) place e in
    let some = t.0 in
    (grind (arith, nat_tests), t.1)

pub value_at-has : (head : Head) → head.stem < head.word.end → value_at head ≡ Ok (head.stem + 1)
unfolding value_at
value_at-has head h = let some : nat_lt head.stem head.word.end ≡ true = grind (arith, nat_tests) in rw some refl

pub means-valued : {A : Type 0} (read : List ℕ → Option A) (bad : ℕ → GrammarFault) (line : List ℕ) (head : Head)
    → Means (valued read bad line head) (Given read line head)
unfolding valued
means-valued {A} read bad line head a = (
  (λ e.
      let b = bound (value_at head) f a e in
      let v = value_at-Ok head b.0 b.1 in
      let r = ((reads-or_fault (read (slice_range line b.0 head.word.end)) (bad b.0)).0 a).0 b.2 in
      (v.0, ap (λ (q : ℕ). read (slice_range line q head.word.end)) v.1 ∙ r)),
  (λ h. bind (value_at head) f (head.stem + 1) (Ok a) (value_at-has head h.0)
      (((reads-or_fault (read (slice_range line (head.stem + 1) head.word.end)) (bad (head.stem + 1))).0 a).1 h.1)),
)
  where
    f : ℕ → Read A
    f place = or_fault (read (slice_range line place head.word.end)) (bad place)
