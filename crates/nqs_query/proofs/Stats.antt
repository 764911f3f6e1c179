-- Words of qstat are read as they are written.
use Rattle.std.proofs.Common.{◌≡◌, ◌≢◌, ◌⊎◌, inl, inr, ℕ, ◌+◌, List, [], ◌∷◌, ◌++◌, length, arith, refl, ap, sym, subst, ◌∙◌, Some, None, Option, Result, Ok}
use Rattle.std.proofs.Common.{Err, Bool, true, false, cond}
use Rattle.std.specs.Prelude.{codes}
use Rattle.nqs_base.specs.Same.{name_eq, name_exact}
use Rattle.nqs_base.specs.Name.{IsName}
use Rattle.nqs_types.specs.declared.fault.WordsFault.{WordsFault}
use Rattle.nqs_types.specs.declared.fault.WordsCause.TheVariants as cause
use Rattle.nqs_words.specs.Values.{is_name, name_of}
use Rattle.nqs_words.proofs.Names.{name_passes}
use Rattle.nqs_words.proofs.Requests.{name-is, is-name, no-name, named}
use Rattle.nqs_query.specs.Words.{Read, Asked, ◌>>=◌, fault_at, with_name, names_of, or_bad_name, is_user_option, of_user, of_all, stat_of}
use Rattle.nqs_query.specs.Spelled.{user_words, stat_words, AreNames, MayBeName, SaysStatOrFaults, ReadsStats}

-- ---- names

-- names come first, then one that is none
pub record Stops (words : List (List ℕ)) (place : ℕ) : Type 0 where
  pub front : List (List ℕ)
  pub word : List ℕ
  pub more : List (List ℕ)
  pub written : words ≡ front ++ word ∷ more
  pub before : AreNames front
  pub bad : IsName word → ⊥
  pub at : place ≡ length front

abbrev NamesOrStops : List (List ℕ) → Result (List (List ℕ)) ℕ → Type 0
NamesOrStops words (Ok names) = AreNames words × (names ≡ words)
NamesOrStops words (Err place) = Stops words place

one_more : (word : List ℕ) (words : List (List ℕ)) (r : Result (List (List ℕ)) ℕ) → IsName word → NamesOrStops words r
    → NamesOrStops (word ∷ words) (with_name (Some word) r)
one_more word words (Ok names) h others = ((h, others.0), ap (λ (l : List (List ℕ)). word ∷ l) others.1)
one_more word words (Err place) h others = record {
  front = word ∷ others.front;
  word = others.word;
  more = others.more;
  written = ap (λ (l : List (List ℕ)). word ∷ l) others.written;
  before = (h, others.before);
  bad = others.bad;
  at = omega (arith, others.at);
}

names-read : (words : List (List ℕ)) → NamesOrStops words (names_of words)
unfolding names_of
names-read [] = (tt, refl)
names-read (word ∷ words) = by (named word) (names-read words)
  where
    by : (IsName word × (name_of word ≡ Some word)) ⊎ ((IsName word → ⊥) × (name_of word ≡ None)) → NamesOrStops words (names_of words)
        → NamesOrStops (word ∷ words) (with_name (name_of word) (names_of words))
    by (inl n) others = subst (λ (o : Option (List ℕ)). NamesOrStops (word ∷ words) (with_name o (names_of words))) (sym n.1)
        (one_more word words (names_of words) n.0 others)
    by (inr n) others = subst (λ (o : Option (List ℕ)). NamesOrStops (word ∷ words) (with_name o (names_of words))) (sym n.1)
        (record { front = []; word = word; more = words; written = refl; before = tt; bad = n.0; at = refl })

names-said : (words : List (List ℕ)) → AreNames words → names_of words ≡ Ok words
unfolding names_of
names-said [] h = refl
names-said (word ∷ words) h = rw (is-name word h.0, names-said words h.1) refl

names-stopped : (front : List (List ℕ)) (word : List ℕ) (more : List (List ℕ)) → AreNames front → (IsName word → ⊥)
    → names_of (front ++ word ∷ more) ≡ Err (length front)
unfolding names_of
names-stopped [] word more h bad = rw (no-name word bad) refl
names-stopped (w ∷ ws) word more h bad = rw (is-name w h.0, names-stopped ws word more h.1 bad) (ap (λ (n : ℕ). Err n) (omega arith))

-- ---- the option

option_no_name : IsName (codes "-u") → ⊥
unfolding is_name
option_no_name h = let t = name_passes (codes "-u") h in cc

is_option : (word : List ℕ) → name_eq (codes "-u") word ≡ true → word ≡ codes "-u"
is_option word h = sym (name_exact (codes "-u") word h)

no_option : (word : List ℕ) → word ≢ codes "-u" → name_eq (codes "-u") word ≡ false
no_option word never = by (name_eq (codes "-u") word) refl
  where
    by : (t : Bool) → name_eq (codes "-u") word ≡ t → t ≡ false
    by true is = absurd (never (is_option word is))
    by false is = refl

other_word : (word : List ℕ) → name_eq (codes "-u") word ≡ false → word ≢ codes "-u"
other_word word is e = let t : name_eq (codes "-u") (codes "-u") ≡ false = subst (λ (w : List ℕ). name_eq (codes "-u") w ≡ false) e is in cc

-- ---- what is read is what words say

fault_same : (n m : ℕ) → n ≡ m → fault_at n cause.BadName ≡ fault_at m cause.BadName
fault_same n m e = ap (λ (k : ℕ). fault_at k cause.BadName) e

all-read : (words : List (List ℕ)) → ((word : List ℕ) (more : List (List ℕ)) → words ≡ word ∷ more → word ≢ codes "-u") → (r : Result (List (List ℕ)) ℕ)
    → NamesOrStops words r
    → SaysStatOrFaults words (or_bad_name 1 r >>= (λ queues. Ok (record { user = None; queues = queues })))
all-read words other (Ok names) h = (sym h.1, (tt, subst AreNames (sym h.1) h.0))
all-read words other (Err place) h =
    let asked : Asked = record { user = None; queues = h.front } in
    inr (inr (
      asked,
      h.word,
      record {
        more = h.more;
        written = h.written;
        before = (tt, h.before);
        bad = h.bad;
        no_option = λ e. other h.word h.more (h.written ∙ ap (λ (l : List (List ℕ)). l ++ h.word ∷ h.more) e);
      },
      fault_same (1 + place) (length h.front + 1) (omega (arith, h.at)),
    ))

user-read : (user : List ℕ) (more : List (List ℕ)) → IsName user → (r : Result (List (List ℕ)) ℕ) → NamesOrStops more r
    → SaysStatOrFaults (codes "-u" ∷ user ∷ more) (or_bad_name 3 r >>= (λ queues. Ok (record { user = Some user; queues = queues })))
user-read user more is (Ok names) h = (ap (λ (l : List (List ℕ)). codes "-u" ∷ user ∷ l) (sym h.1), (is, subst AreNames (sym h.1) h.0))
user-read user more is (Err place) h =
    let asked : Asked = record { user = Some user; queues = h.front } in
    inr (inr (
      asked,
      h.word,
      record {
        more = h.more;
        written = ap (λ (l : List (List ℕ)). codes "-u" ∷ user ∷ l) h.written;
        before = (is, h.before);
        bad = h.bad;
        no_option = λ e. cc;
      },
      fault_same (3 + place) (length (stat_words asked) + 1) (omega (arith, h.at)),
    ))

option-read : (words : List (List ℕ)) → SaysStatOrFaults (codes "-u" ∷ words) (of_user (codes "-u" ∷ words))
option-read [] = inl (refl, refl)
option-read (user ∷ more) = by (named user)
  where
    by : (IsName user × (name_of user ≡ Some user)) ⊎ ((IsName user → ⊥) × (name_of user ≡ None))
        → SaysStatOrFaults (codes "-u" ∷ user ∷ more) (of_user (codes "-u" ∷ user ∷ more))
    by (inl n) = rw n.1 (user-read user more n.0 (names_of more) (names-read more))
    by (inr n) = rw n.1 (inr (inl (user, more, refl, n.0, refl)))

read : (words : List (List ℕ)) → SaysStatOrFaults words (stat_of words)
unfolding stat_of
read [] = all-read [] (λ word more e. cc) (names_of []) (names-read [])
read (word ∷ words) = by (name_eq (codes "-u") word) refl
  where
    first : (w : List ℕ) (more : List (List ℕ)) → word ≢ codes "-u" → word ∷ words ≡ w ∷ more → w ≢ codes "-u"
    first w more other e there = let same : word ≡ w = cc in other (same ∙ there)

    by : (t : Bool) → name_eq (codes "-u") word ≡ t → SaysStatOrFaults (word ∷ words) (cond t (of_user (word ∷ words)) (of_all (word ∷ words)))
    by true is = subst (λ (w : List ℕ). SaysStatOrFaults (w ∷ words) (of_user (w ∷ words))) (sym (is_option word is)) (option-read words)
    by false is = all-read (word ∷ words) (λ w more e. first w more (other_word word is) e) (names_of (word ∷ words)) (names-read (word ∷ words))

-- ---- and the other way round

name_no_option : (word : List ℕ) → IsName word → word ≢ codes "-u"
name_no_option word h e = option_no_name (subst IsName e h)

stat-said : (user : Option (List ℕ)) (queues : List (List ℕ)) → MayBeName user → AreNames queues
    → stat_of (user_words user ++ queues) ≡ Ok (record { user = user; queues = queues })
unfolding stat_of
stat-said None [] u h = rw (names-said [] tt) refl
stat-said None (q ∷ qs) u h = rw (no_option q (name_no_option q h.0), names-said (q ∷ qs) h) refl
stat-said (Some user) queues u h = rw (is-name user u, names-said queues h) refl

bad_first : (front : List (List ℕ)) (word : List ℕ) (more : List (List ℕ)) → AreNames front → (front ≡ [] → word ≢ codes "-u")
    → is_user_option (front ++ word ∷ more) ≡ false
bad_first [] word more h other = no_option word (other refl)
bad_first (q ∷ qs) word more h other = no_option q (name_no_option q h.0)

stat-bad : (user : Option (List ℕ)) (front : List (List ℕ)) (word : List ℕ) (more : List (List ℕ)) → MayBeName user → AreNames front → (IsName word → ⊥)
    → (user_words user ++ front ≡ [] → word ≢ codes "-u")
    → stat_of ((user_words user ++ front) ++ word ∷ more) ≡ Err (fault_at (length (user_words user ++ front) + 1) cause.BadName)
unfolding stat_of
stat-bad None front word more u h bad other =
    rw (bad_first front word more h other, names-stopped front word more h bad)
    (ap (λ (f : WordsFault). Err f) (fault_same (1 + length front) (length front + 1) (omega arith)))
stat-bad (Some user) front word more u h bad other =
    rw (is-name user u, names-stopped front word more h bad) (ap (λ (f : WordsFault). Err f)
    (fault_same (3 + length front) (length (user_words (Some user) ++ front) + 1) (omega arith)))

no_user : (user : List ℕ) (more : List (List ℕ)) → (IsName user → ⊥) → stat_of (codes "-u" ∷ user ∷ more) ≡ Err (fault_at 2 cause.BadName)
unfolding stat_of
no_user user more bad = rw (no-name user bad) refl

user_missing : stat_of (codes "-u" ∷ []) ≡ Err (fault_at 1 cause.Missing)
unfolding stat_of
user_missing = refl

said : (words : List (List ℕ)) (answer : Read Asked) → SaysStatOrFaults words answer → stat_of words ≡ answer
said words (Ok asked) h = ap stat_of h.0 ∙ stat-said asked.user asked.queues h.1.0 h.1.1
said words (Err fault) (inl h) = ap stat_of h.0 ∙ (user_missing ∙ ap (λ (f : WordsFault). Err f) (sym h.1))
said words (Err fault) (inr (inl h)) = ap stat_of h.2 ∙ (no_user h.0 h.1 h.3 ∙ ap (λ (f : WordsFault). Err f) (sym h.4))
said words (Err fault) (inr (inr h)) =
    ap stat_of h.2.written ∙ (stat-bad h.0.user h.0.queues h.1 h.2.more h.2.before.0 h.2.before.1 h.2.bad h.2.no_option
    ∙ ap (λ (f : WordsFault). Err f) (sym h.3))

pub stats_are_read : ReadsStats
stats_are_read words answer = (
  (λ e. subst (SaysStatOrFaults words) e (read words)),
  said words answer,
)
