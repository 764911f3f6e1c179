-- What one word is read as.
use Rattle.std.proofs.Common.{◌≡◌, ◌≢◌, ◌⊎◌, inl, inr, ℕ, ◌+◌, ◌<◌, List, ◌++◌, take, drop, get_or, refl, ap, sym, subst, ◌∙◌, Some, None, Option, Result, Ok}
use Rattle.std.proofs.Common.{Err, Bool, true, false, cond, arith, nat_lt, take-append-drop}
use Rattle.std.specs.Prelude.{codes}
use Rattle.std.specs.List.{position}
use Rattle.std.proofs.lemmas.Bool.Decides.{nat_tests}
use Rattle.std.proofs.lemmas.Bool.{lt-ltb, ltb-true}
use Rattle.nqs_base.proofs.Readings.{Reads, given, refused, apart, passed, reads-bind, reads-map}
use Rattle.nqs_base.specs.Same.{name_eq, name_exact}
use Rattle.nqs_types.specs.declared.ids.HostId.{HostId}
use Rattle.nqs_types.specs.declared.ids.RequestId.{RequestId}
use Rattle.nqs_types.specs.declared.ids.Named.{Named}
use Rattle.nqs_base.specs.declared.tear.Tear.{Tear}
use Rattle.nqs_base.specs.declared.tear.Tear.TheVariants as tear
use Rattle.nqs_types.specs.declared.world.Which.{Which}
use Rattle.nqs_rules.specs.Tests.{last_u64}
use Rattle.nqs_types.specs.declared.world.Which.TheVariants as which
use Rattle.nqs_words.specs.Values.{name_of, named_of, number_of}
use Rattle.nqs_words.specs.declared.values.NotNamed.{NotNamed}
use Rattle.nqs_words.specs.Spelled.{IsRequest}
use Rattle.nqs_words.proofs.Requests.{name-is, is-name, number-is, is-number, requests_are_read}
use Rattle.nqs_schedule.specs.declared.cause.Cause.{Cause}
use Rattle.nqs_schedule.specs.declared.cause.Cause.TheVariants as cause
use Rattle.nqs_schedule.specs.Words.{Read, ◌>>=◌, or_fault, as_host, host_of, or_bad_request, disk_of, mixed_of, tear_of}
use Rattle.nqs_schedule.specs.Spelled.{IsNone, IsNameWord, NoName, IsNumber, NoNumber, IsPlace, NoPlace, IsHost, NoHost, IsId, NoId, disk_text, IsDisk, NoDisk}
use Rattle.nqs_schedule.specs.Spelled.{IsMixed, IsTear, NoTear}
use Rattle.nqs_schedule.proofs.Readings.{reads-Ok, reads-Err, reads-one, reads-cause, reads-same}

pub reads-name : (word : List ℕ) → Reads (or_fault (name_of word) cause.BadName) (IsNameWord word) (NoName word)
reads-name word = reads-cause (name_of word) (IsNameWord word) cause.BadName
    (λ n. ((λ e. name-is word n e), (λ h. is-name word h.0 ∙ ap (λ (m : List ℕ). Some m) (sym h.1))))

pub reads-number : (low high : ℕ) (word : List ℕ) → Reads (or_fault (number_of low high word) cause.BadNumber) (IsNumber low high word) (NoNumber low high word)
reads-number low high word = reads-cause (number_of low high word) (IsNumber low high word) cause.BadNumber
    (λ n. ((λ e. number-is low high word n e), (λ h. is-number low high word n h.0 h.1 h.2 h.3)))

-- ---- hosts

untested : {A : Type 0} (t : Bool) (a : A) (c why : Cause) → cond t (Ok a) (Err c) ≡ Err why → why ≡ c
untested true a c why e = absurd (apart a why e)
untested {A} false a c why e = refused {A = A} c why e

placed : (o : Option ℕ) (h : HostId) → as_host o ≡ Ok h → (o ≡ Some h.0) × (h.0 < 16)
placed (Some i) h e =
    let t = passed (nat_lt i 16) cause.NoSuchHost (record { 0 = i }) h e in
    let less : i < 16 = ltb-true i 16 t.0 in
    let same : i ≡ h.0 = ap (λ (x : HostId). x.0) t.1 in
    (ap (λ (n : ℕ). Some n) same, subst (λ (n : ℕ). n < 16) same less)
placed None h e = absurd (apart h cause.NoSuchHost (sym e))

unplaced : (o : Option ℕ) (why : Cause) → as_host o ≡ Err why → why ≡ cause.NoSuchHost
unplaced (Some i) why e = untested {A = HostId} (nat_lt i 16) (record { 0 = i }) cause.NoSuchHost why e
unplaced None why e = refused {A = HostId} cause.NoSuchHost why e

pub reads-place : (site : List (List ℕ)) (n : List ℕ) → Reads (host_of site n) (IsPlace site n) (NoPlace site n)
unfolding host_of
reads-place site n = reads-one (as_host (position (name_eq n) site)) (IsPlace site n) cause.NoSuchHost
    (λ h. (placed (position (name_eq n) site) h, (λ p. let less = lt-ltb h.0 16 p.1 in rw p.0 (rw less refl))))
    (unplaced (position (name_eq n) site))

pub reads-host : (site : List (List ℕ)) (word : List ℕ) → Reads (or_fault (name_of word) cause.BadName >>= host_of site) (IsHost site word) (NoHost site word)
reads-host site word = reads-bind (or_fault (name_of word) cause.BadName) (host_of site) (IsNameWord word) (NoName word) (IsPlace site) (NoPlace site)
    (reads-name word) (reads-place site)

-- ---- requests

one_request : (r : Result Named NotNamed) (id : Named) → or_bad_request r ≡ Ok id → r ≡ Ok id
one_request (Ok j) id e = ap (λ (n : Named). Ok n) (sym (given j id e))
one_request (Err x) id e = absurd (apart id cause.BadRequest (sym e))

no_request : (r : Result Named NotNamed) (why : Cause) → or_bad_request r ≡ Err why → why ≡ cause.BadRequest
no_request (Ok j) why e = absurd (apart j why e)
no_request (Err x) why e = refused {A = Named} cause.BadRequest why e

reads-request : (word : List ℕ) → Reads (or_bad_request (named_of word)) (IsRequest word) (IsNone (IsRequest word) cause.BadRequest)
reads-request word = reads-one (or_bad_request (named_of word)) (IsRequest word) cause.BadRequest
    (λ id. ((λ e. (requests_are_read word (Ok id)).0 (one_request (named_of word) id e)), (λ h. let is = (requests_are_read word (Ok id)).1 h in rw is refl)))
    (no_request (named_of word))

pub reads-id : (site : List (List ℕ)) (word : List ℕ)
    → Reads (or_bad_request (named_of word) >>= (λ named. host_of site named.host >>= (λ h. Ok (record { seq = named.seq; host = h })))) (IsId site word)
    (NoId site word)
reads-id site word = reads-bind (or_bad_request (named_of word)) f (IsRequest word) (IsNone (IsRequest word) cause.BadRequest) Q
    (λ named why. NoPlace site named.host why) (reads-request word)
    (λ named. reads-map (host_of site named.host) (made named) (IsPlace site named.host) (NoPlace site named.host) (reads-place site named.host))
  where
    made : Named → HostId → RequestId
    made named h = record { seq = named.seq; host = h }

    f : Named → Read RequestId
    f named = host_of site named.host >>= (λ h. Ok (made named h))

    Q : Named → RequestId → Type 0
    Q named id = (h : HostId) × IsPlace site named.host h × (id ≡ made named h)

-- ---- disks

pub pick : {V : Type 0} (P : V → List ℕ) (c word : List ℕ) (x v : V) (o : Option V) → P x ≡ c → cond (name_eq c word) (Some x) o ≡ Some v
    → (o ≡ Some v → word ≡ P v) → word ≡ P v
pick {V} P c word x v o here e others = by (name_eq c word) refl e
  where
    same : ◌≡◌ {A = Option V} (Some x) (Some v) → x ≡ v
    same e = cc

    by : (t : Bool) → name_eq c word ≡ t → cond t (Some x) o ≡ Some v → word ≡ P v
    by true is e = sym (name_exact c word is) ∙ (sym here ∙ ap P (same e))
    by false is e = others e

disk-is : (word : List ℕ) (d : Which) → disk_of word ≡ Some d → word ≡ disk_text d
unfolding disk_of
disk-is word d e =
    pick disk_text (codes "root") word which.Root d _ refl e (λ e.
    pick disk_text (codes "first") word which.First d _ refl e (λ e.
    pick disk_text (codes "second") word which.Second d _ refl e (λ e.
    pick disk_text (codes "spool") word which.Spool d _ refl e (λ e. cc))))

is-disk : (word : List ℕ) (d : Which) → word ≡ disk_text d → disk_of word ≡ Some d
unfolding disk_of
is-disk word which.Root e = rw e refl
is-disk word which.First e = rw e refl
is-disk word which.Second e = rw e refl
is-disk word which.Spool e = rw e refl

pub reads-disk : (word : List ℕ) → Reads (or_fault (disk_of word) cause.UnknownWord) (IsDisk word) (NoDisk word)
reads-disk word = reads-cause (disk_of word) (IsDisk word) cause.UnknownWord (λ d. (disk-is word d, is-disk word d))

-- ---- tears

abbrev number_tear : List ℕ → Read Tear
number_tear digits = or_fault (number_of 0 last_u64 digits) cause.BadNumber >>= (λ n. Ok (tear.Mixed n))

abbrev first_byte : List ℕ → ℕ
first_byte l = get_or l 0 0

old_mixed : (digits : List ℕ) → codes "old" ≡ codes "mixed:" ++ digits → ⊥
old_mixed digits e = let h : 111 ≡ 109 = ap first_byte e in omega (arith, h)

new_mixed : (digits : List ℕ) → codes "new" ≡ codes "mixed:" ++ digits → ⊥
new_mixed digits e = let h : 110 ≡ 109 = ap first_byte e in omega (arith, h)

old_new : codes "old" ≡ codes "new" → ⊥
old_new e = let h : 111 ≡ 110 = ap first_byte e in omega (arith, h)

old-tear : (t : Tear) → IsTear (codes "old") t → tear.Old ≡ t
old-tear tear.Old h = refl
old-tear tear.New h = absurd (old_new h)
old-tear (tear.Mixed n) h = absurd (old_mixed h.0 h.1)

new-tear : (t : Tear) → IsTear (codes "new") t → tear.New ≡ t
new-tear tear.Old h = absurd (old_new (sym h))
new-tear tear.New h = refl
new-tear (tear.Mixed n) h = absurd (new_mixed h.0 h.1)

mixed-once : (digits others : List ℕ) → codes "mixed:" ++ digits ≡ codes "mixed:" ++ others → others ≡ digits
mixed-once digits others e = sym (ap (drop 6) e)

mixed-tear : (digits : List ℕ) (t : Tear) → IsTear (codes "mixed:" ++ digits) t → (n : ℕ) × IsNumber 0 last_u64 digits n × (t ≡ tear.Mixed n)
mixed-tear digits tear.Old h = absurd (old_mixed digits (sym h))
mixed-tear digits tear.New h = absurd (new_mixed digits (sym h))
mixed-tear digits (tear.Mixed n) h = (n, subst (λ (d : List ℕ). IsNumber 0 last_u64 d n) (mixed-once digits h.0 h.1) h.2, refl)

no-mixed-tear : (digits : List ℕ) (why : Cause) → NoTear (codes "mixed:" ++ digits) why → NoNumber 0 last_u64 digits why
no-mixed-tear digits why (inl h) = subst (λ (d : List ℕ). NoNumber 0 last_u64 d why) (mixed-once digits h.0 h.1) h.2
no-mixed-tear digits why (inr h) = absurd (h.2 digits refl)

no-known-tear : (word : List ℕ) (why : Cause) → (word ≡ codes "old") ⊎ (word ≡ codes "new") → NoTear word why → ⊥
no-known-tear word why (inl e) (inl h) = old_mixed h.0 (sym e ∙ h.1)
no-known-tear word why (inr e) (inl h) = new_mixed h.0 (sym e ∙ h.1)
no-known-tear word why (inl e) (inr h) = h.0 e
no-known-tear word why (inr e) (inr h) = h.1 e

reads-old : Reads (tear_of (codes "old")) (IsTear (codes "old")) (NoTear (codes "old"))
unfolding tear_of
reads-old = reads-same {A = Tear} (Ok tear.Old) (λ t. t ≡ tear.Old) (IsTear (codes "old")) (λ why. ⊥) (NoTear (codes "old")) (reads-Ok tear.Old)
    (λ t. ((λ e. subst (IsTear (codes "old")) (sym e) refl), (λ h. sym (old-tear t h)))) (λ why. ((λ h. absurd h), no-known-tear (codes "old") why (inl refl)))

reads-new : Reads (tear_of (codes "new")) (IsTear (codes "new")) (NoTear (codes "new"))
unfolding tear_of
reads-new = reads-same {A = Tear} (Ok tear.New) (λ t. t ≡ tear.New) (IsTear (codes "new")) (λ why. ⊥) (NoTear (codes "new")) (reads-Ok tear.New)
    (λ t. ((λ e. subst (IsTear (codes "new")) (sym e) refl), (λ h. sym (new-tear t h)))) (λ why. ((λ h. absurd h), no-known-tear (codes "new") why (inr refl)))

tear-mixed : (digits : List ℕ) → tear_of (codes "mixed:" ++ digits) ≡ number_tear digits
unfolding tear_of mixed_of
tear-mixed digits = refl

reads-mixed : (digits : List ℕ) → Reads (tear_of (codes "mixed:" ++ digits)) (IsTear (codes "mixed:" ++ digits)) (NoTear (codes "mixed:" ++ digits))
reads-mixed digits =
    let word = codes "mixed:" ++ digits in
    subst (λ (m : Read Tear). Reads m (IsTear word) (NoTear word)) (sym (tear-mixed digits))
    (reads-same (number_tear digits) (λ t. (n : ℕ) × IsNumber 0 last_u64 digits n × (t ≡ tear.Mixed n)) (IsTear word) (NoNumber 0 last_u64 digits)
    (NoTear word)
    (reads-map (or_fault (number_of 0 last_u64 digits) cause.BadNumber) (λ (n : ℕ). tear.Mixed n) (IsNumber 0 last_u64 digits)
    (NoNumber 0 last_u64 digits) (reads-number 0 last_u64 digits))
    (λ t. ((λ h. subst (IsTear word) (sym h.2) (digits, refl, h.1)), mixed-tear digits t)) (λ why. ((λ h. inl (digits, refl, h)), no-mixed-tear digits why)))

-- none of the three
abbrev IsOther : List ℕ → Type 0
IsOther word = (word ≢ codes "old") × (word ≢ codes "new") × ((digits : List ℕ) → IsMixed word digits → ⊥)

not_eq : (c word : List ℕ) → word ≢ c → name_eq c word ≡ false
not_eq c word never = by (name_eq c word) refl
  where
    by : (t : Bool) → name_eq c word ≡ t → t ≡ false
    by true is = absurd (never (sym (name_exact c word is)))
    by false is = refl

mixed-from : (word : List ℕ) → name_eq (codes "mixed:") (take 6 word) ≡ true → IsMixed word (drop 6 word)
mixed-from word is = sym (take-append-drop 6 word) ∙ ap (λ (l : List ℕ). l ++ drop 6 word) (sym (name_exact (codes "mixed:") (take 6 word) is))

not-mixed : (word : List ℕ) → ((digits : List ℕ) → IsMixed word digits → ⊥) → mixed_of word ≡ None
unfolding mixed_of
not-mixed word never = by (name_eq (codes "mixed:") (take 6 word)) refl
  where
    by : (t : Bool) → name_eq (codes "mixed:") (take 6 word) ≡ t → cond t (Some (drop 6 word)) None ≡ None
    by true is = absurd (never (drop 6 word) (mixed-from word is))
    by false is = refl

other-tear : (word : List ℕ) → IsOther word → tear_of word ≡ Err cause.UnknownWord
unfolding tear_of
other-tear word h = rw (not_eq (codes "old") word h.0, not_eq (codes "new") word h.1, not-mixed word h.2) refl

other-is : (word : List ℕ) (t : Tear) → IsOther word → IsTear word t → ⊥
other-is word tear.Old h e = h.0 e
other-is word tear.New h e = h.1 e
other-is word (tear.Mixed n) h e = h.2 e.0 e.1

other-why : (word : List ℕ) (why : Cause) → IsOther word → NoTear word why → why ≡ cause.UnknownWord
other-why word why h (inl m) = absurd (h.2 m.0 m.1)
other-why word why h (inr m) = m.3

reads-other : (word : List ℕ) → IsOther word → Reads (tear_of word) (IsTear word) (NoTear word)
reads-other word h =
    subst (λ (m : Read Tear). Reads m (IsTear word) (NoTear word)) (sym (other-tear word h))
    (reads-same {A = Tear} (Err cause.UnknownWord) (λ t. ⊥) (IsTear word) (λ why. why ≡ cause.UnknownWord) (NoTear word)
    (reads-Err {A = Tear} cause.UnknownWord)
    (λ t. ((λ x. absurd x), (λ e. other-is word t h e))) (λ why. ((λ e. inr (h.0, h.1, h.2, e)), other-why word why h)))

-- which of the four a word is
pub reads-tear : (word : List ℕ) → Reads (tear_of word) (IsTear word) (NoTear word)
reads-tear word = by (name_eq (codes "old") word) (name_eq (codes "new") word) (name_eq (codes "mixed:") (take 6 word)) refl refl refl
  where
    Goal : List ℕ → Type 0
    Goal w = Reads (tear_of w) (IsTear w) (NoTear w)

    unlike : (c w : List ℕ) → name_eq c w ≡ false → name_eq c c ≡ true → w ≢ c
    unlike c w is same e = let no_way : name_eq c c ≡ false = subst (λ (x : List ℕ). name_eq c x ≡ false) e is in cc

    unmixed : name_eq (codes "mixed:") (take 6 word) ≡ false → (digits : List ℕ) → IsMixed word digits → ⊥
    unmixed is digits e = let no_way : name_eq (codes "mixed:") (take 6 (codes "mixed:" ++ digits)) ≡ false =
        subst (λ (x : List ℕ). name_eq (codes "mixed:") (take 6 x) ≡ false) e is in cc

    by : (t u v : Bool) → name_eq (codes "old") word ≡ t → name_eq (codes "new") word ≡ u → name_eq (codes "mixed:") (take 6 word) ≡ v → Goal word
    by true u v p q r = subst Goal (name_exact (codes "old") word p) reads-old
    by false true v p q r = subst Goal (name_exact (codes "new") word q) reads-new
    by false false true p q r = subst Goal (sym (mixed-from word r)) (reads-mixed (drop 6 word))
    by false false false p q r = reads-other word (unlike (codes "old") word p refl, unlike (codes "new") word q refl, unmixed r)
