-- Calls of one disk, one part after another.
use Rattle.std.proofs.Common.{◌≡◌, ◌⊎◌, inl, inr, ℕ, suc, ◌+◌, ◌-◌, ◌<◌, ◌≤◌, Bool, true, false, List, [], ◌∷◌, ◌++◌, take, drop, length, if◌then◌else◌, IsTrue}
use Rattle.std.proofs.Common.{refl, sym, ap, subst, ◌∙◌, arith, length-append, true≢false}
use Rattle.std.proofs.lemmas.List.{append-nil, take-append-le, drop_at}
use Rattle.nqs_outside.specs.History.{Call, write, sync, failed, fresh, History, extended, moment, after, state_at, IsImage, EachSince, StopsShort}
use Rattle.nqs_outside.specs.History.{StopsShortBy, answered}
use Rattle.nqs_outside.specs.History.{IsExact}
use Rattle.std.proofs.lemmas.Bool.{cases_lt}
use Rattle.nqs_base.specs.Want.{want}
use Rattle.nqs_journal.specs.Plan.{append_calls}
use Rattle.nqs_spool.specs.Puts.{put_calls}
use Rattle.nqs_spool.specs.declared.fault.SpoolFault.{SpoolFault}
use Rattle.nqs_spool.specs.declared.fault.SpoolFault.TheVariants as spool
use Rattle.nqs_rules.specs.World.{spool_calls}
use Rattle.nqs_store.specs.Commits.{AreClear, FailsFirst}

pub none_more : (h : History) → h ≡ extended h []
none_more h = ap (λ (l : List Call). let e : History = record { start = h.start; calls = l } in e) (sym (append-nil h.calls))

earlier : (xs ys : List Call) (n : ℕ) → n ≤ length xs → take n (xs ++ ys) ≡ take n xs
earlier xs ys n le = take-append-le n xs ys le

-- later calls change no earlier moment
pub same_before : (j k : History) (calls : List Call) (t : ℕ) → k ≡ extended j calls → t ≤ moment j → state_at k t ≡ state_at j t
same_before j k calls t is le = ap (λ l. state_at l t) is ∙ ap (after (fresh j.start)) (earlier j.calls calls t le)

pub each_since_both : (h j k : History) (calls : List Call) (P : List ℕ → Type 0) → k ≡ extended j calls → EachSince (moment h) j P → EachSince (moment j) k P
    → EachSince (moment h) k P
each_since_both h j k calls P is first second = λ t image from to leaves. elim (cases_lt t (moment j)) [
  | inl early ↦ first t image from (omega (arith, early)) (subst (λ s. IsImage s image) (same_before j k calls t is (omega (arith, early))) leaves)
  | inr late ↦ second t image late to leaves
]

-- a plan goes on behind

module _ {A : Type 0} (as_failed : A → A) where
  pub stops_before : (plan more calls : List A) → StopsShortBy as_failed plan calls → StopsShortBy as_failed (plan ++ more) calls
  stops_before [] more calls short = absurd short
  stops_before (p ∷ plan) more [] short = tt
  stops_before (p ∷ plan) more (call ∷ []) (inl is) = inl is
  stops_before (p ∷ plan) more (call ∷ []) (inr is) = inr (is.0, stops_before plan more [] is.1)
  stops_before (p ∷ plan) more (call ∷ next ∷ calls) short = (short.0, stops_before plan more (next ∷ calls) short.1)

  pub stops_behind : (done plan calls : List A) → StopsShortBy as_failed plan calls → StopsShortBy as_failed (done ++ plan) (done ++ calls)
  stops_behind [] plan calls short = short
  stops_behind (d ∷ []) plan [] short = inr (refl, short)
  stops_behind (d ∷ []) plan (call ∷ calls) short = (refl, short)
  stops_behind (d ∷ next ∷ done) plan calls short = (refl, stops_behind (next ∷ done) plan calls short)

-- which call was to fail

both_clear : (fails : ℕ → Bool) (t n m : ℕ) → AreClear fails t n → AreClear fails (t + n) m → AreClear fails t (n + m)
both_clear fails t n m front back i lt = elim (cases_lt i n) [
  | inl below ↦ front i below
  | inr above ↦ (let at : t + i ≡ (t + n) + (i - n) = omega (arith, above) in ap fails at ∙ back (i - n) (omega (arith, above, lt)))
]

pub fails_shifted : (fails : ℕ → Bool) (t n count i : ℕ) → AreClear fails t n → FailsFirst fails (t + n) count i → FailsFirst fails t (n + count) (n + i)
fails_shifted fails t n count i clear first = record {
  within = omega (arith, first.within);
  due = ap fails (sum t n i) ∙ first.due;
  clear = both_clear fails t n i clear first.clear;
}
  where
    sum : (t n i : ℕ) → t + (n + i) ≡ (t + n) + i
    sum t n i = omega arith

-- calls of a plan, each answered Ok
abbrev pub AllOk : List Call → Type 0
AllOk [] = Unit {0}
AllOk (write place bytes ok ∷ plan) = (ok ≡ true) × AllOk plan
AllOk (sync ok ∷ plan) = (ok ≡ true) × AllOk plan

abbrev is_ok : Call → Bool
is_ok (write place bytes ok) = ok
is_ok (sync ok) = ok

one_ok : (call p : Call) (calls : List Call) → AllOk (call ∷ calls) → call ≡ failed p → ⊥
one_ok call p calls all is = true≢false (sym (first_ok call calls all) ∙ ap is_ok is ∙ not_ok p)
  where
    first_ok : (call : Call) (calls : List Call) → AllOk (call ∷ calls) → is_ok call ≡ true
    first_ok (write place bytes ok) calls all = all.0
    first_ok (sync ok) calls all = all.0

    not_ok : (p : Call) → is_ok (failed p) ≡ false
    not_ok (write place bytes ok) = refl
    not_ok (sync ok) = refl

later_ok : (p : Call) (plan : List Call) → AllOk (p ∷ plan) → AllOk plan
later_ok (write place bytes ok) plan all = all.1
later_ok (sync ok) plan all = all.1

-- as many calls as are planned, each answered Ok, don't stop short
pub never_short : (plan calls : List Call) → length calls ≡ length plan → AllOk calls → StopsShort plan calls → ⊥
never_short [] calls same all short = short
never_short (p ∷ plan) [] same all short = absurd (omega (arith, same))
never_short (p ∷ plan) (call ∷ []) same all (inl is) = one_ok call p [] all is
never_short (p ∷ []) (call ∷ []) same all (inr is) = is.1
never_short (p ∷ next ∷ plan) (call ∷ []) same all (inr is) = absurd (omega (arith, same))
never_short (p ∷ plan) (call ∷ next ∷ calls) same all short = never_short plan (next ∷ calls) (omega (arith, same)) (later_ok call (next ∷ calls) all) short.1

pub same_calls : (h : History) (xs ys : List Call) → extended h xs ≡ extended h ys → xs ≡ ys
same_calls h xs ys is = sym (drop_at h.calls xs (moment h) refl) ∙ ap (λ (k : History). drop (moment h) k.calls) is ∙ drop_at h.calls ys (moment h) refl

-- where a record's calls stopped short, the journal didn't make the four of a record
pub no_record : (h k : History) (gate : ℕ) (payload : List ℕ) (calls : List Call) → k ≡ extended h calls → StopsShort (append_calls gate payload) calls
    → (place : ℕ) (text : List ℕ) → k ≡ extended h (append_calls place text) → ⊥
no_record h k gate payload calls is short place text made =
    let same = same_calls h calls (append_calls place text) (sym is ∙ made) in
    never_short (append_calls gate payload) (append_calls place text) refl (refl, (refl, (refl, (refl, tt))))
    (subst (StopsShort (append_calls gate payload)) same short)

-- Calls stopped short at the first that was to fail.
pub record IsCutShort (fails : ℕ → Bool) (from : ℕ) (plan calls : List Call) : Type 0 where
  pub at : ℕ
  pub first : FailsFirst fails from (length plan) at
  pub size : length calls ≡ at + 1

one_more : (n : ℕ) → 1 + n ≡ suc n
one_more n = omega arith

-- all go well, or one is the first to fail
decided : (fails : ℕ → Bool) (from : ℕ) (plan : List Call) → (answered fails from plan ≡ plan) ⊎ IsCutShort fails from plan (answered fails from plan)
decided fails from [] = inl refl
decided fails from (p ∷ plan) = by (fails from) refl (decided fails (from + 1) plan)
  where
    by : (b : Bool) → fails from ≡ b → (answered fails (from + 1) plan ≡ plan) ⊎ IsCutShort fails (from + 1) plan (answered fails (from + 1) plan)
        → ((if b then failed p ∷ [] else p ∷ answered fails (from + 1) plan) ≡ p ∷ plan)
        ⊎ IsCutShort fails from (p ∷ plan) (if b then failed p ∷ [] else p ∷ answered fails (from + 1) plan)
    by true due rest = inr (record {
      at = 0;
      first = record { within = omega arith; due = ap fails (omega arith) ∙ due; clear = λ i lt. absurd (omega (arith, lt)) };
      size = refl;
    })
    by false clear (inl same) = inl (ap (λ l. p ∷ l) same)
    by false clear (inr cut) = inr (record {
      at = 1 + cut.at;
      first = subst (λ n. FailsFirst fails from n (1 + cut.at)) (one_more (length plan))
          (fails_shifted fails from 1 (length plan) cut.at (one clear) cut.first);
      size = omega (arith, cut.size);
    })
      where
        one : fails from ≡ false → AreClear fails from 1
        one clear i lt = ap fails (omega (arith, lt)) ∙ clear

pub cut_short : (fails : ℕ → Bool) (was now : Bool) (h k : History) (plan calls : List Call) → AllOk plan → k ≡ extended h calls → StopsShort plan calls
    → IsExact fails was now h k plan
    → IsTrue now ⊎ IsCutShort fails (moment h) plan calls
cut_short fails was now h k plan calls all is short (inl starved) = inl starved
cut_short fails was now h k plan calls all is short (inr exact) =
    let same = same_calls h calls (answered fails (moment h) plan) (sym is ∙ exact.1) in
    elim (decided fails (moment h) plan) [
      | inl whole ↦ absurd (never_short plan plan refl all (subst (StopsShort plan) (same ∙ whole) short))
      | inr cut ↦ inr (subst (IsCutShort fails (moment h) plan) (sym same) cut)
    ]

-- the calls of puts

pub size_of_put : (place : ℕ) (bytes : List ℕ) (puts : List (List ℕ)) → length (put_calls place bytes) + spool_calls puts ≡ spool_calls (bytes ∷ puts)
size_of_put place [] puts = omega arith
size_of_put place (b ∷ bytes) puts = refl

pub size_of_one : (place : ℕ) (bytes : List ℕ) → length (put_calls place bytes) ≡ spool_calls (bytes ∷ [])
size_of_one place [] = refl
size_of_one place (b ∷ bytes) = refl

pub puts_ok : (place : ℕ) (bytes : List ℕ) → AllOk (put_calls place bytes)
puts_ok place [] = tt
puts_ok place (b ∷ bytes) = (refl, (refl, tt))

pub failing : (fails : ℕ → Bool) (was now : Bool) (h k : History) (place : ℕ) (bytes : List ℕ) (calls : List Call) → k ≡ extended h calls
    → StopsShort (put_calls place bytes) calls
    → IsExact fails was now h k (put_calls place bytes) → IsTrue now ⊎ (i : ℕ) × FailsFirst fails (moment h) (spool_calls (bytes ∷ [])) i
failing fails was now h k place bytes calls is short exact = elim (cut_short fails was now h k (put_calls place bytes) calls
    (puts_ok place bytes) is short exact) [
      | inl starved ↦ inl starved
      | inr cut ↦ inr (cut.at, subst (λ n. FailsFirst fails (moment h) n cut.at) (size_of_one place bytes) cut.first)
    ]

-- the fault of a call that was neither too long nor in want of room
pub is_disk : (fault : SpoolFault) → (fault ≡ spool.TooLong → ⊥) → (fault ≡ spool.Memory want → ⊥) → fault ≡ spool.Disk
is_disk spool.TooLong long memory = absurd (long refl)
is_disk spool.Disk long memory = refl
is_disk (spool.Memory refused) long memory = absurd (memory refl)

-- none of a put's calls was to fail
pub one_clear : (fails : ℕ → Bool) (from : ℕ) (bytes : List ℕ) → (0 < length bytes → (i : ℕ) → i < 2 → fails (from + i) ≡ false)
    → AreClear fails from (spool_calls (bytes ∷ []))
one_clear fails from [] due = λ i lt. absurd (omega (arith, lt))
one_clear fails from (b ∷ bytes) due = due (omega arith)

-- a put's calls, and then those of other puts
module _ (h j : History) (fails later : ℕ → Bool) (place : ℕ) (bytes : List ℕ) (puts : List (List ℕ)) (made : j ≡ extended h (put_calls place bytes))
    (same : (i : ℕ) → later i ≡ fails i)
    (clear : AreClear fails (moment h) (spool_calls (bytes ∷ []))) where
  moment_is : moment j ≡ moment h + spool_calls (bytes ∷ [])
  moment_is = ap moment made ∙ length-append h.calls (put_calls place bytes) ∙ ap (λ n. moment h + n) (size_of_one place bytes)

  count_is : spool_calls (bytes ∷ []) + spool_calls puts ≡ spool_calls (bytes ∷ puts)
  count_is = ap (λ n. n + spool_calls puts) (sym (size_of_one place bytes)) ∙ size_of_put place bytes puts

  same_fails : later ≡ fails
  same_fails = λ k i. same i k

  pub all_clear : AreClear later (moment j) (spool_calls puts) → AreClear fails (moment h) (spool_calls (bytes ∷ puts))
  all_clear rest =
      let back = subst (λ f. AreClear f (moment h + spool_calls (bytes ∷ [])) (spool_calls puts)) same_fails
      (subst (λ t. AreClear later t (spool_calls puts)) moment_is rest) in
      subst (AreClear fails (moment h)) count_is (both_clear fails (moment h) (spool_calls (bytes ∷ [])) (spool_calls puts) clear back)

  pub later_fails : (now : Bool) → IsTrue now ⊎ (i : ℕ) × FailsFirst later (moment j) (spool_calls puts) i
      → IsTrue now ⊎ (i : ℕ) × FailsFirst fails (moment h) (spool_calls (bytes ∷ puts)) i
  later_fails now (inl starved) = inl starved
  later_fails now (inr at) =
      let n = spool_calls (bytes ∷ []) in
      let rest = subst (λ f. FailsFirst f (moment h + n) (spool_calls puts) at.0) same_fails
      (subst (λ t. FailsFirst later t (spool_calls puts) at.0) moment_is at.1) in
      inr (
        n + at.0,
        subst (λ count. FailsFirst fails (moment h) count (n + at.0)) count_is
            (fails_shifted fails (moment h) n (spool_calls puts) at.0 clear rest),
      )

-- the first put failed
pub first_fails : (fails : ℕ → Bool) (from : ℕ) (bytes : List ℕ) (puts : List (List ℕ)) (now : Bool)
    → IsTrue now ⊎ (i : ℕ) × FailsFirst fails from (spool_calls (bytes ∷ [])) i → IsTrue now ⊎ (i : ℕ) × FailsFirst fails from (spool_calls (bytes ∷ puts)) i
first_fails fails from bytes puts now (inl starved) = inl starved
first_fails fails from bytes puts now (inr at) = inr (
  at.0,
  record {
    within = omega (arith, at.1.within, size_of_one 0 bytes, size_of_put 0 bytes puts);
    due = at.1.due;
    clear = at.1.clear;
  },
)

pub none_clear : (fails : ℕ → Bool) (from : ℕ) (puts : List (List ℕ)) → length puts ≡ 0 → AreClear fails from (spool_calls puts)
none_clear fails from [] none = λ i lt. absurd (omega (arith, lt))
none_clear fails from (put ∷ puts) none = absurd (omega (arith, none))
