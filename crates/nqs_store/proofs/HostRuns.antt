-- Runs of a host's disks, one part after another.
use Rattle.std.proofs.Common.{◌≡◌, ◌≢◌, ◌⊎◌, inl, inr, ℕ, zero, suc, ◌+◌, ◌-◌, ◌≤◌, Bool, true, false, if◌then◌else◌, List, [], ◌∷◌, ◌++◌, length, take}
use Rattle.std.proofs.Common.{refl, sym, ap, ◌∙◌, subst, arith, length-append}
use Rattle.std.proofs.lemmas.List.{append-nil, take-append-le}
use Rattle.std.proofs.lemmas.Bool.{cases_lt}
use Rattle.std.proofs.Math.Seq.{take-append-add}
use Rattle.nqs_types.specs.declared.world.Which.{Which}
use Rattle.nqs_types.specs.declared.world.Which.TheVariants.{Root, First, Second, Spool}
use Rattle.nqs_outside.specs.History.{Call, State, History, extended, fresh, state, moment, after, state_at, IsImage, StopsShort as DiskStops}
use Rattle.nqs_outside.proofs.Histories.{state-extended, state_at-extended, after-append, goes_on}
use Rattle.nqs_store.specs.Hosts.{HostCall, on, part, same_disk, Runs, StopsShort}
use Rattle.nqs_store.specs.Commits.{IsSettled}
use Rattle.nqs_store.specs.Moments.{Moments}
use Rattle.nqs_store.proofs.Runs.{none_more}

false_true : false ≡ true → ⊥
false_true is = absurd (let no : ⊥ = cc in no)

pub same_self : (w : Which) → same_disk w w ≡ true
same_self Root = refl
same_self First = refl
same_self Second = refl
same_self Spool = refl

same_is : (v w : Which) → same_disk v w ≡ true → v ≡ w
same_is Root Root is = refl
same_is Root First is = absurd (false_true is)
same_is Root Second is = absurd (false_true is)
same_is Root Spool is = absurd (false_true is)
same_is First Root is = absurd (false_true is)
same_is First First is = refl
same_is First Second is = absurd (false_true is)
same_is First Spool is = absurd (false_true is)
same_is Second Root is = absurd (false_true is)
same_is Second First is = absurd (false_true is)
same_is Second Second is = refl
same_is Second Spool is = absurd (false_true is)
same_is Spool Root is = absurd (false_true is)
same_is Spool First is = absurd (false_true is)
same_is Spool Second is = absurd (false_true is)
same_is Spool Spool is = refl

-- the same disk, or another
pub same_or : (v w : Which) → (v ≡ w) ⊎ ((v ≢ w) × (same_disk v w ≡ false))
same_or v w = by (same_disk v w) refl
  where
    by : (b : Bool) → same_disk v w ≡ b → (v ≡ w) ⊎ ((v ≢ w) × (same_disk v w ≡ false))
    by true is = inl (same_is v w is)
    by false is = inr ((λ same. false_true (sym is ∙ ap (same_disk v) (sym same) ∙ same_self v)), is)

part_step : (v w : Which) (call : Call) (b : List HostCall) (c : Bool) → same_disk v w ≡ c
    → part v ((w, call) ∷ b) ≡ (if c then call ∷ part v b else part v b)
part_step v w call b c is = ap (λ (d : Bool). if d then call ∷ part v b else part v b) is

-- a disk's part of its own calls
pub part_own : (v : Which) (b : List Call) → part v (on v b) ≡ b
part_own v [] = refl
part_own v (call ∷ b) = part_step v v call (on v b) true (same_self v) ∙ ap (λ l. call ∷ l) (part_own v b)

-- and of those of another
pub part_other : (v w : Which) (b : List Call) → same_disk v w ≡ false → part v (on w b) ≡ []
part_other v w [] other = refl
part_other v w (call ∷ b) other = part_step v w call (on w b) false other ∙ part_other v w b other

pub part_append : (v : Which) (r s : List HostCall) → part v (r ++ s) ≡ part v r ++ part v s
part_append v [] s = refl
part_append v (call ∷ r) s = by (same_disk v call.0) (part_append v r s)
  where
    by : (c : Bool) → part v (r ++ s) ≡ part v r ++ part v s
        → (if c then call.1 ∷ part v (r ++ s) else part v (r ++ s)) ≡ (if c then call.1 ∷ part v r else part v r) ++ part v s
    by true rest = ap (λ l. call.1 ∷ l) rest
    by false rest = rest

-- calls of one disk
pub runs_on : (old now : Which → History) (v : Which) (a : List Call) → now v ≡ extended (old v) a → ((w : Which) → w ≢ v → now w ≡ old w)
    → Runs old now (on v a)
runs_on old now v a did rest w = elim (same_or w v) [
  | inl is ↦ subst (λ u. now u ≡ extended (old u) (part u (on v a))) (sym is) (did ∙ ap (extended (old v)) (sym (part_own v a)))
  | inr other ↦ rest w other.0 ∙ none_more (old w) ∙ ap (extended (old w)) (sym (part_other w v a other.1))
]

-- one run after another
pub runs_both : (old mid now : Which → History) (r s : List HostCall) → Runs old mid r → Runs mid now s → Runs old now (r ++ s)
runs_both old mid now r s first second w = goes_on (old w) (mid w) (now w) (part w r) (part w s) (first w) (second w)
    ∙ ap (extended (old w)) (sym (part_append w r s))

pub runs_none : (old now : Which → History) → ((w : Which) → now w ≡ old w) → Runs old now []
runs_none old now same w = same w ∙ none_more (old w)

-- moments

take_on : (v : Which) (a : List Call) (j : ℕ) → take j (on v a) ≡ on v (take j a)
take_on v [] zero = refl
take_on v [] (suc j) = refl
take_on v (call ∷ a) zero = refl
take_on v (call ∷ a) (suc j) = ap (λ l. (v, call) ∷ l) (take_on v a j)

pub length_on : (v : Which) (a : List Call) → length (on v a) ≡ length a
length_on v [] = refl
length_on v (call ∷ a) = ap suc (length_on v a)

own_after : (old : Which → History) (v : Which) (a : List Call) (j : ℕ)
    → after (state (old v)) (part v (take j (on v a))) ≡ state_at (extended (old v) a) (moment (old v) + j)
own_after old v a j = ap (λ l. after (state (old v)) (part v l)) (take_on v a j) ∙ ap (after (state (old v))) (part_own v (take j a))
    ∙ sym (state_at-extended (old v) a j)

other_after : (old : Which → History) (v w : Which) (a : List Call) (j : ℕ) → same_disk w v ≡ false
    → after (state (old w)) (part w (take j (on v a))) ≡ state (old w)
other_after old v w a j other = ap (λ l. after (state (old w)) (part w l)) (take_on v a j) ∙ ap (after (state (old w))) (part_other w v (take j a) other)

-- calls of one disk, where the others have nothing pending
pub moments_on : (old : Which → History) (now : History) (v : Which) (a : List Call) (P : (Which → List ℕ) → Type 0) → now ≡ extended (old v) a
    → ((w : Which) → w ≢ v → (state (old w)).ranges ≡ [])
    → ((t : ℕ) (images : Which → List ℕ) → moment (old v) ≤ t → t ≤ moment now → IsImage (state_at now t) (images v)
    → ((w : Which) → w ≢ v → IsImage (state (old w)) (images w)) → P images)
    → Moments old (on v a) P
moments_on old now v a P did quiet each = record {
  told = λ j images le leaves. each (moment (old v) + j) images (omega arith)
      (omega (arith, le, length_on v a, ap moment did, length-append ((old v).calls) a))
      (subst (λ h. IsImage (state_at h (moment (old v) + j)) (images v)) (sym did)
      (subst (λ s. IsImage s (images v)) (own_after old v a j) (leaves v)))
      (λ w other. subst (λ s. IsImage s (images w)) (other_after old v w a j (apart w v other)) (leaves w));
  settled = λ j x y differ. elim (same_or x v) [
    | inl is ↦ inr (settled_other j y (λ same. differ (is ∙ sym same)))
    | inr other ↦ inl (settled_other j x other.0)
  ];
}
  where
    apart : (w u : Which) → w ≢ u → same_disk w u ≡ false
    apart w u other = elim (same_or w u) [ inl is ↦ absurd (other is) | inr far ↦ far.1 ]

    settled_other : (j : ℕ) (w : Which) → w ≢ v → IsSettled old (take j (on v a)) w
    settled_other j w other = ap (λ (s : State). s.ranges) (other_after old v w a j (apart w v other)) ∙ quiet w other

after_run : (old mid : Which → History) (r s : List HostCall) (w : Which) → Runs old mid r
    → after (state (old w)) (part w (r ++ s)) ≡ after (state (mid w)) (part w s)
after_run old mid r s w runs = ap (after (state (old w))) (part_append w r s) ∙ after-append (state (old w)) (part w r) (part w s)
    ∙ ap (λ u. after u (part w s)) (sym (state-extended (old w) (part w r)) ∙ ap state (sym (runs w)))

-- one run after another
pub moments_both : (old mid : Which → History) (r s : List HostCall) (P : (Which → List ℕ) → Type 0) → Runs old mid r → Moments old r P → Moments mid s P
    → Moments old (r ++ s) P
moments_both old mid r s P runs first second = record {
  told = λ j images le leaves. elim (cases_lt j (length r)) [
    | inl early ↦ first.told j images (omega (arith, early)) (λ w. subst (λ l. IsImage (after (state (old w)) (part w l)) (images w))
        (take-append-le j r s (omega (arith, early))) (leaves w))
    | inr late ↦ second.told (j - length r) images (omega (arith, le, late, length-append r s))
        (λ w. subst (λ u. IsImage u (images w)) (ap (λ l. after (state (old w)) (part w l)) (behind j late)
        ∙ after_run old mid r (take (j - length r) s) w runs) (leaves w))
  ];
  settled = λ j x y differ. elim (cases_lt j (length r)) [
    | inl early ↦ subst (λ l. IsSettled old l x ⊎ IsSettled old l y) (sym (take-append-le j r s (omega (arith, early)))) (first.settled j x y differ)
    | inr late ↦ subst (λ l. IsSettled old l x ⊎ IsSettled old l y) (sym (behind j late)) (elim (second.settled (j - length r) x y differ) [
      | inl is ↦ inl (ap (λ (u : State). u.ranges) (after_run old mid r (take (j - length r) s) x runs) ∙ is)
      | inr is ↦ inr (ap (λ (u : State). u.ranges) (after_run old mid r (take (j - length r) s) y runs) ∙ is)
    ])
  ];
}
  where
    behind : (j : ℕ) → length r ≤ j → take j (r ++ s) ≡ r ++ take (j - length r) s
    behind j late = ap (λ i. take i (r ++ s)) (let whole : j ≡ length r + (j - length r) = omega (arith, late) in whole) ∙ take-append-add r s (j - length r)

pub moments_weaker : (old : Which → History) (run : List HostCall) (P Q : (Which → List ℕ) → Type 0) → ((images : Which → List ℕ) → P images → Q images)
    → Moments old run P → Moments old run Q
moments_weaker old run P Q weaker m = record { told = λ j images le leaves. weaker images (m.told j images le leaves); settled = m.settled }

-- no call
pub moments_none : (old : Which → History) (P : (Which → List ℕ) → Type 0) → ((w : Which) → (state (old w)).ranges ≡ [])
    → ((images : Which → List ℕ) → ((w : Which) → IsImage (state (old w)) (images w)) → P images) → Moments old [] P
moments_none old P quiet each = record {
  told = λ j images le leaves. each images (λ w. subst (λ l. IsImage (after (state (old w)) (part w l)) (images w)) (none j) (leaves w));
  settled = λ j x y differ. inl (ap (λ l. (after (state (old x)) (part x l)).ranges) (none j) ∙ quiet x);
}
  where
    none : (j : ℕ) → take {A = HostCall} j [] ≡ []
    none zero = refl
    none (suc j) = refl

pub no_pending : (s : State) (bytes : List ℕ) → s ≡ fresh bytes → s.ranges ≡ []
no_pending s bytes is = ap (λ (u : State). u.ranges) is

-- plans over all disks

pub on_stops : (v : Which) (plan calls : List Call) (rest : List HostCall) → DiskStops plan calls → StopsShort (on v plan ++ rest) (on v calls)
on_stops v [] calls rest short = absurd short
on_stops v (p ∷ plan) [] rest short = tt
on_stops v (p ∷ plan) (call ∷ []) rest (inl is) = inl (ap (λ c. (v, c)) is)
on_stops v (p ∷ plan) (call ∷ []) rest (inr is) = inr (ap (λ c. (v, c)) is.0, on_stops v plan [] rest is.1)
on_stops v (p ∷ plan) (call ∷ next ∷ calls) rest short = (ap (λ c. (v, c)) short.0, on_stops v plan (next ∷ calls) rest short.1)

pub last_stops : (v : Which) (plan calls : List Call) → DiskStops plan calls → StopsShort (on v plan) (on v calls)
last_stops v plan calls short = subst (λ l. StopsShort l (on v calls)) (append-nil (on v plan)) (on_stops v plan calls [] short)

-- nothing was done of a plan that has a call
pub none_stops : (done plan : List HostCall) → StopsShort plan [] → StopsShort (done ++ plan) []
none_stops [] plan short = short
none_stops (d ∷ done) plan short = tt

-- what stops short is no longer than the plan
pub stops_size : (plan calls : List HostCall) → StopsShort plan calls → length calls ≤ length plan
stops_size [] calls short = absurd short
stops_size (p ∷ plan) [] short = omega arith
stops_size (p ∷ plan) (call ∷ []) short = omega arith
stops_size (p ∷ plan) (call ∷ next ∷ calls) short = let rest = stops_size plan (next ∷ calls) short.1 in omega (arith, rest)
