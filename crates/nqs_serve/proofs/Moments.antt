-- Moments of a run after those of another, and of a run by what it kept.
use Rattle.std.proofs.Common.{◌≡◌, inl, inr, ℕ, zero, suc, ◌+◌, ◌-◌, None, Some, List}
use Rattle.std.proofs.Common.{[], ◌∷◌, ◌++◌, take, length, refl, sym, ap, ◌∙◌, subst, arith, append_assoc, length-append}
use Rattle.std.proofs.lemmas.Bool.Decides.{leb_tells}
use Rattle.std.proofs.lemmas.List.{append-nil, take-append-le}
use Rattle.std.proofs.Math.Seq.{take-append-add, take-length}
use Rattle.nqs_state.specs.State.{Plain}
use Rattle.nqs_types.specs.declared.change.Change.{Change}
use Rattle.nqs_types.specs.declared.world.Which.{Which}
use Rattle.nqs_rules.specs.Applied.{applied}
use Rattle.nqs_rules.specs.Starts.{after_change, after_starts, after_step}
use Rattle.nqs_rules.specs.Stepped.{Stepped, stored_parts}
use Rattle.nqs_outside.specs.History.{History, state, after as after_calls, IsImage}
use Rattle.nqs_outside.proofs.Histories.{after-append, state-extended}
use Rattle.nqs_store.specs.Active.{Active, ready, recorded}
use Rattle.nqs_store.specs.Commits.{EachImage, Keeping}
use Rattle.nqs_store.specs.Hosts.{HostCall, part, Runs, EachPrefix}
use Rattle.nqs_store.specs.Images.{IsTold, TellsOneOf}
use Rattle.nqs_store.proofs.Runs.{none_more}
use Rattle.nqs_store.proofs.HostRuns.{part_append, runs_both}
use Rattle.nqs_node.specs.Carried.{Kept, after_kept, IsOneOrOther}
use Rattle.nqs_serve.specs.Keeping.{AreKept}
use Rattle.nqs_serve.specs.Moments.{TellsTo, TellsThroughout, IsOfCommits, AreOfCommits, behind, joined}

-- calls of the disks, one list after the other

module _ (old mid now : Which → History) (xs ys : List HostCall) (one : Runs old mid xs) (two : Runs mid now ys) where
  -- what the disks may leave after some of the later calls
  later_state : (which : Which) (n : ℕ) → after_calls (state (old which)) (part which (take (length xs + n) (xs ++ ys))) ≡ after_calls (state (mid which))
      (part which (take n ys))
  later_state which n =
      ap (λ (l : List HostCall). after_calls (state (old which)) (part which l)) (take-append-add xs ys n)
      ∙ ap (after_calls (state (old which))) (part_append which xs (take n ys))
      ∙ after-append (state (old which)) (part which xs) (part which (take n ys))
      ∙ ap (λ s. after_calls s (part which (take n ys))) (sym (ap state (one which) ∙ state-extended (old which) (part which xs)))

  later_image : (j : ℕ) (images : Which → List ℕ) (n : ℕ) → j ≡ length xs + n
      → ((which : Which) → IsImage (after_calls (state (old which)) (part which (take j (xs ++ ys)))) (images which))
      → (which : Which) → IsImage (after_calls (state (mid which)) (part which (take n ys))) (images which)
  later_image j images n at leaves which =
      subst (λ s. IsImage s (images which)) (ap (λ i. after_calls (state (old which)) (part which (take i (xs ++ ys)))) at ∙ later_state which n) (leaves which)

  each_then : (P : (Which → List ℕ) → Type 0) → EachPrefix old xs P → EachPrefix mid ys P → EachPrefix old (xs ++ ys) P
  each_then P first second j images le leaves =
      let n = j - length xs in
      elim (leb_tells j (length xs)) [
        | inl early ↦ first j images early.1 (λ which. subst (λ (l : List HostCall). IsImage (after_calls (state (old which)) (part which l)) (images which))
            (take-append-le j xs ys early.1) (leaves which))
        | inr late ↦ second n images (omega (arith, late.1, le, length-append xs ys)) (later_image j images n (omega (arith, late.1)) leaves)
      ]

-- no call is made
each_none : (now : Which → History) (P : (Which → List ℕ) → Type 0) → EachImage now P → EachPrefix now [] P
each_none now P all zero images le leaves = all images leaves
each_none now P all (suc j) images le leaves = absurd (omega (arith, le))

-- commits, one after the other

joined-append : (xs ys : List (List HostCall)) → joined (xs ++ ys) ≡ joined xs ++ joined ys
joined-append [] ys = refl
joined-append (calls ∷ xs) ys = ap (λ (l : List HostCall). calls ++ l) (joined-append xs ys) ∙ sym (append_assoc calls (joined xs) (joined ys))

commits_then : (a : Active) (xs ys : List (List HostCall)) → AreOfCommits a xs → AreOfCommits (behind xs a) ys → AreOfCommits a (xs ++ ys)
commits_then a [] ys one two = two
commits_then a (calls ∷ xs) ys one two = (one.0, commits_then (recorded (ready a)) xs ys one.1 two)

behind-append : (a : Active) (xs ys : List (List HostCall)) → behind (xs ++ ys) a ≡ behind ys (behind xs a)
behind-append a [] ys = refl
behind-append a (calls ∷ xs) ys = behind-append (recorded (ready a)) xs ys

made_then : (from mid to : Active) (xs ys : List HostCall) → IsOfCommits from mid xs → IsOfCommits mid to ys → IsOfCommits from to (xs ++ ys)
made_then from mid to xs ys one two = (
  one.0 ++ two.0,
  ap (λ (l : List HostCall). l ++ ys) one.1 ∙ ap (λ (l : List HostCall). joined one.0 ++ l) two.1 ∙ sym (joined-append one.0 two.0),
  commits_then from one.0 two.0 one.2 (subst (λ a. AreOfCommits a two.0) (sym one.3) two.2),
  behind-append from one.0 two.0 ∙ ap (behind two.0) one.3 ∙ two.3,
)

-- no call
none_made : (a : Active) → IsOfCommits a a []
none_made a = ([], refl, tt, refl)

-- those of one change
of_keeping : (a : Active) (c : Change (List ℕ)) (old now : Which → History) (s : Plain) (k : Keeping a (stored_parts c) old now s (applied c s))
    → IsOfCommits a (recorded (ready a)) k.calls.run
of_keeping a c old now s k = (
  k.calls.run ∷ [],
  sym (append-nil k.calls.run),
  ((k.calls.snapshot, k.calls.places, stored_parts c, k.calls.gate, k.calls.payload, k.calls.many, k.calls.stands), tt),
  refl,
)

-- what the disks tell, one run after the other

-- of two states one is told, and each has P
told_either : (s u : Plain) (P : Plain → Type 0) → P s → P u → (images : Which → List ℕ) → TellsOneOf s u images
    → (v : Plain) × IsTold images v × P v
told_either s u P before later images (inl told) = (s, told, before)
told_either s u P before later images (inr told) = (u, told, later)

pub through_change : (a : Active) (old now : Which → History) (kept : Kept) (s : Plain) (P : Plain → Type 0) → IsOneOrOther a old now kept s → P s
    → P (after_change kept s) → TellsTo a (after_kept kept a) old now P
through_change a old now None s P still before later =
    ([], none_made a, λ which. still.0 which ∙ none_more (old which), each_none old _ (λ images leaves. (s, still.1 images leaves, before)))
through_change a old now (Some c) s P keeping before later = (
  keeping.calls.run,
  of_keeping a c old now s keeping,
  keeping.calls.made,
  λ j images le leaves. told_either s (applied c s) P before later images (keeping.told j images le leaves),
)

-- what the disks may leave at its end
pub at_last : (a : Active) (old now : Which → History) (kept : Kept) (s : Plain) → IsOneOrOther a old now kept s
    → EachImage now (TellsOneOf s (after_change kept s))
at_last a old now None s still = λ images leaves. inl (still.1 images (λ which. subst (λ h. IsImage (state h) (images which)) (still.0 which) (leaves which)))
at_last a old now (Some c) s keeping = λ images leaves.
    keeping.told (length keeping.calls.run) images (omega arith) (λ which. subst (λ x. IsImage x (images which)) (is which) (leaves which))
  where
    is : (which : Which) → state (now which) ≡ after_calls (state (old which)) (part which (take (length keeping.calls.run) keeping.calls.run))
    is which = ap state (keeping.calls.made which) ∙ state-extended (old which) (part which keeping.calls.run)
        ∙ ap (λ (l : List HostCall). after_calls (state (old which)) (part which l)) (sym (take-length keeping.calls.run))

-- the same, to the journal that is active then
pub through_made : (a b : Active) (old now : Which → History) (kept : Kept) (s : Plain) (P : Plain → Type 0) → b ≡ after_kept kept a
    → IsOneOrOther a old now kept s → P s → P (after_change kept s) → TellsTo a b old now P
through_made a b old now kept s P active keeping before later =
    subst (λ x. TellsTo a x old now P) (sym active) (through_change a old now kept s P keeping before later)

pub through_as : (a b : Active) (old now : Which → History) (P Q : Plain → Type 0) → ((u : Plain) → P u → Q u) → TellsTo a b old now P → TellsTo a b old now Q
through_as a b old now P Q f each =
    (each.0, each.1, each.2, λ j images le leaves. let told = each.3 j images le leaves in (told.0, told.1, f told.0 told.2))

pub through_then : (a b c : Active) (old mid now : Which → History) (P : Plain → Type 0) → TellsTo a b old mid P → TellsTo b c mid now P
    → TellsTo a c old now P
through_then a b c old mid now P one two = (
  one.0 ++ two.0,
  made_then a b c one.0 two.0 one.1 two.1,
  runs_both old mid now one.0 two.0 one.2 two.2,
  each_then old mid now one.0 two.0 one.2 two.2 _ one.3 two.3,
)

-- what the disks kept of calls: at each moment they tell a state before or behind one of these
pub kept_tells : (a : Active) (old now : Which → History) (s : Plain) (xs : List (Stepped (List ℕ))) (failed : Kept) (P : Plain → Type 0)
    → ((fs bs : List (Stepped (List ℕ))) → xs ≡ fs ++ bs → P (after_starts fs s)) → P (after_change failed (after_starts xs s))
    → AreKept a old now s xs failed → TellsThroughout a old now P
kept_tells a old now s [] failed P each last kept = (after_kept failed a, through_change a old now failed s P kept.1 (each [] [] refl) last)
kept_tells a old now s (x ∷ xs) failed P each last kept =
    let b = after_kept x.change a in
    let rest = kept_tells b kept.0 now (after_step x s) xs failed P
    (λ fs bs is. each (x ∷ fs) bs (ap (λ (l : List (Stepped (List ℕ))). x ∷ l) is)) last kept.3 in (
      rest.0,
      through_then a b rest.0 old kept.0 now P
          (through_change a old kept.0 x.change s P kept.2 (each [] (x ∷ xs) refl) (each (x ∷ []) xs refl)) rest.1,
    )
