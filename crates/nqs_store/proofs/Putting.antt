-- Bytes put into a spool, one list after another.
use Rattle.std.proofs.Common.{◌≡◌, inl, inr, ℕ, suc, List, [], ◌∷◌, ◌++◌, map, length, IsTrue, refl, sym, ap, subst, ◌∙◌, arith, append_assoc}
use Rattle.std.proofs.lemmas.List.{append-nil, length-map}
use Rattle.nqs_base.specs.declared.extent.Extent.{Extent}
use Rattle.std.proofs.Math.Seq.{take-length}
use Rattle.nqs_outside.specs.History.{Call, failed, State, History, content, state, state_at, after, fresh, extended, moment, IsImage, IsQuiet, EachSince}
use Rattle.nqs_outside.specs.History.{StopsShort}
use Rattle.nqs_store.proofs.TellsNow.{only_image}
use Rattle.nqs_outside.specs.declared.disk.Disk as disk
use Rattle.nqs_outside.proofs.Histories.{goes_on}
use Rattle.nqs_spool.specs.Extents.{Has, IsWith, Holds}
use Rattle.nqs_spool.specs.Puts.{put_calls}
use Rattle.nqs_spool.specs.Spooled.{history_of, Tells}
use Rattle.nqs_spool.specs.declared.spool.Spool.{Spool}
use Rattle.nqs_records.specs.Values.{IsScript}
use Rattle.nqs_store.specs.Plan.{puts_calls}
use Rattle.nqs_store.specs.Puts.{place_of}
use Rattle.nqs_store.specs.Putting.{ArePartlyPut, ArePut}
use Rattle.nqs_store.proofs.Runs.{none_more, each_since_both, stops_before, stops_behind}
use Rattle.nqs_store.proofs.Extents.{with_first}

-- where nothing is pending and no call is made, each image holds what was held
pub held_idle : (h : History) (x : Extent) (script : List ℕ) → IsQuiet h → Holds (content h) x script
    → EachSince (moment h) h (λ image. Holds image x script)
held_idle h x script quiet held = λ t image from to leaves.
    let now : t ≡ moment h = omega (arith, from, to) in
    let at : state_at h t ≡ state h = ap (state_at h) now ∙ ap (after (fresh h.start)) (take-length h.calls) in
    subst (λ b. Holds b x script) (only_image h image quiet (subst (λ (s : State). IsImage s image) at leaves)) held

zeros : List (List ℕ) → List ℕ
zeros puts = map (λ _. 0) puts

first_failed : (h k : History) (put : List ℕ) (later : List (List ℕ)) (place : ℕ) (calls : List Call) → k ≡ extended h calls
    → StopsShort (put_calls place put) calls → ArePartlyPut (put ∷ later) h k
first_failed h k put later place calls made short = record {
  places = place ∷ map (λ _. 0) later;
  calls = calls;
  many = ap suc (length-map later (λ _. 0));
  made = made;
  short = stops_before failed (put_calls place put) (puts_calls (map (λ _. 0) later) later) calls short;
}

pub first_broken : (h k : History) (puts : List (List ℕ)) (put : List ℕ) (later : List (List ℕ)) → puts ≡ put ∷ later
    → (place : ℕ) × (calls : List Call) × (k ≡ extended h calls) × StopsShort (put_calls place put) calls → ArePartlyPut puts h k
first_broken h k puts put later is b = subst (λ l. ArePartlyPut l h k) (sym is) (first_failed h k put later b.0 b.1 b.2 b.3)

pub later_broken : (h j k : History) (puts : List (List ℕ)) (put : List ℕ) (later : List (List ℕ)) (place : ℕ) → puts ≡ put ∷ later
    → j ≡ extended h (put_calls place put) → ArePartlyPut later j k → ArePartlyPut puts h k
later_broken h j k puts put later place is made b = subst (λ l. ArePartlyPut l h k) (sym is) (record {
  places = place ∷ b.places;
  calls = put_calls place put ++ b.calls;
  many = ap suc b.many;
  made = goes_on h j k (put_calls place put) b.calls made b.made;
  short = stops_behind failed (put_calls place put) (puts_calls b.places later) b.calls b.short;
})

module _ {D : Type 0} {g : disk.Ghosts D} where
  pub none_put : (spool : Spool D g) (puts : List (List ℕ)) (extents : List Extent) → length puts ≡ 0 → ArePut puts spool spool extents extents
  none_put spool [] extents none = record {
    added = [];
    is = sym (append-nil extents);
    many = refl;
    small = tt;
    lengths = refl;
    made = λ told. none_more (history_of spool);
    tells = λ live more tells adds. subst (Tells spool) adds tells;
    held = λ told live tells. tt;
  }
  none_put spool (put ∷ puts) extents none = absurd (omega (arith, none))

  module _ (old mid now : Spool D g) (x : Extent) (put : List ℕ) (tells : (live more : List Extent) → Tells old live → IsWith live x more → Tells mid more)
      (stored : IsTrue g.tells → Holds (content (history_of mid)) x put) where
    pub more_put : (puts later : List (List ℕ)) (before between after : List Extent) → puts ≡ put ∷ later → between ≡ before ++ x ∷ [] → IsScript x
        → x.length ≡ length put
        → (IsTrue g.tells → history_of mid ≡ extended (history_of old) (put_calls x.place put))
        → (IsTrue g.tells → (live : List Extent) → Tells mid live → (y : Extent) (script : List ℕ) → Has live y → Holds (content (history_of mid)) y script
        → Holds (content (history_of now)) y script)
        → ArePut later mid now between after → ArePut puts old now before after
    more_put puts later before between after is pushed small long made still rest = subst (λ l. ArePut l old now before after) (sym is) (record {
      added = x ∷ rest.added;
      is = rest.is ∙ ap (λ l. l ++ rest.added) pushed ∙ append_assoc before (x ∷ []) rest.added;
      many = ap suc rest.many;
      small = (small, rest.small);
      lengths = λ j. long j ∷ rest.lengths j;
      made = λ told. goes_on (history_of old) (history_of mid) (history_of now) (put_calls x.place put) (puts_calls (map place_of rest.added) later) (made told)
          (rest.made told);
      tells = λ live more was adds. rest.tells adds.0 more (tells live adds.0 was adds.1) adds.2;
      held = λ told live was.
          let first = tells live (x ∷ live) was (with_first x live) in
          (still told (x ∷ live) first x put (inl refl) (stored told), rest.held told (x ∷ live) first);
    })

    -- what is live stays so
    pub kept_on : (live : List Extent) (y : Extent) (script : List ℕ) (calls : List Call) → Tells old live → Has live y
        → history_of now ≡ extended (history_of mid) calls
        → EachSince (moment (history_of old)) (history_of mid) (λ image. Holds image y script) → Holds (content (history_of mid)) y script
        → ((more : List Extent) → Tells mid more → Has more y → Holds (content (history_of mid)) y script
        → EachSince (moment (history_of mid)) (history_of now) (λ image. Holds image y script))
        → EachSince (moment (history_of old)) (history_of now) (λ image. Holds image y script)
    kept_on live y script calls was has made first still rest =
        each_since_both (history_of old) (history_of mid) (history_of now) calls (λ image. Holds image y script) made first
        (rest (x ∷ live) (tells live (x ∷ live) was (with_first x live)) (inr has) still)
