-- In a run no launch comes twice, and between two launches of a request it is lost.
use Rattle.std.proofs.Common.{◌≡◌, ℕ, ◌+◌, ◌<◌, ◌≤◌, ◌⊎◌, inl, inr, Bool, true, false, not, ◌&&◌, ◌||◌, ◌==◌, List, [], ◌∷◌, ◌++◌, slice_get, Option, None}
use Rattle.std.proofs.Common.{Some, true≢false, refl, sym, ap, subst, ◌∙◌, arith}
use Rattle.std.proofs.lemmas.Bool.{and_parts, and_from, eqb-true, eq-eqb, or_from, false_from_ne_true, not-true}
use Rattle.std.proofs.lemmas.Option.{same_Some, none-some}
use Rattle.std.proofs.lemmas.List.{append-nil}
use Rattle.std.specs.List.{list_any, cons_option, AllByRecursion}
use Rattle.nqs_base.proofs.Plain.{all_weaker}
use Rattle.nqs_types.specs.Ids.{id_eq, id_exact}
use Rattle.nqs_state.specs.State.{Plain}
use Rattle.nqs_types.specs.declared.ids.HostId.{HostId}
use Rattle.nqs_types.specs.declared.change.Change.{Change}
use Rattle.nqs_types.specs.declared.world.Seen.{Seen}
use Rattle.nqs_types.specs.declared.world.Seen.TheVariants as seen
use Rattle.nqs_types.specs.declared.table_row.NetState.TheVariants as net
use Rattle.nqs_rules.specs.Edits.{change_at}
use Rattle.nqs_rules.specs.Applied.{applied, next_id}
use Rattle.nqs_rules.specs.InOrder.{are_distinct}
use Rattle.nqs_rules.specs.Licence.{Kind, Steps}
use Rattle.nqs_rules.specs.Net.{Entry, entry_of}
use Rattle.nqs_rules.proofs.KeyFacts.{distinct-added}
use Rattle.nqs_rules.proofs.PeersOrder.{get-other}
use Rattle.nqs_rules.proofs.RowFacts.{same_id}
use Rattle.nqs_rules.specs.Notes.{Note, Saw, Kept, saws}
use Rattle.nqs_laws.specs.Words.{replayed}
use Rattle.nqs_laws.specs.Licensed.{Licenses, IsLicensed}
use Rattle.nqs_laws.specs.Launches.{Launch, launched, launches, same_launch, was_lost_again, is_launch_of, AreApart, IsStarted, IsStartedIn, AreStarted}
use Rattle.nqs_laws.proofs.Frame.{Moment, put_state, Way, change_by, why_by}
use Rattle.nqs_laws.proofs.Told.{replayed-append, nothing_kept, at-value}
use Rattle.nqs_laws.proofs.Sound.{IsSound, Suits, me_is, get-here}
use Rattle.nqs_laws.proofs.After.{Request}
use Rattle.nqs_laws.proofs.Paired.{At}
use Rattle.nqs_laws.proofs.Advance.{seq_grows}
use Rattle.nqs_laws.proofs.LicensedRuns.{IsHistory, change_licensed}
use Rattle.nqs_laws.proofs.Walks.{pending_at, pending-append, apart-append, started-append, launches-append, starts_grow, runs_or_lost, comes_new, submit_new}

-- the number of a request was given
abbrev pub IsGiven : Request → List Plain → Type 0
IsGiven x states = (s : Plain) → At states x.host s → x.seq ≤ s.seq

-- a launch of the past: the request has started as often
pub record IsPast (states : List Plain) (l : Launch) : Type 0 where
  pub given : IsGiven l.0 states
  pub before : (e : Entry) → entry_of l.0 states ≡ Some e → l.1 ≤ e.starts

-- where a launched request lies that wasn't lost since, it runs
pub record IsPending (x : Request) (states : List Plain) : Type 0 where
  pub given : IsGiven x states
  pub runs : (e : Entry) → entry_of x states ≡ Some e → e.state ≡ net.Running

pub record HasLaunches (first states : List Plain) (ns : List Note) : Type 0 where
  pub leads : replayed ns first ≡ states
  pub distinct : are_distinct same_launch (launches ns) ≡ true
  pub past : AllByRecursion (IsPast states) (launches ns)
  pub apart : (x : Request) → AreApart x first false ns
  pub pending : (x : Request) → pending_at x first false ns ≡ true → IsPending x states
  pub started : AreStarted first ns

-- lists of launches

past_added : (P : Launch → Type 0) (ls : List Launch) (l : Launch) → AllByRecursion P ls → P l → AllByRecursion P (ls ++ l ∷ [])
past_added P [] l all p = (p, tt)
past_added P (k ∷ ls) l all p = (all.0, past_added P ls l all.1 p)

launch_exact : (a b : Launch) → same_launch a b ≡ true → a ≡ b
launch_exact a b e =
    let p = and_parts (id_eq a.0 b.0) (a.1 == b.1) e in
    let id = id_exact a.0 b.0 p.0 in
    let start = eqb-true a.1 b.1 p.1 in
    λ j. (id j, start j)

launch_same : (a : Launch) → same_launch a a ≡ true
launch_same a = and_from (id_eq a.0 a.0) (a.1 == a.1) (same_id a.0) (eq-eqb a.1 a.1 refl)

abbrev IsFresh : Launch → Launch → Type 0
IsFresh l k = k.0 ≡ l.0 → k.1 < l.1

new_launch : (l : Launch) (ls : List Launch) → AllByRecursion (IsFresh l) ls → list_any (same_launch l) ls ≡ false
new_launch l [] all = refl
new_launch l (k ∷ ls) all =
    or_from (same_launch l k) (list_any (same_launch l) ls)
    (false_from_ne_true (same_launch l k) (λ e. (let same = launch_exact l k e in let less = all.0 (λ j. (sym same j).0) in
    let start : l.1 ≡ k.1 = (λ j. (same j).1) in absurd (omega (arith, less, start)))))
    (new_launch l ls all.1)

-- what is seen without a launch

none_launched : (o : Option Launch) (ls : List Launch) → cons_option o ls ≡ [] → (o ≡ None) × (ls ≡ [])
none_launched None ls e = (refl, e)
none_launched (Some l) ls e = absurd (let no : ⊥ = cc in no)

quiet_pending : (x : Request) (states : List Plain) (p : Bool) (xs : List Seen) → launches (saws xs) ≡ [] → pending_at x states p (saws xs) ≡ p
quiet_pending x states p [] e = refl
quiet_pending x states p (y ∷ xs) e =
    let q = none_launched (launched (Saw y)) (launches (saws xs)) e in
    ap (λ o. pending_at x states (is_launch_of x o || p) (saws xs)) q.0 ∙ quiet_pending x states p xs q.1

quiet_apart : (x : Request) (states : List Plain) (p : Bool) (xs : List Seen) → launches (saws xs) ≡ [] → AreApart x states p (saws xs)
quiet_apart x states p [] e = tt
quiet_apart x states p (y ∷ xs) e =
    let q = none_launched (launched (Saw y)) (launches (saws xs)) e in
    (λ k. absurd (true≢false (sym k ∙ ap (is_launch_of x) q.0)), quiet_apart x states (is_launch_of x (launched (Saw y)) || p) xs q.1)

-- where nothing is launched, nothing is asked
unlaunched : (states : List Plain) (y : Seen) → launched (Saw y) ≡ None → IsStartedIn states (Saw y)
unlaunched states (seen.Launch h id start) e = absurd (none-some (id, start) (sym e))
unlaunched states (seen.Print h id start device) e = absurd (none-some (id, start) (sym e))
unlaunched states y e = tt

quiet_started : (states : List Plain) (xs : List Seen) → launches (saws xs) ≡ [] → AreStarted states (saws xs)
quiet_started states [] e = tt
quiet_started states (y ∷ xs) e =
    let q = none_launched (launched (Saw y)) (launches (saws xs)) e in
    (unlaunched states y q.0, quiet_started states xs q.1)

module _ (first states : List Plain) (ns : List Note) (k : HasLaunches first states ns) where
  pub quiet_more : (xs : List Seen) → launches (saws xs) ≡ [] → HasLaunches first states (ns ++ saws xs)
  quiet_more xs none =
      let same : launches (ns ++ saws xs) ≡ launches ns = launches-append ns (saws xs) ∙ (ap (λ l. launches ns ++ l) none ∙ append-nil (launches ns)) in
      record {
        leads = replayed-append ns (saws xs) first ∙ (nothing_kept xs (replayed ns first) ∙ k.leads);
        distinct = ap (are_distinct same_launch) same ∙ k.distinct;
        past = subst (AllByRecursion (IsPast states)) (sym same) k.past;
        apart = λ x. apart-append x ns (saws xs) first false (k.apart x) (quiet_apart x (replayed ns first) (pending_at x first false ns) xs none);
        pending = λ x p. k.pending x (sym (pending-append x ns (saws xs) first false
            ∙ quiet_pending x (replayed ns first) (pending_at x first false ns) xs none) ∙ p);
        started = started-append ns (saws xs) first k.started (quiet_started (replayed ns first) xs none);
      }

  -- one launch more
  pub launch_more : (y : Seen) (l : Launch) → launched (Saw y) ≡ Some l → (h : HostId) (begun : IsStarted states h l) → IsStartedIn states (Saw y)
      → IsGiven l.0 states → AllByRecursion (IsFresh l) (launches ns) → pending_at l.0 first false ns ≡ false → HasLaunches first states (ns ++ Saw y ∷ [])
  launch_more y l is h begun told given fresh calm =
      let one : launches (Saw y ∷ []) ≡ l ∷ [] = ap (λ o. cons_option o []) is in
      let same : launches (ns ++ Saw y ∷ []) ≡ launches ns ++ l ∷ [] = launches-append ns (Saw y ∷ []) ∙ ap (λ ls. launches ns ++ ls) one in
      let entry : (e : Entry) → entry_of l.0 states ≡ Some e → begun.entry ≡ e = λ e f. same_Some begun.entry e (sym begun.lies ∙ f) in
      record {
        leads = replayed-append ns (Saw y ∷ []) first ∙ k.leads;
        distinct = ap (are_distinct same_launch) same ∙ distinct-added same_launch launch_exact launch_same (launches ns) l
            (new_launch l (launches ns) fresh) k.distinct;
        past = subst (AllByRecursion (IsPast states)) (sym same) (past_added (IsPast states) (launches ns) l k.past (record {
          given = given;
          before = λ e f. (let a : begun.entry.starts ≡ e.starts = ap (λ (e : Entry). e.starts) (entry e f) in
              let b : begun.entry.starts ≡ l.1 = begun.starts in omega (arith, a, b));
        }));
        apart = λ x. apart-append x ns (Saw y ∷ []) first false (k.apart x)
            (λ t. (let id : x ≡ l.0 = id_exact x l.0 (sym (ap (is_launch_of x) is) ∙ t) in ap (λ z. pending_at z first false ns) id ∙ calm), tt);
        pending = λ x p. by x (id_eq x l.0) refl (sym (pending-append x ns (Saw y ∷ []) first false
            ∙ ap (λ o. is_launch_of x o || pending_at x first false ns) is) ∙ p);
        started = started-append ns (Saw y ∷ []) first k.started (subst (λ s. IsStartedIn s (Saw y)) (sym k.leads) told, tt);
      }
    where
      by : (x : Request) (b : Bool) → id_eq x l.0 ≡ b → (b || pending_at x first false ns) ≡ true → IsPending x states
      by x true e p = let id : x ≡ l.0 = id_exact x l.0 e in subst (λ z. IsPending z states) (sym id) (record {
        given = given;
        runs = λ e f. sym (ap (λ (e : Entry). e.state) (same_Some begun.entry e (sym begun.lies ∙ f))) ∙ begun.runs;
      })
      by x false e p = k.pending x p

-- a change, and what it says of requests whose numbers were given
module _ (site : List (List ℕ)) (first : List Plain) (m : Moment) (sound : IsSound site m) (k : IsHistory first m) (h : HostId) (s : Plain)
    (there : At m.states h s) (way : Way m.packets h s) (c : Change (List ℕ)) (is : change_by way ≡ Some c) (suits : Suits s c) where
  abbrev pub later : List Plain
  later = put_state h (applied c s) m.states

  pub later_is : later ≡ change_at h.0 (applied c) m.states
  later_is = sym (at-value h.0 (applied c) s m.states there)

  pub step_is : (x : Request) → IsLicensed (why_by way) s x (entry_of x m.states) (entry_of x later)
  step_is x = subst (λ l. IsLicensed (why_by way) s x (entry_of x m.states) (entry_of x l)) (sym later_is)
      ((change_licensed site m sound k.net k.away h s there way c is suits []).1 s there x)

  pub given_kept : (x : Request) → IsGiven x m.states → IsGiven x later
  given_kept x given u at = by (h.0 == x.host.0) refl
    where
      by : (b : Bool) → (h.0 == x.host.0) ≡ b → x.seq ≤ u.seq
      by true e =
          let here : h.0 ≡ x.host.0 = eqb-true h.0 x.host.0 e in
          let same : applied c s ≡ u = same_Some (applied c s) u (sym (get-here h.0 (applied c s) s m.states there) ∙ ap (slice_get later) here ∙ at) in
          let a : x.seq ≤ s.seq = given s (ap (slice_get m.states) (sym here) ∙ there) in
          let b : s.seq ≤ (applied c s).seq = seq_grows c s suits.fit in
          let d : (applied c s).seq ≡ u.seq = ap (λ (u : Plain). u.seq) same in
          omega (arith, a, b, d)
      by false e = given u (sym (get-other h.0 x.host.0 (λ _. applied c s) m.states (λ here. true≢false (sym (eq-eqb h.0 x.host.0 here) ∙ e))) ∙ at)

  pub never_new : (x : Request) → IsGiven x m.states → x ≡ next_id s → ⊥
  never_new x given e =
      let host : x.host ≡ h = (λ j. (e j).host) ∙ me_is site m sound h s there in
      let a : x.seq ≤ s.seq = given s ((λ j. slice_get m.states (host j).0) ∙ there) in
      let b : x.seq ≡ s.seq + 1 = λ j. (e j).seq in
      omega (arith, a, b)

  abbrev Before : Option Entry → Entry → Type 0
  Before o b = (a : Entry) × (o ≡ Some a) × ((b ≡ a) ⊎ ((kind : Kind) × Steps kind (Some a) (Some b)))

  -- it lay somewhere before
  pub came_from : (x : Request) → IsGiven x m.states → (b : Entry) → entry_of x later ≡ Some b → Before (entry_of x m.states) b
  came_from x given b f = from (entry_of x m.states) (entry_of x later) (step_is x) f
    where
      from : (o p : Option Entry) → IsLicensed (why_by way) s x o p → p ≡ Some b → Before o b
      from None p (inl e) f = absurd (none-some b (sym e ∙ f))
      from None p (inr q) f = absurd (never_new x given (submit_new s x (why_by way)
          (subst (λ kind. Licenses (why_by way) s x kind) (comes_new q.0 b (subst (Steps q.0 None) f q.2)) q.1)))
      from (Some a) p (inl e) f = (a, refl, inl (same_Some b a (sym f ∙ e)))
      from (Some a) p (inr q) f = (a, refl, inr (q.0, subst (Steps q.0 (Some a)) f q.2))

  past_kept : (l : Launch) → IsPast m.states l → IsPast later l
  past_kept l p = record { given = given_kept l.0 p.given; before = λ e f. (let q = came_from l.0 p.given e f in grown e q.0 (p.before q.0 q.1) q.2) }
    where
      grown : (b a : Entry) → l.1 ≤ a.starts → ((b ≡ a) ⊎ ((kind : Kind) × Steps kind (Some a) (Some b))) → l.1 ≤ b.starts
      grown b a less (inl e) = let f : b.starts ≡ a.starts = ap (λ (e : Entry). e.starts) e in omega (arith, less, f)
      grown b a less (inr q) = let f : a.starts ≤ b.starts = starts_grow q.0 a b q.1 in omega (arith, less, f)

  pending_kept : (x : Request) → IsPending x m.states → was_lost_again (entry_of x m.states) (entry_of x later) ≡ false → IsPending x later
  pending_kept x p calm = record {
    given = given_kept x p.given;
    runs = λ b f.
        (let q = came_from x p.given b f in runs_on b q.0 (p.runs q.0 q.1) (sym (λ j. was_lost_again (q.1 j) (f j)) ∙ calm) q.2);
  }
    where
      runs_on : (b a : Entry) → a.state ≡ net.Running → (b.lost == a.lost + 1) ≡ false → ((b ≡ a) ⊎ ((kind : Kind) × Steps kind (Some a) (Some b)))
          → b.state ≡ net.Running
      runs_on b a runs calm (inl e) = ap (λ (e : Entry). e.state) e ∙ runs
      runs_on b a runs calm (inr q) = or (runs_or_lost q.0 a b q.1 runs)
        where
          or : ((b.state ≡ net.Running) ⊎ (b.lost ≡ a.lost + 1)) → b.state ≡ net.Running
          or (inl e) = e
          or (inr e) = absurd (true≢false (sym (eq-eqb b.lost (a.lost + 1) e) ∙ calm))

  -- one change more
  pub kept_more : HasLaunches first m.states m.notes → HasLaunches first later (m.notes ++ Kept h (why_by way) c ∷ [])
  kept_more p =
      let note = Kept h (why_by way) c in
      let same : launches (m.notes ++ note ∷ []) ≡ launches m.notes = launches-append m.notes (note ∷ []) ∙ append-nil (launches m.notes) in
      let after : change_at h.0 (applied c) (replayed m.notes first) ≡ later = ap (change_at h.0 (applied c)) p.leads ∙ sym later_is in
      record {
        leads = replayed-append m.notes (note ∷ []) first ∙ after;
        distinct = ap (are_distinct same_launch) same ∙ p.distinct;
        past = subst (AllByRecursion (IsPast later)) (sym same) (all_weaker (IsPast m.states) (IsPast later) past_kept (launches m.notes) p.past);
        apart = λ x. apart-append x m.notes (note ∷ []) first false (p.apart x) ((λ t. absurd (true≢false (sym t))), tt);
        pending = λ x q. by x (pending_at x first false m.notes) refl (sym
            (pending-append x m.notes (note ∷ []) first false ∙ (λ j. pending_at x first false m.notes
            && not (was_lost_again (entry_of x (p.leads j)) (entry_of x (after j))))) ∙ q);
        started = started-append m.notes (note ∷ []) first p.started (tt, tt);
      }
    where
      by : (x : Request) (b : Bool) → pending_at x first false m.notes ≡ b → (b && not (was_lost_again (entry_of x m.states) (entry_of x later))) ≡ true
          → IsPending x later
      by x true e q = pending_kept x (p.pending x e) (not-true (was_lost_again (entry_of x m.states) (entry_of x later)) q)
      by x false e q = absurd (true≢false (sym q))
