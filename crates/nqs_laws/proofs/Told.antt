-- What is seen in a history, and where its kept changes lead.
use Rattle.std.proofs.Common.{◌≡◌, ℕ, List, [], ◌∷◌, ◌++◌, slice_get, Option, None, Some, zero, suc, refl, sym, ap, ◌∙◌}
use Rattle.std.proofs.lemmas.Option.{same_Some}
use Rattle.std.proofs.lemmas.List.Elements.{filter_map-append}
use Rattle.nqs_state.specs.State.{Plain}
use Rattle.nqs_rules.specs.Edits.{change_at}
use Rattle.nqs_rules.specs.Applied.{applied}
use Rattle.nqs_rules.specs.Starts.{after_change}
use Rattle.nqs_rules.specs.Notes.{Why, Note, Saw, Kept, saws, sight, sights}
use Rattle.nqs_rules.specs.World.{World, Act}
use Rattle.nqs_rules.specs.Run.{run, states_of}
use Rattle.nqs_laws.specs.History.{history}
use Rattle.nqs_laws.specs.Sane.{AreSane}
use Rattle.nqs_laws.specs.Words.{replayed}
use Rattle.nqs_laws.proofs.Frame.{Moment, put_state, change_by, why_by, kept_of, Frames, steps_of, run_kept, put-same}
use Rattle.nqs_types.specs.declared.ids.HostId.{HostId}
use Rattle.nqs_types.specs.declared.change.Change.{Change}
use Rattle.nqs_types.specs.declared.world.Seen.{Seen}

pub all_seen : (xs : List Seen) → sights (saws xs) ≡ xs
all_seen [] = refl
all_seen (x ∷ xs) = ap (λ l. x ∷ l) (all_seen xs)

pub sights-append : (a b : List Note) → sights (a ++ b) ≡ sights a ++ sights b
sights-append a b = filter_map-append sight a b

-- the kept changes

pub replayed-append : (a b : List Note) (states : List Plain) → replayed (a ++ b) states ≡ replayed b (replayed a states)
replayed-append [] b states = refl
replayed-append (Saw x ∷ a) b states = replayed-append a b states
replayed-append (Kept h why c ∷ a) b states = replayed-append a b (change_at h.0 (applied c) states)

pub nothing_kept : (xs : List Seen) (states : List Plain) → replayed (saws xs) states ≡ states
nothing_kept [] states = refl
nothing_kept (x ∷ xs) states = nothing_kept xs states

pub at-value : {V : Type 0} (n : ℕ) (f : V → V) (v : V) (vs : List V) → slice_get vs n ≡ Some v → change_at n f vs ≡ change_at n (λ _. f v) vs
at-value n f v [] e = refl
at-value zero f v (x ∷ vs) e = ap (λ y. f y ∷ vs) (same_Some x v e)
at-value (suc n) f v (x ∷ vs) e = ap (λ l. x ∷ l) (at-value n f v vs e)

module _ (first : List Plain) where
  abbrev pub Leads : Moment → Type 0
  Leads m = replayed m.notes first ≡ m.states

  more : (ns : List Note) (xs : List Seen) → replayed (ns ++ saws xs) first ≡ replayed ns first
  more ns xs = replayed-append ns (saws xs) first ∙ nothing_kept xs (replayed ns first)

  kept_leads : (ns : List Note) (states : List Plain) (h : HostId) (s : Plain) → slice_get states h.0 ≡ Some s
      → (why : Why) (o : Option (Change (List ℕ))) (xs : List Seen) → replayed ns first ≡ states
      → replayed (ns ++ (kept_of h why o ++ saws xs)) first ≡ put_state h (after_change o s) states
  kept_leads ns states h s there why None xs k = more ns xs ∙ (k ∙ sym (put-same h.0 s states there))
  kept_leads ns states h s there why (Some c) xs k =
      replayed-append ns (Kept h why c ∷ saws xs) first ∙ (nothing_kept xs (change_at h.0 (applied c) (replayed ns first))
      ∙ (ap (change_at h.0 (applied c)) k ∙ at-value h.0 (applied c) s states there))

  pub leads_frames : Frames Leads
  leads_frames = record {
    idle = λ m x idle k. more m.notes (x ∷ []) ∙ k;
    kept = λ m h s there way c is k. kept_leads m.notes m.states h s there (why_by way) (Some c) [] k;
    made = λ m h s there way k. kept_leads m.notes m.states h s there (why_by way) (change_by way) _ k;
  }

pub history_leads : (acts : List Act) (w : World) → AreSane acts → replayed (history acts w) (states_of w) ≡ states_of (run acts w).world
history_leads acts w sane = run_kept (Leads (states_of w)) (steps_of (Leads (states_of w)) (leads_frames (states_of w))) acts w [] sane refl
