-- What holds of each change at a moment of a run holds of each change in its history.
use Rattle.std.proofs.Common.{◌≡◌, ℕ, List, [], ◌∷◌, ◌++◌, Option, None, Some, refl, sym, subst}
use Rattle.nqs_state.specs.State.{Plain}
use Rattle.nqs_types.specs.declared.ids.HostId.{HostId}
use Rattle.nqs_types.specs.declared.change.Change.{Change}
use Rattle.nqs_types.specs.declared.world.Seen.{Seen}
use Rattle.nqs_rules.specs.Edits.{change_at}
use Rattle.nqs_rules.specs.Applied.{applied}
use Rattle.nqs_rules.specs.World.{Act, new_world}
use Rattle.nqs_rules.specs.Run.{states_of}
use Rattle.nqs_rules.specs.Notes.{Note, Saw, Kept, saws}
use Rattle.nqs_laws.specs.History.{history}
use Rattle.nqs_laws.specs.Sane.{AreSane, IsSite}
use Rattle.nqs_laws.specs.Words.{replayed}
use Rattle.nqs_laws.specs.Each.{OfChange, EachKept}
use Rattle.nqs_laws.proofs.Frame.{Moment, Way, change_by, why_by, kept_of}
use Rattle.nqs_laws.proofs.Sound.{IsSound, Keeps, Suits, runs_keep}
use Rattle.nqs_laws.proofs.Paired.{At}
use Rattle.nqs_laws.proofs.TabledRuns.{new_net}
use Rattle.nqs_laws.proofs.Away.{new_away}
use Rattle.nqs_laws.proofs.LicensedRuns.{IsHistory, history_keeps}

-- what is to be known of a change at a moment
abbrev pub OfMoments : List (List ℕ) → List Plain → OfChange → Type 0
OfMoments site first P =
    (m : Moment) → IsSound site m → IsHistory first m → (h : HostId) (s : Plain) → At m.states h s → (way : Way m.packets h s) (c : Change (List ℕ))
    → change_by way ≡ Some c → Suits s c → P m.states h (why_by way) c

module _ (P : OfChange) where
  each-append : (a b : List Note) (states : List Plain) → EachKept P states a → EachKept P (replayed a states) b → EachKept P states (a ++ b)
  each-append [] b states p q = q
  each-append (Saw x ∷ a) b states p q = each-append a b states p q
  each-append (Kept h why c ∷ a) b states p q = (p.0, each-append a b (change_at h.0 (applied c) states) p.1 q)

  each_seen : (xs : List Seen) (states : List Plain) → EachKept P states (saws xs)
  each_seen [] states = tt
  each_seen (x ∷ xs) states = each_seen xs states

  pub record IsEach (first : List Plain) (m : Moment) : Type 0 where
    pub history : IsHistory first m
    pub each : EachKept P first m.notes

  module _ (site : List (List ℕ)) (first : List Plain) (of : OfMoments site first P) where
    more_each : (m : Moment) (ns : List Note) → IsEach first m → EachKept P m.states ns → EachKept P first (m.notes ++ ns)
    more_each m ns k l = each-append m.notes ns first k.each (subst (λ states. EachKept P states ns) (sym k.history.leads) l)

    made_each : (m : Moment) → IsSound site m → IsHistory first m → (h : HostId) (s : Plain) → At m.states h s → (way : Way m.packets h s)
        → ((c : Change (List ℕ)) → change_by way ≡ Some c → Suits s c) → (xs : List Seen) (o : Option (Change (List ℕ))) → change_by way ≡ o
        → EachKept P m.states (kept_of h (why_by way) o ++ saws xs)
    made_each m sound k h s there way suits xs None is = each_seen xs m.states
    made_each m sound k h s there way suits xs (Some c) is = (of m sound k h s there way c is (suits c is), each_seen xs (change_at h.0 (applied c) m.states))

    each_keeps : Keeps site (IsEach first)
    each_keeps = record {
      idle = λ m x sound idle k. record { history = (history_keeps site first).idle m x sound idle k.history; each = more_each m (Saw x ∷ []) k tt };
      kept = λ m sound h s there way c is suits k. record {
        history = (history_keeps site first).kept m sound h s there way c is suits k.history;
        each = more_each m (Kept h (why_by way) c ∷ []) k (of m sound k.history h s there way c is suits, tt);
      };
      made = λ m sound h s there way suits k. record {
        history = (history_keeps site first).made m sound h s there way suits k.history;
        each = more_each m _ k (made_each m sound k.history h s there way suits _ (change_by way) refl);
      };
    }

-- in each history
pub each_kept : (P : OfChange) (site : List (List ℕ)) → IsSite site → (acts : List Act) → AreSane acts → OfMoments site (states_of (new_world site)) P
    → EachKept P (states_of (new_world site)) (history acts (new_world site))
each_kept P site few acts sane of =
    let first = states_of (new_world site) in
    (runs_keep site (IsEach P first) (each_keeps P site first of) few.1 (record
    { history = record { net = new_net site; away = new_away site; leads = refl; licensed = tt }; each = tt }) acts sane).each
