-- Why a request goes out of the network.
use Rattle.std.proofs.Common.{◌≡◌, ℕ, ◌⊎◌, inl, inr, Bool, true, false, not, ◌&&◌, ◌||◌, List, [], ◌∷◌, Option, None, Some, is_some, true≢false, refl, sym, ap}
use Rattle.std.proofs.Common.{◌∙◌}
use Rattle.std.proofs.lemmas.Option.{none-some}
use Rattle.nqs_state.specs.State.{Plain}
use Rattle.nqs_types.specs.declared.ids.HostId.{HostId}
use Rattle.nqs_types.specs.declared.change.Change.{Change}
use Rattle.nqs_types.specs.declared.edit.ConfEdit.{ConfEdit}
use Rattle.nqs_types.specs.declared.edit.ConfEdit.TheVariants.{PurgeQueue}
use Rattle.nqs_types.specs.declared.edit.RowsEdit.{RowsEdit}
use Rattle.nqs_types.specs.declared.edit.RowsEdit.TheVariants.{AbortQueue}
use Rattle.nqs_types.specs.declared.edit.Edit.{Edit}
use Rattle.nqs_types.specs.declared.edit.Edit.TheVariants.{Conf, Rows as RowsOf}
use Rattle.nqs_types.specs.declared.message.Body.{Body}
use Rattle.nqs_types.specs.declared.message.Body.TheVariants as body
use Rattle.nqs_types.specs.declared.event.Command.{Command}
use Rattle.nqs_types.specs.declared.event.Command.TheVariants as command
use Rattle.nqs_types.specs.declared.event.Event.{Event}
use Rattle.nqs_types.specs.declared.event.Event.TheVariants as event
use Rattle.nqs_rules.specs.Edits.{change_at}
use Rattle.nqs_rules.specs.Applied.{applied}
use Rattle.nqs_rules.specs.Licence.{Kind, Submit, Delete, Doom, Hold, Release, Move, Open, Back, Route, Arrive, Start, End, Again, Gone, Steps}
use Rattle.nqs_rules.specs.Net.{Entry, entry_of}
use Rattle.nqs_rules.specs.Notes.{Why, ByEvent, ByStart, ByBoot, Note, Saw, Kept}
use Rattle.nqs_laws.specs.History.{history}
use Rattle.nqs_laws.specs.Launches.{lies, was_taken_out}
use Rattle.nqs_laws.specs.Licensed.{LicensesEdit, LicensesMessage, LicensesCommand, LicensesEvent, Licenses, IsLicensed}
use Rattle.nqs_laws.specs.TakenOut.{WasDeleted, HasFinished, WasLost, WentOut}
use Rattle.nqs_rules.specs.World.{Act, new_world}
use Rattle.nqs_rules.specs.Run.{states_of}
use Rattle.nqs_laws.specs.Sane.{AreSane, IsSite}
use Rattle.nqs_laws.specs.Each.{OfChange, EachKept, SomeKept}
use Rattle.nqs_laws.proofs.Kept.{each_kept}
use Rattle.nqs_laws.proofs.After.{Request}
use Rattle.nqs_laws.proofs.Frame.{Moment, Way, change_by, why_by}
use Rattle.nqs_laws.proofs.Sound.{IsSound, Suits}
use Rattle.nqs_laws.proofs.Paired.{At}
use Rattle.nqs_laws.proofs.LicensedRuns.{IsHistory, change_licensed}

-- boots alone lose
module _ (s : Plain) (x : Request) where
  conf_loses : (e : ConfEdit) → LicensesEdit (Conf e) s x Gone → ⊥
  conf_loses (PurgeQueue q) l = l
  conf_loses e l = l

  rows_lose : (e : RowsEdit) → LicensesEdit (RowsOf e) s x Gone → ⊥
  rows_lose (AbortQueue q) l = l
  rows_lose e l = l

  edit_loses : (e : Edit) → LicensesEdit e s x Gone → ⊥
  edit_loses (Conf e) l = conf_loses e l
  edit_loses (RowsOf e) l = rows_lose e l
  edit_loses e l = l

  message_loses : (b : Body) (peer : HostId) → LicensesMessage b peer s x Gone → ⊥
  message_loses (body.Ready n) peer l = l
  message_loses b peer l = l

  command_loses : (now : ℕ) (c : Command) → LicensesCommand now c s x Gone → ⊥
  command_loses now (command.Edit e) l = edit_loses e l
  command_loses now c l = l

  event_loses : (e : Event) → LicensesEvent e s x Gone → ⊥
  event_loses (event.Ask now port token user c) l = command_loses now c l
  event_loses (event.Arrived now m) l = message_loses m.body m.from l
  event_loses e l = l

  boots_lose : (why : Why) → Licenses why s x Gone → why ≡ ByBoot
  boots_lose (ByEvent e) l = absurd (event_loses e l)
  boots_lose ByStart l = absurd l
  boots_lose ByBoot l = refl

  -- the steps that leave no entry
  caused : (why : Why) (a : Entry) (kind : Kind) → Licenses why s x kind → Steps kind (Some a) None
      → (WasDeleted why s x a) ⊎ (HasFinished why s x a) ⊎ (WasLost why a)
  caused why a Delete l k = inl (l, k)
  caused why a End l k = inr (inl (l, k))
  caused why a Gone l k = inr (inr (boots_lose why l, k.0, k.1))
  caused why a Submit l k = absurd k
  caused why a Doom l k = absurd k
  caused why a Hold l k = absurd k
  caused why a Release l k = absurd k
  caused why a Move l k = absurd k
  caused why a Open l k = absurd k
  caused why a Back l k = absurd k
  caused why a Route l k = absurd k
  caused why a Arrive l k = absurd k
  caused why a Start l k = absurd k
  caused why a Again l k = absurd k

pub went_out : (site : List (List ℕ)) (first : List Plain) (m : Moment) → IsSound site m → IsHistory first m → (h : HostId) (s : Plain) → At m.states h s
    → (way : Way m.packets h s) (c : Change (List ℕ)) → change_by way ≡ Some c → Suits s c
    → (x : Request) → lies x m.states ≡ true → lies x (change_at h.0 (applied c) m.states) ≡ false → WentOut x m.states h (why_by way) c
went_out site first m sound k h s there way c is suits x lay gone = of (entry_of x m.states) refl
    (entry_of x (change_at h.0 (applied c) m.states)) refl lay gone ((change_licensed site m sound k.net k.away h s there way c is suits []).1 s there x)
  where
    me : s.me ≡ h
    me = λ j. ((sound.hosts h.0 s there).head j).0

    of : (o : Option Entry) → entry_of x m.states ≡ o → (p : Option Entry) → entry_of x (change_at h.0 (applied c) m.states) ≡ p → is_some o ≡ true
        → is_some p ≡ false → IsLicensed (why_by way) s x o p → WentOut x m.states h (why_by way) c
    of None e p f lay gone l = absurd (true≢false (sym lay))
    of (Some a) e (Some b) f lay gone l = absurd (true≢false gone)
    of (Some a) e None f lay gone (inl same) = absurd (none-some a same)
    of (Some a) e None f lay gone (inr (kind, licence, step, with)) = record {
      state = s;
      there = there;
      entry = a;
      lay = e;
      here = with ∙ me;
      gone = ap is_some f;
      cause = caused s x (why_by way) a kind licence step;
    }

-- each change by which a request goes out
abbrev pub GoesForReason : OfChange
GoesForReason states h why c = (x : Request) → lies x states ≡ true → lies x (change_at h.0 (applied c) states) ≡ false → WentOut x states h why c

-- what was taken out went by some change
some_went : (x : Request) (states : List Plain) (ns : List Note) → EachKept GoesForReason states ns → was_taken_out x states ns ≡ true
    → SomeKept (WentOut x) states ns
some_went x states [] each out = absurd (true≢false (sym out))
some_went x states (Saw y ∷ ns) each out = by (lies x states) out (some_went x states ns each)
  where
    by : (b : Bool) → ((b && not b) || was_taken_out x states ns) ≡ true → (was_taken_out x states ns ≡ true → SomeKept (WentOut x) states ns)
        → SomeKept (WentOut x) states ns
    by true out rest = rest out
    by false out rest = rest out
some_went x states (Kept h why c ∷ ns) each out = by (lies x states) refl (lies x (change_at h.0 (applied c) states)) refl out
    (some_went x (change_at h.0 (applied c) states) ns each.1)
  where
    by : (a : Bool) → lies x states ≡ a → (b : Bool) → lies x (change_at h.0 (applied c) states) ≡ b
        → ((a && not b) || was_taken_out x (change_at h.0 (applied c) states) ns) ≡ true
        → (was_taken_out x (change_at h.0 (applied c) states) ns ≡ true → SomeKept (WentOut x) (change_at h.0 (applied c) states) ns)
        → SomeKept (WentOut x) states (Kept h why c ∷ ns)
    by true e false f out rest = inl (each.0 x e f)
    by true e true f out rest = inr (rest out)
    by false e true f out rest = inr (rest out)
    by false e false f out rest = inr (rest out)

pub each_went : (site : List (List ℕ)) → IsSite site → (acts : List Act) → AreSane acts
    → EachKept GoesForReason (states_of (new_world site)) (history acts (new_world site))
each_went site few acts sane = each_kept GoesForReason site few acts sane
    (λ m sound k h s there way c is suits. went_out site (states_of (new_world site)) m sound k h s there way c is suits)

pub taken_went : (site : List (List ℕ)) → IsSite site → (acts : List Act) → AreSane acts → (x : Request)
    → was_taken_out x (states_of (new_world site)) (history acts (new_world site)) ≡ true
    → SomeKept (WentOut x) (states_of (new_world site)) (history acts (new_world site))
taken_went site few acts sane x out = some_went x (states_of (new_world site)) (history acts (new_world site)) (each_went site few acts sane) out
