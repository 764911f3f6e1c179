-- Walks along a history: of launches, losses and what is taken out.
use Rattle.std.proofs.Common.{◌≡◌, ℕ, ◌+◌, ◌≤◌, ◌⊎◌, inl, inr, Bool, true, false, not, ◌&&◌, ◌||◌, List, [], ◌∷◌, ◌++◌, None, Some, refl, sym, ap, subst, ◌∙◌}
use Rattle.std.proofs.Common.{arith}
use Rattle.std.proofs.lemmas.List.Elements.{filter_map-append}
use Rattle.std.proofs.lemmas.List.Folds.{list_any-append}
use Rattle.nqs_state.specs.State.{Plain}
use Rattle.nqs_rules.specs.Net.{Entry}
use Rattle.nqs_rules.specs.Licence.{Kind, Submit, Delete, Doom, Hold, Release, Move, Open, Back, Route, Arrive, Start, End, Again, Gone, Steps, IsWaiting}
use Rattle.nqs_rules.specs.Applied.{next_id}
use Rattle.nqs_types.specs.declared.table_row.NetState.{NetState}
use Rattle.nqs_types.specs.declared.table_row.NetState.TheVariants as net
use Rattle.nqs_types.specs.declared.event.Command.{Command}
use Rattle.nqs_types.specs.declared.event.Command.TheVariants as command
use Rattle.nqs_types.specs.declared.event.Event.{Event}
use Rattle.nqs_types.specs.declared.event.Event.TheVariants as event
use Rattle.nqs_types.specs.declared.edit.Edit.{Edit}
use Rattle.nqs_types.specs.declared.edit.Edit.TheVariants.{Conf, Rows as RowsOf}
use Rattle.nqs_types.specs.declared.edit.ConfEdit.{ConfEdit}
use Rattle.nqs_types.specs.declared.edit.ConfEdit.TheVariants.{PurgeQueue}
use Rattle.nqs_types.specs.declared.edit.RowsEdit.{RowsEdit}
use Rattle.nqs_types.specs.declared.edit.RowsEdit.TheVariants.{AbortQueue}
use Rattle.nqs_types.specs.declared.ids.HostId.{HostId}
use Rattle.nqs_types.specs.declared.message.Body.{Body}
use Rattle.nqs_types.specs.declared.message.Body.TheVariants as body
use Rattle.nqs_rules.specs.Notes.{Why, ByEvent, ByStart, ByBoot, Note, Saw, Kept}
use Rattle.nqs_laws.specs.Words.{replayed}
use Rattle.nqs_laws.specs.Licensed.{LicensesEdit, LicensesMessage, LicensesCommand, LicensesEvent, Licenses}
use Rattle.nqs_laws.specs.Launches.{launched, launches, states_after, pending_after, AreApart, AreStarted, acknowledges, is_acknowledged, lies, was_taken_out}
use Rattle.nqs_laws.proofs.After.{Request}

-- the end of a walk

pub replay_walk : (n : Note) (ns : List Note) (states : List Plain) → replayed (n ∷ ns) states ≡ replayed ns (states_after states n)
replay_walk (Saw x) ns states = refl
replay_walk (Kept h why c) ns states = refl

abbrev pub pending_at : Request → List Plain → Bool → List Note → Bool
pending_at x states p [] = p
pending_at x states p (n ∷ ns) = pending_at x (states_after states n) (pending_after x states p n) ns

pub pending-append : (x : Request) (a b : List Note) (states : List Plain) (p : Bool)
    → pending_at x states p (a ++ b) ≡ pending_at x (replayed a states) (pending_at x states p a) b
pending-append x [] b states p = refl
pending-append x (n ∷ a) b states p = pending-append x a b (states_after states n) (pending_after x states p n)
    ∙ ap (λ l. pending_at x l (pending_at x (states_after states n) (pending_after x states p n) a) b) (sym (replay_walk n a states))

pub apart-append : (x : Request) (a b : List Note) (states : List Plain) (p : Bool) → AreApart x states p a
    → AreApart x (replayed a states) (pending_at x states p a) b → AreApart x states p (a ++ b)
apart-append x [] b states p k l = l
apart-append x (n ∷ a) b states p k l = (
  k.0,
  apart-append x a b (states_after states n) (pending_after x states p n) k.1
      (subst (λ q. AreApart x q (pending_at x (states_after states n) (pending_after x states p n) a) b) (replay_walk n a states) l),
)

pub started-append : (a b : List Note) (states : List Plain) → AreStarted states a → AreStarted (replayed a states) b → AreStarted states (a ++ b)
started-append [] b states k l = l
started-append (n ∷ a) b states k l = (k.0, started-append a b (states_after states n) k.1 (subst (λ q. AreStarted q b) (replay_walk n a states) l))

pub launches-append : (a b : List Note) → launches (a ++ b) ≡ launches a ++ launches b
launches-append a b = filter_map-append launched a b

pub acknowledged-append : (x : Request) (a b : List Note) → is_acknowledged x (a ++ b) ≡ (is_acknowledged x a || is_acknowledged x b)
acknowledged-append x a b = list_any-append (acknowledges x) a b

or_assoc : (a b c : Bool) → ((a || b) || c) ≡ (a || (b || c))
or_assoc true b c = refl
or_assoc false b c = refl

pub taken-append : (x : Request) (a b : List Note) (states : List Plain) → was_taken_out x states (a ++ b)
    ≡ (was_taken_out x states a || was_taken_out x (replayed a states) b)
taken-append x [] b states = refl
taken-append x (n ∷ a) b states =
    let here = lies x states && not (lies x (states_after states n)) in
    ap (λ c. here || c) (taken-append x a b (states_after states n) ∙ ap (λ l. was_taken_out x (states_after states n) a || was_taken_out x l b)
    (sym (replay_walk n a states)))
    ∙ sym (or_assoc here (was_taken_out x (states_after states n) a) (was_taken_out x (replayed (n ∷ a) states) b))

-- what a step makes of an entry

pub starts_grow : (k : Kind) (a b : Entry) → Steps k (Some a) (Some b) → a.starts ≤ b.starts
starts_grow Submit a b s = absurd s
starts_grow Delete a b s = absurd s
starts_grow Doom a b s = let e : b.starts ≡ a.starts = ap (λ (e : Entry). e.starts) s.1 in omega (arith, e)
starts_grow Hold a b s = let e : b.starts ≡ a.starts = ap (λ (e : Entry). e.starts) s.1 in omega (arith, e)
starts_grow Release a b s = let e : b.starts ≡ a.starts = ap (λ (e : Entry). e.starts) s.1 in omega (arith, e)
starts_grow Move a b s = let e : b.starts ≡ a.starts = ap (λ (e : Entry). e.starts) s.1 in omega (arith, e)
starts_grow Open a b s = let e : b.starts ≡ a.starts = ap (λ (e : Entry). e.starts) s.1 in omega (arith, e)
starts_grow Back a b s = let e : b.starts ≡ a.starts = ap (λ (e : Entry). e.starts) s.2 in omega (arith, e)
starts_grow Route a b s = let e : b.starts ≡ a.starts = s.3.4 in omega (arith, e)
starts_grow Arrive a b s = let e : b.starts ≡ a.starts = ap (λ (e : Entry). e.starts) s.1 in omega (arith, e)
starts_grow Start a b s = let e : b.starts ≡ a.starts + 1 = ap (λ (e : Entry). e.starts) s.1 in omega (arith, e)
starts_grow End a b s = absurd s
starts_grow Again a b s = let e : b.starts ≡ a.starts = ap (λ (e : Entry). e.starts) s.2 in omega (arith, e)
starts_grow Gone a b s = absurd s

not_running : (st : NetState) → IsWaiting st → st ≡ net.Running → ⊥
not_running net.Queued w e = cc
not_running net.Held w e = cc
not_running net.Routing w e = w
not_running net.Arriving w e = w
not_running net.Running w e = w

-- a running request goes on running, or is lost
pub runs_or_lost : (k : Kind) (a b : Entry) → Steps k (Some a) (Some b) → a.state ≡ net.Running → (b.state ≡ net.Running) ⊎ (b.lost ≡ a.lost + 1)
runs_or_lost Submit a b s r = absurd s
runs_or_lost Delete a b s r = absurd s
runs_or_lost Doom a b s r = inl (ap (λ (e : Entry). e.state) s.1 ∙ r)
runs_or_lost Hold a b s r = absurd (let e : net.Queued ≡ net.Running = sym s.0 ∙ r in let no : ⊥ = cc in no)
runs_or_lost Release a b s r = absurd (let e : net.Held ≡ net.Running = sym s.0 ∙ r in let no : ⊥ = cc in no)
runs_or_lost Move a b s r = absurd (not_running a.state s.0 r)
runs_or_lost Open a b s r = absurd (let e : net.Queued ≡ net.Running = sym s.0 ∙ r in let no : ⊥ = cc in no)
runs_or_lost Back a b s r = absurd (let e : net.Routing ≡ net.Running = sym s.0 ∙ r in let no : ⊥ = cc in no)
runs_or_lost Route a b s r = absurd (let e : net.Routing ≡ net.Running = sym s.0 ∙ r in let no : ⊥ = cc in no)
runs_or_lost Arrive a b s r = absurd (let e : net.Arriving ≡ net.Running = sym s.0 ∙ r in let no : ⊥ = cc in no)
runs_or_lost Start a b s r = absurd (let e : net.Queued ≡ net.Running = sym s.0 ∙ r in let no : ⊥ = cc in no)
runs_or_lost End a b s r = absurd s
runs_or_lost Again a b s r = inr (ap (λ (e : Entry). e.lost) s.2)
runs_or_lost Gone a b s r = absurd s

-- a request comes in by a submission alone
pub comes_new : (k : Kind) (b : Entry) → Steps k None (Some b) → k ≡ Submit
comes_new Submit b s = refl
comes_new Delete b s = absurd s
comes_new Doom b s = absurd s
comes_new Hold b s = absurd s
comes_new Release b s = absurd s
comes_new Move b s = absurd s
comes_new Open b s = absurd s
comes_new Back b s = absurd s
comes_new Route b s = absurd s
comes_new Arrive b s = absurd s
comes_new Start b s = absurd s
comes_new End b s = absurd s
comes_new Again b s = absurd s
comes_new Gone b s = absurd s

-- and under the next number
module _ (s : Plain) (x : Request) where
  conf_new : (e : ConfEdit) → LicensesEdit (Conf e) s x Submit → ⊥
  conf_new (PurgeQueue q) l = l
  conf_new e l = l

  rows_new : (e : RowsEdit) → LicensesEdit (RowsOf e) s x Submit → ⊥
  rows_new (AbortQueue q) l = l
  rows_new e l = l

  pub edit_new : (e : Edit) → LicensesEdit e s x Submit → ⊥
  edit_new (Conf e) l = conf_new e l
  edit_new (RowsOf e) l = rows_new e l
  edit_new e l = l

  message_new : (b : Body) (peer : HostId) → LicensesMessage b peer s x Submit → ⊥
  message_new (body.Ready n) peer l = l
  message_new b peer l = l

  command_new : (now : ℕ) (c : Command) → LicensesCommand now c s x Submit → x ≡ next_id s
  command_new now (command.Submit sub) l = l
  command_new now (command.Edit e) l = absurd (edit_new e l)
  command_new now c l = absurd l

  event_new : (e : Event) → LicensesEvent e s x Submit → x ≡ next_id s
  event_new (event.Ask now port token user c) l = command_new now c l
  event_new (event.Arrived now m) l = absurd (message_new m.body m.from l)
  event_new e l = absurd l

  pub submit_new : (why : Why) → Licenses why s x Submit → x ≡ next_id s
  submit_new (ByEvent e) l = event_new e l
  submit_new ByStart l = absurd l
  submit_new ByBoot l = absurd l
