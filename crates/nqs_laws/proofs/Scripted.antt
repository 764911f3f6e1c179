-- Each request keeps the script that was submitted with it.
use Rattle.std.proofs.Common.{◌≡◌, ℕ, ◌+◌, Bool, true, false, ◌==◌, List, [], ◌∷◌, ◌++◌, length, slice_get, Option, None, Some, is_some, true≢false, refl, sym}
use Rattle.std.proofs.Common.{ap, subst, ◌∙◌, arith, if◌then◌else◌}
use Rattle.std.proofs.lemmas.Bool.{and_from, eqb-true, eq-eqb}
use Rattle.std.proofs.lemmas.Option.{same_Some}
use Rattle.std.proofs.lemmas.Cmp.{nat_list_eq_equiv}
use Rattle.std.proofs.lemmas.List.Folds.{list_all-append}
use Rattle.std.specs.List.{list_all, AllByRecursion}
use Rattle.std.specs.Option.{option_or}
use Rattle.nqs_base.specs.Same.{name_eq, name_exact}
use Rattle.nqs_types.specs.Ids.{id_eq, id_exact}
use Rattle.nqs_state.specs.Keys.{is_row, is_promise}
use Rattle.nqs_state.specs.State.{Plain}
use Rattle.nqs_types.specs.declared.ids.HostId.{HostId}
use Rattle.nqs_types.specs.declared.ids.RequestId.{RequestId}
use Rattle.nqs_types.specs.declared.request.Job.{Job}
use Rattle.nqs_types.specs.declared.request.Promise.{Promise}
use Rattle.nqs_types.specs.declared.change.Change.{Change}
use Rattle.nqs_types.specs.declared.change.Change.TheVariants.{Submitted}
use Rattle.nqs_types.specs.declared.message.Message.{Message}
use Rattle.nqs_types.specs.declared.message.Body.{Body}
use Rattle.nqs_types.specs.declared.message.Body.TheVariants as body
use Rattle.nqs_types.specs.declared.world.Seen.{Seen}
use Rattle.nqs_state.proofs.LeastLemmas.{found_id}
use Rattle.nqs_rules.specs.Tests.{passes}
use Rattle.nqs_rules.specs.Edits.{change_at}
use Rattle.nqs_rules.specs.Find.{peer_number}
use Rattle.nqs_rules.specs.Applied.{applied, next_id}
use Rattle.nqs_rules.specs.Net.{last_given}
use Rattle.nqs_rules.specs.Starts.{after_change}
use Rattle.nqs_rules.specs.World.{Act, new_world}
use Rattle.nqs_rules.specs.Run.{run, states_of}
use Rattle.nqs_rules.proofs.ListFacts.{list_all-weaker, list_all-found}
use Rattle.nqs_rules.proofs.KeyFacts.{all_get}
use Rattle.nqs_rules.proofs.PeersOrder.{get-other}
use Rattle.nqs_rules.proofs.RowFacts.{same_id}
use Rattle.nqs_rules.specs.Notes.{Why, Note, Saw, Kept, saws}
use Rattle.nqs_rules.specs.Picked.{PlainRow}
use Rattle.nqs_laws.specs.History.{history}
use Rattle.nqs_laws.specs.Sane.{AreSane, IsSite}
use Rattle.nqs_laws.specs.Words.{replayed}
use Rattle.nqs_laws.specs.Numbers.{numbers_given, next_numbered}
use Rattle.nqs_laws.specs.Scripts.{submitted_script, AreKept}
use Rattle.nqs_laws.proofs.Frame.{Moment, moment, put_state, put-same, Way, change_by, why_by, outputs_by, sent_in, kept_of, packet_sent}
use Rattle.nqs_laws.proofs.RowTests.{IsKept, AllPass, change_passes}
use Rattle.nqs_laws.proofs.Sound.{IsSound, Keeps, Suits, get-here, runs_keep}
use Rattle.nqs_laws.proofs.NewRows.{row_passes}
use Rattle.nqs_laws.proofs.After.{Request}
use Rattle.nqs_laws.proofs.Paired.{At}
use Rattle.nqs_laws.proofs.PairedRuns.{IsOfRow, sent_offers}
use Rattle.nqs_laws.proofs.TabledRuns.{new_state, new_net}
use Rattle.nqs_laws.proofs.Away.{new_away}
use Rattle.nqs_laws.proofs.LicensedRuns.{IsHistory, history_keeps}
use Rattle.nqs_laws.proofs.Launched.{seen_by}
use Rattle.nqs_laws.proofs.LaunchRuns.{IsGiven, given_kept, never_new}
use Rattle.nqs_laws.proofs.Numbered.{last_at, moves, next_is, later_is}

-- scripts of longer histories

script_of : (x : Request) (h : HostId) (states : List Plain) (c : Change (List ℕ)) (ns : List Note) (why : Why) (a b : Option (List ℕ))
    → submitted_script x (change_at h.0 (applied c) states) ns ≡ option_or a b
    → submitted_script x states (Kept h why c ∷ ns) ≡ option_or (submitted_script x states (Kept h why c ∷ [])) (option_or a b)
script_of x h states (Submitted queue job script) ns why a b e = by (id_eq x (next_numbered h states))
  where
    by : (t : Bool) → (if t then Some script else submitted_script x (change_at h.0 (applied (Submitted queue job script)) states) ns)
        ≡ option_or (if t then Some script else None) (option_or a b)
    by true = refl
    by false = e
script_of x h states c ns why a b e = e

first_assoc : (a b c : Option (List ℕ)) → option_or (option_or a b) c ≡ option_or a (option_or b c)
first_assoc None b c = refl
first_assoc (Some v) b c = refl

first_none : (a : Option (List ℕ)) → option_or a None ≡ a
first_none None = refl
first_none (Some v) = refl

script_more : (x : Request) (a b : List Note) (states : List Plain) → submitted_script x states (a ++ b)
    ≡ option_or (submitted_script x states a) (submitted_script x (replayed a states) b)
script_more x [] b states = refl
script_more x (Saw y ∷ a) b states = script_more x a b states
script_more x (Kept h why c ∷ a) b states =
    let later = change_at h.0 (applied c) states in
    let one = submitted_script x states (Kept h why c ∷ []) in
    script_of x h states c (a ++ b) why (submitted_script x later a) (submitted_script x (replayed a later) b) (script_more x a b later)
    ∙ (sym (first_assoc one (submitted_script x later a) (submitted_script x (replayed a later) b))
    ∙ ap (λ o. option_or o (submitted_script x (replayed a later) b)) (ap (option_or one) (sym (first_none (submitted_script x later a)))
    ∙ sym (script_of x h states c a why (submitted_script x later a) None (sym (first_none (submitted_script x later a))))))

sights_tell_none : (x : Request) (states : List Plain) (xs : List Seen) → submitted_script x states (saws xs) ≡ None
sights_tell_none x states [] = refl
sights_tell_none x states (y ∷ xs) = sights_tell_none x states xs

-- tests

abbrev expects : Option (List ℕ) → List ℕ → Bool
expects o script = passes (λ a. name_eq a script) o

abbrev Scripts : Type 0
Scripts = Request → Option (List ℕ)

abbrev is_scripted : Scripts → PlainRow → Bool
is_scripted f r = expects (f r.id) r.script

abbrev is_scripted_body : Scripts → Body → Bool
is_scripted_body f (body.Offer n low queue c script) = expects (f c.id) script
is_scripted_body f b = true

abbrev is_scripted_message : Scripts → Message → Bool
is_scripted_message f x = is_scripted_body f x.body

scripted_kept : (f : Scripts) → IsKept (is_scripted f)
scripted_kept f = record { stays = λ r q e k. ap (λ (c : RequestId × Bool × List ℕ). expects (f c.0) c.2) e.core ∙ k; again = λ r may k. k }

expected : (o : Option (List ℕ)) (script : List ℕ) → expects o script ≡ true → o ≡ Some script
expected None script k = absurd (true≢false (sym k))
expected (Some a) script k = ap Some (name_exact a script k)

expects_it : (o : Option (List ℕ)) (script : List ℕ) → o ≡ Some script → expects o script ≡ true
expects_it o script e = ap (λ p. expects p script) e ∙ nat_list_eq_equiv.refl script

pub record IsScripted (first : List Plain) (m : Moment) : Type 0 where
  pub history : IsHistory first m
  pub hosts : (place : ℕ) (s : Plain) → slice_get m.states place ≡ Some s → AllPass (is_scripted (λ x. submitted_script x first m.notes)) s
  pub packets : list_all (is_scripted_message (λ x. submitted_script x first m.notes)) m.packets ≡ true
  pub given : (x : Request) → is_some (submitted_script x first m.notes) ≡ true → IsGiven x m.states

-- more is known later
module _ (f g : Scripts) (more : (x : Request) (a : List ℕ) → f x ≡ Some a → g x ≡ Some a) where
  expects_more : (x : Request) (script : List ℕ) → expects (f x) script ≡ true → expects (g x) script ≡ true
  expects_more x script k = expects_it (g x) script (more x script (expected (f x) script k))

  rows_more : (s : Plain) → AllPass (is_scripted f) s → AllPass (is_scripted g) s
  rows_more s k = record {
    rows = list_all-weaker (is_scripted f) (is_scripted g) (λ r e. expects_more r.id r.script e) s.rows k.rows;
    promises = list_all-weaker (λ (p : Promise (List ℕ)). is_scripted f p.row) (λ (p : Promise (List ℕ)). is_scripted g p.row)
        (λ p e. expects_more p.row.id p.row.script e) s.promises k.promises;
  }

  messages_more : (xs : List Message) → list_all (is_scripted_message f) xs ≡ true → list_all (is_scripted_message g) xs ≡ true
  messages_more xs k = list_all-weaker (is_scripted_message f) (is_scripted_message g) (λ x e. by x.body e) xs k
    where
      by : (b : Body) → is_scripted_body f b ≡ true → is_scripted_body g b ≡ true
      by (body.Offer n low queue c script) e = expects_more c.id script e
      by b e = refl

module _ (site : List (List ℕ)) (first : List Plain) (m : Moment) (sound : IsSound site m) (k : IsScripted first m) (h : HostId) (s : Plain)
    (there : At m.states h s) (way : Way m.packets h s) (o : Option (Change (List ℕ))) (is : change_by way ≡ o)
    (suits : (c : Change (List ℕ)) → change_by way ≡ Some c → Suits s c) (xs : List Seen) where
  abbrev notes : List Note
  notes = m.notes ++ (kept_of h (why_by way) o ++ saws xs)

  abbrev before : Scripts
  before x = submitted_script x first m.notes

  abbrev now : Scripts
  now x = submitted_script x first (m.notes ++ (kept_of h (why_by way) o ++ saws xs))

  abbrev states : List Plain
  states = put_state h (after_change o s) m.states

  now_is : (x : Request) → now x ≡ option_or (before x) (submitted_script x m.states (kept_of h (why_by way) o ++ saws xs))
  now_is x = script_more x m.notes (kept_of h (why_by way) o ++ saws xs) first
      ∙ ap (λ l. option_or (before x) (submitted_script x l (kept_of h (why_by way) o ++ saws xs))) k.history.leads

  more : (x : Request) (a : List ℕ) → before x ≡ Some a → now x ≡ Some a
  more x a e = now_is x ∙ ap (λ p. option_or p (submitted_script x m.states (kept_of h (why_by way) o ++ saws xs))) e

  -- what a submission adds

  next_same : (c : Change (List ℕ)) → o ≡ Some c → next_id s ≡ next_numbered h m.states
  next_same c e = next_is site first m sound k.history h s there way c (is ∙ e) (suits c (is ∙ e))

  fresh : (c : Change (List ℕ)) → o ≡ Some c → before (next_id s) ≡ None
  fresh c e = of (before (next_id s)) refl
    where
      of : (p : Option (List ℕ)) → before (next_id s) ≡ p → p ≡ None
      of None f = refl
      of (Some a) f = absurd (never_new site first m sound k.history h s there way c (is ∙ e) (suits c (is ∙ e)) (next_id s)
          (k.given (next_id s) (ap is_some f)) refl)

  new_script : (queue : List ℕ) (job : Job) (script : List ℕ) → o ≡ Some (Submitted queue job script) → now (next_id s) ≡ Some script
  new_script queue job script e =
      now_is (next_id s)
      ∙ (ap (λ p. option_or p (submitted_script (next_id s) m.states (kept_of h (why_by way) o ++ saws xs))) (fresh (Submitted queue job script) e)
      ∙ (ap (λ p. submitted_script (next_id s) m.states (kept_of h (why_by way) p ++ saws xs)) e
      ∙ ap (λ b. if b then Some script else submitted_script (next_id s) (change_at h.0 (applied (Submitted queue job script)) m.states) (saws xs))
      (ap (id_eq (next_id s)) (sym (next_same (Submitted queue job script) e)) ∙ same_id (next_id s))))

  -- rows

  rows_then : AllPass (is_scripted now) (after_change o s)
  rows_then = of o refl
    where
      of : (p : Option (Change (List ℕ))) → o ≡ p → AllPass (is_scripted now) (after_change p s)
      of None e = rows_more before now more s (k.hosts h.0 s there)
      of (Some c) e =
          change_passes (is_scripted now) (scripted_kept now) c s (suits c (is ∙ e)).fit
          (row_passes (is_scripted now) h s m.packets (λ x sent n low queue d script f.
          (let all = all_get (is_scripted_message now) m.packets sent.0 x (messages_more before now more m.packets k.packets) sent.1 in
          ap (is_scripted_body now) (sym f) ∙ all)) c
          (λ queue job script f. expects_it (now (next_id s)) script (new_script queue job script (e ∙ ap Some f))) (sound.hosts h.0 s there).order way
          (is ∙ e))
          (rows_more before now more s (k.hosts h.0 s there))

  hosts_then : (place : ℕ) (t : Plain) → slice_get states place ≡ Some t → AllPass (is_scripted now) t
  hosts_then place t at = by (h.0 == place) refl
    where
      by : (b : Bool) → (h.0 == place) ≡ b → AllPass (is_scripted now) t
      by true e =
          let here : h.0 ≡ place = eqb-true h.0 place e in
          subst (AllPass (is_scripted now)) (same_Some (after_change o s) t
          (sym (get-here h.0 (after_change o s) s m.states there) ∙ ap (slice_get states) here ∙ at)) rows_then
      by false e = rows_more before now more t (k.hosts place t (sym (get-other h.0 place (λ _. after_change o s) m.states
          (λ here. true≢false (sym (eq-eqb h.0 place here) ∙ e))) ∙ at))

  packets_then : list_all (is_scripted_message now) m.packets ≡ true
  packets_then = messages_more before now more m.packets k.packets

  -- numbers that were given

  added : (x : Request) (c : Change (List ℕ)) → is_some (submitted_script x m.states (kept_of h (why_by way) (Some c) ++ saws xs)) ≡ true
      → (numbers_given c ≡ 1) × (x ≡ next_numbered h m.states)
  added x (Submitted queue job script) e = by (id_eq x (next_numbered h m.states)) refl e
    where
      by : (b : Bool) → id_eq x (next_numbered h m.states) ≡ b → is_some (if b then Some script else
          submitted_script x (change_at h.0 (applied (Submitted queue job script)) m.states) (saws xs)) ≡ true
          → (numbers_given (Submitted queue job script) ≡ 1) × (x ≡ next_numbered h m.states)
      by true f e = (refl, id_exact x (next_numbered h m.states) f)
      by false f e = absurd (true≢false (sym e ∙ ap is_some (sights_tell_none x (change_at h.0 (applied (Submitted queue job script)) m.states) xs)))
  added x c e = absurd (true≢false (sym e ∙ ap is_some (sights_tell_none x (change_at h.0 (applied c) m.states) xs)))

  new_given : (c : Change (List ℕ)) → o ≡ Some c → (x : Request) → numbers_given c ≡ 1 → x ≡ next_numbered h m.states
      → IsGiven x (put_state h (applied c s) m.states)
  new_given c e x gives same u at =
      let a : At (put_state h (applied c s) m.states) h u = ap (λ (i : Request). slice_get (put_state h (applied c s) m.states) i.host.0) (sym same) ∙ at in
      let seq : u.seq ≡ last_given h (put_state h (applied c s) m.states) = sym (last_at (put_state h (applied c s) m.states) h.0 u a) in
      let own = (moves site first m sound k.history h s there way c (is ∙ e) (suits c (is ∙ e))).own in
      let last : last_given h (put_state h (applied c s) m.states) ≡ last_given h m.states + numbers_given c =
      sym (ap (last_given h) (later_is site first m sound k.history h s there way c (is ∙ e) (suits c (is ∙ e)))) ∙ own in
      let number : x.seq ≡ last_given h m.states + 1 = ap (λ (i : Request). i.seq) same in
      omega (arith, seq, last, number, gives)

  given_then : (x : Request) → is_some (now x) ≡ true → IsGiven x states
  given_then x some = by (before x) refl (sym (ap is_some (now_is x)) ∙ some)
    where
      old : is_some (before x) ≡ true → (p : Option (Change (List ℕ))) → o ≡ p → IsGiven x (put_state h (after_change p s) m.states)
      old e None f = λ u at. k.given x e u (sym (ap (λ l. slice_get l x.host.0) (put-same h.0 s m.states there)) ∙ at)
      old e (Some c) f = given_kept site first m sound k.history h s there way c (is ∙ f) (suits c (is ∙ f)) x (k.given x e)

      new : (p : Option (Change (List ℕ))) → o ≡ p → is_some (submitted_script x m.states (kept_of h (why_by way) p ++ saws xs)) ≡ true
          → IsGiven x (put_state h (after_change p s) m.states)
      new None f e = absurd (true≢false (sym e ∙ ap is_some (sights_tell_none x m.states xs)))
      new (Some c) f e = let q = added x c e in new_given c f x q.0 q.1

      by : (p : Option (List ℕ)) → before x ≡ p → is_some (option_or p (submitted_script x m.states (kept_of h (why_by way) o ++ saws xs))) ≡ true
          → IsGiven x states
      by (Some a) e t = old (ap is_some e) o refl
      by None e t = new o refl t

-- what is sent
sent_scripted : (f : Scripts) (t : Plain) → AllPass (is_scripted f) t → (xs : List Message) → AllByRecursion (λ (x : Message). IsOfRow t x.body) xs
    → list_all (is_scripted_message f) xs ≡ true
sent_scripted f t rows [] all = refl
sent_scripted f t rows (x ∷ xs) all = and_from (is_scripted_message f x) (list_all (is_scripted_message f) xs) (by x.body all.0)
    (sent_scripted f t rows xs all.1)
  where
    by : (b : Body) → IsOfRow t b → is_scripted_body f b ≡ true
    by (body.Offer n low queue c script) q = (λ j. expects (f (q.3 j).id) (q.4 j)) ∙ list_all-found (is_scripted f) (is_row q.0) t.rows q.1 rows.rows q.2
    by b q = refl

seen_more : (first : List Plain) (m : Moment) (x : Seen) (y : Request) → submitted_script y first (m.notes ++ Saw x ∷ []) ≡ submitted_script y first m.notes
seen_more first m x y = script_more y m.notes (Saw x ∷ []) first ∙ first_none (submitted_script y first m.notes)

pub scripted_keeps : (site : List (List ℕ)) (first : List Plain) → Keeps site (IsScripted first)
scripted_keeps site first = record {
  idle = λ m x sound idle k. record {
    history = (history_keeps site first).idle m x sound idle k.history;
    hosts = λ place s at. rows_more (λ y. submitted_script y first m.notes) (λ y. submitted_script y first (m.notes ++ Saw x ∷ []))
        (λ y a e. seen_more first m x y ∙ e) s (k.hosts place s at);
    packets = messages_more (λ y. submitted_script y first m.notes) (λ y. submitted_script y first (m.notes ++ Saw x ∷ []))
        (λ y a e. seen_more first m x y ∙ e) m.packets k.packets;
    given = λ y some. k.given y (sym (ap is_some (seen_more first m x y)) ∙ some);
  };
  kept = λ m sound h s there way c is suits k. (let all : (d : Change (List ℕ)) → change_by way ≡ Some d
      → Suits s d = λ d e. subst (Suits s) (same_Some c d (sym is ∙ e)) suits in
      record {
        history = (history_keeps site first).kept m sound h s there way c is suits k.history;
        hosts = hosts_then site first m sound k h s there way (Some c) is all [];
        packets = packets_then site first m sound k h s there way (Some c) is all [];
        given = given_then site first m sound k h s there way (Some c) is all [];
      });
  made = λ m sound h s there way suits k. record {
    history = (history_keeps site first).made m sound h s there way suits k.history;
    hosts = hosts_then site first m sound k h s there way (change_by way) refl suits (seen_by h (length m.packets) way);
    packets =
        list_all-append _ m.packets (sent_in (outputs_by way))
        ∙ and_from _ _ (packets_then site first m sound k h s there way (change_by way) refl suits (seen_by h (length m.packets) way))
        (sent_scripted _ (after_change (change_by way) s) (rows_then site first m sound k h s there way (change_by way) refl suits
        (seen_by h (length m.packets) way)) (sent_in (outputs_by way)) (sent_offers site m sound k.history.net.paired h s there way suits));
    given = given_then site first m sound k h s there way (change_by way) refl suits (seen_by h (length m.packets) way);
  };
}

pub run_scripted : (site : List (List ℕ)) → IsSite site → (acts : List Act) → AreSane acts
    → AreKept (states_of (new_world site)) (history acts (new_world site)) (run acts (new_world site)).world
run_scripted site few acts sane = record {
  rows = λ h s at x r found. (let name = found_id x s.rows r found in
      ap (λ y. submitted_script y (states_of (new_world site)) (history acts (new_world site))) name
      ∙ expected _ r.script (list_all-found _ (is_row x) s.rows r (q.hosts h.0 s at).rows found));
  promises = λ h s at from number p found. expected _ p.row.script (list_all-found _ (is_promise (peer_number from number)) s.promises p
      (q.hosts h.0 s at).promises found);
  offers = λ m number low queue c script sent e. (let at = packet_sent sent.0 (run acts (new_world site)).world m sent.1 in
      expected _ script (ap (is_scripted_body (λ x. submitted_script x (states_of (new_world site)) (history acts (new_world site)))) (sym e)
      ∙ all_get _ (run acts (new_world site)).world.packets at.0 m q.packets at.1));
}
  where
    q : IsScripted (states_of (new_world site)) (moment (run acts (new_world site)).world (history acts (new_world site)))
    q = runs_keep site (IsScripted (states_of (new_world site))) (scripted_keeps site (states_of (new_world site))) few.1 (record {
      history = record { net = new_net site; away = new_away site; leads = refl; licensed = tt };
      hosts = λ place s at. (let k = new_state site 0 site place s at in subst (AllPass _) (sym k.1) (record { rows = refl; promises = refl }));
      packets = refl;
      given = λ x some. absurd (true≢false (sym some));
    }) acts sane
