-- Numbers of requests: each was given by the host of submission, and moves at submissions alone.
use Rattle.std.proofs.Common.{◌≡◌, ℕ, ◌+◌, ◌≤◌, inl, inr, Bool, true, false, ◌==◌, nat_le, List, [], ◌∷◌, ◌++◌, map, slice_get, Option, None, Some, is_some}
use Rattle.std.proofs.Common.{true≢false, zero, suc, refl, sym, ap, subst, ◌∙◌, arith, if◌then◌else◌}
use Rattle.std.proofs.lemmas.Bool.{and_parts, and_from, leb-true, le-leb, eqb-true, eq-eqb}
use Rattle.std.proofs.lemmas.Option.{same_Some, none-some}
use Rattle.std.proofs.lemmas.List.Folds.{list_all-append}
use Rattle.std.specs.List.{list_all}
use Rattle.std.specs.Option.{option_or}
use Rattle.nqs_types.specs.Ids.{id_eq}
use Rattle.nqs_state.specs.Keys.{is_row}
use Rattle.nqs_state.specs.State.{Plain}
use Rattle.nqs_types.specs.declared.ids.HostId.{HostId}
use Rattle.nqs_types.specs.declared.ids.RequestId.{RequestId}
use Rattle.nqs_types.specs.declared.request.Job.{Job}
use Rattle.nqs_types.specs.declared.request.Hand.{Hand}
use Rattle.nqs_types.specs.declared.request.Carried.{Carried}
use Rattle.nqs_types.specs.declared.request.Promise.{Promise}
use Rattle.nqs_types.specs.declared.change.Change.{Change}
use Rattle.nqs_types.specs.declared.change.Change.TheVariants.{Submitted, Edited, HandOpened}
use Rattle.nqs_types.specs.declared.message.Message.{Message}
use Rattle.nqs_types.specs.declared.message.Body.{Body}
use Rattle.nqs_state.proofs.LeastLemmas.{found_id}
use Rattle.nqs_types.specs.declared.message.Body.TheVariants as body
use Rattle.nqs_rules.specs.Tests.{passes}
use Rattle.nqs_rules.specs.Edits.{change_at}
use Rattle.nqs_rules.specs.Find.{find_row, find_peer}
use Rattle.nqs_rules.specs.Fits.{fits, row_passes as row_may, may_hop, is_next}
use Rattle.nqs_rules.specs.Applied.{applied, next_id}
use Rattle.nqs_rules.specs.Licence.{Submit}
use Rattle.nqs_rules.specs.Net.{Entry, entry_of, last_given}
use Rattle.nqs_rules.specs.Sane.{is_sane_message}
use Rattle.nqs_rules.specs.Starts.{after_change}
use Rattle.nqs_rules.specs.World.{Act, new_world}
use Rattle.nqs_rules.specs.Run.{run, states_of}
use Rattle.nqs_rules.proofs.Chains.{each}
use Rattle.nqs_rules.proofs.ListFacts.{list_all-weaker, list_all-found}
use Rattle.nqs_rules.proofs.FindKept.{all-mapped}
use Rattle.nqs_rules.proofs.PeersOrder.{get-other}
use Rattle.nqs_rules.proofs.RowFacts.{same_id}
use Rattle.nqs_rules.proofs.RowKinds.{found_row}
use Rattle.nqs_rules.specs.Picked.{PlainRow}
use Rattle.nqs_laws.specs.History.{history}
use Rattle.nqs_laws.specs.Sane.{AreSane, IsSite}
use Rattle.nqs_laws.specs.Words.{body_passes, offers_pass}
use Rattle.nqs_laws.specs.Launches.{lies}
use Rattle.nqs_laws.specs.Numbers.{was_numbered, requests_in, AreNumbered, numbers_given, next_numbered, NumbersMove, NewAreNumbered}
use Rattle.nqs_laws.proofs.Frame.{Moment, moment, put_state, silent, Way, change_by, why_by, outputs_by, sent_in}
use Rattle.nqs_laws.proofs.Told.{at-value}
use Rattle.nqs_laws.proofs.RowTests.{IsKept, AllPass, change_passes}
use Rattle.nqs_laws.proofs.Sent.{is_fine_message}
use Rattle.nqs_laws.proofs.Sound.{IsSound, Keeps, Suits, sound_frames, me_is, way_sends, get-here, runs_keep}
use Rattle.nqs_laws.proofs.NewRows.{row_passes, carried_passes}
use Rattle.nqs_laws.proofs.After.{Request, submitted_row, row_after}
use Rattle.nqs_laws.proofs.Paired.{At}
use Rattle.nqs_laws.proofs.Advance.{seq_after, seq_grows}
use Rattle.nqs_laws.proofs.TabledRuns.{new_state}
use Rattle.nqs_laws.proofs.Hands.{Opens, hands_kept}
use Rattle.nqs_laws.proofs.RowSteps.{Turns}
use Rattle.nqs_laws.proofs.EntrySteps.{TurnStep}
use Rattle.nqs_laws.proofs.LicensedRuns.{IsHistory, history_keeps, turn_is}
use Rattle.nqs_laws.proofs.Walks.{comes_new, edit_new}
use Rattle.nqs_laws.proofs.LaunchLaws.{entry_here, lies_given}
use Rattle.nqs_laws.proofs.Kept.{OfMoments}

-- the last number of a host

pub last_at : (states : List Plain) (n : ℕ) (s : Plain) → slice_get states n ≡ Some s → last_given (record { 0 = n }) states ≡ s.seq
last_at [] n s e = absurd (none-some s e)
last_at (t ∷ states) zero s e = ap (λ (u : Plain). u.seq) (same_Some t s e)
last_at (t ∷ states) (suc n) s e = last_at states n s e

last_none : (states : List Plain) (n : ℕ) → slice_get states n ≡ None → last_given (record { 0 = n }) states ≡ 0
last_none [] n e = refl
last_none (t ∷ states) zero e = absurd (none-some t (sym e))
last_none (t ∷ states) (suc n) e = last_none states n e

last_same : (states later : List Plain) (g : HostId) → slice_get later g.0 ≡ slice_get states g.0 → last_given g later ≡ last_given g states
last_same states later g e = of (slice_get states g.0) refl
  where
    of : (o : Option Plain) → slice_get states g.0 ≡ o → last_given g later ≡ last_given g states
    of None f = last_none later g.0 (e ∙ f) ∙ sym (last_none states g.0 f)
    of (Some s) f = last_at later g.0 s (e ∙ f) ∙ sym (last_at states g.0 s f)

-- one host has another state
module _ (states : List Plain) (h : HostId) (s u : Plain) (there : At states h s) where
  last_other : (g : HostId) → (g.0 ≡ h.0 → ⊥) → last_given g (put_state h u states) ≡ last_given g states
  last_other g far = last_same states (put_state h u states) g (get-other h.0 g.0 (λ _. u) states (λ e. far (sym e)))

  last_grows : s.seq ≤ u.seq → (g : HostId) → last_given g states ≤ last_given g (put_state h u states)
  last_grows more g = by (h.0 == g.0) refl
    where
      by : (b : Bool) → (h.0 == g.0) ≡ b → last_given g states ≤ last_given g (put_state h u states)
      by true e =
          let here : h.0 ≡ g.0 = eqb-true h.0 g.0 e in
          let a : last_given g states ≡ s.seq = last_at states g.0 s (ap (slice_get states) (sym here) ∙ there) in
          let b : last_given g (put_state h u states) ≡ u.seq = last_at (put_state h u states) g.0 u
          (ap (slice_get (put_state h u states)) (sym here) ∙ get-here h.0 u s states there) in
          omega (arith, a, b, more)
      by false e = let a : last_given g (put_state h u states) ≡ last_given g states = last_other g (λ f. true≢false (sym (eq-eqb h.0 g.0 (sym f)) ∙ e)) in
          omega (arith, a)

  stays_numbered : s.seq ≤ u.seq → (x : RequestId) → was_numbered states x ≡ true → was_numbered (put_state h u states) x ≡ true
  stays_numbered more x k =
      let p = and_parts (nat_le 1 x.seq) (nat_le x.seq (last_given x.host states)) k in
      let few = leb-true x.seq (last_given x.host states) p.1 in
      let grows = last_grows more x.host in
      and_from (nat_le 1 x.seq) (nat_le x.seq (last_given x.host (put_state h u states))) p.0
      (le-leb x.seq (last_given x.host (put_state h u states)) (omega (arith, few, grows)))

-- every request has a number that was given

abbrev is_row_numbered : List Plain → PlainRow → Bool
is_row_numbered states r = was_numbered states r.id

abbrev is_hand_numbered : List Plain → Hand → Bool
is_hand_numbered states y = was_numbered states y.id

abbrev is_carried_numbered : List Plain → Carried → Bool
is_carried_numbered states c = was_numbered states c.id

numbered_kept : (states : List Plain) → IsKept (is_row_numbered states)
numbered_kept states = record { stays = λ r q e k. ap (λ (c : RequestId × Bool × List ℕ). was_numbered states c.0) e.core ∙ k; again = λ r may k. k }

pub record KnowsNumbered (states : List Plain) (s : Plain) : Type 0 where
  pub rows : AllPass (is_row_numbered states) s
  pub hands : list_all (is_hand_numbered states) s.hands ≡ true

pub record IsNumbered (m : Moment) : Type 0 where
  pub hosts : (place : ℕ) (s : Plain) → slice_get m.states place ≡ Some s → KnowsNumbered m.states s
  pub packets : list_all (offers_pass (is_carried_numbered m.states)) m.packets ≡ true

-- what offers carry passes a weaker test
weaker_offers : (t v : Carried → Bool) → ((c : Carried) → t c ≡ true → v c ≡ true) → (xs : List Message) → list_all (offers_pass t) xs ≡ true
    → list_all (offers_pass v) xs ≡ true
weaker_offers t v f xs k = list_all-weaker (offers_pass t) (offers_pass v) (λ x p. by x.body p) xs k
  where
    by : (b : Body) → body_passes t b ≡ true → body_passes v b ≡ true
    by (body.Offer n low queue c script) p = f c p
    by b p = p

module _ (site : List (List ℕ)) (m : Moment) (k : IsSound site m) (p : IsNumbered m) (h : HostId) (s : Plain) (there : At m.states h s)
    (way : Way m.packets h s) where
  module _ (u : Plain) (more : s.seq ≤ u.seq) where
    abbrev later : List Plain
    later = put_state h u m.states

    known_later : (t : Plain) → KnowsNumbered m.states t → KnowsNumbered later t
    known_later t q = record {
      rows = record {
        rows = list_all-weaker (is_row_numbered m.states) (is_row_numbered later) (λ r e. stays_numbered m.states h s u there more r.id e) t.rows q.rows.rows;
        promises = list_all-weaker (λ (x : Promise (List ℕ)). is_row_numbered m.states x.row) (λ (x : Promise (List ℕ)). is_row_numbered later x.row)
            (λ x e. stays_numbered m.states h s u there more x.row.id e) t.promises q.rows.promises;
      };
      hands = list_all-weaker (is_hand_numbered m.states) (is_hand_numbered later) (λ y e. stays_numbered m.states h s u there more y.id e) t.hands q.hands;
    }

    packets_later : (xs : List Message) → list_all (offers_pass (is_carried_numbered m.states)) xs ≡ true
        → list_all (offers_pass (is_carried_numbered later)) xs ≡ true
    packets_later xs e = weaker_offers (is_carried_numbered m.states) (is_carried_numbered later) (λ c e. stays_numbered m.states h s u there more c.id e) xs e

    hosts_later : KnowsNumbered later u → (place : ℕ) (t : Plain) → slice_get later place ≡ Some t → KnowsNumbered later t
    hosts_later own place t at = by (h.0 == place) refl
      where
        by : (b : Bool) → (h.0 == place) ≡ b → KnowsNumbered later t
        by true e =
            let here : h.0 ≡ place = eqb-true h.0 place e in
            subst (KnowsNumbered later) (same_Some u t (sym (get-here h.0 u s m.states there) ∙ ap (slice_get later) here ∙ at)) own
        by false e = known_later t (p.hosts place t (sym (get-other h.0 place (λ _. u) m.states (λ here. true≢false (sym (eq-eqb h.0 place here) ∙ e))) ∙ at))

    sent_later : list_all (offers_pass (is_carried_numbered later)) (m.packets ++ sent_in (outputs_by way)) ≡ true
    sent_later =
        list_all-append (offers_pass (is_carried_numbered later)) m.packets (sent_in (outputs_by way))
        ∙ and_from (list_all (offers_pass (is_carried_numbered later)) m.packets)
        (list_all (offers_pass (is_carried_numbered later)) (sent_in (outputs_by way))) (packets_later m.packets p.packets)
        (packets_later (sent_in (outputs_by way)) (list_all-weaker (is_fine_message _ (is_carried_numbered m.states))
        (offers_pass (is_carried_numbered m.states)) (λ x q. (and_parts (is_sane_message _ x) (body_passes (is_carried_numbered m.states) x.body) q).1)
        (sent_in (outputs_by way))
        (way_sends site m k h s there (is_carried_numbered m.states) (p.hosts h.0 s there).rows.rows way)))

  module _ (c : Change (List ℕ)) (is : change_by way ≡ Some c) (suits : Suits s c) where
    grows : s.seq ≤ (applied c s).seq
    grows = seq_grows c s suits.fit

    abbrev after : List Plain
    after = put_state h (applied c s) m.states

    -- a request that is submitted has the number that is then the last
    new_numbered : (queue : List ℕ) (job : Job) (script : List ℕ) → c ≡ Submitted queue job script → was_numbered after (next_id s) ≡ true
    new_numbered queue job script e =
        let number : (applied c s).seq ≡ s.seq + 1 = ap (λ d. (applied d s).seq) e in
        let last : last_given s.me after ≡ (applied c s).seq = last_at after s.me.0 (applied c s)
        (ap (λ (i : HostId). slice_get after i.0) (me_is site m k h s there) ∙ get-here h.0 (applied c s) s m.states there) in
        and_from (nat_le 1 (s.seq + 1)) (nat_le (s.seq + 1) (last_given s.me after)) (le-leb 1 (s.seq + 1) (omega arith))
        (le-leb (s.seq + 1) (last_given s.me after) (omega (arith, number, last)))

    opened_numbered : (d : Change (List ℕ)) → fits d s ≡ true → Opens (is_hand_numbered after) d
    opened_numbered (HandOpened peer number id queue since) fit =
        let may = each (row_may (may_hop {E = List ℕ}) id s) (passes (is_next number) (find_peer peer s) ∷ _ ∷ _ ∷ []) fit in
        let r = found_row may_hop id s may.0 in
        ap (was_numbered after) (found_id id s.rows r.0 r.1) ∙ list_all-found (is_row_numbered after) (is_row id) s.rows r.0
        (known_later (applied c s) grows s (p.hosts h.0 s there)).rows.rows r.1
    opened_numbered d fit = tt

    own_later : KnowsNumbered after (applied c s)
    own_later =
        let before = known_later (applied c s) grows s (p.hosts h.0 s there) in
        record {
          rows = change_passes (is_row_numbered after) (numbered_kept after) c s suits.fit
              (row_passes (is_row_numbered after) h s m.packets (carried_passes (is_carried_numbered after) m.packets
              (packets_later (applied c s) grows m.packets p.packets)) c new_numbered (k.hosts h.0 s there).order way is) before.rows;
          hands = hands_kept (is_hand_numbered after) (λ y. refl) c s suits.fit (opened_numbered c suits.fit) before.hands;
        }

  -- the state after, if there is a change
  grows_by : (o : Option (Change (List ℕ))) → change_by way ≡ o → ((c : Change (List ℕ)) → change_by way ≡ Some c → Suits s c) → s.seq ≤ (after_change o s).seq
  grows_by None e suits = omega arith
  grows_by (Some c) e suits = grows c e (suits c e)

  own_by : (o : Option (Change (List ℕ))) → change_by way ≡ o → (suits : (c : Change (List ℕ)) → change_by way ≡ Some c → Suits s c)
      → KnowsNumbered (put_state h (after_change o s) m.states) (after_change o s)
  own_by None e suits = known_later s (omega arith) s (p.hosts h.0 s there)
  own_by (Some c) e suits = own_later c e (suits c e)

pub numbered_keeps : (site : List (List ℕ)) → Keeps site IsNumbered
numbered_keeps site = record {
  idle = λ m x k idle p. record { hosts = p.hosts; packets = p.packets };
  kept = λ m k h s there way c is suits p. (let more = grows site m k p h s there way c is suits in
      record {
        hosts = hosts_later site m k p h s there way (applied c s) more (own_later site m k p h s there way c is suits);
        packets = packets_later site m k p h s there way (applied c s) more m.packets p.packets;
      });
  made = λ m k h s there way suits p. (let more = grows_by site m k p h s there way (change_by way) refl suits in
      record {
        hosts = hosts_later site m k p h s there way (after_change (change_by way) s) more (own_by site m k p h s there way (change_by way) refl suits);
        packets = sent_later site m k p h s there way (after_change (change_by way) s) more;
      });
}

pub new_numbered_world : (site : List (List ℕ)) → IsNumbered (moment (new_world site) [])
new_numbered_world site = record {
  hosts = λ place s at. (let q = new_state site 0 site place s at in subst (KnowsNumbered (states_of (new_world site))) (sym q.1)
      (record { rows = record { rows = refl; promises = refl }; hands = refl }));
  packets = refl;
}

pub all_numbered : (site : List (List ℕ)) → IsSite site → (acts : List Act) → AreSane acts → AreNumbered (run acts (new_world site)).world
all_numbered site few acts sane = record {
  known = λ h s at. known s (q.hosts h.0 s at);
  offered = q.packets;
}
  where
    states : List Plain
    states = states_of (run acts (new_world site)).world

    q : IsNumbered (moment (run acts (new_world site)).world (history acts (new_world site)))
    q = runs_keep site IsNumbered (numbered_keeps site) few.1 (new_numbered_world site) acts sane

    known : (s : Plain) → KnowsNumbered (states_of (run acts (new_world site)).world) s
        → list_all (was_numbered (states_of (run acts (new_world site)).world)) (requests_in s) ≡ true
    known s k =
        let t = was_numbered (states_of (run acts (new_world site)).world) in
        let a = map (λ (r : PlainRow). r.id) s.rows in
        let b = map (λ (y : Hand). y.id) s.hands in
        let c = map (λ (p : Promise (List ℕ)). p.row.id) s.promises in
        list_all-append t (a ++ b) c
        ∙ and_from (list_all t (a ++ b)) (list_all t c)
        (list_all-append t a b
        ∙ and_from (list_all t a) (list_all t b) (all-mapped (λ (r : PlainRow). t r.id) t (λ (r : PlainRow). r.id) (λ r e. e) s.rows k.rows.rows)
        (all-mapped (λ (y : Hand). t y.id) t (λ (y : Hand). y.id) (λ y e. e) s.hands k.hands))
        (all-mapped (λ (p : Promise (List ℕ)). t p.row.id) t (λ (p : Promise (List ℕ)). p.row.id) (λ p e. e) s.promises k.rows.promises)

-- how numbers move

-- what comes in is submitted
submit_turn : (s : Plain) (x : Request) (c : Change (List ℕ)) → Turns c s x Submit → (numbers_given c ≡ 1) × (x ≡ next_id s)
submit_turn s x (Submitted queue job script) t = (refl, t)
submit_turn s x (Edited e) t = absurd (edit_new s x e t)
submit_turn s x c t = absurd t

given_after : (c : Change (List ℕ)) (s : Plain) → fits c s ≡ true → (applied c s).seq ≡ s.seq + numbers_given c
given_after (Submitted queue job script) s fit = refl
given_after c s fit = let e = seq_after c s fit in omega (arith, e)

module _ (site : List (List ℕ)) (first : List Plain) (m : Moment) (sound : IsSound site m) (k : IsHistory first m) (h : HostId) (s : Plain)
    (there : At m.states h s) (way : Way m.packets h s) (c : Change (List ℕ)) (is : change_by way ≡ Some c) (suits : Suits s c) where
  pub later_is : change_at h.0 (applied c) m.states ≡ put_state h (applied c s) m.states
  later_is = at-value h.0 (applied c) s m.states there

  pub moves : NumbersMove m.states h c
  moves = record {
    own =
        ap (last_given h) later_is
        ∙ (last_at (put_state h (applied c s) m.states) h.0 (applied c s) (get-here h.0 (applied c s) s m.states there)
        ∙ (given_after c s suits.fit ∙ ap (λ n. n + numbers_given c) (sym (last_at m.states h.0 s there))));
    others = λ g far. ap (last_given g) later_is ∙ last_other m.states h s (applied c s) there g (λ e. far (λ j. record { 0 = e j }));
  }

  pub next_is : next_id s ≡ next_numbered h m.states
  next_is = λ j. record { seq = sym (last_at m.states h.0 s there) j + 1; host = ((sound.hosts h.0 s there).head j).0 }

  -- a request that comes in
  pub came : (x : Request) → lies x m.states ≡ false → lies x (put_state h (applied c s) m.states) ≡ true
      → (numbers_given c ≡ 1) × (x ≡ next_numbered h m.states)
  came x none some = of (entry_of x m.states) (entry_of x (put_state h (applied c s) m.states)) none some
      (turn_is site m sound k.net k.away h s there way c is suits x)
    where
      of : (a b : Option Entry) → is_some a ≡ false → is_some b ≡ true → TurnStep c s x a b → (numbers_given c ≡ 1) × (x ≡ next_numbered h m.states)
      of (Some e) b none some t = absurd (true≢false none)
      of None None none some t = absurd (true≢false (sym some))
      of None (Some e) none some (inl same) = absurd (none-some e (sym same))
      of None (Some e) none some (inr q) = let t = submit_turn s x c (subst (Turns c s x) (comes_new q.0 e q.2) q.1) in (t.0, t.1 ∙ next_is)

  -- it has no entry before
  none_before : lies (next_id s) m.states ≡ false
  none_before = of (entry_of (next_id s) m.states) refl
    where
      of : (o : Option Entry) → entry_of (next_id s) m.states ≡ o → is_some o ≡ false
      of None e = refl
      of (Some e) f =
          let me : s.me ≡ h = λ j. ((sound.hosts h.0 s there).head j).0 in
          let few : s.seq + 1 ≤ s.seq = lies_given site m sound k.net (next_id s) e f s (ap (λ (i : HostId). slice_get m.states i.0) me ∙ there) in
          absurd (omega (arith, few))

  one_found : (queue : List ℕ) (job : Job) (script : List ℕ) (o : Option PlainRow)
      → (r : PlainRow) × (option_or o (if id_eq (next_id s) (next_id s) then Some (submitted_row queue job script s) else None) ≡ Some r)
  one_found queue job script None = (
    submitted_row queue job script s,
    ap (λ (b : Bool). if b then Some (submitted_row queue job script s) else None)
        (same_id (next_id s)),
  )
  one_found queue job script (Some r) = (r, refl)

-- a submission brings in its request
pub new_lies : (site : List (List ℕ)) (first : List Plain) (m : Moment) (sound : IsSound site m) (k : IsHistory first m) (h : HostId) (s : Plain)
    (there : At m.states h s) (way : Way m.packets h s) (c : Change (List ℕ)) (is : change_by way ≡ Some c) (suits : Suits s c)
    → numbers_given c ≡ 1 → lies (next_id s) (put_state h (applied c s) m.states) ≡ true
new_lies site first m sound k h s there way (Submitted queue job script) is suits gives =
    let c = Submitted queue job script in
    let r = one_found site first m sound k h s there way c is suits queue job script (find_row (next_id s) s) in
    let found = row_after (next_id s) c s (sound.hosts h.0 s there).order suits.fit ∙ r.1 in
    let then_sound = (sound_frames site).kept m h s there way c is sound in
    let then_net = ((history_keeps site first).kept m sound h s there way c is suits k).net in
    ap is_some (entry_here site (silent m h s (why_by way) c) then_sound then_net h (applied c s) (get-here h.0 (applied c s) s m.states there)
    (next_id s) r.0 found)
new_lies site first m sound k h s there way c is suits gives = absurd (omega (arith, gives))

pub numbers_move : (site : List (List ℕ)) (first : List Plain) → OfMoments site first (λ states h why c. NumbersMove states h c)
numbers_move site first m sound k h s there way c is suits = moves site first m sound k h s there way c is suits

pub news_numbered : (site : List (List ℕ)) (first : List Plain) → OfMoments site first (λ states h why c. NewAreNumbered states h c)
news_numbered site first m sound k h s there way c is suits = record {
  new = λ x none some. came site first m sound k h s there way c is suits x none (sym (ap (lies x) later) ∙ some);
  given = λ gives. (
    ap (λ x. lies x m.states) (sym next) ∙ none_before site first m sound k h s there way c is suits,
    (λ j. lies (sym next j) (later j)) ∙ new_lies site first m sound k h s there way c is suits gives,
  );
}
  where
    later : change_at h.0 (applied c) m.states ≡ put_state h (applied c s) m.states
    later = later_is site first m sound k h s there way c is suits

    next : next_id s ≡ next_numbered h m.states
    next = next_is site first m sound k h s there way c is suits
