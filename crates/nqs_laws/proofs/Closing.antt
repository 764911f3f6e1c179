-- What a message would say stays true, however the run goes on: a closed number stays closed, and a
-- taken one taken.
use Rattle.std.proofs.Common.{◌≡◌, ℕ, true, List, [], ◌∷◌, ◌++◌, ◌||◌, Bool, false, length, slice_get, Option, None, Some, zero, suc, true≢false, refl, sym, ap}
use Rattle.std.proofs.Common.{subst, ◌∙◌, arith}
use Rattle.std.proofs.lemmas.Bool.{and_parts, or_right, eqb-true}
use Rattle.std.proofs.lemmas.Option.{same_Some, none-some}
use Rattle.std.proofs.lemmas.List.Folds.{list_all-append}
use Rattle.std.specs.List.{list_all}
use Rattle.nqs_base.proofs.Plain.{item_at}
use Rattle.nqs_state.specs.State.{Plain}
use Rattle.nqs_types.specs.declared.ids.HostId.{HostId}
use Rattle.nqs_types.specs.declared.request.Peer.{Peer}
use Rattle.nqs_types.specs.declared.change.Change.{Change}
use Rattle.nqs_types.specs.declared.message.Message.{Message}
use Rattle.nqs_types.specs.declared.message.Body.TheVariants as body
use Rattle.nqs_rules.specs.Find.{peer_number, has_promise, find_peer}
use Rattle.nqs_rules.specs.InOrder.{IsInOrder}
use Rattle.nqs_rules.specs.Handover.{closes}
use Rattle.nqs_rules.specs.Starts.{after_change}
use Rattle.nqs_rules.specs.World.{World, Act, new_world}
use Rattle.nqs_rules.specs.Run.{happens, run, states_of}
use Rattle.nqs_rules.proofs.KeyFacts.{place_below}
use Rattle.nqs_rules.proofs.StateFacts.{sites_are}
use Rattle.nqs_laws.specs.History.{history}
use Rattle.nqs_laws.specs.Sane.{is_sane_act, AreSane, IsSite}
use Rattle.nqs_laws.specs.Handovers.{is_closed_for, is_taken_for}
use Rattle.nqs_laws.proofs.Frame.{Moment, moment, put_state, put-same, Way, change_by}
use Rattle.nqs_laws.proofs.Sound.{IsSound, Keeps, Suits, goes_on, run_sound}
use Rattle.nqs_laws.proofs.Pair.{IsTaken, PledgeOk, Holds, ReadyFor, DoneOf}
use Rattle.nqs_laws.proofs.Views.{gave, pair_of}
use Rattle.nqs_laws.proofs.Paired.{At, IsTrueWord, IsLowWord, IsPaired, pledge_at}
use Rattle.nqs_laws.proofs.Targets.{sender_known, promise_at}
use Rattle.nqs_laws.proofs.PairedRuns.{change_words, paired_keeps}
use Rattle.nqs_laws.proofs.TabledRuns.{IsNet, run_net}
use Rattle.nqs_laws.proofs.HandoverLaws.{taken_up}

pub record IsClosing (said : Message) (m : Moment) : Type 0 where
  pub paired : IsPaired m.states m.packets
  pub closed : IsPaired m.states (said ∷ [])

module _ (site : List (List ℕ)) (said : Message) where
  closing_after : (m : Moment) → IsSound site m → (h : HostId) (s : Plain) → At m.states h s → (way : Way m.packets h s) (o : Option (Change (List ℕ)))
      → change_by way ≡ o → ((c : Change (List ℕ)) → o ≡ Some c → Suits s c) → IsClosing said m → IsPaired (put_state h (after_change o s) m.states) (said ∷ [])
  closing_after m sound h s there way None is suits k = subst (λ l. IsPaired l (said ∷ [])) (sym (put-same h.0 s m.states there)) k.closed
  closing_after m sound h s there way (Some c) is suits k = change_words site m sound k.paired h s there (said ∷ []) k.closed way c is (suits c refl)

  closing_keeps : Keeps site (IsClosing said)
  closing_keeps = record {
    idle = λ m x sound idle k. record { paired = k.paired; closed = k.closed };
    kept = λ m sound h s there way c is suits k. record {
      paired = (paired_keeps site).kept m sound h s there way c is suits k.paired;
      closed = change_words site m sound k.paired h s there (said ∷ []) k.closed way c is suits;
    };
    made = λ m sound h s there way suits k. record {
      paired = (paired_keeps site).made m sound h s there way suits k.paired;
      closed = closing_after m sound h s there way (change_by way) refl suits k;
    };
  }

pub run-append : (acts more : List Act) (w : World) → (run (acts ++ more) w).world ≡ (run more (run acts w).world).world
run-append [] more w = refl
run-append (a ∷ acts) more w = run-append acts more (happens a w).world

-- What a message would say stays true: it is as if it had been sent.
module _ (site : List (List ℕ)) (few : IsSite site) (acts more : List Act) (sane : AreSane (acts ++ more)) where
  abbrev start_world : World
  start_world = (run acts (new_world site)).world

  abbrev pub start : Moment
  start = moment start_world (history acts (new_world site))

  abbrev pub end : Moment
  end = moment (run (acts ++ more) (new_world site)).world (history (acts ++ more) (new_world site))

  parts_sane : (list_all is_sane_act acts ≡ true) × (list_all is_sane_act more ≡ true)
  parts_sane = and_parts (list_all is_sane_act acts) (list_all is_sane_act more) (sym (list_all-append is_sane_act acts more) ∙ sane)

  pub start_sound : IsSound site start
  start_sound = run_sound site few.1 acts parts_sane.0

  pub start_net : IsNet start
  start_net = run_net site few acts parts_sane.0

  pub end_sound : IsSound site end
  end_sound = run_sound site few.1 (acts ++ more) sane

  pub end_net : IsNet end
  end_net = run_net site few (acts ++ more) sane

  pub stays_true : (said : Message) → IsTrueWord start.states said → IsLowWord start.states said → IsTrueWord end.states said
  stays_true said holds least =
      let told : IsPaired start.states (said ∷ []) = record {
        wide = start_net.paired.wide;
        pairs = start_net.paired.pairs;
        words =
            λ x sent. of sent.0 x sent.1;
        lows = λ x sent. low sent.0 x sent.1;
      } in
      let kept = goes_on site (IsClosing said) (closing_keeps site said) start_world start.notes start_sound
      (record { paired = start_net.paired; closed = told }) more parts_sane.1 in
      subst (λ v. IsTrueWord (states_of v) said) (sym (run-append acts more (new_world site))) (kept.closed.words said (0, refl))
    where
      of : (k : ℕ) (x : Message) → slice_get (said ∷ []) k ≡ Some x → IsTrueWord start.states x
      of zero x e = subst (IsTrueWord start.states) (same_Some said x e) holds
      of (suc k) x e = absurd (none-some x e)

      low : (k : ℕ) (x : Message) → slice_get (said ∷ []) k ≡ Some x → IsLowWord start.states x
      low zero x e = subst (IsLowWord start.states) (same_Some said x e) least
      low (suc k) x e = absurd (none-some x e)

  module _ (a b : HostId) (n : ℕ) (t u : Plain) (tat : At start.states b t) (uat : At end.states b u) where
    -- a host with a promise or a closed number for a sender knows it
    sender_at : (p : Peer) → find_peer a t ≡ Some p → (s : Plain) × At end.states a s
    sender_at p e =
        let host = start_sound.hosts b.0 t tat in
        let below = place_below t.peers a.0 p e in
        let peers : length t.peers ≡ length t.site = eqb-true (length t.peers) (length t.site) (sites_are t host.order.site).peers in
        let sites : length t.site ≡ length site = ap length (λ j. (host.head j).1) in
        let count = end_sound.count in
        item_at end.states a.0 (omega (arith, below, peers, sites, count))

    known : (o : Option Peer) → closes n o ≡ true → (p : Peer) × (o ≡ Some p)
    known None k = absurd (true≢false (sym k))
    known (Some p) k = (p, refl)

    pub stays_closed : is_closed_for a n t ≡ true → is_closed_for a n u ≡ true
    stays_closed closed =
        let p = known (find_peer a t) closed in
        let s = sender_at p.0 p.1 in
        let said : Message = record { from = b; to = a; body = body.Done n } in
        (stays_true said (λ v w vat wat. true_now v w vat wat) (λ v vat. tt) u s.0 uat s.1).1
      where
        true_now : (v w : Plain) → At start.states b v → At start.states a w → Holds (pair_of a w b v n) DoneOf
        true_now v w vat wat =
            let same : t ≡ v = same_Some t v (sym tat ∙ vat) in
            let shut : is_closed_for a n v ≡ true = ap (is_closed_for a n) (sym same) ∙ closed in
            ((start_net.paired.pairs a b w v wat vat n).closed shut, shut)

    pub stays_taken : is_taken_for a n t ≡ true → is_taken_for a n u ≡ true
    stays_taken taken = by (has_promise a n t) refl taken
      where
        order : IsInOrder t
        order = (start_sound.hosts b.0 t tat).order

        promised : has_promise a n t ≡ true → is_taken_for a n u ≡ true
        promised k =
            let q = promise_at t a n k in
            let p = sender_known t order (peer_number a n) q.0 q.1 in
            let s = sender_at p.0 p.1 in
            let said : Message = record { from = b; to = a; body = body.Ready n } in
            taken_up site end end_sound end_net a b s.0 u s.1 uat n
            (stays_true said (λ v w vat wat. true_now v w vat wat) (λ v vat. tt) u s.0 uat s.1).1
          where
            true_now : (v w : Plain) → At start.states b v → At start.states a w → Holds (pair_of a w b v n) ReadyFor
            true_now v w vat wat =
                let same : t ≡ v = same_Some t v (sym tat ∙ vat) in
                let q = pledge_at v a n (ap (has_promise a n) (sym same) ∙ k) in
                let ok = start_net.paired.pairs a b w v wat vat n in
                let less = subst (λ y. PledgeOk y (gave w b n) (is_closed_for a n v)) q.1 ok.pledge in
                (less.0, subst (λ y. IsTaken y (is_closed_for a n v)) (sym q.1) tt)

        by : (c : Bool) → has_promise a n t ≡ c → (c || is_closed_for a n t) ≡ true → is_taken_for a n u ≡ true
        by true e k = promised e
        by false e k = or_right (has_promise a n u) (is_closed_for a n u) (stays_closed k)
