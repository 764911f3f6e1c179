-- What holds of each pair of hosts and of each message holds at every moment of a run.
use Rattle.std.proofs.Common.{◌≡◌, ℕ, ◌≤◌, ◌⊎◌, inl, inr, Bool, true, false, if◌then◌else◌, nat_le, List, [], ◌∷◌, ◌++◌, map, find, length, slice_get}
use Rattle.std.proofs.Common.{Option, None, Some, refl, sym, ap, subst, ◌∙◌}
use Rattle.std.proofs.lemmas.Bool.{and_parts, leb-true}
use Rattle.std.specs.List.{list_all, AllByRecursion, filter_map, cons_option}
use Rattle.nqs_state.specs.State.{Plain}
use Rattle.nqs_base_tables.specs.Table.{without_first}
use Rattle.nqs_state.specs.Keys.{is_hand}
use Rattle.nqs_types.specs.declared.ids.HostId.{HostId}
use Rattle.nqs_types.specs.declared.ids.PeerNumber.{PeerNumber}
use Rattle.nqs_types.specs.declared.ids.RequestId.{RequestId}
use Rattle.nqs_types.specs.declared.request.Hand.{Hand}
use Rattle.nqs_types.specs.declared.request.Carried.{Carried}
use Rattle.nqs_types.specs.declared.request.Phase.{Phase}
use Rattle.nqs_types.specs.declared.request.Phase.TheVariants.{Offered, Committed}
use Rattle.nqs_types.specs.declared.change.Change.{Change}
use Rattle.nqs_types.specs.declared.change.Change.TheVariants.{Edited, HandsSilent, OldPromised, Promised, Accepted, Dropped}
use Rattle.nqs_types.specs.declared.message.Message.{Message}
use Rattle.nqs_types.specs.declared.message.Body.{Body}
use Rattle.nqs_types.specs.declared.message.Body.TheVariants as body
use Rattle.nqs_types.specs.declared.event.Event.{Event}
use Rattle.nqs_types.specs.declared.event.Event.TheVariants as event
use Rattle.nqs_types.specs.declared.event.Output.{Output}
use Rattle.nqs_types.specs.declared.event.Output.TheVariants as out
use Rattle.nqs_rules.specs.Tests.{is_offered, is_running}
use Rattle.nqs_rules.specs.Find.{find_row, find_hand}
use Rattle.nqs_rules.specs.Handover.{carried_of}
use Rattle.nqs_rules.specs.Sane.{is_sane_change, is_sane_low, is_sane_carried, is_sane_body, is_sane_message, is_sane_event, is_of_site, is_short_script}
use Rattle.nqs_rules.specs.Applied.{applied, hand_silent, hands_silent, may_start_again}
use Rattle.nqs_rules.specs.Fits.{fits}
use Rattle.nqs_rules.specs.Starts.{after_change}
use Rattle.nqs_rules.specs.Step.{step}
use Rattle.nqs_rules.specs.Stepped.{Pending, shown}
use Rattle.nqs_rules.specs.World.{body_number, sent_by, boot_output}
use Rattle.nqs_rules.specs.InOrder.{IsInOrder, IsConsistent}
use Rattle.nqs_rules.proofs.Chains.{each}
use Rattle.nqs_rules.proofs.ListFacts.{list_all-weaker}
use Rattle.nqs_rules.proofs.HandoversOrder.{not_committed, offer_or_none, still_offered, silent_one}
use Rattle.nqs_rules.proofs.ConsistentOrder.{silent_calm_one}
use Rattle.nqs_rules.proofs.OutputsOrder.{put_twice}
use Rattle.nqs_rules.specs.Picked.{PlainRow}
use Rattle.nqs_laws.proofs.Frame.{Moment, put_state, put-same, WasSent, Comes, Way, Taken, Begun, Booted, change_by, outputs_by, sent_in}
use Rattle.nqs_laws.proofs.Sound.{IsHost, IsSound, Keeps, Suits, get-here, event_sane}
use Rattle.nqs_laws.specs.Loads.{Load, offered_load, sent_load}
use Rattle.nqs_laws.proofs.Sent.{begins}
use Rattle.nqs_laws.proofs.Pair.{Open, Move, Stays, Withdraws, May, MayWithdraw}
use Rattle.nqs_laws.proofs.Views.{phase_seen, offer_seen, offered, gave, pair_of, has_number_key, routing_of}
use Rattle.nqs_laws.proofs.Turns.{to_move, from_move, silent_source, key_here}
use Rattle.nqs_laws.proofs.Lows.{IsWide, silent_wide, silent_grows}
use Rattle.nqs_laws.proofs.Targets.{IsLowRight, silent_target}
use Rattle.nqs_laws.proofs.Paired.{At, HoldsFor, IsTrueWord, IsLowWord, IsPaired, Turn, Guards, IsOne, turn_of, turn_paired, more_words}
use Rattle.nqs_laws.proofs.Guarded.{open_seen, way_guards}
use Rattle.nqs_laws.proofs.Spoken.{Local, local_true, local_low, LocalOut, step_spoken, begun_spoken}

-- one part of a change moves: the source's or the receiver's
abbrev pub OneSide : Change (List ℕ) → Plain → Type 0
OneSide c s = ((a : HostId) (n : ℕ) → from_move c a n ≡ Stays) ⊎ ((b : HostId) (n : ℕ) → to_move c s b n ≡ Stays)

pub one_side : (c : Change (List ℕ)) (s : Plain) → OneSide c s
one_side (OldPromised peer number queue c script) s = inr (λ b n. refl)
one_side (Promised peer number low queue c script) s = inr (λ b n. refl)
one_side (Accepted peer number) s = inr (λ b n. refl)
one_side (Dropped peer number) s = inr (λ b n. refl)
one_side c s = inl (λ a n. refl)

-- the low of a promise is at most its number
pub low_right : (c : Change (List ℕ)) → is_sane_change c ≡ true → IsLowRight c
low_right (Promised peer number low queue c script) sane =
    leb-true low number (and_parts (nat_le 1 low) (nat_le low number) (and_parts (is_sane_low low number) (is_sane_carried c) sane).0).1
low_right c sane = tt

pub silent_or_one : (c : Change (List ℕ)) → IsOne c ⊎ ((until : ℕ) × (ks : List PeerNumber) × (c ≡ HandsSilent until ks))
silent_or_one (HandsSilent until ks) = inr (until, ks, refl)
silent_or_one (Edited e) = inl (λ until ks e. let no : ⊥ = cc in no)
silent_or_one c = inl (λ until ks e. let no : ⊥ = cc in no)

-- a silent offer may be taken back
pub silent_guards : (until : ℕ) (states : List Plain) (packets : List Message) (h : HostId) (s : Plain) (there : At states h s) (o : IsInOrder s)
    (k : IsPaired states packets) (n : PeerNumber) (y : Hand) → find_hand n.peer n.number s ≡ Some y → is_offered y.phase ≡ true
    → Guards states h s (λ b i. if has_number_key b i n then Withdraws else Stays) (λ a i. Stays)
silent_guards until states packets h s there o k n y e opens = record {
  to_peers = λ b t at i. may b t i (has_number_key b i n) refl;
  from_peers = λ a v at i. tt;
}
  where
    may : (b : HostId) (t : Plain) (i : ℕ) (c : Bool) → has_number_key b i n ≡ c → May (pair_of h s b t i) (if c then Withdraws else Stays)
    may b t i true f =
        let r = routing_of s o (is_hand n) y e opens in
        let seen : offered s n.peer n.number ≡ phase_seen y.phase y (find_row y.id s) = ap (λ x. offer_seen x s) e in
        subst MayWithdraw (sym ((λ j. offered s (key_here b i n f j).peer (key_here b i n f j).number) ∙ (seen ∙ open_seen s y y.phase opens r.0 r.1))) tt
    may b t i false f = tt

-- and its turn
pub silent_turn : (until : ℕ) (s : Plain) → IsInOrder s → IsConsistent s → IsWide s → (n : PeerNumber) (y : Hand) → find_hand n.peer n.number s ≡ Some y
    → is_offered y.phase ≡ true
    → Turn s (hand_silent until n (Some y) s) (λ b i. if has_number_key b i n then Withdraws else Stays) (λ a i. Stays)
silent_turn until s o calm wide n y e opens = record {
  sources = silent_source s o calm until n y e opens;
  targets = silent_target s until n y;
  wide = silent_wide until n y s wide;
  grows = silent_grows until n y s;
  side = inl (λ a i. refl);
}

-- silent offers are taken back one after the other
silent_paired : (until : ℕ) (ks : List PeerNumber) (states : List Plain) (packets : List Message) (h : HostId) (s : Plain) → At states h s → IsInOrder s
    → IsConsistent s → list_all (λ k. not_committed (find_hand k.peer k.number s)) ks ≡ true → IsPaired states packets
    → IsPaired (put_state h (hands_silent until ks s) states) packets
silent_paired until [] states packets h s there o calm fit k = subst (λ l. IsPaired l packets) (sym (put-same h.0 s states there)) k
silent_paired until (n ∷ ks) states packets h s there o calm fit k =
    let p = and_parts (not_committed (find_hand n.peer n.number s)) (list_all (λ l. not_committed (find_hand l.peer l.number s)) ks) fit in
    of (find_hand n.peer n.number s) refl p.0 p.1 (silent_paired until ks)
  where
    of : (x : Option Hand) → find_hand n.peer n.number s ≡ x → not_committed x ≡ true → list_all (λ l. not_committed (find_hand l.peer l.number s)) ks ≡ true
        → ((states : List Plain) (packets : List Message) (h : HostId) (s : Plain) → At states h s → IsInOrder s → IsConsistent s
        → list_all (λ k. not_committed (find_hand k.peer k.number s)) ks ≡ true → IsPaired states packets
        → IsPaired (put_state h (hands_silent until ks s) states) packets)
        → IsPaired (put_state h (hands_silent until ks (hand_silent until n x s)) states) packets
    of None e opens rest again = again states packets h s there o calm rest k
    of (Some y) e opens rest again =
        let u : Plain = hand_silent until n (Some y) s in
        let to : HostId → ℕ → Move = λ b i. if has_number_key b i n then Withdraws else Stays in
        let from : HostId → ℕ → Move = λ a i. Stays in
        let turn : Turn s u to from = silent_turn until s o calm (k.wide h s there) n y e opens in
        let guards : Guards states h s to from = silent_guards until states packets h s there o k n y e opens in
        subst (λ l. IsPaired l packets) (put_twice h.0 (λ _. u) (hands_silent until ks u) states)
        (again (put_state h u states) packets h u (get-here h.0 u s states there) (silent_one s o n y e opens until)
        (silent_calm_one s o calm n y e opens until)
        (list_all-weaker (λ l. not_committed (find_hand l.peer l.number s)) (λ l. not_committed (find (is_hand l) (without_first (is_hand n) s.hands)))
        (λ l. still_offered s o n l) ks rest) (turn_paired states packets h s u there to from turn guards k))

-- what follows of each message that is among outputs of a kind holds of all that these send
sent_all : (L : Output → Type 0) (P : Message → Type 0) → ((x : Message) → L (out.Send x) → P x) → (os : List Output)
    → AllByRecursion L os → AllByRecursion P (sent_in os)
sent_all L P each_one [] all = tt
sent_all L P each_one (o ∷ os) all = by o all.0 (sent_all L P each_one os all.1)
  where
    by : (o : Output) → L o → AllByRecursion P (sent_in os) → AllByRecursion P (sent_by o ++ sent_in os)
    by (out.Send x) local rest = (each_one x local, rest)
    by (out.Reply port token reply) local rest = rest
    by (out.Launch order bytes) local rest = rest
    by (out.Print device order bytes) local rest = rest
    by (out.Kill id n) local rest = rest
    by (out.File file path bytes) local rest = rest
    by (out.Ended id n status) local rest = rest
    by (out.Unlaunched id n) local rest = rest
    by (out.Again id) local rest = rest
    by (out.Lost id) local rest = rest
    by (out.Ack port id n) local rest = rest

-- an offer carries a row of its host
abbrev pub IsOfRow : Plain → Body → Type 0
IsOfRow t (body.Offer n low queue c script) = (id : RequestId) × (r : PlainRow) × (find_row id t ≡ Some r) × (c ≡ carried_of r) × (script ≡ r.script)
IsOfRow t b = Unit {0}

row_offered : (t : Plain) (b : HostId) (n : ℕ) (load : Load) → offered t b n ≡ Open load
    → (id : RequestId) × (r : PlainRow) × (find_row id t ≡ Some r) × (load.carried ≡ carried_of r) × (load.script ≡ r.script)
row_offered t b n load e = of (find_hand b n t) e
  where
    by : (y : Hand) (p : Phase) (o : Option PlainRow) → find_row y.id t ≡ o → phase_seen p y o ≡ Open load
        → (id : RequestId) × (r : PlainRow) × (find_row id t ≡ Some r) × (load.carried ≡ carried_of r) × (load.script ≡ r.script)
    by y Offered None f g = absurd (let no : ⊥ = cc in no)
    by y Offered (Some r) f g = let same : offered_load y.queue r ≡ load = cc in
        (y.id, r, f, ap (λ (l : Load). l.carried) (sym same), ap (λ (l : Load). l.script) (sym same))
    by y Committed o f g = absurd (let no : ⊥ = cc in no)

    of : (x : Option Hand) → offer_seen x t ≡ Open load → (id : RequestId) × (r : PlainRow) × (find_row id t ≡ Some r) × (load.carried ≡ carried_of r)
        × (load.script ≡ r.script)
    of None e = absurd (let no : ⊥ = cc in no)
    of (Some y) e = by y y.phase (find_row y.id t) refl e

module _ (states : List Plain) (h : HostId) (s : Plain) (o : IsInOrder s) (calm : IsConsistent s) (wide : IsWide s) (t : Plain) where
  body_of : (b : HostId) (d : Body) → Local states h t b d → IsOfRow t d
  body_of b (body.Offer n low queue c script) l = row_offered t b n (sent_load queue c script) l.0
  body_of b d l = tt

  rows_offered : (os : List Output) → AllByRecursion (LocalOut states h s o calm wide t) os → AllByRecursion (λ (x : Message). IsOfRow t x.body) (sent_in os)
  rows_offered = sent_all (LocalOut states h s o calm wide t) (λ (x : Message). IsOfRow t x.body) (λ x local. body_of x.to x.body local.1)

module _ (site : List (List ℕ)) (m : Moment) (sound : IsSound site m) (k : IsPaired m.states m.packets) (h : HostId) (s : Plain) (there : At m.states h s) where
  host : IsHost site h.0 s
  host = sound.hosts h.0 s there

  -- a change keeps what holds of pairs, and of messages
  pub change_words : (others : List Message) → IsPaired m.states others → (way : Way m.packets h s) (c : Change (List ℕ)) → change_by way ≡ Some c → Suits s c
      → IsPaired (put_state h (applied c s) m.states) others
  change_words others l way c is suits = of (silent_or_one c)
    where
      of : IsOne c ⊎ ((until : ℕ) × (ks : List PeerNumber) × (c ≡ HandsSilent until ks)) → IsPaired (put_state h (applied c s) m.states) others
      of (inl one) =
          let g = sound.hosts h.0 s there in
          turn_paired m.states others h s (applied c s) there (to_move c s) (from_move c)
          (turn_of c s g.order g.calm suits.fit (low_right c suits.sane) one (k.wide h s there) (one_side c s))
          (way_guards m.states m.packets k h s there g.order g.calm way c is suits.fit one) l
      of (inr (until, ks, e)) =
          let g = sound.hosts h.0 s there in
          let fit : fits {F = List ℕ} (HandsSilent until ks) s ≡ true = ap (λ y. fits y s) (sym e) ∙ suits.fit in
          subst (λ y. IsPaired (put_state h (applied y s) m.states) others) (sym e)
          (silent_paired until ks m.states others h s there g.order g.calm
          (list_all-weaker _ (λ l. not_committed (find_hand l.peer l.number s)) (λ l. offer_or_none (find_hand l.peer l.number s)) ks fit) l)

  pub change_paired : (way : Way m.packets h s) (c : Change (List ℕ)) → change_by way ≡ Some c → Suits s c
      → IsPaired (put_state h (applied c s) m.states) m.packets
  change_paired way c is suits = change_words m.packets k way c is suits

  abbrev after : Way m.packets h s → Plain
  after way = after_change (change_by way) s

  abbrev states_after : Way m.packets h s → List Plain
  states_after way = put_state h (after way) m.states

  after_paired : (way : Way m.packets h s) → ((c : Change (List ℕ)) → change_by way ≡ Some c → Suits s c) → IsPaired (states_after way) m.packets
  after_paired way suits = of (change_by way) refl
    where
      of : (x : Option (Change (List ℕ))) → change_by way ≡ x → IsPaired (put_state h (after_change x s) m.states) m.packets
      of None e = subst (λ l. IsPaired l m.packets) (sym (put-same h.0 s m.states there)) k
      of (Some c) e = change_paired way c e (suits c e)

  -- what is said of the states before is said of those after, where nothing changed
  here_after : (way : Way m.packets h s) → At (states_after way) h (after way)
  here_after way = get-here h.0 (after way) s m.states there

  -- what a host sends says so of the states after, where it is said of its own state
  sent_so : (way : Way m.packets h s) (P : Message → Type 0)
      → ((x : Message) → At (states_after way) x.from (after way) → Local (states_after way) x.from (after way) x.to x.body → P x) → (os : List Output)
      → AllByRecursion (LocalOut (states_after way) h s host.order host.calm (k.wide h s there) (after way)) os → AllByRecursion P (sent_in os)
  sent_so way P so = sent_all (LocalOut (states_after way) h s host.order host.calm (k.wide h s there) (after way)) P by
    where
      by : (x : Message) → LocalOut (states_after way) h s host.order host.calm (k.wide h s there) (after way) (out.Send x) → P x
      by x local =
          let from : x.from ≡ h = local.0 ∙ (λ j. ((sound.hosts h.0 s there).head j).0) in
          so x (ap (λ (i : HostId). slice_get (states_after way) i.0) from ∙ get-here h.0 (after way) s m.states there)
          (subst (λ i. Local (states_after way) i (after way) x.to x.body) (sym from) local.1)

  -- what is sent is true
  sent_true : (way : Way m.packets h s) → IsPaired (states_after way) m.packets → (os : List Output)
      → AllByRecursion (LocalOut (states_after way) h s host.order host.calm (k.wide h s there) (after way)) os
      → AllByRecursion (IsTrueWord (states_after way)) (sent_in os)
  sent_true way paired = sent_so way (IsTrueWord (states_after way)) (λ x at local. local_true (states_after way) paired.pairs x (after way) at local)

  -- and its low is right
  sent_low : (way : Way m.packets h s) → (os : List Output)
      → AllByRecursion (LocalOut (states_after way) h s host.order host.calm (k.wide h s there) (after way)) os
      → AllByRecursion (IsLowWord (states_after way)) (sent_in os)
  sent_low way = sent_so way (IsLowWord (states_after way)) (λ x at local. local_low (states_after way) x (after way) at local)

  shown_all : (t : Plain) (ps : List (Pending (List ℕ))) (P : Output → Type 0) → AllByRecursion (λ p. P (shown p)) ps → AllByRecursion P (map shown ps)
  shown_all t [] P all = tt
  shown_all t (p ∷ ps) P all = (all.0, shown_all t ps P all.1)

  boots_say : (P : Output → Type 0) → ((r : PlainRow) → P (out.Again r.id)) → ((r : PlainRow) → P (out.Lost r.id)) → (rows : List PlainRow)
      → AllByRecursion P (filter_map boot_output rows)
  boots_say P again lost [] = tt
  boots_say P again lost (r ∷ rows) = by (is_running r.state) (may_start_again r) (boots_say P again lost rows)
    where
      by : (b c : Bool) → AllByRecursion P (filter_map boot_output rows) → AllByRecursion P
          (cons_option (if b then Some (if c then out.Again r.id else out.Lost r.id) else None) (filter_map boot_output rows))
      by true true rest = (again r, rest)
      by true false rest = (lost r, rest)
      by false c rest = rest

  said : (way : Way m.packets h s) → ((c : Change (List ℕ)) → change_by way ≡ Some c → Suits s c) → IsPaired (states_after way) m.packets
      → AllByRecursion (LocalOut (states_after way) h s host.order host.calm (k.wide h s there) (after way)) (outputs_by way)
  said (Taken e comes) suits paired =
      shown_all s (step e s).outputs (LocalOut (states_after (Taken e comes)) h s host.order host.calm (k.wide h s there) (after (Taken e comes)))
      (step_spoken (states_after (Taken e comes)) h s host.order host.calm (k.wide h s there) e
      (λ now x n low queue c script is offers. (λ v vat. below now x n low queue c script is offers v vat, least now x n low queue c script is offers))
      (λ c is. (suits c is).fit))
    where
      came : (now : ℕ) (x : Message) → e ≡ event.Arrived now x → (x.to ≡ h) × WasSent x m.packets
      came now x is = subst (Comes m.packets h) is comes

      here : (now : ℕ) (x : Message) → e ≡ event.Arrived now x
          → At (put_state h (after_change (step e s).change s) m.states) x.to (after_change (step e s).change s)
      here now x is = ap (λ (i : HostId). slice_get (put_state h (after_change (step e s).change s) m.states) i.0) (came now x is).0
          ∙ get-here h.0 (after_change (step e s).change s) s m.states there

      below : (now : ℕ) (x : Message) (n low : ℕ) (queue : List ℕ) (c : Carried) (script : List ℕ) → e ≡ event.Arrived now x
          → x.body ≡ body.Offer n low queue c script
          → (v : Plain) → At (put_state h (after_change (step e s).change s) m.states) x.from v → gave v h n ≡ true
      below now x n low queue c script is offers v vat =
          let word = paired.words x (came now x is).1 v (after_change (step e s).change s) vat (here now x is) in
          let holds = subst (λ b. HoldsFor (pair_of x.from v x.to (after_change (step e s).change s) (body_number b))
          (pair_of x.to (after_change (step e s).change s) x.from v (body_number b)) b) offers word in
          subst (λ i. gave v i n ≡ true) (came now x is).0 holds.0

      least : (now : ℕ) (x : Message) (n low : ℕ) (queue : List ℕ) (c : Carried) (script : List ℕ) → e ≡ event.Arrived now x
          → x.body ≡ body.Offer n low queue c script → low ≤ n
      least now x n low queue c script is offers =
          let fine : is_sane_message (length site) x ≡ true = subst (λ (d : Event). is_sane_event (length site) d ≡ true) is
          (event_sane m.packets h (length site) e sound.packets comes) in
          let body_fine = subst (λ b. is_sane_body (length site) b ≡ true) offers
          (and_parts (is_of_site (length site) x.from) (is_sane_body (length site) x.body) fine).1 in
          let k = each (nat_le 1 n) (is_sane_low low n ∷ is_sane_carried c ∷ is_of_site (length site) c.id.host ∷ is_short_script script ∷ []) body_fine in
          leb-true low n (and_parts (nat_le 1 low) (nat_le low n) k.1.0).1
  said (Begun now x begun) suits paired =
      shown_all s x.outputs (LocalOut (states_after (Begun now x begun)) h s host.order host.calm (k.wide h s there) (after (Begun now x begun)))
      (begun_spoken (states_after (Begun now x begun)) h s host.order host.calm (k.wide h s there) now x (begins s host.order now x begun)
      (λ c is. (suits c is).fit))
  said Booted suits paired = boots_say (LocalOut (states_after Booted) h s host.order host.calm (k.wide h s there) (after Booted)) (λ r. tt) (λ r. tt) s.rows

  -- each offer that is sent carries a row
  pub sent_offers : (way : Way m.packets h s) → ((c : Change (List ℕ)) → change_by way ≡ Some c → Suits s c)
      → AllByRecursion (λ (x : Message). IsOfRow (after_change (change_by way) s) x.body) (sent_in (outputs_by way))
  sent_offers way suits = rows_offered (states_after way) h s host.order host.calm (k.wide h s there) (after way) (outputs_by way)
      (said way suits (after_paired way suits))

  -- all that is done
  pub made_paired : (way : Way m.packets h s) → ((c : Change (List ℕ)) → change_by way ≡ Some c → Suits s c)
      → IsPaired (states_after way) (m.packets ++ sent_in (outputs_by way))
  made_paired way suits =
      let paired = after_paired way suits in
      more_words (states_after way) m.packets (sent_in (outputs_by way)) paired (sent_true way paired (outputs_by way) (said way suits paired))
      (sent_low way (outputs_by way) (said way suits paired))

abbrev pub PairedAt : Moment → Type 0
PairedAt m = IsPaired m.states m.packets

pub paired_keeps : (site : List (List ℕ)) → Keeps site PairedAt
paired_keeps site = record {
  idle = λ m x sound idle k. k;
  kept = λ m sound h s there way c is suits k. change_paired site m sound k h s there way c is suits;
  made = λ m sound h s there way suits k. made_paired site m sound k h s there way suits;
}
