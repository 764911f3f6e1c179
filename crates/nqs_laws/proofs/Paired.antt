-- What holds of each pair of hosts and of each message, after each change.
use Rattle.std.proofs.Common.{◌≡◌, ℕ, ◌+◌, ◌<◌, ◌≤◌, ◌⊎◌, inl, inr, Bool, true, false, ◌==◌, List, [], ◌∷◌, ◌++◌, slice_get, Option, None, Some, true≢false}
use Rattle.std.proofs.Common.{zero}
use Rattle.std.proofs.Common.{suc, refl, sym, ap, subst, ◌∙◌, arith, if◌then◌else◌}
use Rattle.std.proofs.lemmas.Bool.{lt-ltb}
use Rattle.std.proofs.lemmas.Option.{same_Some}
use Rattle.std.specs.List.{AllByRecursion}
use Rattle.nqs_base.proofs.Plain.{all_at}
use Rattle.nqs_state.specs.State.{Plain}
use Rattle.nqs_state.specs.Keys.{is_hand, is_promise}
use Rattle.nqs_types.specs.declared.ids.HostId.{HostId}
use Rattle.nqs_types.specs.declared.ids.PeerNumber.{PeerNumber}
use Rattle.nqs_types.specs.declared.ids.RequestId.{RequestId as Request}
use Rattle.nqs_types.specs.declared.request.Hand.{Hand}
use Rattle.nqs_types.specs.declared.request.Peer.{Peer}
use Rattle.nqs_types.specs.declared.request.Phase.{Phase}
use Rattle.nqs_types.specs.declared.request.Phase.TheVariants.{Offered, Committed}
use Rattle.nqs_types.specs.declared.change.Change.{Change}
use Rattle.nqs_types.specs.declared.change.Change.TheVariants.{HandsSilent}
use Rattle.nqs_types.specs.declared.message.Message.{Message}
use Rattle.nqs_types.specs.declared.message.Body.{Body}
use Rattle.nqs_types.specs.declared.message.Body.TheVariants as body
use Rattle.nqs_rules.specs.Tests.{passes, is_offered, is_committed, same_host}
use Rattle.nqs_rules.specs.Find.{peer_number, has_promise, find_row, find_hand, find_promise, find_peer}
use Rattle.nqs_rules.specs.Handover.{was_given}
use Rattle.nqs_rules.specs.Applied.{applied}
use Rattle.nqs_rules.specs.Fits.{fits, is_committed_hand}
use Rattle.nqs_rules.specs.InOrder.{IsInOrder, IsConsistent}
use Rattle.nqs_rules.specs.World.{body_number}
use Rattle.nqs_rules.proofs.KeyFacts.{none_found}
use Rattle.nqs_rules.proofs.PeersOrder.{get-other}
use Rattle.nqs_rules.specs.Picked.{PlainRow}
pub use Rattle.nqs_laws.specs.Closed.{HasState as At}
use Rattle.nqs_laws.specs.Handovers.{next_of, next_for, low_for}
use Rattle.nqs_laws.proofs.Frame.{put_state, WasSent}
use Rattle.nqs_laws.proofs.Sound.{get-here}
use Rattle.nqs_laws.specs.Loads.{Load, offered_load, kept_load, sent_load}
use Rattle.nqs_laws.proofs.Makes.{HasHand}
use Rattle.nqs_laws.proofs.Pair.{Open, Given, NoPledge, Pledged, Pair, OfferOf, ReadyFor, RefusedOf, CommitOf, DoneOf, AbortOf, IsNoPledge, IsNoOffer, Ok}
use Rattle.nqs_laws.proofs.Pair.{Holds}
use Rattle.nqs_laws.proofs.Pair.{Move, Stays, moved, May, moved-ok, moved-holds, pair}
use Rattle.nqs_laws.proofs.Views.{Pledging, phase_seen, offer_seen, offered, gave, pledge_seen, pledged, pair_of, Source, Target, source_pair, target_pair}
use Rattle.nqs_laws.proofs.Views.{host_exact, host_same, routing_of}
use Rattle.nqs_laws.proofs.Turns.{to_move, from_move, sources, stays_source, stays_target}
use Rattle.nqs_laws.proofs.LowFacts.{low_next}
use Rattle.nqs_laws.proofs.Lows.{IsWide, LowsGrow, low_below, lows_grow, wide_kept}
use Rattle.nqs_laws.proofs.Targets.{IsLowRight, targets, promise_at}

-- what holds of a message, by the pairs of its hosts under its number: from its sender, and to it
abbrev pub HoldsFor : Pair → Pair → Body → Type 0
HoldsFor out back (body.Offer n low queue c script) = Holds out (OfferOf (sent_load queue c script))
HoldsFor out back (body.Ready n) = Holds back ReadyFor
HoldsFor out back (body.Refused n refusal) = Holds back RefusedOf
HoldsFor out back (body.Commit n) = Holds out CommitOf
HoldsFor out back (body.Done n) = Holds back DoneOf
HoldsFor out back (body.Inquire n) = Holds back ReadyFor
HoldsFor out back (body.Abort n) = Holds out AbortOf
HoldsFor out back b = Unit {0}

-- what holds of a message in these states
abbrev pub IsTrueWord : List Plain → Message → Type 0
IsTrueWord states x = (s t : Plain) → At states x.from s → At states x.to t
    → HoldsFor (pair_of x.from s x.to t (body_number x.body)) (pair_of x.to t x.from s (body_number x.body)) x.body

-- what holds of an offer's low: its number is at most 63 above it, and so is that of its sender
abbrev pub LowWord : Body → HostId → Plain → Type 0
LowWord (body.Offer n low queue c script) to s = (low ≤ n) × (n ≤ low + 63) × (low ≤ low_for to s)
LowWord b to s = Unit {0}

abbrev pub IsLowWord : List Plain → Message → Type 0
IsLowWord states x = (s : Plain) → At states x.from s → LowWord x.body x.to s

pub record IsPaired (states : List Plain) (packets : List Message) : Type 0 where
  pub wide : (a : HostId) (s : Plain) → At states a s → IsWide s
  pub pairs : (a b : HostId) (s t : Plain) → At states a s → At states b t → (n : ℕ) → Ok (pair_of a s b t n)
  pub words : (x : Message) → WasSent x packets → IsTrueWord states x
  pub lows : (x : Message) → WasSent x packets → IsLowWord states x

-- a state of one host after another
pub record Turn (s s' : Plain) (to from : HostId → ℕ → Move) : Type 0 where
  pub sources : (b : HostId) (n : ℕ) → Source s s' b n (to b n)
  pub targets : (a : HostId) (n : ℕ) → Target s s' a n (from a n)
  pub wide : IsWide s'
  pub grows : LowsGrow s s'
  pub side : ((a : HostId) (n : ℕ) → from a n ≡ Stays) ⊎ ((b : HostId) (n : ℕ) → to b n ≡ Stays)

-- when each move may come
pub record Guards (states : List Plain) (h : HostId) (s : Plain) (to from : HostId → ℕ → Move) : Type 0 where
  pub to_peers : (b : HostId) (t : Plain) → At states b t → (n : ℕ) → May (pair_of h s b t n) (to b n)
  pub from_peers : (a : HostId) (u : Plain) → At states a u → (n : ℕ) → May (pair_of a u h s n) (from a n)

holds_moved : (out back : Pair) (m n : Move) (b : Body) → Ok out → Ok back → May out m → May back n → HoldsFor out back b
    → HoldsFor (moved out m) (moved back n) b
holds_moved out back m n (body.Offer k low queue c script) o p a z h = moved-holds out m (OfferOf (sent_load queue c script)) o a h
holds_moved out back m n (body.Ready k) o p a z h = moved-holds back n ReadyFor p z h
holds_moved out back m n (body.Refused k refusal) o p a z h = moved-holds back n RefusedOf p z h
holds_moved out back m n (body.Commit k) o p a z h = moved-holds out m CommitOf o a h
holds_moved out back m n (body.Done k) o p a z h = moved-holds back n DoneOf p z h
holds_moved out back m n (body.Inquire k) o p a z h = moved-holds back n ReadyFor p z h
holds_moved out back m n (body.Abort k) o p a z h = moved-holds out m AbortOf o a h
holds_moved out back m n b o p a z h = tt

low_grown : (b : Body) (to : HostId) (s s' : Plain) → LowsGrow s s' → LowWord b to s → LowWord b to s'
low_grown (body.Offer n low queue c script) to s s' grows k = let few = k.2 in let more = grows to in (k.0, k.1, omega (arith, few, more))
low_grown b to s s' grows k = tt

module _ (states : List Plain) (packets : List Message) (h : HostId) (s s' : Plain) (there : At states h s) (to from : HostId → ℕ → Move)
    (turn : Turn s s' to from) where
  abbrev here_or : HostId → Move → Move
  here_or a m = if same_host a h then m else Stays

  -- the state of a host before
  pub record Was (a : HostId) (u' : Plain) : Type 0 where
    pub state : Plain
    pub at : At states a state
    pub source : (b : HostId) (n : ℕ) → Source state u' b n (here_or a (to b n))
    pub target : (b : HostId) (n : ℕ) → Target state u' b n (here_or a (from b n))
    pub wide : IsWide state → IsWide u'
    pub grows : LowsGrow state u'

  pub was : (a : HostId) (u' : Plain) → At (put_state h s' states) a u' → Was a u'
  was a u' at = by (same_host a h) refl
    where
      by : (c : Bool) → same_host a h ≡ c → Was a u'
      by true e =
          let here : a ≡ h = host_exact a h e in
          let same : s' ≡ u' = same_Some s' u' (sym (get-here h.0 s' s states there)
          ∙ (ap (λ (i : HostId). slice_get (put_state h s' states) i.0) (sym here) ∙ at)) in
          record {
            state = s;
            at = ap (λ (i : HostId). slice_get states i.0) here ∙ there;
            source = λ b n. subst (λ c. Source s u' b n (if c then to b n else Stays)) (sym e) (subst (λ v. Source s v b n (to b n)) same (turn.sources b n));
            target = λ b n. subst (λ c. Target s u' b n (if c then from b n else Stays)) (sym e)
                (subst (λ v. Target s v b n (from b n)) same (turn.targets b n));
            wide = λ k. subst IsWide same turn.wide;
            grows = subst (LowsGrow s) same turn.grows;
          }
      by false e = record {
        state = u';
        at = sym (get-other h.0 a.0 (λ _. s') states (λ same. true≢false (sym (ap (λ n. n == h.0) (sym same) ∙ host_same h) ∙ e))) ∙ at;
        source = λ b n. subst (λ c. Source u' u' b n (if c then to b n else Stays)) (sym e) (stays_source u' u' b n refl refl);
        target = λ b n. subst (λ c. Target u' u' b n (if c then from b n else Stays)) (sym e) (stays_target u' u' b n refl refl);
        wide = λ k. k;
        grows = λ b. omega arith;
      }

  -- what a pair was, and the move that it made
  pub record Moved (p' p : Pair) : Type 0 where
    pub move : Move
    pub is : p' ≡ moved p move
    pub may : May p move

  module _ (guards : Guards states h s to from) where
    still : (c : Bool) (m : Move) → m ≡ Stays → (if c then m else Stays) ≡ Stays
    still true m e = e
    still false m e = refl

    module _ (a b : HostId) (u' v' : Plain) (x : Was a u') (y : Was b v') (n : ℕ) where
      source_may : (c : Bool) → same_host a h ≡ c → May (pair_of a x.state b y.state n) (if c then to b n else Stays)
      source_may true e =
          let here : a ≡ h = host_exact a h e in
          let same : x.state ≡ s = same_Some x.state s (sym x.at ∙ (ap (λ (i : HostId). slice_get states i.0) here ∙ there)) in
          subst (λ i. May (pair_of i x.state b y.state n) (to b n)) (sym here)
          (subst (λ v. May (pair_of h v b y.state n) (to b n)) (sym same) (guards.to_peers b y.state y.at n))
      source_may false e = tt

      target_may : (c : Bool) → same_host b h ≡ c → May (pair_of a x.state b y.state n) (if c then from a n else Stays)
      target_may true e =
          let here : b ≡ h = host_exact b h e in
          let same : y.state ≡ s = same_Some y.state s (sym y.at ∙ (ap (λ (i : HostId). slice_get states i.0) here ∙ there)) in
          subst (λ i. May (pair_of a x.state i y.state n) (from a n)) (sym here)
          (subst (λ v. May (pair_of a x.state h v n) (from a n)) (sym same) (guards.from_peers a x.state x.at n))
      target_may false e = tt

    moved_pair : (a b : HostId) (u' v' : Plain) (x : Was a u') (y : Was b v') (n : ℕ) → Moved (pair_of a u' b v' n) (pair_of a x.state b y.state n)
    moved_pair a b u' v' x y n = by turn.side
      where
        both : pair_of a u' b v' n ≡ moved (moved (pair_of a x.state b y.state n) (here_or b (from a n))) (here_or a (to b n))
        both = source_pair a x.state u' b v' n (here_or a (to b n)) (x.source b n)
            ∙ ap (λ p. moved p (here_or a (to b n))) (target_pair a x.state b y.state v' n (here_or b (from a n)) (y.target a n))

        by : ((a : HostId) (n : ℕ) → from a n ≡ Stays) ⊎ ((b : HostId) (n : ℕ) → to b n ≡ Stays) → Moved (pair_of a u' b v' n) (pair_of a x.state b y.state n)
        by (inl e) = record {
          move = here_or a (to b n);
          is = both ∙ ap (λ m. moved (moved (pair_of a x.state b y.state n) m) (here_or a (to b n))) (still (same_host b h) (from a n) (e a n));
          may = source_may a b u' v' x y n (same_host a h) refl;
        }
        by (inr e) = record {
          move = here_or b (from a n);
          is = both ∙ ap (λ m. moved (moved (pair_of a x.state b y.state n) (here_or b (from a n))) m) (still (same_host a h) (to b n) (e b n));
          may = target_may a b u' v' x y n (same_host b h) refl;
        }

    -- a pair moves on one side
    abbrev pub PairTurn : (a b : HostId) (u' v' : Plain) (n : ℕ) → Was a u' → Was b v' → Type 0
    PairTurn a b u' v' n x y =
        ((m : Move) × Source x.state u' b n m × (find_promise a n v' ≡ find_promise a n y.state) × May (pair_of a x.state b y.state n) m
        × (m ≡ here_or a (to b n)))
        ⊎ ((m : Move) × (offered u' b n ≡ offered x.state b n) × Target y.state v' a n m × May (pair_of a x.state b y.state n) m
        × (m ≡ here_or b (from a n)))

    pub pair_turn : (a b : HostId) (u' v' : Plain) (n : ℕ) (x : Was a u') (y : Was b v') → PairTurn a b u' v' n x y
    pair_turn a b u' v' n x y = by turn.side
      where
        by : ((a : HostId) (n : ℕ) → from a n ≡ Stays) ⊎ ((b : HostId) (n : ℕ) → to b n ≡ Stays) → PairTurn a b u' v' n x y
        by (inl e) = inl (
          here_or a (to b n),
          x.source b n,
          (y.target a n).stays (still (same_host b h) (from a n) (e a n)),
          source_may a b u' v' x y n (same_host a h) refl,
          refl,
        )
        by (inr e) = inr (
          here_or b (from a n),
          subst (λ m. offered u' b n ≡ (moved (pair (offered x.state b n) (gave x.state b n) NoPledge false) m).offer)
              (still (same_host a h) (to b n) (e b n)) (x.source b n).offer,
          y.target a n,
          target_may a b u' v' x y n (same_host b h) refl,
          refl,
        )

    -- pairs and messages keep what holds of them
    pub turn_paired : IsPaired states packets → IsPaired (put_state h s' states) packets
    turn_paired k = record {
      wide = λ a u' at. (let x = was a u' at in x.wide (k.wide a x.state x.at));
      pairs = λ a b u' v' at bt i. (let x = was a u' at in
          let y = was b v' bt in
          let m = moved_pair a b u' v' x y i in
          subst Ok (sym m.is) (moved-ok (pair_of a x.state b y.state i) m.move (k.pairs a b x.state y.state x.at y.at i) m.may));
      words = λ w sent u' v' at bt. (let x = was w.from u' at in
          let y = was w.to v' bt in
          let i = body_number w.body in
          let m = moved_pair w.from w.to u' v' x y i in
          let n = moved_pair w.to w.from v' u' y x i in
          subst (λ p. HoldsFor p (pair_of w.to v' w.from u' i) w.body) (sym m.is)
          (subst (λ p. HoldsFor (moved (pair_of w.from x.state w.to y.state i) m.move) p w.body) (sym n.is)
          (holds_moved (pair_of w.from x.state w.to y.state i) (pair_of w.to y.state w.from x.state i) m.move n.move w.body
          (k.pairs w.from w.to x.state y.state x.at y.at i) (k.pairs w.to w.from y.state x.state y.at x.at i) m.may n.may
          (k.words w sent x.state y.state x.at y.at))));
      lows = λ w sent u' at. (let x = was w.from u' at in low_grown w.body w.to x.state u' x.grows (k.lows w sent x.state x.at));
    }

-- more messages

sent_before : {V : Type 0} (xs ys : List V) (k : ℕ) (v : V) → slice_get (xs ++ ys) k ≡ Some v
    → ((i : ℕ) × (slice_get xs i ≡ Some v)) ⊎ ((i : ℕ) × (slice_get ys i ≡ Some v))
sent_before [] ys k v e = inr (k, e)
sent_before (x ∷ xs) ys zero v e = inl (0, e)
sent_before (x ∷ xs) ys (suc k) v e = by (sent_before xs ys k v e)
  where
    by : ((i : ℕ) × (slice_get xs i ≡ Some v)) ⊎ ((i : ℕ) × (slice_get ys i ≡ Some v))
        → ((i : ℕ) × (slice_get (x ∷ xs) i ≡ Some v)) ⊎ ((i : ℕ) × (slice_get ys i ≡ Some v))
    by (inl (i, f)) = inl (suc i, f)
    by (inr f) = inr f

pub more_words : (states : List Plain) (packets sent : List Message) → IsPaired states packets → AllByRecursion (IsTrueWord states) sent
    → AllByRecursion (IsLowWord states) sent → IsPaired states (packets ++ sent)
more_words states packets sent k all lows = record {
  wide = k.wide;
  pairs = k.pairs;
  words = λ w at. by w (sent_before packets sent at.0 w at.1);
  lows = λ w at. low w (sent_before packets sent at.0 w at.1);
}
  where
    by : (w : Message) → ((i : ℕ) × (slice_get packets i ≡ Some w)) ⊎ ((i : ℕ) × (slice_get sent i ≡ Some w)) → IsTrueWord states w
    by w (inl at) = k.words w at
    by w (inr at) = all_at (IsTrueWord states) sent at.0 w all at.1

    low : (w : Message) → ((i : ℕ) × (slice_get packets i ≡ Some w)) ⊎ ((i : ℕ) × (slice_get sent i ≡ Some w)) → IsLowWord states w
    low w (inl at) = k.lows w at
    low w (inr at) = all_at (IsLowWord states) sent at.0 w lows at.1

-- when the moves of a change may come

abbrev pub IsOne : Change (List ℕ) → Type 0
IsOne c = (until : ℕ) (ks : List PeerNumber) → c ≡ HandsSilent until ks → ⊥

abbrev pub GuardsOf : List Plain → HostId → Plain → Change (List ℕ) → Type 0
GuardsOf states h s c = Guards states h s (to_move c s) (from_move c)

-- the turn of a change
pub turn_of : (c : Change (List ℕ)) (s : Plain) → IsInOrder s → IsConsistent s → fits c s ≡ true → IsLowRight c → IsOne c → IsWide s
    → (((a : HostId) (n : ℕ) → from_move c a n ≡ Stays) ⊎ ((b : HostId) (n : ℕ) → to_move c s b n ≡ Stays))
    → Turn s (applied c s) (to_move c s) (from_move c)
turn_of c s o calm fit right one wide side = record {
  sources = sources s o calm c fit one;
  targets = targets s o c fit right one;
  wide = wide_kept s o calm c fit wide;
  grows = lows_grow s o calm c fit;
  side = side;
}

-- an offer under a number, seen from outside
pub open_row : (s : Plain) → IsInOrder s → (peer : HostId) (n : ℕ) → (k : HasHand Offered peer n s)
    → (r : PlainRow) × (find_row k.hand.id s ≡ Some r) × (offered s peer n ≡ Open (offered_load k.hand.queue r))
open_row s o peer n k =
    let r = routing_of s o (is_hand (peer_number peer n)) k.hand k.found (ap is_offered k.is) in (
      r.0,
      r.1,
      ap (λ x. offer_seen x s) k.found
          ∙ (ap (λ p. phase_seen p k.hand (find_row k.hand.id s)) k.is ∙ ap (phase_seen Offered k.hand) r.1),
    )

pub open_offer : (s : Plain) → IsInOrder s → (peer : HostId) (n : ℕ) → HasHand Offered peer n s → (load : Load) × (offered s peer n ≡ Open load)
open_offer s o peer n k = let r = open_row s o peer n k in (offered_load k.hand.queue r.0, r.2)

pub given_offer : (s : Plain) (peer : HostId) (n : ℕ) → (k : HasHand Committed peer n s) → offered s peer n ≡ Given k.hand.id k.hand.queue
given_offer s peer n k = ap (λ x. offer_seen x s) k.found ∙ ap (λ p. phase_seen p k.hand (find_row k.hand.id s)) k.is

pub committed_hand : (s : Plain) (b : HostId) (n : ℕ) (id : Request) (queue : List ℕ) → offered s b n ≡ Given id queue
    → passes is_committed_hand (find_hand b n s) ≡ true
committed_hand s b n id queue given = of (find_hand b n s) given
  where
    phase : (y : Hand) (p : Phase) → y.phase ≡ p → phase_seen p y (find_row y.id s) ≡ Given id queue → is_committed y.phase ≡ true
    phase y Offered is g = offers (find_row y.id s) g
      where
        offers : (o : Option PlainRow) → phase_seen Offered y o ≡ Given id queue → is_committed y.phase ≡ true
        offers None g = absurd (let no : ⊥ = cc in no)
        offers (Some q) g = absurd (let no : ⊥ = cc in no)
    phase y Committed is g = ap is_committed is

    of : (y : Option Hand) → offer_seen y s ≡ Given id queue → passes is_committed_hand y ≡ true
    of None g = absurd (let no : ⊥ = cc in no)
    of (Some y) g = phase y y.phase refl g

pub pledge_at : (s : Plain) (peer : HostId) (n : ℕ) → has_promise peer n s ≡ true → (p : Pledging) × (pledged s peer n ≡ Pledged (kept_load p.row))
pledge_at s peer n fit = let p = promise_at s peer n fit in (p.0, ap pledge_seen p.1)

pub no_pledge : (s : Plain) (peer : HostId) (n : ℕ) → has_promise peer n s ≡ false → IsNoPledge (pledged s peer n)
no_pledge s peer n new = subst (λ o. IsNoPledge (pledge_seen o)) (sym (none_found (is_promise (peer_number peer n)) s.promises new)) tt

-- no handover of this number
pub no_hand_seen : (s : Plain) (b : HostId) (n : ℕ) → find_hand b n s ≡ None → IsNoOffer (offered s b n)
no_hand_seen s b n e = subst (λ o. IsNoOffer (offer_seen o s)) (sym e) tt

-- below the low there is none
pub none_below_low : (s : Plain) (b : HostId) (n : ℕ) → n < low_for b s → IsNoOffer (offered s b n)
none_below_low s b n below = of (find_hand b n s) refl
  where
    of : (o : Option Hand) → find_hand b n s ≡ o → IsNoOffer (offered s b n)
    of None e = no_hand_seen s b n e
    of (Some y) e = let few = low_below s b n y e in absurd (omega (arith, below, few))

-- and each number was given
pub given_below_low : (s : Plain) (b : HostId) (n : ℕ) → n < low_for b s → gave s b n ≡ true
given_below_low s b n below = let few = low_next b (next_for b s) s.hands in of (find_peer b s) (omega (arith, below, few))
  where
    of : (o : Option Peer) → n < next_of o → was_given n o ≡ true
    of None less = absurd (omega (arith, less))
    of (Some p) less = lt-ltb n p.next less
