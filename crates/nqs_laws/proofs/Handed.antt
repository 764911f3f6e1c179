-- Where requests lie after a handover is committed, and after it is accepted.
use Rattle.std.proofs.Common.{◌≡◌, ℕ, ◌≤◌, inl, inr, Bool, true, false, ◌&&◌, ◌==◌, List, [], ◌∷◌, slice_get, Option, None, Some, true≢false, refl, sym}
use Rattle.std.proofs.Common.{ap, subst, ◌∙◌, if◌then◌else◌}
use Rattle.std.proofs.lemmas.Bool.{and_parts, and_from}
use Rattle.std.proofs.lemmas.Option.{same_Some}
use Rattle.std.specs.Option.{option_or}
use Rattle.nqs_types.specs.Ids.{id_eq, id_exact}
use Rattle.nqs_state.specs.State.{Plain}
use Rattle.nqs_state.specs.Keys.{is_hand}
use Rattle.nqs_types.specs.declared.ids.HostId.{HostId}
use Rattle.nqs_types.specs.declared.ids.PeerNumber.{PeerNumber}
use Rattle.nqs_types.specs.declared.request.Phase.TheVariants.{Offered}
use Rattle.nqs_types.specs.declared.change.Change.TheVariants.{HandCommitted, Accepted}
use Rattle.nqs_types.specs.declared.message.Message.{Message}
use Rattle.nqs_state.proofs.LeastLemmas.{found_id}
use Rattle.nqs_rules.specs.Tests.{is_offered, is_routing, same_host}
use Rattle.nqs_rules.specs.Find.{peer_number, find_row, find_promise}
use Rattle.nqs_rules.specs.Applied.{applied, requeued_row}
use Rattle.nqs_rules.specs.Fits.{fits}
use Rattle.nqs_rules.specs.InOrder.{IsInOrder, IsConsistent}
use Rattle.nqs_rules.proofs.RowFacts.{same_id}
use Rattle.nqs_rules.specs.Picked.{PlainRow}
use Rattle.nqs_laws.specs.Loads.{Load, offered_load, kept_load}
use Rattle.nqs_laws.proofs.Frame.{put_state}
use Rattle.nqs_laws.proofs.Sound.{get-here}
use Rattle.nqs_laws.proofs.After.{Request, without_at, committed_after, accepted_after, row_after}
use Rattle.nqs_laws.proofs.Makes.{HasHand}
use Rattle.nqs_laws.specs.Handovers.{is_closed_for}
use Rattle.nqs_laws.proofs.Pair.{Offer, NoOffer, Open, Given, NoPledge, Pledged, OfferOk, PledgeOk, pair, Ok, Stays, Commits, Accepts, moved, May, MayCommit}
use Rattle.nqs_laws.proofs.Pair.{MayAccept}
use Rattle.nqs_laws.proofs.Pair.{given}
use Rattle.nqs_laws.proofs.Views.{Pledging, phase_seen, offer_seen, offered, gave, pledge_seen, pledged, pair_of, has_number_key, host_exact, routing_of}
use Rattle.nqs_laws.proofs.Turns.{to_move, from_move, key_here, same_key}
use Rattle.nqs_laws.proofs.Targets.{promise_at}
use Rattle.nqs_laws.proofs.Paired.{At, IsPaired, Turn, turn_of, GuardsOf, IsOne, Was, was}
use Rattle.nqs_laws.proofs.Tabled.{Place, Nowhere, Sits, Arrives, row_in, claim_in, claim, Table, IsTabled, IsPlaced, IsHeldMove, held_or, claim_stays}
use Rattle.nqs_laws.proofs.Tabled.{sits_here, arrives_here, row_of_sits, row_elsewhere, claim_of_arrives, given_before, still_placed, row_before}
use Rattle.nqs_laws.proofs.Advance.{seq_grows}

-- the table with another place of one request
abbrev pub put_place : Request → Place → Table → Table
put_place y t table x = if id_eq x y then t else table x

pub put_here : (y x : Request) (t : Place) (table : Table) → id_eq x y ≡ true → put_place y t table x ≡ t
put_here y x t table e = ap (λ b. if b then t else table x) e

pub put_other : (y x : Request) (t : Place) (table : Table) → id_eq x y ≡ false → put_place y t table x ≡ table x
put_other y x t table e = ap (λ b. if b then t else table x) e

claim_else : (a b : HostId) (n : ℕ) (c d : HostId) (m : ℕ) (r : PlainRow) → (same_host a c && has_number_key b n (peer_number d m)) ≡ false
    → claim_in a b n (Arrives c d m r) ≡ None
claim_else a b n c d m r e = ap (λ z. if z then Some r else None) e

-- of a pair that isn't this one, one host is another
other_pair : (a b c d : Bool) → (a && b) ≡ false → a ≡ true → b ≡ false
other_pair a b c d e f = by a f e
  where
    by : (a : Bool) → a ≡ true → (a && b) ≡ false → b ≡ false
    by true f e = e
    by false f e = absurd (true≢false (sym f))

module _ (states : List Plain) (packets : List Message) (paired : IsPaired states packets) (h : HostId) (s : Plain) (there : At states h s) (o : IsInOrder s)
    (calm : IsConsistent s) (table : Table) (told : IsTabled states table) (peer : HostId) (number : ℕ) where
  module _ (fit : fits {F = List ℕ} (HandCommitted peer number) s ≡ true) (guards : GuardsOf states h s (HandCommitted peer number))
      (hand : HasHand Offered peer number s) (t : Plain) (at : At states peer t) where
    abbrev s' : Plain
    s' = applied (HandCommitted peer number) s

    single : IsOne (HandCommitted peer number)
    single = λ until ks e. (let no : ⊥ = cc in no)

    turn : Turn s (applied (HandCommitted peer number) s) (to_move (HandCommitted peer number) s) (from_move (HandCommitted peer number))
    turn = turn_of (HandCommitted peer number) s o calm fit tt single (paired.wide h s there) (inl (λ a i. refl))

    -- the row that was on its way
    pub row : (r : PlainRow) × (find_row hand.hand.id s ≡ Some r) × (is_routing r.state ≡ true)
    row = routing_of s o (is_hand (peer_number peer number)) hand.hand hand.found (ap is_offered hand.is)

    offer_is : offered s peer number ≡ Open (offered_load hand.hand.queue row.0)
    offer_is = ap (λ x. offer_seen x s) hand.found
        ∙ (ap (λ p. phase_seen p hand.hand (find_row hand.hand.id s)) hand.is ∙ ap (phase_seen Offered hand.hand) row.1)

    -- the promise of the peer
    pub promise : (p : Pledging) × (find_promise h number t ≡ Some p) × (kept_load p.row ≡ offered_load hand.hand.queue row.0)
    promise = of (find_promise h number t) refl (paired.pairs h peer s t there at number)
        (subst (λ m. May (pair_of h s peer t number) m) (ap (λ b. if b then Commits else Stays) (same_key peer number)) (guards.to_peers peer t at number))
      where
        of : (x : Option Pledging) → find_promise h number t ≡ x → Ok (pair_of h s peer t number) → May (pair_of h s peer t number) Commits
            → (p : Pledging) × (find_promise h number t ≡ Some p) × (kept_load p.row ≡ offered_load hand.hand.queue row.0)
        of x e ok may =
            by x e
            (subst (λ y. OfferOk y (gave s peer number) (pledge_seen x) (is_closed_for h number t)) offer_is
            (subst (λ q. OfferOk (offered s peer number) (gave s peer number) (pledge_seen q) (is_closed_for h number t)) e ok.offer))
            (subst (λ y. MayCommit y (pledge_seen x) (is_closed_for h number t)) offer_is
            (subst (λ q. MayCommit (offered s peer number) (pledge_seen q) (is_closed_for h number t)) e may))
          where
            by : (x : Option Pledging) → find_promise h number t ≡ x
                → OfferOk (Open (offered_load hand.hand.queue row.0)) (gave s peer number) (pledge_seen x) (is_closed_for h number t)
                → MayCommit (Open (offered_load hand.hand.queue row.0)) (pledge_seen x) (is_closed_for h number t)
                → (p : Pledging) × (find_promise h number t ≡ Some p) × (kept_load p.row ≡ offered_load hand.hand.queue row.0)
            by None e ok taken = absurd (true≢false (sym taken ∙ ok.1))
            by (Some p) e ok taken = (p, e, ok.2)

    pub moved_row : PlainRow
    moved_row = promise.0.row

    -- the request goes on under its number
    abbrev pub committed_request : Request
    committed_request = hand.hand.id

    row_id : hand.hand.id ≡ row.0.id
    row_id = found_id hand.hand.id s.rows row.0 row.1

    pub promised_id : promise.0.row.id ≡ hand.hand.id
    promised_id = ap (λ (l : Load). l.carried.id) promise.2 ∙ sym row_id

    pub was_here : table hand.hand.id ≡ Sits h row.0
    was_here = sits_here h (table hand.hand.id) row.0 (sym (told.rows h s there hand.hand.id) ∙ row.1)

    abbrev pub committed_table : Table
    committed_table = put_place hand.hand.id (Arrives h peer number promise.0.row) table

    row_now : (x : Request) → find_row x (applied (HandCommitted peer number) s) ≡ without_at hand.hand.id x (find_row x s)
    row_now x = row_after x (HandCommitted peer number) s o fit ∙ ap (λ y. committed_after y x (find_row x s)) hand.found

    offer_now : offered (applied (HandCommitted peer number) s) peer number ≡ Given row.0.id hand.hand.queue
    offer_now = (turn.sources peer number).offer ∙ (ap (λ b. (moved (pair (offered s peer number) (gave s peer number) NoPledge false)
        (if b then Commits else Stays)).offer) (same_key peer number) ∙ ap given offer_is)

    pub committed_tabled : IsTabled (put_state h (applied (HandCommitted peer number) s) states) committed_table
    committed_tabled = record {
      rows = λ g u' gt x. rows g u' gt x (same_host g h) refl (id_eq x hand.hand.id) refl;
      claims = λ a b u' v' ut vt n x. claims a b u' v' ut vt n x;
      given = λ x u' ut below. (let w = was states packets h s (applied (HandCommitted peer number) s) there (to_move (HandCommitted peer number) s)
          (from_move (HandCommitted peer number)) turn x.host u' ut in
          given_at x (given_before states packets paired h s (applied (HandCommitted peer number) s) there (to_move (HandCommitted peer number) s)
          (from_move (HandCommitted peer number)) turn guards table told seq_same x u' w ut below) (id_eq x hand.hand.id) refl);
      placed = λ x. placed x (id_eq x hand.hand.id) refl;
    }
      where
        seq_same : s.seq ≤ (applied (HandCommitted peer number) s).seq
        seq_same = seq_grows (HandCommitted peer number) s fit

        here_row : (x : Request) (c : Bool) → id_eq x hand.hand.id ≡ c → (if c then None else find_row x s)
            ≡ row_in h (if c then Arrives h peer number promise.0.row else table x)
        here_row x true e = refl
        here_row x false e = told.rows h s there x

        else_row : (g : HostId) → same_host g h ≡ false → (x : Request) (c : Bool) → id_eq x hand.hand.id ≡ c
            → row_in g (table x) ≡ row_in g (if c then Arrives h peer number promise.0.row else table x)
        else_row g far x true e = ap (row_in g) (ap table (id_exact x hand.hand.id e) ∙ was_here) ∙ row_elsewhere g h row.0 far
        else_row g far x false e = refl

        rows : (g : HostId) (u' : Plain) → At (put_state h (applied (HandCommitted peer number) s) states) g u' → (x : Request) (c : Bool) → same_host g h ≡ c
            → (d : Bool) → id_eq x hand.hand.id ≡ d → find_row x u' ≡ row_in g (put_place hand.hand.id (Arrives h peer number promise.0.row) table x)
        rows g u' gt x true e d f =
            let is : applied (HandCommitted peer number) s ≡ u' = same_Some _ u'
            (sym (get-here h.0 (applied (HandCommitted peer number) s) s states there)
            ∙ (ap (λ (i : HostId). slice_get (put_state h (applied (HandCommitted peer number) s) states) i.0) (sym (host_exact g h e)) ∙ gt)) in
            subst (λ v. find_row x v ≡ row_in g (put_place hand.hand.id (Arrives h peer number promise.0.row) table x)) is
            (subst (λ i. find_row x (applied (HandCommitted peer number) s) ≡ row_in i (put_place hand.hand.id (Arrives h peer number promise.0.row) table x))
            (sym (host_exact g h e)) (row_now x ∙ here_row x (id_eq x hand.hand.id) refl))
        rows g u' gt x false e d f =
            row_before states packets paired h s (applied (HandCommitted peer number) s) there (to_move (HandCommitted peer number) s)
            (from_move (HandCommitted peer number)) turn guards table told seq_same g u' gt e x ∙ else_row g e x (id_eq x hand.hand.id) refl

        -- the pair of the handover
        this_claim : (x : Request) (c : Bool) → id_eq x hand.hand.id ≡ c → claim (Given row.0.id hand.hand.queue) (Some promise.0) x
            ≡ claim_in h peer number (if c then Arrives h peer number promise.0.row else table x)
        this_claim x c e = ap (λ i. if id_eq x i then Some promise.0.row else None) promised_id ∙ by c e
          where
            by : (c : Bool) → id_eq x hand.hand.id ≡ c → (if id_eq x hand.hand.id then Some promise.0.row else None)
                ≡ claim_in h peer number (if c then Arrives h peer number promise.0.row else table x)
            by true e = ap (λ z. if z then Some promise.0.row else None) e ∙ sym (claim_of_arrives h peer number promise.0.row)
            by false e = ap (λ z. if z then Some promise.0.row else None) e
                ∙ (ap (λ y. claim y (find_promise h number t) x) (sym offer_is) ∙ told.claims h peer s t there at number x)

        else_claim : (a b : HostId) (n : ℕ) → (same_host a h && has_number_key b n (peer_number peer number)) ≡ false → (x : Request) (c : Bool)
            → id_eq x hand.hand.id ≡ c
            → claim_in a b n (table x) ≡ claim_in a b n (if c then Arrives h peer number promise.0.row else table x)
        else_claim a b n far x true e = ap (claim_in a b n) (ap table (id_exact x hand.hand.id e) ∙ was_here)
            ∙ sym (claim_else a b n h peer number promise.0.row far)
        else_claim a b n far x false e = refl

        held : (a b : HostId) (n : ℕ) (c : Bool) → same_host a h ≡ c → (same_host a h && has_number_key b n (peer_number peer number)) ≡ false
            → IsHeldMove (if c then (if has_number_key b n (peer_number peer number) then Commits else Stays) else Stays)
        held a b n true e far = subst (λ z. IsHeldMove (if z then Commits else Stays))
            (sym (other_pair (same_host a h) (has_number_key b n (peer_number peer number)) true true far e)) tt
        held a b n false e far = tt

        claims : (a b : HostId) (u' v' : Plain) → At (put_state h (applied (HandCommitted peer number) s) states) a u'
            → At (put_state h (applied (HandCommitted peer number) s) states) b v' → (n : ℕ) (x : Request)
            → claim (offered u' b n) (find_promise a n v') x ≡ claim_in a b n (put_place hand.hand.id (Arrives h peer number promise.0.row) table x)
        claims a b u' v' ut vt n x = by (same_host a h && has_number_key b n (peer_number peer number)) refl
          where
            w : Was states packets h s (applied (HandCommitted peer number) s) there (to_move (HandCommitted peer number) s)
                (from_move (HandCommitted peer number)) turn a u'
            w = was states packets h s (applied (HandCommitted peer number) s) there (to_move (HandCommitted peer number) s)
                (from_move (HandCommitted peer number)) turn a u' ut

            y : Was states packets h s (applied (HandCommitted peer number) s) there (to_move (HandCommitted peer number) s)
                (from_move (HandCommitted peer number)) turn b v'
            y = was states packets h s (applied (HandCommitted peer number) s) there (to_move (HandCommitted peer number) s)
                (from_move (HandCommitted peer number)) turn b v' vt

            by : (c : Bool) → (same_host a h && has_number_key b n (peer_number peer number)) ≡ c → claim (offered u' b n) (find_promise a n v') x
                ≡ claim_in a b n (put_place hand.hand.id (Arrives h peer number promise.0.row) table x)
            by true e =
                let k = and_parts (same_host a h) (has_number_key b n (peer_number peer number)) e in
                let source : a ≡ h = host_exact a h k.0 in
                let key : peer_number b n ≡ peer_number peer number = key_here b n (peer_number peer number) k.1 in
                let is : applied (HandCommitted peer number) s ≡ u' = same_Some _ u'
                (sym (get-here h.0 (applied (HandCommitted peer number) s) s states there)
                ∙ (ap (λ (i : HostId). slice_get (put_state h (applied (HandCommitted peer number) s) states) i.0) (sym source) ∙ ut)) in
                let now : offered u' b n ≡ Given row.0.id hand.hand.queue = (λ j. offered (sym is j) (key j).peer (key j).number) ∙ offer_now in
                let still : find_promise a n v' ≡ find_promise a n y.state = (y.target a n).stays (flat (same_host b h)) in
                let was_t : y.state ≡ t = same_Some y.state t (sym y.at ∙ (ap (λ (i : PeerNumber). slice_get states i.peer.0) key ∙ at)) in
                let promised : find_promise a n v' ≡ Some promise.0 = still ∙ ((λ j. find_promise (source j) (key j).number (was_t j)) ∙ promise.1) in
                (λ j. claim (now j) (promised j) x) ∙ (this_claim x (id_eq x hand.hand.id) refl
                ∙ (λ j. claim_in (sym source j) (sym key j).peer (sym key j).number (put_place hand.hand.id (Arrives h peer number promise.0.row) table x)))
              where
                flat : (c : Bool) → (if c then Stays else Stays) ≡ Stays
                flat true = refl
                flat false = refl
            by false e =
                claim_stays states packets paired h s (applied (HandCommitted peer number) s) there (to_move (HandCommitted peer number) s)
                (from_move (HandCommitted peer number)) turn guards a b u' v' n w y
                (held a b n (same_host a h) refl e) (held_or (same_host b h) Stays tt) x
                ∙ (told.claims a b w.state y.state w.at y.at n x ∙ else_claim a b n e x (id_eq x hand.hand.id) refl)

        given_at : (x : Request) → table x ≡ Nowhere → (c : Bool) → id_eq x hand.hand.id ≡ c
            → (if c then Arrives h peer number promise.0.row else table x) ≡ Nowhere
        given_at x none true e = absurd (let sits : Nowhere ≡ Sits h row.0 = sym none ∙ (ap table (id_exact x hand.hand.id e) ∙ was_here) in let no : ⊥ = cc in
            no)
        given_at x none false e = none

        placed : (x : Request) (c : Bool) → id_eq x hand.hand.id ≡ c → IsPlaced (put_state h (applied (HandCommitted peer number) s) states)
            (if c then Arrives h peer number promise.0.row else table x)
        placed x true e = still_placed states packets paired h s (applied (HandCommitted peer number) s) there (to_move (HandCommitted peer number) s)
            (from_move (HandCommitted peer number)) turn guards table told seq_same (Arrives h peer number promise.0.row) (s, t, there, at)
        placed x false e = still_placed states packets paired h s (applied (HandCommitted peer number) s) there (to_move (HandCommitted peer number) s)
            (from_move (HandCommitted peer number)) turn guards table told seq_same (table x) (told.placed x)

  module _ (fit : fits {F = List ℕ} (Accepted peer number) s ≡ true) (guards : GuardsOf states h s (Accepted peer number)) (u : Plain)
      (at : At states peer u) where
    accepting : Turn s (applied (Accepted peer number) s) (to_move (Accepted peer number) s) (from_move (Accepted peer number))
    accepting = turn_of (Accepted peer number) s o calm fit tt (λ until ks e. (let no : ⊥ = cc in no)) (paired.wide h s there) (inr (λ b i. refl))

    pub pledge : (p : Pledging) × (find_promise peer number s ≡ Some p)
    pledge = promise_at s peer number fit

    -- the sender has committed it
    given_there : (id : Request) × (queue : List ℕ) × (offered u h number ≡ Given id queue)
    given_there = by (offered u h number) refl (paired.pairs peer h u s at there number)
        (subst (λ m. May (pair_of peer u h s number) m) (ap (λ b. if b then Accepts else Stays) (same_key peer number)) (guards.from_peers peer u at number))
      where
        by : (y : Offer) → offered u h number ≡ y → Ok (pair_of peer u h s number) → May (pair_of peer u h s number) Accepts
            → (id : Request) × (queue : List ℕ) × (offered u h number ≡ Given id queue)
        by y e ok may = of y e (subst (λ q. PledgeOk q (gave u h number) (is_closed_for peer number s)) pledged_is ok.pledge)
            (subst (λ q. MayAccept q y (is_closed_for peer number s)) pledged_is
            (subst (λ z. MayAccept (pledged s peer number) z (is_closed_for peer number s)) e
            may))
          where
            pledged_is : pledged s peer number ≡ Pledged (kept_load pledge.0.row)
            pledged_is = ap pledge_seen pledge.1

            of : (y : Offer) → offered u h number ≡ y → PledgeOk (Pledged (kept_load pledge.0.row)) (gave u h number) (is_closed_for peer number s)
                → MayAccept (Pledged (kept_load pledge.0.row)) y (is_closed_for peer number s)
                → (id : Request) × (queue : List ℕ) × (offered u h number ≡ Given id queue)
            of NoOffer e ok may = absurd (true≢false (sym may ∙ ok.1))
            of (Open load) e ok may = absurd (true≢false (sym may ∙ ok.1))
            of (Given id queue) e ok may = (id, queue, e)

    pub was_arriving : table pledge.0.row.id ≡ Arrives peer h number pledge.0.row
    was_arriving = arrives_here peer h number (table pledge.0.row.id) pledge.0.row (sym (told.claims peer h u s at there number pledge.0.row.id) ∙ claimed)
      where
        claimed : claim (offered u h number) (find_promise peer number s) pledge.0.row.id ≡ Some pledge.0.row
        claimed = (λ j. claim (given_there.2 j) (pledge.1 j) pledge.0.row.id) ∙ ap (λ z. if z then Some pledge.0.row else None) (same_id pledge.0.row.id)

    -- it is none of the rows
    pub not_a_row : find_row pledge.0.row.id s ≡ None
    not_a_row = told.rows h s there pledge.0.row.id ∙ ap (row_in h) was_arriving

    abbrev pub accepted_table : Table
    accepted_table = put_place pledge.0.row.id (Sits h (requeued_row pledge.0.row)) table

    row_then : (x : Request) → find_row x (applied (Accepted peer number) s)
        ≡ option_or (find_row x s) (if id_eq x pledge.0.row.id then Some (requeued_row pledge.0.row) else None)
    row_then x = row_after x (Accepted peer number) s o fit ∙ ap (λ y. accepted_after y x (find_row x s)) pledge.1

    pub accepted_tabled : IsTabled (put_state h (applied (Accepted peer number) s) states) accepted_table
    accepted_tabled = record {
      rows = λ g u' gt x. rows g u' gt x (same_host g h) refl;
      claims = λ a b u' v' ut vt n x. claims a b u' v' ut vt n x;
      given = λ x u' ut below. (let w = was states packets h s (applied (Accepted peer number) s) there (to_move (Accepted peer number) s)
          (from_move (Accepted peer number)) accepting x.host u' ut in
          given_at x (given_before states packets paired h s (applied (Accepted peer number) s) there (to_move (Accepted peer number) s)
          (from_move (Accepted peer number)) accepting guards table told seq_same x u' w ut below) (id_eq x pledge.0.row.id) refl);
      placed = λ x. placed x (id_eq x pledge.0.row.id) refl;
    }
      where
        seq_same : s.seq ≤ (applied (Accepted peer number) s).seq
        seq_same = seq_grows (Accepted peer number) s fit

        here_row : (x : Request) (c : Bool) → id_eq x pledge.0.row.id ≡ c
            → option_or (find_row x s) (if c then Some (requeued_row pledge.0.row) else None)
            ≡ row_in h (if c then Sits h (requeued_row pledge.0.row) else table x)
        here_row x true e = ap (λ y. option_or y (Some (requeued_row pledge.0.row))) (ap (λ i. find_row i s) (id_exact x pledge.0.row.id e) ∙ not_a_row)
            ∙ sym (row_of_sits h (requeued_row pledge.0.row))
        here_row x false e = alone (find_row x s) ∙ told.rows h s there x
          where
            alone : (y : Option PlainRow) → option_or y None ≡ y
            alone None = refl
            alone (Some r) = refl

        else_row : (g : HostId) → same_host g h ≡ false → (x : Request) (c : Bool) → id_eq x pledge.0.row.id ≡ c
            → row_in g (table x) ≡ row_in g (if c then Sits h (requeued_row pledge.0.row) else table x)
        else_row g far x true e = ap (row_in g) (ap table (id_exact x pledge.0.row.id e) ∙ was_arriving)
            ∙ sym (row_elsewhere g h (requeued_row pledge.0.row) far)
        else_row g far x false e = refl

        rows : (g : HostId) (u' : Plain) → At (put_state h (applied (Accepted peer number) s) states) g u' → (x : Request) (c : Bool) → same_host g h ≡ c
            → find_row x u' ≡ row_in g (put_place pledge.0.row.id (Sits h (requeued_row pledge.0.row)) table x)
        rows g u' gt x true e =
            let is : applied (Accepted peer number) s ≡ u' = same_Some _ u'
            (sym (get-here h.0 (applied (Accepted peer number) s) s states there)
            ∙ (ap (λ (i : HostId). slice_get (put_state h (applied (Accepted peer number) s) states) i.0) (sym (host_exact g h e)) ∙ gt)) in
            subst (λ v. find_row x v ≡ row_in g (put_place pledge.0.row.id (Sits h (requeued_row pledge.0.row)) table x)) is
            (subst (λ i. find_row x (applied (Accepted peer number) s) ≡ row_in i (put_place pledge.0.row.id (Sits h (requeued_row pledge.0.row)) table x))
            (sym (host_exact g h e)) (row_then x ∙ here_row x (id_eq x pledge.0.row.id) refl))
        rows g u' gt x false e =
            row_before states packets paired h s (applied (Accepted peer number) s) there (to_move (Accepted peer number) s)
            (from_move (Accepted peer number)) accepting guards table told seq_same g u' gt e x ∙ else_row g e x (id_eq x pledge.0.row.id) refl

        -- the pair of the handover had this claim, and no other
        old_claim : (x : Request) → id_eq x pledge.0.row.id ≡ false → claim_in peer h number (table x) ≡ None
        old_claim x e =
            sym (told.claims peer h u s at there number x)
            ∙ ((λ j. claim (given_there.2 j) (pledge.1 j) x) ∙ ap (λ z. if z then Some pledge.0.row else None) e)

        this_claim : (x : Request) (c : Bool) → id_eq x pledge.0.row.id ≡ c
            → None ≡ claim_in peer h number (if c then Sits h (requeued_row pledge.0.row) else table x)
        this_claim x true e = refl
        this_claim x false e = sym (old_claim x e)

        else_claim : (a b : HostId) (n : ℕ) → (same_host a peer && has_number_key b n (peer_number h number)) ≡ false → (x : Request) (c : Bool)
            → id_eq x pledge.0.row.id ≡ c
            → claim_in a b n (table x) ≡ claim_in a b n (if c then Sits h (requeued_row pledge.0.row) else table x)
        else_claim a b n far x true e = ap (claim_in a b n) (ap table (id_exact x pledge.0.row.id e) ∙ was_arriving)
            ∙ claim_else a b n peer h number pledge.0.row far
        else_claim a b n far x false e = refl

        -- another host or another number
        other_key : (a b n : Bool) → (a && (b && n)) ≡ false → b ≡ true → (a && n) ≡ false
        other_key a true n e f = e
        other_key a false n e f = absurd (true≢false (sym f))

        held : (a b : HostId) (n : ℕ) (c : Bool) → same_host b h ≡ c → (same_host a peer && has_number_key b n (peer_number h number)) ≡ false
            → IsHeldMove (if c then (if has_number_key a n (peer_number peer number) then Accepts else Stays) else Stays)
        held a b n true e far = subst (λ z. IsHeldMove (if z then Accepts else Stays)) (sym (other_key (a.0 == peer.0) (b.0 == h.0) (n == number) far e)) tt
        held a b n false e far = tt

        claims : (a b : HostId) (u' v' : Plain) → At (put_state h (applied (Accepted peer number) s) states) a u'
            → At (put_state h (applied (Accepted peer number) s) states) b v' → (n : ℕ) (x : Request)
            → claim (offered u' b n) (find_promise a n v') x ≡ claim_in a b n (put_place pledge.0.row.id (Sits h (requeued_row pledge.0.row)) table x)
        claims a b u' v' ut vt n x = by (same_host a peer && has_number_key b n (peer_number h number)) refl
          where
            w : Was states packets h s (applied (Accepted peer number) s) there (to_move (Accepted peer number) s)
                (from_move (Accepted peer number)) accepting a u'
            w = was states packets h s (applied (Accepted peer number) s) there (to_move (Accepted peer number) s)
                (from_move (Accepted peer number)) accepting a u' ut

            y : Was states packets h s (applied (Accepted peer number) s) there (to_move (Accepted peer number) s)
                (from_move (Accepted peer number)) accepting b v'
            y = was states packets h s (applied (Accepted peer number) s) there (to_move (Accepted peer number) s)
                (from_move (Accepted peer number)) accepting b v' vt

            empty : (q : Option Pledging) → pledge_seen q ≡ NoPledge → (z : Offer) → claim z q x ≡ None
            empty None e NoOffer = refl
            empty None e (Open load) = refl
            empty None e (Given id queue) = refl
            empty (Some p) e z = absurd (let no : ⊥ = cc in no)

            by : (c : Bool) → (same_host a peer && has_number_key b n (peer_number h number)) ≡ c → claim (offered u' b n) (find_promise a n v') x
                ≡ claim_in a b n (put_place pledge.0.row.id (Sits h (requeued_row pledge.0.row)) table x)
            by true e =
                let k = and_parts (same_host a peer) (has_number_key b n (peer_number h number)) e in
                let sender : a ≡ peer = host_exact a peer k.0 in
                let key : peer_number b n ≡ peer_number h number = key_here b n (peer_number h number) k.1 in
                let parts = and_parts (b.0 == h.0) (n == number) k.1 in
                let mine : has_number_key a n (peer_number peer number) ≡ true = and_from (a.0 == peer.0) (n == number) k.0 parts.1 in
                let none : pledged v' a n ≡ NoPledge = (y.target a n).pledge ∙
                (λ j. (moved (pair NoOffer false (pledged y.state a n) (is_closed_for a n y.state))
                (if parts.0 j then (if mine j then Accepts else Stays) else Stays)).pledge) in
                empty (find_promise a n v') none (offered u' b n) ∙ (this_claim x (id_eq x pledge.0.row.id) refl
                ∙ (λ j. claim_in (sym sender j) (sym key j).peer (sym key j).number
                (put_place pledge.0.row.id (Sits h (requeued_row pledge.0.row)) table x)))
            by false e =
                claim_stays states packets paired h s (applied (Accepted peer number) s) there (to_move (Accepted peer number) s)
                (from_move (Accepted peer number)) accepting guards a b u' v' n w y
                (held_or (same_host a h) Stays tt) (held a b n (same_host b h) refl e) x
                ∙ (told.claims a b w.state y.state w.at y.at n x ∙ else_claim a b n e x (id_eq x pledge.0.row.id) refl)

        given_at : (x : Request) → table x ≡ Nowhere → (c : Bool) → id_eq x pledge.0.row.id ≡ c
            → (if c then Sits h (requeued_row pledge.0.row) else table x) ≡ Nowhere
        given_at x none true e = absurd (let arrives : Nowhere ≡ Arrives peer h number pledge.0.row = sym none
            ∙ (ap table (id_exact x pledge.0.row.id e) ∙ was_arriving) in let no : ⊥ = cc in no)
        given_at x none false e = none

        placed : (x : Request) (c : Bool) → id_eq x pledge.0.row.id ≡ c → IsPlaced (put_state h (applied (Accepted peer number) s) states)
            (if c then Sits h (requeued_row pledge.0.row) else table x)
        placed x true e = (applied (Accepted peer number) s, get-here h.0 (applied (Accepted peer number) s) s states there)
        placed x false e = still_placed states packets paired h s (applied (Accepted peer number) s) there (to_move (Accepted peer number) s)
            (from_move (Accepted peer number)) accepting guards table told seq_same (table x) (told.placed x)
