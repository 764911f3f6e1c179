-- Where each request lies: a table that the hosts tell, and what a change makes of it.
use Rattle.std.proofs.Common.{◌≡◌, ℕ, ◌<◌, ◌≤◌, inl, inr, Bool, true, false, ◌&&◌, ◌==◌, List, slice_get, Option, None, Some, true≢false, refl, sym, ap, subst}
use Rattle.std.proofs.Common.{◌∙◌, arith, if◌then◌else◌}
use Rattle.std.proofs.lemmas.Option.{same_Some, none-some}
use Rattle.nqs_types.specs.Ids.{id_eq}
use Rattle.nqs_state.specs.State.{Plain}
use Rattle.nqs_types.specs.declared.ids.HostId.{HostId}
use Rattle.nqs_types.specs.declared.message.Message.{Message}
use Rattle.nqs_rules.specs.Tests.{same_host}
use Rattle.nqs_rules.specs.Find.{peer_number, find_row, find_promise}
use Rattle.nqs_rules.proofs.PeersOrder.{get-other}
use Rattle.nqs_rules.specs.Picked.{PlainRow}
use Rattle.nqs_laws.specs.Handovers.{is_closed_for}
use Rattle.nqs_laws.proofs.Frame.{put_state}
use Rattle.nqs_laws.proofs.Sound.{get-here}
use Rattle.nqs_laws.proofs.After.{Request}
use Rattle.nqs_laws.proofs.Pair.{Offer, NoOffer, Open, Given, NoPledge, pair, Ok, Move, Stays, Offers, Withdraws, Commits, Finishes, Pledges, Accepts}
use Rattle.nqs_laws.proofs.Pair.{Drops, moved, May, no_both}
use Rattle.nqs_laws.proofs.Views.{Pledging, offered, gave, pledge_seen, has_number_key, IsSource, IsTarget, Source, host_exact, host_same, host_other}
use Rattle.nqs_laws.proofs.Turns.{key_here, same_key}
use Rattle.nqs_laws.proofs.Paired.{At, IsPaired, Turn, Guards, Was, was, PairTurn, pair_turn}

-- where a request is: as a row of a host, or as a promise of a host to another that has committed
-- it, under a number
pub data Place : Type 0 where
  Nowhere : Place
  Sits : HostId → PlainRow → Place
  Arrives : HostId → HostId → ℕ → PlainRow → Place

abbrev pub row_in : HostId → Place → Option PlainRow
row_in h Nowhere = None
row_in h (Sits g r) = if same_host h g then Some r else None
row_in h (Arrives a b n r) = None

abbrev pub claim_in : HostId → HostId → ℕ → Place → Option PlainRow
claim_in a b n Nowhere = None
claim_in a b n (Sits g r) = None
claim_in a b n (Arrives c d m r) = if same_host a c && has_number_key b n (peer_number d m) then Some r else None

-- the promised row of a request that its sender has committed
abbrev pub claim : Offer → Option Pledging → Request → Option PlainRow
claim NoOffer p x = None
claim (Open load) p x = None
claim (Given id queue) None x = None
claim (Given id queue) (Some p) x = if id_eq x p.row.id then Some p.row else None

abbrev pub IsPlaced : List Plain → Place → Type 0
IsPlaced states Nowhere = Unit {0}
IsPlaced states (Sits g r) = (s : Plain) × At states g s
IsPlaced states (Arrives a b n r) = (s : Plain) × (t : Plain) × At states a s × At states b t

abbrev pub Table : Type 0
Table = Request → Place

-- the hosts tell this table
pub record IsTabled (states : List Plain) (table : Table) : Type 0 where
  pub rows : (h : HostId) (s : Plain) → At states h s → (x : Request) → find_row x s ≡ row_in h (table x)
  pub claims : (a b : HostId) (s t : Plain) → At states a s → At states b t → (n : ℕ) (x : Request)
      → claim (offered s b n) (find_promise a n t) x ≡ claim_in a b n (table x)
  pub given : (x : Request) (s : Plain) → At states x.host s → s.seq < x.seq → table x ≡ Nowhere
  pub placed : (x : Request) → IsPlaced states (table x)

-- claims by moves

abbrev pub IsHeldMove : Move → Type 0
IsHeldMove Commits = ⊥
IsHeldMove Accepts = ⊥
IsHeldMove m = Unit {0}

pub held_or : (c : Bool) (m : Move) → IsHeldMove m → IsHeldMove (if c then m else Stays)
held_or true m k = k
held_or false m k = tt

source_claim : (o o' : Offer) (q : Option Pledging) (g c : Bool) (m : Move) → IsSource m → IsHeldMove m → Ok (pair o g (pledge_seen q) c)
    → May (pair o g (pledge_seen q) c) m
    → o' ≡ (moved (pair o g NoPledge false) m).offer → (x : Request) → claim o' q x ≡ claim o q x
source_claim o o' q g c Stays is held ok may e x = ap (λ y. claim y q x) e
source_claim o o' q g c (Offers load) is held ok may e x = ap (λ y. claim y q x) e ∙ by o may
  where
    by : (o : Offer) → May (pair o g (pledge_seen q) c) (Offers load) → None ≡ claim o q x
    by NoOffer may = refl
    by (Open l) may = absurd may.0
    by (Given id queue) may = absurd may.0
source_claim o o' q g c Withdraws is held ok may e x = ap (λ y. claim y q x) e ∙ by o may
  where
    by : (o : Offer) → May (pair o g (pledge_seen q) c) Withdraws → None ≡ claim o q x
    by NoOffer may = refl
    by (Open l) may = refl
    by (Given id queue) may = absurd may
source_claim o o' q g c Finishes is held ok may e x = ap (λ y. claim y q x) e ∙ by o q ok may
  where
    by : (o : Offer) (q : Option Pledging) → Ok (pair o g (pledge_seen q) c) → May (pair o g (pledge_seen q) c) Finishes → None ≡ claim o q x
    by NoOffer q ok may = absurd may
    by (Open l) q ok may = absurd may
    by (Given id queue) None ok may = refl
    by (Given id queue) (Some p) ok may = absurd (no_both c may ok.pledge.1)
source_claim o o' q g c Commits is held ok may e x = absurd held
source_claim o o' q g c (Pledges load) is held ok may e x = absurd is
source_claim o o' q g c Accepts is held ok may e x = absurd is
source_claim o o' q g c Drops is held ok may e x = absurd is

target_claim : (o : Offer) (q q' : Option Pledging) (g c : Bool) (m : Move) → IsTarget m → IsHeldMove m → Ok (pair o g (pledge_seen q) c)
    → May (pair o g (pledge_seen q) c) m → (m ≡ Stays → q' ≡ q) → (x : Request) → claim o q' x ≡ claim o q x
target_claim o q q' g c Stays is held ok may same x = ap (λ y. claim o y x) (same refl)
target_claim o q q' g c (Pledges load) is held ok may same x = by o q ok may
  where
    by : (o : Offer) (q : Option Pledging) → Ok (pair o g (pledge_seen q) c) → May (pair o g (pledge_seen q) c) (Pledges load) → claim o q' x ≡ claim o q x
    by NoOffer q ok may = refl
    by (Open l) q ok may = refl
    by (Given id queue) None ok may = absurd (no_both c ok.offer.1 may.0)
    by (Given id queue) (Some old) ok may = absurd may.2
target_claim o q q' g c Drops is held ok may same x = by o may
  where
    by : (o : Offer) → May (pair o g (pledge_seen q) c) Drops → claim o q' x ≡ claim o q x
    by NoOffer may = refl
    by (Open l) may = refl
    by (Given id queue) may = absurd may.0
target_claim o q q' g c Accepts is held ok may same x = absurd held
target_claim o q q' g c (Offers load) is held ok may same x = absurd is
target_claim o q q' g c Withdraws is held ok may same x = absurd is
target_claim o q q' g c Commits is held ok may same x = absurd is
target_claim o q q' g c Finishes is held ok may same x = absurd is

-- places

pub sits_here : (h : HostId) (t : Place) (r : PlainRow) → row_in h t ≡ Some r → t ≡ Sits h r
sits_here h Nowhere r e = absurd (none-some r e)
sits_here h (Sits g q) r e = by (same_host h g) refl e
  where
    by : (b : Bool) → same_host h g ≡ b → (if b then Some q else None) ≡ Some r → Sits g q ≡ Sits h r
    by true f e = λ j. Sits (sym (host_exact h g f) j) (same_Some q r e j)
    by false f e = absurd (none-some r e)
sits_here h (Arrives a b n q) r e = absurd (none-some r e)

pub arrives_here : (a b : HostId) (n : ℕ) (t : Place) (r : PlainRow) → claim_in a b n t ≡ Some r → t ≡ Arrives a b n r
arrives_here a b n Nowhere r e = absurd (none-some r e)
arrives_here a b n (Sits g q) r e = absurd (none-some r e)
arrives_here a b n (Arrives c d m q) r e = by (same_host a c) refl (has_number_key b n (peer_number d m)) refl e
  where
    by : (x : Bool) → same_host a c ≡ x → (y : Bool) → has_number_key b n (peer_number d m) ≡ y → (if x && y then Some q else None) ≡ Some r
        → Arrives c d m q ≡ Arrives a b n r
    by true f true g e = let key = key_here b n (peer_number d m) g in
        λ j. Arrives (sym (host_exact a c f) j) (sym key j).peer (sym key j).number (same_Some q r e j)
    by true f false g e = absurd (none-some r e)
    by false f y g e = absurd (none-some r e)

pub row_of_sits : (h : HostId) (r : PlainRow) → row_in h (Sits h r) ≡ Some r
row_of_sits h r = ap (λ b. if b then Some r else None) (host_same h)

pub row_elsewhere : (g h : HostId) (r : PlainRow) → same_host g h ≡ false → row_in g (Sits h r) ≡ None
row_elsewhere g h r e = ap (λ b. if b then Some r else None) e

pub claim_of_arrives : (a b : HostId) (n : ℕ) (r : PlainRow) → claim_in a b n (Arrives a b n r) ≡ Some r
claim_of_arrives a b n r = (λ j. if host_same a j && same_key b n j then Some r else None)

-- the place of a request after its row at a host has changed
abbrev pub placed_at : HostId → Option PlainRow → Place
placed_at h None = Nowhere
placed_at h (Some r) = Sits h r

abbrev pub updated : HostId → Option PlainRow → Place → Place
updated h o Nowhere = placed_at h o
updated h o (Sits g r) = if same_host g h then placed_at h o else Sits g r
updated h o (Arrives a b n r) = Arrives a b n r

-- a change that moves no request from host to host
module _ (states : List Plain) (packets : List Message) (paired : IsPaired states packets) (h : HostId) (s s' : Plain) (there : At states h s)
    (to from : HostId → ℕ → Move) (turn : Turn s s' to from) (guards : Guards states h s to from) where
  -- the claim of a pair stays, but where a hand is committed or a promise accepted
  pub claim_stays : (a b : HostId) (u' v' : Plain) (n : ℕ) (x : Was states packets h s s' there to from turn a u')
      (y : Was states packets h s s' there to from turn b v') → IsHeldMove (if same_host a h then to b n else Stays)
      → IsHeldMove (if same_host b h then from a n else Stays)
      → (r : Request) → claim (offered u' b n) (find_promise a n v') r ≡ claim (offered x.state b n) (find_promise a n y.state) r
  claim_stays a b u' v' n x y held_to held_from r = by (pair_turn states packets h s s' there to from turn guards a b u' v' n x y)
    where
      by : PairTurn states packets h s s' there to from turn guards a b u' v' n x y
          → claim (offered u' b n) (find_promise a n v') r ≡ claim (offered x.state b n) (find_promise a n y.state) r
      by (inl (m, source, same, may, is)) =
          ap (λ q. claim (offered u' b n) q r) same
          ∙ source_claim (offered x.state b n) (offered u' b n) (find_promise a n y.state) (gave x.state b n) (is_closed_for a n y.state) m source.is
          (subst IsHeldMove (sym is) held_to) (paired.pairs a b x.state y.state x.at y.at n) may (next_free m source) r
        where
          next_free : (m : Move) → Source x.state u' b n m → offered u' b n ≡ (moved (pair (offered x.state b n) (gave x.state b n) NoPledge false) m).offer
          next_free m k = k.offer
      by (inr (m, same, target, may, is)) =
          ap (λ o. claim o (find_promise a n v') r) same
          ∙ target_claim (offered x.state b n) (find_promise a n y.state) (find_promise a n v') (gave x.state b n) (is_closed_for a n y.state) m target.is
          (subst IsHeldMove (sym is) held_from) (paired.pairs a b x.state y.state x.at y.at n) may target.stays r

  module _ (table : Table) (told : IsTabled states table) (seq : s.seq ≤ s'.seq) where
    -- the last number that a host has given
    pub given_before : (x : Request) (u' : Plain) (w : Was states packets h s s' there to from turn x.host u') → At (put_state h s' states) x.host u'
        → u'.seq < x.seq → table x ≡ Nowhere
    given_before x u' w at below = by (same_host x.host h) refl
      where
        by : (c : Bool) → same_host x.host h ≡ c → table x ≡ Nowhere
        by true e =
            let here : x.host ≡ h = host_exact x.host h e in
            let same : s' ≡ u' = same_Some s' u' (sym (get-here h.0 s' s states there)
            ∙ (ap (λ (i : HostId). slice_get (put_state h s' states) i.0) (sym here) ∙ at)) in
            let more : s'.seq ≡ u'.seq = ap (λ (v : Plain). v.seq) same in
            told.given x s (ap (λ (i : HostId). slice_get states i.0) here ∙ there) (omega (arith, seq, below, more))
        by false e = told.given x u' (sym (get-other h.0 x.host.0 (λ _. s') states (λ same. true≢false (sym (ap (λ n. n == h.0) (sym same) ∙ host_same h) ∙ e)))
            ∙ at) below

    at_still : (g : HostId) (u : Plain) → At states g u → (v : Plain) × At (put_state h s' states) g v
    at_still g u at = by (same_host g h) refl
      where
        by : (c : Bool) → same_host g h ≡ c → (v : Plain) × At (put_state h s' states) g v
        by true e = (s', ap (λ (i : HostId). slice_get (put_state h s' states) i.0) (host_exact g h e) ∙ get-here h.0 s' s states there)
        by false e = (u, get-other h.0 g.0 (λ _. s') states (λ same. true≢false (sym (ap (λ n. n == h.0) (sym same) ∙ host_same h) ∙ e)) ∙ at)

    pub still_placed : (t : Place) → IsPlaced states t → IsPlaced (put_state h s' states) t
    still_placed Nowhere p = tt
    still_placed (Sits g r) p = at_still g p.0 p.1
    still_placed (Arrives a b n r) p = (let x = at_still a p.0 p.2 in let y = at_still b p.1 p.3 in (x.0, y.0, x.1, y.1))

    -- rows of other hosts
    pub row_before : (g : HostId) (u' : Plain) → At (put_state h s' states) g u' → same_host g h ≡ false → (x : Request) → find_row x u' ≡ row_in g (table x)
    row_before g u' at e x = told.rows g u' (sym (get-other h.0 g.0 (λ _. s') states
        (λ same. true≢false (sym (ap (λ n. n == h.0) (sym same) ∙ host_same h) ∙ e))) ∙ at) x

    pub state_here : (g : HostId) (u' : Plain) → At (put_state h s' states) g u' → same_host g h ≡ true → s' ≡ u'
    state_here g u' at e = same_Some s' u' (sym (get-here h.0 s' s states there)
        ∙ (ap (λ (i : HostId). slice_get (put_state h s' states) i.0) (sym (host_exact g h e)) ∙ at))

    -- the table after a change of rows of one host
    module _ (held_to : (b : HostId) (n : ℕ) → IsHeldMove (to b n)) (held_from : (a : HostId) (n : ℕ) → IsHeldMove (from a n))
        (grows : (x : Request) → find_row x s ≡ None → (table x ≡ Nowhere → ⊥) → find_row x s' ≡ None)
        (fresh : (x : Request) (u' : Plain) → At (put_state h s' states) x.host u' → u'.seq < x.seq → find_row x s' ≡ None) where
      abbrev pub after_rows : Table
      after_rows x = updated h (find_row x s') (table x)

      placed_row : (o : Option PlainRow) → o ≡ row_in h (placed_at h o)
      placed_row None = refl
      placed_row (Some r) = sym (row_of_sits h r)

      placed_elsewhere : (g : HostId) → same_host g h ≡ false → (o : Option PlainRow) → None ≡ row_in g (placed_at h o)
      placed_elsewhere g far None = refl
      placed_elsewhere g far (Some r) = sym (row_elsewhere g h r far)

      placed_now : (o : Option PlainRow) → IsPlaced (put_state h s' states) (placed_at h o)
      placed_now None = tt
      placed_now (Some r) = (s', get-here h.0 s' s states there)

      here : (x : Request) (t : Place) → table x ≡ t → find_row x s' ≡ row_in h (updated h (find_row x s') t)
      here x Nowhere e = placed_row (find_row x s')
      here x (Sits g r) e = by (same_host g h) refl
        where
          by : (c : Bool) → same_host g h ≡ c → find_row x s' ≡ row_in h (if c then placed_at h (find_row x s') else Sits g r)
          by true f = placed_row (find_row x s')
          by false f =
              let far : same_host h g ≡ false = host_other h g (λ same. true≢false (sym (ap (same_host g) same ∙ host_same g) ∙ f)) in
              grows x (told.rows h s there x ∙ (ap (row_in h) e ∙ row_elsewhere h g r far)) (λ none. let no : ⊥ = cc in no) ∙ sym (row_elsewhere h g r far)
      here x (Arrives a b n r) e = grows x (told.rows h s there x ∙ ap (row_in h) e) (λ none. let no : ⊥ = cc in no)

      elsewhere : (g : HostId) → same_host g h ≡ false → (o : Option PlainRow) (t : Place) → row_in g t ≡ row_in g (updated h o t)
      elsewhere g far o Nowhere = placed_elsewhere g far o
      elsewhere g far o (Sits k r) = by (same_host k h) refl
        where
          by : (c : Bool) → same_host k h ≡ c → row_in g (Sits k r) ≡ row_in g (if c then placed_at h o else Sits k r)
          by true f = row_elsewhere g k r (ap (same_host g) (host_exact k h f) ∙ far) ∙ placed_elsewhere g far o
          by false f = refl
      elsewhere g far o (Arrives a b n r) = refl

      same_claim : (a b : HostId) (n : ℕ) (o : Option PlainRow) (t : Place) → claim_in a b n t ≡ claim_in a b n (updated h o t)
      same_claim a b n None Nowhere = refl
      same_claim a b n (Some r) Nowhere = refl
      same_claim a b n o (Sits k r) = by (same_host k h) o
        where
          by : (c : Bool) (o : Option PlainRow) → None ≡ claim_in a b n (if c then placed_at h o else Sits k r)
          by true None = refl
          by true (Some q) = refl
          by false o = refl
      same_claim a b n o (Arrives c d m r) = refl

      place_after : (x : Request) (t : Place) → IsPlaced states t → IsPlaced (put_state h s' states) (updated h (find_row x s') t)
      place_after x Nowhere p = placed_now (find_row x s')
      place_after x (Sits g r) p = by (same_host g h)
        where
          by : (c : Bool) → IsPlaced (put_state h s' states) (if c then placed_at h (find_row x s') else Sits g r)
          by true = placed_now (find_row x s')
          by false = still_placed (Sits g r) p
      place_after x (Arrives a b n r) p = still_placed (Arrives a b n r) p

      pub rows_tabled : IsTabled (put_state h s' states) after_rows
      rows_tabled = record {
        rows = λ g u' at x. row g u' at x (same_host g h) refl;
        claims = λ a b u' v' at bt n x. (let w = was states packets h s s' there to from turn a u' at in
            let y = was states packets h s s' there to from turn b v' bt in
            claim_stays a b u' v' n w y (held_or (same_host a h) (to b n) (held_to b n)) (held_or (same_host b h) (from a n) (held_from a n)) x
            ∙ (told.claims a b w.state y.state w.at y.at n x ∙ same_claim a b n (find_row x s') (table x)));
        given = λ x u' at below. (let w = was states packets h s s' there to from turn x.host u' at in
            ap (updated h (find_row x s')) (given_before x u' w at below) ∙ ap (placed_at h) (fresh x u' at below));
        placed = λ x. place_after x (table x) (told.placed x);
      }
        where
          row : (g : HostId) (u' : Plain) → At (put_state h s' states) g u' → (x : Request) (c : Bool) → same_host g h ≡ c
              → find_row x u' ≡ row_in g (updated h (find_row x s') (table x))
          row g u' at x true e =
              let is : s' ≡ u' = state_here g u' at e in
              subst (λ v. find_row x v ≡ row_in g (updated h (find_row x s') (table x))) is
              (subst (λ i. find_row x s' ≡ row_in i (updated h (find_row x s') (table x))) (sym (host_exact g h e)) (here x (table x) refl))
          row g u' at x false e = row_before g u' at e x ∙ elsewhere g e (find_row x s') (table x)
