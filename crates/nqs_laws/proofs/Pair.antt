-- What an ordered pair of hosts has under one number: the source's handover and whether it gave the
-- number, the receiver's promise and whether the number is closed there.
use Rattle.std.proofs.Common.{◌≡◌, ℕ, Bool, true, false, List, refl, sym, ◌∙◌, true≢false}
use Rattle.nqs_types.specs.declared.ids.RequestId.{RequestId}
use Rattle.nqs_laws.specs.Loads.{Load}

pub data Offer : Type 0 where
  NoOffer : Offer
  Open : (load : Load) → Offer
  Given : (id : RequestId) → (queue : List ℕ) → Offer

pub data Pledge : Type 0 where
  NoPledge : Pledge
  Pledged : (load : Load) → Pledge

pub record Pair : Type 0 where
  pub offer : Offer
  pub numbered : Bool
  pub pledge : Pledge
  pub closed : Bool

-- a message of the pair, under this number
pub data Word : Type 0 where
  OfferOf : (load : Load) → Word
  ReadyFor : Word
  RefusedOf : Word
  CommitOf : Word
  DoneOf : Word
  AbortOf : Word

-- it is promised or closed
abbrev pub IsTaken : Pledge → Bool → Type 0
IsTaken NoPledge closed = closed ≡ true
IsTaken (Pledged load) closed = Unit {0}

abbrev pub IsNoPledge : Pledge → Type 0
IsNoPledge NoPledge = Unit {0}
IsNoPledge (Pledged load) = ⊥

-- where it is promised, it is this request
abbrev pub Agrees : Pledge → Load → Type 0
Agrees NoPledge load = Unit {0}
Agrees (Pledged other) load = other ≡ load

-- where it is promised, it is this request, for this queue
abbrev pub IsPromisedAs : Pledge → RequestId → List ℕ → Type 0
IsPromisedAs NoPledge id queue = Unit {0}
IsPromisedAs (Pledged load) id queue = (load.carried.id ≡ id) × (load.queue ≡ queue)

-- it is committed or closed
abbrev pub IsGiven : Offer → Bool → Type 0
IsGiven NoOffer closed = closed ≡ true
IsGiven (Open load) closed = closed ≡ true
IsGiven (Given id queue) closed = Unit {0}

abbrev pub IsNoOffer : Offer → Type 0
IsNoOffer NoOffer = Unit {0}
IsNoOffer (Open load) = ⊥
IsNoOffer (Given id queue) = ⊥

-- where it is offered, it is this request
abbrev pub IsOf : Offer → Load → Type 0
IsOf NoOffer load = Unit {0}
IsOf (Open other) load = load ≡ other
IsOf (Given id queue) load = Unit {0}

abbrev pub OfferOk : Offer → Bool → Pledge → Bool → Type 0
OfferOk NoOffer numbered q closed = Unit {0}
OfferOk (Open load) numbered q closed = (numbered ≡ true) × (closed ≡ false) × Agrees q load
OfferOk (Given id queue) numbered q closed = (numbered ≡ true) × IsTaken q closed × IsPromisedAs q id queue

abbrev pub PledgeOk : Pledge → Bool → Bool → Type 0
PledgeOk NoPledge numbered closed = Unit {0}
PledgeOk (Pledged load) numbered closed = (numbered ≡ true) × (closed ≡ false)

-- what holds of a pair at every moment
pub record Ok (p : Pair) : Type 0 where
  pub offer : OfferOk p.offer p.numbered p.pledge p.closed
  pub pledge : PledgeOk p.pledge p.numbered p.closed
  pub closed : p.closed ≡ true → p.numbered ≡ true

-- what holds at every moment of a message that was ever sent
abbrev pub Holds : Pair → Word → Type 0
Holds p (OfferOf load) = (p.numbered ≡ true) × IsOf p.offer load
Holds p ReadyFor = (p.numbered ≡ true) × IsTaken p.pledge p.closed
Holds p RefusedOf = (p.numbered ≡ true) × Unit {0}
Holds p CommitOf = (p.numbered ≡ true) × IsGiven p.offer p.closed
Holds p DoneOf = (p.numbered ≡ true) × (p.closed ≡ true)
Holds p AbortOf = (p.numbered ≡ true) × IsNoOffer p.offer

-- the changes of a pair
pub data Move : Type 0 where
  Stays : Move
  Offers : (load : Load) → Move
  Withdraws : Move
  Commits : Move
  Finishes : Move
  Pledges : (load : Load) → Move
  Accepts : Move
  Drops : Move

abbrev pub given : Offer → Offer
given NoOffer = NoOffer
given (Open load) = Given load.carried.id load.queue
given (Given id queue) = Given id queue

abbrev pub moved : Pair → Move → Pair
moved p Stays = record { offer = p.offer; numbered = p.numbered; pledge = p.pledge; closed = p.closed }
moved p (Offers load) = record { offer = Open load; numbered = true; pledge = p.pledge; closed = p.closed }
moved p Withdraws = record { offer = NoOffer; numbered = p.numbered; pledge = p.pledge; closed = p.closed }
moved p Commits = record { offer = given p.offer; numbered = p.numbered; pledge = p.pledge; closed = p.closed }
moved p Finishes = record { offer = NoOffer; numbered = p.numbered; pledge = p.pledge; closed = p.closed }
moved p (Pledges load) = record { offer = p.offer; numbered = p.numbered; pledge = Pledged load; closed = p.closed }
moved p Accepts = record { offer = p.offer; numbered = p.numbered; pledge = NoPledge; closed = true }
moved p Drops = record { offer = p.offer; numbered = p.numbered; pledge = NoPledge; closed = true }

-- when a move may come

abbrev pub MayCommit : Offer → Pledge → Bool → Type 0
MayCommit NoOffer q closed = ⊥
MayCommit (Open load) q closed = IsTaken q closed
MayCommit (Given id queue) q closed = ⊥

abbrev pub MayFinish : Offer → Bool → Type 0
MayFinish NoOffer closed = ⊥
MayFinish (Open load) closed = ⊥
MayFinish (Given id queue) closed = closed ≡ true

abbrev pub MayWithdraw : Offer → Type 0
MayWithdraw NoOffer = ⊥
MayWithdraw (Open load) = Unit {0}
MayWithdraw (Given id queue) = ⊥

abbrev pub MayAccept : Pledge → Offer → Bool → Type 0
MayAccept NoPledge offer closed = ⊥
MayAccept (Pledged load) offer closed = IsGiven offer closed

abbrev pub May : Pair → Move → Type 0
May p Stays = Unit {0}
May p (Offers load) = IsNoOffer p.offer × (p.numbered ≡ false)
May p Withdraws = MayWithdraw p.offer
May p Commits = MayCommit p.offer p.pledge p.closed
May p Finishes = MayFinish p.offer p.closed
May p (Pledges load) = (p.closed ≡ false) × (p.numbered ≡ true) × IsNoPledge p.pledge × IsOf p.offer load
May p Accepts = MayAccept p.pledge p.offer p.closed
May p Drops = IsNoOffer p.offer × (p.numbered ≡ true)

abbrev pub pair : Offer → Bool → Pledge → Bool → Pair
pair offer numbered pledge closed = record { offer = offer; numbered = numbered; pledge = pledge; closed = closed }

-- the same with another handover and promise
abbrev with_parts : Offer → Pledge → Pair → Pair
with_parts o q p = pair o p.numbered q p.closed

pub no_both : (b : Bool) → b ≡ true → b ≡ false → ⊥
no_both b t f = true≢false (sym t ∙ f)

-- each move keeps what holds of a pair
pub moved-ok : (p : Pair) (m : Move) → Ok p → May p m → Ok (moved p m)
moved-ok p m ok may = by p.offer p.pledge m ok may
  where
    none : (q : Pledge) → PledgeOk q p.numbered p.closed → p.numbered ≡ false → IsNoPledge q
    none NoPledge k n = tt
    none (Pledged load) k n = no_both p.numbered k.0 n

    shut : (p.closed ≡ true → p.numbered ≡ true) → p.numbered ≡ false → (c : Bool) → p.closed ≡ c → c ≡ false
    shut k n true e = absurd (no_both p.numbered (k e) n)
    shut k n false e = refl

    agrees : (q : Pledge) (load : Load) → IsNoPledge q → Agrees q load
    agrees NoPledge load k = tt
    agrees (Pledged other) load k = absurd k

    promised : (q : Pledge) (load : Load) → Agrees q load → IsPromisedAs q load.carried.id load.queue
    promised NoPledge load k = tt
    promised (Pledged other) load k = (λ j. (k j).carried.id, λ j. (k j).queue)

    by : (o : Offer) (q : Pledge) (m : Move) → Ok (with_parts o q p) → May (with_parts o q p) m → Ok (moved (with_parts o q p) m)
    by o q Stays ok may = ok
    by NoOffer q (Offers load) ok may =
        let no = none q ok.pledge may.1 in
        let still = shut ok.closed may.1 p.closed refl in
        record { offer = (refl, still, agrees q load no); pledge = pledge q no; closed = λ e. refl }
      where
        pledge : (q : Pledge) → IsNoPledge q → PledgeOk q true p.closed
        pledge NoPledge k = tt
        pledge (Pledged other) k = absurd k
    by (Open other) q (Offers load) ok may = absurd may.0
    by (Given id queue) q (Offers load) ok may = absurd may.0
    by NoOffer q Withdraws ok may = absurd may
    by (Open load) q Withdraws ok may = record { offer = tt; pledge = ok.pledge; closed = ok.closed }
    by (Given id queue) q Withdraws ok may = absurd may
    by NoOffer q Commits ok may = absurd may
    by (Open load) q Commits ok may = record { offer = (ok.offer.0, may, promised q load ok.offer.2); pledge = ok.pledge; closed = ok.closed }
    by (Given id queue) q Commits ok may = absurd may
    by NoOffer q Finishes ok may = absurd may
    by (Open load) q Finishes ok may = absurd may
    by (Given id queue) q Finishes ok may = record { offer = tt; pledge = ok.pledge; closed = ok.closed }
    by NoOffer NoPledge (Pledges load) ok may = record { offer = tt; pledge = (may.1, may.0); closed = ok.closed }
    by (Open other) NoPledge (Pledges load) ok may = record { offer = (ok.offer.0, ok.offer.1, may.3); pledge = (may.1, may.0); closed = ok.closed }
    by (Given id queue) NoPledge (Pledges load) ok may = absurd (no_both p.closed ok.offer.1 may.0)
    by o (Pledged other) (Pledges load) ok may = absurd may.2
    by o NoPledge Accepts ok may = absurd may
    by NoOffer (Pledged load) Accepts ok may = absurd (no_both p.closed may ok.pledge.1)
    by (Open other) (Pledged load) Accepts ok may = absurd (no_both p.closed may ok.pledge.1)
    by (Given id queue) (Pledged load) Accepts ok may = record { offer = (ok.offer.0, refl, tt); pledge = tt; closed = λ e. ok.pledge.0 }
    by NoOffer q Drops ok may = record { offer = tt; pledge = tt; closed = λ e. may.1 }
    by (Open load) q Drops ok may = absurd may.0
    by (Given id queue) q Drops ok may = absurd may.0

-- a closed number stays closed
pub stays_shut : (p : Pair) (m : Move) → p.closed ≡ true → (moved p m).closed ≡ true
stays_shut p Stays k = k
stays_shut p (Offers load) k = k
stays_shut p Withdraws k = k
stays_shut p Commits k = k
stays_shut p Finishes k = k
stays_shut p (Pledges load) k = k
stays_shut p Accepts k = refl
stays_shut p Drops k = refl

-- each move keeps what holds of a message
pub moved-holds : (p : Pair) (m : Move) (w : Word) → Ok p → May p m → Holds p w → Holds (moved p m) w
moved-holds p m w ok may holds = by p.offer p.pledge m w ok may holds
  where
    -- the number stays given
    counted : (o : Offer) (q : Pledge) (m : Move) → p.numbered ≡ true → (moved (with_parts o q p) m).numbered ≡ true
    counted o q Stays k = k
    counted o q (Offers load) k = refl
    counted o q Withdraws k = k
    counted o q Commits k = k
    counted o q Finishes k = k
    counted o q (Pledges load) k = k
    counted o q Accepts k = k
    counted o q Drops k = k

    taken : (o : Offer) (q : Pledge) (m : Move) → IsTaken q p.closed → IsTaken (moved (with_parts o q p) m).pledge (moved (with_parts o q p) m).closed
    taken o q Stays k = k
    taken o q (Offers load) k = k
    taken o q Withdraws k = k
    taken o q Commits k = k
    taken o q Finishes k = k
    taken o q (Pledges load) k = tt
    taken o q Accepts k = refl
    taken o q Drops k = refl

    open_of : (o : Offer) (q : Pledge) (m : Move) (load : Load) → May (with_parts o q p) m → p.numbered ≡ true → IsOf o load
        → IsOf (moved (with_parts o q p) m).offer load
    open_of o q Stays load may n k = k
    open_of o q (Offers other) load may n k = absurd (no_both p.numbered n may.1)
    open_of o q Withdraws load may n k = tt
    open_of NoOffer q Commits load may n k = tt
    open_of (Open other) q Commits load may n k = tt
    open_of (Given id queue) q Commits load may n k = tt
    open_of o q Finishes load may n k = tt
    open_of o q (Pledges other) load may n k = k
    open_of o q Accepts load may n k = k
    open_of o q Drops load may n k = k

    given_or_closed : (o : Offer) (q : Pledge) (m : Move) → Ok (with_parts o q p) → May (with_parts o q p) m → p.numbered ≡ true → IsGiven o p.closed
        → IsGiven (moved (with_parts o q p) m).offer (moved (with_parts o q p) m).closed
    given_or_closed o q Stays ok may n k = k
    given_or_closed o q (Offers load) ok may n k = absurd (no_both p.numbered n may.1)
    given_or_closed NoOffer q Withdraws ok may n k = absurd may
    given_or_closed (Open load) q Withdraws ok may n k = k
    given_or_closed (Given id queue) q Withdraws ok may n k = absurd may
    given_or_closed NoOffer q Commits ok may n k = absurd may
    given_or_closed (Open load) q Commits ok may n k = tt
    given_or_closed (Given id queue) q Commits ok may n k = absurd may
    given_or_closed NoOffer q Finishes ok may n k = absurd may
    given_or_closed (Open load) q Finishes ok may n k = absurd may
    given_or_closed (Given id queue) q Finishes ok may n k = may
    given_or_closed o q (Pledges load) ok may n k = k
    given_or_closed NoOffer q Accepts ok may n k = refl
    given_or_closed (Open load) q Accepts ok may n k = refl
    given_or_closed (Given id queue) q Accepts ok may n k = tt
    given_or_closed NoOffer q Drops ok may n k = refl
    given_or_closed (Open load) q Drops ok may n k = refl
    given_or_closed (Given id queue) q Drops ok may n k = tt

    no_offer : (o : Offer) (q : Pledge) (m : Move) → May (with_parts o q p) m → p.numbered ≡ true → IsNoOffer o → IsNoOffer (moved (with_parts o q p) m).offer
    no_offer o q Stays may n k = k
    no_offer o q (Offers load) may n k = no_both p.numbered n may.1
    no_offer o q Withdraws may n k = tt
    no_offer NoOffer q Commits may n k = tt
    no_offer (Open load) q Commits may n k = absurd k
    no_offer (Given id queue) q Commits may n k = absurd k
    no_offer o q Finishes may n k = tt
    no_offer o q (Pledges load) may n k = k
    no_offer o q Accepts may n k = k
    no_offer o q Drops may n k = k

    by : (o : Offer) (q : Pledge) (m : Move) (w : Word) → Ok (with_parts o q p) → May (with_parts o q p) m → Holds (with_parts o q p) w
        → Holds (moved (with_parts o q p) m) w
    by o q m (OfferOf load) ok may h = (counted o q m h.0, open_of o q m load may h.0 h.1)
    by o q m ReadyFor ok may h = (counted o q m h.0, taken o q m h.1)
    by o q m RefusedOf ok may h = (counted o q m h.0, tt)
    by o q m CommitOf ok may h = (counted o q m h.0, given_or_closed o q m ok may h.0 h.1)
    by o q m DoneOf ok may h = (counted o q m h.0, stays_shut (with_parts o q p) m h.1)
    by o q m AbortOf ok may h = (counted o q m h.0, no_offer o q m may h.0 h.1)
