-- What holds of the handovers of a network, in a world that a run reaches.
use Rattle.std.specs.Prelude.{◌≡◌, ℕ, List, Some, true, false, ◌||◌, is_some}
use Rattle.nqs_types.specs.declared.ids.HostId.{HostId}
use Rattle.nqs_types.specs.declared.request.Carried.{Carried}
use Rattle.nqs_types.specs.declared.request.Promise.{Promise}
use Rattle.nqs_types.specs.declared.message.Message.{Message}
use Rattle.nqs_types.specs.declared.message.Body.TheVariants.{Offer, Commit, Inquire, Done}
use Rattle.nqs_state.specs.State.{Plain}
use Rattle.nqs_rules.specs.Find.{has_row, has_promise, find_hand, find_promise}
use Rattle.nqs_rules.specs.Handover.{is_not_given_here}
use Rattle.nqs_rules.specs.World.{World}
use Rattle.nqs_rules.specs.Net.{is_committed_to}
use Rattle.nqs_laws.specs.Between.{HasGivenNumber, HandsAreFew, TakenAreNear, PromisesAgree, PromisesAreMeant}
use Rattle.nqs_laws.specs.Handovers.{IsStateOf, WasSent, is_open, AreInStep, IsTrueOf}
use Rattle.nqs_laws.specs.Sending.{word}
use Rattle.nqs_laws.specs.Whole.{IsVerdict, IsSettledInThree}

-- What a source of handovers, in state s, and a receiver, in state t, have of them goes together:
-- in step, eight at most, numbers that are near each other, the same load while it is open, and the
-- same errand once it is committed.
pub record PairKeeps (from to : HostId) (s t : Plain) : Type 0 where
  pub step : AreInStep from to s t
  pub few : HandsAreFew from to s t
  pub near : TakenAreNear from to s t
  pub load : PromisesAgree from to s t
  pub errand : PromisesAreMeant from to s t

-- What a packet says of a handover stays true, and its number was given by its source.
pub record PacketKeeps (m : Message) (s t : Plain) : Type 0 where
  pub stays : IsTrueOf m.body m.from m.to s t
  pub number : HasGivenNumber m.body m.from m.to s t

-- An open offer finds no request of its own at its receiver, and a commit finds none among the
-- rows.
pub record FindsNone (m : Message) (s t : Plain) : Type 0 where
  pub offered : (number low : ℕ) (queue : List ℕ) (c : Carried) (script : List ℕ) → m.body ≡ Offer number low queue c script → is_open m.to number s ≡ true
      → (has_row c.id t || is_not_given_here c.id t) ≡ false
  pub committed : (number : ℕ) (p : Promise (List ℕ)) → m.body ≡ Commit number → find_promise m.from number t ≡ Some p → has_row p.row.id t ≡ false

-- each two hosts, and each packet that was ever sent
pub record KeepsHandovers (w : World) : Type 0 where
  pub pairs : (from to : HostId) (s t : Plain) → IsStateOf w from s → IsStateOf w to t → PairKeeps from to s t
  pub packets : (m : Message) → WasSent w m → (s t : Plain) → IsStateOf w m.from s → IsStateOf w m.to t → PacketKeeps m s t
  pub finds : (m : Message) → WasSent w m → (s t : Plain) → IsStateOf w m.from s → IsStateOf w m.to t → FindsNone m s t

-- Three events settle each promise, and each handover that is committed: a tick of its host, the
-- arrival of what this asked, and that of the answer.
pub record SettlesHandovers (w : World) : Type 0 where
  pub promises : (host from : HostId) (number : ℕ) (s : Plain) → IsStateOf w host s → has_promise from number s ≡ true
      → IsSettledInThree host from (λ m. m ≡ word host from (Inquire number)) (IsVerdict from host number) (λ t. has_promise from number t ≡ false) w
  pub commitments : (host to : HostId) (number : ℕ) (s : Plain) → IsStateOf w host s → is_committed_to to number s ≡ true
      → IsSettledInThree host to (λ m. m ≡ word host to (Commit number)) (λ m. m ≡ word to host (Done number)) (λ t. is_some (find_hand to number t) ≡ false) w
