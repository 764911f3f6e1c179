-- What records tell, call by call.
use Rattle.std.specs.Prelude.{◌≡◌, ℕ, List, Option, Some, None, Ok, Err, IsTrue, IfOk, IfErr, OnOk}
use Rattle.std.specs.declared.result.Result.{Result}
use Rattle.nqs_state.specs.State.{content}
use Rattle.nqs_state.specs.Room.{HasRoom}
use Rattle.nqs_state.specs.declared.state.HostState.{HostState}
use Rattle.nqs_base.specs.declared.extent.Extent.{Extent}
use Rattle.nqs_types.specs.declared.change.Change.{Change}
use Rattle.nqs_types.specs.declared.ids.RequestId.{RequestId}
use Rattle.nqs_changes.specs.Running.{runs_only, may_run}
use Rattle.nqs_rules.specs.Applied.{applied}
use Rattle.nqs_rules.specs.Fits.{fits}
use Rattle.nqs_rules.specs.InOrder.{IsInOrder}
use Rattle.nqs_rules.specs.Sane.{is_sane_change}
use Rattle.nqs_records.specs.Changes.{MayStand}
use Rattle.nqs_records.specs.Kinds.{record_of}
use Rattle.nqs_records.specs.declared.fault.RecordFault.{RecordFault}
use Rattle.nqs_store.specs.Sound.{IsSoundHost}
use Rattle.nqs_store.specs.TellFaults.{IsRefused, IsTakenFault}
use Rattle.nqs_store.specs.Told.{Host, host_by, record_taken, told_from}
use Rattle.nqs_store.specs.declared.tell.TellFault.{TellFault}

-- The record whose gate stands at the place is read as a change, or is none.
pub record ReadsChange (place : ℕ) (payload : List ℕ) (result : Result (Change Extent) TellFault) : Type 0 where
  pub ok : IfOk result (λ change. (record_of payload ≡ Ok change) × MayStand change)
  pub err : IfErr result (IsRefused place ((fault : RecordFault) × (record_of payload ≡ Err fault)))

-- A snapshot of this version is read as a host, or is none of one.
pub record ReadsSnapshot (version : ℕ) (snapshot : List ℕ) (result : Result HostState TellFault) : Type 0 where
  pub ok : IfOk result (λ state. (host_by version snapshot ≡ Ok (content state)) × IsSoundHost (content state))
  pub err : IfErr result (IsRefused 24 ((fault : RecordFault) × (host_by version snapshot ≡ Err fault)))

module _ {E : Type 0} where
  -- The host that is told, if one is, is the answer; else what is wrong is.
  pub record TellsHost (host : Option Host) (Bad : E → Type 0) (result : Result HostState E) : Type 0 where
    -- it is the one, and sound
    pub ok : IfOk result (λ state. (host ≡ Some (content state)) × IsSoundHost (content state))
    -- a refusal says what is wrong
    pub err : IfErr result Bad

-- what holds of a host between two records, and of the requests that may run there
pub record IsSoFar (host : Host) (running : List RequestId) : Type 0 where
  -- the host is sound
  pub sound : IsSoundHost host
  -- no other requests than these run
  pub only : IsTrue (runs_only running host)

-- a change may be made of a host
pub record MayMake (state : HostState) (running : List RequestId) (change : Change Extent) : Type 0 where
  -- the host is in order
  pub order : IsInOrder (content state)
  -- no other requests than these run
  pub only : IsTrue (runs_only running (content state))
  -- the change's values are sane
  pub sane : IsTrue (is_sane_change change)
  -- it fits what the host is
  pub fits : IsTrue (fits change (content state))
  -- and there is memory for it
  pub room : HasRoom change state

module _ {T E : Type 0} where
  -- a change is made, and which requests may run is kept
  pub record MakesChange (change : Change Extent) (old_host : Host) (old_running : List RequestId) (new_host : Host) (new_running : List RequestId)
      (result : Result T E) : Type 0 where
    pub made : OnOk result (new_host ≡ applied change old_host)
    pub running : OnOk result (new_running ≡ may_run change old_running)

  -- What records make of a host is made, or what is wrong with them is the answer.
  pub record TakesRecords (told : Option Host) (Bad : E → Type 0) (made : Host) (running : List RequestId) (result : Result T E) : Type 0 where
    -- it is what they tell
    pub ok : OnOk result (told ≡ Some made)
    -- it is sound, and only these requests run
    pub so_far : OnOk result (IsSoFar made running)
    -- a refusal says what is wrong
    pub err : IfErr result Bad

-- a later record, whose gate stands at the place, is taken, where its change fits
abbrev pub TakesRecord : {T : Type 0} → ℕ → List ℕ → (host : Host) → (made : Host) → List RequestId → Result T TellFault → Type 0
TakesRecord place payload host made running result =
    TakesRecords (record_taken payload (Some host)) (IsRefused place (record_taken payload (Some host) ≡ None)) made running result

-- so are all later records, of which the first has its gate at the place
abbrev pub TakesEach : {T : Type 0} → ℕ → List (List ℕ) → (host : Host) → (made : Host) → List RequestId → Result T TellFault → Type 0
TakesEach place payloads host made running result = TakesRecords (told_from (Some host) payloads) (IsTakenFault host place payloads) made running result
