-- Refusals: a list of causes in order, and the first that holds.
use Rattle.std.specs.Prelude.{ℕ, Bool, if◌then◌else◌, List, [], ◌∷◌, Result, Ok, Err}
use Rattle.nqs_types.specs.declared.refusal.Refusal.{Refusal}
use Rattle.nqs_types.specs.declared.refusal.Refusal.TheVariants.{NotManager, NotOperator, NoQueue, NoComplex, NoDevice, NoRequest, NoHost, NoDefault}
use Rattle.nqs_types.specs.declared.refusal.Refusal.TheVariants.{QueueExists, ComplexExists, DeviceExists, WrongKind, DestExists, NoDest, NotMember, IsMember}
use Rattle.nqs_types.specs.declared.refusal.Refusal.TheVariants.{KeepRoot, NotOwner, Disabled, PipeOnly, NoAccess, RequestRouting, RequestRunning, NotHeld}
use Rattle.nqs_types.specs.declared.refusal.Refusal.TheVariants.{IsHeld, QueueInUse, DeviceBusy, OverCpu, OverMemory, TooMany, HostFull, NumbersUsed}
use Rattle.nqs_types.specs.declared.refusal.Refusal.TheVariants.{RequestExists}

-- a test, and the refusal that is answered where it holds
pub record Cause : Type 0 where
  pub holds : Bool
  pub refusal : Refusal

-- a test with its refusal
abbrev pub cause : Bool → Refusal → Cause
cause b r = record { holds = b; refusal = r }

-- the refusal of the first cause that holds
abbrev pub first_refusal : List Cause → Result (Unit {0}) Refusal
first_refusal [] = Ok tt
first_refusal (c ∷ cs) = if c.holds then Err c.refusal else first_refusal cs

-- the number of a refusal
abbrev pub refusal_number : Refusal → ℕ
refusal_number NotManager = 1
refusal_number NotOperator = 2
refusal_number (NoQueue _) = 3
refusal_number (NoComplex _) = 4
refusal_number (NoDevice _) = 5
refusal_number (NoRequest _) = 6
refusal_number (NoHost _) = 7
refusal_number NoDefault = 8
refusal_number (QueueExists _) = 9
refusal_number (ComplexExists _) = 10
refusal_number (DeviceExists _) = 11
refusal_number WrongKind = 12
refusal_number DestExists = 13
refusal_number NoDest = 14
refusal_number NotMember = 15
refusal_number IsMember = 16
refusal_number KeepRoot = 17
refusal_number NotOwner = 18
refusal_number (Disabled _) = 19
refusal_number (PipeOnly _) = 20
refusal_number (NoAccess _) = 21
refusal_number (RequestRouting _) = 22
refusal_number (RequestRunning _) = 23
refusal_number (NotHeld _) = 24
refusal_number (IsHeld _) = 25
refusal_number (QueueInUse _ _) = 26
refusal_number (DeviceBusy _) = 27
refusal_number (OverCpu _) = 28
refusal_number (OverMemory _) = 29
refusal_number TooMany = 30
refusal_number HostFull = 31
refusal_number NumbersUsed = 32
refusal_number (RequestExists _) = 33
