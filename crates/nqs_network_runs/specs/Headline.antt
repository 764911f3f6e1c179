-- What holds of the run that was asked for, after each of its events.
use Rattle.std.specs.Prelude.{◌≡◌, ℕ, true, false, not, IsTrue, ◌||◌, List, [], ◌∷◌, ◌++◌, map, take, Option, None, Some}
use Rattle.std.specs.List.{list_all, list_any}
use Rattle.nqs_types.specs.declared.ids.HostId.{HostId}
use Rattle.nqs_types.specs.declared.ids.RequestId.{RequestId}
use Rattle.nqs_types.specs.declared.world.WorldEvent.{WorldEvent}
use Rattle.nqs_state.specs.State.{Plain}
use Rattle.nqs_rules.specs.InOrder.{are_distinct}
use Rattle.nqs_rules.specs.Net.{is_table, entries}
use Rattle.nqs_rules.specs.Picked.{may_start}
use Rattle.nqs_rules.specs.Applied.{applied}
use Rattle.nqs_rules.specs.Edits.{change_at}
use Rattle.nqs_rules.specs.World.{Act, Host, seen_of, new_world, host_of}
use Rattle.nqs_rules.specs.Run.{run_of, states_of}
use Rattle.nqs_types.specs.declared.change.Change.{Change}
use Rattle.nqs_outside.specs.Streams.{Fed}
use Rattle.nqs_rules.specs.Notes.{Why, Note, sights}
use Rattle.nqs_laws.specs.History.{history}
use Rattle.nqs_laws.specs.Words.{IsInOrderAll, replayed, is_counted, is_never_lost, boots_tell}
use Rattle.nqs_laws.specs.Each.{OfChange, EachKept}
use Rattle.nqs_laws.specs.AtOnce.{LeavesNone, TakesBackAll}
use Rattle.nqs_laws.specs.Caused.{IsCaused}
use Rattle.nqs_laws.specs.Closed.{HasState, IsClosedBy, MayClose, ClosesOwn}
use Rattle.nqs_laws.specs.CutOff.{was_cut_off}
use Rattle.nqs_laws.specs.HeldBy.{HoldsForCause}
use Rattle.nqs_laws.specs.Licensed.{AreLicensed}
use Rattle.nqs_laws.specs.Numbers.{AreNumbered, NumbersMove, NewAreNumbered}
use Rattle.nqs_laws.specs.Scripts.{AreKept}
use Rattle.nqs_laws.specs.TakenOut.{WentOut}
use Rattle.nqs_laws.specs.Rest.{host_for}
use Rattle.nqs_laws.specs.Launches.{launches, same_launch, is_acknowledged, lies, was_taken_out, AreApart, AreStarted}
use Rattle.nqs_language_acts.specs.Acts.{act_of}
use Rattle.nqs_schedule.specs.Schedule.{State, IsSchedule}
use Rattle.nqs_schedule.specs.Generated.{generated, generated_site}
use Rattle.nqs_network_runs.specs.Network.{KeepsHandovers, SettlesHandovers}
use Rattle.nqs_network_runs.specs.declared.words.Generation.{Generation}
use Rattle.nqs_network_runs.specs.declared.words.Ask.{Ask}
use Rattle.nqs_network_runs.specs.Words.{asked}
use Rattle.nqs_network_runs.specs.Replay.{Reads}

-- what happened in these events, from a new network of the site on
abbrev pub notes_of : List (List ℕ) → List Act → List Note
notes_of site acts = history acts (new_world site)

-- the states of the hosts at first
abbrev pub first_states : List (List ℕ) → List Plain
first_states site = states_of (new_world site)

-- the states of the hosts after these events
abbrev pub last_states : List (List ℕ) → List Act → List Plain
last_states site acts = states_of (run_of site acts).world

-- an acknowledged request lies in the network until it is deleted, ends or is lost by a boot, and
-- not longer
abbrev pub AcknowledgedStay : List (List ℕ) → List Act → Type 0
AcknowledgedStay site acts = (x : RequestId) → is_acknowledged x (notes_of site acts) ≡ true
    → lies x (last_states site acts) ≡ not (was_taken_out x (first_states site) (notes_of site acts))

-- a request that was deleted, has ended or was lost by then lies nowhere afterwards, acknowledged
-- or not
abbrev pub TakenOutStayOut : List (List ℕ) → List Act → Type 0
TakenOutStayOut site acts = (before after : List Act) → acts ≡ before ++ after → (x : RequestId)
    → was_taken_out x (first_states site) (notes_of site before) ≡ true → lies x (last_states site acts) ≡ false

-- what lies anywhere was acknowledged, or a stop cut its submission off
abbrev pub NoOtherLies : List (List ℕ) → List Act → Type 0
NoOtherLies site acts = (x : RequestId) → lies x (last_states site acts) ≡ true
    → (is_acknowledged x (notes_of site acts) || was_cut_off x (first_states site) (notes_of site acts)) ≡ true

-- a change takes a request out because it was deleted, has finished, or was running at a stop and
-- may not start again
abbrev pub GoesOutForAReason : OfChange
GoesOutForAReason states h why c = (x : RequestId) → lies x states ≡ true → lies x (change_at h.0 (applied c) states) ≡ false → WentOut x states h why c

-- A change closes the number of the promise that it ends, and no others but those that it may
-- close.
abbrev pub ClosesNumbers : OfChange
ClosesNumbers states h why c = (t : Plain) → HasState states h t
    → ClosesOwn c t × ((from : HostId) (number : ℕ) → IsClosedBy c from number t → MayClose c states h from number)

-- What holds of each change that a host keeps: it gives numbers to new requests alone, does to all
-- at once what it does to many, holds for a cause, takes out for a reason, and closes numbers of
-- its own promises.
pub record ChangeKeeps (states : List Plain) (h : HostId) (why : Why) (c : Change (List ℕ)) : Type 0 where
  pub numbers : NumbersMove states h c
  pub new : NewAreNumbered states h c
  pub none : LeavesNone states h why c
  pub silent : TakesBackAll states h why c
  pub cause : HoldsForCause states h why c
  pub out : GoesOutForAReason states h why c
  pub closes : ClosesNumbers states h why c

-- No started queue of the host within its limits has a request that may start now.
abbrev pub StartsNothing : ℕ → Host → Type 0
StartsNothing now host = list_any (may_start now host.state) host.state.queues ≡ false

-- the host that took this event in the world after those before, or booted by it, has nothing left
-- to start after all of these, if it is up
abbrev pub RestsAfter : List (List ℕ) → List Act → Act → List Act → Type 0
RestsAfter site before last acts = (h : HostId) → host_for last (run_of site before).world ≡ Some h
    → (host : Host) → host_of h (run_of site acts).world ≡ Some host → host.up ≡ true → StartsNothing (run_of site acts).world.now host

-- so does the host of the last event
abbrev pub LastTakerRests : List (List ℕ) → List Act → Type 0
LastTakerRests site acts = (before : List Act) (last : Act) → acts ≡ before ++ last ∷ [] → RestsAfter site before last acts

-- The history tells what is seen, and leads to the states of the hosts, which are in order. In it
-- each event has made its own changes alone.
pub record IsToldByHistory (site : List (List ℕ)) (acts : List Act) : Type 0 where
  pub seen : sights (notes_of site acts) ≡ seen_of (run_of site acts)
  pub states : replayed (notes_of site acts) (first_states site) ≡ last_states site acts
  pub order : IsInOrderAll site (run_of site acts).world
  pub causes : IsCaused acts (new_world site) (notes_of site acts)

-- No request lies in two places, and each change was licensed. What is acknowledged stays, with its
-- script, nothing else comes, and what went out stays out.
pub record KeepsRequests (site : List (List ℕ)) (acts : List Act) : Type 0 where
  pub place : IsTrue (is_table (last_states site acts))
  pub licensed : AreLicensed (first_states site) (notes_of site acts)
  pub changes : EachKept ChangeKeeps (first_states site) (notes_of site acts)
  pub stay : AcknowledgedStay site acts
  pub other : NoOtherLies site acts
  pub out : TakenOutStayOut site acts
  pub given : AreNumbered (run_of site acts).world
  pub scripts : AreKept (first_states site) (notes_of site acts) (run_of site acts).world

-- No launch comes twice, and those of one request are parted by a loss, which boots alone tell.
-- What may start has started.
pub record KeepsLaunches (site : List (List ℕ)) (acts : List Act) : Type 0 where
  pub once : IsTrue (are_distinct same_launch (launches (notes_of site acts)))
  pub apart : (x : RequestId) → AreApart x (first_states site) false (notes_of site acts)
  pub numbered : AreStarted (first_states site) (notes_of site acts)
  pub counted : IsTrue (list_all is_counted (entries (last_states site acts)))
  pub lost : IsTrue (list_all is_never_lost (entries (last_states site acts)))
  pub boots : IsTrue (boots_tell None (seen_of (run_of site acts)))
  pub rests : LastTakerRests site acts

-- the laws of a network: what it tells, its requests, their launches, and handovers, which go
-- together and can be settled
pub record KeepsTheLaws (site : List (List ℕ)) (acts : List Act) : Type 0 where
  pub told : IsToldByHistory site acts
  pub requests : KeepsRequests site acts
  pub launches : KeepsLaunches site acts
  pub handovers : KeepsHandovers (run_of site acts).world
  pub settled : SettlesHandovers (run_of site acts).world

-- the schedule that the source gave
abbrev pub IsRead : Fed → List (List ℕ) → List WorldEvent → Type 0
IsRead source site events =
    (input : List ℕ) × (state : State) × Reads source input × IsSchedule input state × (site ≡ state.site) × (events ≡ state.events)

-- or that a seed gives
abbrev pub IsAskedBy : Option Generation → Fed → List (List ℕ) → List WorldEvent → Type 0
IsAskedBy None source site events = IsRead source site events
IsAskedBy (Some g) source site events = (site ≡ generated_site g.hosts) × (events ≡ generated g.seed g.hosts g.events)

-- the site and the events that are asked for
abbrev pub IsAsked : List (List ℕ) → Fed → List (List ℕ) → List WorldEvent → Type 0
IsAsked words source site events = (ask : Ask) × (asked words ≡ Some ask) × IsAskedBy ask.generation source site events

-- after so many events of them the laws hold
abbrev pub HoldAlways : List (List ℕ) → Fed → Type 0
HoldAlways words source = (site : List (List ℕ)) (events : List WorldEvent) → IsAsked words source site events
    → (n : ℕ) → KeepsTheLaws site (map act_of (take n events))

-- whatever the words and the source are
abbrev pub RunsKeepTheLaws : Type 0
RunsKeepTheLaws = (words : List (List ℕ)) (source : Fed) → HoldAlways words source
