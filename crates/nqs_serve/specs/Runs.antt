-- A run of the daemon: what came, and each event that was taken, with what the outside answered to
-- what went out.
use Rattle.std.specs.Prelude.{◌≡◌, ℕ, Bool, if◌then◌else◌, List, [], ◌∷◌, ◌++◌, map}
use Rattle.std.specs.List.{flat_map}
use Rattle.std.specs.Option.{option_to_list}
use Rattle.std.specs.declared.option.Option.{Option}
use Rattle.std.specs.declared.option.Option.TheVariants.{None, Some}
use Rattle.nqs_state.specs.State.{Plain}
use Rattle.nqs_types.specs.declared.event.Event.{Event}
use Rattle.nqs_types.specs.declared.event.Event.TheVariants as event
use Rattle.nqs_types.specs.declared.event.Output.{Output}
use Rattle.nqs_types.specs.declared.event.Output.TheVariants as out
use Rattle.nqs_outside.specs.Asked.{Arrival, Packet, Traffic, inbound, outbound, Asked, launched, killed, Print, printed, Filing, filed}
use Rattle.nqs_pieces.specs.declared.gather.Gathered.{Gathered}
use Rattle.nqs_serve.specs.Events.{Here}
use Rattle.nqs_serve.specs.Gathers.{heard}
use Rattle.nqs_serve.specs.Letters.{letter_of, packets_in}
use Rattle.nqs_rules.specs.Stepped.{Stepped}
use Rattle.nqs_serve.specs.Steps.{after_event, outputs, calls}
use Rattle.nqs_serve.specs.Tellings.{Telling, Adds}
use Rattle.nqs_serve.specs.declared.comeback.Comeback.{Comeback}
use Rattle.nqs_serve.specs.declared.comeback.Comeback.TheVariants.{Unlaunched, Printed, Written, Unwritten}

-- an output that was carried out, and the answer of the outside, where it asks for one
pub record Outcome : Type 0 where
  pub output : Output
  pub ok : Bool

-- an output, and the answer to it
abbrev pub outcome : Output → Bool → Outcome
outcome output ok = record { output = output; ok = ok }

-- the least thing that a daemon does
pub data Act : Type 0 where
  -- a receive, and the event that it brought, if it brought one
  received : (arrival : Arrival) (event : Option Event) → Act
  -- the next event that waits was taken at this moment, and what went out was carried out
  took : (moment : ℕ) (outcomes : List Outcome) → Act

-- the daemon, and the events that wait within a turn
pub record Turn : Type 0 where
  pub state : Plain
  pub waits : List Event

-- a daemon in this state, for which these events wait
abbrev pub turn : Plain → List Event → Turn
turn s waits = record { state = s; waits = waits }

-- a daemon for which no event waits
abbrev pub idle : Plain → Turn
idle s = turn s []

-- what an outcome asked of the outside

-- the datagrams of it
abbrev pub packets_by : Here → Output → List Packet
packets_by here output = packets_in (letter_of here output)

-- a launch or a kill
abbrev pub asked_by : Output → Bool → List Asked
asked_by (out.Launch order script) ok = launched order script ok ∷ []
asked_by (out.Kill id start) ok = killed id start ok ∷ []
asked_by _ ok = []

-- a print
abbrev pub prints_by : Output → Bool → List Print
prints_by (out.Print device order script) ok = printed device order script ok ∷ []
prints_by _ ok = []

-- a file that is written
abbrev pub filings_by : Output → Bool → List Filing
filings_by (out.File file path bytes) ok = filed path bytes ok ∷ []
filings_by _ ok = []

-- what comes back of it: a launch or a print that failed, a print that succeeded, a file that was
-- written or was not
abbrev pub comeback_of : Output → Bool → Option Comeback
comeback_of (out.Launch order _) ok = if ok then None else Some (Unlaunched order.id order.start)
comeback_of (out.Print _ order _) ok = Some (if ok then Printed order.id order.start else Unlaunched order.id order.start)
comeback_of (out.File file _ _) ok = Some (if ok then Written file else Unwritten file)
comeback_of _ ok = None

-- the event that tells the host of it
abbrev pub event_back : Comeback → Event
event_back (Unlaunched id start) = event.Unlaunched 0 id start
event_back (Printed id start) = event.Ended 0 0 id start 0 [] []
event_back (Written file) = event.Written 0 file
event_back (Unwritten file) = event.Unwritten 0 file

-- the same of a list of outcomes, in order

-- what went out
abbrev pub outputs_in : List Outcome → List Output
outputs_in outcomes = map (λ (o : Outcome). o.output) outcomes

-- the datagrams
abbrev pub packets : Here → List Outcome → List Packet
packets here outcomes = flat_map (λ (o : Outcome). packets_by here o.output) outcomes

-- the datagrams, as they pass the wire
abbrev pub sends : Here → List Outcome → List Traffic
sends here outcomes = map outbound (packets here outcomes)

-- launches and kills
abbrev pub asked : List Outcome → List Asked
asked outcomes = flat_map (λ (o : Outcome). asked_by o.output o.ok) outcomes

-- prints
abbrev pub prints : List Outcome → List Print
prints outcomes = flat_map (λ (o : Outcome). prints_by o.output o.ok) outcomes

-- files that are written
abbrev pub filings : List Outcome → List Filing
filings outcomes = flat_map (λ (o : Outcome). filings_by o.output o.ok) outcomes

-- what comes back
abbrev pub brought_back : List Outcome → List Comeback
brought_back outcomes = flat_map (λ (o : Outcome). option_to_list (comeback_of o.output o.ok)) outcomes

-- they wait in the order of the outputs that they come of
abbrev pub come_back : List Outcome → List Event
come_back outcomes = map event_back (brought_back outcomes)

-- acts, one after the other

-- the first event that waits is taken with its starts, and what comes back waits behind the others
abbrev pub take_next : ℕ → List Outcome → List Event → Plain → Turn
take_next m outcomes [] s = idle s
take_next m outcomes (e ∷ es) s = turn (after_event m e s) (es ++ come_back outcomes)

-- the turn after an act
abbrev pub next : Here → Turn → Act → Turn
next here t (received arrival e) = turn t.state (t.waits ++ option_to_list e)
next here t (took m outcomes) = take_next m outcomes t.waits t.state

-- an event waits, and what is carried out is what goes out of it
abbrev pub IsTaken : ℕ → List Outcome → List Event → Plain → Type 0
IsTaken m outcomes [] s = ⊥
IsTaken m outcomes (e ∷ es) s = outputs_in outcomes ≡ outputs m e s

-- a receive comes only when nothing waits
abbrev pub Allows : Turn → Act → Type 0
Allows t (received arrival e) = t.waits ≡ []
Allows t (took m outcomes) = IsTaken m outcomes t.waits t.state

module _ (here : Here) where
  -- the turn after acts
  abbrev pub after : Turn → List Act → Turn
  after t [] = t
  after t (act ∷ acts) = after (next here t act) acts

  -- each act is allowed where it comes
  abbrev pub IsRun : Turn → List Act → Type 0
  IsRun t [] = Unit {0}
  IsRun t (act ∷ acts) = Allows t act × IsRun (next here t act) acts

-- the calls that take the next event that waits
abbrev pub next_calls : ℕ → List Event → Plain → List (Stepped (List ℕ))
next_calls m [] s = []
next_calls m (e ∷ es) s = calls m e s

-- what the calls of an act do, in order: a receive makes none
abbrev pub act_calls : Turn → Act → List (Stepped (List ℕ))
act_calls t (received arrival e) = []
act_calls t (took m outcomes) = next_calls m t.waits t.state

-- what the calls of acts do, in order
abbrev pub run_calls : Here → Turn → List Act → List (Stepped (List ℕ))
run_calls here t [] = []
run_calls here t (act ∷ acts) = act_calls t act ++ run_calls here (next here t act) acts

-- the parts of acts, in order

-- what it received
abbrev pub arrivals_of : Act → List Arrival
arrivals_of (received arrival e) = arrival ∷ []
arrivals_of (took m outcomes) = []

-- the moment that it took an event at
abbrev pub moments_of : Act → List ℕ
moments_of (received arrival e) = []
moments_of (took m outcomes) = m ∷ []

-- what it carried out
abbrev pub outcomes_of : Act → List Outcome
outcomes_of (received arrival e) = []
outcomes_of (took m outcomes) = outcomes

-- what passed the wire: what a receive brought, or the datagrams of what was carried out
abbrev pub traffic_by : Here → Act → List Traffic
traffic_by here (received arrival e) = inbound arrival ∷ []
traffic_by here (took m outcomes) = sends here outcomes

-- all that was received
abbrev pub arrivals : List Act → List Arrival
arrivals acts = flat_map arrivals_of acts

-- the moments at which events were taken
abbrev pub moments : List Act → List ℕ
moments acts = flat_map moments_of acts

-- all that was carried out
abbrev pub outcomes : List Act → List Outcome
outcomes acts = flat_map outcomes_of acts

-- all that passed the wire, in the order of the acts
abbrev pub traffic : Here → List Act → List Traffic
traffic here acts = flat_map (traffic_by here) acts

-- what was done of an event that was cut off: the moment at which it was to be taken, and what of
-- it was carried out
pub record Begun : Type 0 where
  pub moments : List ℕ
  pub outcomes : List Outcome

-- no event was cut off
abbrev pub none_begun : Begun
none_begun = record { moments = []; outcomes = [] }

-- an event that was to be taken at this moment was cut off
abbrev pub begun : ℕ → List Outcome → Begun
begun m outcomes = record { moments = m ∷ []; outcomes = outcomes }

-- all that was carried out, of acts and then of an event that was cut off
abbrev pub carried : List Act → Begun → List Outcome
carried acts more = outcomes acts ++ more.outcomes

-- just these were carried out
abbrev pub Carried : Here → List Outcome → Telling → Telling → Type 0
Carried here outcomes was now = Adds was now (sends here outcomes) (asked outcomes) (prints outcomes) (filings outcomes) []

-- What the outside tells grew by just what these acts, and then an event that was cut off, ask of
-- it; over the wire act by act, so what goes out of an event does before the next receive.
abbrev pub Grew : Here → List Act → Begun → Telling → Telling → Type 0
Grew here acts more was now =
    Adds was now (traffic here acts ++ sends here more.outcomes) (asked (carried acts more)) (prints (carried acts more)) (filings (carried acts more))
    (moments acts ++ more.moments)

-- The acts lead from one turn to another. They, and what was done of an event that was cut off, are
-- just what the outside saw.
pub record Ran (here : Here) (acts : List Act) (start finish : Turn) (more : Begun) (was now : Telling) : Type 0 where
  pub run : IsRun here start acts
  pub leads : after here start acts ≡ finish
  pub grew : Grew here acts more was now

-- what was received

-- the messages of which pieces have come, after an act
abbrev pub gathered_by : Here → List Gathered → Act → List Gathered
gathered_by here g (received arrival e) = (heard here g arrival).gathered
gathered_by here g (took m outcomes) = g

-- a receive brought the event that its arrival is, with the pieces that came before
abbrev pub IsHeard : Here → List Gathered → Act → Type 0
IsHeard here g (received arrival e) = e ≡ (heard here g arrival).event
IsHeard here g (took m outcomes) = Unit {0}

-- each receive of acts did
abbrev pub AreHeard : Here → List Gathered → List Act → Type 0
AreHeard here g [] = Unit {0}
AreHeard here g (act ∷ acts) = IsHeard here g act × AreHeard here (gathered_by here g act) acts

-- the messages of which pieces have come, after acts
abbrev pub gathered : Here → List Gathered → List Act → List Gathered
gathered here g [] = g
gathered here g (act ∷ acts) = gathered here (gathered_by here g act) acts

-- the events in arrivals, of which one may end a message that comes in pieces
abbrev pub events_in : Here → List Gathered → List Arrival → List Event
events_in here g [] = []
events_in here g (a ∷ more) = option_to_list (heard here g a).event ++ events_in here (heard here g a).gathered more

-- the events in what was received, from no piece on
abbrev pub events : Here → List Act → List Event
events here acts = events_in here [] (arrivals acts)

-- one event after the other, each with its starts
abbrev pub folded : Plain → List Event → List ℕ → Plain
folded s es [] = s
folded s [] (m ∷ ms) = s
folded s (e ∷ es) (m ∷ ms) = folded (after_event m e s) es ms

-- what goes out of that, in order
abbrev pub folded_outputs : Plain → List Event → List ℕ → List Output
folded_outputs s es [] = []
folded_outputs s [] (m ∷ ms) = []
folded_outputs s (e ∷ es) (m ∷ ms) = outputs m e s ++ folded_outputs (after_event m e s) es ms

-- where nothing came back, a run that leaves nothing waiting is the fold of the step and its starts
-- over the events in what was received
abbrev pub RunsAreFolds : Type 0
RunsAreFolds = (here : Here) (s : Plain) (acts : List Act) → IsRun here (idle s) acts → AreHeard here [] acts → brought_back (outcomes acts) ≡ []
    → (after here (idle s) acts).waits ≡ []
    → ((after here (idle s) acts).state ≡ folded s (events here acts) (moments acts))
    × (outputs_in (outcomes acts) ≡ folded_outputs s (events here acts) (moments acts))
