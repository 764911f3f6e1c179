-- The event that an arrival is, if it is one. An event that waits has the moment 0.
use Rattle.std.specs.Prelude.{ℕ, ◌&&◌, nat_le, Bool, true, false, if◌then◌else◌, List, [], get_or, length, Ok, Err}
use Rattle.std.specs.declared.option.Option.{Option}
use Rattle.std.specs.declared.option.Option.TheVariants.{None, Some}
use Rattle.std.specs.declared.result.Result.{Result}
use Rattle.nqs_state.specs.State.{Plain}
use Rattle.nqs_types.specs.declared.ids.HostId.{HostId}
use Rattle.nqs_types.specs.declared.message.Message.{Message}
use Rattle.nqs_types.specs.declared.message.Tool.{Tool}
use Rattle.nqs_types.specs.declared.message.Tool.TheVariants.{Qsub, Qstat, Qdel, Qmgr, Tick}
use Rattle.nqs_types.specs.declared.message.Body.{Body}
use Rattle.nqs_types.specs.declared.message.Body.TheVariants as body
use Rattle.nqs_types.specs.declared.event.Command.{Command}
use Rattle.nqs_types.specs.declared.event.Command.TheVariants as command
use Rattle.nqs_types.specs.declared.event.Event.{Event}
use Rattle.nqs_types.specs.declared.event.Event.TheVariants as event
use Rattle.nqs_rules.specs.Tests.{same_host}
use Rattle.nqs_rules.specs.Sane.{is_of_site}
use Rattle.nqs_rules.specs.Shutdowns.{shuts_down}
use Rattle.nqs_outside.specs.Asked.{Arrival, came, quiet}
use Rattle.nqs_qmgr.specs.Lines.{qmgr_line}
use Rattle.nqs_query.specs.Words.{stat_of, delete_of}
use Rattle.nqs_language_acts.specs.Acts.{of_line, of_words, listed as asks_list, qsub_command}
use Rattle.nqs_packets.specs.Reading.{message_of}
use Rattle.nqs_packets.specs.declared.fault.PacketFault.{PacketFault}

-- where a daemon is: its host, and the names of the site
pub record Here : Type 0 where
  pub me : HostId
  pub site : List (List ℕ)

-- what is longer is no message of a host
abbrev pub is_whole : List ℕ → Bool
is_whole bytes = nat_le (length bytes) 1052672

-- what is asked for by a tool's words; those of qmgr are one, its line
abbrev pub command_of : List ℕ → Tool → List (List ℕ) → List ℕ → Command
command_of user Qsub words script = qsub_command user words script
command_of user Qstat words script = of_words (asks_list (stat_of words))
command_of user Qdel words script = of_words (delete_of words)
command_of user Qmgr words script = of_line (qmgr_line (get_or words 0 []))
command_of user Tick words script = command.Tick

-- the hosts of its requests are of the site
abbrev pub are_of_site : ℕ → Body → Bool
are_of_site hosts (body.Offer _ _ _ c _) = is_of_site hosts c.id.host
are_of_site hosts (body.Ended _ id _ _ _ _) = is_of_site hosts id.host
are_of_site hosts (body.EndedAck id _) = is_of_site hosts id.host
are_of_site hosts _ = true

-- it is for this host, and speaks of hosts of the site
abbrev pub is_for : Here → Message → Bool
is_for here m = same_host here.me m.to && is_of_site (length here.site) m.from && are_of_site (length here.site) m.body

-- what is said to a client or a shepherd is no event of a host, and a piece of a message is none
-- yet
abbrev pub event_by : Message → Body → Option Event
event_by m (body.Ask port token user tool words script) = Some (event.Ask 0 port token user (command_of user tool words script))
event_by m (body.Ended port id start status output error) = Some (event.Ended 0 port id start status output error)
event_by m (body.Answer _ _ _) = None
event_by m (body.EndedAck _ _) = None
event_by m (body.Piece _ _ _ _ _ _) = None
event_by m _ = Some (event.Arrived 0 m)

-- the event of a message, if it is one
abbrev pub event_of : Message → Option Event
event_of m = event_by m m.body

-- the event of what was read, if it could be and is for this host
abbrev pub event_said : Here → Result Message PacketFault → Option Event
event_said here (Ok m) = if is_for here m then event_of m else None
event_said here (Err fault) = None

-- an arrival is at most one event, where its bytes are a message of their own: what a daemon hears
-- of it, with the pieces that came before, stands in Gathers
abbrev pub event_in : Here → Arrival → Option Event
event_in here (came bytes) = if is_whole bytes then event_said here (message_of bytes) else None
event_in here quiet = Some (event.Tick 0)

-- the event at a moment
abbrev pub at_moment : ℕ → Event → Event
at_moment m (event.Ask now port token user c) = event.Ask m port token user c
at_moment m (event.Arrived now message) = event.Arrived m message
at_moment m (event.Ended now port id start status output error) = event.Ended m port id start status output error
at_moment m (event.Unlaunched now id start) = event.Unlaunched m id start
at_moment m (event.Written now file) = event.Written m file
at_moment m (event.Unwritten now file) = event.Unwritten m file
at_moment m (event.Tick now) = event.Tick m

-- it is a shutdown that its user may give
abbrev pub stops_by : Option Event → Plain → Bool
stops_by None s = false
stops_by (Some e) s = shuts_down e s
