-- What each event of a schedule asks of the network, its words read.
use Rattle.std.specs.Prelude.{ℕ, Bool, List, [], ◌∷◌, codes, Ok, Err}
use Rattle.std.specs.declared.result.Result.{Result}
use Rattle.nqs_types.specs.declared.event.Command.{Command}
use Rattle.nqs_types.specs.declared.event.Command.TheVariants as command
use Rattle.nqs_types.specs.declared.fault.GrammarFault.{GrammarFault}
use Rattle.nqs_types.specs.declared.fault.WordsFault.{WordsFault}
use Rattle.nqs_types.specs.declared.world.WorldEvent.{WorldEvent}
use Rattle.nqs_types.specs.declared.world.WorldEvent.TheVariants as line
use Rattle.nqs_rules.specs.Find.{host_at}
use Rattle.nqs_rules.specs.World.{Act, Asks, Ends, Finishes, Fails, Writes, Leaves, Delivers, Newest, Ticks, Clock, Fuse, Crashes, Boots, Shows}
use Rattle.nqs_qmgr.specs.Lines.{qmgr_line}
use Rattle.nqs_qsub.specs.declared.options.Options.{Options}
use Rattle.nqs_qsub.specs.Qsub.{qsub_options, submission}
use Rattle.nqs_query.specs.Words.{Asked, stat_of, delete_of}
use Rattle.nqs_laws.specs.Sane.{is_sane_act}

-- a command line of qmgr
abbrev pub of_line : Result Command GrammarFault → Command
of_line (Ok c) = c
of_line (Err fault) = command.UnreadLine fault

-- words of a command
abbrev pub of_words : Result Command WordsFault → Command
of_words (Ok c) = c
of_words (Err fault) = command.UnreadWords fault

-- the submission that the words of qsub make with their script, or their fault
abbrev pub submitted : List ℕ → List (List ℕ) → List ℕ → Result Options WordsFault → Result Command WordsFault
submitted user words script (Ok o) = Ok (command.Submit (submission user words script o))
submitted user words script (Err fault) = Err fault

-- the words of qsub and a script
abbrev pub qsub_command : List ℕ → List (List ℕ) → List ℕ → Command
qsub_command user words script = of_words (submitted user words script (qsub_options words script))

-- what the words of qstat ask, as a command, or their fault
abbrev pub listed : Result Asked WordsFault → Result Command WordsFault
listed (Ok asked) = Ok (command.Stat asked.user asked.queues)
listed (Err fault) = Err fault

-- a submission with this name for the request, and an empty script
abbrev pub named_submission : List ℕ → List ℕ → Command
named_submission user name = qsub_command user (codes "-r" ∷ name ∷ []) []

-- what an event of a schedule asks of the network
abbrev pub act_of : WorldEvent → Act
act_of (line.Submit user name) = Asks (host_at 0) user (named_submission user name)
act_of (line.Qsub host user script words) = Asks host user (qsub_command user words script)
act_of (line.Qmgr host user text) = Asks host user (of_line (qmgr_line text))
act_of (line.Qstat host user words) = Asks host user (of_words (listed (stat_of words)))
act_of (line.Qdel host user words) = Asks host user (of_words (delete_of words))
act_of (line.End host id start status output error) = Ends host id start status output error
act_of (line.Finish host) = Finishes host
act_of (line.Fail host id start) = Fails host id start
act_of (line.Written host file) = Writes host file
act_of (line.Unwritten host file) = Leaves host file
act_of (line.Deliver packet) = Delivers packet
act_of (line.Newest one other) = Newest one other
act_of (line.Tick host) = Ticks host
act_of (line.Clock moment) = Clock moment
act_of (line.Fuse host disk calls tear) = Fuse host disk calls tear
act_of (line.Crash host) = Crashes host
act_of (line.Boot host) = Boots host
act_of line.Show = Shows

-- its values are within their limits
abbrev pub is_sane_line : WorldEvent → Bool
is_sane_line event = is_sane_act (act_of event)
