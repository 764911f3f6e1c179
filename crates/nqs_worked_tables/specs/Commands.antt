-- Every command by who may give it.
use Rattle.std.specs.Prelude.{ℕ, true, false, List, [], ◌∷◌, map, codes, None, Result}
use Rattle.nqs_state.specs.State.{Plain}
use Rattle.nqs_rules.specs.Access.{may_command, rank}
use Rattle.nqs_worked.specs.ScheduleWords.{named, typed, bad_words}
use Rattle.nqs_worked.specs.Definitions.{fresh, sample}
use Rattle.nqs_types.specs.declared.rule.Rank.{Rank}
use Rattle.nqs_types.specs.declared.rule.Rank.TheVariants.{Manager, Operator, User}
use Rattle.nqs_types.specs.declared.refusal.Refusal.{Refusal}
use Rattle.nqs_types.specs.declared.event.Command.{Command}
use Rattle.nqs_types.specs.declared.event.Command.TheVariants as command
use Rattle.nqs_types.specs.declared.fault.GrammarFault.TheVariants as grammar
use Rattle.nqs_types.specs.declared.fault.WordsCause.TheVariants as words_cause
use Rattle.nqs_types.specs.declared.edit.Edit.{Edit}
use Rattle.nqs_types.specs.declared.edit.Edit.TheVariants.{Conf, Limits, Access, Devices, Rows}
use Rattle.nqs_types.specs.declared.edit.ConfEdit.TheVariants.{CreateBatchQueue, CreateDeviceQueue, CreatePipeQueue, DeleteQueue, EnableQueue, DisableQueue}
use Rattle.nqs_types.specs.declared.edit.ConfEdit.TheVariants.{StartQueue, StopQueue, PurgeQueue, SetPriority, SetRunLimit, AddDestination, RemoveDestination}
use Rattle.nqs_types.specs.declared.edit.ConfEdit.TheVariants.{FirstDestination}
use Rattle.nqs_types.specs.declared.edit.ConfEdit.TheVariants.{SetDefaultQueue, SetNoDefaultQueue, SetPatience, SetRetryWait}
use Rattle.nqs_types.specs.declared.edit.LimitsEdit.TheVariants.{SetUserLimit, SetCpuLimit, SetMemoryLimit, CreateComplex, DeleteComplex, AddQueue, RemoveQueue}
use Rattle.nqs_types.specs.declared.edit.LimitsEdit.TheVariants.{SetComplexLimit, SetGlobalLimit}
use Rattle.nqs_types.specs.declared.edit.AccessEdit.TheVariants.{SetUnrestrictedAccess, SetNoAccess, AddUser, RemoveUser, AddManager, RemoveManager}
use Rattle.nqs_types.specs.declared.edit.AccessEdit.TheVariants.{AddOperator, RemoveOperator}
use Rattle.nqs_types.specs.declared.edit.DevicesEdit.TheVariants.{CreateDevice, DeleteDevice, EnableDevice, DisableDevice, SetForms, AddDevice, RemoveDevice}
use Rattle.nqs_types.specs.declared.edit.RowsEdit.TheVariants.{AbortQueue, HoldRequest, ReleaseRequest, MoveRequest, ModifyRequest}

-- what a manager, an operator and a user are answered
abbrev pub answers : Command → List (Result (Unit {0}) Refusal)
answers c = map (λ r. may_command r c) (Manager ∷ Operator ∷ User ∷ [])

-- the same of an edit
abbrev pub edit_answers : Edit → List (Result (Unit {0}) Refusal)
edit_answers e = answers (command.Edit e)

-- the edits that operators may make
abbrev pub edits_of_operators : List Edit
edits_of_operators =
    Conf (EnableQueue (codes "q")) ∷ Conf (DisableQueue (codes "q")) ∷ Conf (StartQueue (codes "q")) ∷ Conf (StopQueue (codes "q"))
    ∷ Conf (PurgeQueue (codes "q"))
    ∷ Devices (EnableDevice (codes "d")) ∷ Devices (DisableDevice (codes "d")) ∷ Devices (SetForms (codes "f") (codes "d"))
    ∷ Rows (AbortQueue (codes "q")) ∷ Rows (HoldRequest (named 1 (codes "alpha"))) ∷ Rows (ReleaseRequest (named 1 (codes "alpha")))
    ∷ Rows (MoveRequest (named 1 (codes "alpha")) (codes "q")) ∷ Rows (ModifyRequest (named 1 (codes "alpha")) 1) ∷ []

-- the edits of queues and parameters that only managers may make
abbrev pub queue_edits_of_managers : List Edit
queue_edits_of_managers =
    Conf (CreateBatchQueue (codes "q") None None false) ∷ Conf (CreateDeviceQueue (codes "q") None None false)
    ∷ Conf (CreatePipeQueue (codes "q") None None false None)
    ∷ Conf (DeleteQueue (codes "q")) ∷ Conf (SetPriority 1 (codes "q")) ∷ Conf (SetRunLimit 1 (codes "q"))
    ∷ Conf (AddDestination (typed (codes "q") (codes "beta")) (codes "q")) ∷ Conf (RemoveDestination (typed (codes "q") (codes "beta")) (codes "q"))
    ∷ Conf (FirstDestination (typed (codes "q") (codes "beta")) (codes "q"))
    ∷ Conf (SetDefaultQueue (codes "q")) ∷ Conf SetNoDefaultQueue ∷ Conf (SetPatience 1) ∷ Conf (SetRetryWait 1) ∷ []

-- the other edits that only managers may make
abbrev pub other_edits_of_managers : List Edit
other_edits_of_managers =
    Limits (SetUserLimit None (codes "q")) ∷ Limits (SetCpuLimit None (codes "q")) ∷ Limits (SetMemoryLimit None (codes "q"))
    ∷ Limits (CreateComplex (codes "c"))
    ∷ Limits (DeleteComplex (codes "c")) ∷ Limits (AddQueue (codes "q") (codes "c")) ∷ Limits (RemoveQueue (codes "q") (codes "c"))
    ∷ Limits (SetComplexLimit 1 (codes "c"))
    ∷ Limits (SetGlobalLimit 1)
    ∷ Access (SetUnrestrictedAccess (codes "q")) ∷ Access (SetNoAccess (codes "q")) ∷ Access (AddUser (codes "u") (codes "q"))
    ∷ Access (RemoveUser (codes "u") (codes "q"))
    ∷ Access (AddManager (codes "u")) ∷ Access (RemoveManager (codes "u")) ∷ Access (AddOperator (codes "u")) ∷ Access (RemoveOperator (codes "u"))
    ∷ Devices (CreateDevice (codes "d") (codes "f")) ∷ Devices (DeleteDevice (codes "d")) ∷ Devices (AddDevice (codes "d") (codes "q"))
    ∷ Devices (RemoveDevice (codes "d") (codes "q")) ∷ []

-- the commands that are open to anybody
abbrev pub open_commands : List Command
open_commands =
    command.Submit sample ∷ command.Stat None [] ∷ command.Delete (named 1 (codes "alpha")) true ∷ command.Show 48 ∷ command.Tick
    ∷ command.UnreadLine (grammar.Extra 1) ∷ command.UnreadWords (bad_words words_cause.Missing 0 1) ∷ []

-- both lists have mia, the managers' one root, the operators' one op
abbrev pub ranked : Plain
ranked = record fresh { managers = codes "root" ∷ codes "mia" ∷ []; operators = codes "op" ∷ codes "mia" ∷ [] }

-- the ranks of these users
abbrev pub ranks_of : List (List ℕ) → List Rank
ranks_of users = map (λ u. rank u ranked) users
