-- Who may do what: ranks, the way into a queue, and the edits of lists of users.
use Rattle.std.specs.Prelude.{ℕ, Bool, true, false, not, ◌&&◌, nat_le, if◌then◌else◌, List, [], ◌∷◌, ◌++◌, filter, length, codes, Result}
use Rattle.nqs_base.specs.Same.{name_eq}
use Rattle.nqs_state.specs.State.{State}
use Rattle.nqs_rules.specs.Tests.{passes}
use Rattle.nqs_rules.specs.Causes.{Cause, cause, first_refusal}
use Rattle.nqs_rules.specs.Find.{has_name, has_queue, find_queue}
use Rattle.nqs_types.specs.declared.queue.Access.{Access}
use Rattle.nqs_types.specs.declared.queue.Access.TheVariants.{All, Users}
use Rattle.nqs_types.specs.declared.queue.QueueDef.{QueueDef}
use Rattle.nqs_types.specs.declared.rule.Rank.{Rank}
use Rattle.nqs_types.specs.declared.rule.Rank.TheVariants.{Manager, Operator, User}
use Rattle.nqs_types.specs.declared.rule.Entry.{Entry}
use Rattle.nqs_types.specs.declared.rule.Entry.TheVariants.{Direct, FromPipe}
use Rattle.nqs_types.specs.declared.refusal.Refusal.{Refusal}
use Rattle.nqs_types.specs.declared.refusal.Refusal.TheVariants.{NotManager, NotOperator, NoQueue, Disabled, PipeOnly, NoAccess, IsMember, NotMember, KeepRoot}
use Rattle.nqs_types.specs.declared.refusal.Refusal.TheVariants.{TooMany}
use Rattle.nqs_types.specs.declared.edit.AccessEdit.{AccessEdit}
use Rattle.nqs_types.specs.declared.edit.AccessEdit.TheVariants.{SetUnrestrictedAccess, SetNoAccess, AddUser, RemoveUser, AddManager, RemoveManager}
use Rattle.nqs_types.specs.declared.edit.AccessEdit.TheVariants.{AddOperator, RemoveOperator}
use Rattle.nqs_types.specs.declared.edit.ConfEdit.{ConfEdit}
use Rattle.nqs_types.specs.declared.edit.ConfEdit.TheVariants.{EnableQueue, DisableQueue, StartQueue, StopQueue, PurgeQueue}
use Rattle.nqs_types.specs.declared.edit.DevicesEdit.{DevicesEdit}
use Rattle.nqs_types.specs.declared.edit.DevicesEdit.TheVariants.{EnableDevice, DisableDevice, SetForms}
use Rattle.nqs_types.specs.declared.edit.Edit.{Edit}
use Rattle.nqs_types.specs.declared.edit.Edit.TheVariants.{Conf, Limits as LimitsOf, Access as AccessOf, Devices as DevicesOf, Rows as RowsOf}
use Rattle.nqs_types.specs.declared.event.Command.{Command}
use Rattle.nqs_types.specs.declared.event.Command.TheVariants.{Edit as EditOf, Shutdown}

-- ranks

-- the rank of a user: manager before operator, else an ordinary user
abbrev pub rank : {E : Type 0} → List ℕ → State E → Rank
rank user s = if has_name s.managers user then Manager else (if has_name s.operators user then Operator else User)

-- whether a rank is a manager's
abbrev pub is_manager : Rank → Bool
is_manager Manager = true
is_manager Operator = false
is_manager User = false

-- whether a rank is neither a manager's nor an operator's
abbrev pub is_plain_user : Rank → Bool
is_plain_user Manager = false
is_plain_user Operator = false
is_plain_user User = true

-- the running of queues, devices and requests is open to operators, all other edits to managers

-- the edits of queues that operators may make too
abbrev pub is_conf_of_operators : ConfEdit → Bool
is_conf_of_operators (EnableQueue _) = true
is_conf_of_operators (DisableQueue _) = true
is_conf_of_operators (StartQueue _) = true
is_conf_of_operators (StopQueue _) = true
is_conf_of_operators (PurgeQueue _) = true
is_conf_of_operators _ = false

-- the edits of devices that operators may make too
abbrev pub is_device_edit_of_operators : DevicesEdit → Bool
is_device_edit_of_operators (EnableDevice _) = true
is_device_edit_of_operators (DisableDevice _) = true
is_device_edit_of_operators (SetForms _ _) = true
is_device_edit_of_operators _ = false

-- the edits that operators may make too
abbrev pub is_of_operators : Edit → Bool
is_of_operators (Conf e) = is_conf_of_operators e
is_of_operators (LimitsOf _) = false
is_of_operators (AccessOf _) = false
is_of_operators (DevicesOf e) = is_device_edit_of_operators e
is_of_operators (RowsOf _) = true

-- what a rank is refused: what operators may do, or what managers alone may do
abbrev pub rank_causes : Bool → Rank → List Cause
rank_causes true r = cause (is_plain_user r) NotOperator ∷ []
rank_causes false r = cause (not (is_manager r)) NotManager ∷ []

-- why a command is refused for the rank of who gives it
abbrev pub command_causes : Rank → Command → List Cause
command_causes r (EditOf e) = rank_causes (is_of_operators e) r
command_causes r Shutdown = rank_causes false r
command_causes r _ = []

-- whether a rank may give a command
abbrev pub may_command : Rank → Command → Result (Unit {0}) Refusal
may_command r c = first_refusal (command_causes r c)

-- the way into a queue

-- whether a request comes from a user, and not out of a pipe queue
abbrev pub is_direct : Entry → Bool
is_direct Direct = true
is_direct FromPipe = false

-- whether a list of access lets a user in
abbrev pub admits : Access → List ℕ → Bool
admits All user = true
admits (Users users) user = has_name users user

-- why a user's request isn't let into a queue
abbrev pub entry_causes : QueueDef → List ℕ → Entry → List Cause
entry_causes d user entry =
    cause (not d.enabled) (Disabled d.name) ∷ cause (d.pipe_only && is_direct entry) (PipeOnly d.name) ∷ cause (not (admits d.access user)) (NoAccess d.name)
    ∷ []

-- whether a user's request may enter a queue
abbrev pub may_use : QueueDef → List ℕ → Entry → Result (Unit {0}) Refusal
may_use d user entry = first_refusal (entry_causes d user entry)

-- edits

-- whether everybody may use the queue
abbrev pub lists_all : Access → Bool
lists_all All = true
lists_all (Users _) = false

-- whether a list of users has no room for another: 256 are the most
abbrev pub is_full : Access → Bool
is_full All = false
is_full (Users users) = nat_le 256 (length users)

-- whether a queue's list lets a user in
abbrev pub lists_user : List ℕ → QueueDef → Bool
lists_user user d = admits d.access user

-- whether a user stands by name in a queue's list
abbrev pub may_remove : List ℕ → QueueDef → Bool
may_remove user d = not (lists_all d.access) && admits d.access user

-- whether a queue's list of users is full
abbrev pub has_full_list : QueueDef → Bool
has_full_list d = is_full d.access

-- whether a user is root, who stays a manager
abbrev pub is_root : List ℕ → Bool
is_root user = name_eq (codes "root") user

-- what keeps a user from being added to a list of managers or operators
abbrev pub add_name_causes : List (List ℕ) → List ℕ → List Cause
add_name_causes names user = cause (has_name names user) IsMember ∷ cause (nat_le 256 (length names)) TooMany ∷ []

module _ {E : Type 0} where
  -- the causes for which an edit of users is refused, in order
  abbrev pub access_causes : AccessEdit → State E → List Cause
  access_causes (SetUnrestrictedAccess q) s = cause (not (has_queue q s)) (NoQueue q) ∷ []
  access_causes (SetNoAccess q) s = cause (not (has_queue q s)) (NoQueue q) ∷ []
  access_causes (AddUser user q) s =
      cause (not (has_queue q s)) (NoQueue q) ∷ cause (passes (lists_user user) (find_queue q s)) IsMember
      ∷ cause (passes has_full_list (find_queue q s)) TooMany ∷ []
  access_causes (RemoveUser user q) s = cause (not (has_queue q s)) (NoQueue q) ∷ cause (not (passes (may_remove user) (find_queue q s))) NotMember ∷ []
  access_causes (AddManager user) s = add_name_causes s.managers user
  access_causes (RemoveManager user) s = cause (not (has_name s.managers user)) NotMember ∷ cause (is_root user) KeepRoot ∷ []
  access_causes (AddOperator user) s = add_name_causes s.operators user
  access_causes (RemoveOperator user) s = cause (not (has_name s.operators user)) NotMember ∷ []

-- a list without a name
abbrev pub without_name : List ℕ → List (List ℕ) → List (List ℕ)
without_name name names = filter (λ n. not (name_eq name n)) names

-- a list of access with one user more
abbrev pub with_user : List ℕ → Access → Access
with_user user All = All
with_user user (Users users) = Users (users ++ user ∷ [])

-- a list of access without a user
abbrev pub without_user : List ℕ → Access → Access
without_user user All = All
without_user user (Users users) = Users (without_name user users)

-- what an edit of users makes of its queue
abbrev pub access_edited : AccessEdit → QueueDef → QueueDef
access_edited (SetUnrestrictedAccess _) d = record d { access = All }
access_edited (SetNoAccess _) d = record d { access = Users [] }
access_edited (AddUser user _) d = record d { access = with_user user d.access }
access_edited (RemoveUser user _) d = record d { access = without_user user d.access }
access_edited _ d = d
