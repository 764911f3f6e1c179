-- Which line has which shape, and how lines are read.
use Rattle.std.specs.Prelude.{ℕ, Bool, true, ◌&&◌, List, [], ◌∷◌, map, filter, find, Option, Ok, Err}
use Rattle.std.specs.Option.{option_map_or}
use Rattle.nqs_types.specs.declared.ids.Named.{Named}
use Rattle.nqs_types.specs.declared.fault.GrammarFault.{GrammarFault}
use Rattle.nqs_types.specs.declared.fault.GrammarFault.TheVariants as fault
use Rattle.nqs_types.specs.declared.event.Command.{Command}
use Rattle.nqs_types.specs.declared.event.Command.TheVariants as command
use Rattle.nqs_types.specs.declared.edit.Edit.TheVariants as edit
use Rattle.nqs_types.specs.declared.edit.ConfEdit.{ConfEdit}
use Rattle.nqs_types.specs.declared.edit.ConfEdit.TheVariants as conf
use Rattle.nqs_types.specs.declared.edit.LimitsEdit.{LimitsEdit}
use Rattle.nqs_types.specs.declared.edit.LimitsEdit.TheVariants as limits
use Rattle.nqs_types.specs.declared.edit.AccessEdit.{AccessEdit}
use Rattle.nqs_types.specs.declared.edit.AccessEdit.TheVariants as access
use Rattle.nqs_types.specs.declared.edit.DevicesEdit.{DevicesEdit}
use Rattle.nqs_types.specs.declared.edit.DevicesEdit.TheVariants as devices
use Rattle.nqs_types.specs.declared.edit.RowsEdit.{RowsEdit}
use Rattle.nqs_types.specs.declared.edit.RowsEdit.TheVariants as rows
use Rattle.nqs_words.specs.Values.{name_of, number_of, dest_of}
use Rattle.nqs_words.specs.Keywords.{is_same}
use Rattle.nqs_words.specs.declared.keyword.Keyword.{Keyword}
use Rattle.nqs_words.specs.declared.keyword.Keyword.TheVariants as k
use Rattle.nqs_qmgr.specs.declared.head.Head.{Head}
use Rattle.nqs_qmgr.specs.declared.value.Amount.TheVariants.{Count, Time, Size}
use Rattle.nqs_qmgr.specs.declared.options.Settings.{Settings}
use Rattle.nqs_qmgr.specs.Read.{Read, ◌>>=◌}
use Rattle.nqs_qmgr.specs.Heads.{name_at, request_at, nothing_after, last_name, head_at, bare, valued, limit_of}
use Rattle.nqs_qmgr.specs.Options.{options, no_settings}
use Rattle.nqs_qmgr.specs.Shapes.{Shape, nothing, alone, one_name, number, name_value, number_and_name, limit_and_name, two_names, dest_and_name, one_request}
use Rattle.nqs_qmgr.specs.Shapes.{request_and_name, request_and_priority, name_and_forms, made_queue}

-- ---- commands

-- an edit of queues or parameters as a command
abbrev pub of_conf : ConfEdit → Command
of_conf e = command.Edit (edit.Conf e)

-- an edit of limits or complexes as a command
abbrev pub of_limits : LimitsEdit → Command
of_limits e = command.Edit (edit.Limits e)

-- an edit of who may do what as a command
abbrev pub of_access : AccessEdit → Command
of_access e = command.Edit (edit.Access e)

-- an edit of devices as a command
abbrev pub of_devices : DevicesEdit → Command
of_devices e = command.Edit (edit.Devices e)

-- an edit of requests as a command
abbrev pub of_rows : RowsEdit → Command
of_rows e = command.Edit (edit.Rows e)

-- ---- the table of lines

-- options of a batch or device queue
abbrev pub queue_words : List Keyword
queue_words = k.Priority ∷ k.RunLimit ∷ k.PipeOnly ∷ []

-- options of a pipe queue
abbrev pub pipe_words : List Keyword
pipe_words = k.Priority ∷ k.RunLimit ∷ k.PipeOnly ∷ k.Destination ∷ []

-- a line of qmgr: its verb, its second keyword, and what stands from there on
pub record Line : Type 0 where
  pub verb : Keyword
  pub noun : Keyword
  pub shape : Shape

-- a line by its verb and its second keyword
abbrev pub row : Keyword → Keyword → Shape → Line
row verb noun shape = record { verb = verb; noun = noun; shape = shape }

-- all lines but `shutdown`, which is a verb alone
unfoldable pub table : List Line
table =
    row k.Create k.BatchQueue (made_queue queue_words (λ q s. of_conf (conf.CreateBatchQueue q s.priority s.run_limit s.pipe_only)))
    ∷ row k.Create k.DeviceQueue (made_queue queue_words (λ q s. of_conf (conf.CreateDeviceQueue q s.priority s.run_limit s.pipe_only)))
    ∷ row k.Create k.PipeQueue (made_queue pipe_words (λ q s. of_conf (conf.CreatePipeQueue q s.priority s.run_limit s.pipe_only s.destination)))
    ∷ row k.Create k.Complex (one_name (λ c. of_limits (limits.CreateComplex c)))
    ∷ row k.Create k.Device (name_and_forms (λ d f. of_devices (devices.CreateDevice d f)))
    ∷ row k.Delete k.Queue (one_name (λ q. of_conf (conf.DeleteQueue q)))
    ∷ row k.Delete k.Complex (one_name (λ c. of_limits (limits.DeleteComplex c)))
    ∷ row k.Delete k.Device (one_name (λ d. of_devices (devices.DeleteDevice d)))
    ∷ row k.Delete k.Request (one_request (λ r. command.Delete r true))
    ∷ row k.Enable k.Queue (one_name (λ q. of_conf (conf.EnableQueue q)))
    ∷ row k.Enable k.Device (one_name (λ d. of_devices (devices.EnableDevice d)))
    ∷ row k.Disable k.Queue (one_name (λ q. of_conf (conf.DisableQueue q)))
    ∷ row k.Disable k.Device (one_name (λ d. of_devices (devices.DisableDevice d)))
    ∷ row k.Start k.Queue (one_name (λ q. of_conf (conf.StartQueue q)))
    ∷ row k.Stop k.Queue (one_name (λ q. of_conf (conf.StopQueue q)))
    ∷ row k.Purge k.Queue (one_name (λ q. of_conf (conf.PurgeQueue q)))
    ∷ row k.Abort k.Queue (one_name (λ q. of_rows (rows.AbortQueue q)))
    ∷ row k.Set k.Priority (number_and_name 0 63 (λ n q. of_conf (conf.SetPriority n q)))
    ∷ row k.Set k.RunLimit (number_and_name 0 10000 (λ n q. of_conf (conf.SetRunLimit n q)))
    ∷ row k.Set k.UserLimit (limit_and_name Count (λ l q. of_limits (limits.SetUserLimit l q)))
    ∷ row k.Set k.CpuLimit (limit_and_name Time (λ l q. of_limits (limits.SetCpuLimit l q)))
    ∷ row k.Set k.MemoryLimit (limit_and_name Size (λ l q. of_limits (limits.SetMemoryLimit l q)))
    ∷ row k.Set k.ComplexLimit (number_and_name 0 10000 (λ n c. of_limits (limits.SetComplexLimit n c)))
    ∷ row k.Set k.GlobalLimit (number 0 10000 (λ n. of_limits (limits.SetGlobalLimit n)))
    ∷ row k.Set k.Forms (two_names (λ f d. of_devices (devices.SetForms f d)))
    ∷ row k.Set k.UnrestrictedAccess (one_name (λ q. of_access (access.SetUnrestrictedAccess q)))
    ∷ row k.Set k.NoAccess (one_name (λ q. of_access (access.SetNoAccess q)))
    ∷ row k.Set k.DefaultQueue (name_value (λ q. of_conf (conf.SetDefaultQueue q)))
    ∷ row k.Set k.NoDefaultQueue (alone (of_conf conf.SetNoDefaultQueue))
    ∷ row k.Set k.Patience (number 1 86400 (λ n. of_conf (conf.SetPatience n)))
    ∷ row k.Set k.RetryWait (number 1 86400 (λ n. of_conf (conf.SetRetryWait n)))
    ∷ row k.Add k.Destination (dest_and_name (λ d q. of_conf (conf.AddDestination d q)))
    ∷ row k.Add k.Queue (two_names (λ q c. of_limits (limits.AddQueue q c)))
    ∷ row k.Add k.Device (two_names (λ d q. of_devices (devices.AddDevice d q)))
    ∷ row k.Add k.User (two_names (λ u q. of_access (access.AddUser u q)))
    ∷ row k.Add k.Manager (name_value (λ u. of_access (access.AddManager u)))
    ∷ row k.Add k.Operator (name_value (λ u. of_access (access.AddOperator u)))
    ∷ row k.Remove k.Destination (dest_and_name (λ d q. of_conf (conf.RemoveDestination d q)))
    ∷ row k.Remove k.Queue (two_names (λ q c. of_limits (limits.RemoveQueue q c)))
    ∷ row k.Remove k.Device (two_names (λ d q. of_devices (devices.RemoveDevice d q)))
    ∷ row k.Remove k.User (two_names (λ u q. of_access (access.RemoveUser u q)))
    ∷ row k.Remove k.Manager (name_value (λ u. of_access (access.RemoveManager u)))
    ∷ row k.Remove k.Operator (name_value (λ u. of_access (access.RemoveOperator u)))
    ∷ row k.First k.Destination (dest_and_name (λ d q. of_conf (conf.FirstDestination d q)))
    ∷ row k.Hold k.Request (one_request (λ r. of_rows (rows.HoldRequest r)))
    ∷ row k.Release k.Request (one_request (λ r. of_rows (rows.ReleaseRequest r)))
    ∷ row k.Move k.Request (request_and_name (λ r q. of_rows (rows.MoveRequest r q)))
    ∷ row k.Modify k.Request (request_and_priority (λ r n. of_rows (rows.ModifyRequest r n)))
    ∷ row k.Show k.Queues (alone (command.Show 48))
    ∷ row k.Show k.Devices (alone (command.Show 49))
    ∷ row k.Show k.Complexes (alone (command.Show 50))
    ∷ row k.Show k.Managers (alone (command.Show 51))
    ∷ row k.Show k.Parameters (alone (command.Show 52))
    ∷ row k.Show k.Why (one_request (λ r. command.Why r))
    ∷ []

-- what a line begins with
unfoldable pub verbs : List Keyword
verbs = k.Abort ∷ k.Add ∷ k.Create ∷ k.Delete ∷ k.Disable ∷ k.Enable ∷ k.First ∷ k.Hold ∷ k.Modify ∷ k.Move ∷ k.Purge ∷ k.Release ∷ k.Remove ∷ k.Set ∷ k.Show
    ∷ k.Shutdown ∷ k.Start ∷ k.Stop ∷ []

-- a line has this verb
abbrev pub is_of : Keyword → Line → Bool
is_of verb l = is_same verb l.verb

-- and this second keyword
abbrev pub is_line : Keyword → Keyword → Line → Bool
is_line verb noun l = is_of verb l && is_same noun l.noun

-- the second keywords of a verb
unfoldable pub nouns : Keyword → List Keyword
nouns verb = map (λ (l : Line). l.noun) (filter (is_of verb) table)

-- what stands from a second keyword on
unfoldable pub shape_of : Keyword → Keyword → Shape
shape_of verb noun = option_map_or (λ (l : Line). l.shape) (find (is_line verb noun) table) nothing

-- ---- reading a shape, from its keyword on

-- a keyword without a value, and nothing behind it
unfoldable pub read_alone : List ℕ → Head → Read (Unit {0})
read_alone line head = do
  place ← bare head
  nothing_after line place

-- a name behind the keyword, and nothing more
unfoldable pub read_one_name : List ℕ → Head → Read (List ℕ)
read_one_name line head = do
  place ← bare head
  last_name line place

-- a value, and nothing behind it
unfoldable pub read_value : {A : Type 0} → (List ℕ → Option A) → (ℕ → GrammarFault) → List ℕ → Head → Read A
read_value read bad line head = do
  a ← valued read bad line head
  done ← nothing_after line head.word.end
  Ok a

-- a value, and a name behind it
unfoldable pub read_value_and_name : {A : Type 0} → (List ℕ → Option A) → (ℕ → GrammarFault) → List ℕ → Head → Read (A × List ℕ)
read_value_and_name read bad line head = do
  a ← valued read bad line head
  name ← last_name line head.word.end
  Ok (a, name)

-- a request behind the keyword, and nothing more
unfoldable pub read_one_request : List ℕ → Head → Read Named
read_one_request line head = do
  place ← bare head
  id ← request_at line place
  done ← nothing_after line id.1
  Ok id.0

-- a request and a name behind the keyword, and nothing more
unfoldable pub read_request_and_name : List ℕ → Head → Read (Named × List ℕ)
read_request_and_name line head = do
  place ← bare head
  id ← request_at line place
  name ← last_name line id.1
  Ok (id.0, name)

-- a keyword with its value, and nothing behind it
unfoldable pub last_value : {A : Type 0} → (List ℕ → Option A) → (ℕ → GrammarFault) → Keyword → List ℕ → ℕ → Read A
last_value read bad keyword line place = do
  head ← head_at (keyword ∷ []) line place
  read_value read bad line head

-- a request and its new priority behind the keyword, and nothing more
unfoldable pub read_request_and_priority : List ℕ → Head → Read (Named × ℕ)
read_request_and_priority line head = do
  place ← bare head
  id ← request_at line place
  n ← last_value (number_of 0 63) fault.BadNumber k.Priority line id.1
  Ok (id.0, n)

-- a name and the forms behind the keyword, and nothing more
unfoldable pub read_name_and_forms : List ℕ → Head → Read (List ℕ × List ℕ)
read_name_and_forms line head = do
  place ← bare head
  name ← name_at line place
  forms ← last_value name_of fault.BadName k.Forms line name.1
  Ok (name.0, forms)

-- the name of a new queue behind the keyword, and what its options set
unfoldable pub read_made_queue : List Keyword → List ℕ → Head → Read (List ℕ × Settings)
read_made_queue keywords line head = do
  place ← bare head
  name ← name_at line place
  settings ← options 5 keywords line name.1 no_settings
  Ok (name.0, settings)

-- the command of a line of this shape
unfoldable pub read_shape : Shape → List ℕ → Head → Read Command
read_shape nothing line head = Err (fault.UnknownWord head.word.start)
read_shape (alone c) line head = read_alone line head >>= (λ done. Ok c)
read_shape (one_name f) line head = read_one_name line head >>= (λ q. Ok (f q))
read_shape (number low high f) line head = read_value (number_of low high) fault.BadNumber line head >>= (λ n. Ok (f n))
read_shape (name_value f) line head = read_value name_of fault.BadName line head >>= (λ q. Ok (f q))
read_shape (number_and_name low high f) line head = read_value_and_name (number_of low high) fault.BadNumber line head >>= (λ p. Ok (f p.0 p.1))
read_shape (limit_and_name amount f) line head = read_value_and_name (limit_of amount) fault.BadNumber line head >>= (λ p. Ok (f p.0 p.1))
read_shape (two_names f) line head = read_value_and_name name_of fault.BadName line head >>= (λ p. Ok (f p.0 p.1))
read_shape (dest_and_name f) line head = read_value_and_name dest_of fault.BadName line head >>= (λ p. Ok (f p.0 p.1))
read_shape (one_request f) line head = read_one_request line head >>= (λ r. Ok (f r))
read_shape (request_and_name f) line head = read_request_and_name line head >>= (λ p. Ok (f p.0 p.1))
read_shape (request_and_priority f) line head = read_request_and_priority line head >>= (λ p. Ok (f p.0 p.1))
read_shape (name_and_forms f) line head = read_name_and_forms line head >>= (λ p. Ok (f p.0 p.1))
read_shape (made_queue keywords f) line head = read_made_queue keywords line head >>= (λ p. Ok (f p.0 p.1))

-- ---- lines

-- the command from the verb on: `shutdown` stands alone, behind any other comes a second keyword
unfoldable pub after_verb : List ℕ → Head → Keyword → Read Command
after_verb line verb k.Shutdown = read_alone line verb >>= (λ done. Ok command.Shutdown)
after_verb line verb keyword = bare verb >>= (λ place. head_at (nouns keyword) line place >>= (λ head. read_shape (shape_of keyword head.keyword) line head))

-- what a line says, or its first fault
unfoldable pub qmgr_line : List ℕ → Read Command
qmgr_line line = head_at verbs line 0 >>= (λ verb. after_verb line verb verb.keyword)
