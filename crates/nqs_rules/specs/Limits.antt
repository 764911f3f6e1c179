-- Resource limits, complexes, and the edits of both.
use Rattle.std.specs.Prelude.{ℕ, Bool, true, false, not, nat_lt, nat_le, List, [], ◌∷◌, ◌++◌, length, Option, Some, Result}
use Rattle.nqs_state.specs.State.{State}
use Rattle.nqs_base_tables.specs.Table.{without_first}
use Rattle.nqs_state.specs.Keys.{is_complex}
use Rattle.nqs_rules.specs.Tests.{passes, is_batch}
use Rattle.nqs_rules.specs.Causes.{Cause, cause, first_refusal}
use Rattle.nqs_rules.specs.Find.{has_name, has_queue, find_queue, has_complex, find_complex}
use Rattle.nqs_rules.specs.Edits.{change_queue, change_complex}
use Rattle.nqs_rules.specs.Access.{without_name}
use Rattle.nqs_rules.specs.Conf.{queue_causes, at_most}
use Rattle.nqs_types.specs.declared.request.Limits.{Limits}
use Rattle.nqs_types.specs.declared.queue.QueueDef.{QueueDef}
use Rattle.nqs_types.specs.declared.queue.ComplexDef.{ComplexDef}
use Rattle.nqs_types.specs.declared.refusal.Refusal.{Refusal}
use Rattle.nqs_types.specs.declared.refusal.Refusal.TheVariants.{NoQueue, NoComplex, ComplexExists, WrongKind, IsMember, NotMember, OverCpu, OverMemory}
use Rattle.nqs_types.specs.declared.refusal.Refusal.TheVariants.{TooMany}
use Rattle.nqs_types.specs.declared.edit.LimitsEdit.{LimitsEdit}
use Rattle.nqs_types.specs.declared.edit.LimitsEdit.TheVariants.{SetUserLimit, SetCpuLimit, SetMemoryLimit, CreateComplex, DeleteComplex, AddQueue, RemoveQueue}
use Rattle.nqs_types.specs.declared.edit.LimitsEdit.TheVariants.{SetComplexLimit, SetGlobalLimit}

-- there is a limit, and more is stated
abbrev pub is_over : Option ℕ → Option ℕ → Bool
is_over (Some limit) (Some stated) = nat_lt limit stated
is_over _ _ = false

-- why a request states more than its queue allows
abbrev pub over_causes : QueueDef → Limits → List Cause
over_causes d l = cause (is_over d.limits.cpu l.cpu) (OverCpu d.name) ∷ cause (is_over d.limits.memory l.memory) (OverMemory d.name) ∷ []

-- whether what a request asks for is within the limits of a queue
abbrev pub over_limits : QueueDef → Limits → Result (Unit {0}) Refusal
over_limits d l = first_refusal (over_causes d l)

-- whether a queue runs scripts
abbrev pub is_batch_queue : QueueDef → Bool
is_batch_queue d = is_batch d.kind

-- whether a complex has this queue
abbrev pub lists_queue : List ℕ → ComplexDef → Bool
lists_queue q c = has_name c.queues q

module _ {E : Type 0} where
  -- that there is no such complex
  abbrev pub complex_causes : List ℕ → State E → List Cause
  complex_causes c s = cause (not (has_complex c s)) (NoComplex c) ∷ []

  -- the causes for which an edit of limits and complexes is refused, in order
  abbrev pub limits_causes : LimitsEdit → State E → List Cause
  limits_causes (SetUserLimit _ q) s = queue_causes q s
  limits_causes (SetCpuLimit _ q) s = queue_causes q s
  limits_causes (SetMemoryLimit _ q) s = queue_causes q s
  limits_causes (CreateComplex c) s = cause (has_complex c s) (ComplexExists c) ∷ cause (nat_le 64 (length s.complexes)) TooMany ∷ []
  limits_causes (DeleteComplex c) s = complex_causes c s
  limits_causes (AddQueue q c) s =
      cause (not (has_complex c s)) (NoComplex c) ∷ cause (not (has_queue q s)) (NoQueue q) ∷ cause (not (passes is_batch_queue (find_queue q s))) WrongKind
      ∷ cause (passes (lists_queue q) (find_complex c s)) IsMember ∷ []
  limits_causes (RemoveQueue q c) s = cause (not (has_complex c s)) (NoComplex c) ∷ cause (not (passes (lists_queue q) (find_complex c s))) NotMember ∷ []
  limits_causes (SetComplexLimit _ c) s = complex_causes c s
  limits_causes (SetGlobalLimit _) s = []

-- what an edit makes of its queue
abbrev pub limits_edited : LimitsEdit → QueueDef → QueueDef
limits_edited (SetUserLimit n _) d = record d { user_limit = n }
limits_edited (SetCpuLimit n _) d = record d { limits = record { cpu = n; memory = d.limits.memory } }
limits_edited (SetMemoryLimit n _) d = record d { limits = record { cpu = d.limits.cpu; memory = n } }
limits_edited _ d = d

-- and of its complex
abbrev pub complex_edited : LimitsEdit → ComplexDef → ComplexDef
complex_edited (AddQueue q _) c = record c { queues = c.queues ++ q ∷ [] }
complex_edited (RemoveQueue q _) c = record c { queues = without_name q c.queues }
complex_edited (SetComplexLimit n _) c = record c { limit = n }
complex_edited _ c = c

-- a created complex has a limit of 1 and no queues
abbrev pub new_complex : List ℕ → ComplexDef
new_complex c = record { name = c; limit = 1; queues = [] }

-- what an edit of limits and complexes makes of a state
abbrev pub limits_applied : {E : Type 0} → LimitsEdit → State E → State E
limits_applied (SetUserLimit n q) s = change_queue q (limits_edited (SetUserLimit n q)) s
limits_applied (SetCpuLimit n q) s = change_queue q (limits_edited (SetCpuLimit n q)) s
limits_applied (SetMemoryLimit n q) s = change_queue q (limits_edited (SetMemoryLimit n q)) s
limits_applied (CreateComplex c) s = record s { complexes = s.complexes ++ new_complex c ∷ [] }
limits_applied (DeleteComplex c) s = record s { complexes = without_first (is_complex c) s.complexes }
limits_applied (AddQueue q c) s = change_complex c (complex_edited (AddQueue q c)) s
limits_applied (RemoveQueue q c) s = change_complex c (complex_edited (RemoveQueue q c)) s
limits_applied (SetComplexLimit n c) s = change_complex c (complex_edited (SetComplexLimit n c)) s
limits_applied (SetGlobalLimit n) s = record s { global_limit = n }

-- the numbers of an edit are within their limits
abbrev pub is_limits_within : LimitsEdit → Bool
is_limits_within (SetUserLimit n _) = at_most 10000 n
is_limits_within (SetComplexLimit n _) = nat_le n 10000
is_limits_within (SetGlobalLimit n) = nat_le n 10000
is_limits_within _ = true
