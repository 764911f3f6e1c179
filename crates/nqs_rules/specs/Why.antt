-- Why a request doesn't run, as it is told: the texts of reasons, and of the answers of
-- destinations.
use Rattle.std.specs.Prelude.{ℕ, ◌==◌, nat_le, if◌then◌else◌, List, [], ◌∷◌, ◌++◌, map, codes, Option, None, Some}
use Rattle.std.specs.List.{flat_map}
use Rattle.std.specs.Fmt.{decimal}
use Rattle.nqs_text.specs.Dates.{date_text, last_moment}
use Rattle.nqs_state.specs.State.{State}
use Rattle.nqs_rules.specs.Tests.{is_queued}
use Rattle.nqs_rules.specs.Find.{find_queue}
use Rattle.nqs_rules.specs.Handover.{name_at}
use Rattle.nqs_rules.specs.Text.{Text, id_text}
use Rattle.nqs_rules.specs.Reasons.{reasons_of, count_before}
use Rattle.nqs_rules.specs.Answers.{answer_of}
use Rattle.nqs_types.specs.declared.ids.RequestId.{RequestId}
use Rattle.nqs_types.specs.declared.ids.Dest.{Dest}
use Rattle.nqs_types.specs.declared.request.Row.{Row}
use Rattle.nqs_types.specs.declared.request.RowState.{RowState}
use Rattle.nqs_types.specs.declared.queue.QueueDef.{QueueDef}
use Rattle.nqs_types.specs.declared.reason.Reason.{Reason}
use Rattle.nqs_types.specs.declared.reason.Reason.TheVariants.{Runs, OnItsWay, HeldByUser, HeldBySystem, NotBefore, NoQueue, QueueStopped, UserLimit}
use Rattle.nqs_types.specs.declared.reason.Reason.TheVariants.{RunLimit, ComplexLimit, GlobalLimit, NoDevice, NoDestination, Next}
use Rattle.nqs_types.specs.declared.reason.DestAnswer.{DestAnswer}
use Rattle.nqs_types.specs.declared.reason.DestAnswer.TheVariants.{Refused, NoHost, NoNumberLeft, HandingOver, NotSettled, WaitedFor, MayBeTried}

-- a moment as its date, and past the last day that has one as its seconds since 1970
abbrev pub when_text : ℕ → Text
when_text moment = if nat_le moment last_moment then date_text moment else decimal moment

-- a limit that is reached: its number, and whose it is
abbrev pub limit_text : Text → ℕ → Text → Text → Text
limit_text before limit of name = before ++ decimal limit ++ (of ++ name ++ codes " is reached")

-- the forms that are asked for, if any
abbrev pub forms_text : Option Text → Text
forms_text None = []
forms_text (Some forms) = codes " with forms " ++ forms

-- how many requests of a queue come before one
abbrev pub next_text : Text → ℕ → Text
next_text queue count =
    if count == 0 then codes "it is next in queue " ++ queue
    else (if count == 1 then codes "1 request of the queue comes before it" else decimal count ++ codes " requests of the queue come before it")

-- the text of a reason of a request of a queue
abbrev pub reason_text : Text → Reason → Text
reason_text queue Runs = codes "it runs"
reason_text queue OnItsWay = codes "it is on its way to another host"
reason_text queue HeldByUser = codes "it is held"
reason_text queue HeldBySystem = codes "the system holds it"
reason_text queue (NotBefore moment) = codes "it may not start before " ++ when_text moment
reason_text queue NoQueue = codes "no queue " ++ queue
reason_text queue QueueStopped = codes "queue " ++ queue ++ codes " is stopped"
reason_text queue (UserLimit limit) = limit_text (codes "the user limit ") limit (codes " of queue ") queue
reason_text queue (RunLimit limit) = limit_text (codes "the run limit ") limit (codes " of queue ") queue
reason_text queue (ComplexLimit complex limit) = limit_text (codes "the limit ") limit (codes " of complex ") complex
reason_text queue (GlobalLimit limit) = codes "the global limit " ++ decimal limit ++ codes " is reached"
reason_text queue (NoDevice forms) = codes "no device of queue " ++ queue ++ forms_text forms ++ codes " is free"
reason_text queue NoDestination = codes "no destination of queue " ++ queue ++ codes " may be tried now"
reason_text queue (Next count) = next_text queue count

-- the text of a destination's answer
abbrev pub answer_text : DestAnswer → Text
answer_text (Refused number) = codes "refused with number " ++ decimal number
answer_text NoHost = codes "no such host"
answer_text NoNumberLeft = codes "all numbers are used"
answer_text HandingOver = codes "its host is being handed eight requests"
answer_text (NotSettled number) = codes "its host has not settled handover " ++ decimal number
answer_text (WaitedFor moment) = codes "its host is waited for until " ++ when_text moment
answer_text MayBeTried = codes "may be tried"

-- a request, and its reason
abbrev pub reason_line : List Text → RequestId → Text → Reason → Text
reason_line site id queue reason = codes "Request " ++ id_text site id ++ codes ": " ++ reason_text queue reason ++ codes "."

-- a destination, and its answer
abbrev pub dest_line : List Text → (Dest → DestAnswer) → Dest → Text
dest_line site answer dest = dest.queue ++ codes "@" ++ name_at dest.host.0 site ++ codes ": " ++ answer_text (answer dest) ++ codes "."

-- the destinations of the queue, each with its answer, where the reason is that none may be tried
abbrev pub dest_lines : List Text → Reason → Option QueueDef → (Dest → DestAnswer) → List Text
dest_lines site NoDestination (Some d) answer = map (dest_line site answer) d.dests
dest_lines site _ _ answer = []

-- how many wait before a request that is queued
abbrev pub before_lines : RowState → ℕ → List Text
before_lines state count = if is_queued state then (codes "Requests that wait before it: " ++ decimal count ++ codes ".") ∷ [] else []

module _ {E : Type 0} where
  -- a reason of a request, and behind it the destinations, where none may be tried
  abbrev pub told_lines : ℕ → State E → Row E → Reason → List Text
  told_lines now s r reason =
      reason_line s.site r.id r.queue reason ∷ dest_lines s.site reason (find_queue r.queue s) (answer_of now s r)

  -- what is told of a request at a moment: all its reasons, and how many wait before it
  abbrev pub why_lines : ℕ → State E → Row E → List Text
  why_lines now s r = flat_map (told_lines now s r) (reasons_of now s r) ++ before_lines r.state (count_before now s r)
