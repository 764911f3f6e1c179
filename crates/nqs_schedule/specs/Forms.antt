-- The forms of lines: which words follow the first one, and the event that they make.
use Rattle.std.specs.Prelude.{ℕ, List, codes}
use Rattle.nqs_types.specs.declared.ids.HostId.{HostId}
use Rattle.nqs_types.specs.declared.ids.RequestId.{RequestId}
use Rattle.nqs_base.specs.declared.tear.Tear.{Tear}
use Rattle.nqs_types.specs.declared.world.Which.{Which}
use Rattle.nqs_types.specs.declared.world.WorldEvent.{WorldEvent}
use Rattle.nqs_rules.specs.Tests.{last_u64}
use Rattle.nqs_types.specs.declared.world.WorldEvent.TheVariants as event
use Rattle.nqs_schedule.specs.declared.cause.Cause.{Cause}
use Rattle.nqs_schedule.specs.declared.cause.Cause.TheVariants as cause
use Rattle.nqs_schedule.specs.declared.plan.Verb.{Verb}
use Rattle.nqs_schedule.specs.declared.plan.Verb.TheVariants as verb

-- what may stand from a word of a line on, by the kind of that word, and the event that all of them
-- make
pub data Form : Type 0 where
  -- no such line, for this cause
  never : Cause → Form
  -- no further word
  done : WorldEvent → Form
  -- a HOST of the site, and what follows it
  host : (HostId → Form) → Form
  -- a NAME or a USER
  name : (List ℕ → Form) → Form
  -- an ID
  request : (RequestId → Form) → Form
  -- a number within two bounds
  number : ℕ → ℕ → (ℕ → Form) → Form
  -- a DISK
  disk : (Which → Form) → Form
  -- a TEAR
  tear : (Tear → Form) → Form
  -- any word
  text : (List ℕ → Form) → Form
  -- any number of words
  words : (List (List ℕ) → WorldEvent) → Form
  -- nothing, OUT, or OUT and ERR
  outputs : (List ℕ → List ℕ → WorldEvent) → Form
  -- the rest of the line, as it is
  rest : (List ℕ → WorldEvent) → Form

-- the first word of a line
abbrev pub verb_text : Verb → List ℕ
verb_text verb.Hosts = codes "hosts"
verb_text verb.Submit = codes "submit"
verb_text verb.Qsub = codes "qsub"
verb_text verb.Qmgr = codes "qmgr"
verb_text verb.Qstat = codes "qstat"
verb_text verb.Qdel = codes "qdel"
verb_text verb.End = codes "end"
verb_text verb.Finish = codes "finish"
verb_text verb.Fail = codes "fail"
verb_text verb.Written = codes "written"
verb_text verb.Unwritten = codes "unwritten"
verb_text verb.Deliver = codes "deliver"
verb_text verb.Newest = codes "newest"
verb_text verb.Tick = codes "tick"
verb_text verb.Clock = codes "clock"
verb_text verb.Fuse = codes "fuse"
verb_text verb.Crash = codes "crash"
verb_text verb.Boot = codes "boot"
verb_text verb.Show = codes "show"

-- what follows the first word; a line of hosts is no event
unfoldable pub form_of : Verb → Form
form_of verb.Hosts = never cause.LateHosts
form_of verb.Submit = name (λ user. name (λ title. done (event.Submit user title)))
form_of verb.Qsub = host (λ h. name (λ user. text (λ script. words (λ options. event.Qsub h user script options))))
form_of verb.Qmgr = host (λ h. name (λ user. rest (λ line. event.Qmgr h user line)))
form_of verb.Qstat = host (λ h. name (λ user. words (λ asked. event.Qstat h user asked)))
form_of verb.Qdel = host (λ h. name (λ user. words (λ asked. event.Qdel h user asked)))
form_of verb.End = host (λ h. request (λ id. number 0 65535 (λ start. number 0 255 (λ status. outputs (λ out err. event.End h id start status out err)))))
form_of verb.Finish = host (λ h. done (event.Finish h))
form_of verb.Fail = host (λ h. request (λ id. number 0 65535 (λ start. done (event.Fail h id start))))
form_of verb.Written = host (λ h. number 0 last_u64 (λ file. done (event.Written h file)))
form_of verb.Unwritten = host (λ h. number 0 last_u64 (λ file. done (event.Unwritten h file)))
form_of verb.Deliver = number 1 last_u64 (λ packet. done (event.Deliver packet))
form_of verb.Newest = host (λ one. host (λ other. done (event.Newest one other)))
form_of verb.Tick = host (λ h. done (event.Tick h))
form_of verb.Clock = number 0 last_u64 (λ moment. done (event.Clock moment))
form_of verb.Fuse = host (λ h. disk (λ d. number 0 last_u64 (λ calls. tear (λ t. done (event.Fuse h d calls t)))))
form_of verb.Crash = host (λ h. done (event.Crash h))
form_of verb.Boot = host (λ h. done (event.Boot h))
form_of verb.Show = done event.Show
