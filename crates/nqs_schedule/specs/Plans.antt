-- What a line asks for: the event, but that the bytes of long words aren't taken yet.
use Rattle.std.specs.Prelude.{ℕ, List, codes, Option, Some, None, if◌then◌else◌, Ok, Err}
use Rattle.nqs_base.specs.Same.{name_eq}
use Rattle.nqs_types.specs.declared.ids.HostId.{HostId}
use Rattle.nqs_types.specs.declared.world.WorldEvent.TheVariants as event
use Rattle.nqs_schedule.specs.declared.cause.Cause.TheVariants as cause
use Rattle.nqs_schedule.specs.declared.words.LineWords.{LineWords}
use Rattle.nqs_schedule.specs.declared.plan.Verb.{Verb}
use Rattle.nqs_schedule.specs.declared.plan.Verb.TheVariants as verb
use Rattle.nqs_schedule.specs.declared.plan.Plan.{Plan}
use Rattle.nqs_schedule.specs.declared.plan.Plan.TheVariants as plan
use Rattle.nqs_schedule.specs.Words.{Read, ◌>>=◌, text_there, name_at, number_at, host_at, request_at, disk_at, tear_at, output_at, nothing_at, all_good}

-- the first word of a line
unfoldable pub verb_of : List ℕ → Option Verb
verb_of text =
    if name_eq (codes "hosts") text then Some verb.Hosts else
    (if name_eq (codes "submit") text then Some verb.Submit else
    (if name_eq (codes "qsub") text then Some verb.Qsub else
    (if name_eq (codes "qmgr") text then Some verb.Qmgr else
    (if name_eq (codes "qstat") text then Some verb.Qstat else
    (if name_eq (codes "qdel") text then Some verb.Qdel else
    (if name_eq (codes "end") text then Some verb.End else
    (if name_eq (codes "finish") text then Some verb.Finish else
    (if name_eq (codes "fail") text then Some verb.Fail else
    (if name_eq (codes "written") text then Some verb.Written else
    (if name_eq (codes "unwritten") text then Some verb.Unwritten else
    (if name_eq (codes "deliver") text then Some verb.Deliver else
    (if name_eq (codes "newest") text then Some verb.Newest else
    (if name_eq (codes "tick") text then Some verb.Tick else
    (if name_eq (codes "clock") text then Some verb.Clock else
    (if name_eq (codes "fuse") text then Some verb.Fuse else
    (if name_eq (codes "crash") text then Some verb.Crash else
    (if name_eq (codes "boot") text then Some verb.Boot else
    (if name_eq (codes "show") text then Some verb.Show else
    None))))))))))))))))))

-- what `submit USER NAME` asks for
unfoldable pub submit_plan : LineWords → Read Plan
submit_plan ws = do
  user ← name_at ws 1
  name ← name_at ws 2
  done ← nothing_at ws 3
  Ok (plan.Ready (event.Submit user name))

-- what `qsub HOST USER SCRIPT` and options ask for
unfoldable pub qsub_plan : List (List ℕ) → LineWords → Read Plan
qsub_plan site ws = do
  host ← host_at site ws 1
  user ← name_at ws 2
  script ← text_there ws 3
  done ← all_good ws
  Ok (plan.Qsub host user)

-- what `qmgr HOST USER` and the rest of the line ask for
unfoldable pub qmgr_plan : List (List ℕ) → LineWords → Read Plan
qmgr_plan site ws = do
  host ← host_at site ws 1
  user ← name_at ws 2
  Ok (plan.Qmgr host user)

-- what `qstat HOST USER` and further words ask for
unfoldable pub qstat_plan : List (List ℕ) → LineWords → Read Plan
qstat_plan site ws = do
  host ← host_at site ws 1
  user ← name_at ws 2
  done ← all_good ws
  Ok (plan.Qstat host user)

-- what `qdel HOST USER` and further words ask for
unfoldable pub qdel_plan : List (List ℕ) → LineWords → Read Plan
qdel_plan site ws = do
  host ← host_at site ws 1
  user ← name_at ws 2
  done ← all_good ws
  Ok (plan.Qdel host user)

-- what `end HOST ID START STATUS` and up to two outputs ask for
unfoldable pub end_plan : List (List ℕ) → LineWords → Read Plan
end_plan site ws = do
  host ← host_at site ws 1
  id ← request_at site ws 2
  start ← number_at 0 65535 ws 3
  status ← number_at 0 255 ws 4
  out ← output_at ws 5
  err ← output_at ws 6
  done ← nothing_at ws 7
  Ok (plan.End host id start status)

-- a host, and nothing else
unfoldable pub one_host : List (List ℕ) → LineWords → Read HostId
one_host site ws = do
  host ← host_at site ws 1
  done ← nothing_at ws 2
  Ok host

-- what `fail HOST ID START` asks for
unfoldable pub fail_plan : List (List ℕ) → LineWords → Read Plan
fail_plan site ws = do
  host ← host_at site ws 1
  id ← request_at site ws 2
  start ← number_at 0 65535 ws 3
  done ← nothing_at ws 4
  Ok (plan.Ready (event.Fail host id start))

-- a host and a file
unfoldable pub host_and_file : List (List ℕ) → LineWords → Read (HostId × ℕ)
host_and_file site ws = do
  host ← host_at site ws 1
  file ← number_at 0 18446744073709551615 ws 2
  done ← nothing_at ws 3
  Ok (host, file)

-- what `deliver PACKET` asks for
unfoldable pub deliver_plan : LineWords → Read Plan
deliver_plan ws = do
  packet ← number_at 1 18446744073709551615 ws 1
  done ← nothing_at ws 2
  Ok (plan.Ready (event.Deliver packet))

-- what `newest HOST HOST` asks for
unfoldable pub newest_plan : List (List ℕ) → LineWords → Read Plan
newest_plan site ws = do
  one ← host_at site ws 1
  other ← host_at site ws 2
  done ← nothing_at ws 3
  Ok (plan.Ready (event.Newest one other))

-- what `clock MOMENT` asks for
unfoldable pub clock_plan : LineWords → Read Plan
clock_plan ws = do
  moment ← number_at 0 18446744073709551615 ws 1
  done ← nothing_at ws 2
  Ok (plan.Ready (event.Clock moment))

-- what `fuse HOST DISK CALLS TEAR` asks for
unfoldable pub fuse_plan : List (List ℕ) → LineWords → Read Plan
fuse_plan site ws = do
  host ← host_at site ws 1
  disk ← disk_at ws 2
  calls ← number_at 0 18446744073709551615 ws 3
  tear ← tear_at ws 4
  done ← nothing_at ws 5
  Ok (plan.Ready (event.Fuse host disk calls tear))

-- what `show` asks for
unfoldable pub show_plan : LineWords → Read Plan
show_plan ws = do
  done ← nothing_at ws 1
  Ok (plan.Ready event.Show)

-- what the line of a verb asks for; a line of hosts is no event
unfoldable pub plan_of : List (List ℕ) → LineWords → Verb → Read Plan
plan_of site ws verb.Hosts = Err cause.LateHosts
plan_of site ws verb.Submit = submit_plan ws
plan_of site ws verb.Qsub = qsub_plan site ws
plan_of site ws verb.Qmgr = qmgr_plan site ws
plan_of site ws verb.Qstat = qstat_plan site ws
plan_of site ws verb.Qdel = qdel_plan site ws
plan_of site ws verb.End = end_plan site ws
plan_of site ws verb.Finish = one_host site ws >>= (λ host. Ok (plan.Ready (event.Finish host)))
plan_of site ws verb.Fail = fail_plan site ws
plan_of site ws verb.Written = host_and_file site ws >>= (λ p. Ok (plan.Ready (event.Written p.0 p.1)))
plan_of site ws verb.Unwritten = host_and_file site ws >>= (λ p. Ok (plan.Ready (event.Unwritten p.0 p.1)))
plan_of site ws verb.Deliver = deliver_plan ws
plan_of site ws verb.Newest = newest_plan site ws
plan_of site ws verb.Tick = one_host site ws >>= (λ host. Ok (plan.Ready (event.Tick host)))
plan_of site ws verb.Clock = clock_plan ws
plan_of site ws verb.Fuse = fuse_plan site ws
plan_of site ws verb.Crash = one_host site ws >>= (λ host. Ok (plan.Ready (event.Crash host)))
plan_of site ws verb.Boot = one_host site ws >>= (λ host. Ok (plan.Ready (event.Boot host)))
plan_of site ws verb.Show = show_plan ws
