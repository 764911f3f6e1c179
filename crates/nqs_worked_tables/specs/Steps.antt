-- What one event makes of one host: the states, and the events as they come.
use Rattle.std.specs.Prelude.{ℕ, true, List, [], ◌∷◌, map, codes}
use Rattle.nqs_state.specs.State.{Plain}
use Rattle.nqs_rules.specs.Format.{new_peer}
use Rattle.nqs_rules.specs.Step.{step}
use Rattle.nqs_rules.specs.Stepped.{Stepped, says, makes, message, ready}
use Rattle.nqs_worked.specs.ScheduleWords.{host, request, job_of}
use Rattle.nqs_worked.specs.Definitions.{queued, a_stage, busy}
use Rattle.nqs_worked_tables.specs.Refusals.{full_house}
use Rattle.nqs_worked_tables.specs.OrderBounds.{started}
use Rattle.nqs_types.specs.declared.request.Job.{Job}
use Rattle.nqs_types.specs.declared.request.RowState.TheVariants.{Routing}
use Rattle.nqs_types.specs.declared.change.Change.{Change}
use Rattle.nqs_types.specs.declared.message.Body.{Body}
use Rattle.nqs_types.specs.declared.event.Output.{Output}
use Rattle.nqs_types.specs.declared.event.Output.TheVariants as out
use Rattle.nqs_types.specs.declared.event.Reply.{Reply}
use Rattle.nqs_types.specs.declared.event.Command.{Command}
use Rattle.nqs_types.specs.declared.event.Event.TheVariants as event

-- a step of a host that keeps the bytes themselves
abbrev pub Done : Type 0
Done = Stepped (List ℕ)

-- A host among three that has a handover to each of the others, the first offered, the second
-- committed, and a promise of each. Its next number for the second host is 2, for the third 5; up
-- to 2 and 8 it has closed what they number; it took the second's stages up to 6.
abbrev pub party : Plain
party = record busy {
  peers = new_peer ∷ record new_peer { next = 2; floor = 2; stage_next = 9; stage_got = 6 } ∷ record new_peer { next = 5; floor = 8; stage_next = 3 } ∷ [];
  file_next = 5;
  seq = 9;
  arrivals = 9;
}

-- datagrams from a host
abbrev pub arrive : ℕ → List Body → Plain → List Done
arrive from bs s = map (λ b. step (event.Arrived 50 (record { from = host from; to = host 0; body = b })) s) bs

-- a datagram to a host goes out, and nothing else happens
abbrev pub only_says : ℕ → Body → Done
only_says to b = says (ready (message (host 0) (host to) b) ∷ [])

-- a change is made, and a datagram to a host goes out
abbrev pub makes_and_says : Change (List ℕ) → ℕ → Body → Done
makes_and_says c to b = makes c (ready (message (host 0) (host to) b) ∷ [])

-- a command of a user, asked at port 9 under the token 77
abbrev pub ask : List ℕ → Command → Plain → Done
ask user c s = step (event.Ask 60 9 77 user c) s

-- a reply to it, and nothing else
abbrev pub only_replies : Reply → Done
only_replies r = says (ready (out.Reply 9 77 r) ∷ [])

-- the same, and the host halts
abbrev pub only_replies_and_halts : Reply → Done
only_replies_and_halts r = record (only_replies r) { halts = true }

-- a reply to it and then these, with a change
abbrev pub makes_and_replies : Change (List ℕ) → Reply → List Output → Done
makes_and_replies c r os = makes c (ready (out.Reply 9 77 r) ∷ map ready os)

-- a job with a name and no paths
abbrev pub sim : Job
sim = record (job_of (codes "ann")) { name = codes "sim" }

-- two requests that run in one queue, one that waits there, one that is on its way from there, and
-- one that runs in another queue
abbrev pub two_at_work : Plain
two_at_work = record full_house {
  rows =
      record (started 3 2) { doomed = true } ∷ record (started 1 0) { id = request 2 0; queue = codes "lp" } ∷ record (started 2 1) { id = request 3 0 }
      ∷ queued 4
      ∷ record (queued 5) { state = Routing; starts = 1; lost = 1 } ∷ [];
}

-- the same requests, and the third host's as the first of them
abbrev pub guests : Plain
guests = record party {
  rows = record (started 3 2) { id = request 1 2; job = record (job_of (codes "ann")) { out = codes "o"; err = codes "e" } }
      ∷ started 3 2 ∷ record (queued 3) { starts = 3; lost = 3 } ∷ [];
}

-- the same without a stage that waits
abbrev pub free_guests : Plain
free_guests = record guests { stages = a_stage 1 8 ∷ [] }

-- a request whose outputs go into one file
abbrev pub joining : Plain
joining = record party { rows = record (started 3 2) { job = record (job_of (codes "ann")) { out = codes "o"; err = codes "e"; join = true } } ∷ [] }

-- the end of a request's start, with its outputs
abbrev pub ends : ℕ → ℕ → ℕ → ℕ → List ℕ → List ℕ → Plain → Done
ends port seq place start output error s = step (event.Ended 60 port (request seq place) start 5 output error) s
