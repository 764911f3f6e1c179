-- Words for schedules and their transcripts.
use Rattle.std.specs.Prelude.{ℕ, true, false, List, [], ◌∷◌, ◌++◌, map, flat_map, replicate, codes, Option, None, Some}
use Rattle.nqs_rules.specs.Format.{no_limits}
use Rattle.nqs_rules.specs.World.{Act, Asks, Fuse, Boots, Shows, seen_of}
use Rattle.nqs_rules.specs.Run.{run_of}
use Rattle.nqs_rules.specs.Transcript.{transcript, lines}
use Rattle.nqs_types.specs.declared.ids.HostId.{HostId}
use Rattle.nqs_types.specs.declared.ids.RequestId.{RequestId}
use Rattle.nqs_types.specs.declared.ids.Named.{Named}
use Rattle.nqs_types.specs.declared.ids.NamedDest.{NamedDest}
use Rattle.nqs_types.specs.declared.request.Job.{Job}
use Rattle.nqs_types.specs.declared.fault.WordsCause.{WordsCause}
use Rattle.nqs_types.specs.declared.fault.WordsFault.{WordsFault}
use Rattle.nqs_base.specs.declared.tear.Tear.{Tear}
use Rattle.nqs_base.specs.declared.tear.Tear.TheVariants.{Old, New, Mixed}
use Rattle.nqs_types.specs.declared.world.Which.{Which}
use Rattle.nqs_types.specs.declared.event.Command.{Command}
use Rattle.nqs_types.specs.declared.event.Command.TheVariants.{Submit, Edit as EditOf, UnreadWords}
use Rattle.nqs_types.specs.declared.edit.Edit.{Edit}
use Rattle.nqs_types.specs.declared.edit.Edit.TheVariants.{Conf}
use Rattle.nqs_types.specs.declared.edit.ConfEdit.TheVariants.{CreatePipeQueue, EnableQueue, StartQueue}

-- the host at this place of its site, from 0 on
abbrev pub host : ℕ → HostId
host place = record { 0 = place }

-- the request of this number that was submitted at the host of this place
abbrev pub request : ℕ → ℕ → RequestId
request seq place = record { seq = seq; host = host place }

-- a request as it is typed: its number, and the name of its host
abbrev pub named : ℕ → List ℕ → Named
named seq name = record { seq = seq; host = name }

-- a destination as it is typed: its queue, and the name of its host
abbrev pub typed : List ℕ → List ℕ → NamedDest
typed queue name = record { queue = queue; host = name }

-- a job without options
abbrev pub job_of : List ℕ → Job
job_of owner = record {
  name = codes "STDIN";
  owner = owner;
  priority = 31;
  earliest = 0;
  rerun = true;
  limits = no_limits;
  forms = None;
  out = [];
  err = [];
  join = false;
}

-- a submission as a command; without a queue it goes to the default one
abbrev pub submission : Option (List ℕ) → Job → List ℕ → Command
submission queue job script = Submit (record { queue = queue; folder = None; job = job; script = script })

-- a fault of words: its cause, the line, and the word of that line
abbrev pub bad_words : WordsCause → ℕ → ℕ → WordsFault
bad_words cause line word = record { cause = cause; line = line; word = word }

-- words with this fault as a command
abbrev pub unread_words : WordsCause → ℕ → ℕ → Command
unread_words cause line word = UnreadWords (bad_words cause line word)

-- a site of one host
abbrev pub one_host : List (List ℕ)
one_host = codes "alpha" ∷ []

-- a site of two hosts
abbrev pub two_hosts : List (List ℕ)
two_hosts = codes "alpha" ∷ codes "beta" ∷ []

-- an edit by root on the first host
abbrev pub edits : Edit → Act
edits e = Asks (host 0) (codes "root") (EditOf e)

-- a submission on the first host, to a queue
abbrev pub submits : List ℕ → List ℕ → Act
submits user queue = Asks (host 0) user (submission (Some queue) (job_of user) [])

-- a pipe queue of the first host goes to the second
abbrev pub with_link : List Act
with_link =
    edits (Conf (CreatePipeQueue (codes "link") None None false (Some (typed (codes "batch") (codes "beta")))))
    ∷ edits (Conf (EnableQueue (codes "link")))
    ∷ edits (Conf (StartQueue (codes "link")))
    ∷ []

-- a submission with a script, to the link
abbrev pub scripted : Act
scripted = Asks (host 0) (codes "ann") (submission (Some (codes "link")) (job_of (codes "ann")) (codes "date"))

-- so many edits are done
abbrev pub done : ℕ → List (List ℕ)
done count = replicate count (codes "Done.")

-- the first request is offered over the link
abbrev pub first_offered : List (List ℕ)
first_offered = codes "Request 1.alpha submitted to queue: link." ∷ codes "packet 1 alpha beta OFFER 1" ∷ []

-- and taken, each packet once
abbrev pub first_taken : List (List ℕ)
first_taken = first_offered ++ codes "packet 2 beta alpha READY 1" ∷ codes "packet 3 alpha beta COMMIT 1" ∷ codes "packet 4 beta alpha DONE 1" ∷ []

-- three requests are offered over the link, before any answer
abbrev pub three_offered : List (List ℕ)
three_offered =
    first_offered
    ++ codes "Request 2.alpha submitted to queue: link."
    ∷ codes "packet 2 alpha beta OFFER 2"
    ∷ codes "Request 3.alpha submitted to queue: link."
    ∷ codes "packet 3 alpha beta OFFER 3"
    ∷ []

-- the transcript of a run of a new network
abbrev pub told : List (List ℕ) → List Act → List ℕ
told site acts = transcript site (seen_of (run_of site acts))

-- a fuse falls in a submission with a script, and the host boots
abbrev pub stopped_submission : Which → ℕ → Tear → List Act
stopped_submission disk calls tear =
    Fuse (host 0) disk calls tear ∷ Asks (host 0) (codes "ann") (submission None (job_of (codes "ann")) (codes "date")) ∷ Boots (host 0) ∷ Shows ∷ []

-- the transcript of that, on a site of one host
abbrev pub stop_told : Which → ℕ → Tear → List ℕ
stop_told disk calls tear = told one_host (stopped_submission disk calls tear)

-- all old, all new, and two mixes
abbrev pub tears : List Tear
tears = Old ∷ New ∷ Mixed 1 ∷ Mixed 2 ∷ []

-- by call and then by tear
abbrev pub stops_told : Which → List ℕ → List (List ℕ)
stops_told disk calls = flat_map (λ k. map (stop_told disk k) tears) calls

-- the submission wasn't kept
abbrev pub not_kept : List ℕ
not_kept = lines (codes "stop alpha" ∷ codes "boot alpha" ∷ codes "table 0" ∷ [])

-- and was
abbrev pub kept : List ℕ
kept = lines (codes "stop alpha" ∷ codes "boot alpha" ∷ codes "table 1" ∷ codes "alpha batch 1.alpha QUEUED ann starts 0 lost 0" ∷ [])
