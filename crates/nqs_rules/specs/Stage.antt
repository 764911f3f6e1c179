-- Outputs of jobs: into files of this host, or in stages to the host where the request was
-- submitted.
use Rattle.std.specs.Prelude.{ℕ, ◌+◌, Bool, nat_lt, nat_le, if◌then◌else◌, List, [], ◌∷◌, ◌++◌, map, Option, None, Some}
use Rattle.std.specs.List.{list_any}
use Rattle.nqs_state.specs.State.{State}
use Rattle.nqs_base_tables.specs.Table.{best_from, without_first}
use Rattle.nqs_state.specs.Keys.{is_stage, is_file}
use Rattle.nqs_rules.specs.Tests.{passes, same_host, last_u64}
use Rattle.nqs_rules.specs.Find.{find_peer, has_stage, peer_number, host_at}
use Rattle.nqs_rules.specs.Stepped.{Stepped, Pending, quiet, says, makes, message, ready}
use Rattle.nqs_types.specs.declared.ids.HostId.{HostId}
use Rattle.nqs_types.specs.declared.ids.RequestId.{RequestId}
use Rattle.nqs_types.specs.declared.request.Job.{Job}
use Rattle.nqs_types.specs.declared.request.Row.{Row}
use Rattle.nqs_types.specs.declared.request.Peer.{Peer}
use Rattle.nqs_types.specs.declared.request.Stage.{Stage}
use Rattle.nqs_types.specs.declared.request.FileOut.{FileOut}
use Rattle.nqs_types.specs.declared.change.OutPart.{OutPart}
use Rattle.nqs_types.specs.declared.change.Change.TheVariants.{Ended, StageGot, StageGone, FileGone}
use Rattle.nqs_types.specs.declared.message.Body.TheVariants as body
use Rattle.nqs_types.specs.declared.event.Output.TheVariants as out

-- an output of a job: its path and its bytes
abbrev pub Part : Type 0
Part = OutPart (List ℕ)

-- an output, only where it has bytes
abbrev pub part_to : List ℕ → List ℕ → List Part
part_to path [] = []
part_to path (b ∷ bytes) = record { path = path; bytes = b ∷ bytes } ∷ []

-- the outputs of an ended job: one of both, out first, or one of each
abbrev pub parts_of : Job → List ℕ → List ℕ → List Part
parts_of job output error = if job.join then part_to job.out (output ++ error) else part_to job.out output ++ part_to job.err error

-- how many numbers a counter still has
abbrev pub has_left : ℕ → ℕ → Bool
has_left counter n = nat_lt (counter + n) last_u64

-- outputs that get a number, counted from n on
abbrev pub numbered : ℕ → ℕ → List Part → List Part
numbered counter n [] = []
numbered counter n (part ∷ parts) = if has_left counter n then part ∷ numbered counter (n + 1) parts else []

-- the number that the next stage to a peer gets; the last one of all where there is no such peer
abbrev pub stage_counter : Option Peer → ℕ
stage_counter None = last_u64
stage_counter (Some p) = p.stage_next

module _ {E : Type 0} where
  -- whether a request was submitted at this host
  abbrev pub goes_here : State E → RequestId → Bool
  goes_here s id = same_host s.me id.host

  -- the number that the first output of the request gets
  abbrev pub first_number : State E → RequestId → ℕ
  first_number s id = if goes_here s id then s.file_next else stage_counter (find_peer id.host s)

  -- the outputs of a row that ends, but for those that no number is left for
  abbrev pub kept_parts : State E → Row E → List ℕ → List ℕ → List Part
  kept_parts s r output error = numbered (first_number s r.id) 0 (parts_of r.job output error)

  -- a file is to be written
  abbrev pub file_written : ℕ → Part → Pending E
  file_written number part = ready (out.File number part.path part.bytes)

  -- files to be written, numbered from n on
  abbrev pub files_written : ℕ → List Part → List (Pending E)
  files_written n [] = []
  files_written n (part ∷ parts) = file_written n part ∷ files_written (n + 1) parts

  -- whether a stage goes to this peer
  abbrev pub is_stage_to : HostId → Stage E → Bool
  is_stage_to peer t = same_host peer t.peer

  -- whether some stage goes to this peer
  abbrev pub has_stage_to : HostId → State E → Bool
  has_stage_to peer s = list_any (is_stage_to peer) s.stages

  -- the first of new stages is sent
  abbrev pub stage_sent : HostId → HostId → ℕ → List Part → List (Pending E)
  stage_sent me peer number [] = []
  stage_sent me peer number (part ∷ parts) = ready (message me peer (body.Stage number part.path part.bytes)) ∷ []

  -- the first stage goes out where no other stage to that host waits
  abbrev pub stage_due : State E → RequestId → List Part → List (Pending E)
  stage_due s id parts = if has_stage_to id.host s then [] else stage_sent s.me id.host (first_number s id) parts

  -- what goes out with the outputs of a request
  abbrev pub parts_sent : State E → RequestId → List Part → List (Pending E)
  parts_sent s id parts = if goes_here s id then files_written s.file_next parts else stage_due s id parts

  -- a running request ends
  abbrev pub on_end : ℕ → Row E → List ℕ → List ℕ → State E → Stepped E
  on_end status r output error s =
      let parts = kept_parts s r output error in
      makes (Ended r.id parts) (ready (out.Ended r.id r.starts status) ∷ parts_sent s r.id parts)
  -- STAGE

-- whether a peer's stage of this number was taken
abbrev pub is_got : ℕ → Peer → Bool
is_got n p = nat_le n p.stage_got

module _ {E : Type 0} where
  -- the word that a stage was taken
  abbrev pub send_staged : State E → HostId → ℕ → Pending E
  send_staged s peer n = ready (message s.me peer (body.Staged n))

  -- a stage that no file number is left for is taken without its bytes
  abbrev pub stage_taken : HostId → ℕ → List ℕ → List ℕ → State E → Stepped E
  stage_taken peer n path bytes s =
      if has_left s.file_next 0
      then makes (StageGot peer n path bytes) (send_staged s peer n ∷ ready (out.File s.file_next path bytes) ∷ [])
      else makes (StageGot peer n path []) (send_staged s peer n ∷ [])

  -- what a host does at a stage: it takes it once, and says so each time
  abbrev pub on_stage : HostId → ℕ → List ℕ → List ℕ → State E → Stepped E
  on_stage peer n path bytes s = if passes (is_got n) (find_peer peer s) then says (send_staged s peer n ∷ []) else stage_taken peer n path bytes s

  -- STAGED

  -- the order of stages: by number
  abbrev pub is_earlier_stage : Stage E → Stage E → Bool
  is_earlier_stage a b = nat_lt a.number b.number

  -- a stage is sent
  abbrev pub send_stage : State E → Option (ℕ × Stage E) → List (Pending E)
  send_stage s None = []
  send_stage s (Some p) = (message s.me p.1.peer (body.Stage p.1.number p.1.path []), Some p.1.bytes) ∷ []

  -- the stage of least number to a host, of these stages
  abbrev pub due_of : State E → HostId → List (Stage E) → List (Pending E)
  due_of s peer stages = send_stage s (best_from (is_stage_to peer) is_earlier_stage 0 stages)

  -- what a host does when its stage was taken: the next one goes
  abbrev pub on_staged : HostId → ℕ → State E → Stepped E
  on_staged peer n s = if has_stage peer n s then makes (StageGone peer n) (due_of s peer (without_first (is_stage (peer_number peer n)) s.stages)) else quiet

  -- a file was written, or not

  -- what a host does when a file was written: it is forgotten
  abbrev pub on_written : ℕ → State E → Stepped E
  on_written file s = if list_any (is_file file) s.files then makes (FileGone file) [] else quiet

  -- tick

  -- a file is to be written again
  abbrev pub file_again : FileOut E → Pending E
  file_again f = (out.File f.number f.path [], Some f.bytes)

  -- the stages due to the hosts from a place of the site on
  abbrev pub stages_from : ℕ → State E → List (List ℕ) → List (Pending E)
  stages_from place s [] = []
  stages_from place s (name ∷ names) = due_of s (host_at place) s.stages ++ stages_from (place + 1) s names

  -- what a tick sends of outputs: the due stage to each host, then each file
  abbrev pub due_outputs : State E → List (Pending E)
  due_outputs s = stages_from 0 s s.site ++ map file_again s.files
