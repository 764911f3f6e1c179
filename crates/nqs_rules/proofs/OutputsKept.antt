-- What outputs leave as it is.
use Rattle.std.proofs.Common.{◌≡◌, ℕ, ◌+◌, Bool, true, false, nat_lt, List, [], ◌∷◌, ◌++◌, Option, None, Some, refl, ◌∙◌, if◌then◌else◌}
use Rattle.nqs_state.specs.State.{State}
use Rattle.nqs_types.specs.declared.ids.HostId.{HostId}
use Rattle.nqs_types.specs.declared.ids.RequestId.{RequestId}
use Rattle.nqs_types.specs.declared.request.Peer.{Peer}
use Rattle.nqs_types.specs.declared.request.Stage.{Stage}
use Rattle.nqs_types.specs.declared.request.FileOut.{FileOut}
use Rattle.nqs_types.specs.declared.change.OutPart.{OutPart}
use Rattle.nqs_rules.specs.Tests.{same_host, last_u64}
use Rattle.nqs_rules.specs.Edits.{change_peer}
use Rattle.nqs_rules.specs.Find.{find_peer}
use Rattle.nqs_rules.specs.Applied.{add_file, add_stage_to, add_stage, add_output, add_outputs, stage_counted}

module _ {E : Type 0} where
  -- outputs touch files, stages and counters alone
  module _ {A : Type 0} (part_of : State E → A) (files : (s : State E) (fs : List (FileOut E)) (n : ℕ)
      → part_of (record s { files = fs; file_next = n }) ≡ part_of s) (stages : (s : State E) (ts : List (Stage E)) (ps : List Peer)
      → part_of (record s { stages = ts; peers = ps }) ≡ part_of s) where
    pub file_keeps : (part : OutPart E) (s : State E) → part_of (add_file part s) ≡ part_of s
    file_keeps part s = by (nat_lt s.file_next last_u64)
      where
        by : (b : Bool) → part_of (if b then record s {
          files = s.files ++ record { number = s.file_next; path = part.path; bytes = part.bytes }
              ∷ [];
          file_next = s.file_next + 1;
        } else s) ≡ part_of s
        by true = files s (s.files ++ record { number = s.file_next; path = part.path; bytes = part.bytes } ∷ []) (s.file_next + 1)
        by false = refl

    stage_keeps : (host : HostId) (part : OutPart E) (s : State E) (o : Option Peer) → part_of (add_stage_to host part o s) ≡ part_of s
    stage_keeps host part s None = refl
    stage_keeps host part s (Some p) = by (nat_lt p.stage_next last_u64)
      where
        by : (b : Bool) → part_of (if b then record (change_peer host stage_counted s)
            { stages = s.stages ++ record { peer = host; number = p.stage_next; path = part.path; bytes = part.bytes } ∷ [] } else s) ≡ part_of s
        by true = stages s (s.stages ++ record { peer = host; number = p.stage_next; path = part.path; bytes = part.bytes } ∷ [])
            (change_peer host stage_counted s).peers
        by false = refl

    output_keeps : (id : RequestId) (part : OutPart E) (s : State E) → part_of (add_output id part s) ≡ part_of s
    output_keeps id part s = by (same_host s.me id.host)
      where
        by : (b : Bool) → part_of (if b then add_file part s else add_stage id.host part s) ≡ part_of s
        by true = file_keeps part s
        by false = stage_keeps id.host part s (find_peer id.host s)

    pub outputs_keep : (id : RequestId) (parts : List (OutPart E)) (s : State E) → part_of (add_outputs id parts s) ≡ part_of s
    outputs_keep id [] s = refl
    outputs_keep id (part ∷ parts) s = outputs_keep id parts (add_output id part s) ∙ output_keeps id part s
