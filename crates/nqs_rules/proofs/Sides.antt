-- What a change leaves as it is: the host's place and site, and outputs but by changes of outputs.
use Rattle.std.proofs.Common.{◌≡◌, ℕ, ◌+◌, Bool, true, false, nat_le, nat_lt, List, [], ◌∷◌, ◌++◌, map, length, Option, None, Some, true≢false, refl, sym}
use Rattle.std.proofs.Common.{subst, ◌∙◌, if◌then◌else◌}
use Rattle.std.proofs.lemmas.Bool.{and_parts}
use Rattle.std.specs.List.{list_all}
use Rattle.nqs_state.specs.State.{State}
use Rattle.nqs_state.specs.Keys.{is_stage, is_file}
use Rattle.nqs_types.specs.declared.ids.HostId.{HostId}
use Rattle.nqs_types.specs.declared.ids.PeerNumber.{PeerNumber}
use Rattle.nqs_types.specs.declared.ids.RequestId.{RequestId}
use Rattle.nqs_types.specs.declared.request.Row.{Row}
use Rattle.nqs_types.specs.declared.request.Hand.{Hand}
use Rattle.nqs_types.specs.declared.request.Promise.{Promise}
use Rattle.nqs_types.specs.declared.request.Peer.{Peer}
use Rattle.nqs_types.specs.declared.request.Stage.{Stage}
use Rattle.nqs_types.specs.declared.request.FileOut.{FileOut}
use Rattle.nqs_types.specs.declared.edit.ConfEdit.{ConfEdit}
use Rattle.nqs_types.specs.declared.edit.ConfEdit.TheVariants.{PurgeQueue}
use Rattle.nqs_types.specs.declared.edit.LimitsEdit.{LimitsEdit}
use Rattle.nqs_types.specs.declared.edit.LimitsEdit.TheVariants.{SetGlobalLimit}
use Rattle.nqs_types.specs.declared.edit.AccessEdit.{AccessEdit}
use Rattle.nqs_types.specs.declared.edit.AccessEdit.TheVariants.{AddManager}
use Rattle.nqs_types.specs.declared.edit.DevicesEdit.{DevicesEdit}
use Rattle.nqs_types.specs.declared.edit.DevicesEdit.TheVariants.{DeleteDevice}
use Rattle.nqs_types.specs.declared.edit.RowsEdit.{RowsEdit}
use Rattle.nqs_types.specs.declared.edit.RowsEdit.TheVariants.{AbortQueue, HoldRequest, ReleaseRequest, MoveRequest, ModifyRequest}
use Rattle.nqs_types.specs.declared.edit.Edit.{Edit}
use Rattle.nqs_types.specs.declared.edit.Edit.TheVariants.{Conf, Limits as LimitsOf, Access as AccessOf, Devices as DevicesOf, Rows as RowsOf}
use Rattle.nqs_types.specs.declared.change.OutPart.{OutPart}
use Rattle.nqs_types.specs.declared.change.Change.{Change}
use Rattle.nqs_types.specs.declared.change.Change.TheVariants.{Site, Ended, Edited, HandCommitted, HandRefused, HandsSilent, Accepted, StageGot, StageGone}
use Rattle.nqs_types.specs.declared.change.Change.TheVariants.{FileGone}
use Rattle.nqs_rules.specs.Tests.{same_host, last_u64}
use Rattle.nqs_rules.specs.Find.{peer_number, has_row, find_hand, find_promise, find_peer, meant_request}
use Rattle.nqs_rules.specs.Edits.{drop_row, change_peer}
use Rattle.nqs_rules.specs.Conf.{conf_applied}
use Rattle.nqs_rules.specs.Limits.{limits_applied}
use Rattle.nqs_rules.specs.Devices.{devices_applied}
use Rattle.nqs_rules.specs.Rows.{rows_applied, change_meant, next_arrival, held_row, released_row, moved_row, with_priority}
use Rattle.nqs_rules.specs.Sane.{is_short_change}
use Rattle.nqs_rules.specs.Applied.{applied, edit_applied, access_applied, stage_counted, add_file, add_stage_to, add_output, add_outputs, hand_committed}
use Rattle.nqs_rules.specs.Applied.{hand_refused, hand_silent, hands_silent, drop_promise, add_promised, accepted, requeued_row}
use Rattle.nqs_rules.specs.Fits.{fits}
use Rattle.nqs_rules.proofs.KeyFacts.{all-added}
use Rattle.nqs_rules.proofs.Sublists.{part_all, without_part}
use Rattle.nqs_rules.proofs.OutputsKept.{file_keeps, outputs_keep}

module _ {E : Type 0} where
  -- the host's place and site
  abbrev pub head : State E → HostId × List (List ℕ)
  head s = (s.me, s.site)

  -- and its outputs
  abbrev pub sides : State E → HostId × List (List ℕ) × List (Stage E) × List (FileOut E)
  sides s = (s.me, s.site, s.stages, s.files)

  -- the change is none of outputs
  abbrev pub NoOutput : Change E → Type 0
  NoOutput (Ended id parts) = ⊥
  NoOutput (StageGot peer number path bytes) = ⊥
  NoOutput (StageGone peer number) = ⊥
  NoOutput (FileGone file) = ⊥
  NoOutput _ = Unit {0}

  conf_sides : (e : ConfEdit) (s : State E) → sides (conf_applied e s) ≡ sides s
  conf_sides (PurgeQueue q) s = refl
  conf_sides e s = refl

  limits_sides : (e : LimitsEdit) (s : State E) → sides (limits_applied e s) ≡ sides s
  limits_sides (SetGlobalLimit n) s = refl
  limits_sides e s = refl

  access_sides : (e : AccessEdit) (s : State E) → sides (access_applied e s) ≡ sides s
  access_sides (AddManager user) s = refl
  access_sides e s = refl

  devices_sides : (e : DevicesEdit) (s : State E) → sides (devices_applied e s) ≡ sides s
  devices_sides (DeleteDevice d) s = refl
  devices_sides e s = refl

  meant_sides : (o : Option RequestId) (g : Row E → Row E) (s : State E) → sides (change_meant o g s) ≡ sides s
  meant_sides None g s = refl
  meant_sides (Some id) g s = refl

  rows_sides : (e : RowsEdit) (s : State E) → sides (rows_applied e s) ≡ sides s
  rows_sides (AbortQueue q) s = refl
  rows_sides (HoldRequest id) s = meant_sides (meant_request id s) held_row s
  rows_sides (ReleaseRequest id) s = meant_sides (meant_request id s) released_row s
  rows_sides (MoveRequest id q) s = meant_sides (meant_request id s) (moved_row q (s.arrivals + 1)) (next_arrival s)
  rows_sides (ModifyRequest id n) s = meant_sides (meant_request id s) (with_priority n) s

  edit_sides : (e : Edit) (s : State E) → sides (edit_applied e s) ≡ sides s
  edit_sides (Conf e) s = conf_sides e s
  edit_sides (LimitsOf e) s = limits_sides e s
  edit_sides (AccessOf e) s = access_sides e s
  edit_sides (DevicesOf e) s = devices_sides e s
  edit_sides (RowsOf e) s = rows_sides e s

  committed_sides : (n : PeerNumber) (o : Option Hand) (s : State E) → sides (hand_committed n o s) ≡ sides s
  committed_sides n None s = refl
  committed_sides n (Some x) s = refl

  refused_sides : (n : PeerNumber) (refusal : ℕ) (o : Option Hand) (s : State E) → sides (hand_refused n refusal o s) ≡ sides s
  refused_sides n refusal None s = refl
  refused_sides n refusal (Some x) s = refl

  silent_sides : (until : ℕ) (n : PeerNumber) (o : Option Hand) (s : State E) → sides (hand_silent until n o s) ≡ sides s
  silent_sides until n None s = refl
  silent_sides until n (Some x) s = refl

  silents_sides : (until : ℕ) (ns : List PeerNumber) (s : State E) → sides (hands_silent until ns s) ≡ sides s
  silents_sides until [] s = refl
  silents_sides until (n ∷ ns) s = let o = find_hand n.peer n.number s in silents_sides until ns (hand_silent until n o s) ∙ silent_sides until n o s

  added_sides : (r : Row E) (s : State E) → sides (add_promised r s) ≡ sides s
  added_sides r s = by (has_row r.id s)
    where
      by : (b : Bool) → sides (if b then s else record s { rows = s.rows ++ requeued_row r ∷ [] }) ≡ sides s
      by true = refl
      by false = refl

  accepted_sides : (n : PeerNumber) (o : Option (Promise E)) (s : State E) → sides (accepted n o s) ≡ sides s
  accepted_sides n None s = refl
  accepted_sides n (Some p) s = added_sides p.row (drop_promise n s)

  pub sides_kept : (c : Change E) (s : State E) → fits c s ≡ true → NoOutput c → sides (applied c s) ≡ sides s
  sides_kept (Site me site) s fit plain = absurd (true≢false (sym fit))
  sides_kept (Edited e) s fit plain = edit_sides e s
  sides_kept (HandCommitted peer number) s fit plain = committed_sides (peer_number peer number) (find_hand peer number s) s
  sides_kept (HandRefused peer number refusal) s fit plain = refused_sides (peer_number peer number) refusal (find_hand peer number s) s
  sides_kept (HandsSilent until ns) s fit plain = silents_sides until ns s
  sides_kept (Accepted peer number) s fit plain = accepted_sides (peer_number peer number) (find_promise peer number s) s
  sides_kept (Ended id parts) s fit plain = absurd plain
  sides_kept (StageGot peer number path bytes) s fit plain = absurd plain
  sides_kept (StageGone peer number) s fit plain = absurd plain
  sides_kept (FileGone file) s fit plain = absurd plain
  sides_kept c s fit plain = refl

  head_of : (s u : State E) → sides u ≡ sides s → head u ≡ head s
  head_of s u e = λ j. ((e j).0, (e j).1)

  pub head_kept : (c : Change E) (s : State E) → fits c s ≡ true → head (applied c s) ≡ head s
  head_kept (Ended id parts) s fit = outputs_keep head (λ u fs n. refl) (λ u ts ps. refl) id parts (drop_row id s)
  head_kept (StageGot peer number path bytes) s fit = file_keeps head (λ u fs n. refl) (λ u ts ps. refl) (record { path = path; bytes = bytes })
      (change_peer peer (λ p. record p { stage_got = number }) s)
  head_kept (StageGone peer number) s fit = refl
  head_kept (FileGone file) s fit = refl
  head_kept c s fit = head_of s (applied c s) (sides_kept c s fit tt)

-- the outputs of a host are short, by the length of each

module _ {E : Type 0} (size : E → ℕ) where
  abbrev is_short_part : OutPart E → Bool
  is_short_part part = nat_le (size part.bytes) 32768

  pub record AreShort (s : State E) : Type 0 where
    pub stages : list_all (λ (t : Stage E). nat_le (size t.bytes) 32768) s.stages ≡ true
    pub files : list_all (λ (f : FileOut E). nat_le (size f.bytes) 32768) s.files ≡ true

  file_short : (part : OutPart E) (s : State E) → nat_le (size part.bytes) 32768 ≡ true → AreShort s → AreShort (add_file part s)
  file_short part s short h = by (nat_lt s.file_next last_u64)
    where
      by : (b : Bool) → AreShort (if b then record s {
        files = s.files ++ record { number = s.file_next; path = part.path; bytes = part.bytes } ∷ [];
        file_next =
            s.file_next + 1;
      } else s)
      by true = record { stages = h.stages; files = all-added (λ (f : FileOut E). nat_le (size f.bytes) 32768) s.files _ h.files short }
      by false = h

  stage_short : (host : HostId) (part : OutPart E) (s : State E) (o : Option Peer) → nat_le (size part.bytes) 32768 ≡ true → AreShort s
      → AreShort (add_stage_to host part o s)
  stage_short host part s None short h = h
  stage_short host part s (Some p) short h = by (nat_lt p.stage_next last_u64)
    where
      by : (b : Bool) → AreShort (if b then record (change_peer host stage_counted s)
          { stages = s.stages ++ record { peer = host; number = p.stage_next; path = part.path; bytes = part.bytes } ∷ [] } else s)
      by true = record { stages = all-added (λ (t : Stage E). nat_le (size t.bytes) 32768) s.stages _ h.stages short; files = h.files }
      by false = h

  output_short : (id : RequestId) (part : OutPart E) (s : State E) → nat_le (size part.bytes) 32768 ≡ true → AreShort s → AreShort (add_output id part s)
  output_short id part s short h = by (same_host s.me id.host)
    where
      by : (b : Bool) → AreShort (if b then add_file part s else add_stage_to id.host part (find_peer id.host s) s)
      by true = file_short part s short h
      by false = stage_short id.host part s (find_peer id.host s) short h

  outputs_short : (id : RequestId) (parts : List (OutPart E)) (s : State E) → list_all is_short_part parts ≡ true → AreShort s
      → AreShort (add_outputs id parts s)
  outputs_short id [] s short h = h
  outputs_short id (part ∷ parts) s short h = let p = and_parts (is_short_part part) (list_all is_short_part parts) short in
      outputs_short id parts (add_output id part s) p.1 (output_short id part s p.0 h)

  same_short : (s u : State E) → sides u ≡ sides s → AreShort s → AreShort u
  same_short s u e h = record {
    stages = subst (λ l. list_all (λ (t : Stage E). nat_le (size t.bytes) 32768) l ≡ true) (sym (λ j. (e j).2)) h.stages;
    files = subst (λ l. list_all (λ (f : FileOut E). nat_le (size f.bytes) 32768) l ≡ true) (sym (λ j. (e j).3)) h.files;
  }

  pub short_kept : (c : Change E) (s : State E) → fits c s ≡ true → is_short_change size c ≡ true → AreShort s → AreShort (applied c s)
  short_kept (Ended id parts) s fit short h = outputs_short id parts (drop_row id s) short (record { stages = h.stages; files = h.files })
  short_kept (StageGot peer number path bytes) s fit short h =
      file_short (record { path = path; bytes = bytes }) (change_peer peer (λ p. record p { stage_got = number }) s)
      short (record { stages = h.stages; files = h.files })
  short_kept (StageGone peer number) s fit short h = record {
    stages = part_all (λ (t : Stage E). nat_le (size t.bytes) 32768)
        (without_part (is_stage (peer_number peer number)) s.stages) h.stages;
    files = h.files;
  }
  short_kept (FileGone file) s fit short h = record {
    stages = h.stages;
    files =
        part_all (λ (f : FileOut E). nat_le (size f.bytes) 32768) (without_part (is_file file) s.files) h.files;
  }
  short_kept c s fit short h = same_short s (applied c s) (sides_kept c s fit tt) h
