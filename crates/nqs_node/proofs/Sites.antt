-- No change that fits moves a host to another site.
use Rattle.std.proofs.Common.{◌≡◌, ℕ, List, [], ◌∷◌, Bool, true, false, Option, None, Some, nat_lt, if◌then◌else◌, ◌+◌, refl, sym, ◌∙◌, true≢false}
use Rattle.nqs_state.specs.State.{State}
use Rattle.nqs_types.specs.declared.ids.HostId.{HostId}
use Rattle.nqs_types.specs.declared.ids.RequestId.{RequestId}
use Rattle.nqs_types.specs.declared.ids.PeerNumber.{PeerNumber}
use Rattle.nqs_types.specs.declared.request.Hand.{Hand}
use Rattle.nqs_types.specs.declared.request.Peer.{Peer}
use Rattle.nqs_types.specs.declared.request.Row.{Row}
use Rattle.nqs_types.specs.declared.request.Promise.{Promise}
use Rattle.nqs_types.specs.declared.change.OutPart.{OutPart}
use Rattle.nqs_types.specs.declared.change.Change.{Change}
use Rattle.nqs_types.specs.declared.change.Change.TheVariants.{Site, Ended, Boot, Edited, HandCommitted, HandRefused, HandsSilent, Accepted, StageGot}
use Rattle.nqs_types.specs.declared.edit.Edit.{Edit}
use Rattle.nqs_types.specs.declared.edit.Edit.TheVariants.{Conf, Limits as LimitsOf, Access as AccessOf, Devices as DevicesOf, Rows as RowsOf}
use Rattle.nqs_types.specs.declared.edit.ConfEdit.{ConfEdit}
use Rattle.nqs_types.specs.declared.edit.ConfEdit.TheVariants.{SetNoDefaultQueue}
use Rattle.nqs_types.specs.declared.edit.LimitsEdit.{LimitsEdit}
use Rattle.nqs_types.specs.declared.edit.LimitsEdit.TheVariants.{SetGlobalLimit}
use Rattle.nqs_types.specs.declared.edit.AccessEdit.{AccessEdit}
use Rattle.nqs_types.specs.declared.edit.AccessEdit.TheVariants.{AddManager}
use Rattle.nqs_types.specs.declared.edit.DevicesEdit.{DevicesEdit}
use Rattle.nqs_types.specs.declared.edit.DevicesEdit.TheVariants.{CreateDevice}
use Rattle.nqs_types.specs.declared.edit.RowsEdit.{RowsEdit}
use Rattle.nqs_types.specs.declared.edit.RowsEdit.TheVariants.{AbortQueue, HoldRequest, ReleaseRequest, MoveRequest, ModifyRequest}
use Rattle.nqs_rules.specs.Tests.{same_host, last_u64}
use Rattle.nqs_rules.specs.Find.{peer_number, has_row, meant_request, find_hand, find_promise, find_peer}
use Rattle.nqs_rules.specs.Edits.{drop_row}
use Rattle.nqs_rules.specs.Rows.{change_meant, held_row, released_row, moved_row, with_priority, next_arrival}
use Rattle.nqs_rules.specs.Fits.{fits}
use Rattle.nqs_rules.specs.Applied.{applied, add_file, add_stage_to, add_output, add_outputs, hand_committed, hand_refused, hand_silent, hands_silent}
use Rattle.nqs_rules.specs.Applied.{drop_promise, accepted, edit_applied}

module _ {E : Type 0} where
  either : (b : Bool) (n : List (List ℕ)) (x y : State E) → x.site ≡ n → y.site ≡ n → (if b then x else y).site ≡ n
  either true n x y p q = p
  either false n x y p q = q

  file_site : (part : OutPart E) (s : State E) → (add_file part s).site ≡ s.site
  file_site part s = either (nat_lt s.file_next last_u64) s.site _ s refl refl

  stage_site : (host : HostId) (part : OutPart E) (o : Option Peer) (s : State E) → (add_stage_to host part o s).site ≡ s.site
  stage_site host part None s = refl
  stage_site host part (Some p) s = either (nat_lt p.stage_next last_u64) s.site _ s refl refl

  output_site : (id : RequestId) (part : OutPart E) (s : State E) → (add_output id part s).site ≡ s.site
  output_site id part s = either (same_host s.me id.host) s.site _ _ (file_site part s) (stage_site id.host part (find_peer id.host s) s)

  outputs_site : (id : RequestId) (parts : List (OutPart E)) (s : State E) → (add_outputs id parts s).site ≡ s.site
  outputs_site id [] s = refl
  outputs_site id (part ∷ parts) s = outputs_site id parts (add_output id part s) ∙ output_site id part s

  committed_site : (k : PeerNumber) (o : Option Hand) (s : State E) → (hand_committed k o s).site ≡ s.site
  committed_site k None s = refl
  committed_site k (Some h) s = refl

  refused_site : (k : PeerNumber) (refusal : ℕ) (o : Option Hand) (s : State E) → (hand_refused k refusal o s).site ≡ s.site
  refused_site k refusal None s = refl
  refused_site k refusal (Some h) s = refl

  silent_site : (until : ℕ) (k : PeerNumber) (o : Option Hand) (s : State E) → (hand_silent until k o s).site ≡ s.site
  silent_site until k None s = refl
  silent_site until k (Some h) s = refl

  silents_site : (until : ℕ) (ks : List PeerNumber) (s : State E) → (hands_silent until ks s).site ≡ s.site
  silents_site until [] s = refl
  silents_site until (k ∷ ks) s = silents_site until ks (hand_silent until k (find_hand k.peer k.number s) s)
      ∙ silent_site until k (find_hand k.peer k.number s) s

  accepted_site : (k : PeerNumber) (o : Option (Promise E)) (s : State E) → (accepted k o s).site ≡ s.site
  accepted_site k None s = refl
  accepted_site k (Some p) s = either (has_row p.row.id (drop_promise k s)) s.site _ _ refl refl

  conf_site : (e : ConfEdit) (s : State E) → (edit_applied (Conf e) s).site ≡ s.site
  conf_site SetNoDefaultQueue s = refl
  conf_site e s = refl

  limits_site : (e : LimitsEdit) (s : State E) → (edit_applied (LimitsOf e) s).site ≡ s.site
  limits_site (SetGlobalLimit n) s = refl
  limits_site e s = refl

  access_site : (e : AccessEdit) (s : State E) → (edit_applied (AccessOf e) s).site ≡ s.site
  access_site (AddManager user) s = refl
  access_site e s = refl

  devices_site : (e : DevicesEdit) (s : State E) → (edit_applied (DevicesOf e) s).site ≡ s.site
  devices_site (CreateDevice d forms) s = refl
  devices_site e s = refl

  meant_site : (o : Option RequestId) (f : Row E → Row E) (s : State E) → (change_meant o f s).site ≡ s.site
  meant_site None f s = refl
  meant_site (Some id) f s = refl

  rows_site : (e : RowsEdit) (s : State E) → (edit_applied (RowsOf e) s).site ≡ s.site
  rows_site (AbortQueue q) s = refl
  rows_site (HoldRequest id) s = meant_site (meant_request id s) held_row s
  rows_site (ReleaseRequest id) s = meant_site (meant_request id s) released_row s
  rows_site (MoveRequest id q) s = meant_site (meant_request id s) (moved_row q (s.arrivals + 1)) (next_arrival s)
  rows_site (ModifyRequest id n) s = meant_site (meant_request id s) (with_priority n) s

  edit_site : (e : Edit) (s : State E) → (edit_applied e s).site ≡ s.site
  edit_site (Conf e) s = conf_site e s
  edit_site (LimitsOf e) s = limits_site e s
  edit_site (AccessOf e) s = access_site e s
  edit_site (DevicesOf e) s = devices_site e s
  edit_site (RowsOf e) s = rows_site e s

  pub site_kept : (c : Change E) (s : State E) → fits c s ≡ true → (applied c s).site ≡ s.site
  site_kept (Site me site) s fit = absurd (true≢false (sym fit))
  site_kept (Ended id parts) s fit = outputs_site id parts (drop_row id s)
  site_kept Boot s fit = refl
  site_kept (Edited e) s fit = edit_site e s
  site_kept (HandCommitted peer number) s fit = committed_site (peer_number peer number) (find_hand peer number s) s
  site_kept (HandRefused peer number refusal) s fit = refused_site (peer_number peer number) refusal (find_hand peer number s) s
  site_kept (HandsSilent until hands) s fit = silents_site until hands s
  site_kept (Accepted peer number) s fit = accepted_site (peer_number peer number) (find_promise peer number s) s
  site_kept (StageGot peer number path bytes) s fit = file_site (record { path = path; bytes = bytes }) _
  site_kept c s fit = refl
