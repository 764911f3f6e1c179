-- Values within their limits: what the readers of records, words and datagrams make sure of.
use Rattle.std.specs.Prelude.{ℕ, Bool, true, not, ◌&&◌, ◌==◌, nat_le, nat_lt, List, [], ◌∷◌, length, Option, None, Some}
use Rattle.std.specs.List.{list_all, list_any}
use Rattle.nqs_base.specs.Path.{is_visible, is_parent, is_path}
use Rattle.nqs_rules.specs.Tests.{last_seq}
use Rattle.nqs_rules.specs.Conf.{is_conf_within}
use Rattle.nqs_rules.specs.Limits.{is_limits_within}
use Rattle.nqs_rules.specs.Rows.{is_rows_within}
use Rattle.nqs_types.specs.Scripts.{longest_script}
use Rattle.nqs_types.specs.declared.ids.HostId.{HostId}
use Rattle.nqs_types.specs.declared.ids.RequestId.{RequestId}
use Rattle.nqs_types.specs.declared.request.Job.{Job}
use Rattle.nqs_types.specs.declared.request.Carried.{Carried}
use Rattle.nqs_types.specs.declared.edit.Edit.{Edit}
use Rattle.nqs_types.specs.declared.edit.Edit.TheVariants.{Conf, Limits as LimitsOf, Access as AccessOf, Devices as DevicesOf, Rows as RowsOf}
use Rattle.nqs_types.specs.declared.change.OutPart.{OutPart}
use Rattle.nqs_types.specs.declared.change.Change.{Change}
use Rattle.nqs_types.specs.declared.change.Change.TheVariants.{Site, Submitted, Ended, Edited, OldPromised, Promised, StageGot}
use Rattle.nqs_types.specs.declared.message.Message.{Message}
use Rattle.nqs_types.specs.declared.message.Body.{Body}
use Rattle.nqs_types.specs.declared.message.Body.TheVariants as body
use Rattle.nqs_types.specs.declared.event.Submission.{Submission}
use Rattle.nqs_types.specs.declared.event.Command.{Command}
use Rattle.nqs_types.specs.declared.event.Command.TheVariants as command
use Rattle.nqs_types.specs.declared.event.Event.{Event}
use Rattle.nqs_types.specs.declared.event.Event.TheVariants as event

-- the numbers of an edit
abbrev pub is_sane_edit : Edit → Bool
is_sane_edit (Conf e) = is_conf_within e
is_sane_edit (LimitsOf e) = is_limits_within e
is_sane_edit (AccessOf _) = true
is_sane_edit (DevicesOf _) = true
is_sane_edit (RowsOf e) = is_rows_within e

-- a job's priority and its paths are within their limits
abbrev pub is_sane_job : Job → Bool
is_sane_job j = nat_le j.priority 63 && is_path j.out && is_path j.err

-- a request's number is one that a host may give
abbrev pub is_sane_id : RequestId → Bool
is_sane_id id = nat_le 1 id.seq && nat_le id.seq last_seq

-- a request on its way was started as often as it was lost
abbrev pub is_sane_carried : Carried → Bool
is_sane_carried c = is_sane_id c.id && is_sane_job c.job && nat_lt c.starts 65535 && c.lost == c.starts && nat_le c.hops 32

-- an output's path is one
abbrev pub has_path : {E : Type 0} → OutPart E → Bool
has_path part = is_path part.path

-- an offer's low is from 1 to its number
abbrev pub is_sane_low : ℕ → ℕ → Bool
is_sane_low low number = nat_le 1 low && nat_le low number

-- the values of a change
abbrev pub is_sane_change : {E : Type 0} → Change E → Bool
is_sane_change (Site me site) = nat_lt me.0 (length site) && nat_le (length site) 16
is_sane_change (Submitted _ job _) = is_sane_job job
is_sane_change (Ended _ parts) = nat_le (length parts) 2 && list_all has_path parts
is_sane_change (Edited e) = is_sane_edit e
is_sane_change (OldPromised _ _ _ c _) = is_sane_carried c
is_sane_change (Promised _ number low _ c _) = is_sane_low low number && is_sane_carried c
is_sane_change (StageGot _ _ path _) = is_path path
is_sane_change _ = true

-- a path of an output in a submission may be left out
abbrev pub is_path_or_none : List ℕ → Bool
is_path_or_none [] = true
is_path_or_none (b ∷ bs) = is_path (b ∷ bs)

-- a byte that a name may have: one that is seen, but no `/`
abbrev pub is_name_byte : ℕ → Bool
is_name_byte b = is_visible b && not (b == 47)

-- a name: 1 to 15 bytes that are seen, no `/` among them
abbrev pub is_sane_name : List ℕ → Bool
is_sane_name name = nat_le 1 (length name) && nat_le (length name) 15 && list_all is_name_byte name

-- a job as it is asked for
abbrev pub is_asked_job : Job → Bool
is_asked_job j = is_sane_name j.name && nat_le j.priority 63 && is_path_or_none j.out && is_path_or_none j.err

-- a folder of outputs, where there is one, is a name other than `..`
abbrev pub is_sane_folder : Option (List ℕ) → Bool
is_sane_folder None = true
is_sane_folder (Some folder) = is_sane_name folder && not (is_parent folder)

-- what is asked for in a submission, beside its script: the job, and the folder of its outputs
abbrev pub is_asked : Submission → Bool
is_asked sub = is_asked_job sub.job && is_sane_folder sub.folder

-- a script has at most 1,048,576 bytes
abbrev pub is_short_script : List ℕ → Bool
is_short_script bytes = nat_le (length bytes) longest_script

-- an output that is kept, as a stage or a file, has at most 32,768 bytes
abbrev pub is_short_file : List ℕ → Bool
is_short_file bytes = nat_le (length bytes) 32768

-- an output, as a job leaves it, has at most 16,384 bytes
abbrev pub is_short_output : List ℕ → Bool
is_short_output bytes = nat_le (length bytes) 16384

-- the parts that a change stores are short, by the length of each: a script, or outputs that are
-- kept
abbrev pub is_short_change : {E : Type 0} → (E → ℕ) → Change E → Bool
is_short_change size (Submitted _ _ script) = nat_le (size script) longest_script
is_short_change size (Ended _ parts) = list_all (λ part. nat_le (size part.bytes) 32768) parts
is_short_change size (OldPromised _ _ _ _ script) = nat_le (size script) longest_script
is_short_change size (Promised _ _ _ _ _ script) = nat_le (size script) longest_script
is_short_change size (StageGot _ _ _ bytes) = nat_le (size bytes) 32768
is_short_change size _ = true

-- what a command brings is within its limits
abbrev pub is_sane_command : Command → Bool
is_sane_command (command.Submit sub) = is_asked sub && is_short_script sub.script
is_sane_command (command.Edit e) = is_sane_edit e
is_sane_command _ = true

-- the numbers by which an offer may be refused
abbrev pub is_offer_refusal : ℕ → Bool
is_offer_refusal n = list_any (λ m. m == n) (3 ∷ 19 ∷ 21 ∷ 28 ∷ 29 ∷ 31 ∷ 32 ∷ 33 ∷ [])

-- a host has a place in a site of so many hosts
abbrev pub is_of_site : ℕ → HostId → Bool
is_of_site hosts h = nat_lt h.0 hosts

-- what a message brings is within its limits, in a site of so many hosts
abbrev pub is_sane_body : ℕ → Body → Bool
is_sane_body hosts (body.Offer n low _ c script) =
    nat_le 1 n && is_sane_low low n && is_sane_carried c && is_of_site hosts c.id.host && is_short_script script
is_sane_body hosts (body.Refused n refusal) = nat_le 1 n && is_offer_refusal refusal
is_sane_body hosts (body.Stage n path bytes) = nat_le 1 n && is_path path && is_short_file bytes
is_sane_body hosts _ = true

-- a message is from a host of the site, and what it brings is within its limits
abbrev pub is_sane_message : ℕ → Message → Bool
is_sane_message hosts m = is_of_site hosts m.from && is_sane_body hosts m.body

-- the values of an event at a host of a site of so many hosts
abbrev pub is_sane_event : ℕ → Event → Bool
is_sane_event hosts (event.Ask _ _ _ _ c) = is_sane_command c
is_sane_event hosts (event.Arrived _ m) = is_sane_message hosts m
is_sane_event hosts (event.Ended _ _ _ _ _ output error) = is_short_output output && is_short_output error
is_sane_event hosts _ = true
