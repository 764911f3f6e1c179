-- The extents that a change takes away.
use Rattle.std.specs.Prelude.{ℕ, ◌-◌, Bool, not, ◌&&◌, nat_lt, if◌then◌else◌, List, [], ◌∷◌, ◌++◌, map, filter, find, drop, Option, None, Some}
use Rattle.nqs_state.specs.Keys.{is_stage, is_file}
use Rattle.nqs_base.specs.declared.extent.Extent.{Extent}
use Rattle.nqs_types.specs.declared.ids.HostId.{HostId}
use Rattle.nqs_types.specs.declared.request.Row.{Row}
use Rattle.nqs_types.specs.declared.request.Promise.{Promise}
use Rattle.nqs_types.specs.declared.request.Hand.{Hand}
use Rattle.nqs_types.specs.declared.request.Peer.{Peer}
use Rattle.nqs_types.specs.declared.change.Change.{Change}
use Rattle.nqs_types.specs.declared.change.Change.TheVariants.{Deleted, Ended, Unlaunched, Boot, Edited, HandCommitted, OldPromised, Promised, Accepted}
use Rattle.nqs_types.specs.declared.change.Change.TheVariants.{Dropped, StageGot}
use Rattle.nqs_types.specs.declared.change.Change.TheVariants.{StageGone, FileGone}
use Rattle.nqs_types.specs.declared.edit.Edit.TheVariants.{Conf}
use Rattle.nqs_types.specs.declared.edit.ConfEdit.TheVariants.{PurgeQueue}
use Rattle.nqs_rules.specs.Tests.{is_running, same_host, last_u64}
use Rattle.nqs_rules.specs.Conf.{is_queued_in}
use Rattle.nqs_rules.specs.Find.{peer_number, has_row, find_row, find_hand, find_promise, find_peer}
use Rattle.nqs_rules.specs.Applied.{may_start_again, is_outlived}
use Rattle.nqs_rules.specs.Stepped.{stored_parts}
use Rattle.nqs_store.specs.Told.{Host}
use Rattle.nqs_store.specs.Live.{row_part, promise_part, stage_part, file_part}

-- that of a value, if there is one
abbrev pub part_of : {V : Type 0} → (V → Extent) → Option V → List Extent
part_of part None = []
part_of part (Some v) = part v ∷ []

-- a row that goes at a boot
abbrev pub goes_at_boot : Row Extent → Bool
goes_at_boot row = is_running row.state && not (may_start_again row)

-- how many more numbers there are for outputs to a peer
abbrev pub stages_left : Option Peer → ℕ
stages_left None = 0
stages_left (Some peer) = last_u64 - peer.stage_next

-- how many more numbers there are for outputs to a host
abbrev pub numbers_left : HostId → Host → ℕ
numbers_left to host = if same_host host.me to then last_u64 - host.file_next else stages_left (find_peer to host)

-- the script of the request that a handover is of
abbrev pub row_of_hand : Host → Option Hand → List Extent
row_of_hand host None = []
row_of_hand host (Some hand) = part_of row_part (find_row hand.id host)

-- a promise whose request is a row already
abbrev pub doubled : Host → Option (Promise Extent) → List Extent
doubled host None = []
doubled host (Some promise) = if has_row promise.row.id host then promise_part promise ∷ [] else []

-- the scripts of promises that an offer with this low outlives: there may be several
abbrev pub outlived : HostId → ℕ → Host → List Extent
outlived peer low host = map promise_part (filter (is_outlived peer low) host.promises)

-- what a change takes away of a host's extents, or doesn't take up of its own
abbrev pub gone : Change Extent → Host → List Extent
gone (Deleted id) host = part_of row_part (find_row id host)
gone (Ended id parts) host = part_of row_part (find_row id host) ++ drop (numbers_left id.host host) (stored_parts (Ended id parts))
gone (Unlaunched id) host = part_of row_part (find_row id host)
gone Boot host = map row_part (filter goes_at_boot host.rows)
gone (Edited (Conf (PurgeQueue queue))) host = map row_part (filter (is_queued_in queue) host.rows)
gone (HandCommitted peer number) host = row_of_hand host (find_hand peer number host)
gone (OldPromised peer number queue carried script) host = outlived peer number host
gone (Promised peer number low queue carried script) host = outlived peer low host
gone (Accepted peer number) host = doubled host (find_promise peer number host)
gone (Dropped peer number) host = part_of promise_part (find_promise peer number host)
gone (StageGot peer number path bytes) host = if nat_lt host.file_next last_u64 then [] else bytes ∷ []
gone (StageGone peer number) host = part_of stage_part (find (is_stage (peer_number peer number)) host.stages)
gone (FileGone file) host = part_of file_part (find (is_file file) host.files)
gone change host = []
