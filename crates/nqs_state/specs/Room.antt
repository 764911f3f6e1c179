-- The room that a change needs, so that making it takes no memory.
use Rattle.std.specs.Prelude.{ℕ, ◌<◌, ◌≤◌, length, Option, None, Some, find, slice_get}
use Rattle.nqs_state.specs.Keys.{is_queue, is_complex, is_row, is_hand}
use Rattle.nqs_types.specs.declared.queue.Access.{Access}
use Rattle.nqs_types.specs.declared.queue.Access.TheVariants.{All, Users}
use Rattle.nqs_types.specs.declared.queue.QueueDef.{QueueDef}
use Rattle.nqs_types.specs.declared.queue.ComplexDef.{ComplexDef}
use Rattle.nqs_types.specs.declared.request.Row.{Row}
use Rattle.nqs_types.specs.declared.request.Hand.{Hand}
use Rattle.nqs_types.specs.declared.request.Peer.{Peer}
use Rattle.nqs_types.specs.declared.ids.HostId.{HostId}
use Rattle.nqs_base.specs.declared.extent.Extent.{Extent}
use Rattle.nqs_state.specs.declared.state.HostState.{HostState}
use Rattle.nqs_types.specs.declared.change.Change.{Change}
use Rattle.nqs_types.specs.declared.change.Change.TheVariants.{Submitted, Ended, Edited, HandOpened, HandRefused, OldPromised, Promised, Accepted, Dropped}
use Rattle.nqs_types.specs.declared.change.Change.TheVariants.{RefusedLocal, StageGot}
use Rattle.nqs_types.specs.declared.edit.Edit.{Edit}
use Rattle.nqs_types.specs.declared.edit.Edit.TheVariants.{Conf, Limits as LimitsOf, Access as AccessOf, Devices as DevicesOf, Rows as RowsOf}
use Rattle.nqs_types.specs.declared.edit.ConfEdit.{ConfEdit}
use Rattle.nqs_types.specs.declared.edit.ConfEdit.TheVariants.{CreateBatchQueue, CreateDeviceQueue, CreatePipeQueue, AddDestination}
use Rattle.nqs_types.specs.declared.edit.LimitsEdit.{LimitsEdit}
use Rattle.nqs_types.specs.declared.edit.LimitsEdit.TheVariants.{CreateComplex, AddQueue}
use Rattle.nqs_types.specs.declared.edit.AccessEdit.{AccessEdit}
use Rattle.nqs_types.specs.declared.edit.AccessEdit.TheVariants.{AddUser, AddManager, AddOperator}
use Rattle.nqs_types.specs.declared.edit.DevicesEdit.{DevicesEdit}
use Rattle.nqs_types.specs.declared.edit.DevicesEdit.TheVariants.{CreateDevice, AddDevice}

-- lengths of the lists within a queue, a complex or a row, 0 where there is none

-- how many users a list of access has
abbrev pub user_count : Access → ℕ
user_count All = 0
user_count (Users users) = length users

-- how many users the list of a queue has, 0 where there is no such queue
abbrev pub users_of : Option QueueDef → ℕ
users_of None = 0
users_of (Some q) = user_count q.access

-- how many destinations a queue has
abbrev pub dests_of : Option QueueDef → ℕ
dests_of None = 0
dests_of (Some q) = length q.dests

-- how many devices a queue has
abbrev pub devices_of : Option QueueDef → ℕ
devices_of None = 0
devices_of (Some q) = length q.devices

-- how many queues a complex has
abbrev pub members_of : Option ComplexDef → ℕ
members_of None = 0
members_of (Some c) = length c.queues

-- how many refusals a request has
abbrev pub refusals_of : {E : Type 0} → Option (Row E) → ℕ
refusals_of None = 0
refusals_of (Some r) = length r.refused

-- of the row of a hand
abbrev pub hand_refusals : Option Hand → HostState → ℕ
hand_refusals None h = 0
hand_refusals (Some hand) h = refusals_of (find (is_row hand.id) h.rows.items)

-- how many closed numbers of a peer are kept apart
abbrev pub closed_of : Option Peer → ℕ
closed_of None = 0
closed_of (Some p) = length p.closed

-- a list of closed numbers of the peer may become longer by one
abbrev pub HasRoomToClose : HostId → HostState → Type 0
HasRoomToClose peer h = closed_of (slice_get h.peers peer.0) < h.spare_closed

-- there is room for what an edit of queues adds
abbrev pub HasRoomForConf : ConfEdit → HostState → Type 0
HasRoomForConf (CreateBatchQueue _ _ _ _) h = 0 < h.queues.spare
HasRoomForConf (CreateDeviceQueue _ _ _ _) h = 0 < h.queues.spare
HasRoomForConf (CreatePipeQueue _ _ _ _ _) h = (0 < h.queues.spare) × (0 < h.spare_dests)
HasRoomForConf (AddDestination _ q) h = dests_of (find (is_queue q) h.queues.items) < h.spare_dests
HasRoomForConf _ h = Unit {0}

-- there is room for what an edit of limits and complexes adds
abbrev pub HasRoomForLimits : LimitsEdit → HostState → Type 0
HasRoomForLimits (CreateComplex _) h = 0 < h.complexes.spare
HasRoomForLimits (AddQueue _ c) h = members_of (find (is_complex c) h.complexes.items) < h.spare_names
HasRoomForLimits _ h = Unit {0}

-- there is room for the user that an edit of access adds
abbrev pub HasRoomForAccess : AccessEdit → HostState → Type 0
HasRoomForAccess (AddUser _ q) h = users_of (find (is_queue q) h.queues.items) < h.spare_names
HasRoomForAccess (AddManager _) h = length h.managers < h.spare_names
HasRoomForAccess (AddOperator _) h = length h.operators < h.spare_names
HasRoomForAccess _ h = Unit {0}

-- there is room for what an edit of devices adds
abbrev pub HasRoomForDevices : DevicesEdit → HostState → Type 0
HasRoomForDevices (CreateDevice _ _) h = 0 < h.devices.spare
HasRoomForDevices (AddDevice _ q) h = devices_of (find (is_queue q) h.queues.items) < h.spare_names
HasRoomForDevices _ h = Unit {0}

-- the room that an edit needs is there
abbrev pub HasRoomForEdit : Edit → HostState → Type 0
HasRoomForEdit (Conf e) h = HasRoomForConf e h
HasRoomForEdit (LimitsOf e) h = HasRoomForLimits e h
HasRoomForEdit (AccessOf e) h = HasRoomForAccess e h
HasRoomForEdit (DevicesOf e) h = HasRoomForDevices e h
HasRoomForEdit (RowsOf e) h = Unit {0}

-- and a change
abbrev pub HasRoom : Change Extent → HostState → Type 0
HasRoom (Submitted _ _ _) h = 0 < h.rows.spare
HasRoom (Ended id parts) h = (length parts ≤ h.files.spare) × (length parts ≤ h.stages.spare)
HasRoom (Edited e) h = HasRoomForEdit e h
HasRoom (HandOpened _ _ _ _ _) h = 0 < h.hands.spare
HasRoom (HandRefused peer number _) h = hand_refusals (find (is_hand (record { peer = peer; number = number })) h.hands.items) h < h.spare_refused
HasRoom (OldPromised _ _ _ _ _) h = 0 < h.promises.spare
HasRoom (Promised _ _ _ _ _ _) h = 0 < h.promises.spare
HasRoom (Accepted peer _) h = (0 < h.rows.spare) × HasRoomToClose peer h
HasRoom (Dropped peer _) h = HasRoomToClose peer h
HasRoom (RefusedLocal id _ _) h = refusals_of (find (is_row id) h.rows.items) < h.spare_refused
HasRoom (StageGot _ _ _ _) h = 0 < h.files.spare
HasRoom _ h = Unit {0}
