-- Devices, the forms that they have, and their edits.
use Rattle.std.specs.Prelude.{ℕ, Bool, true, false, not, ◌&&◌, nat_le, List, [], ◌∷◌, ◌++◌, map, length, position, Option, None, Some}
use Rattle.std.specs.List.{list_any}
use Rattle.nqs_base.specs.Same.{name_eq}
use Rattle.nqs_state.specs.State.{State}
use Rattle.nqs_base_tables.specs.Table.{without_first}
use Rattle.nqs_state.specs.Keys.{is_device}
pub use Rattle.nqs_index.specs.Seats.{same_name_as}
use Rattle.nqs_rules.specs.Tests.{passes, is_running, is_device_kind}
use Rattle.nqs_rules.specs.Causes.{Cause, cause}
use Rattle.nqs_rules.specs.Find.{has_name, has_queue, find_queue, has_device, find_device}
use Rattle.nqs_rules.specs.Edits.{change_queue, change_device}
use Rattle.nqs_rules.specs.Access.{without_name}
use Rattle.nqs_types.specs.declared.request.Row.{Row}
use Rattle.nqs_types.specs.declared.queue.QueueDef.{QueueDef}
use Rattle.nqs_types.specs.declared.queue.DeviceDef.{DeviceDef}
use Rattle.nqs_types.specs.declared.refusal.Refusal.TheVariants.{NoQueue, NoDevice, DeviceExists, DeviceBusy, WrongKind, IsMember, NotMember, TooMany}
use Rattle.nqs_types.specs.declared.edit.DevicesEdit.{DevicesEdit}
use Rattle.nqs_types.specs.declared.edit.DevicesEdit.TheVariants.{CreateDevice, DeleteDevice, EnableDevice, DisableDevice, SetForms, AddDevice, RemoveDevice}

-- the device has these forms, where forms are asked for
abbrev pub has_forms : Option (List ℕ) → DeviceDef → Bool
has_forms None d = true
has_forms (Some forms) d = name_eq forms d.forms

-- the device is enabled and has the forms
abbrev pub can_serve : Option (List ℕ) → DeviceDef → Bool
can_serve forms d = d.enabled && has_forms forms d

module _ {E : Type 0} where
  -- whether a request is printed on this device
  abbrev pub runs_on : List ℕ → Row E → Bool
  runs_on device r = is_running r.state && same_name_as device r.device

  -- a running request is on the device
  abbrev pub is_busy : List ℕ → State E → Bool
  is_busy device s = list_any (runs_on device) s.rows

  -- whether a device may take a request with these forms now
  abbrev pub is_free_device : Option (List ℕ) → State E → List ℕ → Bool
  is_free_device forms s device = passes (can_serve forms) (find_device device s) && not (is_busy device s)

  -- the place in the queue's list of its first device that is free and has the forms
  abbrev pub free_device : QueueDef → Option (List ℕ) → State E → Option ℕ
  free_device d forms s = position (is_free_device forms s) d.devices

-- whether a queue feeds devices
abbrev pub is_device_queue : QueueDef → Bool
is_device_queue d = is_device_kind d.kind

-- whether a queue has this device
abbrev pub lists_device : List ℕ → QueueDef → Bool
lists_device device d = has_name d.devices device

module _ {E : Type 0} where
  -- that there is no such device
  abbrev pub device_causes : List ℕ → State E → List Cause
  device_causes d s = cause (not (has_device d s)) (NoDevice d) ∷ []

  -- that there is no such device, or that it is busy
  abbrev pub idle_device_causes : List ℕ → State E → List Cause
  idle_device_causes d s = cause (not (has_device d s)) (NoDevice d) ∷ cause (is_busy d s) (DeviceBusy d) ∷ []

  -- the causes for which an edit of devices is refused, in order
  abbrev pub devices_causes : DevicesEdit → State E → List Cause
  devices_causes (CreateDevice d _) s = cause (has_device d s) (DeviceExists d) ∷ cause (nat_le 64 (length s.devices)) TooMany ∷ []
  devices_causes (DeleteDevice d) s = idle_device_causes d s
  devices_causes (EnableDevice d) s = device_causes d s
  devices_causes (DisableDevice d) s = device_causes d s
  devices_causes (SetForms _ d) s = idle_device_causes d s
  devices_causes (AddDevice d q) s =
      cause (not (has_device d s)) (NoDevice d) ∷ cause (not (has_queue q s)) (NoQueue q) ∷ cause (not (passes is_device_queue (find_queue q s))) WrongKind
      ∷ cause (passes (lists_device d) (find_queue q s)) IsMember ∷ []
  devices_causes (RemoveDevice d q) s = cause (not (has_queue q s)) (NoQueue q) ∷ cause (not (passes (lists_device d) (find_queue q s))) NotMember ∷ []

-- what an edit makes of its device
abbrev pub device_edited : DevicesEdit → DeviceDef → DeviceDef
device_edited (EnableDevice _) d = record d { enabled = true }
device_edited (DisableDevice _) d = record d { enabled = false }
device_edited (SetForms forms _) d = record d { forms = forms }
device_edited _ d = d

-- a queue with one device more
abbrev pub with_device : List ℕ → QueueDef → QueueDef
with_device device d = record d { devices = d.devices ++ device ∷ [] }

-- a queue without a device
abbrev pub without_device : List ℕ → QueueDef → QueueDef
without_device device d = record d { devices = without_name device d.devices }

-- a created device is disabled
abbrev pub new_device : List ℕ → List ℕ → DeviceDef
new_device device forms = record { name = device; forms = forms; enabled = false }

-- what an edit of devices makes of a state
abbrev pub devices_applied : {E : Type 0} → DevicesEdit → State E → State E
devices_applied (CreateDevice d forms) s = record s { devices = s.devices ++ new_device d forms ∷ [] }
devices_applied (DeleteDevice d) s = record s { devices = without_first (is_device d) s.devices; queues = map (without_device d) s.queues }
devices_applied (EnableDevice d) s = change_device d (device_edited (EnableDevice d)) s
devices_applied (DisableDevice d) s = change_device d (device_edited (DisableDevice d)) s
devices_applied (SetForms forms d) s = change_device d (device_edited (SetForms forms d)) s
devices_applied (AddDevice d q) s = change_queue q (with_device d) s
devices_applied (RemoveDevice d q) s = change_queue q (without_device d) s
