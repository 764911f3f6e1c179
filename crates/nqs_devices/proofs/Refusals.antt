-- First refusals, after causes that don't hold and by what a look-up found.
use Rattle.std.proofs.Common.{◌≡◌, ◌∙◌, ℕ, Bool, not, List, [], ◌∷◌, Option, None, Some, Ok, Err, sym}
use Rattle.std.specs.List.{list_any}
use Rattle.nqs_state.specs.State.{State}
use Rattle.nqs_state.specs.Keys.{is_queue}
use Rattle.nqs_access.proofs.Causes.{passed}
use Rattle.nqs_access.proofs.Found.{queue_there, queue_missing}
use Rattle.nqs_rules.specs.Tests.{passes}
use Rattle.nqs_rules.specs.Causes.{Cause, cause, first_refusal}
use Rattle.nqs_rules.specs.Find.{find_queue}
use Rattle.nqs_rules.specs.Devices.{device_causes, devices_causes, is_device_queue, lists_device}
use Rattle.nqs_types.specs.declared.queue.QueueDef.{QueueDef}
use Rattle.nqs_types.specs.declared.refusal.Refusal.TheVariants.{NoQueue, WrongKind, IsMember, NotMember}
use Rattle.nqs_types.specs.declared.edit.DevicesEdit.TheVariants.{AddDevice, RemoveDevice}

abbrev add_part : List ℕ → List ℕ → Bool → Option QueueDef → List Cause
add_part d q there found =
    cause (not there) (NoQueue q) ∷ cause (not (passes is_device_queue found)) WrongKind ∷ cause (passes (lists_device d) found) IsMember ∷ []

abbrev remove_part : List ℕ → List ℕ → Bool → Option QueueDef → List Cause
remove_part d q there found = cause (not there) (NoQueue q) ∷ cause (not (passes (lists_device d) found)) NotMember ∷ []

module _ {E : Type 0} (d q : List ℕ) (s : State E) where
  pub add_found : (def : QueueDef) → Ok tt ≡ first_refusal (device_causes d s) → Some def ≡ find_queue q s
      → first_refusal (cause (not (is_device_queue def)) WrongKind ∷ cause (lists_device d def) IsMember ∷ [])
      ≡ first_refusal (devices_causes (AddDevice d q) s)
  add_found def ok h =
      (λ i. first_refusal (add_part d q (sym (queue_there q s def (sym h)) i) (h i)))
      ∙ sym (passed (device_causes d s) (add_part d q (list_any (is_queue q) s.queues) (find_queue q s)) ok)

  pub add_absent : Ok tt ≡ first_refusal (device_causes d s) → None ≡ find_queue q s → Err (NoQueue q) ≡ first_refusal (devices_causes (AddDevice d q) s)
  add_absent ok h =
      (λ i. first_refusal (add_part d q (sym (queue_missing q s (sym h)) i) (h i)))
      ∙ sym (passed (device_causes d s) (add_part d q (list_any (is_queue q) s.queues) (find_queue q s)) ok)

  pub remove_found : (def : QueueDef) → Some def ≡ find_queue q s
      → first_refusal (cause (not (lists_device d def)) NotMember ∷ []) ≡ first_refusal (devices_causes (RemoveDevice d q) s)
  remove_found def h = (λ i. first_refusal (remove_part d q (sym (queue_there q s def (sym h)) i) (h i)))

  pub remove_absent : None ≡ find_queue q s → Err (NoQueue q) ≡ first_refusal (devices_causes (RemoveDevice d q) s)
  remove_absent h = (λ i. first_refusal (remove_part d q (sym (queue_missing q s (sym h)) i) (h i)))
