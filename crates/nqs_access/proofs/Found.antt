use Rattle.std.proofs.Common.{◌≡◌, ◌∙◌, ℕ, List, true, false, Some, None, is_some, sym, ap}
use Rattle.nqs_state.specs.State.{State}
use Rattle.nqs_state.specs.Keys.{is_queue, is_complex}
use Rattle.nqs_types.specs.declared.queue.QueueDef.{QueueDef}
use Rattle.nqs_types.specs.declared.queue.ComplexDef.{ComplexDef}
use Rattle.nqs_base_tables.proofs.TableLemmas.{is_some-find}
use Rattle.nqs_rules.specs.Find.{find_queue, has_queue, find_complex, has_complex}

-- what is found is there, and what isn't found is not
module _ {E : Type 0} (name : List ℕ) (s : State E) where
  pub queue_there : (d : QueueDef) → find_queue name s ≡ Some d → has_queue name s ≡ true
  queue_there d found = sym (is_some-find (is_queue name) s.queues) ∙ ap is_some found

  pub queue_missing : find_queue name s ≡ None → has_queue name s ≡ false
  queue_missing none = sym (is_some-find (is_queue name) s.queues) ∙ ap is_some none

  pub complex_there : (c : ComplexDef) → find_complex name s ≡ Some c → has_complex name s ≡ true
  complex_there c found = sym (is_some-find (is_complex name) s.complexes) ∙ ap is_some found

  pub complex_missing : find_complex name s ≡ None → has_complex name s ≡ false
  complex_missing none = sym (is_some-find (is_complex name) s.complexes) ∙ ap is_some none
