-- First refusals of lists that are put together, and by what a look-up found.
use Rattle.std.proofs.Common.{◌≡◌, ℕ, ◌+◌, ◌<◌, Bool, true, false, true≢false, not, List, [], ◌∷◌, ◌++◌, Option, None, Some, Err, is_ok, nat_le, if◌then◌else◌}
use Rattle.std.proofs.Common.{refl, sym, arith, IsTrue}
use Rattle.std.proofs.lemmas.Bool.Decides.{nat_tests}
use Rattle.std.specs.List.{list_any}
use Rattle.nqs_state.specs.State.{State}
use Rattle.nqs_state.specs.Keys.{is_queue}
pub use Rattle.nqs_access.proofs.Causes.{passed, refused}
use Rattle.nqs_access.proofs.Found.{queue_there, queue_missing}
use Rattle.nqs_rules.specs.Tests.{passes}
use Rattle.nqs_rules.specs.Causes.{Cause, cause, first_refusal}
use Rattle.nqs_rules.specs.Find.{find_queue, meant_row}
use Rattle.nqs_rules.specs.Rows.{causes_of, arrivals_used, idle_causes, move_entry_causes, move_causes, is_host_full, numbers_used, queue_entry_causes}
use Rattle.nqs_rules.specs.Rows.{submit_causes_at, named_causes, rows_causes}
use Rattle.nqs_types.specs.declared.ids.Named.{Named}
use Rattle.nqs_types.specs.declared.request.Job.{Job}
use Rattle.nqs_types.specs.declared.request.Row.{Row}
use Rattle.nqs_types.specs.declared.queue.QueueDef.{QueueDef}
use Rattle.nqs_types.specs.declared.refusal.Refusal.{Refusal}
use Rattle.nqs_types.specs.declared.refusal.Refusal.TheVariants.{NoQueue, WrongKind, HostFull, NumbersUsed}
use Rattle.nqs_types.specs.declared.edit.RowsEdit.TheVariants.{AbortQueue, MoveRequest}
use Rattle.nqs_rules.specs.Conf.{is_pipe_queue}

-- where nothing is refused the last cause doesn't hold
last_fails : (cs : List Cause) (b : Bool) (r : Refusal) → IsTrue (is_ok (first_refusal (cs ++ cause b r ∷ []))) → b ≡ false
last_fails [] true r h = absurd (true≢false (sym h))
last_fails [] false r h = refl
last_fails (c ∷ cs) b r h = by (last_fails cs b r) c.holds h
  where
    by : (IsTrue (is_ok (first_refusal (cs ++ cause b r ∷ []))) → b ≡ false) → (t : Bool)
        → IsTrue (is_ok (if t then Err c.refusal else first_refusal (cs ++ cause b r ∷ []))) → b ≡ false
    by _ true h = absurd (true≢false (sym h))
    by rest false h = rest h

module _ {E : Type 0} (s : State E) where
  abbrev pub host_causes : List Cause
  host_causes = cause (is_host_full s) HostFull ∷ cause (numbers_used s) NumbersUsed ∷ []

  abbrev submit_part : Job → List ℕ → Bool → Option QueueDef → List Cause
  submit_part job q there found = cause (not there) (NoQueue q) ∷ causes_of (queue_entry_causes job) found ++ host_causes

  pub submit_found : (job : Job) (q : List ℕ) (d : QueueDef) → Some d ≡ find_queue q s
      → first_refusal (queue_entry_causes job d ++ host_causes) ≡ first_refusal (submit_causes_at job (Some q) s)
  submit_found job q d h = (λ i. first_refusal (submit_part job q (sym (queue_there q s d (sym h)) i) (h i)))

  pub submit_absent : (job : Job) (q : List ℕ) → None ≡ find_queue q s → Err (NoQueue q) ≡ first_refusal (submit_causes_at job (Some q) s)
  submit_absent job q h = (λ i. first_refusal (submit_part job q (sym (queue_missing q s (sym h)) i) (h i)))

  abbrev pub used_causes : List Cause
  used_causes = cause (arrivals_used s) NumbersUsed ∷ []

  abbrev move_part : Named → Row E → List ℕ → Bool → Option QueueDef → List Cause
  move_part id r q there found = cause (not there) (NoQueue q) ∷ idle_causes id r ++ causes_of (move_entry_causes r) found ++ used_causes

  pub move_found : (id : Named) (r : Row E) (q : List ℕ) (d : QueueDef) → Some d ≡ find_queue q s
      → first_refusal (idle_causes id r ++ move_entry_causes r d ++ used_causes) ≡ first_refusal (move_causes id q s r)
  move_found id r q d h = (λ i. first_refusal (move_part id r q (sym (queue_there q s d (sym h)) i) (h i)))

  pub move_absent : (id : Named) (r : Row E) (q : List ℕ) → None ≡ find_queue q s → Err (NoQueue q) ≡ first_refusal (move_causes id q s r)
  move_absent id r q h = (λ i. first_refusal (move_part id r q (sym (queue_missing q s (sym h)) i) (h i)))

  abbrev abort_part : List ℕ → Bool → Option QueueDef → List Cause
  abort_part q there found = cause (not there) (NoQueue q) ∷ cause (passes is_pipe_queue found) WrongKind ∷ []

  pub abort_found : (q : List ℕ) (d : QueueDef) → Some d ≡ find_queue q s
      → first_refusal (cause (is_pipe_queue d) WrongKind ∷ []) ≡ first_refusal (rows_causes (AbortQueue q) s)
  abort_found q d h = (λ i. first_refusal (abort_part q (sym (queue_there q s d (sym h)) i) (h i)))

  pub abort_absent : (q : List ℕ) → None ≡ find_queue q s → Err (NoQueue q) ≡ first_refusal (rows_causes (AbortQueue q) s)
  abort_absent q h = (λ i. first_refusal (abort_part q (sym (queue_missing q s (sym h)) i) (h i)))

  -- a move that isn't refused has an arrival number left
  pub move_has_number : (id : Named) (q : List ℕ) → IsTrue (is_ok (first_refusal (rows_causes (MoveRequest id q) s))) → s.arrivals < 18446744073709551615
  move_has_number id q h = by (meant_row id s) h
    where
      by : (o : Option (Row E)) → IsTrue (is_ok (first_refusal (named_causes id (move_causes id q s) o))) → s.arrivals < 18446744073709551615
      by None h = absurd (true≢false (sym h))
      by (Some r) h =
          let unused : nat_le 18446744073709551615 s.arrivals ≡ false =
          last_fails (cause (not (list_any (is_queue q) s.queues)) (NoQueue q) ∷ idle_causes id r ++ causes_of (move_entry_causes r) (find_queue q s))
          (arrivals_used s) NumbersUsed h in
          grind (arith, nat_tests)
