-- The hops of a row that is there.
use Rattle.std.proofs.Common.{◌≡◌, ◌<◌, ℕ, true, false, true≢false, ◌&&◌, Some, slice_get, sym, refl, arith, IsTrue}
use Rattle.std.proofs.lemmas.Bool.Decides.{nat_tests}
use Rattle.nqs_state.specs.State.{State}
use Rattle.nqs_types.specs.declared.ids.RequestId.{RequestId}
use Rattle.nqs_types.specs.declared.request.Row.{Row}
use Rattle.nqs_rules.specs.Find.{find_row}
use Rattle.nqs_rules.proofs.ListFacts.{list_all-found}
use Rattle.nqs_rules.proofs.KeyFacts.{all_get}
use Rattle.nqs_handover.specs.Opened.{may_count_hop, may_count_hops}

module _ {E : Type 0} (s : State E) (all : IsTrue (may_count_hops s)) where
  few : (r : Row E) → may_count_hop r ≡ true → r.hops < 255
  few r h = grind (arith, nat_tests)

  pub hops_at : (place : ℕ) (r : Row E) → slice_get s.rows place ≡ Some r → r.hops < 255
  hops_at place r there = few r (all_get may_count_hop s.rows place r all there)

  pub hops_found : (id : RequestId) (r : Row E) → find_row id s ≡ Some r → r.hops < 255
  hops_found id r there = few r (list_all-found may_count_hop _ s.rows r all there)
