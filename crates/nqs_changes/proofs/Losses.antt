-- Counts of rows, in a host in order.
use Rattle.std.proofs.Common.{◌≡◌, ◌+◌, ◌<◌, ◌^◌, true, ◌==◌, nat_lt, Contains, find, Some, sym, ap, ◌∙◌, arith}
use Rattle.std.proofs.lemmas.Bool.{and_parts, ltb-true, eqb-true}
use Rattle.std.proofs.lemmas.List.Sums.{AllPass-from_list_all}
use Rattle.std.proofs.lemmas.List.Elements.{All-contains}
use Rattle.nqs_state.specs.State.{State}
use Rattle.nqs_types.specs.declared.ids.RequestId.{RequestId}
use Rattle.nqs_types.specs.declared.request.Row.{Row}
use Rattle.nqs_state.specs.Keys.{is_row}
use Rattle.nqs_rules.specs.Tests.{passes, is_running, is_ready}
use Rattle.nqs_rules.specs.Fits.{row_passes, may_hop}
use Rattle.nqs_rules.specs.InOrder.{IsInOrder, is_row_right, has_no_device}
use Rattle.nqs_rules.proofs.RowFacts.{IsRow, row_is}
use Rattle.nqs_rules.proofs.RowChanges.{waits, ready_queued}
use Rattle.nqs_rules.proofs.ListFacts.{list_all-found}

module _ {E : Type 0} (s : State E) where
  -- a loss more is still a number of 16 bits
  pub lost_below : IsInOrder s → (r : Row E) → Contains s.rows r → r.lost + 1 < 2 ^ 16
  lost_below h r has =
      let right = All-contains (λ x. is_row_right s x ≡ true) s.rows r (AllPass-from_list_all (is_row_right s) s.rows h.rows) has in
      let k = ltb-true r.lost 65535 (row_is s r right).lost in
      omega (arith, k)

  pub lost_found : IsInOrder s → (id : RequestId) (r : Row E) → find (is_row id) s.rows ≡ Some r → r.lost + 1 < 2 ^ 16
  lost_found h id r found =
      let k = ltb-true r.lost 65535 (row_is s r (list_all-found (is_row_right s) (is_row id) s.rows r h.rows found)).lost in
      omega (arith, k)

  -- so is a start more of a row that is ready
  pub starts_below : IsInOrder s → (id : RequestId) (r : Row E) → row_passes is_ready id s ≡ true → find (is_row id) s.rows ≡ Some r → r.starts + 1 < 2 ^ 16
  starts_below h id r ready found =
      let p : IsRow s r = row_is s r (list_all-found (is_row_right s) (is_row id) s.rows r h.rows found) in
      let queued = ready_queued r (ap (passes is_ready) (sym found) ∙ ready) in
      let k = ltb-true r.lost 65535 p.lost in
      let as_often : r.starts ≡ r.lost = eqb-true r.starts r.lost (and_parts (r.starts == r.lost) (has_no_device r)
      (waits r (ap is_running queued) p.count)).0 in
      omega (arith, k, as_often)

  -- and a hop more of one that may hop
  pub hops_below : (id : RequestId) (r : Row E) → row_passes may_hop id s ≡ true → find (is_row id) s.rows ≡ Some r → r.hops + 1 < 2 ^ 8
  hops_below id r may found =
      let k = ltb-true r.hops 32 (and_parts (is_ready r) (nat_lt r.hops 32) (ap (passes may_hop) (sym found) ∙ may)).1 in
      omega (arith, k)
