-- A refusal that is noted first, of a request that is queued again then.
use Rattle.std.proofs.Common.{◌≡◌, ℕ, Bool, true, false, List, refl, ap, ◌∙◌}
use Rattle.nqs_state.specs.State.{State}
use Rattle.nqs_base_tables.specs.Table.{change_first, without_first}
use Rattle.nqs_state.specs.Keys.{is_row, is_hand}
use Rattle.nqs_types.specs.declared.ids.PeerNumber.{PeerNumber}
use Rattle.nqs_types.specs.declared.ids.Dest.{Dest}
use Rattle.nqs_types.specs.declared.request.Hand.{Hand}
use Rattle.nqs_types.specs.declared.request.Row.{Row}
use Rattle.nqs_rules.specs.Edits.{change_row}
use Rattle.nqs_rules.specs.Routing.{dests_for, with_refusal, all_refused, held_where, refusal_noted}
use Rattle.nqs_rules.specs.Applied.{requeued_row, hand_refused}
use Rattle.nqs_rules.proofs.RowChanges.{noted_kept}
use Rattle.nqs_changes.proofs.Places.{changed_twice}
use Rattle.std.proofs.Common.{Some}

module _ {E : Type 0} where
  -- it comes to the same the other way round
  turned : (dests : List Dest) (dest : Dest) (refusal : ℕ) (r : Row E) → requeued_row (refusal_noted dests dest refusal r)
      ≡ refusal_noted dests dest refusal (requeued_row r)
  turned dests dest refusal r = by (all_refused dests (with_refusal dests dest refusal r.refused))
    where
      by : (b : Bool) → requeued_row (held_where b (record r { refused = with_refusal dests dest refusal r.refused }))
          ≡ held_where b (record (requeued_row r) { refused = with_refusal dests dest refusal r.refused })
      by true = refl
      by false = refl

  pub noted_then_queued : (s noted queued : State E) (k : PeerNumber) (h : Hand) (refusal : ℕ)
      → noted ≡ change_row h.id (λ r. refusal_noted (dests_for r s) (record { queue = h.queue; host = h.peer }) refusal r) s
      → queued ≡ change_row h.id requeued_row noted
      → record queued { hands = without_first (is_hand k) queued.hands } ≡ hand_refused k refusal (Some h) s
  noted_then_queued s noted queued k h refusal is then =
      let dest : Dest = record { queue = h.queue; host = h.peer } in
      let note : Row E → Row E = λ r. refusal_noted (dests_for r s) dest refusal r in
      let rows : change_first (is_row h.id) requeued_row (change_first (is_row h.id) note s.rows)
      ≡ change_first (is_row h.id) (λ r. refusal_noted (dests_for r s) dest refusal (requeued_row r)) s.rows =
      changed_twice (is_row h.id) note requeued_row (λ r. noted_kept (λ q. is_row h.id q) (λ q rs. refl) (λ q. refl) (dests_for r s) dest refusal r) s.rows
      ∙ ap (λ (f : Row E → Row E). change_first (is_row h.id) f s.rows) (λ j r. turned (dests_for r s) dest refusal r j) in
      ap (λ (q : State E). record q { hands = without_first (is_hand k) q.hands }) (then ∙ ap (change_row h.id requeued_row) is)
      ∙ ap (λ (rs : List (Row E)). record s { rows = rs; hands = without_first (is_hand k) s.hands }) rows
