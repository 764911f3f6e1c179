-- What of a host in order the steps and starts stand on.
use Rattle.std.proofs.Common.{◌≡◌, ℕ, ◌+◌, ◌<◌, ◌≤◌, ◌^◌, Bool, true, false, nat_lt, nat_le, ◌==◌, ◌&&◌, true≢false, Some, slice_get, if◌then◌else◌}
use Rattle.std.proofs.Common.{refl, sym, ap, arith, IsTrue}
use Rattle.std.proofs.lemmas.Bool.{eqb-true, leb-true}
use Rattle.std.proofs.lemmas.Bool.Decides.{nat_tests}
use Rattle.nqs_state.specs.State.{State}
use Rattle.nqs_types.specs.declared.request.Row.{Row}
use Rattle.nqs_rules.specs.Tests.{is_ready, is_running, last_seq}
use Rattle.nqs_rules.specs.InOrder.{IsInOrder, is_row_right, has_no_device}
use Rattle.nqs_rules.proofs.ListFacts.{list_all-weaker}
use Rattle.nqs_rules.proofs.RowFacts.{IsRow, row_is}
use Rattle.nqs_rules.proofs.RowChanges.{at_most_32, ready_queued}
use Rattle.nqs_rules.proofs.StateFacts.{parameters_are, keys_are}
use Rattle.nqs_rules.proofs.KeyFacts.{all_get}
use Rattle.nqs_handover.specs.Opened.{may_count_hop, may_count_hops}
use Rattle.nqs_stage.specs.Files.{HasDistinctStages}

equal : (m n : ℕ) (b : Bool) → (m == n && b) ≡ true → m ≡ n
equal m n b h = eqb-true m n (front (m == n) b h)
  where
    front : (a b : Bool) → (a && b) ≡ true → a ≡ true
    front true b h = refl
    front false b h = absurd (true≢false (sym h))

counted : (running : Bool) (starts lost : ℕ) (free : Bool) → running ≡ false → (if running then starts == lost + 1 else starts == lost && free) ≡ true
    → nat_lt lost 65535 ≡ true → starts + 1 < 2 ^ 16
counted true starts lost free e count few = absurd (true≢false e)
counted false starts lost free e count few =
    let same : starts ≡ lost = equal starts lost free count in
    let below : lost < 65535 = grind (arith, nat_tests) in
    omega arith

module _ {E : Type 0} (s : State E) (h : IsInOrder s) where
  pub seq_left : s.seq + 1 < 2 ^ 32
  seq_left = (let k : s.seq ≤ last_seq = leb-true s.seq last_seq (parameters_are s h.parameters).seq in omega arith)

  pub stages_distinct : HasDistinctStages s
  stages_distinct = (keys_are s h.keys).stages

  few : (n : ℕ) → nat_le n 32 ≡ true → nat_lt n 255 ≡ true
  few n k = grind (arith, nat_tests)

  pub hops_left : IsTrue (may_count_hops s)
  hops_left = list_all-weaker (is_row_right s) may_count_hop (λ r k. few r.hops (at_most_32 r (row_is s r k).hop)) s.rows h.rows

  row_at : (place : ℕ) (r : Row E) → slice_get s.rows place ≡ Some r → IsRow s r
  row_at place r there = row_is s r (all_get (is_row_right s) s.rows place r h.rows there)

  pub start_left : (place : ℕ) (r : Row E) → slice_get s.rows place ≡ Some r → is_ready r ≡ true → r.starts + 1 < 2 ^ 16
  start_left place r there ready = counted (is_running r.state) r.starts r.lost (has_no_device r) (ap is_running (ready_queued r ready))
      (row_at place r there).count (row_at place r there).lost
