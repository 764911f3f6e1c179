-- Keys that nothing has yet, in a host in order.
use Rattle.std.proofs.Common.{◌≡◌, ℕ, Bool, true, false, cond, ◌&&◌, ◌||◌, ◌==◌, ◌<◌, nat_lt, List, [], ◌∷◌, filter, Option, None, Some, refl, sym, ap, subst}
use Rattle.std.proofs.Common.{◌∙◌, true≢false}
use Rattle.std.proofs.lemmas.Bool.{and_parts, eqb-true, ltb-true, false_from_ne_true}
use Rattle.std.specs.List.{list_any}
use Rattle.nqs_state.specs.State.{State}
use Rattle.nqs_types.specs.Ids.{peer_number_eq, peer_number_exact, hand_key, stage_key}
use Rattle.nqs_state.specs.Keys.{is_hand, is_stage, is_file}
use Rattle.nqs_base.specs.Path.{is_path}
use Rattle.nqs_types.specs.declared.ids.HostId.{HostId}
use Rattle.nqs_types.specs.declared.request.Peer.{Peer}
use Rattle.nqs_rules.specs.Tests.{passes, last_u64}
use Rattle.nqs_rules.specs.Find.{find_peer, peer_number}
use Rattle.nqs_rules.specs.Fits.{is_next}
use Rattle.nqs_rules.specs.InOrder.{IsInOrder, is_given, is_file_right, is_stage_right, is_stage_given, is_hand_right, is_hand_given}
use Rattle.nqs_rules.proofs.KeyFacts.{none_from_all}
use Rattle.nqs_rules.proofs.OutputsOrder.{not_given}
use Rattle.nqs_rules.proofs.RowsOrder.{hand_is}

-- where nothing passes a test, nothing does in a part of the list
pub none_filtered : {V : Type 0} (t keep : V → Bool) (vs : List V) → list_any t vs ≡ false → list_any t (filter keep vs) ≡ false
none_filtered t keep [] none = refl
none_filtered t keep (x ∷ vs) none = by (t x) refl none (none_filtered t keep vs) (keep x)
  where
    by : (b : Bool) → t x ≡ b → (b || list_any t vs) ≡ false → (list_any t vs ≡ false → list_any t (filter keep vs) ≡ false) → (c : Bool)
        → list_any t (cond c (x ∷ filter keep vs) (filter keep vs)) ≡ false
    by true e none rest c = absurd (true≢false none)
    by false e none rest true = ap (λ b. b || list_any t (filter keep vs)) e ∙ rest none
    by false e none rest false = rest none

-- the next number wasn't given
next_not_given : (number : ℕ) (o : Option Peer) → passes (is_next number) o ≡ true → passes (is_hand_given number) o ≡ true → ⊥
next_not_given number None next given = true≢false (sym next)
next_not_given number (Some p) next given =
    let is = eqb-true p.next number (and_parts (p.next == number) (nat_lt p.next last_u64) next).0 in
    true≢false (sym given ∙ ap (is_given number) is ∙ not_given number)

-- there is a number behind the next one
pub next_below : (number : ℕ) (o : Option Peer) → passes (is_next number) o ≡ true → number < last_u64
next_below number None next = absurd (true≢false (sym next))
next_below number (Some p) next =
    let q = and_parts (p.next == number) (nat_lt p.next last_u64) next in
    subst (λ n. n < last_u64) (eqb-true p.next number q.0) (ltb-true p.next last_u64 q.1)

module _ {E : Type 0} (s : State E) (h : IsInOrder s) where
  pub file_is_new : list_any (is_file s.file_next) s.files ≡ false
  file_is_new = none_from_all (is_file_right s) (is_file s.file_next) (λ x k. false_from_ne_true (s.file_next == x.number) (λ e.
      let q = (and_parts (is_path x.path) (is_given x.number s.file_next) k).1 in
      true≢false (sym q ∙ ap (λ n. is_given n s.file_next) (sym (eqb-true s.file_next x.number e)) ∙ not_given s.file_next))) s.files h.files

  pub stage_is_new : (host : HostId) (p : Peer) → find_peer host s ≡ Some p → list_any (is_stage (peer_number host p.stage_next)) s.stages ≡ false
  stage_is_new host p found = none_from_all (is_stage_right s) (is_stage (peer_number host p.stage_next)) (λ x k.
      false_from_ne_true (peer_number_eq (peer_number host p.stage_next) (stage_key x)) (λ e.
      let is : peer_number host p.stage_next ≡ stage_key x = peer_number_exact (peer_number host p.stage_next) (stage_key x) e in
      let given : passes (is_stage_given x.number) (find_peer x.peer s) ≡ true =
      (and_parts (is_path x.path) (passes (is_stage_given x.number) (find_peer x.peer s)) k).1 in
      true≢false (sym given ∙ (λ j. passes (is_stage_given (sym is j).number) (find_peer (sym is j).peer s)) ∙ ap (passes (is_stage_given p.stage_next)) found
      ∙ not_given p.stage_next))) s.stages h.stages

  -- no hand has its peer's next number
  pub hand_is_new : (peer : HostId) (number : ℕ) → passes (is_next number) (find_peer peer s) ≡ true
      → list_any (is_hand (peer_number peer number)) s.hands ≡ false
  hand_is_new peer number next = none_from_all (is_hand_right s) (is_hand (peer_number peer number)) (λ x right.
      false_from_ne_true (peer_number_eq (peer_number peer number) (hand_key x)) (λ e.
      let is : peer_number peer number ≡ hand_key x = peer_number_exact (peer_number peer number) (hand_key x) e in
      next_not_given number (find_peer peer s) next
      ((λ j. passes (is_hand_given (is j).number) (find_peer (is j).peer s)) ∙ (hand_is s x right).given))) s.hands h.hands
