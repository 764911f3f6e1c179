-- What a start makes fits its state.
use Rattle.std.proofs.Common.{◌≡◌, ℕ, nat_le, List, [], length, Option, None, Some, option_map, refl, sym, ap, subst, ◌∙◌}
use Rattle.std.proofs.lemmas.Simd.{map-map}
use Rattle.std.specs.Option.{IfSome}
use Rattle.nqs_state.specs.State.{State}
use Rattle.nqs_types.specs.Ids.{id_eq}
use Rattle.nqs_rules.specs.Plain.{map_row, map_state}
use Rattle.nqs_rules.specs.Start.{start}
use Rattle.nqs_rules.specs.Stepped.{Stepped, map_stepped}
use Rattle.nqs_rules.specs.InOrder.{IsInOrder, are_distinct, is_row_right, is_queue_right}
use Rattle.nqs_rules.proofs.ListFacts.{list_all-weaker}
use Rattle.nqs_rules.proofs.FindKept.{all-mapped}
use Rattle.nqs_rules.proofs.FitsPlain.{fits-state}
use Rattle.nqs_rules.proofs.StartPlain.{start-map}
use Rattle.nqs_rules.proofs.StartIs.{IsSteady, IsStart, start_is}
use Rattle.nqs_rules.proofs.StateFacts.{keys_are}
use Rattle.nqs_rules.proofs.RowFacts.{row_is}
use Rattle.nqs_rules.proofs.RowChanges.{at_most_32}
use Rattle.nqs_rules.proofs.QueuesOrder.{queue_is}
use Rattle.nqs_rules.proofs.StepFits.{Fitting}

module _ {E : Type 0} where
  -- a state in order is steady, whatever bytes are put for its scripts
  pub steady_plain : (f : E → List ℕ) (s : State E) → IsInOrder s → IsSteady (map_state f s)
  steady_plain f s h = record {
    ids = ap (are_distinct id_eq) (map-map (λ r. r.id) (map_row f) s.rows) ∙ (keys_are s h.keys).rows;
    names = (keys_are s h.keys).queues;
    hops = all-mapped (is_row_right s) (λ r. nat_le r.hops 32) (map_row f) (λ r k. at_most_32 r (row_is s r k).hop) s.rows h.rows;
    dests = list_all-weaker (is_queue_right s) (λ q. nat_le (length q.dests) 16) (λ q k. (queue_is s q k).few_dests) s.queues h.queues;
  }

  pub start_fits : (now : ℕ) (s : State E) → IsInOrder s → IfSome (start now s) (λ x. Fitting s x.change)
  start_fits now s h = by (start now s) refl
    where
      f : E → List ℕ
      f e = []

      by : (o : Option (Stepped E)) → start now s ≡ o → IfSome o (λ x. Fitting s x.change)
      by None e = tt
      by (Some x) e =
          let is : IsStart (map_state f s) (map_stepped f x) = start_is now (map_state f s) (map_stepped f x) (steady_plain f s h)
          (start-map f now s ∙ ap (option_map (map_stepped f)) e) in
          subst (Fitting s) (sym is.makes) (sym (fits-state f is.change s) ∙ is.may.0, is.may.1)
