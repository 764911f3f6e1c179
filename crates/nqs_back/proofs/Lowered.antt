-- A start lowers what is left to start, without the stored bytes too.
use Rattle.std.proofs.Common.{◌≡◌, ℕ, ◌<◌, Bool, nat_le, List, [], ◌∷◌, ◌&&◌, map, length, Some, refl, sym, ap, subst, ◌∙◌}
use Rattle.std.specs.List.{list_all}
use Rattle.std.proofs.lemmas.Simd.{map-map}
use Rattle.nqs_state.specs.State.{State}
use Rattle.nqs_types.specs.Ids.{id_eq}
use Rattle.nqs_rules.specs.InOrder.{IsInOrder, is_row_right, is_queue_right, are_distinct}
use Rattle.nqs_rules.specs.Measure.{starts_left}
use Rattle.nqs_rules.specs.Plain.{map_row}
use Rattle.nqs_rules.specs.Start.{start}
use Rattle.nqs_rules.specs.Starts.{after_change, after_step}
use Rattle.nqs_rules.specs.Stepped.{Stepped}
use Rattle.nqs_rules.proofs.ListFacts.{list_all-weaker}
use Rattle.nqs_rules.proofs.Lowers.{lower}
use Rattle.nqs_rules.proofs.QueuesOrder.{queue_is}
use Rattle.nqs_rules.proofs.RowChanges.{at_most_32}
use Rattle.nqs_rules.proofs.RowFacts.{row_is}
use Rattle.nqs_rules.proofs.StartIs.{IsSteady, start_is}
use Rattle.nqs_rules.proofs.StartPlain.{starts_left-map}
use Rattle.nqs_rules.proofs.StateFacts.{keys_are}
use Rattle.nqs_back.specs.Bare.{emptied}

all-map : {V W : Type 0} (m : V → W) (t : W → Bool) (vs : List V) → list_all t (map m vs) ≡ list_all (λ v. t (m v)) vs
all-map m t [] = refl
all-map m t (v ∷ vs) = ap (λ b. t (m v) && b) (all-map m t vs)

module _ {E : Type 0} (s : State E) where
  -- in order, it is steady without its bytes
  steady : IsInOrder s → IsSteady (emptied s)
  steady order = record {
    ids = ap (are_distinct id_eq) (map-map (λ r. r.id) (map_row (λ _. [])) s.rows) ∙ (keys_are s order.keys).rows;
    names = (keys_are s order.keys).queues;
    hops = all-map (map_row (λ _. [])) (λ r. nat_le r.hops 32) s.rows ∙ list_all-weaker (is_row_right s) (λ r. nat_le r.hops 32)
        (λ r h. at_most_32 r (row_is s r h).hop) s.rows order.rows;
    dests = list_all-weaker (is_queue_right s) (λ q. nat_le (length q.dests) 16) (λ q h. (queue_is s q h).few_dests) s.queues order.queues;
  }

  pub bare_left : starts_left (emptied s) ≡ starts_left s
  bare_left = starts_left-map (λ _. []) s

  pub bare_lowers : (now : ℕ) (x : Stepped (List ℕ)) → IsInOrder s → start now (emptied s) ≡ Some x
      → starts_left (emptied (after_step x (emptied s))) < starts_left s
  bare_lowers now x order e =
      let t = emptied s in
      let calm = steady order in
      let is = start_is now t x calm e in
      let less : starts_left (after_step x t) < starts_left t = subst (λ o. starts_left (after_change o t) < starts_left t) (sym is.makes)
      (lower t calm is.row is.found is.ready is.change is.starts) in
      subst (λ n. starts_left (emptied (after_step x t)) < n) bare_left (subst (λ n. n < starts_left t) (sym (starts_left-map (λ _. []) (after_step x t))) less)
