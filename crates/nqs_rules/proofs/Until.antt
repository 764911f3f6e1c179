-- Starts go on until there is none.
use Rattle.std.proofs.Common.{◌≡◌, ℕ, ◌<◌, ◌≤◌, true, nat_le, List, [], ◌∷◌, length, Option, None, Some, is_some, zero, suc, refl, sym, ap, subst, ◌∙◌, arith}
use Rattle.nqs_state.specs.State.{Plain}
use Rattle.nqs_types.specs.declared.change.Change.{Change}
use Rattle.nqs_rules.specs.Applied.{applied}
use Rattle.nqs_rules.specs.Start.{start}
use Rattle.nqs_rules.specs.Stepped.{Stepped}
use Rattle.nqs_rules.specs.Measure.{starts_of, starts_left}
use Rattle.nqs_rules.specs.InOrder.{is_row_right, is_queue_right, IsInOrder}
use Rattle.nqs_rules.specs.Picked.{PlainRow}
use Rattle.nqs_rules.specs.Starts.{after_change, after_step, starts_at_most, starts, after_starts}
use Rattle.nqs_rules.proofs.ListFacts.{list_all-weaker}
use Rattle.nqs_rules.proofs.StateFacts.{keys_are}
use Rattle.nqs_rules.proofs.RowFacts.{row_is}
use Rattle.nqs_rules.proofs.RowChanges.{at_most_32}
use Rattle.nqs_rules.proofs.QueuesOrder.{queue_is}
use Rattle.nqs_rules.proofs.StartIs.{IsSteady, IsStart, start_is}
use Rattle.nqs_rules.proofs.Lowers.{lower, stays, few_starts}

-- a state in order is steady

pub steady : (s : Plain) → IsInOrder s → IsSteady s
steady s order = record {
  ids = (keys_are s order.keys).rows;
  names = (keys_are s order.keys).queues;
  hops = list_all-weaker (is_row_right s) (λ r. nat_le r.hops 32) (λ r h. at_most_32 r (row_is s r h).hop) s.rows order.rows;
  dests = list_all-weaker (is_queue_right s) (λ q. nat_le (length q.dests) 16) (λ q h. (queue_is s q h).few_dests) s.queues order.queues;
}

-- one start

module _ (now : ℕ) (s : Plain) (x : Stepped (List ℕ)) (is : IsStart s x) (calm : IsSteady s) where
  lowered : starts_left (after_step x s) < starts_left s
  lowered = subst (λ o. starts_left (after_change o s) < starts_left s) (sym is.makes) (lower s calm is.row is.found is.ready is.change is.starts)

  stayed : IsSteady (after_step x s)
  stayed = subst (λ o. IsSteady (after_change o s)) (sym is.makes) (stays s calm is.row is.found is.ready is.change is.starts)

pub start_lowers : (now : ℕ) (s : Plain) (x : Stepped (List ℕ)) (c : Change (List ℕ)) → IsInOrder s → start now s ≡ Some x → x.change ≡ Some c
    → starts_left (applied c s) < starts_left s
start_lowers now s x c order e makes = subst (λ o. starts_left (after_change o s) < starts_left s) makes
    (lowered now s x (start_is now s x (steady s order) e) (steady s order))

pub start_changes : (now : ℕ) (s : Plain) (x : Stepped (List ℕ)) → IsInOrder s → start now s ≡ Some x → is_some x.change ≡ true
start_changes now s x order e = ap is_some (start_is now s x (steady s order) e).makes

pub starts_few : (s : Plain) (r : PlainRow) → IsInOrder s → starts_of s r ≤ 577
starts_few s r order = few_starts s (steady s order) r

-- starts one after the other
module _ (now : ℕ) where
  -- the starts from a state on, by what starts there
  abbrev Going : ℕ → Plain → Option (Stepped (List ℕ)) → List (Stepped (List ℕ))
  Going n s o = elim o as (λ _. List (Stepped (List ℕ))) [ None ↦ [] | Some x ↦ x ∷ starts_at_most n now (after_step x s) ]

  pub none_starts : (n : ℕ) (s : Plain) → start now s ≡ None → starts_at_most n now s ≡ []
  none_starts zero s e = refl
  none_starts (suc n) s e = ap (Going n s) e

  -- where no start is left, nothing starts
  pub idle : (s : Plain) → IsSteady s → starts_left s ≤ 0 → start now s ≡ None
  idle s calm few = by (start now s) refl
    where
      by : (o : Option (Stepped (List ℕ))) → start now s ≡ o → start now s ≡ None
      by None e = e
      by (Some x) e = absurd (let less : starts_left (after_step x s) < starts_left s = lowered now s x (start_is now s x calm e) calm in omega arith)

  -- more than there may be changes nothing
  enough : (n m : ℕ) (s : Plain) → IsSteady s → starts_left s ≤ n → starts_left s ≤ m → starts_at_most n now s ≡ starts_at_most m now s
  enough zero m s calm few also = sym (none_starts m s (idle s calm few))
  enough (suc n) zero s calm few also = none_starts (suc n) s (idle s calm also)
  enough (suc n) (suc m) s calm few also = by (start now s) refl (enough n m)
    where
      by : (o : Option (Stepped (List ℕ))) → start now s ≡ o → ((t : Plain) → IsSteady t → starts_left t ≤ n → starts_left t ≤ m
          → starts_at_most n now t ≡ starts_at_most m now t) → Going n s o ≡ Going m s o
      by None e rest = refl
      by (Some x) e rest =
          let is : IsStart s x = start_is now s x calm e in
          let less : starts_left (after_step x s) < starts_left s = lowered now s x is calm in
          ap (λ l. x ∷ l) (rest (after_step x s) (stayed now s x is calm) (omega arith) (omega arith))

  pub starts-none : (s : Plain) → start now s ≡ None → starts now s ≡ []
  starts-none s e = none_starts (starts_left s) s e

  -- where one starts from a steady state, it is the first
  pub starts-steady : (s : Plain) (x : Stepped (List ℕ)) → IsSteady s → start now s ≡ Some x → starts now s ≡ x ∷ starts now (after_step x s)
  starts-steady s x calm e =
      let is : IsStart s x = start_is now s x calm e in
      let less : starts_left (after_step x s) < starts_left s = lowered now s x is calm in
      enough (starts_left s) (suc (starts_left s)) s calm (omega arith) (omega arith)
      ∙ ap (Going (starts_left s) s) e
      ∙ ap (λ l. x ∷ l) (enough (starts_left s) (starts_left (after_step x s)) (after_step x s) (stayed now s x is calm) (omega arith) (omega arith))

  pub starts-some : (s : Plain) (x : Stepped (List ℕ)) → IsInOrder s → start now s ≡ Some x → starts now s ≡ x ∷ starts now (after_step x s)
  starts-some s x order = starts-steady s x (steady s order)

  end : (n : ℕ) (s : Plain) → IsSteady s → starts_left s ≤ n → start now (after_starts (starts_at_most n now s) s) ≡ None
  end zero s calm few = idle s calm few
  end (suc n) s calm few = by (start now s) refl (end n)
    where
      by : (o : Option (Stepped (List ℕ))) → start now s ≡ o → ((t : Plain) → IsSteady t → starts_left t ≤ n
          → start now (after_starts (starts_at_most n now t) t) ≡ None) → start now (after_starts (Going n s o) s) ≡ None
      by None e rest = e
      by (Some x) e rest =
          let is : IsStart s x = start_is now s x calm e in
          let less : starts_left (after_step x s) < starts_left s = lowered now s x is calm in
          rest (after_step x s) (stayed now s x is calm) (omega arith)

  pub starts_end : (s : Plain) → IsInOrder s → start now (after_starts (starts now s) s) ≡ None
  starts_end s order = end (starts_left s) s (steady s order) (omega arith)
