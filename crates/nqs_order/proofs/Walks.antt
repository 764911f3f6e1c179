-- Walks over queues, over a line and over classes, as far as they have come.
use Rattle.std.proofs.Common.{◌≡◌, ℕ, ◌+◌, ◌-◌, ◌<◌, ◌≤◌, Bool, true, false, ◌&&◌, nat_lt, List, ◌∷◌, drop, Option, None, Some, is_some, slice_get, refl, sym}
use Rattle.std.proofs.Common.{ap, ◌*◌, length}
use Rattle.std.proofs.Common.{◌∙◌, arith, true≢false}
use Rattle.std.specs.Option.{option_map, option_or}
use Rattle.std.proofs.lemmas.Bool.Decides.{nat_tests}
use Rattle.nqs_base_tables.proofs.TableLemmas.{drop-at}
use Rattle.nqs_state.specs.State.{State}
use Rattle.nqs_types.specs.declared.queue.QueueDef.{QueueDef}
use Rattle.nqs_types.specs.declared.request.Row.{Row}
use Rattle.nqs_index.specs.declared.index.Index.{Index}
use Rattle.nqs_index.specs.declared.line.Entry.{Entry}
use Rattle.nqs_index.specs.declared.classes.ClassLine.{ClassLine}
use Rattle.nqs_index.specs.Indexed.{classes_in}
use Rattle.nqs_order.specs.ByIndex.{running_once, fewer_run, running_in_batch, fewer_in_batch, startable, first_in, better_of, first_among, classes_for}

less_than : (m n left : ℕ) → n ≡ m → n < left → nat_lt m left ≡ true
less_than m n left is less = grind (arith, nat_tests)

not_less : (m n left : ℕ) → n ≡ m → left ≤ n → nat_lt m left ≡ false
not_less m n left is over = grind (arith, nat_tests)

module _ (index : Index) (q : List ℕ) (later : List (List ℕ)) (left n : ℕ) (is : n ≡ running_once index q later) where
  -- one more queue of a complex was looked at
  pub fewer_on : n < left → fewer_run index (left - n) later ≡ fewer_run index left (q ∷ later)
  fewer_on less = (λ j. sym (less_than (running_once index q later) n left is less) j && fewer_run index (left - is j) later)

  -- as many run as may
  pub fewer_over : left ≤ n → false ≡ fewer_run index left (q ∷ later)
  fewer_over over = (λ j. sym (not_less (running_once index q later) n left is over) j && fewer_run index (left - running_once index q later) later)

module _ (index : Index) (ds : List QueueDef) (left i : ℕ) (d : QueueDef) (n : ℕ) (at : slice_get ds i ≡ Some d) (is : n ≡ running_in_batch index d) where
  -- one more queue was looked at
  pub batch_on : n < left → fewer_in_batch index (left - n) (drop (i + 1) ds) ≡ fewer_in_batch index left (drop i ds)
  batch_on less =
      (λ j. sym (less_than (running_in_batch index d) n left is less) j && fewer_in_batch index (left - is j) (drop (i + 1) ds))
      ∙ sym (ap (fewer_in_batch index left) (drop-at ds i d at))

  -- as many run as may
  pub batch_over : left ≤ n → false ≡ fewer_in_batch index left (drop i ds)
  batch_over over =
      (λ j. sym (not_less (running_in_batch index d) n left is over) j && fewer_in_batch index (left - running_in_batch index d) (drop (i + 1) ds))
      ∙ sym (ap (fewer_in_batch index left) (drop-at ds i d at))

module _ {E : Type 0} (index : Index) (d : QueueDef) (now : ℕ) (s : State E) (es : List Entry) (i : ℕ) where
  abbrev rest : Option (ℕ × Row E)
  rest = first_in index d now s (drop (i + 1) es)

  one_looked_at : (e : Entry) → slice_get es i ≡ Some e → option_or (startable index d now s e.id) rest ≡ first_in index d now s (drop i es)
  one_looked_at e at = sym (ap (first_in index d now s) (drop-at es i e at))

  module _ {X : Type 0} (f : ℕ × X → ℕ × Row E) (o : Option (ℕ × X)) (e : Entry) (at : slice_get es i ≡ Some e)
      (is : option_map f o ≡ startable index d now s e.id) where
    -- an entry whose row may not start
    pub first_on : is_some o ≡ false → rest ≡ first_in index d now s (drop i es)
    first_on none = of o none ∙ ap (λ o. option_or o rest) is ∙ one_looked_at e at
      where
        of : (o : Option (ℕ × X)) → is_some o ≡ false → rest ≡ option_or (option_map f o) rest
        of None h = refl
        of (Some p) h = absurd (true≢false h)

    -- one whose row may
    pub first_found : is_some o ≡ true → option_map f o ≡ first_in index d now s (drop i es)
    first_found some = of o some ∙ ap (λ o. option_or o rest) is ∙ one_looked_at e at
      where
        of : (o : Option (ℕ × X)) → is_some o ≡ true → option_map f o ≡ option_or (option_map f o) rest
        of None h = absurd (true≢false (sym h))
        of (Some p) h = refl

module _ {E : Type 0} (index : Index) (d : QueueDef) (now : ℕ) (s : State E) (any_open : Bool) (ls : List ClassLine) (i : ℕ) (l : ClassLine)
    (at : slice_get ls i ≡ Some l) where
  -- one more class was looked at
  pub among_on : (best next : Option (ℕ × Row E)) → next ≡ better_of index d now s any_open best l
      → first_among index d now s any_open next (drop (i + 1) ls) ≡ first_among index d now s any_open best (drop i ls)
  among_on best next is = ap (λ b. first_among index d now s any_open b (drop (i + 1) ls)) is
      ∙ sym (ap (first_among index d now s any_open best) (drop-at ls i l at))

-- the comparisons over a queue's classes are those over the classes of the queue that starts
pub asked_of : (index : Index) (q : QueueDef) (p : ℕ) (o : Option (ℕ × QueueDef)) → Some (p, q) ≡ o → (old new : ℕ)
    → new ≤ old + 2 * length (classes_in q.name index) → new - old ≤ 2 * length (classes_for index o)
asked_of index q p o is old new le =
    let b : length (classes_in q.name index) ≡ length (classes_for index o) = ap (λ o. length (classes_for index o)) is in
    omega (arith, le, b)
