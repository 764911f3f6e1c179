-- The lines of queues: what an entry more or less, or a queue more, leaves of them.
use Rattle.std.proofs.Common.{◌≡◌, ℕ, ◌<◌, slice_set, Bool, true, false, List, [], ◌∷◌, ◌++◌, find, length, position, slice_get}
use Rattle.std.proofs.Common.{None, Some}
use Rattle.std.proofs.Common.{option_map, refl, sym, ap, subst, ◌∙◌, if◌then◌else◌}
use Rattle.std.specs.Prelude.{cond}
use Rattle.std.proofs.lemmas.Option.{same_Some}
use Rattle.nqs_base.specs.Same.{name_eq, name_exact}
use Rattle.nqs_base.proofs.Plain.{item_at}
use Rattle.nqs_base_tables.specs.Table.{Roomy, change_first}
use Rattle.nqs_base_tables.proofs.KeyLemmas.{changed_at, found_changed, found_other, place_is}
use Rattle.nqs_index.specs.declared.classes.ClassLine.{ClassLine}
use Rattle.nqs_index.specs.declared.lines.QueueLines.{QueueLines}
use Rattle.nqs_index.specs.QueueLines.{is_queue, lines_for, classes_under, with_classes, BecomesAt}
use Rattle.nqs_index.proofs.PlaceLemmas.{none_placed}
use Rattle.nqs_index.proofs.PlaceLemmas.{found_at, set_twice}

-- the lines of a queue after a change of one queue's
changed : (k : Roomy ClassLine) (q queue : List ℕ) (ls : List QueueLines)
    → classes_under q (change_first (is_queue queue) (with_classes k) ls)
    ≡ (if name_eq q queue then lines_for (option_map (with_classes k) (find (is_queue q) ls)) else classes_under q ls)
changed k q queue ls = by (name_eq q queue) refl
  where
    by : (b : Bool) → name_eq q queue ≡ b
        → classes_under q (change_first (is_queue queue) (with_classes k) ls)
        ≡ (if b then lines_for (option_map (with_classes k) (find (is_queue q) ls)) else classes_under q ls)
    by true e =
        let same = name_exact q queue e in
        ap (λ q. classes_under q (change_first (is_queue queue) (with_classes k) ls)) same
        ∙ ap lines_for (found_changed (is_queue queue) (with_classes k) (λ l. refl) ls)
        ∙ ap (λ q. lines_for (option_map (with_classes k) (find (is_queue q) ls))) (sym same)
    by false e = ap lines_for (found_other name_eq (λ (l : QueueLines). l.name) name_exact (with_classes k) (λ l. refl) q queue ls e)

module _ (f : List ClassLine → List ClassLine) (queue : List ℕ) (ls : List QueueLines) where
  -- a queue whose lines became others
  became : (k : Roomy ClassLine) (v : QueueLines) → find (is_queue queue) ls ≡ Some v → k.items ≡ f v.classes.items → (q : List ℕ)
      → classes_under q (change_first (is_queue queue) (with_classes k) ls) ≡ (if name_eq q queue then f (classes_under q ls) else classes_under q ls)
  became k v there is q = changed k q queue ls ∙ by (name_eq q queue) refl
    where
      here : name_eq q queue ≡ true → find (is_queue q) ls ≡ Some v
      here e = ap (λ q. find (is_queue q) ls) (name_exact q queue e) ∙ there

      by : (b : Bool) → name_eq q queue ≡ b
          → (if b then lines_for (option_map (with_classes k) (find (is_queue q) ls)) else classes_under q ls)
          ≡ (if b then f (classes_under q ls) else classes_under q ls)
      by true e = ap (λ o. lines_for (option_map (with_classes k) o)) (here e) ∙ is ∙ ap (λ o. f (lines_for o)) (sym (here e))
      by false e = refl

  -- one that is found by its place
  pub became_at : (new : List QueueLines) (i : ℕ) → position (is_queue queue) ls ≡ Some i → i < length ls
      → BecomesAt i (λ old new. new ≡ f old) ls new → (q : List ℕ)
      → classes_under q new ≡ (if name_eq q queue then f (classes_under q ls) else classes_under q ls)
  became_at new i at within becomes q =
      let v = item_at ls i within in
      let k = becomes v.0 v.1 in
      let there = found_at (is_queue queue) ls v.0 (ap (slice_get ls) (place_is (is_queue queue) ls i at) ∙ v.1) in
      ap (classes_under q) (k.2 ∙ changed_at (is_queue queue) (with_classes k.0) ls i v.0 at v.1) ∙ became k.0 v.0 there k.1 q

  -- where it has no place nothing changes
  pub nothing_there : f [] ≡ [] → position (is_queue queue) ls ≡ None → (q : List ℕ)
      → classes_under q ls ≡ (if name_eq q queue then f (classes_under q ls) else classes_under q ls)
  nothing_there none at q = by (name_eq q queue) refl
    where
      by : (b : Bool) → name_eq q queue ≡ b → classes_under q ls ≡ (if b then f (classes_under q ls) else classes_under q ls)
      by true is =
          let empty : classes_under q ls ≡ []
          = ap (λ q. classes_under q ls) (name_exact q queue is) ∙ ap lines_for (none_placed (is_queue queue) ls at) in
          empty ∙ sym none ∙ ap f (sym empty)
      by false is = refl

-- the lines of a queue are those at its place
pub lines_found : (queue : List ℕ) (ls : List QueueLines) (i : ℕ) (v : QueueLines) → position (is_queue queue) ls ≡ Some i → slice_get ls i ≡ Some v
    → classes_under queue ls ≡ v.classes.items
lines_found queue ls i v at there = ap lines_for (found_at (is_queue queue) ls v (ap (slice_get ls) (place_is (is_queue queue) ls i at) ∙ there))

-- a queue that is new and has no lines
pub classes_added : (x : QueueLines) → x.classes.items ≡ [] → (q : List ℕ) (ls : List QueueLines) → classes_under q (ls ++ x ∷ []) ≡ classes_under q ls
classes_added x none q [] = by (name_eq q x.name)
  where
    by : (b : Bool) → lines_for (cond b (Some x) None) ≡ []
    by true = none
    by false = refl
classes_added x none q (l ∷ ls) = by (name_eq q l.name) (classes_added x none q ls)
  where
    by : (b : Bool) → classes_under q (ls ++ x ∷ []) ≡ classes_under q ls
        → lines_for (cond b (Some l) (find (is_queue q) (ls ++ x ∷ []))) ≡ lines_for (cond b (Some l) (find (is_queue q) ls))
    by true rest = refl
    by false rest = rest

-- a queue was lent, an empty one in its place, and came back with other lines
module _ (ls mid new : List QueueLines) (i : ℕ) (l e : QueueLines) (k : Roomy ClassLine) (out : slice_get ls i ≡ Some l) (lent : mid ≡ slice_set ls i e)
    (back : new ≡ slice_set mid i (with_classes k l)) where
  pub lent_back : (Rule : List ClassLine → List ClassLine → Type 0) → Rule l.classes.items k.items → BecomesAt i Rule ls new
  lent_back Rule is v at =
      let same : l ≡ v = same_Some l v (sym out ∙ at) in (
        k,
        subst (λ (q : QueueLines). Rule q.classes.items k.items) same is,
        back ∙ ap (λ m. slice_set m i (with_classes k l)) lent ∙ set_twice ls i e (with_classes k l)
            ∙ ap (λ (q : QueueLines). slice_set ls i (with_classes k q)) same,
      )
