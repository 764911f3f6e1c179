-- What the edits make of a state: the queue's list is the order.
use Rattle.std.proofs.Common.{is_ok, ◌≡◌, ℕ, suc, zero, ◌+◌, ◌<◌, Bool, true, false, cond, not, nat_lt, List, [], ◌∷◌, ◌++◌, map, length, position}
use Rattle.std.proofs.Common.{None, Some, get_or, refl, sym, ap, ◌∙◌, arith, true≢false, append-nil}
use Rattle.std.specs.Prelude.{reverse}
use Rattle.std.specs.Option.{option_map}
use Rattle.std.specs.List.{AllByRecursion, IsDistinct, list_any, list_all, position_or_len}
use Rattle.std.specs.List.Sorted.{IsPermutation}
use Rattle.std.proofs.lemmas.Bool.{and_parts, and_from, or_left, or_right, or_parts, or_from, not-true}
use Rattle.std.proofs.lemmas.Bool.Decides.{nat_tests}
use Rattle.std.proofs.lemmas.List.{map-append, reverse-append}
use Rattle.std.proofs.lemmas.List.Folds.{list_any-append}
use Rattle.std.proofs.lemmas.List.Sums.{fold-append}
use Rattle.std.proofs.lemmas.List.Sorted.{IsPermutation-map, IsPermutation-reverse, IsPermutation-sym}
use Rattle.std.proofs.lemmas.List.Sorted.{IsPermutation-trans, length_permutation, list_any-IsPermutation}
use Rattle.std.proofs.lemmas.Map.Keys.{IsDistinct-IsPermutation}
use Rattle.nqs_base.specs.Same.{name_eq, name_exact}
use Rattle.nqs_base_tables.specs.Table.{change_first}
use Rattle.nqs_base_tables.proofs.TableLemmas.{change_first-same}
use Rattle.nqs_state.specs.State.{State}
use Rattle.nqs_state.specs.Keys.{is_queue}
use Rattle.nqs_rules.specs.Applied.{edit_applied}
use Rattle.nqs_rules.specs.Causes.{cause, first_refusal}
use Rattle.nqs_rules.specs.Conf.{is_pipe_queue, lists_dest, with_dest_first}
use Rattle.nqs_rules.specs.Fits.{edit_fits}
use Rattle.nqs_rules.specs.Edits.{change_queue}
use Rattle.nqs_rules.specs.Find.{has_queue, dest_of, find_queue, host_at, meant_dest}
use Rattle.nqs_rules.specs.InOrder.{are_distinct}
use Rattle.nqs_rules.specs.Routing.{dests_of}
use Rattle.nqs_rules.specs.Tests.{passes, same_dest}
use Rattle.nqs_rules.proofs.KeyFacts.{any_found, all_from_none, found_changed, none_from_all}
use Rattle.nqs_rules.proofs.RowFacts.{same_name}
use Rattle.nqs_types.specs.declared.edit.ConfEdit.TheVariants.{FirstDestination}
use Rattle.nqs_types.specs.declared.edit.Edit.{Edit}
use Rattle.nqs_types.specs.declared.edit.Edit.TheVariants.{Conf}
use Rattle.nqs_types.specs.declared.ids.Dest.{Dest}
use Rattle.nqs_types.specs.declared.ids.NamedDest.{NamedDest}
use Rattle.nqs_types.specs.declared.queue.QueueDef.{QueueDef}
use Rattle.nqs_types.specs.declared.refusal.Refusal.TheVariants.{NoDest, NoQueue, WrongKind}
use Rattle.nqs_load.specs.declared.order.Load.{Load}
use Rattle.nqs_load.specs.Load.{load_order}
use Rattle.nqs_load.specs.Balance.{HasJust, are_fitting, dests_in, edits_applied, first_edit, is_of_site, named_dest, order_edits, with_dests}
use Rattle.nqs_load.proofs.Fronts.{changed_alike, changed_twice, dest_exact, dest_itself, nothing_left, still_there, without_all, without_behind}
use Rattle.nqs_load.proofs.Orders.{load_order_is}

-- destinations are first, in this order, and the others of a queue stand behind them
abbrev with_front : List Dest → QueueDef → QueueDef
with_front front d = record d { dests = front ++ without_all front d.dests }

one_more : (x : Dest) (front : List Dest) → list_any (same_dest x) front ≡ false → (d : QueueDef)
    → with_dest_first (Some x) (with_front front d) ≡ with_front (x ∷ front) d
one_more x front none d = ap (λ l. record d { dests = x ∷ l }) (without_behind (same_dest x) front (without_all front d.dests) none)

edits_of_one_more : (pipe : List ℕ) (site : List (List ℕ)) (l : Load) (ls : List Load)
    → order_edits pipe site (l ∷ ls) ≡ order_edits pipe site ls ++ first_edit pipe site l ∷ []
edits_of_one_more pipe site l ls = ap (map (first_edit pipe site)) (reverse-append (l ∷ []) ls) ∙ map-append (first_edit pipe site) (reverse ls) (l ∷ [])

module _ {E : Type 0} (pipe : List ℕ) (s : State E) where
  -- a load's destination is what is meant by its name
  abbrev IsMeant : Load → Type 0
  IsMeant l = meant_dest (named_dest s.site l.dest) s ≡ Some l.dest

  put_in_front : (order : List Load) → are_distinct same_dest (dests_in order) ≡ true → AllByRecursion IsMeant order
      → edits_applied (order_edits pipe s.site order) s ≡ change_queue pipe (with_front (dests_in order)) s
  put_in_front [] once meant = ap (λ qs. record s { queues = qs }) (sym (change_first-same (is_queue pipe) (with_front []) s.queues (λ v found. refl)))
  put_in_front (l ∷ ls) once meant =
      let p = and_parts (not (list_any (same_dest l.dest) (dests_in ls))) (are_distinct same_dest (dests_in ls)) once in
      ap (λ es. edits_applied es s) (edits_of_one_more pipe s.site l ls)
      ∙ fold-append _ s (order_edits pipe s.site ls) (first_edit pipe s.site l ∷ [])
      ∙ ap (λ t. edits_applied (first_edit pipe s.site l ∷ []) t) (put_in_front ls p.1 meant.1)
      ∙ ap (λ o. change_queue pipe (with_dest_first o) (change_queue pipe (with_front (dests_in ls)) s)) meant.0
      ∙ ap (λ qs. record s { queues = qs }) (changed_twice (is_queue pipe) (with_dest_first (Some l.dest)) (with_front (dests_in ls)) (λ v. refl) s.queues
      ∙ (λ j. change_first (is_queue pipe) (λ d. one_more l.dest (dests_in ls) (not-true _ p.0) d j) s.queues))

-- which edits are refused nothing

fits_with : {E : Type 0} (typed : NamedDest) (dest : Dest) (pipe : List ℕ) (s : State E) (d : QueueDef) → meant_dest typed s ≡ Some dest
    → find_queue pipe s ≡ Some d → is_pipe_queue d ≡ true → list_any (same_dest dest) d.dests ≡ true → edit_fits (Conf (FirstDestination typed pipe)) s ≡ true
fits_with typed dest pipe s d meant found pipes listed =
    let there : has_queue pipe s ≡ true = any_found (is_queue pipe) s.queues d found in
    let kind : passes is_pipe_queue (find_queue pipe s) ≡ true = ap (passes is_pipe_queue) found ∙ pipes in
    let lists : passes (lists_dest (meant_dest typed s)) (find_queue pipe s) ≡ true = (λ j. passes (lists_dest (meant j)) (found j)) ∙ listed in
    (λ j. is_ok (first_refusal (cause (not (there j)) (NoQueue pipe) ∷ cause (not (kind j)) WrongKind ∷ cause (not (lists j)) NoDest ∷ [])))

fitting-append : {E : Type 0} (es : List Edit) (e : Edit) (s : State E) → are_fitting es s ≡ true → edit_fits e (edits_applied es s) ≡ true
    → are_fitting (es ++ e ∷ []) s ≡ true
fitting-append [] e s h last = and_from (edit_fits e s) true last refl
fitting-append (x ∷ es) e s h last =
    let p = and_parts (edit_fits x s) (are_fitting es (edit_applied x s)) h in
    and_from (edit_fits x s) (are_fitting (es ++ e ∷ []) (edit_applied x s)) p.0 (fitting-append es e (edit_applied x s) p.1 last)

module _ {E : Type 0} (pipe : List ℕ) (s : State E) (queue : QueueDef) (found : find_queue pipe s ≡ Some queue) (pipes : is_pipe_queue queue ≡ true) where
  all_fit : (order : List Load) → are_distinct same_dest (dests_in order) ≡ true → AllByRecursion (IsMeant pipe s) order
      → ((z : Dest) → list_any (same_dest z) (dests_in order) ≡ true → list_any (same_dest z) queue.dests ≡ true)
      → are_fitting (order_edits pipe s.site order) s ≡ true
  all_fit [] once meant there = refl
  all_fit (l ∷ ls) once meant there =
      let p = and_parts (not (list_any (same_dest l.dest) (dests_in ls))) (are_distinct same_dest (dests_in ls)) once in
      let rest = all_fit ls p.1 meant.1 (λ z h. there z (or_right (same_dest z l.dest) (list_any (same_dest z) (dests_in ls)) h)) in
      let here = there l.dest (or_left (same_dest l.dest l.dest) (list_any (same_dest l.dest) (dests_in ls)) (dest_itself l.dest)) in
      let behind = without_all (dests_in ls) queue.dests in
      let listed : list_any (same_dest l.dest) (dests_in ls ++ behind) ≡ true = list_any-append (same_dest l.dest) (dests_in ls) behind
      ∙ or_right (list_any (same_dest l.dest) (dests_in ls)) (list_any (same_dest l.dest) behind)
      (still_there l.dest (dests_in ls) queue.dests (not-true _ p.0) here) in
      let t : State E = change_queue pipe (with_front (dests_in ls)) s in
      let kept : find_queue pipe t ≡ Some (with_front (dests_in ls) queue) = found_changed (is_queue pipe) (with_front (dests_in ls)) (λ v. refl) s.queues
      ∙ ap (option_map (with_front (dests_in ls))) found in
      ap (λ es. are_fitting es s) (edits_of_one_more pipe s.site l ls)
      ∙ fitting-append (order_edits pipe s.site ls) (first_edit pipe s.site l) s rest
      (ap (edit_fits (first_edit pipe s.site l)) (put_in_front pipe s ls p.1 meant.1)
      ∙ fits_with (named_dest s.site l.dest) l.dest pipe t (with_front (dests_in ls) queue) meant.0 kept pipes listed)

-- the name of a host of the site means that host

none_at : {A : Type 0} (p : A → Bool) (xs : List A) (n : ℕ) (d : A) → list_any p xs ≡ false → n < length xs → p (get_or xs n d) ≡ false
none_at p [] n d none within = absurd (omega (arith, within))
none_at p (x ∷ xs) zero d none within = (or_parts (p x) (list_any p xs) none).0
none_at p (x ∷ xs) (suc n) d none within = none_at p xs n d (or_parts (p x) (list_any p xs) none).1 (omega (arith, within))

first_place : (names : List (List ℕ)) (n : ℕ) → are_distinct name_eq names ≡ true → n < length names
    → position_or_len (name_eq (get_or names n [])) names ≡ n
first_place [] n once within = absurd (omega (arith, within))
first_place (x ∷ xs) zero once within = ap (λ b. cond (not b) (1 + position_or_len (name_eq x) xs) 0) (same_name x)
first_place (x ∷ xs) (suc n) once within =
    let p = and_parts (not (list_any (name_eq x) xs)) (are_distinct name_eq xs) once in
    let below : n < length xs = omega (arith, within) in
    by (name_eq (get_or xs n []) x) refl (none_at (name_eq x) xs n [] (not-true _ p.0) below) (first_place xs n p.1 below)
  where
    by : (b : Bool) → name_eq (get_or xs n []) x ≡ b → name_eq x (get_or xs n []) ≡ false → position_or_len (name_eq (get_or xs n [])) xs ≡ n
        → cond (not b) (1 + position_or_len (name_eq (get_or xs n [])) xs) 0 ≡ suc n
    by true e apart rest = absurd (true≢false (sym (same_name x) ∙ ap (name_eq x) (sym (name_exact (get_or xs n []) x e)) ∙ apart))
    by false e apart rest = omega (arith, rest)

place_of : (names : List (List ℕ)) (n : ℕ) → are_distinct name_eq names ≡ true → n < length names → position (name_eq (get_or names n [])) names ≡ Some n
place_of names n once within =
    let e = first_place names n once within in
    let below : nat_lt n (length names) ≡ true = grind (arith, nat_tests) in
    ap (λ m. cond (nat_lt m (length names)) (Some m) None) e ∙ ap (λ b. cond b (Some n) None) below

all_meant : {E : Type 0} (s : State E) → are_distinct name_eq s.site ≡ true → (loads : List Load) → list_all (is_of_site (length s.site)) loads ≡ true
    → AllByRecursion (λ l. meant_dest (named_dest s.site l.dest) s ≡ Some l.dest) loads
all_meant s names [] all = tt
all_meant s names (l ∷ ls) all =
    let p = and_parts (is_of_site (length s.site) l) (list_all (is_of_site (length s.site)) ls) all in
    let within : l.dest.host.0 < length s.site = (let h = p.0 in grind (arith, nat_tests)) in
    (ap (λ o. dest_of l.dest.queue (option_map host_at o)) (place_of s.site l.dest.host.0 names within), all_meant s names ls p.1)

-- lists without repeats

all_apart : (p : Dest → Bool) (xs : List Dest) → list_any p xs ≡ false → AllByRecursion (λ y. p y ≡ false) xs
all_apart p [] none = tt
all_apart p (x ∷ xs) none = let q = or_parts (p x) (list_any p xs) none in (q.0, all_apart p xs q.1)

none_of : (p : Dest → Bool) (xs : List Dest) → AllByRecursion (λ y. p y ≡ false) xs → list_any p xs ≡ false
none_of p [] all = refl
none_of p (x ∷ xs) all = or_from (p x) (list_any p xs) all.0 (none_of p xs all.1)

apart_from_distinct : (xs : List Dest) → are_distinct same_dest xs ≡ true → IsDistinct same_dest xs
unfolding IsDistinct
apart_from_distinct [] h = tt
apart_from_distinct (x ∷ xs) h =
    let p = and_parts (not (list_any (same_dest x) xs)) (are_distinct same_dest xs) h in
    (all_apart (same_dest x) xs (not-true _ p.0), apart_from_distinct xs p.1)

distinct_from_apart : (xs : List Dest) → IsDistinct same_dest xs → are_distinct same_dest xs ≡ true
unfolding IsDistinct
distinct_from_apart [] h = refl
distinct_from_apart (x ∷ xs) h =
    and_from (not (list_any (same_dest x) xs)) (are_distinct same_dest xs) (ap not (none_of (same_dest x) xs h.0)) (distinct_from_apart xs h.1)

flips : (x y : Dest) → same_dest x y ≡ same_dest y x
flips x y = by (same_dest x y) (same_dest y x) refl refl
  where
    by : (b c : Bool) → same_dest x y ≡ b → same_dest y x ≡ c → b ≡ c
    by true true e f = refl
    by true false e f = sym (dest_itself y) ∙ ap (same_dest y) (sym (dest_exact x y e)) ∙ f
    by false true e f = sym e ∙ ap (same_dest x) (dest_exact y x f) ∙ dest_itself x
    by false false e f = refl

-- what all of a list pass all of a permutation pass

all_still : (p : Load → Bool) (xs ys : List Load) → IsPermutation xs ys → list_all p xs ≡ true → list_all p ys ≡ true
all_still p xs ys same all = all_from_none p (λ x. not (p x)) (λ x h. of (p x) h) ys
    (sym (list_any-IsPermutation (λ x. not (p x)) xs ys same) ∙ none_from_all p (λ x. not (p x)) (λ x h. ap not h) xs all)
  where
    of : (b : Bool) → not b ≡ false → b ≡ true
    of true h = refl
    of false h = sym h

pub all_turned : (p : Load → Bool) (loads : List Load) → list_all p loads ≡ true → list_all p (reverse (load_order loads)) ≡ true
all_turned p loads all =
    all_still p (load_order loads) (reverse (load_order loads)) (IsPermutation-reverse (load_order loads))
    (all_still p loads (load_order loads) (load_order_is loads).same all)

-- behind the edits

module _ {E : Type 0} (pipe : List ℕ) (loads : List Load) (s : State E) (just : HasJust pipe loads s) where
  abbrev order : List Load
  order = load_order loads

  same_dests : IsPermutation just.queue.dests (dests_in order)
  same_dests = IsPermutation-trans _ _ _ (IsPermutation-sym _ _ just.same) (IsPermutation-map (λ (l : Load). l.dest) loads order (load_order_is loads).same)

  once : are_distinct same_dest (dests_in order) ≡ true
  once = distinct_from_apart (dests_in order)
      (IsDistinct-IsPermutation same_dest flips just.queue.dests (dests_in order) same_dests (apart_from_distinct just.queue.dests just.once))

  of_site : list_all (is_of_site (length s.site)) order ≡ true
  of_site = all_still (is_of_site (length s.site)) loads order (load_order_is loads).same just.of_site

  listed : (z : Dest) → list_any (same_dest z) (dests_in order) ≡ true → list_any (same_dest z) just.queue.dests ≡ true
  listed z h = list_any-IsPermutation (same_dest z) just.queue.dests (dests_in order) same_dests ∙ h

  pub edits_fit : is_pipe_queue just.queue ≡ true → are_fitting (order_edits pipe s.site order) s ≡ true
  edits_fit pipes = all_fit pipe s just.queue just.found pipes order once (all_meant s just.names order of_site) listed

  none_behind : without_all (dests_in order) just.queue.dests ≡ []
  none_behind = nothing_left (dests_in order) just.queue.dests once listed
      (sym (length_permutation just.queue.dests (dests_in order) same_dests))

  pub state_behind : edits_applied (order_edits pipe s.site order) s ≡ change_queue pipe (with_dests (dests_in order)) s
  state_behind =
      put_in_front pipe s order once (all_meant s just.names order of_site)
      ∙ ap (λ qs. record s { queues = qs }) (changed_alike (is_queue pipe) (with_front (dests_in order)) (with_dests (dests_in order)) s.queues just.queue
      just.found (ap (λ l. record just.queue { dests = l }) (ap (λ l. dests_in order ++ l) none_behind ∙ append-nil (dests_in order))))

  pub found_behind : find_queue pipe (edits_applied (order_edits pipe s.site order) s) ≡ Some (with_dests (dests_in order) just.queue)
  found_behind =
      ap (find_queue pipe) state_behind
      ∙ found_changed (is_queue pipe) (with_dests (dests_in order)) (λ v. refl) s.queues
      ∙ ap (option_map (with_dests (dests_in order))) just.found

  pub dests_behind : dests_of (find_queue pipe (edits_applied (order_edits pipe s.site order) s)) ≡ dests_in order
  dests_behind = ap dests_of found_behind
