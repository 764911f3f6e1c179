-- What besides holds of a state at every moment stays so: the sorts of changes.
use Rattle.std.proofs.Common.{◌≡◌, ℕ, ◌≤◌, Bool, true, false, cond, not, ◌&&◌, ◌||◌, nat_le, List, [], ◌∷◌, ◌++◌, map, find, Some, refl, sym, ap, ◌∙◌}
use Rattle.std.proofs.Common.{arith, if◌then◌else◌}
use Rattle.std.proofs.lemmas.Bool.{and_parts, and_from, or_left, or_right, leb-true, le-leb, not-true, not_from_false}
use Rattle.std.proofs.lemmas.Option.{same_Some}
use Rattle.std.specs.List.{list_any, list_all}
use Rattle.nqs_state.specs.State.{State}
use Rattle.nqs_types.specs.Ids.{id_eq, id_exact}
use Rattle.nqs_base_tables.specs.Table.{has_key, change_first, without_first}
use Rattle.nqs_state.specs.Keys.{is_row}
use Rattle.nqs_types.specs.declared.ids.RequestId.{RequestId}
use Rattle.nqs_types.specs.declared.request.Row.{Row}
use Rattle.nqs_types.specs.declared.request.Hand.{Hand}
use Rattle.nqs_types.specs.declared.request.Promise.{Promise}
use Rattle.nqs_rules.specs.Tests.{is_routing, is_offered, same_host}
use Rattle.nqs_rules.specs.Find.{find_row}
use Rattle.nqs_rules.specs.Edits.{change_row}
use Rattle.nqs_rules.specs.Applied.{is_offered_for}
use Rattle.nqs_rules.specs.InOrder.{IsConsistent, are_distinct, is_doom_right, is_hold_right, has_hand, is_promise_free, is_hand_of_given}
use Rattle.nqs_rules.proofs.Chains.{imply}
use Rattle.nqs_rules.proofs.Sublists.{IsPart, part_all}
use Rattle.nqs_rules.proofs.ListFacts.{list_all-weaker, list_all-changed, list_all-found}
use Rattle.nqs_rules.proofs.ListMaps.{list_any-map}
use Rattle.nqs_rules.proofs.KeyFacts.{all-both, all-added, all_from_none}

module _ {V : Type 0} where
  -- what a test finds is still there

  pub any-changed_other : (t u : V → Bool) (g : V → V) (vs : List V) (x : V) → find u vs ≡ Some x → t x ≡ false → list_any t vs ≡ true
      → list_any t (change_first u g vs) ≡ true
  any-changed_other t u g [] x found fails h = h
  any-changed_other t u g (y ∷ vs) x found fails h = by (u y) found (any-changed_other t u g vs x)
    where
      at : (b : Bool) → t y ≡ b → (b || list_any t vs) ≡ true → (list_any t vs ≡ true → list_any t (change_first u g vs) ≡ true)
          → (t y || list_any t (change_first u g vs)) ≡ true
      at true e h rest = or_left (t y) (list_any t (change_first u g vs)) e
      at false e h rest = or_right (t y) (list_any t (change_first u g vs)) (rest h)

      by : (b : Bool) → cond b (Some y) (find u vs) ≡ Some x → (find u vs ≡ Some x → t x ≡ false → list_any t vs ≡ true
          → list_any t (change_first u g vs) ≡ true) → list_any t (if b then g y ∷ vs else y ∷ change_first u g vs) ≡ true
      by true found rest = or_right (t (g y)) (list_any t vs) (ap (λ b. b || list_any t vs) (sym (ap t (same_Some y x found) ∙ fails)) ∙ h)
      by false found rest = at (t y) refl h (rest found fails)

  pub any-without_found : (t u : V → Bool) (vs : List V) (x : V) → find u vs ≡ Some x → t x ≡ false → list_any t vs ≡ true
      → list_any t (without_first u vs) ≡ true
  any-without_found t u [] x found fails h = h
  any-without_found t u (y ∷ vs) x found fails h = by (u y) found (any-without_found t u vs x)
    where
      at : (b : Bool) → t y ≡ b → (b || list_any t vs) ≡ true → (list_any t vs ≡ true → list_any t (without_first u vs) ≡ true)
          → (t y || list_any t (without_first u vs)) ≡ true
      at true e h rest = or_left (t y) (list_any t (without_first u vs)) e
      at false e h rest = or_right (t y) (list_any t (without_first u vs)) (rest h)

      by : (b : Bool) → cond b (Some y) (find u vs) ≡ Some x → (find u vs ≡ Some x → t x ≡ false → list_any t vs ≡ true
          → list_any t (without_first u vs) ≡ true) → list_any t (if b then vs else y ∷ without_first u vs) ≡ true
      by true found rest = ap (λ b. b || list_any t vs) (sym (ap t (same_Some y x found) ∙ fails)) ∙ h
      by false found rest = at (t y) refl h (rest found fails)

-- one value changes, and the others are known to have other keys
pub all-changed_alone : {K V : Type 0} (eq : K → K → Bool) (exact : (a b : K) → eq a b ≡ true → a ≡ b) (key : V → K) (id : K) (g : V → V) (p q : V → Bool)
    → ((v : V) → eq id (key v) ≡ false → p v ≡ true → q v ≡ true) → ((v : V) → p v ≡ true → q (g v) ≡ true)
    → (vs : List V) → are_distinct eq (map key vs) ≡ true → list_all p vs ≡ true → list_all q (change_first (has_key eq key id) g vs) ≡ true
all-changed_alone eq exact key id g p q other one [] d h = refl
all-changed_alone eq exact key id g p q other one (x ∷ vs) d h =
    let e = and_parts (not (list_any (eq (key x)) (map key vs))) (are_distinct eq (map key vs)) d in
    let k = and_parts (p x) (list_all p vs) h in
    by (eq id (key x)) refl (not-true (list_any (eq (key x)) (map key vs)) e.0) k.0 k.1 (all-changed_alone eq exact key id g p q other one vs e.1 k.1)
  where
    by : (b : Bool) → eq id (key x) ≡ b → list_any (eq (key x)) (map key vs) ≡ false → p x ≡ true → list_all p vs ≡ true
        → list_all q (change_first (has_key eq key id) g vs) ≡ true → list_all q (if b then g x ∷ vs else x ∷ change_first (has_key eq key id) g vs) ≡ true
    by true e none k all rest =
        let none_here : list_any (has_key eq key id) vs ≡ false = sym (list_any-map key (eq id) vs)
        ∙ ap (λ m. list_any (eq m) (map key vs)) (exact id (key x) e) ∙ none in
        and_from (q (g x)) (list_all q vs) (one x k) (all-both p (λ v. not (eq id (key v))) q (λ v a b. other v (not-true (eq id (key v)) b) a) vs all
        (all_from_none (λ v. not (eq id (key v))) (has_key eq key id) (λ v f. not_from_false (eq id (key v)) f) vs none_here))
    by false e none k all rest = and_from (q x) (list_all q (change_first (has_key eq key id) g vs)) (other x e k) rest

module _ {E : Type 0} where
  -- nothing of it changes
  pub same_core : (s t : State E) → t.rows ≡ s.rows → t.hands ≡ s.hands → t.promises ≡ s.promises → t.me ≡ s.me → t.seq ≡ s.seq → IsConsistent s
      → IsConsistent t
  same_core s t rows hands promises me seq c = record {
    doomed = ap (list_all is_doom_right) rows ∙ c.doomed;
    held = ap (list_all is_hold_right) rows ∙ c.held;
    routing = (λ j. list_all (λ r. not (is_routing r.state) || list_any (is_offered_for r.id) (hands j)) (rows j)) ∙ c.routing;
    promises = ap (list_all is_promise_free) promises ∙ c.promises;
    given = (λ j. list_all (λ h. not (same_host (me j) h.id.host) || nat_le h.id.seq (seq j)) (hands j)) ∙ c.given;
  }

  -- what holds of a row beside
  pub record IsCalm (s : State E) (r : Row E) : Type 0 where
    pub doomed : is_doom_right r ≡ true
    pub held : is_hold_right r ≡ true
    pub routing : has_hand s r ≡ true

  pub row_calm : (s : State E) (test : Row E → Bool) (r : Row E) → IsConsistent s → find test s.rows ≡ Some r → IsCalm s r
  row_calm s test r c found = record {
    doomed = list_all-found is_doom_right test s.rows r c.doomed found;
    held =
        list_all-found is_hold_right test s.rows r c.held found;
    routing = list_all-found (has_hand s) test s.rows r c.routing found;
  }

  -- one row changes
  pub row_stays : (s : State E) (id : RequestId) (f : Row E → Row E) → IsConsistent s → ((r : Row E) → find_row id s ≡ Some r → IsCalm s r → IsCalm s (f r))
      → IsConsistent (change_row id f s)
  row_stays s id f c keeps = record {
    doomed = list_all-changed is_doom_right (is_row id) f s.rows c.doomed (λ r found. (keeps r found (row_calm s (is_row id) r c found)).doomed);
    held = list_all-changed is_hold_right (is_row id) f s.rows c.held (λ r found. (keeps r found (row_calm s (is_row id) r c found)).held);
    routing = list_all-changed (has_hand s) (is_row id) f s.rows c.routing (λ r found. (keeps r found (row_calm s (is_row id) r c found)).routing);
    promises = c.promises;
    given = c.given;
  }

  -- rows go
  pub rows_stay : (s : State E) (rows : List (Row E)) → IsPart rows s.rows → IsConsistent s → IsConsistent (record s { rows = rows })
  rows_stay s rows part c = record {
    doomed = part_all is_doom_right part c.doomed;
    held = part_all is_hold_right part c.held;
    routing =
        part_all (has_hand s) part c.routing;
    promises = c.promises;
    given = c.given;
  }

  -- a row comes
  pub row_joins : (s : State E) (r : Row E) → IsConsistent s → IsCalm s r → IsConsistent (record s { rows = s.rows ++ r ∷ [] })
  row_joins s r c k = record {
    doomed = all-added is_doom_right s.rows r c.doomed k.doomed;
    held = all-added is_hold_right s.rows r c.held k.held;
    routing = all-added (has_hand s) s.rows r c.routing k.routing;
    promises = c.promises;
    given = c.given;
  }

  -- promises go
  pub promises_stay : (s : State E) (ps : List (Promise E)) → IsPart ps s.promises → IsConsistent s → IsConsistent (record s { promises = ps })
  promises_stay s ps part c = record {
    doomed = c.doomed;
    held = c.held;
    routing = c.routing;
    promises = part_all is_promise_free part c.promises;
    given =
        c.given;
  }

  -- more numbers given
  pub seq_grows : (s : State E) (n : ℕ) → s.seq ≤ n → IsConsistent s → IsConsistent (record s { seq = n })
  seq_grows s n more c = record {
    doomed = c.doomed;
    held = c.held;
    routing = c.routing;
    promises = c.promises;
    given = list_all-weaker (is_hand_of_given s) (is_hand_of_given (record s { seq = n }))
        (λ h. imply (same_host s.me h.id.host) (nat_le h.id.seq s.seq) (nat_le h.id.seq n)
        (λ e. le-leb h.id.seq n (let k = leb-true h.id.seq s.seq e in omega arith))) s.hands c.given;
  }

  -- a row keeps its hand where each offer of it stays
  pub hand_stays : (s t : State E) (r : Row E) → (list_any (is_offered_for r.id) s.hands ≡ true → list_any (is_offered_for r.id) t.hands ≡ true)
      → has_hand s r ≡ true → has_hand t r ≡ true
  hand_stays s t r stays h = imply (is_routing r.state) (list_any (is_offered_for r.id) s.hands) (list_any (is_offered_for r.id) t.hands) stays h

  -- another request's offer is none of this one
  pub other_offer : (id : RequestId) (r : Row E) (x : Hand) → id_eq id r.id ≡ false → is_offered_for r.id x ≡ true → not (is_offered_for id x) ≡ true
  other_offer id r x other h =
      let p = and_parts (is_offered x.phase) (id_eq r.id x.id) h in
      not_from_false (is_offered_for id x) (ap (λ b. b && id_eq id x.id) p.0 ∙ ap (id_eq id) (sym (id_exact r.id x.id p.1)) ∙ other)
