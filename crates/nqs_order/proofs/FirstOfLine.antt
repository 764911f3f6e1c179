-- The first entry of a line whose row may start: no entry of the line that may start comes before
-- its row.
use Rattle.std.proofs.Common.{◌≡◌, ℕ, Bool, true, false, not, ◌&&◌, ◌||◌, List, [], ◌∷◌, position, Option, None, Some, is_some, slice_get, refl, sym, ap, subst}
use Rattle.std.proofs.Common.{◌∙◌}
use Rattle.std.proofs.Common.{if◌then◌else◌, true≢false}
use Rattle.std.specs.List.{list_any, AllByRecursion}
use Rattle.std.specs.Option.{IfSome, option_map, option_and_then, option_or}
use Rattle.std.proofs.lemmas.Bool.{and_parts, or_parts, or_from}
use Rattle.std.proofs.Math.Bool.{and-false}
use Rattle.std.proofs.lemmas.Option.{same_Some, none-some}
use Rattle.nqs_types.specs.declared.request.Row.{Row}
use Rattle.nqs_types.specs.declared.queue.QueueDef.{QueueDef}
use Rattle.nqs_state.specs.State.{State}
use Rattle.nqs_state.specs.Keys.{is_row}
use Rattle.nqs_index.specs.declared.index.Index.{Index}
use Rattle.nqs_index.specs.declared.key.Key.{Key}
use Rattle.nqs_index.specs.declared.line.Entry.{Entry}
use Rattle.nqs_index.specs.Keys.{is_before, key_of}
use Rattle.nqs_index.specs.Lines.{IsInOrder, StandsBehind, same_key}
use Rattle.nqs_index.specs.declared.class.Class.{Class}
use Rattle.nqs_index.specs.Classes.{class_eq, class_exact, class_of}
use Rattle.nqs_order.specs.ByIndex.{is_eligible, with_row, if_passes, startable, first_in, leads, is_ahead}
use Rattle.nqs_index.proofs.OrderLemmas.{key_exact, not_itself, chain}

turned : (b : Bool) → not b ≡ false → b ≡ true
turned true h = refl
turned false h = absurd (true≢false h)

module _ {E : Type 0} where
  -- what is found has this class and this key
  abbrev pub is_of : Class → Key → Option (ℕ × Row E) → Bool
  is_of c k None = false
  is_of c k (Some p) = class_eq (class_of p.1) c && same_key (key_of p.1) k

  -- a key that no better one leads: what doesn't come before it leads no more
  pub led : (o : Option (ℕ × Row E)) (k m : Key) → is_before k m ≡ false → leads o m ≡ false → leads o k ≡ false
  led None k m b isnt = absurd (true≢false isnt)
  led (Some p) k m b isnt = chain k m (key_of p.1) b isnt

module _ {E : Type 0} (index : Index) (s : State E) (d : QueueDef) (now : ℕ) where
  -- the row of an entry, with its place
  abbrev pub row_of : Entry → Option (ℕ × Row E)
  row_of e = option_and_then (with_row s) (position (is_row e.id) s.rows)

  -- an entry's row has the class and the key that the index has of it
  abbrev pub is_right : Class → Entry → Bool
  is_right c e = is_of c e.key (row_of e)

  -- an entry has no such row
  abbrev pub is_wrong : Class → Entry → Bool
  is_wrong c e = not (is_right c e)

  -- an entry's row may start, and comes before the best so far
  abbrev pub is_better : Option (ℕ × Row E) → Entry → Bool
  is_better o e = is_some (startable index d now s e.id) && leads o e.key

  -- what is found stands at its place, and may start
  pub record IsThere (p : ℕ × Row E) : Type 0 where
    pub at : slice_get s.rows p.0 ≡ Some p.1
    pub passes : is_eligible index d now s p.1 ≡ true

  record IsStarted (e : Entry) (p : ℕ × Row E) : Type 0 where
    pub row : row_of e ≡ Some p
    pub there : IsThere p

  started : (e : Entry) (p : ℕ × Row E) → startable index d now s e.id ≡ Some p → IsStarted e p
  started e p h = by (row_of e) refl h
    where
      placed : (n : Option ℕ) (q : ℕ × Row E) → option_and_then (with_row s) n ≡ Some q → slice_get s.rows q.0 ≡ Some q.1
      placed None q h = absurd (none-some q h)
      placed (Some n) q h = of (slice_get s.rows n) refl h
        where
          of : (o : Option (Row E)) → slice_get s.rows n ≡ o → option_map (λ (r : Row E). (n, r)) o ≡ Some q → slice_get s.rows q.0 ≡ Some q.1
          of None is h = absurd (none-some q h)
          of (Some r) is h = subst (λ (q : ℕ × Row E). slice_get s.rows q.0 ≡ Some q.1) (same_Some (n, r) q h) is

      by : (o : Option (ℕ × Row E)) → row_of e ≡ o → option_and_then (if_passes (is_eligible index d now s)) o ≡ Some p → IsStarted e p
      by None is h = absurd (none-some p h)
      by (Some q) is h = passed (is_eligible index d now s q.1) refl h
        where
          passed : (b : Bool) → is_eligible index d now s q.1 ≡ b → (if b then Some q else None) ≡ Some p → IsStarted e p
          passed true m h =
              let met : q ≡ p = same_Some q p h in
              record {
                row = is ∙ h;
                there = subst IsThere met (record { at = placed (position (is_row e.id) s.rows) q is; passes = m });
              }
          passed false m h = absurd (none-some p h)

  pub record IsTold (c : Class) (e : Entry) (p : ℕ × Row E) : Type 0 where
    pub there : IsThere p
    pub class : class_of p.1 ≡ c
    pub key : key_of p.1 ≡ e.key

  -- what the index has of an entry that may start is right
  pub told : (c : Class) (e : Entry) (p : ℕ × Row E) → is_wrong c e ≡ false → startable index d now s e.id ≡ Some p → IsTold c e p
  told c e p right h =
      let t = started e p h in
      let is = and_parts (class_eq (class_of p.1) c) (same_key (key_of p.1) e.key) (ap (is_of c e.key) (sym t.row) ∙ turned (is_right c e) right) in
      record { there = t.there; class = class_exact (class_of p.1) c is.0; key = key_exact (key_of p.1) e.key is.1 }

  behind : (o : Option (ℕ × Row E)) (e : Entry) → leads o e.key ≡ false → (es : List Entry) → AllByRecursion (StandsBehind e) es
      → list_any (is_better o) es ≡ false
  behind o e isnt [] all = refl
  behind o e isnt (x ∷ xs) all = or_from (is_better o x) (list_any (is_better o) xs)
      (ap (λ b. is_some (startable index d now s x.id) && b) (led o x.key e.key all.0 isnt) ∙ and-false (is_some (startable index d now s x.id)))
      (behind o e isnt xs all.1)

  -- where the first entry doesn't come before the best so far, none does
  pub passed_over : (o : Option (ℕ × Row E)) (es : List Entry) → IsInOrder es → is_ahead o es ≡ false → list_any (is_better o) es ≡ false
  passed_over o [] order isnt = refl
  passed_over o (e ∷ es) order isnt = or_from (is_better o e) (list_any (is_better o) es)
      (ap (λ b. is_some (startable index d now s e.id) && b) isnt ∙ and-false (is_some (startable index d now s e.id)))
      (behind o e isnt es order.0)

  module _ (c : Class) where
    -- no entry comes before the first one whose row may start
    pub first_least : (es : List Entry) → IsInOrder es → list_any (is_wrong c) es ≡ false → list_any (is_better (first_in index d now s es)) es ≡ false
    first_least [] order right = refl
    first_least (e ∷ es) order right = by (startable index d now s e.id) refl (first_least es order.1 parts.1)
      where
        parts : (is_wrong c e ≡ false) × (list_any (is_wrong c) es ≡ false)
        parts = or_parts (is_wrong c e) (list_any (is_wrong c) es) right

        by : (f : Option (ℕ × Row E)) → startable index d now s e.id ≡ f → list_any (is_better (first_in index d now s es)) es ≡ false
            → list_any (is_better (option_or f (first_in index d now s es))) (e ∷ es) ≡ false
        by None is rest = or_from (is_better (first_in index d now s es) e) (list_any (is_better (first_in index d now s es)) es)
            (ap (λ o. is_some o && leads (first_in index d now s es) e.key) is) rest
        by (Some q) is rest =
            passed_over (Some q) (e ∷ es) order (ap (is_before e.key) (told c e q parts.0 is).key ∙ not_itself e.key)

    -- what is found is there
    pub first_there : (es : List Entry) → list_any (is_wrong c) es ≡ false → IfSome (first_in index d now s es) IsThere
    first_there [] right = tt
    first_there (e ∷ es) right = by (startable index d now s e.id) refl (first_there es parts.1)
      where
        parts : (is_wrong c e ≡ false) × (list_any (is_wrong c) es ≡ false)
        parts = or_parts (is_wrong c e) (list_any (is_wrong c) es) right

        by : (f : Option (ℕ × Row E)) → startable index d now s e.id ≡ f → IfSome (first_in index d now s es) IsThere
            → IfSome (option_or f (first_in index d now s es)) IsThere
        by None is rest = rest
        by (Some q) is rest = (told c e q parts.0 is).there

  -- something is found where any row may start
  pub first_some : (es : List Entry) → is_some (first_in index d now s es) ≡ list_any (λ e. is_some (startable index d now s e.id)) es
  first_some [] = refl
  first_some (e ∷ es) = by (startable index d now s e.id) (first_some es)
    where
      by : (f : Option (ℕ × Row E)) → is_some (first_in index d now s es) ≡ list_any (λ e. is_some (startable index d now s e.id)) es
          → is_some (option_or f (first_in index d now s es)) ≡ (is_some f || list_any (λ e. is_some (startable index d now s e.id)) es)
      by None rest = rest
      by (Some q) rest = refl
