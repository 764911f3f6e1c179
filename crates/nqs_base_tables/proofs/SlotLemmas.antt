-- Slots, of which some are holes.
use Rattle.std.proofs.Common.{◌≡◌, ℕ, ◌+◌, ◌<◌, ◌≤◌, Bool, true, false, cond, not, filter, List, [], ◌∷◌, ◌++◌, length, position, Option}
use Rattle.std.proofs.Common.{None, Some, IfSome, slice_get, remove, refl, sym, ap, subst, ◌∙◌}
use Rattle.std.proofs.Common.{◌*◌, ◌/◌, ◌⊎◌, inl, inr, zero, suc, is_some, true≢false, arith}
use Rattle.std.proofs.lemmas.Option.{same_Some, none-some}
use Rattle.std.specs.List.{position_or_len, AllByRecursion, IsDistinct}
use Rattle.std.specs.Option.{option_map}
use Rattle.std.specs.Map.{keys_of, values_of, lookup}
use Rattle.std.specs.Map.Calls.{RetainsPairs}
use Rattle.std.proofs.lemmas.Map.Keys.{IsDistinct-head, IsDistinct-tail}
use Rattle.indexmap.specs.IndexMap.{set_value_at}
use Rattle.indexmap.proofs.MapLemmas.{Found-position, Missing-position, some_index}
use Rattle.std.proofs.Common.{◌-◌, get_or, length-append}
use Rattle.std.proofs.Math.ListN.{set}
use Rattle.std.proofs.lemmas.Option.{slice_get_read}
use Rattle.std.proofs.lemmas.Bool.{cases_lt}
use Rattle.std.proofs.lemmas.Option.{slice_get_within}
use Rattle.nqs_base_tables.specs.Slots.{counted, before, live, filled, IsFilled, IsClosed, IsCounted, raised, Asks}
use Rattle.nqs_base_tables.proofs.TableLemmas.{none_from_is_some}

module _ {K V : Type 0} where
  length-before : (k : K) (o : Option V) (l : List (K × V)) → length (before k o l) ≡ counted o (length l)
  length-before k None l = refl
  length-before k (Some v) l = refl

  filled-suc : (es : List (K × Option V)) (slot : ℕ) (o : Option V) → slice_get (values_of es) slot ≡ Some o → filled es (suc slot) ≡ counted o (filled es slot)
  filled-suc [] slot o h = absurd (none-some o h)
  filled-suc (e ∷ es) zero o h = ap (λ q. counted q 0) (same_Some e.1 o h)
  filled-suc ((k, None) ∷ es) (suc i) o h = filled-suc es i o h
  filled-suc ((k, Some v) ∷ es) (suc i) o h = by o (filled-suc es i o h)
    where
      by : (o : Option V) → filled es (suc i) ≡ counted o (filled es i) → suc (filled es (suc i)) ≡ counted o (suc (filled es i))
      by None r = ap suc r
      by (Some w) r = ap suc r

  -- one more value stands before the next slot, where this one is no hole
  pub filled-step : (es : List (K × Option V)) (slot : ℕ) (o : Option V) → slice_get (values_of es) slot ≡ Some o → filled es (slot + 1)
      ≡ counted o (filled es slot)
  filled-step es slot o h = (let e : slot + 1 ≡ suc slot = omega arith in ap (filled es) e ∙ filled-suc es slot o h)

  -- before the end stand all values
  pub filled-all : (es : List (K × Option V)) (n : ℕ) → length es ≤ n → filled es n ≡ length (live es)
  filled-all [] zero h = refl
  filled-all [] (suc n) h = refl
  filled-all (e ∷ es) zero h = omega arith
  filled-all (e ∷ es) (suc n) h = ap (counted e.1) (filled-all es n (omega arith)) ∙ sym (length-before e.0 e.1 (live es))

  pub filled-most : (es : List (K × Option V)) (n : ℕ) → filled es n ≤ length (live es)
  filled-most es zero = omega arith
  filled-most [] (suc n) = omega arith
  filled-most ((k, None) ∷ es) (suc n) = filled-most es n
  filled-most ((k, Some v) ∷ es) (suc n) = (let r : filled es n ≤ length (live es) = filled-most es n in omega arith)

  pub filled-small : (es : List (K × Option V)) (n : ℕ) → filled es n ≤ n
  filled-small es zero = omega arith
  filled-small [] (suc n) = omega arith
  filled-small ((k, None) ∷ es) (suc n) = (let r : filled es n ≤ n = filled-small es n in omega arith)
  filled-small ((k, Some v) ∷ es) (suc n) = (let r : filled es n ≤ n = filled-small es n in omega arith)

  -- as many values stand behind a slot as there are slots, at most
  pub filled-rest : (es : List (K × Option V)) (n : ℕ) → n ≤ length es → length (live es) + n ≤ filled es n + length es
  filled-rest [] zero h = omega arith
  filled-rest [] (suc n) h = omega arith
  filled-rest ((k, None) ∷ es) zero h = (let r : length (live es) + 0 ≤ 0 + length es = filled-rest es 0 (omega arith) in omega arith)
  filled-rest ((k, Some v) ∷ es) zero h = (let r : length (live es) + 0 ≤ 0 + length es = filled-rest es 0 (omega arith) in omega arith)
  filled-rest ((k, None) ∷ es) (suc n) h = (let r : length (live es) + n ≤ filled es n + length es = filled-rest es n (omega arith) in omega arith)
  filled-rest ((k, Some v) ∷ es) (suc n) h = (let r : length (live es) + n ≤ filled es n + length es = filled-rest es n (omega arith) in omega arith)

  pub live-small : (es : List (K × Option V)) → length (live es) ≤ length es
  live-small es = (let r : length (live es) + 0 ≤ 0 + length es = filled-rest es 0 (omega arith) in omega arith)

  -- where there is no hole, slots are places
  pub filled-closed : (es : List (K × Option V)) (n : ℕ) → IsClosed es → n ≤ length es → filled es n ≡ n
  filled-closed es n closed h =
      let a : filled es n ≤ n = filled-small es n in
      let b : length (live es) + n ≤ filled es n + length es = filled-rest es n h in
      omega arith

  pub IsFilled-closed : (es : List (K × Option V)) (n : ℕ) → IsClosed es → n < length es → IsFilled es n
  IsFilled-closed es n closed h =
      let a : filled es n ≡ n = filled-closed es n closed (omega arith) in
      let b : filled es (n + 1) ≡ n + 1 = filled-closed es (n + 1) closed (omega arith) in
      record { within = h; here = omega arith }

  -- a value that stands in a slot is among the values
  pub filled-within : (es : List (K × Option V)) (n : ℕ) → IsFilled es n → filled es n < length (live es)
  filled-within es n f =
      let a : filled es (n + 1) ≤ length (live es) = filled-most es (n + 1) in
      let b : filled es (n + 1) ≡ filled es n + 1 = f.here in
      omega arith

  -- in a filled slot stands a value
  pub value-filled : (es : List (K × Option V)) (n : ℕ) → IsFilled es n → (o : Option V) → slice_get (values_of es) n ≡ Some o → is_some o ≡ true
  value-filled es n f (Some v) h = refl
  value-filled es n f None h =
      let a : filled es (n + 1) ≡ filled es n = filled-step es n None h in
      let b : filled es (n + 1) ≡ filled es n + 1 = f.here in
      absurd (omega arith)

  -- and no hole
  pub no_hole : (es : List (K × Option V)) (n : ℕ) → IsFilled es n → slice_get (values_of es) n ≡ Some None → ⊥
  no_hole es n f h = true≢false (sym (value-filled es n f None h))

  pub live-at : (es : List (K × Option V)) (slot : ℕ) (v : V) → slice_get (values_of es) slot ≡ Some (Some v)
      → slice_get (values_of (live es)) (filled es slot) ≡ Some v
  live-at [] slot v h = absurd (none-some (Some v) h)
  live-at ((k, None) ∷ es) zero v h = absurd (none-some v (same_Some None (Some v) h))
  live-at ((k, Some w) ∷ es) zero v h = same_Some (Some w) (Some v) h
  live-at ((k, None) ∷ es) (suc i) v h = live-at es i v h
  live-at ((k, Some w) ∷ es) (suc i) v h = live-at es i v h

  -- a write in a slot is one at its place
  pub live-set : (es : List (K × Option V)) (slot : ℕ) (v w : V) → slice_get (values_of es) slot ≡ Some (Some v)
      → live (set_value_at es slot (Some w)) ≡ set_value_at (live es) (filled es slot) w
  live-set [] slot v w h = absurd (none-some (Some v) h)
  live-set ((k, None) ∷ es) zero v w h = absurd (none-some v (same_Some None (Some v) h))
  live-set ((k, Some x) ∷ es) zero v w h = refl
  live-set ((k, None) ∷ es) (suc i) v w h = live-set es i v w h
  live-set ((k, Some x) ∷ es) (suc i) v w h = ap (λ l. (k, x) ∷ l) (live-set es i v w h)

  -- a hole in a slot is a removal at its place
  pub live-cleared : (es : List (K × Option V)) (slot : ℕ) (v : V) → slice_get (values_of es) slot ≡ Some (Some v)
      → live (set_value_at es slot None) ≡ remove (live es) (filled es slot)
  live-cleared [] slot v h = absurd (none-some (Some v) h)
  live-cleared ((k, None) ∷ es) zero v h = absurd (none-some v (same_Some None (Some v) h))
  live-cleared ((k, Some x) ∷ es) zero v h = refl
  live-cleared ((k, None) ∷ es) (suc i) v h = live-cleared es i v h
  live-cleared ((k, Some x) ∷ es) (suc i) v h = ap (λ l. (k, x) ∷ l) (live-cleared es i v h)

  pub length-cleared : (es : List (K × Option V)) (slot : ℕ) (v : V) → slice_get (values_of es) slot ≡ Some (Some v)
      → length (live (set_value_at es slot None)) + 1 ≡ length (live es)
  length-cleared [] slot v h = absurd (none-some (Some v) h)
  length-cleared ((k, None) ∷ es) zero v h = absurd (none-some v (same_Some None (Some v) h))
  length-cleared ((k, Some x) ∷ es) zero v h = omega arith
  length-cleared ((k, None) ∷ es) (suc i) v h = length-cleared es i v h
  length-cleared ((k, Some x) ∷ es) (suc i) v h =
      let r : length (live (set_value_at es i None)) + 1 ≡ length (live es) = length-cleared es i v h in
      omega arith

  pub length-set : (es : List (K × Option V)) (slot : ℕ) (v w : V) → slice_get (values_of es) slot ≡ Some (Some v)
      → length (live (set_value_at es slot (Some w))) ≡ length (live es)
  length-set [] slot v w h = absurd (none-some (Some v) h)
  length-set ((k, None) ∷ es) zero v w h = absurd (none-some v (same_Some None (Some v) h))
  length-set ((k, Some x) ∷ es) zero v w h = refl
  length-set ((k, None) ∷ es) (suc i) v w h = length-set es i v w h
  length-set ((k, Some x) ∷ es) (suc i) v w h = ap suc (length-set es i v w h)

  pub live-added : (es : List (K × Option V)) (k : K) (v : V) → live (es ++ (k, Some v) ∷ []) ≡ live es ++ (k, v) ∷ []
  live-added [] k v = refl
  live-added ((q, None) ∷ es) k v = live-added es k v
  live-added ((q, Some x) ∷ es) k v = ap (λ l. (q, x) ∷ l) (live-added es k v)

  pub length-added : (es : List (K × Option V)) (k : K) (v : V) → length (live (es ++ (k, Some v) ∷ [])) ≡ length (live es) + 1
  length-added [] k v = refl
  length-added ((q, None) ∷ es) k v = length-added es k v
  length-added ((q, Some x) ∷ es) k v = (let r : length (live (es ++ (k, Some v) ∷ [])) ≡ length (live es) + 1 = length-added es k v in omega arith)

  -- without the holes the values are the same
  pub live-filter : (es : List (K × Option V)) → live (filter (λ e. is_some e.1) es) ≡ live es
  live-filter [] = refl
  live-filter ((k, None) ∷ es) = live-filter es
  live-filter ((k, Some v) ∷ es) = ap (λ l. (k, v) ∷ l) (live-filter es)

  pub IsClosed-filter : (es : List (K × Option V)) → IsClosed (filter (λ e. is_some e.1) es)
  IsClosed-filter [] = refl
  IsClosed-filter ((k, None) ∷ es) = IsClosed-filter es
  IsClosed-filter ((k, Some v) ∷ es) = ap suc (IsClosed-filter es)

  module _ (test : K → Bool) where
    pub lookup-none : (es : List (K × Option V)) → lookup test es ≡ None → lookup test (live es) ≡ None
    lookup-none [] h = refl
    lookup-none ((k, o) ∷ es) h = by (test k) refl h (lookup-none es) o
      where
        by : (b : Bool) → test k ≡ b → cond b (Some o) (lookup test es) ≡ None → (lookup test es ≡ None → lookup test (live es) ≡ None) → (o : Option V)
            → lookup test (before k o (live es)) ≡ None
        by true e h rest o = absurd (none-some _ (sym h))
        by false e h rest None = rest h
        by false e h rest (Some v) = ap (λ b. cond b (Some v) (lookup test (live es))) e ∙ rest h

    -- where there is no hole, a key that no value has is none of a hole
    pub lookup-closed : (es : List (K × Option V)) → IsClosed es → lookup test (live es) ≡ None → lookup test es ≡ None
    lookup-closed [] closed h = refl
    lookup-closed ((k, None) ∷ es) closed h = absurd (let r : length (live es) ≤ length es = live-small es in omega arith)
    lookup-closed ((k, Some v) ∷ es) closed h = by (test k) h (lookup-closed es (omega arith))
      where
        by : (b : Bool) → cond b (Some v) (lookup test (live es)) ≡ None → (lookup test (live es) ≡ None → lookup test es ≡ None)
            → cond b (Some (Some v)) (lookup test es) ≡ None
        by true h rest = absurd (none-some v (sym h))
        by false h rest = rest h

    or_len-live : (es : List (K × Option V)) (v : V) → slice_get (values_of es) (position_or_len test (keys_of es)) ≡ Some (Some v)
        → position_or_len test (keys_of (live es)) ≡ filled es (position_or_len test (keys_of es))
    or_len-live [] v h = absurd (none-some (Some v) h)
    or_len-live ((k, None) ∷ es) v h = by (test k) (or_len-live es v) h
      where
        by : (b : Bool)
            → (slice_get (values_of es) (position_or_len test (keys_of es)) ≡ Some (Some v) → position_or_len test (keys_of (live es))
            ≡ filled es (position_or_len test (keys_of es)))
            → slice_get (None ∷ values_of es) (cond (not b) (1 + position_or_len test (keys_of es)) 0) ≡ Some (Some v)
            → position_or_len test (keys_of (live es)) ≡ filled ((k, None) ∷ es) (cond (not b) (1 + position_or_len test (keys_of es)) 0)
        by true rest h = absurd (none-some v (same_Some None (Some v) h))
        by false rest h =
            let e : suc (position_or_len test (keys_of es)) ≡ 1 + position_or_len test (keys_of es) = omega arith in
            rest (subst (λ m. slice_get (None ∷ values_of es) m ≡ Some (Some v)) (sym e) h) ∙ ap (filled ((k, None) ∷ es)) e
    or_len-live ((k, Some x) ∷ es) v h = by (test k) (or_len-live es v) h
      where
        by : (b : Bool)
            → (slice_get (values_of es) (position_or_len test (keys_of es)) ≡ Some (Some v) → position_or_len test (keys_of (live es))
            ≡ filled es (position_or_len test (keys_of es)))
            → slice_get (Some x ∷ values_of es) (cond (not b) (1 + position_or_len test (keys_of es)) 0) ≡ Some (Some v)
            → cond (not b) (1 + position_or_len test (keys_of (live es))) 0 ≡ filled ((k, Some x) ∷ es) (cond (not b) (1 + position_or_len test (keys_of es)) 0)
        by true rest h = refl
        by false rest h =
            let e : suc (position_or_len test (keys_of es)) ≡ 1 + position_or_len test (keys_of es) = omega arith in
            let d : 1 + position_or_len test (keys_of (live es)) ≡ suc (position_or_len test (keys_of (live es))) = omega arith in
            d ∙ ap suc (rest (subst (λ m. slice_get (Some x ∷ values_of es) m ≡ Some (Some v)) (sym e) h)) ∙ ap (filled ((k, Some x) ∷ es)) e

    -- the first value of the key has the place of its slot
    pub position-filled : (es : List (K × Option V)) (i : ℕ) → position test (keys_of es) ≡ Some i → IsFilled es i → (o : Option V)
        → slice_get (values_of es) i ≡ Some o
        → position test (keys_of (live es)) ≡ Some (filled es i)
    position-filled es i at f None h = absurd (no_hole es i f h)
    position-filled es i at f (Some v) h = by (position test (keys_of (live es))) refl
      where
        is : position_or_len test (keys_of es) ≡ i
        is = (Found-position test es i at).or_len

        first : position_or_len test (keys_of (live es)) ≡ filled es i
        first = or_len-live es v (ap (slice_get (values_of es)) is ∙ h) ∙ ap (filled es) is

        by : (r : Option ℕ) → position test (keys_of (live es)) ≡ r → r ≡ Some (filled es i)
        by (Some j) p = ap Some (sym (Found-position test (live es) j p).or_len ∙ first)
        by None p =
            let a : position_or_len test (keys_of (live es)) ≡ length (live es) = (Missing-position test (live es) p).or_len in
            let b : filled es i < length (live es) = filled-within es i f in
            let c : position_or_len test (keys_of (live es)) ≡ filled es i = first in
            absurd (omega arith)

    pub position-none : (es : List (K × Option V)) → lookup test (live es) ≡ None → position test (keys_of (live es)) ≡ None
    position-none es h = none_from_is_some _ (some_index test (live es) ∙ ap is_some h)

    -- the slot of a key, unless it is a hole, tells the place of its value
    pub found : (es : List (K × Option V)) (i : ℕ) → position test (keys_of es) ≡ Some i → (lookup test es ≡ Some None → lookup test (live es)
        ≡ None) → (r : Option ℕ)
        → IfSome r (λ s. (s ≡ i) × IsFilled es s) → (r ≡ None → filled es (i + 1) ≡ filled es i)
        → option_map (filled es) r ≡ position test (keys_of (live es))
    found es i at hole r is none = by (slice_get (values_of es) i) refl r is none
      where
        value : lookup test es ≡ slice_get (values_of es) i
        value = (Found-position test es i at).value

        by : (x : Option (Option V)) → slice_get (values_of es) i ≡ x → (r : Option ℕ) → IfSome r (λ s. (s ≡ i) × IsFilled es s)
            → (r ≡ None → filled es (i + 1) ≡ filled es i) → option_map (filled es) r ≡ position test (keys_of (live es))
        by None e r is none = absurd (true≢false (ap is_some (sym at) ∙ some_index test es ∙ ap is_some (value ∙ e)))
        by (Some o) e (Some s) (same, f) none = ap (λ q. Some (filled es q)) same ∙ sym (position-filled es i at (subst (IsFilled es) same f) o e)
        by (Some None) e None is none = sym (position-none es (hole (value ∙ e)))
        by (Some (Some v)) e None is none =
            let a : filled es (i + 1) ≡ suc (filled es i) = filled-step es i (Some v) e in
            let b : filled es (i + 1) ≡ filled es i = none refl in
            absurd (omega arith)

module _ {K V : Type 0} (eq : K → K → Bool) (exact : (a b : K) → eq a b ≡ true → a ≡ b) where
  absent : (k : K) (es : List (K × Option V)) → AllByRecursion (λ y. eq k y ≡ false) (keys_of es) → lookup (eq k) (live es) ≡ None
  absent k [] h = refl
  absent k ((q, None) ∷ es) h = absent k es h.1
  absent k ((q, Some v) ∷ es) h = ap (λ b. cond b (Some v) (lookup (eq k) (live es))) h.0 ∙ absent k es h.1

  -- the key of a hole is none of a value
  pub lookup-hole : (k : K) (es : List (K × Option V)) → IsDistinct eq (keys_of es) → lookup (eq k) es ≡ Some None → lookup (eq k) (live es) ≡ None
  lookup-hole k [] u h = absurd (none-some _ h)
  lookup-hole k ((q, None) ∷ es) u h = by (eq k q) refl h (lookup-hole k es (IsDistinct-tail eq q (keys_of es) u))
    where
      by : (b : Bool) → eq k q ≡ b → cond b (Some None) (lookup (eq k) es) ≡ Some None → (lookup (eq k) es ≡ Some None → lookup (eq k) (live es) ≡ None)
          → lookup (eq k) (live es) ≡ None
      by true e h rest = subst (λ z. lookup (eq z) (live es) ≡ None) (sym (exact k q e)) (absent q es (IsDistinct-head eq q (keys_of es) u))
      by false e h rest = rest h
  lookup-hole k ((q, Some v) ∷ es) u h = by (eq k q) h (lookup-hole k es (IsDistinct-tail eq q (keys_of es) u))
    where
      by : (b : Bool) → cond b (Some (Some v)) (lookup (eq k) es) ≡ Some None → (lookup (eq k) es ≡ Some None → lookup (eq k) (live es) ≡ None)
          → cond b (Some v) (lookup (eq k) (live es)) ≡ None
      by true h rest = absurd (none-some v (sym (same_Some (Some v) None h)))
      by false h rest = rest h

module _ {F K V : Type 0} (T : F → K → V → Bool → V → F → Type 0) where
  -- what is left of slots of which each value was asked
  pub retained-live : (f : F) (es kept : List (K × Option V)) → RetainsPairs (Asks T) f es kept → RetainsPairs T f (live es) (live kept)
  retained-live f [] kept r = ap live r
  retained-live f ((k, None) ∷ es) kept (b, o, t, rest, (gone, same), later, is) =
      let e : kept ≡ rest = is ∙ ap (λ b. cond b ((k, o) ∷ rest) rest) gone in
      subst (λ q. RetainsPairs T q (live es) (live kept)) same (subst (λ l. RetainsPairs T t (live es) (live l)) (sym e) (retained-live t es rest later))
  retained-live f ((k, Some v) ∷ es) kept (b, o, t, rest, (w, left, call), later, is) =
      (b, w, t, live rest, call, retained-live t es rest later, ap live (is ∙ ap (λ q. cond b ((k, q) ∷ rest) rest) left) ∙ by b)
    where
      by : (b : Bool) → live (cond b ((k, Some w) ∷ rest) rest) ≡ cond b ((k, w) ∷ live rest) (live rest)
      by true = refl
      by false = refl

  pub IsClosed-retained : (f : F) (es kept : List (K × Option V)) → RetainsPairs (Asks T) f es kept → IsClosed kept
  IsClosed-retained f [] kept r = subst IsClosed (sym r) refl
  IsClosed-retained f ((k, None) ∷ es) kept (b, o, t, rest, (gone, same), later, is) =
      subst IsClosed (sym (is ∙ ap (λ b. cond b ((k, o) ∷ rest) rest) gone)) (IsClosed-retained t es rest later)
  IsClosed-retained f ((k, Some v) ∷ es) kept (b, o, t, rest, (w, left, call), later, is) =
      subst IsClosed (sym (is ∙ ap (λ q. cond b ((k, q) ∷ rest) rest) left)) (by b (IsClosed-retained t es rest later))
    where
      by : (b : Bool) → IsClosed rest → IsClosed (cond b ((k, Some w) ∷ rest) rest)
      by true h = ap suc h
      by false h = h

-- one where a slot stands before another
abbrev past : ℕ → ℕ → ℕ
past s zero = 0
past zero (suc n) = 1
past (suc s) (suc n) = past s n

past-no : (s n : ℕ) → n ≤ s → past s n ≡ 0
past-no s zero h = refl
past-no zero (suc n) h = absurd (omega arith)
past-no (suc s) (suc n) h = past-no s n (omega arith)

past-yes : (s n : ℕ) → s < n → past s n ≡ 1
past-yes s zero h = absurd (omega arith)
past-yes zero (suc n) h = refl
past-yes (suc s) (suc n) h = past-yes s n (omega arith)

-- one where a block is this one
abbrev hit : ℕ → ℕ → ℕ
hit zero zero = 1
hit zero (suc c) = 0
hit (suc b) zero = 0
hit (suc b) (suc c) = hit b c

hit-less : (b c : ℕ) → b < c → hit b c ≡ 0
hit-less zero zero h = absurd (omega arith)
hit-less zero (suc c) h = refl
hit-less (suc b) zero h = refl
hit-less (suc b) (suc c) h = hit-less b c (omega arith)

hit-more : (b c : ℕ) → c < b → hit b c ≡ 0
hit-more zero zero h = absurd (omega arith)
hit-more zero (suc c) h = refl
hit-more (suc b) zero h = refl
hit-more (suc b) (suc c) h = hit-more b c (omega arith)

hit-same : (b c : ℕ) → b ≤ c → c ≤ b → hit b c ≡ 1
hit-same zero zero h k = refl
hit-same zero (suc c) h k = absurd (omega arith)
hit-same (suc b) zero h k = absurd (omega arith)
hit-same (suc b) (suc c) h k = hit-same b c (omega arith) (omega arith)

-- a slot stands in its own block alone
hit-past : (s b : ℕ) → past s (b * 128 + 128) ≡ past s (b * 128) + hit b (s / 128)
hit-past s b =
    elim (cases_lt s (b * 128)) [
      | inl before ↦
          let p : past s (b * 128 + 128) ≡ 1 = past-yes s (b * 128 + 128) (omega arith) in
          let q : past s (b * 128) ≡ 1 = past-yes s (b * 128) before in
          let h : hit b (s / 128) ≡ 0 = hit-more b (s / 128) (omega arith) in
          omega arith
      | inr from ↦
          let q : past s (b * 128) ≡ 0 = past-no s (b * 128) from in
          elim (cases_lt s (b * 128 + 128)) [
            | inl within ↦
                let p : past s (b * 128 + 128) ≡ 1 = past-yes s (b * 128 + 128) within in
                let h : hit b (s / 128) ≡ 1 = hit-same b (s / 128) (omega arith) (omega arith) in
                omega arith
            | inr behind ↦
                let p : past s (b * 128 + 128) ≡ 0 = past-no s (b * 128 + 128) behind in
                let h : hit b (s / 128) ≡ 0 = hit-less b (s / 128) (omega arith) in
                omega arith
          ]
    ]

raised-at : (blocks : List ℕ) (c b n : ℕ) → slice_get blocks b ≡ Some n → slice_get (raised blocks c) b ≡ Some (n + hit b c)
raised-at [] c b n h = absurd (none-some n h)
raised-at (x ∷ xs) zero zero n h = (let e : x ≡ n = same_Some x n h in ap Some (omega arith))
raised-at (x ∷ xs) zero (suc b) n h = h ∙ ap Some (omega arith)
raised-at (x ∷ xs) (suc c) zero n h = h ∙ ap Some (omega arith)
raised-at (x ∷ xs) (suc c) (suc b) n h = raised-at xs c b n h

length-raised : (blocks : List ℕ) (c : ℕ) → length (raised blocks c) ≡ length blocks
length-raised [] c = refl
length-raised (x ∷ xs) zero = refl
length-raised (x ∷ xs) (suc c) = ap suc (length-raised xs c)

-- a count that is lowered was raised
pub raised-set : (xs : List ℕ) (b n : ℕ) → b < length xs → n ≡ get_or xs b n → 0 < n → xs ≡ raised (set xs b (n - 1)) b
raised-set [] b n h is some = absurd (omega arith)
raised-set (x ∷ xs) zero n h is some = (let e : x ≡ suc (n - 1) = omega arith in ap (λ y. y ∷ xs) e)
raised-set (x ∷ xs) (suc b) n h is some = ap (λ l. x ∷ l) (raised-set xs b n (omega arith) is some)

pub raised-none : (xs : List ℕ) (b : ℕ) → length xs ≤ b → xs ≡ raised xs b
raised-none [] b h = refl
raised-none (x ∷ xs) zero h = absurd (omega arith)
raised-none (x ∷ xs) (suc b) h = ap (λ l. x ∷ l) (raised-none xs b (omega arith))

last_of : (xs : List ℕ) (n b m : ℕ) → slice_get (xs ++ n ∷ []) b ≡ Some m → (slice_get xs b ≡ Some m) ⊎ ((b ≡ length xs) × (n ≡ m))
last_of [] n zero m h = inr (refl, same_Some n m h)
last_of [] n (suc b) m h = absurd (none-some m h)
last_of (x ∷ xs) n zero m h = inl h
last_of (x ∷ xs) n (suc b) m h = elim (last_of xs n b m h) [ inl there ↦ inl there | inr last ↦ inr (ap suc last.0, last.1) ]

module _ {K V : Type 0} where
  filled-append : (es xs : List (K × Option V)) (n : ℕ) → n ≤ length es → filled (es ++ xs) n ≡ filled es n
  filled-append es xs zero h = refl
  filled-append [] xs (suc n) h = absurd (omega arith)
  filled-append (e ∷ es) xs (suc n) h = ap (counted e.1) (filled-append es xs n (omega arith))

  filled-set : (es : List (K × Option V)) (slot : ℕ) (v w : V) (n : ℕ) → slice_get (values_of es) slot ≡ Some (Some v)
      → filled (set_value_at es slot (Some w)) n ≡ filled es n
  filled-set es slot v w zero h = refl
  filled-set [] slot v w (suc n) h = refl
  filled-set ((k, None) ∷ es) zero v w (suc n) h = absurd (none-some v (same_Some None (Some v) h))
  filled-set ((k, Some x) ∷ es) zero v w (suc n) h = refl
  filled-set (e ∷ es) (suc i) v w (suc n) h = ap (counted e.1) (filled-set es i v w n h)

  filled-cleared : (es : List (K × Option V)) (slot : ℕ) (v : V) (n : ℕ) → slice_get (values_of es) slot ≡ Some (Some v)
      → filled es n ≡ filled (set_value_at es slot None) n + past slot n
  filled-cleared es slot v zero h = omega arith
  filled-cleared [] slot v (suc n) h = absurd (none-some (Some v) h)
  filled-cleared ((k, None) ∷ es) zero v (suc n) h = absurd (none-some v (same_Some None (Some v) h))
  filled-cleared ((k, Some x) ∷ es) zero v (suc n) h = omega arith
  filled-cleared ((k, None) ∷ es) (suc i) v (suc n) h = filled-cleared es i v n h
  filled-cleared ((k, Some x) ∷ es) (suc i) v (suc n) h =
      let r : filled es n ≡ filled (set_value_at es i None) n + past i n = filled-cleared es i v n h in
      omega arith

  length_set : (es : List (K × Option V)) (slot : ℕ) (o : Option V) → length (set_value_at es slot o) ≡ length es
  length_set [] slot o = refl
  length_set (e ∷ es) zero o = refl
  length_set (e ∷ es) (suc i) o = ap suc (length_set es i o)

  filled-mono : (es : List (K × Option V)) (m n : ℕ) → m ≤ n → filled es m ≤ filled es n
  filled-mono es zero n h = omega arith
  filled-mono es (suc m) zero h = absurd (omega arith)
  filled-mono [] (suc m) (suc n) h = omega arith
  filled-mono ((k, None) ∷ es) (suc m) (suc n) h = filled-mono es m n (omega arith)
  filled-mono ((k, Some v) ∷ es) (suc m) (suc n) h = (let r : filled es m ≤ filled es n = filled-mono es m n (omega arith) in omega arith)

  pub IsCounted-none : (es : List (K × Option V)) → IsCounted [] es
  IsCounted-none es = record { within = omega arith; counts = λ b n h. absurd (none-some n h) }

  -- a slot more is in no whole block
  pub IsCounted-added : (blocks : List ℕ) (es : List (K × Option V)) (x : K × Option V) → IsCounted blocks es → IsCounted blocks (es ++ x ∷ [])
  IsCounted-added blocks es x c = record {
    within = (let e : length (es ++ x ∷ []) ≡ length es + 1 = length-append es (x ∷ []) in let w : length blocks * 128 ≤ length es = c.within in omega arith);
    counts = λ b n h.
        let i : b < length blocks = slice_get_within blocks b n h in
        let w : length blocks * 128 ≤ length es = c.within in
        filled-append es (x ∷ []) (b * 128 + 128) (omega arith) ∙ c.counts b n h
        ∙ ap (λ m. m + n) (sym (filled-append es (x ∷ []) (b * 128) (omega arith)));
  }

  pub IsCounted-set : (blocks : List ℕ) (es : List (K × Option V)) (slot : ℕ) (v w : V) → slice_get (values_of es) slot ≡ Some (Some v)
      → IsCounted blocks es → IsCounted blocks (set_value_at es slot (Some w))
  IsCounted-set blocks es slot v w at c = record {
    within = subst (λ n. length blocks * 128 ≤ n) (sym (length_set es slot (Some w))) c.within;
    counts = λ b n h. filled-set es slot v w (b * 128 + 128) at ∙ c.counts b n h ∙ ap (λ m. m + n) (sym (filled-set es slot v w (b * 128) at));
  }

  -- a hole more is one less in its block
  pub IsCounted-cleared : (blocks : List ℕ) (es : List (K × Option V)) (slot : ℕ) (v : V) → slice_get (values_of es) slot ≡ Some (Some v)
      → IsCounted (raised blocks (slot / 128)) es → IsCounted blocks (set_value_at es slot None)
  IsCounted-cleared blocks es slot v at c = record {
    within =
        (let a : length (raised blocks (slot / 128)) ≡ length blocks = length-raised blocks (slot / 128) in
        let l : length (set_value_at es slot None) ≡ length es = length_set es slot None in
        let w : length (raised blocks (slot / 128)) * 128 ≤ length es = c.within in
        let z : length blocks * 128 ≤ length es = subst (λ n. n * 128 ≤ length es) a w in
        omega arith);
    counts = λ b n h.
        let r : filled es (b * 128 + 128) ≡ filled es (b * 128) + (n + hit b (slot / 128)) = c.counts b _ (raised-at blocks (slot / 128) b n h) in
        let p : filled es (b * 128 + 128) ≡ filled (set_value_at es slot None) (b * 128 + 128) + past slot (b * 128 + 128) =
        filled-cleared es slot v (b * 128 + 128) at in
        let q : filled es (b * 128) ≡ filled (set_value_at es slot None) (b * 128) + past slot (b * 128) = filled-cleared es slot v (b * 128) at in
        let s : past slot (b * 128 + 128) ≡ past slot (b * 128) + hit b (slot / 128) = hit-past slot b in
        omega arith;
  }

  -- one more whole block is counted
  pub IsCounted-covered : (blocks : List ℕ) (es : List (K × Option V)) (n : ℕ) → IsCounted blocks es → length blocks * 128 + 128 ≤ length es
      → filled es (length blocks * 128 + 128) ≡ filled es (length blocks * 128) + n → IsCounted (blocks ++ n ∷ []) es
  IsCounted-covered blocks es n c within is = record {
    within = (let e : length (blocks ++ n ∷ []) ≡ length blocks + 1 = length-append blocks (n ∷ []) in
        subst (λ l. l * 128 ≤ length es) (sym e) (omega arith));
    counts = λ b m h. elim (last_of blocks n b m h) [
      | inl there ↦ c.counts b m there
      | inr last ↦ ap (λ i. filled es (i * 128 + 128)) last.0 ∙ is ∙ ap (λ i. filled es (i * 128) + n) (sym last.0) ∙ ap (λ q. filled es (b * 128) + q) last.1
    ];
  }

  -- a counted block leads to the next
  pub count-step : (blocks : List ℕ) (es : List (K × Option V)) (b n : ℕ) → IsCounted blocks es → b < length blocks → n ≡ get_or blocks b n
      → filled es ((b + 1) * 128) ≡ filled es (b * 128) + n
  count-step blocks es b n c h is =
      let e : (b + 1) * 128 ≡ b * 128 + 128 = omega arith in
      ap (filled es) e ∙ c.counts b n (slice_get_read blocks (length blocks) b n refl h is)

  -- the block of a value counts it
  pub count-filled : (blocks : List ℕ) (es : List (K × Option V)) (slot n : ℕ) → IsCounted blocks es → IsFilled es slot
      → slice_get blocks (slot / 128) ≡ Some n → 0 < n
  count-filled blocks es slot n c f h =
      let a : filled es (slot / 128 * 128 + 128) ≡ filled es (slot / 128 * 128) + n = c.counts (slot / 128) n h in
      let b : filled es (slot / 128 * 128) ≤ filled es slot = filled-mono es (slot / 128 * 128) slot (omega arith) in
      let d : filled es (slot + 1) ≤ filled es (slot / 128 * 128 + 128) = filled-mono es (slot + 1) (slot / 128 * 128 + 128) (omega arith) in
      let e : filled es (slot + 1) ≡ filled es slot + 1 = f.here in
      omega arith
