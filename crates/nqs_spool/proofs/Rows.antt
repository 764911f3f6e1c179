-- Rows that are put together from two sides and a slot between them.
use Rattle.std.proofs.Common.{◌≡◌, ◌≢◌, ◌⊎◌, inl, inr, ℕ, ◌+◌, ◌<◌, ◌≤◌, max, nat_le, nat_lt, eqb, Bool, true, false, List, [], ◌∷◌, ◌++◌, Some, None, refl}
use Rattle.std.proofs.Common.{sym, ap, ◌∙◌, arith, subst, length, length-append}
use Rattle.std.proofs.lemmas.Bool.Decides.{nat_tests}
use Rattle.std.specs.Prelude.{if◌then◌else◌}
use Rattle.nqs_spool.specs.declared.slot.Slot.{Slot}
use Rattle.nqs_spool.specs.Slots.{gap_of, end_of, widest_of, IsRow, IsSomeRow, set_from, slot_at, ended, first_fit, is_free, inserted, begun_at, removed}
use Rattle.nqs_spool.specs.Slots.{begun_if_empty, left_by}

pub widest-append : (left : List Slot) (slot : Slot) (right : List Slot) → widest_of (left ++ slot ∷ right)
    ≡ max (max (widest_of left) (gap_of slot)) (widest_of right)
widest-append [] slot right = omega arith
widest-append (other ∷ left) slot right = omega (arith, widest-append left slot right)

-- a test, with what it says
pub le_cases : (m n : ℕ) → ((nat_le m n ≡ true) × (m ≤ n)) ⊎ ((nat_le m n ≡ false) × (n < m))
le_cases m n = by (nat_le m n) refl
  where
    by : (b : Bool) → nat_le m n ≡ b → ((nat_le m n ≡ true) × (m ≤ n)) ⊎ ((nat_le m n ≡ false) × (n < m))
    by true is = inl (is, grind (arith, nat_tests))
    by false is = inr (is, grind (arith, nat_tests))

pub lt_cases : (m n : ℕ) → ((nat_lt m n ≡ true) × (m < n)) ⊎ ((nat_lt m n ≡ false) × (n ≤ m))
lt_cases m n = by (nat_lt m n) refl
  where
    by : (b : Bool) → nat_lt m n ≡ b → ((nat_lt m n ≡ true) × (m < n)) ⊎ ((nat_lt m n ≡ false) × (n ≤ m))
    by true is = inl (is, grind (arith, nat_tests))
    by false is = inr (is, grind (arith, nat_tests))

pub eq_cases : (m n : ℕ) → ((eqb m n ≡ true) × (m ≡ n)) ⊎ ((eqb m n ≡ false) × (m ≢ n))
eq_cases m n = by (eqb m n) refl
  where
    by : (b : Bool) → eqb m n ≡ b → ((eqb m n ≡ true) × (m ≡ n)) ⊎ ((eqb m n ≡ false) × (m ≢ n))
    by true is = inl (is, grind (arith, nat_tests))
    by false is = inr (is, grind (arith, nat_tests))

pub then_of : {A : Type 0} {b : Bool} (x y : A) → b ≡ true → (if b then x else y) ≡ x
then_of {A} {b} x y is = ap (λ c. if c then x else y) is

pub else_of : {A : Type 0} {b : Bool} (x y : A) → b ≡ false → (if b then x else y) ≡ y
else_of {A} {b} x y is = ap (λ c. if c then x else y) is

-- the first fit

pub fit-left : (count end : ℕ) (left : List Slot) (slot : Slot) (right : List Slot) → 0 < count → count ≤ widest_of left
    → first_fit count end (left ++ slot ∷ right) ≡ first_fit count end left
fit-left count end [] slot right some fits = absurd (omega (arith, some, fits))
fit-left count end (other ∷ left) slot right some fits = elim (le_cases count (gap_of other)) [
  | inl hit ↦ then_of _ _ hit.0 ∙ sym (then_of _ _ hit.0)
  | inr miss ↦ else_of _ _ miss.0 ∙ fit-left count end left slot right some (omega (arith, fits, miss.1)) ∙ sym (else_of _ _ miss.0)
]

pub fit-right : (count end : ℕ) (left rest : List Slot) → widest_of left < count → first_fit count end (left ++ rest) ≡ first_fit count end rest
fit-right count end [] rest narrow = refl
fit-right count end (other ∷ left) rest narrow = elim (le_cases count (gap_of other)) [
  | inl hit ↦ absurd (omega (arith, narrow, hit.1))
  | inr miss ↦ else_of _ _ miss.0 ∙ fit-right count end left rest (omega (arith, narrow))
]

pub fit-here : (count end : ℕ) (slot : Slot) (right : List Slot) → count ≤ gap_of slot → first_fit count end (slot ∷ right) ≡ slot.from
fit-here count end slot right fits = elim (le_cases count (gap_of slot)) [ inl hit ↦ then_of _ _ hit.0 | inr miss ↦ absurd (omega (arith, fits, miss.1)) ]

pub fit-later : (count end : ℕ) (slot : Slot) (right : List Slot) → gap_of slot < count → first_fit count end (slot ∷ right) ≡ first_fit count end right
fit-later count end slot right narrow = fit-right count end (slot ∷ []) right (omega (arith, narrow))

-- the parts of a row

pub row_rises : (from end : ℕ) (slots : List Slot) → IsRow from slots end → from ≤ end
row_rises from end [] row = omega (arith, row)
row_rises from end (slot ∷ slots) row = omega (arith, row.1, row_rises (end_of slot) end slots row.3)

pub row_parts : (from end : ℕ) (left : List Slot) (slot : Slot) (right : List Slot) → IsRow from (left ++ slot ∷ right) end
    → IsRow from left slot.from × (slot.from ≤ slot.place) × (0 < slot.length) × IsRow (end_of slot) right end
row_parts from end [] slot right row = (sym row.0, omega (arith, row.0, row.1), row.2, row.3)
row_parts from end (other ∷ left) slot right row =
    let rest = row_parts (end_of other) end left slot right row.3 in
    ((row.0, row.1, row.2, rest.0), rest.1, rest.2, rest.3)

-- one extent more

pub inserted-left : (place count end : ℕ) (left : List Slot) (slot : Slot) (right : List Slot) → place < slot.place
    → inserted place count end (left ++ slot ∷ right) ≡ inserted place count slot.from left ++ set_from (ended place count left) slot ∷ right
inserted-left place count end [] slot right before = elim (lt_cases place slot.place) [
  | inl hit ↦ then_of _ _ hit.0
  | inr miss ↦ absurd
      (omega (arith, before, miss.1))
]
inserted-left place count end (other ∷ left) slot right before = elim (lt_cases place other.place) [
  | inl hit ↦ then_of _ _ hit.0 ∙ sym (ap (λ b. (if b then slot_at other.from place count ∷ set_from (Some (place + count)) other ∷ left else
      other ∷ inserted place count slot.from left) ++ set_from (if b then None else ended place count left) slot ∷ right) hit.0)
  | inr miss ↦ else_of _ _ miss.0 ∙ ap (λ l. other ∷ l) (inserted-left place count end left slot right before)
      ∙ sym (ap (λ b. (if b then slot_at other.from place count ∷ set_from (Some (place + count)) other ∷ left else other ∷ inserted place count slot.from left)
      ++ set_from (if b then None else ended place count left) slot ∷ right) miss.0)
]

pub ended-left : (place count : ℕ) (left : List Slot) (slot : Slot) (right : List Slot) → place < slot.place → ended place count (left ++ slot ∷ right) ≡ None
ended-left place count [] slot right before = elim (lt_cases place slot.place) [
  | inl hit ↦ then_of _ _ hit.0
  | inr miss ↦ absurd
      (omega (arith, before, miss.1))
]
ended-left place count (other ∷ left) slot right before = elim (lt_cases place other.place) [
  | inl hit ↦ then_of _ _ hit.0
  | inr miss ↦ else_of _ _ miss.0
      ∙ ended-left place count left slot right before
]

pub inserted-right : (place count end from to : ℕ) (left rest : List Slot) → IsRow from left to → to ≤ place
    → inserted place count end (left ++ rest) ≡ left ++ inserted place count end rest
inserted-right place count end from to [] rest row le = refl
inserted-right place count end from to (other ∷ left) rest row le = elim (lt_cases place other.place) [
  | inl hit ↦ absurd (omega (arith, hit.1, le, row.2, row_rises (end_of other) to left row.3))
  | inr miss ↦ else_of _ _ miss.0 ∙ ap (λ l. other ∷ l) (inserted-right place count end (end_of other) to left rest row.3 le)
]

pub ended-right : (place count from to : ℕ) (left rest : List Slot) → IsRow from left to → to ≤ place
    → ended place count (left ++ rest) ≡ ended place count rest
ended-right place count from to [] rest row le = refl
ended-right place count from to (other ∷ left) rest row le = elim (lt_cases place other.place) [
  | inl hit ↦ absurd (omega (arith, hit.1, le, row.2, row_rises (end_of other) to left row.3))
  | inr miss ↦ else_of _ _ miss.0 ∙ ended-right place count (end_of other) to left rest row.3 le
]

-- bytes that are free

pub free-left : (place past end limit : ℕ) (left : List Slot) (slot : Slot) (right : List Slot) → place < slot.place
    → is_free place past end limit (left ++ slot ∷ right) ≡ is_free place past slot.from slot.place left
free-left place past end limit [] slot right before = elim (lt_cases place slot.place) [
  | inl hit ↦ then_of _ _ hit.0
  | inr miss ↦ absurd
      (omega (arith, before, miss.1))
]
free-left place past end limit (other ∷ left) slot right before = elim (lt_cases place other.place) [
  | inl hit ↦ then_of _ _ hit.0 ∙ sym (then_of _ _ hit.0)
  | inr miss ↦ else_of _ _ miss.0 ∙ free-left place past end limit left slot right before ∙ sym (else_of _ _ miss.0)
]

pub free-right : (place past end limit from to : ℕ) (left rest : List Slot) → IsRow from left to → to ≤ place
    → is_free place past end limit (left ++ rest) ≡ is_free place past end limit rest
free-right place past end limit from to [] rest row le = refl
free-right place past end limit from to (other ∷ left) rest row le = elim (lt_cases place other.place) [
  | inl hit ↦ absurd (omega (arith, hit.1, le, row.2, row_rises (end_of other) to left row.3))
  | inr miss ↦ else_of _ _ miss.0 ∙ free-right place past end limit (end_of other) to left rest row.3 le
]

-- one extent less

removed-none : (place from end : ℕ) (slots : List Slot) → IsRow from slots end → place < from → removed place slots ≡ slots
removed-none place from end [] row lt = refl
removed-none place from end (slot ∷ slots) row lt = elim (eq_cases slot.place place) [
  | inl hit ↦ absurd (omega (arith, hit.1, lt, row.1))
  | inr miss ↦ else_of _ _ miss.0 ∙ ap (λ l. slot ∷ l) (removed-none place (end_of slot) end slots row.3 (omega (arith, lt, row.1)))
]

left_by-none : (place from end : ℕ) (slots : List Slot) → IsRow from slots end → place < from → left_by place slots ≡ None
left_by-none place from end [] row lt = refl
left_by-none place from end (slot ∷ slots) row lt = elim (eq_cases slot.place place) [
  | inl hit ↦ absurd (omega (arith, hit.1, lt, row.1))
  | inr miss ↦ else_of _ _ miss.0 ∙ left_by-none place (end_of slot) end slots row.3 (omega (arith, lt, row.1))
]

begun-left : (from : ℕ) (left : List Slot) (slot : Slot) (right : List Slot)
    → begun_at from (left ++ slot ∷ right) ≡ begun_at from left ++ set_from (begun_if_empty from left) slot ∷ right
begun-left from [] slot right = refl
begun-left from (other ∷ left) slot right = refl

pub removed-left : (place from end : ℕ) (left : List Slot) (slot : Slot) (right : List Slot) → IsRow from (left ++ slot ∷ right) end → place < slot.place
    → removed place (left ++ slot ∷ right) ≡ removed place left ++ set_from (left_by place left) slot ∷ right
removed-left place from end [] slot right row before = elim (eq_cases slot.place place) [
  | inl hit ↦ absurd (omega (arith, hit.1, before))
  | inr miss ↦ else_of _ _ miss.0 ∙ ap (λ l. slot ∷ l) (removed-none place (end_of slot) end right row.3 (omega (arith, before)))
]
removed-left place from end (other ∷ left) slot right row before = elim (eq_cases other.place place) [
  | inl hit ↦ then_of _ _ hit.0 ∙ begun-left other.from left slot right
      ∙ sym (ap (λ b. (if b then begun_at other.from left else other ∷ removed place left)
      ++ set_from (if b then begun_if_empty other.from left else left_by place left) slot ∷ right) hit.0)
  | inr miss ↦ else_of _ _ miss.0 ∙ ap (λ l. other ∷ l) (removed-left place (end_of other) end left slot right row.3 before)
      ∙ sym (ap (λ b. (if b then begun_at other.from left else other ∷ removed place left)
      ++ set_from (if b then begun_if_empty other.from left else left_by place left) slot ∷ right) miss.0)
]

begun_if_empty-left : (from : ℕ) (left : List Slot) (slot : Slot) (right : List Slot) → begun_if_empty from (left ++ slot ∷ right) ≡ None
begun_if_empty-left from [] slot right = refl
begun_if_empty-left from (other ∷ left) slot right = refl

pub left_by-left : (place from end : ℕ) (left : List Slot) (slot : Slot) (right : List Slot) → IsRow from (left ++ slot ∷ right) end → place < slot.place
    → left_by place (left ++ slot ∷ right) ≡ None
left_by-left place from end [] slot right row before = elim (eq_cases slot.place place) [
  | inl hit ↦ absurd (omega (arith, hit.1, before))
  | inr miss ↦ else_of _ _ miss.0 ∙ left_by-none place (end_of slot) end right row.3 (omega (arith, before))
]
left_by-left place from end (other ∷ left) slot right row before = elim (eq_cases other.place place) [
  | inl hit ↦ then_of _ _ hit.0 ∙ begun_if_empty-left other.from left slot right
  | inr miss ↦ else_of _ _ miss.0 ∙ left_by-left place (end_of other) end left slot right row.3 before
]

pub removed-right : (place from to : ℕ) (left rest : List Slot) → IsRow from left to → to ≤ place → removed place (left ++ rest) ≡ left ++ removed place rest
removed-right place from to [] rest row le = refl
removed-right place from to (other ∷ left) rest row le = elim (eq_cases other.place place) [
  | inl hit ↦ absurd (omega (arith, hit.1, le, row.2, row_rises (end_of other) to left row.3))
  | inr miss ↦ else_of _ _ miss.0 ∙ ap (λ l. other ∷ l) (removed-right place (end_of other) to left rest row.3 le)
]

pub left_by-right : (place from to : ℕ) (left rest : List Slot) → IsRow from left to → to ≤ place → left_by place (left ++ rest) ≡ left_by place rest
left_by-right place from to [] rest row le = refl
left_by-right place from to (other ∷ left) rest row le = elim (eq_cases other.place place) [
  | inl hit ↦ absurd (omega (arith, hit.1, le, row.2, row_rises (end_of other) to left row.3))
  | inr miss ↦ else_of _ _ miss.0 ∙ left_by-right place (end_of other) to left rest row.3 le
]

-- the sides of a node, whose slots are d

pub shorter : (left : List Slot) (slot : Slot) (right d : List Slot) → left ++ slot ∷ right ≡ d → (length left < length d) × (length right < length d)
shorter left slot right d is = let size = sym (ap length is) ∙ length-append left (slot ∷ right) in (omega (arith, size), omega (arith, size))

module _ (left : List Slot) (slot : Slot) (right d : List Slot) (is : left ++ slot ∷ right ≡ d) (row : IsSomeRow d) where
  parts : IsRow row.0 left slot.from × (slot.from ≤ slot.place) × (0 < slot.length) × IsRow (end_of slot) right row.1.0
  parts = row_parts row.0 row.1.0 left slot right (subst (λ l. IsRow row.0 l row.1.0) (sym is) row.1.1)

  pub left_row : IsSomeRow left
  left_row = (row.0, (slot.from, parts.0))

  pub right_row : IsSomeRow right
  right_row = (end_of slot, (row.1.0, parts.3))

  pub inserted-behind : (place count end : ℕ) → slot.place ≤ place → inserted place count end d ≡ left ++ slot ∷ inserted place count end right
  inserted-behind place count end behind =
      sym (ap (inserted place count end) is) ∙ inserted-right place count end row.0 slot.from left (slot ∷ right) parts.0 (omega (arith, parts.1, behind))
      ∙ elim (lt_cases place slot.place) [
        | inl hit ↦ absurd (omega (arith, hit.1, behind))
        | inr miss ↦ ap
            (λ b. left ++ (if b then slot_at slot.from place count ∷ set_from (Some (place + count)) slot ∷ right else slot ∷ inserted place count end right))
            miss.0
      ]

  pub ended-before : (place count : ℕ) → place < slot.place → ended place count d ≡ None
  ended-before place count before = sym (ap (ended place count) is) ∙ ended-left place count left slot right before

  pub ended-behind : (place count : ℕ) → slot.place ≤ place → ended place count d ≡ ended place count right
  ended-behind place count behind =
      sym (ap (ended place count) is) ∙ ended-right place count row.0 slot.from left (slot ∷ right) parts.0 (omega (arith, parts.1, behind))
      ∙ elim (lt_cases place slot.place) [ inl hit ↦ absurd (omega (arith, hit.1, behind)) | inr miss ↦ else_of _ _ miss.0 ]

  pub free-before : (place past end limit : ℕ) → place < slot.place → is_free place past end limit d ≡ is_free place past slot.from slot.place left
  free-before place past end limit before = sym (ap (is_free place past end limit) is) ∙ free-left place past end limit left slot right before

  pub free-behind : (place past end limit : ℕ) → slot.place ≤ place → is_free place past end limit d ≡ is_free place past end limit right
  free-behind place past end limit behind =
      sym (ap (is_free place past end limit) is) ∙ free-right place past end limit row.0 slot.from left (slot ∷ right) parts.0 (omega (arith, parts.1, behind))
      ∙ elim (lt_cases place slot.place) [ inl hit ↦ absurd (omega (arith, hit.1, behind)) | inr miss ↦ else_of _ _ miss.0 ]

  pub removed-before : (place : ℕ) → place < slot.place → removed place d ≡ removed place left ++ set_from (left_by place left) slot ∷ right
  removed-before place before = sym (ap (removed place) is) ∙ removed-left place row.0 row.1.0 left slot right
      (subst (λ l. IsRow row.0 l row.1.0) (sym is) row.1.1) before

  pub left_by-before : (place : ℕ) → place < slot.place → left_by place d ≡ None
  left_by-before place before = sym (ap (left_by place) is) ∙ left_by-left place row.0 row.1.0 left slot right
      (subst (λ l. IsRow row.0 l row.1.0) (sym is) row.1.1) before

  pub removed-behind : (place : ℕ) → slot.place < place → removed place d ≡ left ++ slot ∷ removed place right
  removed-behind place behind =
      sym (ap (removed place) is) ∙ removed-right place row.0 slot.from left (slot ∷ right) parts.0 (omega (arith, parts.1, behind))
      ∙ elim (eq_cases slot.place place) [
        | inl hit ↦ absurd (omega (arith, hit.1, behind))
        | inr miss ↦ ap
            (λ b. left ++ (if b then begun_at slot.from right else slot ∷ removed place right)) miss.0
      ]

  pub left_by-behind : (place : ℕ) → slot.place < place → left_by place d ≡ left_by place right
  left_by-behind place behind =
      sym (ap (left_by place) is) ∙ left_by-right place row.0 slot.from left (slot ∷ right) parts.0 (omega (arith, parts.1, behind))
      ∙ elim (eq_cases slot.place place) [ inl hit ↦ absurd (omega (arith, hit.1, behind)) | inr miss ↦ else_of _ _ miss.0 ]

  pub removed-here : (place : ℕ) → slot.place ≡ place → removed place d ≡ left ++ begun_at slot.from right
  removed-here place here =
      sym (ap (removed place) is) ∙ removed-right place row.0 slot.from left (slot ∷ right) parts.0 (omega (arith, parts.1, here))
      ∙ elim (eq_cases slot.place place) [
        | inl hit ↦ ap (λ b. left ++ (if b then begun_at slot.from right else slot ∷ removed place right)) hit.0
        | inr miss
            ↦ absurd (miss.1 here)
      ]

  pub left_by-here : (place : ℕ) → slot.place ≡ place → left_by place d ≡ begun_if_empty slot.from right
  left_by-here place here =
      sym (ap (left_by place) is) ∙ left_by-right place row.0 slot.from left (slot ∷ right) parts.0 (omega (arith, parts.1, here))
      ∙ elim (eq_cases slot.place place) [ inl hit ↦ then_of _ _ hit.0 | inr miss ↦ absurd (miss.1 here) ]
