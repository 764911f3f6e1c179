-- The extents of a row of slots.
use Rattle.std.proofs.Common.{◌≡◌, inl, inr, ℕ, ◌+◌, ◌<◌, ◌≤◌, max, nat_le, true, false, List, [], ◌∷◌, Some, None, refl, sym, ap, ◌∙◌, arith, subst}
use Rattle.std.proofs.lemmas.Bool.{true≢false}
use Rattle.std.proofs.lemmas.Bool.Decides.{nat_tests}
use Rattle.std.specs.Prelude.{IsTrue}
use Rattle.std.specs.Option.{unwrap_or}
use Rattle.nqs_base.specs.declared.extent.Extent.{Extent}
use Rattle.nqs_spool.specs.declared.slot.Slot.{Slot}
use Rattle.nqs_spool.specs.Slots.{gap_of, end_of, IsRow, set_from, slot_at, ended, first_fit, lies_between, is_free, inserted, begun_at, removed}
use Rattle.nqs_spool.specs.Slots.{begun_if_empty, left_by}
use Rattle.nqs_spool.specs.Extents.{extent_at, past, IsApart, IsClearOf, AreApart, IsLeastPlace, Has, IsWith, extent_of, extents_of}
use Rattle.nqs_spool.specs.declared.live.LiveExtents.{LiveExtents}
use Rattle.nqs_spool.specs.Live.{kept}
use Rattle.nqs_spool.proofs.Rows.{le_cases, lt_cases, eq_cases, then_of, else_of, row_rises}
use Rattle.nqs_spool.proofs.Lists.{has_all}

-- each extent of a row lies between its ends
pub row_from : (from end : ℕ) (slots : List Slot) → IsRow from slots end → (x : Extent) → Has (extents_of slots) x → from ≤ x.place
row_from from end [] row x has = absurd has
row_from from end (slot ∷ slots) row x (inl is) = subst (λ (y : Extent). from ≤ y.place) (sym is) row.1
row_from from end (slot ∷ slots) row x (inr has) = omega (arith, row.1, row_from (end_of slot) end slots row.3 x has)

pub row_to : (from end : ℕ) (slots : List Slot) → IsRow from slots end → (x : Extent) → Has (extents_of slots) x → past x ≤ end
row_to from end [] row x has = absurd has
row_to from end (slot ∷ slots) row x (inl is) = subst (λ (y : Extent). past y ≤ end) (sym is) (row_rises (end_of slot) end slots row.3)
row_to from end (slot ∷ slots) row x (inr has) = row_to (end_of slot) end slots row.3 x has

pub row_some : (from end : ℕ) (slots : List Slot) → IsRow from slots end → (x : Extent) → Has (extents_of slots) x → 0 < x.length
row_some from end [] row x has = absurd has
row_some from end (slot ∷ slots) row x (inl is) = subst (λ (y : Extent). 0 < y.length) (sym is) row.2
row_some from end (slot ∷ slots) row x (inr has) = row_some (end_of slot) end slots row.3 x has

pub row_apart : (from end : ℕ) (slots : List Slot) → IsRow from slots end → AreApart (extents_of slots)
row_apart from end [] row = tt
row_apart from end (slot ∷ slots) row = (
  has_all (IsApart (extent_of slot)) (extents_of slots) (λ x has. omega (arith, row_from (end_of slot) end slots row.3 x has)),
  row_apart (end_of slot) end slots row.3,
)

-- the first fit

pub fit_from : (count from end : ℕ) (slots : List Slot) → IsRow from slots end → from ≤ first_fit count end slots
fit_from count from end [] row = omega (arith, row)
fit_from count from end (slot ∷ slots) row = elim (le_cases count (gap_of slot)) [
  | inl hit ↦ rw (then_of slot.from (first_fit count end slots) hit.0) (omega (arith, row.0))
  | inr miss ↦ rw (else_of slot.from (first_fit count end slots) miss.0) (omega (arith, row.1, fit_from count (end_of slot) end slots row.3))
]

pub fit_to : (count from end : ℕ) (slots : List Slot) → IsRow from slots end → first_fit count end slots ≤ end
fit_to count from end [] row = omega arith
fit_to count from end (slot ∷ slots) row = elim (le_cases count (gap_of slot)) [
  | inl hit ↦ rw (then_of slot.from (first_fit count end slots) hit.0) (omega (arith, row.0, row.1, row_rises (end_of slot) end slots row.3))
  | inr miss ↦ rw (else_of slot.from (first_fit count end slots) miss.0) (fit_to count (end_of slot) end slots row.3)
]

fit_clear : (count from end : ℕ) (slots : List Slot) → IsRow from slots end → 0 < count
    → IsClearOf (extents_of slots) (extent_at (first_fit count end slots) count)
fit_clear count from end [] row some = tt
fit_clear count from end (slot ∷ slots) row some = elim (le_cases count (gap_of slot)) [
  | inl hit ↦ subst (λ place. IsClearOf (extents_of (slot ∷ slots)) (extent_at place count)) (sym (then_of slot.from (first_fit count end slots) hit.0)) (
    omega (arith, row.0, row.1, hit.1, some),
    has_all (IsApart (extent_at slot.from count)) (extents_of slots) (λ x has. omega
        (arith, row.0, row.1, hit.1, some, row_from (end_of slot) end slots row.3 x has)),
  )
  | inr miss ↦ subst (λ place. IsClearOf (extents_of (slot ∷ slots)) (extent_at place count)) (sym (else_of slot.from (first_fit count end slots) miss.0))
      (omega (arith, fit_from count (end_of slot) end slots row.3), fit_clear count (end_of slot) end slots row.3 some)
]

fit_least : (count from end : ℕ) (slots : List Slot) → IsRow from slots end → 0 < count → (other : ℕ) → from ≤ other
    → IsClearOf (extents_of slots) (extent_at other count) → first_fit count end slots ≤ other
fit_least count from end [] row some other le clear = omega (arith, row, le)
fit_least count from end (slot ∷ slots) row some other le clear = elim (le_cases count (gap_of slot)) [
  | inl hit ↦ rw (then_of slot.from (first_fit count end slots) hit.0) (omega (arith, row.0, le))
  | inr miss ↦ rw (else_of slot.from (first_fit count end slots) miss.0) (fit_least count (end_of slot) end slots row.3 some other
      (omega (arith, row.0, row.1, row.2, some, miss.1, le, clear.0)) clear.1)
]

pub fit_is_least : (count end : ℕ) (slots : List Slot) → IsRow 0 slots end → 0 < count → IsLeastPlace (extents_of slots) count (first_fit count end slots)
fit_is_least count end slots row some = record {
  clear = fit_clear count 0 end slots row some;
  least = λ other clear. fit_least count 0 end slots row some other (omega arith) clear;
}

-- bytes that are free

between_parts : (place past from to : ℕ) → IsTrue (lies_between place past from to) → (from ≤ place) × (past ≤ to)
between_parts place past from to lies = elim (le_cases from place) [
  | inl hit ↦ (hit.1, let within : nat_le past to ≡ true = sym (then_of (nat_le past to) false hit.0) ∙ lies in grind (arith, nat_tests))
  | inr miss ↦ absurd (true≢false (sym lies ∙ else_of (nat_le past to) false miss.0))
]

between_from : (place past from to : ℕ) → from ≤ place → past ≤ to → IsTrue (lies_between place past from to)
between_from place past from to low high = elim (le_cases from place) [
  | inl hit ↦ then_of (nat_le past to) false hit.0 ∙ (let within : nat_le past to ≡ true = grind (arith, nat_tests) in within)
  | inr miss ↦ absurd (omega (arith, low, miss.1))
]

free_from : (place past limit from end : ℕ) (slots : List Slot) → IsRow from slots end → IsTrue (is_free place past end limit slots) → from ≤ place
free_from place past limit from end [] row free = omega (arith, row, (between_parts place past end limit free).0)
free_from place past limit from end (slot ∷ slots) row free = elim (lt_cases place slot.place) [
  | inl hit ↦ omega (arith, row.0, (between_parts place past slot.from slot.place (sym (then_of _ _ hit.0) ∙ free)).0)
  | inr miss ↦ omega (arith, row.1, miss.1)
]

pub free_clear : (place count limit from end : ℕ) (slots : List Slot) → IsRow from slots end → 0 < count
    → IsTrue (is_free place (place + count) end limit slots)
    → IsClearOf (extents_of slots) (extent_at place count)
free_clear place count limit from end [] row some free = tt
free_clear place count limit from end (slot ∷ slots) row some free = elim (lt_cases place slot.place) [
  | inl hit ↦ let high = (between_parts place (place + count) slot.from slot.place (sym (then_of _ _ hit.0) ∙ free)).1 in (
    omega (arith, high, some),
    has_all (IsApart (extent_at place count)) (extents_of slots) (λ x has. omega (arith, high, some, row_from (end_of slot) end slots row.3 x has)),
  )
  | inr miss ↦ let later = sym (else_of _ _ miss.0) ∙ free in (
    omega (arith, some, free_from place (place + count) limit (end_of slot) end slots row.3 later),
    free_clear place count limit
        (end_of slot) end slots row.3 some later,
  )
]

pub clear_free : (place count from end : ℕ) (slots : List Slot) → IsRow from slots end → from ≤ place → 0 < count
    → IsClearOf (extents_of slots) (extent_at place count)
    → IsTrue (is_free place (place + count) end (place + count) slots)
clear_free place count from end [] row low some clear = between_from place (place + count) end (place + count) (omega (arith, row, low)) (omega arith)
clear_free place count from end (slot ∷ slots) row low some clear = elim (lt_cases place slot.place) [
  | inl hit ↦ then_of _ _ hit.0 ∙ between_from place (place + count) slot.from slot.place (omega (arith, row.0, low))
      (omega (arith, hit.1, row.2, some, clear.0))
  | inr miss ↦ else_of _ _ miss.0 ∙ clear_free place count (end_of slot) end slots row.3 (omega (arith, miss.1, row.2, some, clear.0)) some clear.1
]

-- one extent more

pub inserted_row : (place count from end : ℕ) (slots : List Slot) → IsRow from slots end → from ≤ place → 0 < count
    → IsClearOf (extents_of slots) (extent_at place count)
    → IsRow from (inserted place count end slots) (unwrap_or (ended place count slots) end)
inserted_row place count from end [] row le some clear = (sym row, le, some, refl)
inserted_row place count from end (slot ∷ slots) row le some clear = elim (lt_cases place slot.place) [
  | inl hit ↦ rw (
    then_of (slot_at slot.from place count ∷ set_from (Some (place + count)) slot ∷ slots)
        (slot ∷ inserted place count end slots) hit.0,
    then_of None (ended place count slots) hit.0,
  )
      (row.0, le, some, (refl, omega (arith, hit.1, row.2, some, clear.0), row.2, row.3))
  | inr miss ↦ rw (
    else_of (slot_at slot.from place count ∷ set_from (Some (place + count)) slot ∷ slots)
        (slot ∷ inserted place count end slots) miss.0,
    else_of None (ended place count slots) miss.0,
  )
      (row.0, row.1, row.2, inserted_row place count (end_of slot) end slots row.3 (omega (arith, miss.1, row.2, some, clear.0)) some clear.1)
]

pub inserted_more : (place count end : ℕ) (slots : List Slot) → IsWith (extents_of slots) (extent_at place count) (extents_of (inserted place count end slots))
inserted_more place count end [] = record { front = []; back = []; without = refl; within = refl }
inserted_more place count end (slot ∷ slots) = elim (lt_cases place slot.place) [
  | inl hit ↦ rw (then_of (slot_at slot.from place count ∷ set_from (Some (place + count)) slot ∷ slots) (slot ∷ inserted place count end slots) hit.0)
      record { front = []; back = extents_of (slot ∷ slots); without = refl; within = refl }
  | inr miss ↦ rw (else_of (slot_at slot.from place count ∷ set_from (Some (place + count)) slot ∷ slots) (slot ∷ inserted place count end slots) miss.0)
      (let rest = inserted_more place count end slots in
      record {
        front = extent_of slot ∷ rest.front;
        back = rest.back;
        without = ap (λ l. extent_of slot ∷ l) rest.without;
        within =
            ap (λ l. extent_of slot ∷ l) rest.within;
      })
]

pub ended_to : (place count end : ℕ) (slots : List Slot) → unwrap_or (ended place count slots) end ≤ max end (place + count)
ended_to place count end [] = omega arith
ended_to place count end (slot ∷ slots) = elim (lt_cases place slot.place) [
  | inl hit ↦ rw (then_of None (ended place count slots) hit.0) (omega arith)
  | inr miss ↦ rw (else_of None (ended place count slots) miss.0) (ended_to place count end slots)
]

-- one extent less

begun_row : (from end : ℕ) (slot : Slot) (slots : List Slot) → IsRow from (slot ∷ slots) end
    → IsRow from (begun_at slot.from slots) (unwrap_or (begun_if_empty slot.from slots) end)
begun_row from end slot [] row = sym row.0
begun_row from end slot (next ∷ slots) row = (row.0, omega (arith, row.1, row.3.1), row.3.2, row.3.3)

pub removed_row : (place from end : ℕ) (slots : List Slot) → IsRow from slots end → IsRow from (removed place slots) (unwrap_or (left_by place slots) end)
removed_row place from end [] row = row
removed_row place from end (slot ∷ slots) row = elim (eq_cases slot.place place) [
  | inl hit ↦ rw (then_of (begun_at slot.from slots) (slot ∷ removed place slots) hit.0, then_of (begun_if_empty slot.from slots) (left_by place slots) hit.0)
      (begun_row from end slot slots row)
  | inr miss ↦ rw (
    else_of (begun_at slot.from slots) (slot ∷ removed place slots) miss.0,
    else_of (begun_if_empty slot.from slots)
        (left_by place slots) miss.0,
  )
      (row.0, row.1, row.2, removed_row place (end_of slot) end slots row.3)
]

begun_to : (from end : ℕ) (slots : List Slot) → from ≤ end → unwrap_or (begun_if_empty from slots) end ≤ end
begun_to from end [] le = le
begun_to from end (slot ∷ slots) le = omega arith

pub left_to : (place from end : ℕ) (slots : List Slot) → IsRow from slots end → unwrap_or (left_by place slots) end ≤ end
left_to place from end [] row = omega arith
left_to place from end (slot ∷ slots) row = elim (eq_cases slot.place place) [
  | inl hit ↦ rw (then_of (begun_if_empty slot.from slots) (left_by place slots) hit.0)
      (begun_to slot.from end slots (omega (arith, row.0, row_rises from end (slot ∷ slots) row)))
  | inr miss ↦ rw (else_of (begun_if_empty slot.from slots) (left_by place slots) miss.0) (left_to place (end_of slot) end slots row.3)
]

begun_extents : (from : ℕ) (slots : List Slot) → extents_of (begun_at from slots) ≡ extents_of slots
begun_extents from [] = refl
begun_extents from (slot ∷ slots) = refl

pub removed_less : (from end : ℕ) (slots : List Slot) → IsRow from slots end → (x : Extent) → Has (extents_of slots) x
    → IsWith (extents_of (removed x.place slots)) x (extents_of slots)
removed_less from end [] row x has = absurd has
removed_less from end (slot ∷ slots) row x (inl is) = elim (eq_cases slot.place x.place) [
  | inl hit ↦ rw (then_of (begun_at slot.from slots) (slot ∷ removed x.place slots) hit.0)
      record { front = []; back = extents_of slots; without = begun_extents slot.from slots; within = ap (λ y. y ∷ extents_of slots) (sym is) }
  | inr miss ↦ absurd (miss.1 (sym (ap (λ (y : Extent). y.place) is)))
]
removed_less from end (slot ∷ slots) row x (inr has) = elim (eq_cases slot.place x.place) [
  | inl hit ↦ absurd (omega (arith, hit.1, row.2, row_from (end_of slot) end slots row.3 x has))
  | inr miss ↦ rw (else_of (begun_at slot.from slots) (slot ∷ removed x.place slots) miss.0)
      (let rest = removed_less (end_of slot) end slots row.3 x has in
      record {
        front = extent_of slot ∷ rest.front;
        back = rest.back;
        without = ap (λ l. extent_of slot ∷ l) rest.without;
        within =
            ap (λ l. extent_of slot ∷ l) rest.within;
      })
]

-- of a set

pub kept_some : (live : LiveExtents) (x : Extent) → Has (kept live) x → 0 < x.length
kept_some live x has = row_some 0 live.end live.tree live.row x has

pub kept_apart : (live : LiveExtents) → AreApart (kept live)
kept_apart live = row_apart 0 live.end live.tree live.row

pub kept_to : (live : LiveExtents) (x : Extent) → Has (kept live) x → past x ≤ live.end
kept_to live x has = row_to 0 live.end live.tree live.row x has
