-- Rows and their seats, as one row goes or changes.
use Rattle.std.proofs.Common.{◌≡◌, Bool, true, false, List, [], ◌∷◌, map, find, Option, None, Some, option_map, refl, sym, ap, subst, ◌∙◌, if◌then◌else◌}
use Rattle.std.specs.Prelude.{cond}
use Rattle.std.specs.Option.{IfSome}
use Rattle.std.proofs.lemmas.Option.{same_Some, none-some}
use Rattle.nqs_base.proofs.Plain.{found_passes}
use Rattle.nqs_base_tables.specs.Table.{change_first, without_first}
use Rattle.nqs_types.specs.Ids.{id_eq}
use Rattle.nqs_types.specs.declared.ids.RequestId.{RequestId}
use Rattle.nqs_types.specs.declared.request.Row.{Row}
use Rattle.nqs_index.specs.declared.seat.Seat.{Seat}
use Rattle.nqs_index.specs.Seats.{seat_of}
use Rattle.nqs_index.specs.Indexed.{IsMore}
use Rattle.nqs_index.proofs.SeatLemmas.{seat_gone, seat_changed}
use Rattle.nqs_state.specs.Keys.{is_row}

module _ {V : Type 0} (test : V → Bool) where
  -- what takes the place of the one that is found is found
  found_new : (w : V) → test w ≡ true → (vs : List V) (v : V) → find test vs ≡ Some v → find test (change_first test (λ _. w) vs) ≡ Some w
  found_new w passes [] v h = absurd (none-some v h)
  found_new w passes (x ∷ vs) v h = by (test x) refl h (found_new w passes vs v)
    where
      by : (b : Bool) → test x ≡ b → cond b (Some x) (find test vs) ≡ Some v → (find test vs ≡ Some v → find test (change_first test (λ _. w) vs) ≡ Some w)
          → find test (if b then w ∷ vs else x ∷ change_first test (λ _. w) vs) ≡ Some w
      by true e h rest = ap (λ b. cond b (Some w) (find test vs)) passes
      by false e h rest = ap (λ b. cond b (Some x) (find test (change_first test (λ _. w) vs))) e ∙ rest h

module _ {E : Type 0} where
  -- where there is no seat, there is no row
  pub no_row : (o : Option (Row E)) → None ≡ option_map seat_of o → o ≡ None
  no_row None h = refl
  no_row (Some r) h = absurd (none-some (seat_of r) h)

  -- a row goes
  pub gone : (test : Row E → Bool) (rows : List (Row E)) (t : Seat) → Some t ≡ option_map seat_of (find test rows)
      → IsMore t (map seat_of (without_first test rows)) (map seat_of rows)
  gone test rows t h = by (find test rows) refl h
    where
      by : (o : Option (Row E)) → find test rows ≡ o → Some t ≡ option_map seat_of o → IsMore t (map seat_of (without_first test rows)) (map seat_of rows)
      by None f h = absurd (none-some t (sym h))
      by (Some r) f h =
          subst (λ t. IsMore t (map seat_of (without_first test rows)) (map seat_of rows)) (sym (same_Some t (seat_of r) h)) (seat_gone test rows r f)

  -- a row changes, and not its id
  module _ (id : RequestId) (rows new : List (Row E)) (Ran : Row E → Row E → Type 0) (keeps : (v w : Row E) → Ran v w → w.id ≡ v.id)
      (made : IfSome (find (is_row id) rows) (λ v. (w : Row E) × Ran v w × (new ≡ change_first (is_row id) (λ _. w) rows)))
      (t : Seat) (before : Some t ≡ option_map seat_of (find (is_row id) rows)) where
    pub became : (w : Row E) × (find (is_row id) new ≡ Some w) × (IsMore (seat_of w) (map seat_of (without_first (is_row id) rows)) (map seat_of new))
    became = by (find (is_row id) rows) refl made before
      where
        by : (o : Option (Row E)) → find (is_row id) rows ≡ o → IfSome o (λ v. (w : Row E) × Ran v w × (new ≡ change_first (is_row id) (λ _. w) rows))
            → Some t ≡ option_map seat_of o
            → (w : Row E) × (find (is_row id) new ≡ Some w) × (IsMore (seat_of w) (map seat_of (without_first (is_row id) rows)) (map seat_of new))
        by None f m h = absurd (none-some t (sym h))
        by (Some r) f (w, ran, is) h =
            let passes : is_row id w ≡ true = ap (id_eq id) (keeps r w ran) ∙ found_passes (is_row id) rows r f in (
              w,
              ap (find (is_row id)) is ∙ found_new (is_row id) w passes rows r f,
              subst (λ l. IsMore (seat_of w) (map seat_of (without_first (is_row id) rows)) (map seat_of l)) (sym is)
                  (seat_changed (is_row id) (λ _. w) rows r f),
            )

    -- it is still there
    pub still_there : None ≡ option_map seat_of (find (is_row id) new) → ⊥
    still_there h = none-some (seat_of became.0) (h ∙ ap (option_map seat_of) became.1)

    -- its seat comes in the place of the one before
    pub changed : (u : Seat) → Some u ≡ option_map seat_of (find (is_row id) new) → IsMore u (map seat_of (without_first (is_row id) rows)) (map seat_of new)
    changed u h =
        let same : u ≡ seat_of became.0 = same_Some u (seat_of became.0) (h ∙ ap (option_map seat_of) became.1) in
        subst (λ u. IsMore u (map seat_of (without_first (is_row id) rows)) (map seat_of new)) (sym same) became.2
