-- One step of a scan from the end to the front.
use Rattle.std.proofs.Common.{◌≡◌, ℕ, ◌+◌, ◌-◌, ◌<◌, Bool, true, false, List, drop, Option, None, Some, slice_get, refl, sym, ap, ◌∙◌, arith}
use Rattle.std.proofs.Common.{if◌then◌else◌}
use Rattle.nqs_base_tables.specs.Table.{better, is_beaten, with_value, best_from}
use Rattle.nqs_base_tables.proofs.TableLemmas.{drop-at}

module _ {V : Type 0} (test : V → Bool) (beats : V → V → Bool) where
  better-beaten : (x : ℕ × V) (best : Option (ℕ × V)) → is_beaten beats x.1 best ≡ true → better beats x best ≡ best
  better-beaten x None is = absurd (let wrong : ⊥ = cc in wrong)
  better-beaten x (Some y) is = ap (λ (b : Bool). if b then Some y else Some x) is

  better-unbeaten : (x : ℕ × V) (best : Option (ℕ × V)) → is_beaten beats x.1 best ≡ false → better beats x best ≡ Some x
  better-unbeaten x None isnt = refl
  better-unbeaten x (Some y) isnt = ap (λ (b : Bool). if b then Some y else Some x) isnt

  pub beaten : (x : ℕ × V) (best : Option (ℕ × V)) → is_beaten beats x.1 best ≡ true → best ≡ with_value test beats x best
  beaten x best is = sym (by (test x.1))
    where
      by : (b : Bool) → (if b then better beats x best else best) ≡ best
      by true = better-beaten x best is
      by false = refl

  pub taken : (x : ℕ × V) (best : Option (ℕ × V)) → is_beaten beats x.1 best ≡ false → test x.1 ≡ true → Some x ≡ with_value test beats x best
  taken x best isnt passes = sym (ap (λ (b : Bool). if b then better beats x best else best) passes ∙ better-unbeaten x best isnt)

  pub passed_over : (x : ℕ × V) (best : Option (ℕ × V)) → test x.1 ≡ false → best ≡ with_value test beats x best
  passed_over x best fails = sym (ap (λ (b : Bool). if b then better beats x best else best) fails)

  -- one step from the end to the front
  pub scanned : (vs : List V) (place : ℕ) (v : V) → 0 < place → slice_get vs (place - 1) ≡ Some v
      → (best : Option (ℕ × V)) → best ≡ best_from test beats place (drop place vs)
      → with_value test beats (place - 1, v) best ≡ best_from test beats (place - 1) (drop (place - 1) vs)
  scanned vs place v some at best is =
      let e : (place - 1) + 1 ≡ place = omega arith in
      ap (with_value test beats (place - 1, v)) is
      ∙ sym (ap (best_from test beats (place - 1)) (drop-at vs (place - 1) v at)
      ∙ ap (λ n. with_value test beats (place - 1, v) (best_from test beats n (drop n vs))) e)
