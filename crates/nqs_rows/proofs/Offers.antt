-- A host that has no room beside some of its promises has none beside all.
use Rattle.std.proofs.Common.{◌≡◌, ℕ, ◌+◌, false, not, length, arith, refl}
use Rattle.std.proofs.lemmas.Bool.{leb-false, lt-leb}
use Rattle.std.proofs.lemmas.List.Filters.{length-filter_both}
use Rattle.nqs_types.specs.declared.ids.HostId.{HostId}
use Rattle.nqs_state.specs.State.{State}
use Rattle.nqs_rules.specs.Applied.{is_outlived, promises_from}
use Rattle.nqs_rules.specs.Fits.{offer_full}
use Rattle.nqs_rules.specs.Rows.{is_host_full}

-- where all promises leave room, those that an offer doesn't end leave room too
module _ {E : Type 0} (peer : HostId) (low : ℕ) (s : State E) where
  pub offer_finds_room : is_host_full s ≡ false → offer_full peer low s ≡ false
  offer_finds_room room =
      let all = length-filter_both (λ p. not (is_outlived peer low p)) (λ p. not (not (is_outlived peer low p))) (λ p. refl) s.promises in
      lt-leb 10000 (length s.rows + length (promises_from peer low s.promises))
      (omega (arith, all, leb-false 10000 (length s.rows + length s.promises) room))
