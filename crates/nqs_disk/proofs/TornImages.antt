-- Each tear gives an image.
use Rattle.std.proofs.Common.{◌≡◌, ℕ, ◌+◌, ◌<◌, ◌≤◌, ◌%◌, ◌==◌, nat_le, Bool, true, false, List, length, get_or, take, refl, ap, ◌∙◌, arith}
use Rattle.std.specs.Prelude.{if◌then◌else◌}
use Rattle.std.proofs.lemmas.List.{length-take, get_or-take}
use Rattle.std.proofs.lemmas.Bool.Decides.{nat_tests}
use Rattle.std.proofs.lemmas.Bool.{or_from}
use Rattle.nqs_outside.specs.History.{State, fresh, covers, IsImage}
use Rattle.nqs_outside.proofs.Coherence.{IsCoherent, fresh_coherent}
use Rattle.nqs_outside.proofs.Images.{fresh_image}
use Rattle.nqs_base.specs.declared.tear.Tear.{Tear}
use Rattle.nqs_base.specs.declared.tear.Tear.TheVariants.{Old, New, Mixed}
use Rattle.nqs_disk.specs.Torn.{is_free, mixed_from, mixed, torn}
use Rattle.nqs_disk.proofs.Mixes.{length-mixed_from, kept_byte}

-- either length
chosen_between : (b : Bool) (short long : ℕ) → short ≤ long → (short ≤ (if b then long else short)) × ((if b then long else short) ≤ long)
chosen_between true short long le = (le, omega arith)
chosen_between false short long le = (omega arith, le)

below_end : (n i : ℕ) → i < n → nat_le n i ≡ false
below_end n i lt = grind (arith, nat_tests)

mixed_image : (n : ℕ) (s : State) → IsCoherent s → IsImage s (mixed n s)
mixed_image n s coherent =
    let m = if n % 2 == 1 then length s.content else length s.synced in
    let whole = mixed_from (is_free s) n s.synced 0 0 s.content in
    let between = chosen_between (n % 2 == 1) (length s.synced) (length s.content) coherent.longer in
    let size : length (take m whole) ≡ m = omega (arith, length-take m whole, length-mixed_from (is_free s) n s.synced s.content 0 0, between.1) in
    record {
      no_shorter = omega (arith, size, between.0);
      no_longer = omega (arith, size, between.1);
      same = λ i lt free.
          get_or-take m whole i 0 (omega (arith, lt, between.0))
          ∙ kept_byte (is_free s) n s.synced s.content 0 0 i (omega (arith, lt, coherent.longer))
          (or_from (covers s.ranges (0 + i)) (nat_le (length s.synced) (0 + i)) (ap (covers s.ranges) (let e : 0 + i ≡ i = omega arith in e) ∙ free)
          (below_end (length s.synced) (0 + i) (omega (arith, lt))))
          ∙ ap (λ (k : ℕ). get_or s.synced k 0) (let e : 0 + i ≡ i = omega arith in e);
    }

pub torn_is_image : (tear : Tear) (s : State) → IsCoherent s → IsImage s (torn tear s)
torn_is_image Old s coherent = record { no_shorter = omega arith; no_longer = coherent.longer; same = λ i lt free. refl }
torn_is_image New s coherent = record { no_shorter = coherent.longer; no_longer = omega arith; same = coherent.same }
torn_is_image (Mixed n) s coherent = mixed_image n s coherent

-- where nothing is pending, each tear leaves the bytes as they are
pub rested : (tear : Tear) (bytes : List ℕ) → torn tear (fresh bytes) ≡ bytes
rested tear bytes = fresh_image bytes (torn tear (fresh bytes)) (torn_is_image tear (fresh bytes) (fresh_coherent bytes))
