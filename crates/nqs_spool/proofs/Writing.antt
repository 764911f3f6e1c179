-- What the images of a disk hold while bytes are written through.
use Rattle.std.proofs.Common.{◌≡◌, inl, inr, ℕ, zero, suc, ◌+◌, ◌<◌, ◌≤◌, max, true, false, List, [], ◌∷◌, ◌++◌, length, take, drop, refl, sym, ap, ◌∙◌, subst}
use Rattle.std.proofs.Common.{arith, append_assoc, length-append}
use Rattle.std.proofs.lemmas.List.{length-take, take_at, drop_at}
use Rattle.std.proofs.Math.Seq.{take-length}
use Rattle.nqs_base.specs.declared.extent.Extent.{Extent}
use Rattle.nqs_outside.specs.History.{State, Call, write, step, after, fresh, written, made, covers, IsImage, History, extended, state, content, moment}
use Rattle.nqs_outside.specs.History.{state_at, IsQuiet, EachSince, BreaksOff}
use Rattle.nqs_outside.proofs.Histories.{state-extended, length-written, content-after}
use Rattle.nqs_outside.proofs.Images.{fresh_image, uncovered_below, uncovered_above}
use Rattle.nqs_outside.proofs.Coherence.{after_coherent, fresh_coherent, sound_push}
use Rattle.nqs_outside.proofs.Planned.{moments}
use Rattle.nqs_spool.specs.Puts.{written_through}
use Rattle.nqs_spool.specs.Extents.{extent_at, past, IsApart, Holds}
use Rattle.nqs_spool.proofs.Rows.{lt_cases}
use Rattle.nqs_spool.proofs.Reading.{same_slice}

module _ (h : History) (place : ℕ) (bytes : List ℕ) (quiet : IsQuiet h) (within : place ≤ length (content h)) where
  abbrev old : List ℕ
  old = content h

  abbrev new : List ℕ
  new = written old place bytes

  abbrev writing : State
  writing = step (fresh old) (write place bytes true)

  longer : length old ≤ length new
  longer = omega (arith, length-written old bytes place within)

  -- what is written may be there whole
  written_image : IsImage writing new
  written_image =
      let so_far = after_coherent (fresh old) (write place bytes true ∷ []) (fresh_coherent old) (sound_push old [] place bytes true refl within) in
      record { no_shorter = so_far.longer; no_longer = omega arith; same = so_far.same }

  outside : (x : Extent) (i : ℕ) → IsApart x (extent_at place (length bytes)) → x.place ≤ i → i < past x → covers ((place, length bytes) ∷ []) i ≡ false
  outside x i apart from to = elim (lt_cases i place) [
    | inl before ↦ uncovered_below place (length bytes) i before.1
    | inr behind ↦ elim (lt_cases i (place + length bytes)) [
      | inl inside ↦ absurd (omega (arith, apart, from, to, behind.1, inside.1))
      | inr past_it ↦ uncovered_above place (length bytes) i past_it.1
    ]
  ]

  module _ (x : Extent) (script : List ℕ) (apart : IsApart x (extent_at place (length bytes))) (held : Holds old x script) where
    held_while_writing : (image : List ℕ) → IsImage writing image → Holds image x script
    held_while_writing image is = record {
      within = omega (arith, held.within, is.no_shorter);
      same =
          same_slice image old x.place x.length (omega (arith, held.within, is.no_shorter)) held.within
          (λ i from to. is.same i (omega (arith, to, held.within)) (outside x i apart from to))
          ∙ held.same;
    }

    held_at : (i : ℕ) → i ≤ 2 → (image : List ℕ) → IsImage (after (fresh old) (take i (written_through place bytes))) image → Holds image x script
    held_at zero le image is = subst (λ l. Holds l x script) (sym (fresh_image old image is)) held
    held_at (suc zero) le image is = held_while_writing image is
    held_at (suc (suc zero)) le image is = subst (λ l. Holds l x script) (sym (fresh_image new image is)) (held_while_writing new written_image)
    held_at (suc (suc (suc i))) le image is = absurd (omega (arith, le))

    pub held_throughout : (k : History) (calls : List Call) → k ≡ extended h calls → BreaksOff (written_through place bytes) calls
        → EachSince (moment h) k (λ image. Holds image x script)
    held_throughout k calls is off = λ t image from to leaves.
        let r = moments h k (written_through place bytes) calls is off t from to in
        held_at r.i r.within image (subst (λ s. IsImage s image) (r.is ∙ ap (λ s. after s (take r.i (written_through place bytes))) quiet) leaves)

    held_read : (i : ℕ) → i ≤ 2 → Holds (after (fresh old) (take i (written_through place bytes))).content x script
    held_read zero le = held
    held_read (suc zero) le = held_while_writing new written_image
    held_read (suc (suc zero)) le = held_while_writing new written_image
    held_read (suc (suc (suc i))) le = absurd (omega (arith, le))

    -- what a read gives after it
    pub held_after : (k : History) (calls : List Call) → k ≡ extended h calls → BreaksOff (written_through place bytes) calls → Holds (content k) x script
    held_after k calls is off =
        let size : moment h ≤ moment k = omega (arith, ap moment is, length-append h.calls calls) in
        let r = moments h k (written_through place bytes) calls is off (moment k) size (omega arith) in
        let now : state k ≡ after (fresh old) (take r.i (written_through place bytes)) =
        sym (ap (after (fresh k.start)) (take-length k.calls)) ∙ r.is ∙ ap (λ s. after s (take r.i (written_through place bytes))) quiet in
        subst (λ (s : State). Holds s.content x script) (sym now) (held_read r.i r.within)

  -- once it is done
  module _ (k : History) (is : k ≡ extended h (written_through place bytes)) where
    now : state k ≡ fresh new
    now = ap state is ∙ state-extended h (written_through place bytes) ∙ ap (λ s. after s (written_through place bytes)) quiet

    pub quiet_after : IsQuiet k
    quiet_after = now ∙ sym (ap (λ (s : State). fresh s.content) now)

-- the disk doesn't shrink
module _ (h : History) (place : ℕ) (bytes : List ℕ) (within : place ≤ length (content h)) where
  no_shorter_at : (i : ℕ) → i ≤ 2 → length (content h) ≤ length (made (content h) (take i (written_through place bytes)))
  no_shorter_at zero le = omega arith
  no_shorter_at (suc zero) le = omega (arith, length-written (content h) bytes place within)
  no_shorter_at (suc (suc zero)) le = omega (arith, length-written (content h) bytes place within)
  no_shorter_at (suc (suc (suc i))) le = absurd (omega (arith, le))

  pub no_shorter : (k : History) (calls : List Call) → k ≡ extended h calls → BreaksOff (written_through place bytes) calls
      → length (content h) ≤ length (content k)
  no_shorter k calls is off =
      let size : moment h ≤ moment k = omega (arith, ap moment is, length-append h.calls calls) in
      let r = moments h k (written_through place bytes) calls is off (moment k) size (omega arith) in
      let now : content k ≡ made (content h) (take r.i (written_through place bytes)) =
      sym (ap (λ l. (after (fresh k.start) l).content) (take-length k.calls)) ∙ ap (λ (s : State). s.content) r.is
      ∙ content-after (state h) (take r.i (written_through place bytes)) in
      subst (λ l. length (content h) ≤ length l) (sym now) (no_shorter_at r.i r.within)

  pub length_after : (k : History) → k ≡ extended h (written_through place bytes) → length (content k) ≡ max (length (content h)) (place + length bytes)
  length_after k is =
      ap (λ (s : State). length s.content) (ap state is ∙ state-extended h (written_through place bytes))
      ∙ ap length (content-after (state h) (written_through place bytes)) ∙ length-written (content h) bytes place within

  pub stored : (k : History) → k ≡ extended h (written_through place bytes) → Holds (content k) (extent_at place (length bytes)) bytes
  stored k is =
      let front = take place (content h) in
      let rest = drop (place + length bytes) (content h) in
      let size : length front ≡ place = omega (arith, length-take place (content h), within) in
      let now : content k ≡ written (content h) place bytes = ap (λ (s : State). s.content) (ap state is ∙ state-extended h (written_through place bytes))
      ∙ content-after (state h) (written_through place bytes) in
      record {
        within = omega (arith, length_after k is);
        same =
            ap (λ l. take (length bytes) (drop place l)) (now ∙ append_assoc front bytes rest)
            ∙ ap (take (length bytes)) (drop_at front (bytes ++ rest) place size)
            ∙ take_at bytes rest (length bytes) refl;
      }

-- where nothing was done
pub held_idle : (h k : History) (x : Extent) (script : List ℕ) → IsQuiet h → k ≡ h → Holds (content h) x script
    → EachSince (moment h) k (λ image. Holds image x script)
held_idle h k x script quiet is held = λ t image from to leaves.
    let now : t ≡ moment h = omega (arith, from, to, ap moment is) in
    let at : state_at k t ≡ fresh (content h) = ap (λ l. state_at l t) is ∙ ap (state_at h) now ∙ ap (after (fresh h.start)) (take-length h.calls) ∙ quiet in
    subst (λ l. Holds l x script) (sym (fresh_image (content h) image (subst (λ s. IsImage s image) at leaves))) held
