-- What a put leaves of a spool.
use Rattle.std.proofs.Common.{◌≡◌, ◌==◌, Bool, false, ℕ, ◌<◌, ◌≤◌, IsTrue, List, [], ◌∷◌, length, refl, sym, ap, ◌∙◌, subst, arith}
use Rattle.nqs_base.specs.declared.extent.Extent.{Extent}
use Rattle.nqs_base.proofs.Plain.{all_weaker}
use Rattle.nqs_outside.specs.History.{Call, History, extended, content, moment, EachSince, BreaksOff}
use Rattle.nqs_outside.specs.declared.disk.Disk as disk
use Rattle.nqs_spool.specs.Puts.{written_through, put_calls}
use Rattle.nqs_spool.specs.Extents.{extent_at, past, IsApart, IsClearOf, IsLeastPlace, Has, IsWith, Holds}
use Rattle.nqs_spool.specs.Live as live
use Rattle.nqs_spool.specs.Slots.{first_fit}
use Rattle.nqs_spool.specs.declared.live.LiveExtents.{LiveExtents}
use Rattle.nqs_spool.specs.Spooled.{history_of, place_for, Tells}
use Rattle.nqs_spool.specs.declared.spool.Spool.{Spool}
use Rattle.nqs_spool.proofs.Lists.{all_has, all_with, covers_put, empty_put, least_of_live, clear_of_none}
use Rattle.nqs_spool.proofs.Kept.{fit_is_least, kept_some}
use Rattle.nqs_spool.proofs.Writing.{held_throughout, held_after, quiet_after, length_after}

pub some_of : (bytes : List ℕ) → (length bytes == 0) ≡ false → 0 < length bytes
some_of [] is = cc
some_of (byte ∷ bytes) is = omega arith

pub calls_of_some : (place : ℕ) (bytes : List ℕ) → 0 < length bytes → put_calls place bytes ≡ written_through place bytes
calls_of_some place [] some = absurd (omega (arith, some))
calls_of_some place (byte ∷ bytes) some = refl

module _ {D : Type 0} {g : disk.Ghosts D} (spool : Spool D g) where
  pub place_of_some : (bytes : List ℕ) → 0 < length bytes → place_for spool bytes ≡ live.place_for spool.live (length bytes)
  place_of_some [] some = absurd (omega (arith, some))
  place_of_some (byte ∷ bytes) some = refl

  pub least : (bytes : List ℕ) (extents : List Extent) → Tells spool extents → IsLeastPlace extents (length bytes) (place_for spool bytes)
  least [] extents tells = record { clear = clear_of_none extents (extent_at 0 0) refl; least = λ other clear. omega arith }
  least (byte ∷ bytes) extents tells =
      let count = length (byte ∷ bytes) in
      least_of_live (live.kept spool.live) extents count (place_for spool (byte ∷ bytes)) (kept_some spool.live) tells.live
      (fit_is_least count spool.live.end spool.live.tree spool.live.row (omega arith))

  -- what is written at that place
  module _ (bytes : List ℕ) (place : ℕ) (at : place ≡ place_for spool bytes) (within : IsTrue g.tells → place ≤ length (content (history_of spool)))
      (extents : List Extent) (tells : Tells spool extents) where
    abbrev new : Extent
    new = extent_at place (length bytes)

    clear : IsClearOf extents new
    clear = subst (λ p. IsClearOf extents (extent_at p (length bytes))) (sym at) (least bytes extents tells).clear

    -- while it is written
    pub held : IsTrue g.tells → (x : Extent) (script : List ℕ) → Has extents x → Holds (content (history_of spool)) x script
        → (k : History) (calls : List Call) → k ≡ extended (history_of spool) calls → BreaksOff (written_through place bytes) calls
        → EachSince (moment (history_of spool)) k (λ image. Holds image x script)
    held told x script has holds k calls is off =
        let apart = all_has (IsApart new) extents x clear has in
        held_throughout (history_of spool) place bytes (tells.quiet told) (within told) x script (omega (arith, apart)) holds k calls is off

    -- what a read gives after it
    pub held_still : IsTrue g.tells → (x : Extent) (script : List ℕ) → Has extents x → Holds (content (history_of spool)) x script
        → (k : History) (calls : List Call) → k ≡ extended (history_of spool) calls → BreaksOff (written_through place bytes) calls → Holds (content k) x script
    held_still told x script has holds k calls is off =
        let apart = all_has (IsApart new) extents x clear has in
        held_after (history_of spool) place bytes (tells.quiet told) (within told) x script (omega (arith, apart)) holds k calls is off

    -- once it is written
    pub tells_more : (spool' : Spool D g) → IsWith (live.kept spool.live) new (live.kept spool'.live)
        → (IsTrue g.tells → history_of spool' ≡ extended (history_of spool) (written_through place bytes))
        → (more : List Extent) → IsWith extents new more → Tells spool' more
    tells_more spool' kept_at made more at' = record {
      live = covers_put (live.kept spool.live) (live.kept spool'.live) extents more new kept_at at' clear tells.live;
      within = λ told.
          let size = length_after (history_of spool) place bytes (within told) (history_of spool') (made told) in
          all_with (λ y. past y ≤ length (content (history_of spool'))) extents more new at' (omega (arith, size))
          (all_weaker (λ y. past y ≤ length (content (history_of spool))) (λ y. past y ≤ length (content (history_of spool')))
          (λ y le. omega (arith, le, size)) extents (tells.within told));
      quiet = λ told. quiet_after (history_of spool) place bytes (tells.quiet told) (within told) (history_of spool') (made told);
    }

  -- an empty extent more
  pub tells_empty : (extents more : List Extent) → Tells spool extents → IsWith extents (extent_at 0 0) more → Tells spool more
  tells_empty extents more tells at = record {
    live = empty_put (live.kept spool.live) extents more (extent_at 0 0) refl at tells.live;
    within = λ told. all_with (λ y. past y ≤ length (content (history_of spool))) extents more (extent_at 0 0) at (omega arith) (tells.within told);
    quiet = tells.quiet;
  }

  -- the place that was found for some bytes, after memory was taken
  pub record Found (bytes : List ℕ) (place : ℕ) : Type 0 where
    pub at : place ≡ place_for spool bytes
    pub plan : written_through place bytes ≡ put_calls (place_for spool bytes) bytes
    pub within : IsTrue g.tells → place ≤ length (content (history_of spool))

  pub found : (taken : LiveExtents) (bytes : List ℕ) (place : ℕ) (none : Bool) → none ≡ (length bytes == 0) → none ≡ false
      → live.slots taken ≡ live.slots spool.live → live.end_of taken ≡ live.end_of spool.live
      → place ≡ live.place_for taken (length bytes) → place ≤ live.end_of taken → Found bytes place
  found taken bytes place none none_is not same_slots same_end is within_end =
      let some = some_of bytes (sym none_is ∙ not) in
      let at = is ∙ (λ j. first_fit (length bytes) (same_end j) (same_slots j)) ∙ sym (place_of_some bytes some) in
      record {
        at = at;
        plan = ap (λ p. written_through p bytes) at ∙ sym (calls_of_some (place_for spool bytes) bytes some);
        within = λ told. omega (arith, within_end, same_end, spool.within told);
      }
