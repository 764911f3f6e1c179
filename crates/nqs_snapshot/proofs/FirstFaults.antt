-- Which bytes have which first fault.
use Rattle.std.proofs.Common.{◌≡◌, ◌⊎◌, inl, inr, ℕ, ◌<◌, Bool, true, false, cond, List, [], ◌++◌, length, refl, sym, ap, ◌∙◌, Ok, Err}
use Rattle.nqs_base.specs.Want.{want}
use Rattle.nqs_base.proofs.Readings.{apart}
use Rattle.nqs_base.specs.declared.extent.Extent.{Extent}
use Rattle.nqs_types.specs.declared.request.Peer.{Peer}
use Rattle.nqs_state.specs.State.{State}
use Rattle.nqs_records.specs.declared.fault.RecordFault.{RecordFault}
use Rattle.nqs_records.specs.declared.fault.RecordFault.TheVariants.{Short, Kind, BadField, Trailing, Memory}
use Rattle.nqs_records.specs.Reading.{◌>>=◌, Read, Reading, alone}
use Rattle.nqs_records.proofs.IsRead.{IsRead}
use Rattle.nqs_records.proofs.Steady.{IsSteady}
use Rattle.nqs_records.specs.Changes.{AreBytes}
use Rattle.nqs_records.specs.Whole.{IsFollowed, IsCut, SpellsNoneWith}
use Rattle.nqs_records.proofs.Whole as whole
use Rattle.nqs_snapshot.specs.declared.parts.Parts.{Parts}
use Rattle.nqs_snapshot.specs.Spelling.{state_by}
use Rattle.nqs_snapshot.specs.Values.{MayStandBy}
use Rattle.nqs_snapshot.specs.Sound.{is_sound}
use Rattle.nqs_snapshot.specs.Reading.{parts_at, state_of, or_bad, whole_of, state_read_by}
use Rattle.nqs_snapshot.specs.Faults.{IsUnsound, FirstFaults}
use Rattle.nqs_snapshot.proofs.StateLaws.{parts_law, parts_of, whole_spelled, spelled_whole}
use Rattle.nqs_snapshot.proofs.SteadyParts.{parts_steady}

-- no kind is told
abbrev IsNoKind : List ℕ → ℕ → Type 0
IsNoKind bytes place = ⊥

no_short : (end : ℕ) → Short end ≡ BadField 0 → ⊥
no_short end e = cc

no_kind : (place : ℕ) → Kind place ≡ BadField 0 → ⊥
no_kind place e = cc

no_trailing : (place : ℕ) → Trailing place ≡ BadField 0 → ⊥
no_trailing place e = cc

no_memory : Memory want ≡ BadField 0 → ⊥
no_memory e = cc

module _ {IsKnown : Peer → Type 0} {peer : Peer → List ℕ} {r : Reading Peer} (one : IsRead IsKnown peer r) (steady : IsSteady r) where
  -- ---- the parts

  -- the parts of a state that may stand, and their spelling
  abbrev IsPart : Parts → Type 0
  IsPart p = MayStandBy IsKnown (state_of p)

  abbrev spelled : Parts → List ℕ
  spelled p = state_by peer (state_of p)

  tells : (bytes more : List ℕ) → AreBytes bytes
      → whole.Tells IsPart spelled (IsNoKind bytes) bytes (alone (parts_at r) bytes 0) (alone (parts_at r) (bytes ++ more) 0)
  tells bytes more fits = whole.whole_tells (parts_law one) (IsNoKind bytes) bytes more fits (parts_steady r steady bytes more 0)

  told_by : (bytes : List ℕ) (fault : RecordFault) → AreBytes bytes → whole_of r bytes ≡ Err fault
      → whole.Tells IsPart spelled (IsNoKind bytes) bytes (Err fault) (alone (parts_at r) (bytes ++ []) 0)
  unfolding whole_of
  told_by bytes fault fits e = whole.told_by (parts_law one) IsNoKind tells bytes [] fault fits e

  followed : (bytes : List ℕ) (place : ℕ) → IsFollowed IsPart spelled bytes place → IsFollowed (MayStandBy IsKnown) (state_by peer) bytes place
  followed bytes place is = record { value = state_of is.value; may = is.may; rest = is.rest; some = is.some; text = is.text; is_place = is.is_place }

  trailing_is : (bytes : List ℕ) (place : ℕ) → AreBytes bytes → IsFollowed (MayStandBy IsKnown) (state_by peer) bytes place
      → whole_of r bytes ≡ Err (Trailing place)
  unfolding whole_of
  trailing_is bytes place fits is =
      whole.trailing_is (parts_law one) bytes place fits
      (record { value = parts_of is.value; may = is.may; rest = is.rest; some = is.some; text = is.text; is_place = is.is_place })

  none_with : (bytes : List ℕ) (place : ℕ) → AreBytes bytes → whole_of r bytes ≡ Err (BadField place)
      → SpellsNoneWith (MayStandBy IsKnown) (state_by peer) bytes
  unfolding whole_of
  none_with bytes place fits e more others s may text =
      whole.none_with (parts_law one) IsNoKind tells bytes fits (BadField place) tt e more others (parts_of s) may text

  cut_is : (bytes : List ℕ) → AreBytes bytes → IsCut (MayStandBy IsKnown) (state_by peer) bytes → whole_of r bytes ≡ Err (Short (length bytes))
  unfolding whole_of
  cut_is bytes fits cut =
      whole.cut_is (parts_law one) IsNoKind tells bytes fits
      (record { value = parts_of cut.value; may = cut.may; rest = cut.rest; fits = cut.fits; some = cut.some; text = cut.text })

  -- ---- the state of the parts

  -- why a state isn't answered: the parts don't read, or the state isn't sound
  abbrev Why : List ℕ → RecordFault → Type 0
  Why bytes fault = (whole_of r bytes ≡ Err fault) ⊎ ((fault ≡ BadField 0) × IsUnsound (MayStandBy IsKnown) (state_by peer) bytes)

  why : (bytes : List ℕ) (fault : RecordFault) → AreBytes bytes → state_read_by r bytes ≡ Err fault → Why bytes fault
  unfolding state_read_by
  why bytes fault fits e = by (whole_of r bytes) refl e
    where
      bad : (p : Parts) → whole_of r bytes ≡ Ok p → (t : Bool) → is_sound (state_of p) ≡ t
          → ◌≡◌ {A = Read (State Extent)} (cond t (Ok (state_of p)) (Err (BadField 0))) (Err fault) → Why bytes fault
      bad p is true sound f = absurd (apart (state_of p) fault f)
      bad p is false sound f =
          let here = whole_spelled one bytes p fits is in
          inr (let same : BadField 0 ≡ fault = cc in sym same, record { state = state_of p; may = here.1; text = here.0; unsound = sound })

      by : (q : Read Parts) → whole_of r bytes ≡ q → (q >>= (λ p. or_bad (state_of p))) ≡ Err fault → Why bytes fault
      by (Ok p) is f = bad p is (is_sound (state_of p)) refl f
      by (Err x) is f = inl (is ∙ (let same : x ≡ fault = cc in ap (λ (y : RecordFault). Err y) same))

  fault_is : (bytes : List ℕ) (fault : RecordFault) → whole_of r bytes ≡ Err fault → state_read_by r bytes ≡ Err fault
  unfolding state_read_by
  fault_is bytes fault e = ap (λ (r : Read Parts). r >>= (λ p. or_bad (state_of p))) e

  unsound_is : (bytes : List ℕ) → AreBytes bytes → IsUnsound (MayStandBy IsKnown) (state_by peer) bytes → state_read_by r bytes ≡ Err (BadField 0)
  unfolding state_read_by
  unsound_is bytes fits is =
      ap (λ (r : Read Parts). r >>= (λ p. or_bad (state_of p))) (spelled_whole one bytes is.state fits is.text is.may)
      ∙ ap (λ (t : Bool). cond t (Ok is.state) (Err (BadField 0))) is.unsound

  -- a fault that isn't a bad field comes of the parts alone
  of_parts : (bytes : List ℕ) (fault : RecordFault) → (fault ≡ BadField 0 → ⊥) → Why bytes fault → whole_of r bytes ≡ Err fault
  of_parts bytes fault other (inl is) = is
  of_parts bytes fault other (inr is) = absurd (other is.0)

  field_is : (bytes : List ℕ) (place : ℕ) → AreBytes bytes → Why bytes (BadField place)
      → ((place < length bytes) × SpellsNoneWith (MayStandBy IsKnown) (state_by peer) bytes)
      ⊎ ((place ≡ 0) × IsUnsound (MayStandBy IsKnown) (state_by peer) bytes)
  field_is bytes place fits (inl is) = inl ((told_by bytes (BadField place) fits is).0, none_with bytes place fits is)
  field_is bytes place fits (inr is) = inr (let e = is.0 in let same : place ≡ 0 = cc in same, is.1)

  pub first_faults : FirstFaults (MayStandBy IsKnown) (state_by peer) (state_read_by r)
  first_faults bytes fits = record {
    short = λ end e. told_by bytes (Short end) fits (of_parts bytes (Short end) (no_short end) (why bytes (Short end) fits e));
    cut = λ cut. fault_is bytes (Short (length bytes)) (cut_is bytes fits cut);
    trailing = λ place. (
      λ e. followed bytes place
          (told_by bytes (Trailing place) fits (of_parts bytes (Trailing place) (no_trailing place) (why bytes (Trailing place) fits e))).0,
      λ has. fault_is bytes (Trailing place) (trailing_is bytes place fits has),
    );
    field = λ place e. field_is bytes place fits (why bytes (BadField place) fits e);
    unsound = λ is. unsound_is bytes fits is;
    kind = λ place e. (told_by bytes (Kind place) fits (of_parts bytes (Kind place) (no_kind place) (why bytes (Kind place) fits e))).0;
    memory = λ e. told_by bytes (Memory want) fits (of_parts bytes (Memory want) no_memory (why bytes (Memory want) fits e));
  }
