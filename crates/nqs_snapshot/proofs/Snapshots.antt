-- What the whole list is read as, and what an answer tells.
use Rattle.std.proofs.Common.{◌≡◌, ◌≢◌, ℕ, List, refl, sym, ap, ◌∙◌, subst, Ok, Err, IfOk, IfErr}
use Rattle.std.specs.declared.result.Result.{Result}
use Rattle.nqs_base.proofs.Readings.{given, bound, bind, never, passed}
use Rattle.nqs_base.specs.Want.{want}
use Rattle.nqs_base.specs.declared.extent.Extent.{Extent}
use Rattle.nqs_types.specs.declared.request.Peer.{Peer}
use Rattle.nqs_state.specs.State.{State, content}
use Rattle.nqs_state.specs.declared.state.HostState.{HostState}
use Rattle.nqs_records.specs.declared.fault.RecordFault.{RecordFault}
use Rattle.nqs_records.specs.declared.fault.RecordFault.TheVariants.{BadField, Memory}
use Rattle.nqs_records.specs.Reading.{Reading, Answers}
use Rattle.nqs_records.proofs.IsRead.{IsRead}
use Rattle.nqs_records.specs.Changes.{AreBytes}
use Rattle.nqs_records.proofs.Spelled.{not_memory}
use Rattle.nqs_rules.specs.InOrder.{IsInOrder, IsConsistent}
use Rattle.nqs_snapshot.specs.Sound.{is_sound}
use Rattle.nqs_snapshot.specs.Spelling.{state_by, state_field}
use Rattle.nqs_snapshot.specs.Values.{MayStandBy, MayStand}
use Rattle.nqs_snapshot.specs.Reading.{state_of, or_bad, whole_of, state_read_by, snapshot_of}
use Rattle.nqs_snapshot.specs.Laws.{IsSpelledBy, ReadsTheSpelling, SpellsOne, SpellsNone, told_by}
use Rattle.nqs_snapshot.proofs.PartLaws.{peer_law}
use Rattle.nqs_snapshot.proofs.StateLaws.{parts_of, whole_spelled, spelled_whole}
use Rattle.nqs_snapshot.proofs.SoundLaws.{sound_is_in_order}

module _ {IsKnown : Peer → Type 0} {peer : Peer → List ℕ} {r : Reading Peer} (one : IsRead IsKnown peer r) where
  is_spelled : (bytes : List ℕ) (s : State Extent) → AreBytes bytes → state_read_by r bytes ≡ Ok s
      → IsSpelledBy (MayStandBy IsKnown) (state_by peer) bytes s
  unfolding state_read_by
  is_spelled bytes s fits e =
      let p = bound (whole_of r bytes) (λ p. or_bad (state_of p)) s e in
      let here = whole_spelled one bytes p.0 fits p.1 in
      let passes = passed (is_sound (state_of p.0)) (BadField 0) (state_of p.0) s p.2 in
      let right = (sound_is_in_order (state_of p.0)).0 passes.0 in
      subst (IsSpelledBy (MayStandBy IsKnown) (state_by peer) bytes) passes.1
      (here.0, record { stands = here.1; order = right.0; consistent = right.1 })

  spelled_is : (bytes : List ℕ) (s : State Extent) → AreBytes bytes → IsSpelledBy (MayStandBy IsKnown) (state_by peer) bytes s
      → state_read_by r bytes ≡ Ok s
  unfolding state_read_by
  spelled_is bytes s fits is =
      let sound = (sound_is_in_order s).1 (is.1.order, is.1.consistent) in
      bind (whole_of r bytes) (λ p. or_bad (state_of p)) (parts_of s) (Ok s) (spelled_whole one bytes s fits is.0 is.1.stands) (rw sound refl)

  pub reads_the_spelling : ReadsTheSpelling (MayStandBy IsKnown) (state_by peer) (state_read_by r)
  reads_the_spelling bytes s fits = (λ e. is_spelled bytes s fits e, λ is. spelled_is bytes s fits is)

  pub spells_one : SpellsOne (MayStandBy IsKnown) (state_by peer)
  spells_one bytes s t fits may other is also =
      ap state_of (sym (given (parts_of s) (parts_of t) (sym (spelled_whole one bytes s fits is may) ∙ spelled_whole one bytes t fits also other)))

  -- ---- what the call answers

  pub if_read : (bytes : List ℕ) (answer : Result HostState RecordFault) → AreBytes bytes → Answers (state_read_by r bytes) (told_by answer)
      → IfOk answer (λ state. IsSpelledBy (MayStandBy IsKnown) (state_by peer) bytes (content state))
  if_read bytes (Ok state) fits answers = is_spelled bytes (content state) fits (sym (answers refl))
  if_read bytes (Err fault) fits answers = tt

  pub if_refused : (bytes : List ℕ) (answer : Result HostState RecordFault) → AreBytes bytes → Answers (state_read_by r bytes) (told_by answer)
      → IfErr answer (λ fault. fault ≢ Memory want → SpellsNone (MayStandBy IsKnown) (state_by peer) bytes)
  if_refused bytes (Ok state) fits answers = tt
  if_refused bytes (Err fault) fits answers = λ other s is.
      never (state_read_by r bytes) s fault (spelled_is bytes s fits is) (sym (answers (not_memory (State Extent) fault other)))

-- what was written of such a state reads back
pub reads_back : (bytes : List ℕ) (s : State Extent) → AreBytes bytes → bytes ≡ state_field s → MayStand s → IsInOrder s → IsConsistent s
    → snapshot_of (state_field s) ≡ Ok s
reads_back bytes s fits is stands order consistent =
    subst (λ l. snapshot_of l ≡ Ok s) is
    ((reads_the_spelling peer_law bytes s fits).1 (is, record { stands = stands; order = order; consistent = consistent }))
