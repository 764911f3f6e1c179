-- Where nothing is wrong and nothing is lacking, no status is left but Done.
use Rattle.std.proofs.Common.{◌≡◌, ◌≤◌, ◌⊎◌, ℕ, Bool, List, ◌++◌, length, Option, Some, None, refl, sym, subst, ap, ◌∙◌, inl, inr, arith}
use Rattle.std.specs.Io.KnownBytes.{Consumes, IsAtEnd}
use Rattle.std.proofs.lemmas.List.{append-nil, length-append}
use Rattle.nqs_outside.specs.Streams.{Sunk, SinkFailed, Fed}
use Rattle.nqs_schedule.specs.Schedule.{IsFirstBad}
use Rattle.nqs_schedule.proofs.OneReading.{good_or_bad}
use Rattle.nqs_network_runs.specs.declared.status.Status.{Status}
use Rattle.nqs_network_runs.specs.declared.status.Status.TheVariants as status
use Rattle.nqs_network_runs.specs.declared.words.Generation.{Generation}
use Rattle.nqs_network_runs.specs.declared.words.Ask.{Ask}
use Rattle.nqs_network_runs.specs.Replay.{Left, EndsRead, EndsBy, EndsAsked, Ends, IsReadable, HasSchedule, IsLacking, IsComplete}

no_more : (old new : Option (List ℕ)) (input bytes : List ℕ) → old ≡ Some input → Consumes old new bytes → length bytes ≤ length input
no_more None new input bytes e c = absurd cc
no_more (Some xs) None input bytes e c = absurd c
no_more (Some xs) (Some ys) input bytes e c = let same : xs ≡ input = cc in omega (arith, ap length (sym same ∙ c), length-append bytes ys)

all_read : (old new : Option (List ℕ)) (input bytes : List ℕ) → old ≡ Some input → Consumes old new bytes → IsAtEnd new → bytes ≡ input
all_read None new input bytes e c at_end = absurd cc
all_read (Some xs) None input bytes e c at_end = absurd c
all_read (Some xs) (Some ys) input bytes e c at_end =
    let same : xs ≡ input = cc in
    sym (append-nil bytes) ∙ ap (λ (l : List ℕ). bytes ++ l) (sym at_end) ∙ sym c ∙ same

abbrev IsDone : Status → Type 0
IsDone result = (result ≡ status.Done) ⊎ IsLacking result

read_ends : (summary : Bool) (source : Fed) (sink : Sunk) (old new : Left) (result : Status) → EndsRead summary source sink old new result
    → IsReadable source → (SinkFailed sink → ⊥) → IsDone result
read_ends summary source sink old new status.Done ends there no_stop = inl refl
read_ends summary source sink old new (status.Memory want) ends there no_stop = inr tt
read_ends summary source sink old new (status.DiskFull full) ends there no_stop = inr tt
read_ends summary source sink old new (status.Unparsed refused) ends there no_stop = inr tt
read_ends summary source sink old new status.BadWords ends there no_stop = absurd ends
read_ends summary source sink old new status.ReadFault ends there no_stop = absurd (there.5 ends.0)
read_ends summary source sink old new status.TooLong ends there no_stop =
    let bytes = ends.0 in
    absurd (omega (arith, no_more source.left source.left_now there.0 bytes.0 there.2 bytes.1, bytes.2, there.3))
read_ends summary source sink old new status.BadSchedule ends there no_stop =
    let same = all_read source.left source.left_now there.0 ends.0 there.2 ends.1.0 ends.1.1 in
    let bad = ends.2 in
    absurd (good_or_bad there.0 there.1 bad.0 bad.1 there.4 (subst (λ (bytes : List ℕ). IsFirstBad bytes bad.0 bad.1) same bad.2))
read_ends summary source sink old new status.WriteFault ends there no_stop = absurd (no_stop ends.2.0)

ends_well : (summary : Bool) (generation : Option Generation) (source : Fed) (sink : Sunk) (old new : Left) (result : Status)
    → EndsBy summary generation source sink old new result → HasSchedule generation source → (SinkFailed sink → ⊥) → IsDone result
ends_well summary None source sink old new result ends there no_stop = read_ends summary source sink old new result ends there no_stop
ends_well summary (Some g) source sink old new status.Done ends there no_stop = inl refl
ends_well summary (Some g) source sink old new (status.Memory want) ends there no_stop = inr tt
ends_well summary (Some g) source sink old new (status.DiskFull full) ends there no_stop = inr tt
ends_well summary (Some g) source sink old new (status.Unparsed refused) ends there no_stop = inr tt
ends_well summary (Some g) source sink old new status.WriteFault ends there no_stop = absurd (no_stop ends.1.0)
ends_well summary (Some g) source sink old new status.BadWords ends there no_stop = absurd ends.1
ends_well summary (Some g) source sink old new status.BadSchedule ends there no_stop = absurd ends.1
ends_well summary (Some g) source sink old new status.ReadFault ends there no_stop = absurd ends.1
ends_well summary (Some g) source sink old new status.TooLong ends there no_stop = absurd ends.1

-- the words ask for one thing
asked_well : (words : List (List ℕ)) (source : Fed) (sink : Sunk) (old new : Left) (result : Status) → EndsAsked words source sink old new result
    → IsComplete words source sink result
asked_well words source sink old new result ends ask is there no_stop =
    let same : ask ≡ ends.0 = let both : Some ask ≡ Some ends.0 = sym is ∙ ends.1 in cc in
    ends_well ends.0.summary ends.0.generation source sink old new result ends.2 (subst (λ (a : Ask). HasSchedule a.generation source) same there) no_stop

pub complete : (words : List (List ℕ)) (source : Fed) (sink : Sunk) (old new : Left) (result : Status) → Ends words source sink old new result
    → IsComplete words source sink result
complete words source sink old new (status.Memory want) ends ask is there no_stop = inr tt
complete words source sink old new (status.DiskFull full) ends ask is there no_stop = inr tt
complete words source sink old new (status.Unparsed refused) ends ask is there no_stop = inr tt
complete words source sink old new status.BadWords ends ask is there no_stop = let both : None ≡ Some ask = sym ends.0 ∙ is in absurd cc
complete words source sink old new status.Done ends ask is there no_stop = asked_well words source sink old new status.Done ends ask is there no_stop
complete words source sink old new status.BadSchedule ends ask is there no_stop =
    asked_well words source sink old new status.BadSchedule ends ask is there no_stop
complete words source sink old new status.ReadFault ends ask is there no_stop = asked_well words source sink old new status.ReadFault ends ask is there no_stop
complete words source sink old new status.WriteFault ends ask is there no_stop =
    asked_well words source sink old new status.WriteFault ends ask is there no_stop
complete words source sink old new status.TooLong ends ask is there no_stop = asked_well words source sink old new status.TooLong ends ask is there no_stop
