-- Fronts of a text, counts that rose, and runs that lacked something.
use Rattle.std.proofs.Common.{◌≡◌, ◌≤◌, ◌⊎◌, inl, inr, Err, ℕ, List, [], ◌++◌, take, drop, sym, ap, ◌∙◌, append_assoc, take-append-drop}
use Rattle.std.proofs.lemmas.List.{append-nil}
use Rattle.nqs_outside.specs.Causes.{Rose}
use Rattle.nqs_outside.proofs.Roses.{rose_since}
use Rattle.nqs_outside.specs.Streams.{Sunk}
use Rattle.nqs_disk.specs.declared.lack.Lack.{Lack}
use Rattle.nqs_disk.specs.declared.lack.Lack.TheVariants as lack
use Rattle.nqs_rules.specs.World.{World as Network}
use Rattle.nqs_network_runs.specs.Fronts.{BeginsWith, WritesFront}
use Rattle.nqs_network_runs.specs.Writing.{Writes, stop_of}

-- a text begins with each of its fronts
pub front_of : (whole bytes : List ℕ) (n : ℕ) → bytes ≡ whole → BeginsWith whole (take n bytes)
front_of whole bytes n same = (drop n bytes, sym same ∙ sym (take-append-drop n bytes))

-- and with the whole of it
pub front_whole : (whole : List ℕ) → BeginsWith whole whole
front_whole whole = ([], sym (append-nil whole))

-- a text that goes on in two parts begins with its front and the first of them
pub front_within : (whole before piece : List ℕ) (n : ℕ) → BeginsWith whole (before ++ piece) → BeginsWith whole (before ++ take n piece)
front_within whole before piece n front =
    let parted : before ++ piece ≡ (before ++ take n piece) ++ drop n piece = ap (λ (l : List ℕ). before ++ l) (sym (take-append-drop n piece))
    ∙ sym (append_assoc before (take n piece) (drop n piece)) in
    (drop n piece ++ front.0, front.1 ∙ ap (λ (l : List ℕ). l ++ front.0) parted ∙ append_assoc (before ++ take n piece) (drop n piece) front.0)

-- what rose after a while rose since its beginning
pub failed_since : (a b c x y z : ℕ) → a ≤ b → x ≤ y → Rose b c ⊎ Rose y z → Rose a c ⊎ Rose x z
failed_since a b c x y z later also (inl rose) = inl (rose_since a b c later rose)
failed_since a b c x y z later also (inr rose) = inr (rose_since x y z also rose)

-- whatever was lacking, a front of the text was written
pub lacked : (text : List ℕ) (network : Network) (sink : Sunk) (l : Lack) → WritesFront sink text → Writes text network sink (Err (stop_of l))
lacked text network sink (lack.Memory want) front = front
lacked text network sink (lack.Full full) front = front
