-- A text that is written piece by piece.
use Rattle.std.proofs.Common.{◌≡◌, ℕ, List, [], ◌++◌, take, Option, refl, sym, ap, subst, ◌∙◌, append_assoc}
use Rattle.std.specs.Io.KnownBytes.{Appends}
use Rattle.nqs_outside.proofs.Known.{Appends-none, Appends-then}
use Rattle.nqs_network_runs.specs.Fronts.{BeginsWith}
use Rattle.nqs_network_runs.specs.Writing.{HasWritten}
use Rattle.nqs_network_runs.proofs.Fronts.{front_within}

-- nothing of no text
pub written_none : (a : Option (List ℕ)) → HasWritten a a [] []
written_none a = ([], refl, Appends-none a)

-- a text that goes on
pub written_on : (a b : Option (List ℕ)) (text rest more new : List ℕ) → HasWritten a b text rest → new ≡ rest ++ more → HasWritten a b (text ++ more) new
written_on a b text rest more new w is =
    (w.0, ap (λ (l : List ℕ). l ++ more) w.1 ∙ append_assoc w.0 rest more ∙ ap (λ (l : List ℕ). w.0 ++ l) (sym is), w.2)

-- a piece more
pub written_then : (a b c : Option (List ℕ)) (text rest left : List ℕ) → HasWritten a b text rest → HasWritten b c rest left → HasWritten a c text left
written_then a b c text rest left w v =
    (w.0 ++ v.0, w.1 ∙ ap (λ (l : List ℕ). w.0 ++ l) v.1 ∙ sym (append_assoc w.0 v.0 left), Appends-then a b c w.0 v.0 w.2 v.2)

-- all that was left
pub written_whole : (a b c : Option (List ℕ)) (text rest : List ℕ) → HasWritten a b text rest → Appends b c rest → Appends a c text
written_whole a b c text rest w v = subst (Appends a c) (sym w.1) (Appends-then a b c w.0 rest w.2 v)

-- until then a front
pub written_front : (a b : Option (List ℕ)) (whole text rest : List ℕ) → BeginsWith whole text → HasWritten a b text rest
    → (front : List ℕ) × BeginsWith whole front × Appends a b front
written_front a b whole text rest begins w =
    (w.0, (rest ++ begins.0, begins.1 ∙ ap (λ (l : List ℕ). l ++ begins.0) w.1 ∙ append_assoc w.0 rest begins.0), w.2)

-- and a part of what was left
pub written_part : (a b c : Option (List ℕ)) (whole text rest : List ℕ) (n : ℕ) → BeginsWith whole text → HasWritten a b text rest
    → Appends b c (take n rest) → (front : List ℕ) × BeginsWith whole front × Appends a c front
written_part a b c whole text rest n begins w v =
    (w.0 ++ take n rest, front_within whole w.0 rest n (subst (BeginsWith whole) w.1 begins), Appends-then a b c w.0 (take n rest) w.2 v)
