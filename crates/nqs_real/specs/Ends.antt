-- How the end of a job is written in the file `end` of its folder.
use Rattle.std.specs.Prelude.{ℕ, ◌/◌, ◌%◌, List, ◌∷◌, ◌++◌, length}

-- a byte with the status, two with the length of the output, the greater first, the output, and the
-- error output
abbrev pub end_text : ℕ → List ℕ → List ℕ → List ℕ
end_text status out err = status ∷ length out / 256 ∷ length out % 256 ∷ out ++ err
