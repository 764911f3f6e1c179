-- By which entry of their environment the processes of jobs are known.
use Rattle.std.specs.Prelude.{ℕ, Bool, List, length, take, ◌==◌, string_bytes}
use Rattle.std.specs.List.{list_any, slice_split}
use Rattle.nqs_base.specs.Same.{name_eq}
use Rattle.nqs_real.specs.declared.leftovers.Mark.{Mark}
use Rattle.nqs_real.specs.declared.leftovers.Mark.TheVariants.{Is, Begins}

-- is the entry the mark, or does it begin with it?
abbrev pub is_mark : Mark → List ℕ → Bool
is_mark (Is text) entry = name_eq entry (string_bytes text)
is_mark (Begins text) entry = name_eq (take (length (string_bytes text)) entry) (string_bytes text)

-- the entries of an environment, which are parted by NULs
abbrev pub entries : List ℕ → List (List ℕ)
entries environ = slice_split (λ b. b == 0) environ

-- is the mark an entry?
unfoldable pub is_marked : Mark → List ℕ → Bool
is_marked mark environ = list_any (is_mark mark) (entries environ)
