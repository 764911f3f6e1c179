-- How long a script may be.
use Rattle.std.specs.Prelude.{ℕ}

-- a script has at most so many bytes
abbrev pub longest_script : ℕ
longest_script = 1048576
