-- How many of some options aren't given.
use Rattle.std.proofs.Common.{◌≡◌, ℕ, ◌≤◌, Bool, true, false, refl, arith}

unfoldable pub missing : Bool → ℕ
missing true = 0
missing false = 1

pub missing_one : (b : Bool) → b ≡ false → missing b ≡ 1
unfolding missing
missing_one true e = cc
missing_one false e = refl

pub at_most_one : (b : Bool) → missing b ≤ 1
unfolding missing
at_most_one true = omega arith
at_most_one false = omega arith
