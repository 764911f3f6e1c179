-- Events of schedules whose values are within their limits.
use Rattle.std.specs.Prelude.{◌≡◌, ℕ, ◌&&◌, ◌≤◌, Bool, true, List, length}
use Rattle.std.specs.List.{list_all}
use Rattle.nqs_rules.specs.Sane.{is_sane_command, is_short_output}
use Rattle.nqs_rules.specs.World.{Act, Asks, Ends}

-- What is asked is within its limits, and so are the outputs of a job that ends. Of a packet
-- nothing is asked: it was sent before.
abbrev pub is_sane_act : Act → Bool
is_sane_act (Asks _ _ c) = is_sane_command c
is_sane_act (Ends _ _ _ _ output error) = is_short_output output && is_short_output error
is_sane_act _ = true

-- what is asked in all these events is within its limits
abbrev pub AreSane : List Act → Type 0
AreSane acts = list_all is_sane_act acts ≡ true

-- the names of 1 to 16 hosts
abbrev pub IsSite : List (List ℕ) → Type 0
IsSite site = (1 ≤ length site) × (length site ≤ 16)
