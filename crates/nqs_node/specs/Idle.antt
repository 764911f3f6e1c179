-- What a node keeps in mind of its last look at what may start.
use Rattle.std.specs.Prelude.{ℕ, Bool, true, not, is_some, Option, None, Some}
use Rattle.nqs_rules.specs.Start.{start}
use Rattle.nqs_store.specs.Told.{Host}

-- nothing may start at the moment
unfoldable pub starts_none : ℕ → Host → Bool
starts_none moment host = not (is_some (start moment host))

-- nothing may start at the moment that is kept in mind, if one is
abbrev pub is_idle : Option ℕ → Host → Bool
is_idle None host = true
is_idle (Some moment) host = starts_none moment host
