-- Submissions that a stop cut off: kept, and never told of.
use Rattle.std.specs.Prelude.{Bool, false, ◌&&◌, ◌||◌, ◌==◌, List, [], ◌∷◌}
use Rattle.nqs_types.specs.Ids.{id_eq}
use Rattle.nqs_state.specs.State.{Plain}
use Rattle.nqs_rules.specs.Tests.{same_host}
use Rattle.nqs_rules.specs.Applied.{applied}
use Rattle.nqs_rules.specs.Edits.{change_at}
use Rattle.nqs_types.specs.declared.ids.HostId.{HostId}
use Rattle.nqs_types.specs.declared.ids.RequestId.{RequestId}
use Rattle.nqs_types.specs.declared.world.Seen.TheVariants as seen
use Rattle.nqs_rules.specs.Notes.{Note, Saw, Kept}
use Rattle.nqs_laws.specs.Numbers.{numbers_given, next_numbered}

-- the next thing that is noted is the stop of this host
abbrev pub stops_now : HostId → List Note → Bool
stops_now h (Saw (seen.Stop g) ∷ ns) = same_host h g
stops_now h ns = false

-- The submission of a request was kept by its host, which stopped right behind it.
abbrev pub was_cut_off : RequestId → List Plain → List Note → Bool
was_cut_off x states [] = false
was_cut_off x states (Saw y ∷ ns) = was_cut_off x states ns
was_cut_off x states (Kept h why c ∷ ns) = (numbers_given c == 1 && id_eq x (next_numbered h states) && stops_now h ns)
    || was_cut_off x (change_at h.0 (applied c) states) ns
