-- What is asked for is a right site, with events within their limits.
use Rattle.std.proofs.Common.{◌≡◌, ℕ, true, List, Option, None, Some, sym, subst, ap, ◌∙◌}
use Rattle.std.specs.List.{list_all}
use Rattle.nqs_types.specs.declared.world.WorldEvent.{WorldEvent}
use Rattle.nqs_outside.specs.Streams.{Fed}
use Rattle.nqs_laws.specs.Sane.{IsSite}
use Rattle.nqs_language_acts.specs.Acts.{is_sane_line}
use Rattle.nqs_language_acts.specs.Laws.{SchedulesAreSane, GeneratedSchedulesAreSane, SitesAreRight, GeneratedSitesAreRight}
use Rattle.nqs_network_runs.specs.declared.words.Generation.{Generation}
use Rattle.nqs_network_runs.specs.Words.{IsWithin}
use Rattle.nqs_network_runs.specs.Headline.{IsAskedBy, IsAsked}
use Rattle.nqs_network_runs.proofs.Matched.{asked_within}

sane_by : (generation : Option Generation) (source : Fed) (site : List (List ℕ)) (events : List WorldEvent) → SchedulesAreSane → GeneratedSchedulesAreSane
    → IsAskedBy generation source site events → list_all is_sane_line events ≡ true
sane_by None source site events read drawn by = ap (list_all is_sane_line) by.5 ∙ read by.0 by.1 by.3
sane_by (Some g) source site events read drawn by = ap (list_all is_sane_line) by.1 ∙ drawn g.seed g.hosts g.events

site_by : (generation : Option Generation) (source : Fed) (site : List (List ℕ)) (events : List WorldEvent) → IsWithin generation → SitesAreRight
    → GeneratedSitesAreRight → IsAskedBy generation source site events → IsSite site
site_by None source site events few read drawn by = subst IsSite (sym by.4) (read by.0 by.1 by.3)
site_by (Some g) source site events few read drawn by = subst IsSite (sym by.0) (drawn g.hosts few.0 few.1)

pub sane_asked : (words : List (List ℕ)) (source : Fed) (site : List (List ℕ)) (events : List WorldEvent) → SchedulesAreSane → GeneratedSchedulesAreSane
    → IsAsked words source site events → list_all is_sane_line events ≡ true
sane_asked words source site events read drawn asks = sane_by asks.0.generation source site events read drawn asks.2

pub site_asked : (words : List (List ℕ)) (source : Fed) (site : List (List ℕ)) (events : List WorldEvent) → SitesAreRight → GeneratedSitesAreRight
    → IsAsked words source site events → IsSite site
site_asked words source site events read drawn asks = site_by asks.0.generation source site events (asked_within words asks.0 asks.1) read drawn asks.2
