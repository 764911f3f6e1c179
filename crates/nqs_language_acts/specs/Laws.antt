-- What words, lines and schedules ask for is within the limits of the rules.
use Rattle.std.specs.Prelude.{◌≡◌, ℕ, ◌<◌, ◌≤◌, true, List, map, IsTrue}
use Rattle.std.specs.List.{list_all}
use Rattle.nqs_types.specs.declared.world.WorldEvent.{WorldEvent}
use Rattle.nqs_rules.specs.Sane.{is_sane_command}
use Rattle.nqs_laws.specs.Sane.{AreSane, IsSite}
use Rattle.nqs_qmgr.specs.Lines.{qmgr_line}
use Rattle.nqs_query.specs.Words.{stat_of, delete_of}
use Rattle.nqs_schedule.specs.Schedule.{State, IsSchedule}
use Rattle.nqs_schedule.specs.Generated.{generated, generated_site}
use Rattle.nqs_language_acts.specs.Acts.{of_line, of_words, listed, qsub_command, act_of, is_sane_line}

-- whatever the words and the script are
abbrev pub SubmissionsAreSane : Type 0
SubmissionsAreSane = (user : List ℕ) (words : List (List ℕ)) (script : List ℕ) → IsTrue (is_sane_command (qsub_command user words script))

-- whatever the line of qmgr is
abbrev pub EditsAreSane : Type 0
EditsAreSane = (line : List ℕ) → IsTrue (is_sane_command (of_line (qmgr_line line)))

-- whatever the words of qstat are
abbrev pub ListsAreSane : Type 0
ListsAreSane = (words : List (List ℕ)) → IsTrue (is_sane_command (of_words (listed (stat_of words))))

-- whatever the words of qdel are
abbrev pub DeletionsAreSane : Type 0
DeletionsAreSane = (words : List (List ℕ)) → IsTrue (is_sane_command (of_words (delete_of words)))

-- each event of a schedule that is read
abbrev pub SchedulesAreSane : Type 0
SchedulesAreSane = (bytes : List ℕ) (state : State) → IsSchedule bytes state → list_all is_sane_line state.events ≡ true

-- and of one that a seed gives
abbrev pub GeneratedSchedulesAreSane : Type 0
GeneratedSchedulesAreSane = (seed hosts events : ℕ) → list_all is_sane_line (generated seed hosts events) ≡ true

-- so are the acts that such events ask for
abbrev pub ActsAreSane : Type 0
ActsAreSane = (events : List WorldEvent) → list_all is_sane_line events ≡ true → AreSane (map act_of events)

-- the site of a schedule that is read
abbrev pub SitesAreRight : Type 0
SitesAreRight = (bytes : List ℕ) (state : State) → IsSchedule bytes state → IsSite state.site

-- and of one that a seed gives
abbrev pub GeneratedSitesAreRight : Type 0
GeneratedSitesAreRight = (hosts : ℕ) → 0 < hosts → hosts ≤ 16 → IsSite (generated_site hosts)
