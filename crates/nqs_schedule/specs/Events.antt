-- The event of a line, with the bytes of its long words.
use Rattle.std.specs.Prelude.{ℕ, ◌==◌, List, [], ◌∷◌, map, drop, Option, Some, None, if◌then◌else◌, slice_get}
use Rattle.nqs_types.specs.declared.world.WorldEvent.{WorldEvent}
use Rattle.nqs_types.specs.declared.world.WorldEvent.TheVariants as event
use Rattle.nqs_schedule.specs.declared.words.LineWord.{LineWord}
use Rattle.nqs_schedule.specs.declared.words.LineWords.{LineWords}
use Rattle.nqs_schedule.specs.declared.plan.Plan.{Plan}
use Rattle.nqs_schedule.specs.declared.plan.Plan.TheVariants as plan

-- the bytes of a word, if there is one
abbrev pub text_in : Option LineWord → List ℕ
text_in (Some word) = word.text
text_in None = []

-- the bytes of a word; none where there is no such word
abbrev pub bytes_at : LineWords → ℕ → List ℕ
bytes_at ws i = text_in (slice_get ws.words i)

-- the bytes of a word
abbrev pub text_of_word : LineWord → List ℕ
text_of_word word = word.text

-- the words from a place on
abbrev pub words_behind : LineWords → ℕ → List (List ℕ)
words_behind ws i = map text_of_word (drop i ws.words)

-- without the spaces in front
abbrev pub without_spaces : List ℕ → List ℕ
without_spaces [] = []
without_spaces (b ∷ bs) = if b == 32 then without_spaces bs else b ∷ bs

-- what stands behind a word, and the spaces there
abbrev pub behind_word : List ℕ → Option LineWord → List ℕ
behind_word line (Some word) = without_spaces (drop word.end line)
behind_word line None = []

-- what stands behind the user of a line of qmgr, and the spaces there
abbrev pub qmgr_text : List ℕ → LineWords → List ℕ
qmgr_text line ws = behind_word line (slice_get ws.words 2)

-- the event that a plan stands for
abbrev pub event_of : List ℕ → LineWords → Plan → WorldEvent
event_of line ws (plan.Ready e) = e
event_of line ws (plan.Qsub host user) = event.Qsub host user (bytes_at ws 3) (words_behind ws 4)
event_of line ws (plan.Qmgr host user) = event.Qmgr host user (qmgr_text line ws)
event_of line ws (plan.Qstat host user) = event.Qstat host user (words_behind ws 3)
event_of line ws (plan.Qdel host user) = event.Qdel host user (words_behind ws 3)
event_of line ws (plan.End host id start status) = event.End host id start status (bytes_at ws 5) (bytes_at ws 6)
