-- The schedule that a seed gives.
use Rattle.std.specs.Prelude.{ℕ, zero, suc, ◌+◌, ◌*◌, ◌/◌, ◌%◌, ◌==◌, nat_lt, List, [], ◌∷◌, ◌++◌, codes, if◌then◌else◌}
use Rattle.std.specs.Fmt.{decimal}
use Rattle.rand_core.specs.Pcg32Seed.{pcg32_seed}
use Rattle.rand_pcg.specs.Lcg.{Lcg}
use Rattle.rand_pcg.specs.Pcg.{pcg32, pcg32_of_seed}
use Rattle.nqs_types.specs.declared.world.WorldEvent.{WorldEvent}
use Rattle.nqs_types.specs.declared.world.WorldEvent.TheVariants as event
use Rattle.nqs_rules.specs.Find.{host_at}

-- the hosts are `h0`, `h1` and so on
abbrev pub host_name : ℕ → List ℕ
host_name i = codes "h" ++ decimal i

-- a line of qmgr, typed by root at a host
abbrev pub root_line : ℕ → List ℕ → WorldEvent
root_line i text = event.Qmgr (host_at i) (codes "root") text

-- a pipe queue to the batch queue of another host
abbrev pub link_line : ℕ → List ℕ
link_line j = codes "create pipe_queue link destination=batch@" ++ host_name j

-- the lines that set up a host
abbrev pub set_up : ℕ → ℕ → List WorldEvent
set_up hosts i =
    root_line i (link_line ((i + 1) % hosts)) ∷ root_line i (codes "enable queue link") ∷ root_line i (codes "start queue link")
    ∷ root_line i (codes "start queue batch") ∷ []

-- for each of so many hosts, in order
unfoldable pub for_hosts : (ℕ → List WorldEvent) → ℕ → List WorldEvent
for_hosts f zero = []
for_hosts f (suc n) = for_hosts f n ++ f n

-- the priority that a word gives, from 0 to 63
abbrev pub priority_of : ℕ → ℕ
priority_of word = word / 4096 % 64

-- a submission of an empty script by the user `u`, with these options
abbrev pub qsub : ℕ → List (List ℕ) → WorldEvent
qsub a words = event.Qsub (host_at a) (codes "u") [] words

-- a submission to the pipe queue
abbrev pub piped : ℕ → ℕ → WorldEvent
piped a word = qsub a (codes "-q" ∷ codes "link" ∷ codes "-p" ∷ decimal (priority_of word) ∷ [])

-- and one that isn't started again
abbrev pub submitted_once : ℕ → WorldEvent
submitted_once a = qsub a (codes "-nr" ∷ [])

-- a stop of the host, by one word of four, and else a boot
abbrev pub stopped : ℕ → ℕ → WorldEvent
stopped a word = if word / 65536 % 4 == 0 then event.Crash (host_at a) else event.Boot (host_at a)

-- the event of a number from 0 to 15, at a host and the next one
abbrev pub choice : ℕ → ℕ → ℕ → ℕ → ℕ → WorldEvent
choice k kind word a b =
    if nat_lt kind 4 then piped a word else
    (if kind == 4 then submitted_once a else
    (if nat_lt kind 11 then event.Newest (host_at a) (host_at b) else
    (if kind == 11 then event.Tick (host_at a) else
    (if kind == 12 then event.Finish (host_at a) else
    (if kind == 13 then stopped a word else
    (if kind == 14 then event.Boot (host_at a) else event.Clock (30 * k)))))))

-- the k-th event, by its word
unfoldable pub drawn : ℕ → ℕ → ℕ → WorldEvent
drawn hosts k word = choice k (word % 16) word (word / 16 % hosts) ((word / 16 % hosts + 1) % hosts)

-- so many further events, from the k-th on
unfoldable pub drawn_from : ℕ → ℕ → Lcg → ℕ → List WorldEvent
drawn_from hosts k g zero = []
drawn_from hosts k g (suc n) = drawn hosts k (pcg32 g).0 ∷ drawn_from hosts (k + 1) (pcg32 g).1 n

-- the generator of a seed
abbrev pub generator_of : ℕ → Lcg
generator_of seed = pcg32_of_seed (pcg32_seed 16 seed)

-- a boot of the host
abbrev pub booted : ℕ → List WorldEvent
booted i = event.Boot (host_at i) ∷ []

-- the whole schedule: each host is set up, the events are drawn, each host is booted, and the table
-- is shown
unfoldable pub generated : ℕ → ℕ → ℕ → List WorldEvent
generated seed hosts events = ((for_hosts (set_up hosts) hosts ++ drawn_from hosts 1 (generator_of seed) events) ++ for_hosts booted hosts) ++ event.Show ∷ []

-- the names of so many hosts
unfoldable pub generated_site : ℕ → List (List ℕ)
generated_site zero = []
generated_site (suc n) = generated_site n ++ host_name n ∷ []
