-- The summary of a run: how many things of each kind were seen.
use Rattle.std.specs.Prelude.{ℕ, ◌+◌, Bool, true, false, nat_lt, List, [], ◌∷◌, ◌++◌, codes, if◌then◌else◌}
use Rattle.std.specs.Fmt.{decimal}
use Rattle.nqs_types.specs.declared.event.Reply.{Reply}
use Rattle.nqs_types.specs.declared.event.Reply.TheVariants as reply
use Rattle.nqs_types.specs.declared.world.Seen.{Seen}
use Rattle.nqs_types.specs.declared.world.Seen.TheVariants as seen
use Rattle.nqs_schedule.specs.declared.summary.Summary.{Summary}

-- the reply says that a request was submitted
abbrev pub is_submitted_reply : Reply → Bool
is_submitted_reply (reply.Submitted id q) = true
is_submitted_reply _ = false

-- a request was submitted
abbrev pub is_submitted : Seen → Bool
is_submitted (seen.Reply r) = is_submitted_reply r
is_submitted _ = false

-- a job was started, by a launch or a print
abbrev pub is_launch : Seen → Bool
is_launch (seen.Launch h id n) = true
is_launch (seen.Print h id n d) = true
is_launch _ = false

-- a job ended
abbrev pub is_ended : Seen → Bool
is_ended (seen.Ended h id n s) = true
is_ended _ = false

-- a datagram was sent
abbrev pub is_packet : Seen → Bool
is_packet (seen.Packet k f t kind n) = true
is_packet _ = false

-- a host stopped
abbrev pub is_stop : Seen → Bool
is_stop (seen.Stop h) = true
is_stop _ = false

-- one more where it counts; the last number of 64 bits stays
abbrev pub more : Bool → ℕ → ℕ
more b n = if b then (if nat_lt n 18446744073709551615 then n + 1 else n) else n

-- the counts before anything was seen
abbrev pub nothing_seen : Summary
nothing_seen = record { submitted = 0; launches = 0; ended = 0; packets = 0; stops = 0 }

-- the counts with one thing more
abbrev pub counted : Summary → Seen → Summary
counted s x =
    record {
      submitted = more (is_submitted x) s.submitted;
      launches = more (is_launch x) s.launches;
      ended = more (is_ended x) s.ended;
      packets = more (is_packet x) s.packets;
      stops = more (is_stop x) s.stops;
    }

-- the counts of a list
unfoldable pub summary_of : Summary → List Seen → Summary
summary_of s [] = s
summary_of s (x ∷ xs) = summary_of (counted s x) xs

-- a count on a line
unfoldable pub count_line : List ℕ → ℕ → List ℕ
count_line word n = word ++ codes " " ++ decimal n ++ 10 ∷ []

-- the seven lines of a summary
abbrev pub summary_text : Summary → ℕ → ℕ → List ℕ
summary_text s events table =
    count_line (codes "events") events ++ (count_line (codes "submitted") s.submitted
    ++ (count_line (codes "launches") s.launches ++ (count_line (codes "ended") s.ended
    ++ (count_line (codes "packets") s.packets ++ (count_line (codes "stops") s.stops ++ count_line (codes "table") table)))))
