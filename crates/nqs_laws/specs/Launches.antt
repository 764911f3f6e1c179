-- Launches, losses and ends of requests, as a history has them.
use Rattle.std.specs.Prelude.{◌≡◌, ℕ, ◌+◌, Bool, true, false, not, ◌&&◌, ◌||◌, ◌==◌, List, [], ◌∷◌, Option, None, Some, is_some}
use Rattle.std.specs.List.{list_any, filter_map}
use Rattle.nqs_types.specs.Ids.{id_eq}
use Rattle.nqs_state.specs.State.{Plain}
use Rattle.nqs_rules.specs.Applied.{applied}
use Rattle.nqs_rules.specs.Edits.{change_at}
use Rattle.nqs_rules.specs.Net.{Entry, entry_of}
use Rattle.nqs_rules.specs.Notes.{Note, Saw, Kept}
use Rattle.nqs_types.specs.declared.ids.HostId.{HostId}
use Rattle.nqs_types.specs.declared.ids.RequestId.{RequestId}
use Rattle.nqs_types.specs.declared.event.Reply.TheVariants as reply
use Rattle.nqs_types.specs.declared.table_row.NetState.TheVariants.{Running}
use Rattle.nqs_types.specs.declared.world.Seen.TheVariants as seen

-- a request, and the number of its start
abbrev pub Launch : Type 0
Launch = RequestId × ℕ

-- a start of a job is seen, or of a print
abbrev pub launched : Note → Option Launch
launched (Saw (seen.Launch h id start)) = Some (id, start)
launched (Saw (seen.Print h id start device)) = Some (id, start)
launched n = None

-- the launches of a history, in their order
abbrev pub launches : List Note → List Launch
launches ns = filter_map launched ns

-- two launches are of one request, and have one number
abbrev pub same_launch : Launch → Launch → Bool
same_launch a b = id_eq a.0 b.0 && a.1 == b.1

-- a request was lost once more
abbrev pub was_lost_again : Option Entry → Option Entry → Bool
was_lost_again (Some a) (Some b) = b.lost == a.lost + 1
was_lost_again _ _ = false

-- what was seen is a launch, and of this request
abbrev pub is_launch_of : RequestId → Option Launch → Bool
is_launch_of x None = false
is_launch_of x (Some l) = id_eq x l.0

-- the states after a note
abbrev pub states_after : List Plain → Note → List Plain
states_after states (Saw x) = states
states_after states (Kept h why c) = change_at h.0 (applied c) states

-- whether a request was launched since it was last lost, if it was so before
abbrev pub pending_after : RequestId → List Plain → Bool → Note → Bool
pending_after x states pending (Saw y) = is_launch_of x (launched (Saw y)) || pending
pending_after x states pending (Kept h why c) = pending && not (was_lost_again (entry_of x states) (entry_of x (states_after states (Kept h why c))))

-- Before each launch the request was lost since its last one.
abbrev pub AreApart : RequestId → List Plain → Bool → List Note → Type 0
AreApart x states pending [] = Unit {0}
AreApart x states pending (n ∷ ns) = (is_launch_of x (launched n) ≡ true → pending ≡ false)
    × AreApart x (states_after states n) (pending_after x states pending n) ns

-- A launch by a host is of a request that lies with it and runs, and has the number of its starts:
-- once more than it was lost, and 1 where it isn't rerunnable.
pub record IsStarted (states : List Plain) (h : HostId) (l : Launch) : Type 0 where
  pub entry : Entry
  pub lies : entry_of l.0 states ≡ Some entry
  pub here : entry.host ≡ h
  pub runs : entry.state ≡ Running
  pub starts : entry.starts ≡ l.1
  pub lost : l.1 ≡ entry.lost + 1
  pub once : entry.rerun ≡ false → l.1 ≡ 1

-- where something is launched, it is started so
abbrev pub IsStartedIn : List Plain → Note → Type 0
IsStartedIn states (Saw (seen.Launch h id start)) = IsStarted states h (id, start)
IsStartedIn states (Saw (seen.Print h id start device)) = IsStarted states h (id, start)
IsStartedIn states n = Unit {0}

-- each launch of a history is of a request that is started so at that moment
abbrev pub AreStarted : List Plain → List Note → Type 0
AreStarted states [] = Unit {0}
AreStarted states (n ∷ ns) = IsStartedIn states n × AreStarted (states_after states n) ns

-- the reply to a submission was seen
abbrev pub acknowledges : RequestId → Note → Bool
acknowledges x (Saw (seen.Reply (reply.Submitted id queue))) = id_eq x id
acknowledges x n = false

-- a host has told that it took the request's submission
abbrev pub is_acknowledged : RequestId → List Note → Bool
is_acknowledged x ns = list_any (acknowledges x) ns

-- the request lies in some queue of some host, or is arriving there
abbrev pub lies : RequestId → List Plain → Bool
lies x states = is_some (entry_of x states)

-- A request was deleted, has ended or was lost by a boot: a kept change took it from the table.
abbrev pub was_taken_out : RequestId → List Plain → List Note → Bool
was_taken_out x states [] = false
was_taken_out x states (n ∷ ns) = (lies x states && not (lies x (states_after states n))) || was_taken_out x (states_after states n) ns
