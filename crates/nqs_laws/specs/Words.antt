-- Words for what holds at every moment of a run.
use Rattle.std.specs.Prelude.{◌≡◌, ℕ, ◌+◌, Bool, true, ◌&&◌, ◌||◌, ◌==◌, List, [], ◌∷◌, length, Option, None, Some, IsTrue, slice_get}
use Rattle.std.specs.List.{list_all}
use Rattle.nqs_state.specs.State.{Plain}
use Rattle.nqs_rules.specs.Tests.{passes, same_host}
use Rattle.nqs_rules.specs.Applied.{applied}
use Rattle.nqs_rules.specs.Edits.{change_at}
use Rattle.nqs_rules.specs.Find.{host_at}
use Rattle.nqs_rules.specs.InOrder.{IsWholeInOrder, IsConsistent}
use Rattle.nqs_rules.specs.Net.{Entry}
use Rattle.nqs_rules.specs.Sane.{is_sane_message}
use Rattle.nqs_rules.specs.World.{World}
use Rattle.nqs_rules.specs.Run.{states_of}
use Rattle.nqs_rules.specs.Notes.{Note, Saw, Kept}
use Rattle.nqs_types.specs.declared.ids.HostId.{HostId}
use Rattle.nqs_types.specs.declared.request.Carried.{Carried}
use Rattle.nqs_types.specs.declared.message.Message.{Message}
use Rattle.nqs_types.specs.declared.message.Body.{Body}
use Rattle.nqs_types.specs.declared.message.Body.TheVariants as body
use Rattle.nqs_types.specs.declared.table_row.NetState.{NetState}
use Rattle.nqs_types.specs.declared.table_row.NetState.TheVariants.{Running}
use Rattle.nqs_types.specs.declared.world.Seen.{Seen}
use Rattle.nqs_types.specs.declared.world.Seen.TheVariants as seen

-- the host at a place of the site, in order
pub record IsRight (site : List (List ℕ)) (place : ℕ) (s : Plain) : Type 0 where
  pub me : s.me ≡ host_at place
  pub names : s.site ≡ site
  pub order : IsWholeInOrder length s
  pub consistent : IsConsistent s

-- each host is in order, and each packet that was ever sent is within its limits
pub record IsInOrderAll (site : List (List ℕ)) (w : World) : Type 0 where
  pub hosts : (place : ℕ) (s : Plain) → slice_get (states_of w) place ≡ Some s → IsRight site place s
  pub count : length (states_of w) ≡ length site
  pub packets : IsTrue (list_all (is_sane_message (length site)) w.packets)

-- the states after the kept changes, each made of the state of its host
abbrev pub replayed : List Note → List Plain → List Plain
replayed [] states = states
replayed (Saw x ∷ ns) states = replayed ns states
replayed (Kept h why c ∷ ns) states = replayed ns (change_at h.0 (applied c) states)

-- a request that runs was started once more than it was lost, and another as often
abbrev pub is_counted : Entry → Bool
is_counted e = if_running e.state (e.starts == e.lost + 1) (e.starts == e.lost)
  where
    if_running : NetState → Bool → Bool → Bool
    if_running Running a b = a
    if_running _ a b = b

-- a request that isn't rerunnable was never lost
abbrev pub is_never_lost : Entry → Bool
is_never_lost e = e.rerun || e.lost == 0

-- what is carried was lost as often as it was started
abbrev pub is_carried_counted : Carried → Bool
is_carried_counted c = c.starts == c.lost

-- what is carried is rerunnable, or was never lost
abbrev pub is_carried_never_lost : Carried → Bool
is_carried_never_lost c = c.job.rerun || c.lost == 0

-- what an offer carries passes the test
abbrev pub body_passes : (Carried → Bool) → Body → Bool
body_passes test (body.Offer _ _ _ c _) = test c
body_passes test _ = true

-- what a message offers, if it is an offer, passes the test
abbrev pub offers_pass : (Carried → Bool) → Message → Bool
offers_pass test m = body_passes test m.body

-- An `again` or a `lost` stands right behind the boot of its host, or behind another such line. The
-- host is that of the boot before, if only such lines came since.
abbrev pub boots_tell : Option HostId → List Seen → Bool
boots_tell h [] = true
boots_tell h (seen.Boot g ∷ xs) = boots_tell (Some g) xs
boots_tell h (seen.Again g id ∷ xs) = passes (same_host g) h && boots_tell h xs
boots_tell h (seen.Lost g id ∷ xs) = passes (same_host g) h && boots_tell h xs
boots_tell h (x ∷ xs) = boots_tell None xs
