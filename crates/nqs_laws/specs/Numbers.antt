-- The numbers that hosts give to requests.
use Rattle.std.specs.Prelude.{◌≡◌, ℕ, ◌+◌, ◌&&◌, nat_le, Bool, true, false, List, ◌++◌, map, IsTrue}
use Rattle.std.specs.List.{list_all}
use Rattle.nqs_state.specs.State.{Plain}
use Rattle.nqs_rules.specs.Applied.{applied}
use Rattle.nqs_rules.specs.Edits.{change_at}
use Rattle.nqs_rules.specs.Net.{last_given}
use Rattle.nqs_rules.specs.World.{World}
use Rattle.nqs_rules.specs.Run.{states_of}
use Rattle.nqs_types.specs.declared.ids.HostId.{HostId}
use Rattle.nqs_types.specs.declared.ids.RequestId.{RequestId}
use Rattle.nqs_types.specs.declared.request.Row.{Row}
use Rattle.nqs_types.specs.declared.request.Hand.{Hand}
use Rattle.nqs_types.specs.declared.request.Promise.{Promise}
use Rattle.nqs_types.specs.declared.request.Carried.{Carried}
use Rattle.nqs_types.specs.declared.change.Change.{Change}
use Rattle.nqs_types.specs.declared.change.Change.TheVariants.{Submitted}
use Rattle.nqs_laws.specs.Handovers.{IsStateOf}
use Rattle.nqs_laws.specs.Launches.{lies}
use Rattle.nqs_laws.specs.Words.{offers_pass}

-- the number of a request is one that the host of its submission has given
abbrev pub was_numbered : List Plain → RequestId → Bool
was_numbered states x = nat_le 1 x.seq && nat_le x.seq (last_given x.host states)

-- the requests that a host knows of: its rows, what it hands over, and what it promised
abbrev pub requests_in : Plain → List RequestId
requests_in s = map (λ (r : Row (List ℕ)). r.id) s.rows ++ map (λ (h : Hand). h.id) s.hands ++ map (λ (p : Promise (List ℕ)). p.row.id) s.promises

-- each request that a host knows of, or that an offer carries, has a number that was given
pub record AreNumbered (w : World) : Type 0 where
  pub known : (h : HostId) (s : Plain) → IsStateOf w h s → IsTrue (list_all (was_numbered (states_of w)) (requests_in s))
  pub offered : IsTrue (list_all (offers_pass (λ (c : Carried). was_numbered (states_of w) c.id)) w.packets)

-- how many numbers a change gives: a submission one, and no other change any
abbrev pub numbers_given : Change (List ℕ) → ℕ
numbers_given (Submitted queue job script) = 1
numbers_given c = 0

-- the request that a host would number next
abbrev pub next_numbered : HostId → List Plain → RequestId
next_numbered h states = record { seq = last_given h states + 1; host = h }

-- A change moves the last number of its own host by as many as it gives, and that of no other host.
pub record NumbersMove (states : List Plain) (h : HostId) (c : Change (List ℕ)) : Type 0 where
  pub own : last_given h (change_at h.0 (applied c) states) ≡ last_given h states + numbers_given c
  pub others : (g : HostId) → (g ≡ h → ⊥) → last_given g (change_at h.0 (applied c) states) ≡ last_given g states

-- A request comes in by a change that gives a number, and has that number; such a change brings in
-- its request.
pub record NewAreNumbered (states : List Plain) (h : HostId) (c : Change (List ℕ)) : Type 0 where
  pub new : (x : RequestId) → lies x states ≡ false → lies x (change_at h.0 (applied c) states) ≡ true → (numbers_given c ≡ 1) × (x ≡ next_numbered h states)
  pub given : numbers_given c ≡ 1 → (lies (next_numbered h states) states ≡ false) × (lies (next_numbered h states) (change_at h.0 (applied c) states) ≡ true)
