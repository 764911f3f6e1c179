-- The script that was submitted with a request.
use Rattle.std.specs.Prelude.{◌≡◌, ℕ, if◌then◌else◌, List, [], ◌∷◌, Option, None, Some}
use Rattle.nqs_types.specs.Ids.{id_eq}
use Rattle.nqs_state.specs.State.{Plain}
use Rattle.nqs_rules.specs.Applied.{applied}
use Rattle.nqs_rules.specs.Edits.{change_at}
use Rattle.nqs_rules.specs.Find.{find_row, find_promise}
use Rattle.nqs_rules.specs.World.{World}
use Rattle.nqs_types.specs.declared.ids.HostId.{HostId}
use Rattle.nqs_types.specs.declared.ids.RequestId.{RequestId}
use Rattle.nqs_types.specs.declared.request.Carried.{Carried}
use Rattle.nqs_types.specs.declared.request.Row.{Row}
use Rattle.nqs_types.specs.declared.request.Promise.{Promise}
use Rattle.nqs_types.specs.declared.message.Message.{Message}
use Rattle.nqs_types.specs.declared.message.Body.TheVariants.{Offer}
use Rattle.nqs_types.specs.declared.change.Change.{Change}
use Rattle.nqs_types.specs.declared.change.Change.TheVariants.{Submitted}
use Rattle.nqs_rules.specs.Notes.{Note, Saw, Kept}
use Rattle.nqs_laws.specs.Handovers.{IsStateOf, WasSent}
use Rattle.nqs_laws.specs.Numbers.{next_numbered}

-- the script of the submission that was kept under this request's number, if there was one
abbrev pub submitted_script : RequestId → List Plain → List Note → Option (List ℕ)
submitted_script x states [] = None
submitted_script x states (Saw y ∷ ns) = submitted_script x states ns
submitted_script x states (Kept h why c ∷ ns) = by c (submitted_script x (change_at h.0 (applied c) states) ns)
  where
    by : Change (List ℕ) → Option (List ℕ) → Option (List ℕ)
    by (Submitted queue job script) rest = if id_eq x (next_numbered h states) then Some script else rest
    by c rest = rest

-- Each row, each promise and each offer that was ever sent has the script that was submitted with
-- its request.
pub record AreKept (first : List Plain) (notes : List Note) (w : World) : Type 0 where
  pub rows : (h : HostId) (s : Plain) → IsStateOf w h s → (x : RequestId) (r : Row (List ℕ)) → find_row x s ≡ Some r
      → submitted_script x first notes ≡ Some r.script
  pub promises : (h : HostId) (s : Plain) → IsStateOf w h s → (from : HostId) (number : ℕ) (p : Promise (List ℕ)) → find_promise from number s ≡ Some p
      → submitted_script p.row.id first notes ≡ Some p.row.script
  pub offers : (m : Message) (number low : ℕ) (queue : List ℕ) (c : Carried) (script : List ℕ) → WasSent w m → m.body ≡ Offer number low queue c script
      → submitted_script c.id first notes ≡ Some script
