-- What a handover carries from host to host.
use Rattle.std.specs.Prelude.{ℕ, List, Option}
use Rattle.std.specs.Option.{option_map, option_and_then}
use Rattle.nqs_state.specs.State.{Plain}
use Rattle.nqs_rules.specs.Find.{find_row, find_hand, find_promise}
use Rattle.nqs_rules.specs.Handover.{carried_of}
use Rattle.nqs_types.specs.declared.ids.HostId.{HostId}
use Rattle.nqs_types.specs.declared.ids.RequestId.{RequestId}
use Rattle.nqs_types.specs.declared.request.Carried.{Carried}
use Rattle.nqs_types.specs.declared.request.Row.{Row}
use Rattle.nqs_types.specs.declared.request.Hand.{Hand}
use Rattle.nqs_types.specs.declared.request.Promise.{Promise}

-- the request as its receiver gets it (its job, its starts, losses and hops), the queue that it
-- goes to, and its script
pub record Load : Type 0 where
  pub carried : Carried
  pub queue : List ℕ
  pub script : List ℕ

-- what an offer of a row to a queue carries: there it has been moved once more
abbrev pub offered_load : List ℕ → Row (List ℕ) → Load
offered_load queue r = record { carried = carried_of r; queue = queue; script = r.script }

-- what was promised, as its row keeps it
abbrev pub kept_load : Row (List ℕ) → Load
kept_load r = record { carried = record { id = r.id; job = r.job; starts = r.starts; lost = r.lost; hops = r.hops }; queue = r.queue; script = r.script }

-- what an offer that was sent carries
abbrev pub sent_load : List ℕ → Carried → List ℕ → Load
sent_load queue c script = record { carried = c; queue = queue; script = script }

-- of the source: what its handover of this number carries, of the row that is on its way
abbrev pub load_of : HostId → ℕ → Plain → Option Load
load_of to n s = option_and_then (λ (h : Hand). option_map (offered_load h.queue) (find_row h.id s)) (find_hand to n s)

-- of the receiver: what it keeps of a promise of this number
abbrev pub promised_load : HostId → ℕ → Plain → Option Load
promised_load from n t = option_map (λ (p : Promise (List ℕ)). kept_load p.row) (find_promise from n t)

-- which request goes to which queue
pub record Errand : Type 0 where
  pub id : RequestId
  pub queue : List ℕ

-- the errand of this request to this queue
abbrev pub errand : RequestId → List ℕ → Errand
errand id queue = record { id = id; queue = queue }

-- of the source: what its handover of this number is for
abbrev pub handed_errand : HostId → ℕ → Plain → Option Errand
handed_errand to n s = option_map (λ (h : Hand). errand h.id h.queue) (find_hand to n s)

-- of the receiver: what its promise of this number is for
abbrev pub promised_errand : HostId → ℕ → Plain → Option Errand
promised_errand from n t = option_map (λ (p : Promise (List ℕ)). errand p.row.id p.row.queue) (find_promise from n t)
