-- The running requests of a host.
use Rattle.std.specs.Prelude.{◌≡◌, ℕ, zero, suc, ◌-◌, ◌<◌, Bool, ◌&&◌, ◌||◌, ◌==◌, nat_lt, true, List, [], ◌∷◌, length, filter, Option, None, Some}
use Rattle.std.specs.Option.{option_map}
use Rattle.nqs_types.specs.Ids.{id_eq}
use Rattle.nqs_types.specs.declared.ids.RequestId.{RequestId}
use Rattle.nqs_base_tables.specs.Table.{has_key, best_from}
use Rattle.nqs_index.specs.declared.runs.Run.{Run}

-- the order of requests: by the host of their submission, then by number
abbrev pub is_less_id : RequestId → RequestId → Bool
is_less_id a b = nat_lt a.host.0 b.host.0 || (a.host.0 == b.host.0 && nat_lt a.seq b.seq)

-- whether a run is this request's
abbrev pub is_run : RequestId → Run → Bool
is_run = has_key id_eq (λ r. r.id)

-- a request so many times, before others
abbrev pub times : ℕ → RequestId → List RequestId → List RequestId
times zero id ids = ids
times (suc n) id ids = id ∷ times n id ids

-- the requests that run, each as often as rows of it do
abbrev pub ids_of : List Run → List RequestId
ids_of [] = []
ids_of (r ∷ rs) = times (suc r.more) r.id (ids_of rs)

-- a run of one row more
abbrev pub with_more : Run → Run
with_more r = record { id = r.id; more = suc r.more }

-- a run of one row less
abbrev pub with_fewer : Run → Run
with_fewer r = record { id = r.id; more = r.more - 1 }

-- whether a run is of one row, if there is one
abbrev pub is_single : Option Run → Bool
is_single None = true
is_single (Some r) = r.more == 0

-- the least of the requests that run
abbrev pub least_of : List Run → Option RequestId
least_of runs = option_map (λ p. p.1.id) (best_from (λ _. true) (λ a b. is_less_id a.id b.id) 0 runs)

-- a request is among these, and none of them is less
abbrev pub IsLeast : RequestId → List RequestId → Type 0
IsLeast id ids = (0 < length (filter (id_eq id) ids)) × (length (filter (λ other. is_less_id other id) ids) ≡ 0)
