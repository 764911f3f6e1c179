-- The network table: where each request lies, over the plain states of all hosts at once. No
-- journal, message, hand number or phase is in it.
use Rattle.std.specs.Prelude.{ℕ, ◌+◌, Bool, if◌then◌else◌, List, [], ◌∷◌, ◌++◌, map, filter, find, slice_get, Option, None, Some}
use Rattle.nqs_types.specs.Ids.{id_eq}
use Rattle.nqs_index.specs.Runs.{is_less_id}
use Rattle.nqs_state.specs.State.{Plain}
use Rattle.nqs_rules.specs.Tests.{passes}
use Rattle.nqs_rules.specs.Find.{find_hand, host_at}
use Rattle.nqs_rules.specs.Fits.{is_committed_hand}
use Rattle.nqs_rules.specs.InOrder.{are_distinct}
use Rattle.nqs_rules.specs.Text.{seen_state}
use Rattle.nqs_types.specs.declared.ids.HostId.{HostId}
use Rattle.nqs_types.specs.declared.ids.RequestId.{RequestId}
use Rattle.nqs_types.specs.declared.request.Row.{Row}
use Rattle.nqs_types.specs.declared.request.Promise.{Promise}
use Rattle.nqs_types.specs.declared.table_row.NetState.{NetState}
use Rattle.nqs_types.specs.declared.table_row.NetState.TheVariants.{Arriving}
use Rattle.nqs_types.specs.declared.table_row.TableRow.{TableRow}

-- a request in the network: the host that it lies with, its queue and state, and what goes with it
pub record Entry : Type 0 where
  pub id : RequestId
  pub host : HostId
  pub queue : List ℕ
  pub state : NetState
  pub owner : List ℕ
  pub rerun : Bool
  pub doomed : Bool
  pub starts : ℕ
  pub lost : ℕ

-- the entry of a request that lies on a host in a state of the table
abbrev pub entry_in : HostId → NetState → Row (List ℕ) → Entry
entry_in h state r = record {
  id = r.id;
  host = h;
  queue = r.queue;
  state = state;
  owner = r.job.owner;
  rerun = r.job.rerun;
  doomed = r.doomed;
  starts =
      r.starts;
  lost = r.lost;
}

-- the entry of a request that a host has
abbrev pub row_entry : HostId → Row (List ℕ) → Entry
row_entry h r = entry_in h (seen_state r) r

-- the entry of a request that a host was promised
abbrev pub promise_entry : HostId → Promise (List ℕ) → Entry
promise_entry h p = entry_in h Arriving p.row

-- the sender of a promise has committed its handover to this host
abbrev pub is_committed_to : HostId → ℕ → Plain → Bool
is_committed_to receiver number sender = passes is_committed_hand (find_hand receiver number sender)

-- whether a promise's request is its host's already: the peer's hand is committed
abbrev pub is_arriving : List Plain → HostId → Promise (List ℕ) → Bool
is_arriving states h p = passes (is_committed_to h p.number) (slice_get states p.peer.0)

-- the promises of a host whose requests are its own already
abbrev pub arriving : List Plain → HostId → Plain → List (Promise (List ℕ))
arriving states h s = filter (is_arriving states h) s.promises

-- A request lies with a host where the host has a row of it, or a promise that its sender has
-- committed.
abbrev pub entries_at : List Plain → HostId → Plain → List Entry
entries_at states h s = map (row_entry h) s.rows ++ map (promise_entry h) (arriving states h s)

-- the entries of the hosts from a place on
abbrev pub entries_from : ℕ → List Plain → List Plain → List Entry
entries_from place states [] = []
entries_from place states (s ∷ rest) = entries_at states (host_at place) s ++ entries_from (place + 1) states rest

-- the places of all requests
abbrev pub entries : List Plain → List Entry
entries states = entries_from 0 states states

-- no request lies in two places
abbrev pub is_table : List Plain → Bool
is_table states = are_distinct id_eq (map (λ e. e.id) (entries states))

-- where a request lies
abbrev pub entry_of : RequestId → List Plain → Option Entry
entry_of id states = find (λ e. id_eq id e.id) (entries states)

-- the last number that a host has given
abbrev pub last_given : HostId → List Plain → ℕ
last_given h states = given (slice_get states h.0)
  where
    given : Option Plain → ℕ
    given None = 0
    given (Some s) = s.seq

-- the table as it is shown, by host and then by request

-- the order of a host's entries: by request
abbrev pub is_less_entry : Entry → Entry → Bool
is_less_entry a b = is_less_id a.id b.id

-- a list in the order of requests
abbrev pub put_entry : Entry → List Entry → List Entry
put_entry e [] = e ∷ []
put_entry e (f ∷ fs) = if is_less_entry e f then e ∷ f ∷ fs else f ∷ put_entry e fs

-- entries in the order of their requests
abbrev pub by_request : List Entry → List Entry
by_request [] = []
by_request (e ∷ es) = put_entry e (by_request es)

-- what the table shows of an entry
abbrev pub table_row : Entry → TableRow
table_row e = record { id = e.id; host = e.host; queue = e.queue; state = e.state; owner = e.owner; starts = e.starts; lost = e.lost }

-- the rows of one host
abbrev pub table_at : List Plain → HostId → Plain → List TableRow
table_at states h s = map table_row (by_request (entries_at states h s))

-- the rows of the hosts from a place on
abbrev pub table_from : ℕ → List Plain → List Plain → List TableRow
table_from place states [] = []
table_from place states (s ∷ rest) = table_at states (host_at place) s ++ table_from (place + 1) states rest

-- the network's table: by host, and then by request
abbrev pub table : List Plain → List TableRow
table states = table_from 0 states states
