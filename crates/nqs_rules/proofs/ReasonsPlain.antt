-- A reason looks at no stored part, and what is told of a request neither.
use Rattle.std.proofs.Common.{◌≡◌, ℕ, ◌&&◌, nat_lt, [], ◌∷◌, ◌++◌, map, length, filter, find, Option, None, Some}
use Rattle.std.proofs.Common.{refl, ap, ◌∙◌, unwrap_or, if◌then◌else◌}
use Rattle.nqs_state.specs.State.{State}
use Rattle.nqs_types.specs.declared.ids.HostId.{HostId}
use Rattle.nqs_types.specs.declared.ids.Dest.{Dest}
use Rattle.nqs_types.specs.declared.request.Peer.{Peer}
use Rattle.nqs_types.specs.declared.request.Row.{Row}
use Rattle.nqs_types.specs.declared.queue.Kind.{Kind}
use Rattle.nqs_types.specs.declared.queue.Kind.TheVariants.{Batch, Device, Pipe}
use Rattle.nqs_types.specs.declared.queue.QueueDef.{QueueDef}
use Rattle.nqs_rules.specs.Tests.{same_host, is_queued}
use Rattle.nqs_rules.specs.Find.{find_queue, find_peer}
use Rattle.nqs_rules.specs.Routing.{refuses}
use Rattle.nqs_rules.specs.Order.{below, is_active_in, is_active_of, runs_in_batch, comes_before}
use Rattle.nqs_rules.specs.Plain.{map_row, map_state}
use Rattle.nqs_index.proofs.Numbers.{number-map}
use Rattle.nqs_types.specs.declared.reason.Reason.TheVariants.{QueueStopped, UserLimit, RunLimit, ComplexLimit, GlobalLimit, NoDevice, Next}
use Rattle.nqs_types.specs.declared.reason.DestAnswer.TheVariants.{MayBeTried}
use Rattle.nqs_rules.specs.Answers.{refusal_conditions, peer_conditions, answer_of}
use Rattle.nqs_rules.specs.Reasons.{first_failing, failing, or_last, state_reason, own_conditions, kind_conditions, wait_conditions, conditions}
use Rattle.nqs_rules.specs.Reasons.{goes_first, next_in, reason_in, reason_of, reasons_in, reasons_of, waits_before, count_before}
use Rattle.std.specs.List.{flat_map}
use Rattle.nqs_rules.specs.Why.{reason_line, dest_lines, before_lines, why_lines}
use Rattle.nqs_rules.proofs.StartPlain.{complex_allows-map, kind_allows-map, eligible-map}

module _ {E F : Type 0} (f : E → F) (now : ℕ) (s : State E) where
  module _ (d : QueueDef) (r : Row E) where
    kind_conditions-map : (k : Kind) → kind_conditions k d now (map_state f s) (map_row f r) ≡ kind_conditions k d now s r
    kind_conditions-map Batch = (λ j. map (λ c. (complex_allows-map f d.name s c j, ComplexLimit c.name c.limit)) s.complexes
        ++ (nat_lt (number-map (map_row f) (runs_in_batch (map_state f s)) s.rows j) s.global_limit, GlobalLimit s.global_limit) ∷ [])
    kind_conditions-map Device = (λ j. (kind_allows-map f Device d now s r j, NoDevice r.job.forms) ∷ [])
    kind_conditions-map Pipe = refl

    -- what waits in the queue
    wait_conditions-map : wait_conditions d now (map_state f s) (map_row f r) ≡ wait_conditions d now s r
    wait_conditions-map = (λ j. own_conditions now r
        ++ ((d.started, QueueStopped)
        ∷ (below (number-map (map_row f) (is_active_of d.name r.job.owner) s.rows j) d.user_limit, UserLimit (unwrap_or d.user_limit 0))
        ∷ (nat_lt (number-map (map_row f) (is_active_in d.name) s.rows j) d.run_limit, RunLimit d.run_limit) ∷ kind_conditions-map d.kind j))

    conditions-map : conditions d now (map_state f s) (map_row f r) ≡ conditions d now s r
    conditions-map = (λ j. (is_queued r.state, state_reason r.state) ∷ wait_conditions-map j)

    next-map : next_in d now (map_state f s) (map_row f r) ≡ next_in d now s r
    next-map =
        ap Next (number-map (map_row f) (goes_first d now (map_state f s) (map_row f r)) s.rows
        ∙ (λ j. length (filter (λ other. comes_before other r && eligible-map f d now s other j) s.rows)))

  pub reason-map : (r : Row E) → reason_of now (map_state f s) (map_row f r) ≡ reason_of now s r
  reason-map r = of (find_queue r.queue s)
    where
      of : (o : Option QueueDef) → reason_in o now (map_state f s) (map_row f r) ≡ reason_in o now s r
      of None = refl
      of (Some d) = (λ j. first_failing (conditions-map d r j) (next-map d r j))

  pub reasons-map : (r : Row E) → reasons_of now (map_state f s) (map_row f r) ≡ reasons_of now s r
  reasons-map r = of (find_queue r.queue s)
    where
      of : (o : Option QueueDef) → reasons_in o now (map_state f s) (map_row f r) ≡ reasons_in o now s r
      of None = refl
      of (Some d) = (λ j. if is_queued r.state
          then or_last (failing (wait_conditions-map d r j)) (next-map d r j) else (state_reason r.state ∷ []))

  pub count_before-map : (r : Row E) → count_before now (map_state f s) (map_row f r) ≡ count_before now s r
  count_before-map r = number-map (map_row f) (waits_before now (map_row f r)) s.rows

  peer_conditions-map : (o : Option Peer) (host : HostId) → peer_conditions o host now (map_state f s) ≡ peer_conditions o host now s
  peer_conditions-map None host = refl
  peer_conditions-map (Some p) host = refl

  pub answer-map : (r : Row E) (dest : Dest) → answer_of now (map_state f s) (map_row f r) dest ≡ answer_of now s r dest
  answer-map r dest =
      (λ j. first_failing (refusal_conditions (find (refuses dest) r.refused)
      ++ (if same_host s.me dest.host then [] else peer_conditions-map (find_peer dest.host s) dest.host j)) MayBeTried)

  -- what is told of a request at a moment
  pub why_lines-map : (r : Row E) → why_lines now (map_state f s) (map_row f r) ≡ why_lines now s r
  why_lines-map r = (λ j. flat_map (λ reason. reason_line s.site r.id r.queue reason
      ∷ dest_lines s.site reason (find_queue r.queue s) (λ dest. answer-map r dest j)) (reasons-map r j)
      ++ before_lines r.state (count_before-map r j))
