-- What holds of every moment of a run, in the words of the laws.
use Rattle.std.proofs.Common.{ℕ, nat_le, List, [], ◌∷◌, length}
use Rattle.std.specs.List.{list_all}
use Rattle.nqs_types.specs.Scripts.{longest_script}
use Rattle.nqs_state.specs.State.{Plain}
use Rattle.nqs_rules.specs.World.{Act}
use Rattle.nqs_rules.specs.Run.{run_of}
use Rattle.nqs_rules.proofs.Chains.{chained}
use Rattle.nqs_laws.specs.Sane.{AreSane, IsSite}
use Rattle.nqs_laws.specs.Words.{IsRight, IsInOrderAll}
use Rattle.nqs_laws.proofs.Sound.{IsHost, run_sound}

pub host_right : (site : List (List ℕ)) (place : ℕ) (s : Plain) → IsHost site place s → IsRight site place s
host_right site place s h = record {
  me = λ j. (h.head j).0;
  names = λ j. (h.head j).1;
  order = record {
    order = h.order;
    parts = chained (list_all (λ r. nat_le (length r.script) longest_script) s.rows)
        (list_all (λ p. nat_le (length p.row.script) longest_script) s.promises ∷ list_all (λ t. nat_le (length t.bytes) 32768) s.stages
        ∷ list_all (λ f. nat_le (length f.bytes) 32768) s.files ∷ [])
        (h.scripts.rows, (h.scripts.promises, (h.outputs.stages, (h.outputs.files, tt))));
  };
  consistent = h.calm;
}

pub all_right : (site : List (List ℕ)) (acts : List Act) → IsSite site → AreSane acts → IsInOrderAll site (run_of site acts).world
all_right site acts few sane =
    let k = run_sound site few.1 acts sane in
    record { hosts = λ place s at. host_right site place s (k.hosts place s at); count = k.count; packets = k.packets }
