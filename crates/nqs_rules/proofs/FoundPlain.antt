-- What a state holds is found alike in what it is mapped to.
use Rattle.std.proofs.Common.{◌≡◌, ℕ, ◌+◌, Bool, not, List, length, Option, None, Some, option_map, refl, ap, ◌∙◌}
use Rattle.std.proofs.lemmas.List.{length-map}
use Rattle.std.specs.List.{list_any}
use Rattle.nqs_state.specs.State.{State}
use Rattle.nqs_state.specs.Keys.{is_row, is_promise, is_stage, is_file}
use Rattle.nqs_types.specs.declared.ids.HostId.{HostId}
use Rattle.nqs_types.specs.declared.ids.RequestId.{RequestId}
use Rattle.nqs_types.specs.declared.ids.Named.{Named}
use Rattle.nqs_types.specs.declared.request.Row.{Row}
use Rattle.nqs_rules.specs.Tests.{passes}
use Rattle.nqs_rules.specs.Causes.{Cause}
use Rattle.nqs_rules.specs.Find.{peer_number, has_row, find_row, has_promise, has_stage, meant_request, row_of, meant_row, held_count}
use Rattle.nqs_rules.specs.Conf.{row_in, promise_in, held_in}
use Rattle.nqs_rules.specs.Devices.{runs_on, is_busy}
use Rattle.nqs_rules.specs.Rows.{named_causes}
use Rattle.nqs_rules.specs.Applied.{is_outlived, promises_from}
use Rattle.nqs_rules.specs.Fits.{row_passes}
use Rattle.nqs_rules.specs.Plain.{map_row, map_promise, map_stage, map_file, map_state}
use Rattle.nqs_index.proofs.Numbers.{number-map}
use Rattle.nqs_rules.proofs.ListMaps.{find-map, list_any-map}

pub passes-map : {V W : Type 0} (m : V → W) (test : W → Bool) (o : Option V) → passes test (option_map m o) ≡ passes (λ v. test (m v)) o
passes-map m test None = refl
passes-map m test (Some v) = refl

module _ {E F : Type 0} (f : E → F) where
  pub find_row-map : (id : RequestId) (s : State E) → find_row id (map_state f s) ≡ option_map (map_row f) (find_row id s)
  find_row-map id s = find-map (map_row f) (is_row id) s.rows

  pub row_passes-map : (test : Row F → Bool) (id : RequestId) (s : State E) → row_passes test id (map_state f s) ≡ row_passes (λ r. test (map_row f r)) id s
  row_passes-map test id s = ap (passes test) (find_row-map id s) ∙ passes-map (map_row f) test (find_row id s)

  pub has_row-map : (id : RequestId) (s : State E) → has_row id (map_state f s) ≡ has_row id s
  has_row-map id s = list_any-map (map_row f) (is_row id) s.rows

  pub has_promise-map : (peer : HostId) (number : ℕ) (s : State E) → has_promise peer number (map_state f s) ≡ has_promise peer number s
  has_promise-map peer number s = list_any-map (map_promise f) (is_promise (peer_number peer number)) s.promises

  pub has_stage-map : (peer : HostId) (number : ℕ) (s : State E) → has_stage peer number (map_state f s) ≡ has_stage peer number s
  has_stage-map peer number s = list_any-map (map_stage f) (is_stage (peer_number peer number)) s.stages

  pub has_file-map : (file : ℕ) (s : State E) → list_any (is_file file) (map_state f s).files ≡ list_any (is_file file) s.files
  has_file-map file s = list_any-map (map_file f) (is_file file) s.files

  pub held_count-map : (s : State E) → held_count (map_state f s) ≡ held_count s
  held_count-map s = (λ j. length-map s.rows (map_row f) j + length-map s.promises (map_promise f) j)

  pub held_in-map : (q : List ℕ) (s : State E) → held_in q (map_state f s) ≡ held_in q s
  held_in-map q s = (λ j. number-map (map_row f) (row_in q) s.rows j + number-map (map_promise f) (promise_in q) s.promises j)

  -- rows, and the promises that a low leaves
  pub offered_count-map : (peer : HostId) (low : ℕ) (s : State E)
      → length (map_state f s).rows + length (promises_from peer low (map_state f s).promises) ≡ length s.rows + length (promises_from peer low s.promises)
  offered_count-map peer low s = (λ j. length-map s.rows (map_row f) j + number-map (map_promise f) (λ p. not (is_outlived peer low p)) s.promises j)

  pub is_busy-map : (device : List ℕ) (s : State E) → is_busy device (map_state f s) ≡ is_busy device s
  is_busy-map device s = list_any-map (map_row f) (runs_on device) s.rows

  pub meant_row-map : (id : Named) (s : State E) → meant_row id (map_state f s) ≡ option_map (map_row f) (meant_row id s)
  meant_row-map id s = by (meant_request id s)
    where
      by : (m : Option RequestId) → row_of m (map_state f s) ≡ option_map (map_row f) (row_of m s)
      by None = refl
      by (Some r) = find_row-map r s

  named-map : (id : Named) (g : Row F → List Cause) (o : Option (Row E)) → named_causes id g (option_map (map_row f) o)
      ≡ named_causes id (λ r. g (map_row f r)) o
  named-map id g None = refl
  named-map id g (Some r) = refl

  -- causes about a request that is named
  pub named_causes-map : (id : Named) (g : Row F → List Cause) (s : State E)
      → named_causes id g (meant_row id (map_state f s)) ≡ named_causes id (λ r. g (map_row f r)) (meant_row id s)
  named_causes-map id g s = ap (named_causes id g) (meant_row-map id s) ∙ named-map id g (meant_row id s)
