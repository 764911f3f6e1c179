-- Lists of requests and devices look at no stored part.
use Rattle.std.proofs.Common.{◌≡◌, ℕ, Bool, true, false, ◌&&◌, ◌==◌, List, [], ◌∷◌, ◌++◌, map, filter, find, length, codes, Option, None, Some, option_map}
use Rattle.std.proofs.Common.{refl, sym, ap, ◌∙◌, if◌then◌else◌}
use Rattle.std.specs.Fmt.{decimal}
use Rattle.std.proofs.lemmas.List.{length-map}
use Rattle.nqs_state.specs.State.{State}
use Rattle.nqs_types.specs.declared.request.Row.{Row}
use Rattle.nqs_types.specs.declared.queue.QueueDef.{QueueDef}
use Rattle.nqs_types.specs.declared.queue.DeviceDef.{DeviceDef}
use Rattle.nqs_rules.specs.Conf.{row_in}
use Rattle.nqs_rules.specs.Devices.{runs_on}
use Rattle.nqs_rules.specs.Order.{comes_before}
use Rattle.nqs_rules.specs.Text.{Text, words, either, put_in, sorted, is_owned_by, listed_rows, is_asked, stat_rows, row_line, stat_lines, queue_line}
use Rattle.nqs_rules.specs.Text.{complex_line, manager_line, operator_line, parameter_lines, user_text, device_line}
use Rattle.nqs_rules.specs.Step.{show_lines}
use Rattle.nqs_rules.specs.Plain.{map_row, map_state}
use Rattle.nqs_rules.proofs.ListMaps.{map-filter, map-flat_map, find-map}

module _ {E F : Type 0} (f : E → F) where
  put_in-map : (r : Row E) (rs : List (Row E)) → put_in comes_before (map_row f r) (map (map_row f) rs) ≡ map (map_row f) (put_in comes_before r rs)
  put_in-map r [] = refl
  put_in-map r (q ∷ qs) = by (comes_before r q) (put_in-map r qs)
    where
      by : (b : Bool) → put_in comes_before (map_row f r) (map (map_row f) qs) ≡ map (map_row f) (put_in comes_before r qs)
          → (if b then map_row f r ∷ map_row f q ∷ map (map_row f) qs else map_row f q ∷ put_in comes_before (map_row f r) (map (map_row f) qs))
          ≡ map (map_row f) (if b then r ∷ q ∷ qs else q ∷ put_in comes_before r qs)
      by true rest = refl
      by false rest = ap (λ l. map_row f q ∷ l) rest

  sorted-map : (rs : List (Row E)) → sorted comes_before (map (map_row f) rs) ≡ map (map_row f) (sorted comes_before rs)
  sorted-map [] = refl
  sorted-map (r ∷ rs) = ap (put_in comes_before (map_row f r)) (sorted-map rs) ∙ put_in-map r (sorted comes_before rs)

  chosen-map : (t : Row F → Bool) (rs : List (Row E)) → map (map_row f) (sorted comes_before (filter (λ r. t (map_row f r)) rs))
      ≡ sorted comes_before (filter t (map (map_row f) rs))
  chosen-map t rs = sym (sorted-map (filter (λ r. t (map_row f r)) rs)) ∙ ap (sorted comes_before) (map-filter (map_row f) t rs)

  listed-map : (user : Option Text) (s : State E) (d : QueueDef) → map (map_row f) (listed_rows user s d) ≡ listed_rows user (map_state f s) d
  listed-map None s d = chosen-map (λ r. row_in d.name r && is_owned_by None r) s.rows
  listed-map (Some user) s d = chosen-map (λ r. row_in d.name r && is_owned_by (Some user) r) s.rows

  stat_rows-map : (user : Option Text) (queues : List Text) (s : State E) → map (map_row f) (stat_rows user queues s) ≡ stat_rows user queues (map_state f s)
  stat_rows-map user queues s = map-flat_map (map_row f) (listed_rows user s) (listed_rows user (map_state f s)) (listed-map user s)
      (filter (is_asked queues) s.queues)

  pub stat_lines-map : (user : Option Text) (queues : List Text) (s : State E) → stat_lines user queues (map_state f s) ≡ stat_lines user queues s
  stat_lines-map user queues s =
      ap (λ rs. map (row_line (map_state f s)) rs ++ (decimal (length rs) ++ codes " requests.") ∷ []) (sym (stat_rows-map user queues s))
      ∙ (λ j. lines (stat_rows user queues s) j ++ (decimal (length-map (stat_rows user queues s) (map_row f) j) ++ codes " requests.") ∷ [])
    where
      lines : (rs : List (Row E)) → map (row_line (map_state f s)) (map (map_row f) rs) ≡ map (row_line s) rs
      lines [] = refl
      lines (r ∷ rs) = ap (λ l. row_line s r ∷ l) (lines rs)

  device_line-map : (s : State E) (d : DeviceDef) → device_line (map_state f s) d ≡ device_line s d
  device_line-map s d =
      ap (λ text. words (d.name ∷ d.forms ∷ either d.enabled (codes "enabled") (codes "disabled") ∷ text ∷ []))
      (ap (user_text s.site) (find-map (map_row f) (runs_on d.name) s.rows) ∙ by (find (runs_on d.name) s.rows))
    where
      by : (o : Option (Row E)) → user_text s.site (option_map (map_row f) o) ≡ user_text s.site o
      by None = refl
      by (Some r) = refl

  pub show_lines-map : (code : ℕ) (s : State E) → show_lines code (map_state f s) ≡ show_lines code s
  show_lines-map code s = (λ j. if code == 48 then map queue_line s.queues
      else (if code == 49 then map (λ d. device_line-map s d j) s.devices
      else (if code == 50 then map complex_line s.complexes
      else (if code == 51 then map manager_line s.managers ++ map operator_line s.operators
      else (if code == 52 then parameter_lines s else [])))))
