-- What a state in order says of each of its requests, outputs and files.
use Rattle.std.proofs.Common.{IsTrue}
use Rattle.std.proofs.lemmas.Bool.{and_parts, and_from}
use Rattle.std.specs.List.{AllByRecursion}
use Rattle.nqs_base.specs.declared.extent.Extent.{Extent}
use Rattle.nqs_base.specs.Path.{is_path}
use Rattle.nqs_base.proofs.Plain.{all_weaker, each_is}
use Rattle.nqs_state.specs.State.{State}
use Rattle.nqs_types.specs.declared.request.Row.{Row}
use Rattle.nqs_types.specs.declared.request.Promise.{Promise}
use Rattle.nqs_types.specs.declared.request.Stage.{Stage}
use Rattle.nqs_types.specs.declared.request.FileOut.{FileOut}
use Rattle.nqs_rules.specs.Tests.{passes}
use Rattle.nqs_rules.specs.Find.{find_peer}
use Rattle.nqs_rules.specs.Sane.{is_sane_job}
use Rattle.nqs_rules.specs.InOrder.{IsInOrder, is_row_right, is_promise_right, is_stage_right, is_file_right, is_stage_given, is_given}
use Rattle.nqs_rules.proofs.RowFacts.{row_is, promise_is}
use Rattle.nqs_records.specs.Values.{IsJob}
use Rattle.nqs_records.proofs.SaneLaws.{path_sane}
use Rattle.nqs_types.specs.declared.request.Job.{Job}
use Rattle.nqs_snapshot.specs.Values.{IsRow, IsPromise, IsStage, IsFile, MayStand}

module _ (s : State Extent) (h : IsInOrder s) where
  pub rows_sane : AllByRecursion (λ (r : Row Extent). IsTrue (is_sane_job r.job)) s.rows
  rows_sane = each_is (is_row_right s) (λ (r : Row Extent). IsTrue (is_sane_job r.job)) (λ r k. (row_is s r k).job) s.rows h.rows

  pub promises_sane : AllByRecursion (λ (p : Promise Extent). IsTrue (is_sane_job p.row.job)) s.promises
  promises_sane = each_is (is_promise_right s) (λ (p : Promise Extent). IsTrue (is_sane_job p.row.job))
      (λ p k. (row_is s p.row (promise_is s p k).row).job) s.promises h.promises

  pub stages_sane : AllByRecursion (λ (t : Stage Extent). IsTrue (is_path t.path)) s.stages
  stages_sane = each_is (is_stage_right s) (λ (t : Stage Extent). IsTrue (is_path t.path))
      (λ t k. (and_parts (is_path t.path) (passes (is_stage_given t.number) (find_peer t.peer s)) k).0) s.stages h.stages

  pub files_sane : AllByRecursion (λ (f : FileOut Extent). IsTrue (is_path f.path)) s.files
  files_sane = each_is (is_file_right s) (λ (f : FileOut Extent). IsTrue (is_path f.path))
      (λ f k. (and_parts (is_path f.path) (is_given f.number s.file_next) k).0) s.files h.files

-- what has a field is sane

job_sane : (j : Job) → IsJob j → IsTrue (is_sane_job j)
job_sane j is = and_from _ _ (and_from _ _ is.2 (path_sane j.out is.8)) (path_sane j.err is.9)

module _ (s : State Extent) (h : MayStand s) where
  pub rows_stand : AllByRecursion (λ (r : Row Extent). IsTrue (is_sane_job r.job)) s.rows
  rows_stand = all_weaker IsRow (λ (r : Row Extent). IsTrue (is_sane_job r.job)) (λ r k. job_sane r.job k.1) s.rows h.1.0.1

  pub promises_stand : AllByRecursion (λ (p : Promise Extent). IsTrue (is_sane_job p.row.job)) s.promises
  promises_stand = all_weaker IsPromise (λ (p : Promise Extent). IsTrue (is_sane_job p.row.job)) (λ p k. job_sane p.row.job k.2.1) s.promises h.1.2.1

  pub stages_stand : AllByRecursion (λ (t : Stage Extent). IsTrue (is_path t.path)) s.stages
  stages_stand = all_weaker IsStage (λ (t : Stage Extent). IsTrue (is_path t.path)) (λ t k. path_sane t.path k.2) s.stages h.3.0.1

  pub files_stand : AllByRecursion (λ (f : FileOut Extent). IsTrue (is_path f.path)) s.files
  files_stand = all_weaker IsFile (λ (f : FileOut Extent). IsTrue (is_path f.path)) (λ f k. path_sane f.path k.1) s.files h.3.1.1
