-- A host whose extents hold the same bytes in two spools is the same plain state in both.
use Rattle.std.proofs.Common.{◌≡◌, inl, inr, ℕ, List, [], ◌∷◌, ◌++◌, map, refl, ap}
use Rattle.nqs_base.specs.declared.extent.Extent.{Extent}
use Rattle.nqs_rules.specs.Plain.{map_row, map_promise, map_stage, map_file, map_state}
use Rattle.nqs_spool.specs.Extents.{Has}
use Rattle.nqs_spool.proofs.Lists.{has_left, has_right}
use Rattle.nqs_store.specs.Told.{Host}
use Rattle.nqs_store.specs.Live.{live, row_part, promise_part, stage_part, file_part}

module _ (f h : Extent → List ℕ) where
  map_same : {V W : Type 0} (part : V → Extent) (m n : V → W) → ((v : V) → f (part v) ≡ h (part v) → m v ≡ n v) → (vs : List V)
      → ((x : Extent) → Has (map part vs) x → f x ≡ h x) → map m vs ≡ map n vs
  map_same part m n one [] same = refl
  map_same part m n one (v ∷ vs) same = λ j. one v (same (part v) (inl refl)) j ∷ map_same part m n one vs (λ x has. same x (inr has)) j

  pub plain_same : (s : Host) → ((x : Extent) → Has (live s) x → f x ≡ h x) → map_state f s ≡ map_state h s
  plain_same s same =
      let rs = map row_part s.rows in
      let ps = map promise_part s.promises in
      let st = map stage_part s.stages in
      let fs = map file_part s.files in
      let rows = map_same row_part (map_row f) (map_row h) (λ v is. ap (λ b. record (map_row f v) { script = b }) is) s.rows
      (λ x has. same x (has_left rs (ps ++ (st ++ fs)) x has)) in
      let promises = map_same promise_part (map_promise f) (map_promise h)
      (λ v is. ap (λ b. record (map_promise f v) { row = record (map_row f v.row) { script = b } }) is) s.promises
      (λ x has. same x (has_right rs (ps ++ (st ++ fs)) x (has_left ps (st ++ fs) x has))) in
      let stages = map_same stage_part (map_stage f) (map_stage h) (λ v is. ap (λ b. record (map_stage f v) { bytes = b }) is) s.stages
      (λ x has. same x (has_right rs (ps ++ (st ++ fs)) x (has_right ps (st ++ fs) x (has_left st fs x has)))) in
      let files = map_same file_part (map_file f) (map_file h) (λ v is. ap (λ b. record (map_file f v) { bytes = b }) is) s.files
      (λ x has. same x (has_right rs (ps ++ (st ++ fs)) x (has_right ps (st ++ fs) x (has_right st fs x has)))) in
      λ j. record (map_state f s) { rows = rows j; promises = promises j; stages = stages j; files = files j }
