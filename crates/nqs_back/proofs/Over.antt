-- An event that came back brings nothing back, and leaves no more to start.
use Rattle.std.proofs.Common.{◌≡◌, ℕ, ◌≤◌, Bool, true, false, ◌&&◌, ◌==◌, if◌then◌else◌, List, [], ◌∷◌, ◌++◌, map, sum, Option, None, Some, true≢false}
use Rattle.std.proofs.Common.{refl, sym, ap, subst, ◌∙◌, arith}
use Rattle.std.specs.List.{list_any}
use Rattle.std.proofs.lemmas.Bool.{and_parts}
use Rattle.std.proofs.lemmas.List.{append-nil}
use Rattle.nqs_base.proofs.Plain.{sum_cons}
use Rattle.nqs_state.specs.State.{Plain}
use Rattle.nqs_state.specs.Keys.{is_row, is_file}
use Rattle.nqs_base_tables.specs.Table.{without_first}
use Rattle.nqs_types.specs.declared.ids.RequestId.{RequestId}
use Rattle.nqs_types.specs.declared.request.Row.{Row}
use Rattle.nqs_types.specs.declared.event.Event.{Event}
use Rattle.nqs_types.specs.declared.event.Event.TheVariants as event
use Rattle.nqs_types.specs.declared.event.Output.TheVariants as out
use Rattle.nqs_types.specs.declared.change.Change.TheVariants.{Ended, Unlaunched, FileGone}
use Rattle.nqs_rules.specs.Edits.{drop_row}
use Rattle.nqs_rules.specs.Find.{find_row}
use Rattle.nqs_rules.specs.Measure.{starts_of, starts_left}
use Rattle.nqs_rules.specs.Stage.{Part, part_to, numbered, goes_here, first_number, kept_parts, has_stage_to, parts_sent, on_end, on_written}
use Rattle.nqs_rules.specs.Starts.{after_step}
use Rattle.nqs_rules.specs.Step.{is_start, ended_by, then_ack, unlaunched_by, step}
use Rattle.nqs_rules.specs.Stepped.{Stepped, Pending, quiet, makes, ready, shown}
use Rattle.nqs_back.specs.Back.{comebacks, has_none, comes_back}

-- without one there is no more in sum
sum_dropped : {V : Type 0} (test : V → Bool) (w : V → ℕ) (vs : List V) → sum (map w (without_first test vs)) ≤ sum (map w vs)
sum_dropped test w [] = omega arith
sum_dropped test w (v ∷ vs) = by (test v) (sum_dropped test w vs)
  where
    by : (b : Bool) → sum (map w (without_first test vs)) ≤ sum (map w vs) → sum (map w (if b then vs else v ∷ without_first test vs)) ≤ sum (map w (v ∷ vs))
    by true rest = omega (arith, sum_cons w v vs)
    by false rest = omega (arith, sum_cons w v (without_first test vs), sum_cons w v vs, rest)

dropped : (id : RequestId) (s : Plain) → starts_left (drop_row id s) ≤ starts_left s
dropped id s = sum_dropped (is_row id) (starts_of s) s.rows

-- the outputs of a job that came back are empty
at_none : (P : List ℕ → List ℕ → Type 0) (b : Bool) (output error : List ℕ) → (b && has_none output && has_none error) ≡ true → (b ≡ true → P [] [])
    → P output error
at_none P b [] [] h p = p (and_parts b true (and_parts (b && true) true h).0).0
at_none P b (x ∷ xs) error h p = absurd (true≢false (sym (and_parts b false (and_parts (b && false) (has_none error) h).0).1))
at_none P b [] (x ∷ xs) h p = absurd (true≢false (sym (and_parts (b && true) false h).1))

no_parts : (s : Plain) (r : Row (List ℕ)) → kept_parts s r [] [] ≡ []
no_parts s r = ap (numbered (first_number s r.id) 0) (by r.job.join)
  where
    by : (b : Bool) → (if b then part_to r.job.out ([] ++ []) else part_to r.job.out [] ++ part_to r.job.err []) ≡ []
    by true = refl
    by false = refl

-- what a job that left nothing makes
left_nothing : (status : ℕ) (r : Row (List ℕ)) (s : Plain) → on_end status r [] [] s
    ≡ makes (Ended r.id []) (ready (out.Ended r.id r.starts status) ∷ parts_sent s r.id [])
left_nothing status r s = ap (λ (parts : List Part). let x : Stepped (List ℕ) =
    makes (Ended r.id parts) (ready (out.Ended r.id r.starts status) ∷ parts_sent s r.id parts) in x) (no_parts s r)

none_sent : (s : Plain) (id : RequestId) → parts_sent s id [] ≡ []
none_sent s id = by (goes_here s id) (has_stage_to id.host s)
  where
    by : (b c : Bool) → (if b then [] else (if c then [] else [])) ≡ (let none : List (Pending (List ℕ)) = [] in none)
    by true c = refl
    by false true = refl
    by false false = refl

module _ (s : Plain) where
  -- no event comes back of it, and no more starts are left
  pub record IsOver (x : Stepped (List ℕ)) : Type 0 where
    pub none : comebacks (map shown x.outputs) ≡ 0
    pub fewer : starts_left (after_step x s) ≤ starts_left s

  quiet_over : IsOver quiet
  quiet_over = record { none = refl; fewer = omega arith }

  end_over : (o : Option (Row (List ℕ))) (start status : ℕ) → IsOver (ended_by o start status [] [] s)
  end_over None start status = quiet_over
  end_over (Some r) start status = by (is_start start r)
    where
      by : (b : Bool) → IsOver (if b then on_end status r [] [] s else quiet)
      by true = subst IsOver (sym (left_nothing status r s)) (record {
        none = ap (λ (ps : List (Pending (List ℕ))). comebacks (map shown (ready (out.Ended r.id r.starts status) ∷ ps))) (none_sent s r.id);
        fewer = dropped r.id s;
      })
      by false = quiet_over

  unlaunched_over : (o : Option (Row (List ℕ))) (id : RequestId) (start : ℕ) → IsOver (unlaunched_by o id start)
  unlaunched_over None id start = quiet_over
  unlaunched_over (Some r) id start = by (is_start start r)
    where
      by : (b : Bool) → IsOver (if b then makes (Unlaunched id) (ready (out.Unlaunched id start) ∷ []) else quiet)
      by true = record { none = refl; fewer = dropped id s }
      by false = quiet_over

  written_over : (file : ℕ) → IsOver (on_written file s)
  written_over file = by (list_any (is_file file) s.files)
    where
      by : (b : Bool) → IsOver (if b then makes (FileGone file) [] else quiet)
      by true = record { none = refl; fewer = omega arith }
      by false = quiet_over

  -- nobody waits for an answer
  no_answer : (port : ℕ) (id : RequestId) (start : ℕ) → (port == 0) ≡ true → (x : Stepped (List ℕ)) → IsOver x → IsOver (then_ack port id start x)
  no_answer port id start free x over = record {
    none = ap (λ b. comebacks (map shown (x.outputs ++ (if b then [] else ready (out.Ack port id start) ∷ [])))) free
        ∙ ap (λ l. comebacks (map shown l)) (append-nil x.outputs) ∙ over.none;
    fewer = over.fewer;
  }

  pub over : (e : Event) → comes_back e ≡ true → IsOver (step e s)
  over (event.Ended now port id start status output error) h =
      at_none (λ output error. IsOver (step (event.Ended now port id start status output error) s)) (port == 0) output error h
      (λ free. no_answer port id start free (ended_by (find_row id s) start status [] [] s) (end_over (find_row id s) start status))
  over (event.Unlaunched now id start) h = unlaunched_over (find_row id s) id start
  over (event.Written now file) h = written_over file
  over (event.Unwritten now file) h = quiet_over
  over (event.Ask now port token user c) h = absurd (true≢false (sym h))
  over (event.Arrived now m) h = absurd (true≢false (sym h))
  over (event.Tick now) h = absurd (true≢false (sym h))
