-- The table doesn't tell what a script says.
use Rattle.std.proofs.Common.{◌≡◌, ℕ, zero, suc, ◌+◌, Bool, true, false, cond, filter, List, [], ◌∷◌, ◌++◌, map, slice_get, refl, sym, ap, ◌∙◌}
use Rattle.nqs_state.specs.State.{Plain, content}
use Rattle.nqs_base.specs.declared.extent.Extent.{Extent}
use Rattle.nqs_types.specs.declared.ids.HostId.{HostId}
use Rattle.nqs_state.specs.declared.state.HostState.{HostState}
use Rattle.nqs_rules.specs.Plain.{map_row, map_promise, map_state}
use Rattle.nqs_rules.specs.Tests.{passes}
use Rattle.nqs_rules.specs.Find.{host_at}
use Rattle.nqs_rules.specs.Net.{row_entry, promise_entry, is_committed_to, is_arriving, entries_at, by_request, table_row, table_at, table_from, table}
use Rattle.nqs_rules.proofs.ListMaps.{map-mapped}
use Rattle.nqs_rules_table.specs.Standing.{StandsFor, StandForEach}
use Rattle.nqs_rules_table.specs.Shown.{no_bytes, bare}

-- what is kept of two images of a list, where the images are kept and mapped alike
kept-alike : {A V W : Type 0} (p q : V → Bool) (g h : A → V) (m : V → W) → ((a : A) → p (g a) ≡ q (h a)) → ((a : A) → m (g a) ≡ m (h a)) → (xs : List A)
    → map m (filter p (map g xs)) ≡ map m (filter q (map h xs))
kept-alike p q g h m tests same [] = refl
kept-alike p q g h m tests same (a ∷ xs) =
    ap (λ b. map m (cond b (g a ∷ filter p (map g xs)) (filter p (map g xs)))) (tests a) ∙ by (q (h a)) (kept-alike p q g h m tests same xs)
  where
    by : (b : Bool) → map m (filter p (map g xs)) ≡ map m (filter q (map h xs))
        → map m (cond b (g a ∷ filter p (map g xs)) (filter p (map g xs))) ≡ map m (cond b (h a ∷ filter q (map h xs)) (filter q (map h xs)))
    by true rest = (λ j. same a j ∷ rest j)
    by false rest = rest

committed-bare : (h : HostId) (n : ℕ) (states : List HostState) (plains : List Plain) → StandForEach states plains → (i : ℕ)
    → passes (is_committed_to h n) (slice_get plains i) ≡ passes (is_committed_to h n) (slice_get (map bare states) i)
committed-bare h n [] [] stand i = refl
committed-bare h n [] (plain ∷ plains) stand i = absurd stand
committed-bare h n (state ∷ states) [] stand i = absurd stand
committed-bare h n (state ∷ states) (plain ∷ plains) stand zero = ap (is_committed_to h n) (sym stand.0.1)
committed-bare h n (state ∷ states) (plain ∷ plains) stand (suc i) = committed-bare h n states plains stand.1 i

module _ (states : List HostState) (plains : List Plain) (stand : StandForEach states plains) (h : HostId) where
  entries-bare : (bytes : Extent → List ℕ) (state : HostState) → entries_at plains h (map_state bytes (content state))
      ≡ entries_at (map bare states) h (bare state)
  entries-bare bytes state =
      (λ j. map-mapped (row_entry h) (map_row no_bytes) (map_row bytes) (row_entry h) (λ r. refl) (content state).rows j
      ++ kept-alike (is_arriving plains h) (is_arriving (map bare states) h) (map_promise bytes) (map_promise no_bytes) (promise_entry h)
      (λ p. committed-bare h p.number states plains stand p.peer.0) (λ p. refl) (content state).promises j)

  table_at-bare : (state : HostState) (plain : Plain) → StandsFor state plain → table_at plains h plain ≡ table_at (map bare states) h (bare state)
  table_at-bare state plain stands = ap (table_at plains h) (sym stands.1) ∙ ap (λ es. map table_row (by_request es)) (entries-bare stands.0 state)

table_from-bare : (states : List HostState) (plains : List Plain) → StandForEach states plains → (place : ℕ) (rest : List HostState) (others : List Plain)
    → StandForEach rest others
    → table_from place plains others ≡ table_from place (map bare states) (map bare rest)
table_from-bare states plains stand place [] [] each = refl
table_from-bare states plains stand place [] (plain ∷ others) each = absurd each
table_from-bare states plains stand place (state ∷ rest) [] each = absurd each
table_from-bare states plains stand place (state ∷ rest) (plain ∷ others) each =
    (λ j. table_at-bare states plains stand (host_at place) state plain each.0 j ++ table_from-bare states plains stand (place + 1) rest others each.1 j)

pub table-bare : (states : List HostState) (plains : List Plain) → StandForEach states plains → table plains ≡ table (map bare states)
table-bare states plains stand = table_from-bare states plains stand 0 states plains stand
