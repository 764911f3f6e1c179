-- The plan of what is done at a host may be carried out, and does it.
use Rattle.std.proofs.Common.{◌≡◌, ℕ, ◌+◌, ◌++◌, IsTrue, true, nat_le, List, [], ◌∷◌, map, length, Option, option_map, Some, None, IfSome, refl, sym, ap, subst}
use Rattle.std.proofs.Common.{◌∙◌}
use Rattle.std.proofs.Common.{append_assoc, arith}
use Rattle.std.specs.List.{AllByRecursion, list_all}
use Rattle.std.proofs.lemmas.List.{length-map}
use Rattle.std.proofs.lemmas.Option.{same_Some, none-some}
use Rattle.nqs_state.specs.State.{Plain}
use Rattle.nqs_base.specs.declared.extent.Extent.{Extent}
use Rattle.nqs_types.specs.declared.change.OutPart.{OutPart}
use Rattle.nqs_types.specs.declared.change.Change.{Change}
use Rattle.nqs_types.specs.declared.change.Change.TheVariants.{Ended, Boot, HandsSilent}
use Rattle.nqs_types.specs.declared.event.Output.{Output}
use Rattle.nqs_types.specs.declared.event.Plan.{Plan}
use Rattle.nqs_records.specs.Values.{IsPlaced}
use Rattle.nqs_rules.specs.Edits.{change_at}
use Rattle.nqs_rules.specs.Filled.{filled, filled_parts}
use Rattle.nqs_rules.specs.Fits.{fits}
use Rattle.nqs_rules.specs.Sane.{is_sane_change, is_short_change}
use Rattle.nqs_rules.specs.Start.{start}
use Rattle.nqs_rules.specs.Stepped.{Stepped, Pending, quiet, map_part, map_pending, map_stepped, part_bytes, stored_parts, no_extent, with_bytes, shown}
use Rattle.nqs_rules.specs.Stepped.{puts_of, output_of, read_at, reads_from, plan_of}
use Rattle.nqs_rules.proofs.FilledLemmas.{filled-plan}
use Rattle.nqs_rules.proofs.FitsPlain.{fits-change}
use Rattle.nqs_store.specs.Puts.{length_of}
use Rattle.nqs_store.specs.Told.{Host}
use Rattle.nqs_host_laws.specs.Offers.{takes_back_few}
use Rattle.nqs_host_laws.specs.Reads.{IsLive, AreLive}
use Rattle.nqs_node.specs.Carried.{Kept, started}
use Rattle.nqs_node.specs.Planned.{MayBeKept, IsKeptWith, MayBeDone, Does}
use Rattle.nqs_node.specs.Reading.{read_into, AreLiveReads}
use Rattle.nqs_node.proofs.Shapes.{bare, sane_bare}

-- a change without its extents

few_bare : (c : Change (List ℕ)) → takes_back_few (bare c) ≡ takes_back_few c
few_bare (HandsSilent until hands) = refl
few_bare Boot = refl
few_bare c = refl

bare_parts : (parts : List (OutPart (List ℕ))) → map (map_part (λ _. no_extent)) (map (map_part (λ _. no_extent)) parts) ≡ map (map_part (λ _. no_extent)) parts
bare_parts [] = refl
bare_parts (part ∷ parts) = ap (λ ps. map_part (λ _. no_extent) part ∷ ps) (bare_parts parts)

bare_bare : (c : Change (List ℕ)) → bare (bare c) ≡ bare c
bare_bare (Ended id parts) = ap (Ended id) (bare_parts parts)
bare_bare Boot = refl
bare_bare c = refl

ended_stored : (parts : List (OutPart (List ℕ))) → map part_bytes (map (map_part (λ _. no_extent)) parts) ≡ map (λ _. no_extent) (map part_bytes parts)
ended_stored [] = refl
ended_stored (part ∷ parts) = ap (λ xs. no_extent ∷ xs) (ended_stored parts)

bare_stored : (c : Change (List ℕ)) → stored_parts (bare c) ≡ map (λ _. no_extent) (stored_parts c)
bare_stored (Ended id parts) = ended_stored parts
bare_stored Boot = refl
bare_stored c = refl

none_stand : (bytes : List (List ℕ)) → AllByRecursion IsPlaced (map (λ _. no_extent) bytes)
none_stand [] = tt
none_stand (b ∷ bs) = (omega arith, none_stand bs)

-- nothing has been stored for it
parts_small : (parts : List (OutPart (List ℕ))) → list_all (λ (part : OutPart Extent). nat_le part.bytes.length 32768) (map (map_part (λ _. no_extent)) parts)
    ≡ true
parts_small [] = refl
parts_small (part ∷ parts) = parts_small parts

bare_small : (c : Change (List ℕ)) → IsTrue (is_short_change length_of (bare c))
bare_small (Ended id parts) = parts_small parts
bare_small Boot = refl
bare_small c = refl

-- with its bytes it is the change again
filled_parts_bare : (parts : List (OutPart (List ℕ))) → filled_parts (map (map_part (λ _. no_extent)) parts) (map part_bytes parts) ≡ parts
filled_parts_bare [] = refl
filled_parts_bare (part ∷ parts) = ap (λ ps. part ∷ ps) (filled_parts_bare parts)

filled_bare : (c : Change (List ℕ)) → filled (bare c) (stored_parts c) ≡ c
filled_bare (Ended id parts) = ap (Ended id) (filled_parts_bare parts)
filled_bare Boot = refl
filled_bare c = refl

module _ (host : Host) where
  change_may : (o : Kept) → IfSome o (λ c. IsTrue (fits c host) × IsTrue (is_sane_change c)) → IfSome o (λ c. IsTrue (takes_back_few c))
      → IfSome o (λ c. IsTrue (is_short_change length c))
      → IfSome (option_map bare o) (MayBeKept host (puts_of o))
  change_may None fit few short = tt
  change_may (Some c) fit few short = record {
    fit = fits-change (λ _. no_extent) c host ∙ fit.0;
    sane = sane_bare c ∙ fit.1;
    few = few_bare c ∙ few;
    extents = subst (λ (xs : List Extent). AllByRecursion IsPlaced xs) (sym (bare_stored c)) (none_stand (stored_parts c));
    small = bare_small c;
    as_many = sym (ap length (bare_stored c) ∙ length-map (stored_parts c) (λ _. no_extent));
    short = subst (λ k. is_short_change length k ≡ true) (sym (filled_bare c)) short;
  }

  reads_live : (n : ℕ) (ps : List (Pending Extent)) → AreLive host ps → AreLiveReads host (reads_from n ps)
  reads_live n [] live = tt
  reads_live n (p ∷ ps) live = one p.1 live.0 (reads_live (n + 1) ps live.1)
    where
      one : (o : Option Extent) → IsLive host o → AreLiveReads host (reads_from (n + 1) ps) → AreLiveReads host (read_at n o ++ reads_from (n + 1) ps)
      one None at more = more
      one (Some x) at more = (at, more)

-- what is read goes behind the outputs that have their bytes

at_front : {V : Type 0} (front : List V) (v : V) (back : List V) (f : V → V) → change_at (length front) f (front ++ v ∷ back) ≡ front ++ f v ∷ back
at_front [] v back f = refl
at_front (x ∷ front) v back f = ap (λ l. x ∷ l) (at_front front v back f)

length_one : {V : Type 0} (front : List V) (v : V) → length (front ++ v ∷ []) ≡ length front + 1
length_one [] v = refl
length_one (x ∷ front) v = let h = length_one front v in omega (arith, h)

module _ (bytes : Extent → List ℕ) where
  abbrev said : List (Pending Extent) → List Output
  said ps = map shown (map (map_pending bytes) ps)

  abbrev GoesOn : List Output → List (Pending Extent) → Type 0
  GoesOn front ps = read_into bytes (reads_from (length front) ps) (front ++ map output_of ps) ≡ front ++ said ps

  read_from : (front : List Output) (ps : List (Pending Extent)) → GoesOn front ps
  read_from front [] = refl
  read_from front (p ∷ ps) = one p.1 (λ o. read_from (front ++ o ∷ []) ps)
    where
      on : (o : Output) → GoesOn (front ++ o ∷ []) ps → read_into bytes (reads_from (length front + 1) ps) (front ++ o ∷ map output_of ps)
          ≡ front ++ o ∷ said ps
      on o goes =
          (λ j. read_into bytes (reads_from (sym (length_one front o) j) ps) (sym (append_assoc front (o ∷ []) (map output_of ps)) j))
          ∙ goes ∙ append_assoc front (o ∷ []) (said ps)

      one : (x : Option Extent) → ((o : Output) → GoesOn (front ++ o ∷ []) ps)
          → read_into bytes (read_at (length front) x ++ reads_from (length front + 1) ps) (front ++ p.0 ∷ map output_of ps)
          ≡ front ++ shown (map_pending bytes (p.0, x)) ∷ said ps
      one None goes = on p.0 (goes p.0)
      one (Some x) goes = ap (read_into bytes (reads_from (length front + 1) ps)) (at_front front p.0 (map output_of ps) (with_bytes (bytes x)))
          ∙ on (with_bytes (bytes x) p.0) (goes (with_bytes (bytes x) p.0))

kept_with : (done : Stepped Extent) (o : Kept) → done.change ≡ o → IsKeptWith (option_map bare o) (puts_of o) o
kept_with done None is = record { is = refl; stored = refl }
kept_with done (Some c) is = record {
  is = (λ j. let o : Option (Change (List ℕ)) = Some (filled (bare c) (puts_of (sym is j))) in o)
      ∙ filled-plan done (bare c) (ap (Some) (bare_bare c) ∙ ap (option_map bare) (sym is)) ∙ is;
  stored = refl;
}

module _ (done : Stepped Extent) (plan : Plan) (is : plan ≡ plan_of done) where
  pub may_be_done : (host : Host) → IfSome done.change (λ c. IsTrue (fits c host) × IsTrue (is_sane_change c))
      → IfSome done.change (λ c. IsTrue (takes_back_few c)) → IfSome done.change (λ c. IsTrue (is_short_change length c))
      → AreLive host done.outputs → MayBeDone host plan
  may_be_done host fit few short live = subst (MayBeDone host) (sym is) (record
      { kept = change_may host done.change fit few short; live = reads_live host 0 done.outputs live })

  pub does : (bytes : Extent → List ℕ) → Does bytes plan (map_stepped bytes done)
  does bytes = subst (λ (p : Plan). Does bytes p (map_stepped bytes done)) (sym is)
      (record { kept = kept_with done done.change refl; said = read_from bytes [] done.outputs })

-- starts

-- the plan is that of the next start
pub record IsNext (now : ℕ) (host : Host) (plan : Plan) : Type 0 where
  pub done : Stepped Extent
  pub picked : start now host ≡ Some done
  pub is : plan ≡ plan_of done

pub next_is : (now : ℕ) (host : Host) (plan : Plan) → Some plan ≡ option_map plan_of (start now host) → IsNext now host plan
next_is now host plan = by (start now host) refl
  where
    by : (o : Option (Stepped Extent)) → start now host ≡ o → Some plan ≡ option_map plan_of o → IsNext now host plan
    by None picked is = absurd (none-some plan (sym is))
    by (Some done) picked is = record { done = done; picked = picked; is = same_Some plan (plan_of done) is }

pub at_next : (P : Stepped Extent → Type 0) (now : ℕ) (host : Host) (plan : Plan) (next : IsNext now host plan) → IfSome (start now host) P → P next.done
at_next P now host plan next all = let h : IfSome (Some next.done) P = subst (λ (o : Option (Stepped Extent)). IfSome o P) next.picked all in h

-- what is started, where it is known
pub started_is : (now : ℕ) (s : Plain) (o : Option (Stepped (List ℕ))) → start now s ≡ o → started now s ≡ (elim o [ None ↦ quiet | Some x ↦ x ])
started_is now s o is = ap (λ (o : Option (Stepped (List ℕ))). let x : Stepped (List ℕ) = elim o [ None ↦ quiet | Some x ↦ x ] in x) is

pub none_next : (now : ℕ) (host : Host) → None ≡ option_map plan_of (start now host) → start now host ≡ None
none_next now host = by (start now host) refl
  where
    by : (o : Option (Stepped Extent)) → start now host ≡ o → None ≡ option_map plan_of o → start now host ≡ None
    by None picked is = picked
    by (Some done) picked is = absurd (none-some (plan_of done) is)
