-- Fronts of what there is to see.
use Rattle.std.proofs.Common.{◌≡◌, ℕ, ◌+◌, length, List, [], ◌∷◌, ◌++◌, refl, sym, ap, subst, ◌∙◌}
use Rattle.std.proofs.lemmas.List.{append_assoc, append-nil}
use Rattle.nqs_types.specs.declared.event.Output.{Output}
use Rattle.nqs_types.specs.declared.ids.HostId.{HostId}
use Rattle.nqs_types.specs.declared.world.Seen.{Seen}
use Rattle.nqs_rules.specs.World.{Ran, World as Network, seen_of, seen_output, sent_by, then_ran}
use Rattle.nqs_laws.proofs.Told.{sights-append}
use Rattle.nqs_laws.specs.Outputs.{seen_from}
use Rattle.nqs_net.specs.Lists.{GrowsByFront}

module _ (old now : List Seen) where
  pub none_shown : (all : List Seen) → now ≡ old → GrowsByFront old now all
  none_shown all same = ([], all, same ∙ sym (append-nil old), refl)

  pub all_shown : (all : List Seen) → now ≡ old ++ all → GrowsByFront old now all
  all_shown all same = (all, [], same, sym (append-nil all))

  pub shown_as : (all other : List Seen) → all ≡ other → GrowsByFront old now all → GrowsByFront old now other
  shown_as all other same front = subst (GrowsByFront old now) same front

  pub more_to_show : (all more : List Seen) → GrowsByFront old now all → GrowsByFront old now (all ++ more)
  more_to_show all more (shown, rest, grown, is) = (shown, rest ++ more, grown, ap (λ l. l ++ more) is ∙ append_assoc shown rest more)

pub shown_before : (old mid now first all : List Seen) → mid ≡ old ++ first → GrowsByFront mid now all → GrowsByFront old now (first ++ all)
shown_before old mid now first all was (shown, rest, grown, is) =
    (first ++ shown, rest, grown ∙ ap (λ l. l ++ shown) was ∙ append_assoc old first shown, ap (λ l. first ++ l) is ∙ sym (append_assoc first shown rest))

-- what a loan left is what was behind it
pub left_as : (P : List Seen → Type 0) (now left : List Seen) → left ≡ now → P now → P left
left_as P now left same holds = rw same holds

-- of one thing after the other
module _ (old now : List Seen) (r : Ran) (f : Network → Ran) where
  pub more_to_run : GrowsByFront old now (seen_of r) → GrowsByFront old now (seen_of (then_ran r f))
  more_to_run front = shown_as old now (seen_of r ++ seen_of (f r.world)) (seen_of (then_ran r f)) (sym (sights-append r.notes (f r.world).notes))
      (more_to_show old now (seen_of r) (seen_of (f r.world)) front)

  pub run_before : (mid : List Seen) → mid ≡ old ++ seen_of r → GrowsByFront mid now (seen_of (f r.world)) → GrowsByFront old now (seen_of (then_ran r f))
  run_before mid was front = shown_as old now (seen_of r ++ seen_of (f r.world)) (seen_of (then_ran r f)) (sym (sights-append r.notes (f r.world).notes))
      (shown_before old mid now (seen_of r) (seen_of (f r.world)) was front)

-- of the outputs of a host the first
pub first_shown : (h : HostId) (many : ℕ) (o : Output) (os all : List Output) (old now : List Seen) → all ≡ o ∷ os
    → GrowsByFront old now (seen_output h (many + 1) o) → GrowsByFront old now (seen_from h many all)
first_shown h many o os all old now same front =
    subst (λ l. GrowsByFront old now (seen_from h many l)) (sym same) (more_to_show old now (seen_output h (many + 1) o)
    (seen_from h (many + length (sent_by o)) os) front)
