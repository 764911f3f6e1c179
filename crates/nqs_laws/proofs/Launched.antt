-- What a step of a host launches: nothing, or one request.
use Rattle.std.proofs.Common.{◌≡◌, ℕ, ◌+◌, Bool, true, false, List, [], ◌∷◌, ◌++◌, map, length, slice_get, Option, None, Some, Result, Ok, Err, true≢false}
use Rattle.std.proofs.Common.{refl, sym, ap, subst, if◌then◌else◌}
use Rattle.std.proofs.lemmas.Bool.{and_parts}
use Rattle.std.specs.List.{list_all, filter_map, cons_option}
use Rattle.nqs_base.proofs.Plain.{all-true}
use Rattle.nqs_state.specs.State.{Plain}
use Rattle.nqs_types.specs.declared.ids.HostId.{HostId}
use Rattle.nqs_types.specs.declared.request.Peer.{Peer}
use Rattle.nqs_types.specs.declared.request.Carried.{Carried}
use Rattle.nqs_types.specs.declared.refusal.Refusal.{Refusal}
use Rattle.nqs_types.specs.declared.change.Change.TheVariants.{Started}
use Rattle.nqs_types.specs.declared.message.Message.{Message}
use Rattle.nqs_types.specs.declared.event.Output.{Output}
use Rattle.nqs_types.specs.declared.event.Output.TheVariants as out
use Rattle.nqs_types.specs.declared.world.Seen.{Seen}
use Rattle.nqs_types.specs.declared.world.Seen.TheVariants as seen
use Rattle.nqs_rules.specs.Tests.{is_running}
use Rattle.nqs_rules.specs.Causes.{first_refusal}
use Rattle.nqs_rules.specs.Applied.{may_start_again}
use Rattle.nqs_rules.specs.Find.{find_row, find_peer}
use Rattle.nqs_rules.specs.Handover.{opened_with}
use Rattle.nqs_rules.specs.Start.{moving_by, local_causes}
use Rattle.nqs_rules.specs.Step.{step}
use Rattle.nqs_rules.specs.Stepped.{Stepped, shown}
use Rattle.nqs_rules.specs.World.{boot_output, sent_by}
use Rattle.nqs_rules.proofs.ListFacts.{list_all-weaker}
use Rattle.nqs_rules.specs.Notes.{Saw, saws}
use Rattle.nqs_rules.specs.Picked.{PlainRow}
use Rattle.nqs_laws.specs.Launches.{launched, launches, IsStarted, IsStartedIn}
use Rattle.nqs_laws.proofs.Frame.{Moment, Way, Taken, Begun, Booted, change_by, outputs_by, first_by, seen_from, IsIdle}
use Rattle.nqs_laws.proofs.Sent.{is_fine_output, Begins, Launches, Prints, Holds, Moves, Opens, begins, step_fine}
use Rattle.nqs_laws.proofs.Sound.{IsSound, event_sane, all_sane}

-- what is seen of a step of a host, behind so many packets
abbrev pub seen_by : {packets : List Message} {s : Plain} → (h : HostId) → ℕ → Way packets h s → List Seen
seen_by h n way = first_by way ++ seen_from h n (outputs_by way)

pub data Launching {packets : List Message} (h : HostId) (s : Plain) (n : ℕ) (way : Way packets h s) : Type 0 where
  Nothing : launches (saws (seen_by h n way)) ≡ [] → Launching h s n way
  One : (r : PlainRow) (device : Option (List ℕ)) (y : Seen) → find_row r.id s ≡ Some r → change_by way ≡ Some (Started r.id device) → seen_by h n way ≡ y ∷ []
      → launched (Saw y) ≡ Some (r.id, r.starts + 1) → ((states : List Plain) → IsStarted states h (r.id, r.starts + 1) → IsStartedIn states (Saw y))
      → Launching h s n way

abbrev is_no_launch : Output → Bool
is_no_launch (out.Launch order bytes) = false
is_no_launch (out.Print device order bytes) = false
is_no_launch o = true

fine_no_launch : (n : ℕ) (test : Carried → Bool) (o : Output) → is_fine_output n test (λ id. true) o ≡ true → is_no_launch o ≡ true
fine_no_launch n test (out.Launch order bytes) k = k
fine_no_launch n test (out.Print device order bytes) k = k
fine_no_launch n test o k = refl

no_launches : (h : HostId) (n : ℕ) (os : List Output) → list_all is_no_launch os ≡ true → launches (saws (seen_from h n os)) ≡ []
no_launches h n [] k = refl
no_launches h n (o ∷ os) k = let p = and_parts (is_no_launch o) (list_all is_no_launch os) k in of o p.0 (no_launches h (n + length (sent_by o)) os p.1)
  where
    of : (o : Output) → is_no_launch o ≡ true → launches (saws (seen_from h (n + length (sent_by o)) os)) ≡ [] → launches (saws (seen_from h n (o ∷ os))) ≡ []
    of (out.Launch order bytes) p rest = absurd (true≢false (sym p))
    of (out.Print device order bytes) p rest = absurd (true≢false (sym p))
    of o p rest = rest

boot_launches : (h : HostId) (n : ℕ) (rows : List PlainRow) → launches (saws (seen_from h n (filter_map boot_output rows))) ≡ []
boot_launches h n [] = refl
boot_launches h n (r ∷ rows) = by (is_running r.state) (may_start_again r) (λ k. boot_launches h k rows)
  where
    by : (b c : Bool) → ((k : ℕ) → launches (saws (seen_from h k (filter_map boot_output rows))) ≡ [])
        → launches (saws (seen_from h n (cons_option (if b then Some (if c then out.Again r.id else out.Lost r.id) else None) (filter_map boot_output rows))))
        ≡ []
    by true true told = told (n + 0)
    by true false told = told (n + 0)
    by false c told = told n

abbrev pub seen_of_start : HostId → ℕ → Stepped (List ℕ) → List Seen
seen_of_start h n x = seen_from h n (map shown x.outputs)

start_launches : {packets : List Message} (h : HostId) (s : Plain) (n now : ℕ) (x : Stepped (List ℕ)) (begun : _) → Begins now s x
    → Launching {packets = packets} h s n (Begun now x begun)
start_launches h s n now x begun (Launches r found is) = One r None (seen.Launch h r.id (r.starts + 1)) found (ap (λ (y : Stepped (List ℕ)). y.change) (sym is))
    (ap (seen_of_start h n) (sym is)) refl (λ states k. k)
start_launches h s n now x begun (Prints r device found is) = One r (Some device) (seen.Print h r.id (r.starts + 1) device) found
    (ap (λ (y : Stepped (List ℕ)). y.change) (sym is)) (ap (seen_of_start h n) (sym is)) refl (λ states k. k)
start_launches h s n now x begun (Holds r found is) = Nothing (subst (λ (y : Stepped (List ℕ)). launches (saws (seen_of_start h n y)) ≡ []) is refl)
start_launches h s n now x begun (Moves r dest found is) = Nothing (subst (λ (y : Stepped (List ℕ)). launches (saws (seen_of_start h n y)) ≡ []) is
    (by (first_refusal (local_causes dest.queue s r))))
  where
    by : (o : Result (Unit {0}) Refusal) → launches (saws (seen_of_start h n (moving_by o dest.queue r))) ≡ []
    by (Ok u) = refl
    by (Err refusal) = refl
start_launches h s n now x begun (Opens r dest found is) = Nothing (subst (λ (y : Stepped (List ℕ)). launches (saws (seen_of_start h n y)) ≡ []) is
    (by (find_peer dest.host s)))
  where
    by : (o : Option Peer) → launches (saws (seen_of_start h n (opened_with o dest now s r))) ≡ []
    by None = refl
    by (Some p) = refl

pub way_launches : (site : List (List ℕ)) (m : Moment) (k : IsSound site m) (h : HostId) (s : Plain) (there : slice_get m.states h.0 ≡ Some s) (n : ℕ)
    (way : Way m.packets h s) → Launching h s n way
way_launches site m k h s there n (Taken e comes) =
    let host = k.hosts h.0 s there in
    Nothing (no_launches h n (map shown (step e s).outputs)
    (list_all-weaker (is_fine_output (length s.site) (λ c. true) (λ id. true)) is_no_launch (λ o p. fine_no_launch (length s.site) (λ c. true) o p)
    (map shown (step e s).outputs)
    (step_fine s host.order (λ c. true) (λ id. true) host.scripts host.outputs (all-true s.rows) e
    (event_sane m.packets h (length s.site) e (all_sane site m k h s there) comes) (λ queue job script submits. refl))))
way_launches site m k h s there n (Begun now x begun) = start_launches h s n now x begun (begins s (k.hosts h.0 s there).order now x begun)
way_launches site m k h s there n Booted = Nothing (boot_launches h n s.rows)

pub idle_launches : (x : Seen) → IsIdle x → launches (Saw x ∷ []) ≡ []
idle_launches (seen.Launch h id start) idle = absurd idle
idle_launches (seen.Print h id start device) idle = absurd idle
idle_launches x idle = refl
