-- Refusals of an offer, by what a look-up found, and the answer to it.
use Rattle.std.proofs.Common.{◌≡◌, ◌∙◌, ℕ, Bool, false, not, List, [], ◌∷◌, ◌++◌, Option, None, Some, Result, Ok, Err, if◌then◌else◌, refl, sym, ap}
use Rattle.nqs_state.specs.State.{State}
use Rattle.nqs_access.proofs.Found.{queue_there, queue_missing}
use Rattle.nqs_rules.specs.Causes.{Cause, cause, first_refusal}
use Rattle.nqs_rules.specs.Find.{find_queue, find_peer, has_promise}
use Rattle.nqs_rules.specs.Rows.{causes_of, job_causes}
use Rattle.nqs_rules.specs.Handover.{closes, offer_entry_causes, offer_causes, offer_by, on_offer, send_ready, send_refused}
use Rattle.nqs_rules.specs.Stepped.{Stepped, says, makes}
use Rattle.nqs_types.specs.declared.ids.HostId.{HostId}
use Rattle.nqs_types.specs.declared.request.Carried.{Carried}
use Rattle.nqs_types.specs.declared.queue.QueueDef.{QueueDef}
use Rattle.nqs_types.specs.declared.refusal.Refusal.{Refusal}
use Rattle.nqs_types.specs.declared.refusal.Refusal.TheVariants.{NoQueue}
use Rattle.nqs_types.specs.declared.change.Change.TheVariants.{Promised}
use Rattle.nqs_types.specs.declared.rule.Entry.TheVariants.{FromPipe}
use Rattle.nqs_handover.specs.Offers.{by_number, host_causes, into_causes}

third : {A : Type 0} (a b : Bool) (x y z : A) → a ≡ false → b ≡ false → (if a then x else (if b then y else z)) ≡ z
third a b x y z p q = (λ j. if p j then x else (if q j then y else z))

module _ {E : Type 0} (s : State E) (peer : HostId) (low : ℕ) (queue : List ℕ) (c : Carried) where
  abbrev into_part : Bool → Option QueueDef → List Cause
  into_part there found = cause (not there) (NoQueue queue) ∷ causes_of (offer_entry_causes c) found ++ host_causes peer low s

  pub into_found : (d : QueueDef) → Some d ≡ find_queue queue s → first_refusal (job_causes d c.job FromPipe ++ host_causes peer low s)
      ≡ first_refusal (into_causes peer low queue c s)
  into_found d h = (λ i. first_refusal (into_part (sym (queue_there queue s d (sym h)) i) (h i)))

  pub into_absent : None ≡ find_queue queue s → Err (NoQueue queue) ≡ first_refusal (into_causes peer low queue c s)
  into_absent h = (λ i. first_refusal (into_part (sym (queue_missing queue s (sym h)) i) (h i)))

  module _ (n : ℕ) (script : List ℕ) where
    taken : (r : Result (Unit {0}) Refusal) → Ok tt ≡ by_number r → offer_by r peer n low queue c script s
        ≡ makes (Promised peer n low queue c script) (send_ready s peer n ∷ [])
    taken (Ok _) h = refl
    taken (Err x) h = absurd (let no : ⊥ = cc in no)

    refused : (r : Result (Unit {0}) Refusal) (k : ℕ) → Err k ≡ by_number r → offer_by r peer n low queue c script s ≡ says (send_refused s peer n k ∷ [])
    refused (Ok _) k h = absurd (let no : ⊥ = cc in no)
    refused (Err x) k h = (let e : Rattle.nqs_rules.specs.Causes.refusal_number x ≡ k = cc in ap (λ m. says (send_refused s peer n m ∷ [])) e)

    abbrev OfferIs : Stepped E → Type 0
    OfferIs x = on_offer peer n low queue c script s ≡ x

    -- an offer that nothing speaks against is promised
    pub offer_taken : closes n (find_peer peer s) ≡ false → has_promise peer n s ≡ false → Ok tt ≡ by_number (first_refusal (offer_causes peer low queue c s))
        → OfferIs (makes (Promised peer n low queue c script) (send_ready s peer n ∷ []))
    offer_taken unclosed new h = third _ _ _ _ _ unclosed new ∙ taken (first_refusal (offer_causes peer low queue c s)) h

    pub offer_refused : (k : ℕ) → closes n (find_peer peer s) ≡ false → has_promise peer n s ≡ false
        → Err k ≡ by_number (first_refusal (offer_causes peer low queue c s))
        → OfferIs (says (send_refused s peer n k ∷ []))
    offer_refused k unclosed new h = third _ _ _ _ _ unclosed new ∙ refused (first_refusal (offer_causes peer low queue c s)) k h
