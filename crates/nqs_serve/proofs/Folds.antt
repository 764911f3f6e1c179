-- A run in which nothing came back is a fold.
use Rattle.std.proofs.Common.{◌≡◌, List, [], ◌∷◌, ◌++◌, map, refl, ap, sym, ◌∙◌, append_assoc}
use Rattle.std.proofs.lemmas.List.{append-nil, map-append}
use Rattle.std.proofs.lemmas.Grind.{flat_map-append}
use Rattle.std.specs.List.{flat_map}
use Rattle.std.specs.Option.{option_to_list}
use Rattle.nqs_state.specs.State.{Plain}
use Rattle.nqs_types.specs.declared.event.Event.{Event}
use Rattle.nqs_types.specs.declared.event.Output.{Output}
use Rattle.nqs_serve.specs.Events.{Here}
use Rattle.nqs_serve.specs.Steps.{after_event, outputs}
use Rattle.nqs_serve.specs.declared.comeback.Comeback.{Comeback}
use Rattle.nqs_serve.specs.Runs.{Act, received, took, turn, Outcome, after, IsRun, moments, outcomes, events, outputs_in, brought_back, comeback_of, event_back}
use Rattle.nqs_serve.specs.Runs.{come_back, folded, folded_outputs, RunsAreFolds}
use Rattle.nqs_serve.proofs.Acts.{events_of, events_heard}

front_nil : {A : Type 0} (xs ys : List A) → (xs ++ ys) ≡ [] → xs ≡ []
front_nil [] ys e = refl
front_nil (x ∷ xs) ys e = cc

back_nil : {A : Type 0} (xs ys : List A) → (xs ++ ys) ≡ [] → ys ≡ []
back_nil [] ys e = e
back_nil (x ∷ xs) ys e = cc

waits_on : (es : List Event) (os : List Outcome) → brought_back os ≡ [] → es ++ come_back os ≡ es
waits_on es os none = ap (λ (l : List Comeback). es ++ map event_back l) none ∙ append-nil es

-- of neither part anything came back
both_none : (os rest : List Outcome) → brought_back (os ++ rest) ≡ [] → (brought_back os ≡ []) × (brought_back rest ≡ [])
both_none os rest none =
    let both : brought_back os ++ brought_back rest ≡ [] = sym (flat_map-append (λ (o : Outcome). option_to_list (comeback_of o.output o.ok)) os rest) ∙ none in
    (front_nil (brought_back os) (brought_back rest) both, back_nil (brought_back os) (brought_back rest) both)

-- the events that acts took
abbrev taken : List Act → List Event
taken acts = flat_map events_of acts

module _ (here : Here) where
  state_folds : (s : Plain) (waits : List Event) (acts : List Act) → IsRun here (turn s waits) acts → brought_back (outcomes acts) ≡ []
      → (after here (turn s waits) acts).waits ≡ []
      → (after here (turn s waits) acts).state ≡ folded s (waits ++ taken acts) (moments acts)
  state_folds s waits [] run none empty = refl
  state_folds s waits (received a e ∷ acts) run none empty =
      state_folds s (waits ++ option_to_list e) acts run.1 none empty
      ∙ ap (λ l. folded s l (moments acts)) (append_assoc waits (option_to_list e) (taken acts))
  state_folds s [] (took m os ∷ acts) run none empty = absurd run.0
  state_folds s (e ∷ es) (took m os ∷ acts) run none empty =
      let both = both_none os (outcomes acts) none in
      state_folds (after_event m e s) (es ++ come_back os) acts run.1 both.1 empty
      ∙ ap (λ w. folded (after_event m e s) (w ++ taken acts) (moments acts)) (waits_on es os both.0)

  outputs_fold : (s : Plain) (waits : List Event) (acts : List Act) → IsRun here (turn s waits) acts → brought_back (outcomes acts) ≡ []
      → (after here (turn s waits) acts).waits ≡ []
      → outputs_in (outcomes acts) ≡ folded_outputs s (waits ++ taken acts) (moments acts)
  outputs_fold s waits [] run none empty = refl
  outputs_fold s waits (received a e ∷ acts) run none empty =
      outputs_fold s (waits ++ option_to_list e) acts run.1 none empty
      ∙ ap (λ l. folded_outputs s l (moments acts)) (append_assoc waits (option_to_list e) (taken acts))
  outputs_fold s [] (took m os ∷ acts) run none empty = absurd run.0
  outputs_fold s (e ∷ es) (took m os ∷ acts) run none empty =
      let both = both_none os (outcomes acts) none in
      map-append (λ (o : Outcome). o.output) os (outcomes acts)
      ∙ ap (λ (l : List Output). l ++ outputs_in (outcomes acts)) run.0
      ∙ ap (λ (l : List Output). outputs m e s ++ l)
      (outputs_fold (after_event m e s) (es ++ come_back os) acts run.1 both.1 empty
      ∙ ap (λ w. folded_outputs (after_event m e s) (w ++ taken acts) (moments acts)) (waits_on es os both.0))

pub runs_are_folds : RunsAreFolds
runs_are_folds here s acts run are none empty =
    let same : taken acts ≡ events here acts = events_heard here [] acts are in (
      state_folds here s [] acts run none empty ∙ ap (λ l. folded s l (moments acts)) same,
      outputs_fold here s [] acts run none empty ∙ ap (λ l. folded_outputs s l (moments acts)) same,
    )
