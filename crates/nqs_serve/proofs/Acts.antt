-- Runs one after the other.
use Rattle.std.proofs.Common.{◌≡◌, ℕ, List, [], ◌∷◌, ◌++◌, refl, ap, sym, ◌∙◌, append_assoc, Bool, map, subst}
use Rattle.std.proofs.lemmas.List.{append-nil, map-append}
use Rattle.std.specs.List.{flat_map}
use Rattle.std.proofs.lemmas.Grind.{flat_map-append}
use Rattle.std.specs.Option.{option_to_list}
use Rattle.std.specs.declared.option.Option.{Option}
use Rattle.std.specs.declared.option.Option.TheVariants.{Some}
use Rattle.nqs_state.specs.State.{Plain}
use Rattle.nqs_types.specs.declared.event.Event.{Event}
use Rattle.nqs_rules.specs.Starts.{after_starts, after_step}
use Rattle.nqs_rules.specs.Stepped.{Stepped}
use Rattle.nqs_outside.specs.Asked.{Arrival, inbound}
use Rattle.nqs_outside.proofs.Told.{extends_same}
use Rattle.nqs_serve.specs.Events.{Here, stops_by}
use Rattle.nqs_serve.specs.Steps.{after_event, outputs, calls}
use Rattle.nqs_serve.specs.Tellings.{Telling, Adds, AddsNone, Passes}
use Rattle.nqs_serve.proofs.Tellings.{adds_none, adds_then}
use Rattle.nqs_serve.specs.Runs.{Act, received, took, Turn, turn, idle, Outcome, outputs_in, brought_back, event_back, come_back, next, after, IsRun}
use Rattle.nqs_serve.specs.Runs.{arrivals_of, moments_of, outcomes_of, arrivals, moments, sends, traffic_by, traffic, asked, asked_by, prints, prints_by}
use Rattle.nqs_pieces.specs.declared.gather.Gathered.{Gathered}
use Rattle.nqs_serve.specs.Gathers.{heard}
use Rattle.nqs_serve.specs.Runs.{gathered_by, AreHeard, gathered, events_in}
use Rattle.nqs_serve.specs.Runs.{filings, filings_by, Begun, none_begun, begun, carried, Grew, Ran, next_calls, act_calls, run_calls}
use Rattle.nqs_serve.specs.Ends.{stop_of, stops}
use Rattle.nqs_serve.specs.declared.comeback.Comeback.{Comeback}

pub starts_append : (xs ys : List (Stepped (List ℕ))) (s : Plain) → after_starts (xs ++ ys) s ≡ after_starts ys (after_starts xs s)
starts_append [] ys s = refl
starts_append (x ∷ xs) ys s = starts_append xs ys (after_step x s)

module _ (here : Here) where
  pub after_append : (t : Turn) (xs ys : List Act) → after here t (xs ++ ys) ≡ after here (after here t xs) ys
  after_append t [] ys = refl
  after_append t (x ∷ xs) ys = after_append (next here t x) xs ys

  pub run_append : (t : Turn) (xs ys : List Act) → IsRun here t xs → IsRun here (after here t xs) ys → IsRun here t (xs ++ ys)
  run_append t [] ys first second = second
  run_append t (x ∷ xs) ys first second = (first.0, run_append (next here t x) xs ys first.1 second)

  pub stops_append : (t : Turn) (xs ys : List Act) → stops here t (xs ++ ys) ≡ stops here t xs ++ stops here (after here t xs) ys
  stops_append t [] ys = refl
  stops_append t (x ∷ xs) ys =
      ap (λ (l : List Bool). stop_of here t x ++ l) (stops_append (next here t x) xs ys)
      ∙ sym (append_assoc (stop_of here t x) (stops here (next here t x) xs) (stops here (after here t (x ∷ xs)) ys))

  -- what the calls of a run do after a run
  pub calls_then : (xs ys : List Act) (t u : Turn) → after here t xs ≡ u → run_calls here t (xs ++ ys) ≡ run_calls here t xs ++ run_calls here u ys
  calls_then xs ys t u leads = calls_append t xs ys ∙ ap (λ w. run_calls here t xs ++ run_calls here w ys) leads
    where
      calls_append : (t : Turn) (xs ys : List Act) → run_calls here t (xs ++ ys) ≡ run_calls here t xs ++ run_calls here (after here t xs) ys
      calls_append t [] ys = refl
      calls_append t (x ∷ xs) ys =
          ap (λ (l : List (Stepped (List ℕ))). act_calls t x ++ l) (calls_append (next here t x) xs ys)
          ∙ sym (append_assoc (act_calls t x) (run_calls here (next here t x) xs) (run_calls here (after here t (x ∷ xs)) ys))

  -- the calls lead to the state behind the run
  pub calls_lead : (acts : List Act) (s : Plain) (waits : List Event) → IsRun here (turn s waits) acts
      → after_starts (run_calls here (turn s waits) acts) s ≡ (after here (turn s waits) acts).state
  calls_lead [] s waits run = refl
  calls_lead (received a e ∷ acts) s waits run = calls_lead acts s (waits ++ option_to_list e) run.1
  calls_lead (took m os ∷ acts) s [] run = absurd run.0
  calls_lead (took m os ∷ acts) s (e ∷ es) run =
      starts_append (calls m e s) (run_calls here (turn (after_event m e s) (es ++ come_back os)) acts) s
      ∙ calls_lead acts (after_event m e s) (es ++ come_back os) run.1

  -- without a receive there is no stop
  pub stops_none : (t : Turn) (xs : List Act) → arrivals xs ≡ [] → stops here t xs ≡ []
  stops_none t [] none = refl
  stops_none t (received a e ∷ xs) none = cc
  stops_none t (took m os ∷ xs) none = stops_none (next here t (took m os)) xs none

pub arrivals_append : (xs ys : List Act) → arrivals (xs ++ ys) ≡ arrivals xs ++ arrivals ys
arrivals_append xs ys = flat_map-append arrivals_of xs ys

-- lists of acts, and of an event that was cut off behind them
of_acts : {A : Type 0} (f : Act → List A) (xs ys : List Act) (more : List A) → (flat_map f xs ++ []) ++ (flat_map f ys ++ more) ≡ flat_map f (xs ++ ys) ++ more
of_acts {A} f xs ys more =
    append_assoc (flat_map f xs) [] (flat_map f ys ++ more)
    ∙ sym (append_assoc (flat_map f xs) (flat_map f ys) more)
    ∙ ap (λ (l : List A). l ++ more) (sym (flat_map-append f xs ys))

of_carried : {A : Type 0} (f : Outcome → List A) (xs ys : List Act) (more : Begun)
    → flat_map f (carried xs none_begun) ++ flat_map f (carried ys more) ≡ flat_map f (carried (xs ++ ys) more)
of_carried f xs ys more =
    sym (flat_map-append f (carried xs none_begun) (carried ys more)) ∙ ap (flat_map f) (of_acts outcomes_of xs ys more.outcomes)

pub of_moments : (xs ys : List Act) (more : List ℕ) → (moments xs ++ []) ++ (moments ys ++ more) ≡ moments (xs ++ ys) ++ more
of_moments xs ys more = of_acts moments_of xs ys more

module _ (here : Here) where
  pub grew_then : (xs ys : List Act) (more : Begun) (a b c : Telling) → Grew here xs none_begun a b → Grew here ys more b c → Grew here (xs ++ ys) more a c
  grew_then xs ys more a b c one two =
      let both = adds_then a b c one two in
      record {
        traffic = extends_same a.traffic c.traffic ((traffic here xs ++ []) ++ (traffic here ys ++ sends here more.outcomes))
            (traffic here (xs ++ ys) ++ sends here more.outcomes)
            (of_acts (traffic_by here) xs ys (sends here more.outcomes)) both.traffic;
        asked = extends_same a.asked c.asked (asked (carried xs none_begun) ++ asked (carried ys more)) (asked (carried (xs ++ ys) more))
            (of_carried (λ (o : Outcome). asked_by o.output o.ok) xs ys more) both.asked;
        prints = extends_same a.prints c.prints (prints (carried xs none_begun) ++ prints (carried ys more)) (prints (carried (xs ++ ys) more))
            (of_carried (λ (o : Outcome). prints_by o.output o.ok) xs ys more) both.prints;
        filings = extends_same a.filings c.filings (filings (carried xs none_begun) ++ filings (carried ys more)) (filings (carried (xs ++ ys) more))
            (of_carried (λ (o : Outcome). filings_by o.output o.ok) xs ys more) both.filings;
        given = extends_same a.given c.given ((moments xs ++ []) ++ (moments ys ++ more.moments)) (moments (xs ++ ys) ++ more.moments)
            (of_moments xs ys more.moments) both.given;
      }

  pub ran_none : (t : Turn) (a : Telling) → Ran here [] t t none_begun a a
  ran_none t a = record { run = tt; leads = refl; grew = adds_none a }

  pub ran_then : (xs ys : List Act) (t u v : Turn) (more : Begun) (a b c : Telling) → Ran here xs t u none_begun a b → Ran here ys u v more b c
      → Ran here (xs ++ ys) t v more a c
  ran_then xs ys t u v more a b c one two =
      let run_on : IsRun here (after here t xs) ys = rw one.leads two.run in
      record {
        run = run_append here t xs ys one.run run_on;
        leads = after_append here t xs ys ∙ ap (λ w. after here w ys) one.leads ∙ two.leads;
        grew = grew_then xs ys more a b c one.grew two.grew;
      }

  -- the stops of a run after a run
  pub stops_then : (xs ys : List Act) (t u : Turn) → after here t xs ≡ u → stops here t (xs ++ ys) ≡ stops here t xs ++ stops here u ys
  stops_then xs ys t u leads = stops_append here t xs ys ∙ ap (λ w. stops here t xs ++ stops here w ys) leads

-- a receive when nothing waits
pub ran_received : (here : Here) (s : Plain) (a : Arrival) (e : Option Event) (was now : Telling) → Grew here (received a e ∷ []) none_begun was now
    → Ran here (received a e ∷ []) (idle s) (turn s (option_to_list e)) none_begun was now
ran_received here s a e was now grew = record { run = (refl, tt); leads = refl; grew = grew }

-- the next event was taken
pub ran_took : (here : Here) (s : Plain) (e : Event) (es : List Event) (m : ℕ) (os : List Outcome) (was now : Telling) → outputs_in os ≡ outputs m e s
    → Grew here (took m os ∷ []) none_begun was now
    → Ran here (took m os ∷ []) (turn s (e ∷ es)) (turn (after_event m e s) (es ++ come_back os)) none_begun was now
ran_took here s e es m os was now same grew = record { run = (same, tt); leads = refl; grew = grew }

-- no act, and an event that was cut off, or none
pub ran_cut : (here : Here) (t : Turn) (more : Begun) (was now : Telling) → Grew here [] more was now → Ran here [] t t more was now
ran_cut here t more was now grew = record { run = tt; leads = refl; grew = grew }

-- the same of a list of outcomes, and of the act that has them
alone : {A : Type 0} (f : Outcome → List A) (os : List Outcome) → flat_map f os ≡ flat_map f ((os ++ []) ++ [])
alone f os = ap (flat_map f) (sym (append-nil os) ∙ sym (append-nil (os ++ [])))

pub took_grew : (here : Here) (m : ℕ) (os : List Outcome) (was now : Telling) → Adds was now (sends here os) (asked os) (prints os) (filings os) (m ∷ [])
    → Grew here (took m os ∷ []) none_begun was now
took_grew here m os was now adds = record {
  traffic = extends_same was.traffic now.traffic (sends here os) ((sends here os ++ []) ++ [])
      (sym (append-nil (sends here os)) ∙ sym (append-nil (sends here os ++ []))) adds.traffic;
  asked = extends_same was.asked now.asked (asked os) (asked ((os ++ []) ++ [])) (alone (λ (o : Outcome). asked_by o.output o.ok) os) adds.asked;
  prints = extends_same was.prints now.prints (prints os) (prints ((os ++ []) ++ [])) (alone (λ (o : Outcome). prints_by o.output o.ok) os) adds.prints;
  filings = extends_same was.filings now.filings (filings os) (filings ((os ++ []) ++ [])) (alone (λ (o : Outcome). filings_by o.output o.ok) os) adds.filings;
  given = adds.given;
}

-- the next event that came back was taken
pub took_back : (here : Here) (acts : List Act) (start : Turn) (u : Plain) (e : Event) (x : Comeback) (queue rest new : List Comeback) (m : ℕ)
    (os : List Outcome) (a b c : Telling)
    → queue ≡ x ∷ rest → e ≡ event_back x → new ≡ rest ++ brought_back os → outputs_in os ≡ outputs m e u
    → Ran here acts start (turn u (map event_back queue)) none_begun a b → Grew here (took m os ∷ []) none_begun b c
    → Ran here (acts ++ took m os ∷ []) start (turn (after_event m e u) (map event_back new)) none_begun a c
took_back here acts start u e x queue rest new m os a b c split is grown same ran grew =
    let waits : map event_back queue ≡ e ∷ map event_back rest = ap (map event_back) split ∙ ap (λ v. v ∷ map event_back rest) (sym is) in
    let first : Ran here acts start (turn u (e ∷ map event_back rest)) none_begun a b =
    subst (λ (w : List Event). Ran here acts start (turn u w) none_begun a b) waits ran in
    let waits_then : map event_back rest ++ come_back os ≡ map event_back new =
    sym (map-append event_back rest (brought_back os)) ∙ ap (map event_back) (sym grown) in
    subst (λ (w : List Event). Ran here (acts ++ took m os ∷ []) start (turn (after_event m e u) w) none_begun a c) waits_then
    (ran_then here acts (took m os ∷ []) start (turn u (e ∷ map event_back rest)) _ none_begun a b c first
    (ran_took here u e (map event_back rest) m os b c same grew))

-- the next one was cut off
pub cut_back : (here : Here) (acts : List Act) (start : Turn) (u : Plain) (e : Event) (x : Comeback) (queue rest : List Comeback) (m : ℕ)
    (os : List Outcome) (a b c : Telling)
    → queue ≡ x ∷ rest → e ≡ event_back x
    → Ran here acts start (turn u (map event_back queue)) none_begun a b → Grew here [] (begun m os) b c
    → Ran here (acts ++ []) start (turn u (e ∷ map event_back rest)) (begun m os) a c
cut_back here acts start u e x queue rest m os a b c split is ran grew =
    let waits : map event_back queue ≡ e ∷ map event_back rest = ap (map event_back) split ∙ ap (λ v. v ∷ map event_back rest) (sym is) in
    let first : Ran here acts start (turn u (e ∷ map event_back rest)) none_begun a b =
    subst (λ (w : List Event). Ran here acts start (turn u w) none_begun a b) waits ran in
    ran_then here acts [] start (turn u (e ∷ map event_back rest)) _ (begun m os) a b c first
    (ran_cut here (turn u (e ∷ map event_back rest)) (begun m os) b c grew)

-- what is done at a quiet receive asks nothing
pub tended_grew : (here : Here) (arrival : Arrival) (e : Option Event) (a b c : Telling) → Passes a b (inbound arrival ∷ []) → AddsNone b c
    → Grew here (received arrival e ∷ []) none_begun a c
tended_grew here arrival e a b c came tended = adds_then a b c came tended

-- a receive, its event, and those that come back of it
pub ran_turn : (here : Here) (arrival : Arrival) (m : ℕ) (os : List Outcome) (acts : List Act) (s : Plain) (e : Event) (old back : List Comeback) (v : Turn)
    (more : Begun) (t0 t1 t2 t3 : Telling)
    → old ≡ [] → back ≡ old ++ brought_back os → outputs_in os ≡ outputs m e s
    → Grew here (received arrival (Some e) ∷ []) none_begun t0 t1 → Grew here (took m os ∷ []) none_begun t1 t2
    → Ran here acts (turn (after_event m e s) (map event_back back)) v more t2 t3
    → Ran here (received arrival (Some e) ∷ took m os ∷ acts) (idle s) v more t0 t3
ran_turn here arrival m os acts s e old back v more t0 t1 t2 t3 empty grown same came took_it rest =
    let back_is : back ≡ brought_back os = grown ∙ ap (λ (l : List Comeback). l ++ brought_back os) empty in
    let third : Ran here acts (turn (after_event m e s) (come_back os)) v more t2 t3 =
    subst (λ (q : List Comeback). Ran here acts (turn (after_event m e s) (map event_back q)) v more t2 t3) back_is rest in
    ran_then here (received arrival (Some e) ∷ took m os ∷ []) acts (idle s) _ v more t0 t2 t3
    (ran_then here (received arrival (Some e) ∷ []) (took m os ∷ []) (idle s) (turn s (e ∷ [])) _ none_begun t0 t1 t2
    (ran_received here s arrival (Some e) t0 t1 came)
    (ran_took here s e [] m os t1 t2 same took_it))
    third

-- what the calls of a turn do
pub turn_calls : (here : Here) (arrival : Arrival) (m : ℕ) (os : List Outcome) (acts : List Act) (s : Plain) (e : Event) (old back : List Comeback)
    → old ≡ [] → back ≡ old ++ brought_back os
    → run_calls here (idle s) (received arrival (Some e) ∷ took m os ∷ acts)
    ≡ calls m e s ++ run_calls here (turn (after_event m e s) (map event_back back)) acts
turn_calls here arrival m os acts s e old back empty grown =
    let back_is : back ≡ brought_back os = grown ∙ ap (λ (l : List Comeback). l ++ brought_back os) empty in
    ap (λ (q : List Comeback). calls m e s ++ run_calls here (turn (after_event m e s) (map event_back q)) acts) (sym back_is)

-- and of one event that came back
pub back_calls : (here : Here) (acts : List Act) (start : Turn) (u : Plain) (e : Event) (x : Comeback) (queue rest : List Comeback) (m : ℕ) (os : List Outcome)
    → queue ≡ x ∷ rest → e ≡ event_back x → after here start acts ≡ turn u (map event_back queue)
    → run_calls here start (acts ++ took m os ∷ []) ≡ run_calls here start acts ++ calls m e u
back_calls here acts start u e x queue rest m os split is leads =
    calls_then here acts (took m os ∷ []) start (turn u (map event_back queue)) leads
    ∙ ap (λ (q : List Comeback). run_calls here start acts ++ (next_calls m (map event_back q) u ++ [])) split
    ∙ ap (λ (l : List (Stepped (List ℕ))). run_calls here start acts ++ l) (append-nil (calls m (event_back x) u))
    ∙ ap (λ v. run_calls here start acts ++ calls m v u) (sym is)

-- in a turn there is one receive
pub turn_stops : (here : Here) (s : Plain) (arrival : Arrival) (e : Option Event) (m : ℕ) (os : List Outcome) (acts : List Act) → arrivals acts ≡ []
    → stops here (idle s) (received arrival e ∷ took m os ∷ acts) ≡ stops_by e s ∷ []
turn_stops here s arrival e m os acts none =
    ap (λ (l : List Bool). stops_by e s ∷ l) (stops_none here (next here (next here (idle s) (received arrival e)) (took m os)) acts none)

-- nothing waits
pub ran_empty : (here : Here) (acts : List Act) (start : Turn) (u : Plain) (queue : List Comeback) (a b : Telling) → queue ≡ []
    → Ran here acts start (turn u (map event_back queue)) none_begun a b → Ran here acts start (idle u) none_begun a b
ran_empty here acts start u queue a b empty ran = subst (λ (q : List Comeback). Ran here acts start (turn u (map event_back q)) none_begun a b) empty ran

-- what acts heard, one after the other

-- the event that a receive brought
abbrev pub events_of : Act → List Event
events_of (received a e) = option_to_list e
events_of (took m os) = []

module _ (here : Here) where
  pub heard_then : (g : List Gathered) (xs ys : List Act) → AreHeard here g xs → AreHeard here (gathered here g xs) ys → AreHeard here g (xs ++ ys)
  heard_then g [] ys one two = two
  heard_then g (x ∷ xs) ys one two = (one.0, heard_then (gathered_by here g x) xs ys one.1 two)

  pub gathered_then : (g : List Gathered) (xs ys : List Act) → gathered here g (xs ++ ys) ≡ gathered here (gathered here g xs) ys
  gathered_then g [] ys = refl
  gathered_then g (x ∷ xs) ys = gathered_then (gathered_by here g x) xs ys

  -- the same behind acts of which this was gathered
  pub heard_on : (g mid : List Gathered) (xs ys : List Act) → AreHeard here g xs → mid ≡ gathered here g xs → AreHeard here mid ys → AreHeard here g (xs ++ ys)
  heard_on g mid xs ys one same two = heard_then g xs ys one (subst (λ (m : List Gathered). AreHeard here m ys) same two)

  pub gathered_on : (g mid : List Gathered) (xs ys : List Act) → mid ≡ gathered here g xs → gathered here mid ys ≡ gathered here g (xs ++ ys)
  gathered_on g mid xs ys same = ap (λ (m : List Gathered). gathered here m ys) same ∙ sym (gathered_then g xs ys)

  -- without a receive nothing is heard
  pub none_heard : (g : List Gathered) (xs : List Act) → arrivals xs ≡ [] → AreHeard here g xs × (gathered here g xs ≡ g)
  none_heard g [] none = (tt, refl)
  none_heard g (received a e ∷ xs) none = absurd (let no : ⊥ = cc in no)
  none_heard g (took m os ∷ xs) none = let rest = none_heard g xs none in ((tt, rest.0), rest.1)

  -- one receive, with the acts behind it that receive nothing
  pub one_heard : (g now : List Gathered) (a : Arrival) (e : Option Event) (xs : List Act) → e ≡ (heard here g a).event → now ≡ (heard here g a).gathered
      → arrivals xs ≡ [] → AreHeard here g (received a e ∷ xs) × (now ≡ gathered here g (received a e ∷ xs))
  one_heard g now a e xs is grown none =
      let rest = none_heard (heard here g a).gathered xs none in
      ((is, rest.0), grown ∙ sym rest.1)

  -- the events that acts took are those in what they received
  pub events_heard : (g : List Gathered) (xs : List Act) → AreHeard here g xs → flat_map events_of xs ≡ events_in here g (arrivals xs)
  events_heard g [] are = refl
  events_heard g (received a e ∷ xs) are =
      (λ j. option_to_list (are.0 j) ++ events_heard (heard here g a).gathered xs are.1 j)
  events_heard g (took m os ∷ xs) are = events_heard g xs are.1
