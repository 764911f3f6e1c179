-- The words that `clap` takes.
use Rattle.std.proofs.Common.{ap, refl, sym, subst, arith, codes, ℕ, ◌≤◌, Bool, true, List, [], ◌∷◌, ◌≡◌, ◌∙◌, inl, inr, Option, Some, None, Result, Ok, Err}
use Rattle.std.specs.Prelude.{if◌then◌else◌, nat_le, ◌&&◌}
use Rattle.std.proofs.lemmas.Bool.Decides.{nat_tests}
use Rattle.nqs_text.specs.Number.{decimal}
use Rattle.nqs_words.specs.Values.{number_of, are_digits}
use Rattle.clap.specs.Words.{App, Text, Kinds, is_simple, matches_of, fault_of, is_simple_and_free, HasKind, IsAmong, kind_of, found_of, first_value, first_of}
use Rattle.clap.specs.Words.{HasMatchesOf}
use Rattle.clap.proofs.OnLiterals.{clap_on_literals}
use Rattle.clap.proofs.WalkLemmas.{first_value-rows}
use Rattle.clap.specs.declared.error.Error.{Error}
use Rattle.clap.specs.declared.error.kind.ErrorKind.{ErrorKind}
use Rattle.clap.specs.declared.error.kind.ErrorKind.TheVariants as kind
use Rattle.clap.specs.declared.parser.matches.ArgMatches.{ArgMatches}
use Rattle.nqs_network_runs.specs.Words.{replay_app, value_of, generated, generation_of, is_true, with_summary, asked_of, asked_by, without_fault, asked}
use Rattle.nqs_network_runs.specs.Words.{ReadsWords}
use Rattle.nqs_network_runs.specs.Words.{StopsBy, GivenBy, IsWithin}
use Rattle.nqs_network_runs.specs.declared.words.Generation.{Generation}
use Rattle.nqs_network_runs.specs.declared.words.Ask.{Ask}
use Rattle.nqs_network_runs.specs.declared.words.WordsStop.{WordsStop}
use Rattle.nqs_network_runs.specs.declared.words.WordsStop.TheVariants as stop

replay_is_simple : is_simple replay_app ≡ true
unfolding clap_on_literals replay_app
replay_is_simple = refl

pub replay_is_free : is_simple_and_free replay_app ≡ true
unfolding clap_on_literals replay_app
replay_is_free = refl

none_for_cause : (kinds : Kinds) (ask : Option Ask) (k : ErrorKind) → IsAmong k kinds → without_fault kinds ask ≡ None
none_for_cause [] ask k among = absurd among
none_for_cause (x ∷ xs) ask k among = refl

-- an error that comes of the words says that they are in no form
pub refused : (words : List Text) (e : Error) → HasKind (fault_of replay_app words) e → (kind_of e ≡ kind.OutOfMemory → ⊥) → asked words ≡ None
unfolding asked
refused words e failed other = elim failed [ inl memory ↦ absurd (other memory) | inr among ↦ none_for_cause _ _ (kind_of e) among ]

-- what an error says of the words
pub stopped : (words : List Text) (e : Error) (stopping : WordsStop) → HasKind (fault_of replay_app words) e → StopsBy (kind_of e) stopping
    → ReadsWords words (Err stopping)
stopped words e stop.BadWords failed by = refused words e failed by
stopped words e (stop.Memory want) failed by = tt
stopped words e (stop.Unparsed refused) failed by = tt

-- the values in the matches are those that the words have
value_is : (app : App) (words : List Text) (m : ArgMatches) (id : Text) → app ≡ replay_app → HasMatchesOf app words m
    → first_value (found_of m) id ≡ value_of id words
unfolding value_of
value_is app words m id is has =
    first_value-rows (found_of m) id ∙ (ap (first_of id) ((has (ap is_simple is ∙ replay_is_simple)).0) ∙ ap (λ (a : App). first_of id (matches_of a words)) is)

ap₄ : {A B : Type 0} (f : A → A → A → A → B) {a a' b b' c c' d d' : A} → a ≡ a' → b ≡ b' → c ≡ c' → d ≡ d' → f a b c d ≡ f a' b' c' d'
ap₄ f p q r s = λ i. f (p i) (q i) (r i) (s i)

-- what is asked by the matches is asked by the words
asked_is : (app : App) (words : List Text) (m : ArgMatches) → app ≡ replay_app → HasMatchesOf app words m → fault_of replay_app words ≡ []
    → asked_by (found_of m) ≡ asked words
unfolding asked
asked_is app words m is has passed =
    let value = λ (id : Text). value_is app words m id is has in
    ap₄ asked_of (value (codes "summary")) (value (codes "generate")) (value (codes "hosts")) (value (codes "events"))
    ∙ sym (ap (λ (kinds : Kinds). without_fault kinds (asked_of (value_of (codes "summary") words) (value_of (codes "generate") words)
    (value_of (codes "hosts") words) (value_of (codes "events") words))) passed)

answered : (words : List Text) (by : Option Ask) (m : ArgMatches) (r : Result Ask WordsStop) → asked_by (found_of m) ≡ asked words → GivenBy (found_of m) r
    → ReadsWords words r
answered words by m (Ok ask) same given = sym same ∙ given
answered words by m (Err stop.BadWords) same given = sym same ∙ given
answered words by m (Err (stop.Memory want)) same given = tt
answered words by m (Err (stop.Unparsed refused)) same given = tt

pub formed : (app : App) (words : List Text) (m : ArgMatches) (r : Result Ask WordsStop) → app ≡ replay_app → HasMatchesOf app words m
    → fault_of replay_app words ≡ [] → GivenBy (found_of m) r → ReadsWords words r
formed app words m r is has passed given = answered words None m r (asked_is app words m is has passed) given

-- a number that is read lies between its limits
between : (low high n : ℕ) (bytes : List ℕ) → number_of low high bytes ≡ Some n → (low ≤ n) × (n ≤ high)
unfolding number_of
between low high n bytes is = within (are_digits bytes) (decimal bytes) is
  where
    within : (digits : Bool) (d : ℕ) → (if digits && (nat_le low d && nat_le d high) then Some d else None) ≡ Some n → (low ≤ n) × (n ≤ high)
    within digits d is = grind (arith, nat_tests)

generated_within : (seed hosts events : Option ℕ) (g : Generation) → ((n : ℕ) → hosts ≡ Some n → (1 ≤ n) × (n ≤ 16))
    → generated seed hosts events ≡ Some (Some g) → IsWithin (Some g)
generated_within (Some seed) (Some hosts) (Some events) g few is = let same : hosts ≡ g.hosts = cc in
    subst (λ (n : ℕ). (1 ≤ n) × (n ≤ 16)) same (few hosts refl)
generated_within None hosts events g few is = absurd cc
generated_within (Some seed) None events g few is = absurd cc
generated_within (Some seed) (Some hosts) None g few is = absurd cc

generation_within : (seed hosts events : Option Text) (asks : Option Generation) → generation_of seed hosts events ≡ Some asks → IsWithin asks
unfolding generation_of
generation_within seed hosts events None is = tt
generation_within (Some seed) (Some hosts) (Some events) (Some g) is = generated_within _ (number_of 1 16 hosts) _ g (λ n. between 1 16 n hosts) is
generation_within None None None (Some g) is = absurd cc
generation_within None None (Some events) (Some g) is = absurd cc
generation_within None (Some hosts) events (Some g) is = absurd cc
generation_within (Some seed) None events (Some g) is = absurd cc
generation_within (Some seed) (Some hosts) None (Some g) is = absurd cc

asked_of_within : (summary : Bool) (asks : Option (Option Generation)) (ask : Ask) → ((g : Option Generation) → asks ≡ Some g → IsWithin g)
    → with_summary summary asks ≡ Some ask → IsWithin ask.generation
asked_of_within summary (Some g) ask few is = let same : g ≡ ask.generation = cc in subst IsWithin same (few g refl)
asked_of_within summary None ask few is = absurd cc

unfaulted : (kinds : Kinds) (asks : Option Ask) (ask : Ask) → without_fault kinds asks ≡ Some ask → asks ≡ Some ask
unfaulted [] asks ask is = is
unfaulted (k ∷ ks) asks ask is = absurd cc

-- words ask for 1 to 16 hosts
pub asked_within : (words : List Text) (ask : Ask) → asked words ≡ Some ask → IsWithin ask.generation
unfolding asked asked_of
asked_within words ask is =
    asked_of_within (is_true (value_of (codes "summary") words)) (generation_of (value_of (codes "generate") words) (value_of (codes "hosts") words)
    (value_of (codes "events") words)) ask (generation_within _ _ _) (unfaulted (fault_of replay_app words) _ ask is)
