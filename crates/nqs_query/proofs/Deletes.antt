-- Words of qdel are read as they are written.
use Rattle.std.proofs.Common.{◌≡◌, ◌≢◌, inl, inr, ℕ, ◌+◌, List, [], ◌∷◌, ◌++◌, length, refl, ap, sym, subst, ◌∙◌, Result, Ok, Err, Bool, true, false, cond}
use Rattle.std.specs.Prelude.{codes}
use Rattle.nqs_base.specs.Same.{name_exact}
use Rattle.nqs_types.specs.declared.ids.Named.{Named}
use Rattle.nqs_types.specs.declared.event.Command.{Command}
use Rattle.nqs_types.specs.declared.event.Command.TheVariants as command
use Rattle.nqs_types.specs.declared.fault.WordsFault.{WordsFault}
use Rattle.nqs_types.specs.declared.fault.WordsCause.{WordsCause}
use Rattle.nqs_types.specs.declared.fault.WordsCause.TheVariants as cause
use Rattle.nqs_text.specs.Number.{first_other}
use Rattle.nqs_words.specs.Values.{place_of, number_of, seq_of, named_of}
use Rattle.nqs_words.specs.declared.values.NotNamed.{NotNamed}
use Rattle.nqs_words.specs.declared.values.NotNamed.TheVariants.{BadNumber, BadName}
use Rattle.nqs_words.specs.Spelled.{IsRequest, IsRequestOrNot}
use Rattle.nqs_words.proofs.Requests.{requests_are_read}
use Rattle.nqs_query.specs.Words.{Read, ◌>>=◌, fault_at, named_or_fault, nothing_more, request_from, is_kill_option, delete_of}
use Rattle.nqs_query.specs.Spelled.{kill_words, IsNoRequest, SaysDeleteOrFaults, ReadsDeletes}

is_option : (word : List ℕ) → is_kill_option word ≡ true → word ≡ codes "-k"
is_option word h = sym (name_exact (codes "-k") word h)

no_option : (word : List ℕ) → word ≢ codes "-k" → is_kill_option word ≡ false
no_option word never = by (is_kill_option word) refl
  where
    by : (t : Bool) → is_kill_option word ≡ t → t ≡ false
    by true is = absurd (never (is_option word is))
    by false is = refl

other_word : (word : List ℕ) → is_kill_option word ≡ false → word ≢ codes "-k"
other_word word is e = let t : is_kill_option (codes "-k") ≡ false = subst (λ (w : List ℕ). is_kill_option w ≡ false) e is in cc

option_unread : (id : Named) → named_of (codes "-k") ≡ Ok id → ⊥
unfolding named_of seq_of number_of place_of first_other
option_unread id e = cc

-- the option is no request
option_no_request : (id : Named) → IsRequest (codes "-k") id → ⊥
option_no_request id r = option_unread id ((requests_are_read (codes "-k") (Ok id)).1 r)

-- the number of the first word behind the option
abbrev first_number : Bool → ℕ
first_number kill = length (kill_words kill) + 1

-- what is asked from this word on
abbrev from_word : Bool → List (List ℕ) → Read Command
from_word kill words = request_from (first_number kill) kill words

unknown_at : (kill : Bool) → fault_at (first_number kill + 1) cause.Unknown ≡ fault_at (length (kill_words kill) + 2) cause.Unknown
unknown_at true = refl
unknown_at false = refl

request-read : (kill : Bool) (text : List ℕ) (more : List (List ℕ)) → (kill ≡ false → text ≢ codes "-k") → (r : Result Named NotNamed) → IsRequestOrNot text r
    → SaysDeleteOrFaults (kill_words kill ++ text ∷ more) (named_or_fault (first_number kill) r >>=
    (λ id. nothing_more (first_number kill + 1) more >>= (λ done. Ok (command.Delete id kill))))
request-read kill text [] other (Ok id) h = record { kill = kill; text = text; id = id; written = refl; request = h; asks = refl }
request-read kill text (word ∷ more) other (Ok id) h =
    inr (inr (kill, text, id, word, more, refl, h, unknown_at kill))
request-read kill text more other (Err BadNumber) h = inr (inl (kill, text, more, cause.BadNumber, record { written = refl; no_option = other }, h, refl))
request-read kill text more other (Err BadName) h = inr (inl (kill, text, more, cause.BadName, record { written = refl; no_option = other }, h, refl))

from-read : (kill : Bool) (words : List (List ℕ)) → ((text : List ℕ) (more : List (List ℕ)) → words ≡ text ∷ more → kill ≡ false → text ≢ codes "-k")
    → SaysDeleteOrFaults (kill_words kill ++ words) (from_word kill words)
from-read true [] other = inl (true, refl, refl)
from-read false [] other = inl (false, refl, refl)
from-read kill (text ∷ more) other = request-read kill text more (other text more refl) (named_of text) ((requests_are_read text (named_of text)).0 refl)

read : (words : List (List ℕ)) → SaysDeleteOrFaults words (delete_of words)
unfolding delete_of
read [] = from-read false [] (λ text more e f. cc)
read (word ∷ words) = by (is_kill_option word) refl
  where
    first : (text : List ℕ) (more : List (List ℕ)) → word ≢ codes "-k" → word ∷ words ≡ text ∷ more → text ≢ codes "-k"
    first text more other e there = let same : word ≡ text = cc in other (same ∙ there)

    by : (t : Bool) → is_kill_option word ≡ t → SaysDeleteOrFaults (word ∷ words) (cond t (request_from 2 true words) (request_from 1 false (word ∷ words)))
    by true is = subst (λ (w : List ℕ). SaysDeleteOrFaults (w ∷ words) (request_from 2 true words)) (sym (is_option word is))
        (from-read true words (λ text more e f. cc))
    by false is = from-read false (word ∷ words) (λ text more e f. first text more (other_word word is) e)

-- ---- and the other way round

from-said : (kill : Bool) (words : List (List ℕ)) → ((text : List ℕ) (more : List (List ℕ)) → words ≡ text ∷ more → kill ≡ false → text ≢ codes "-k")
    → delete_of (kill_words kill ++ words) ≡ from_word kill words
unfolding delete_of
from-said true words other = refl
from-said false [] other = refl
from-said false (text ∷ more) other = rw (no_option text (other text more refl refl)) refl

-- the word of a request isn't the option
request_no_option : (text : List ℕ) (id : Named) → IsRequest text id → text ≢ codes "-k"
request_no_option text id r e = option_no_request id (subst (λ (t : List ℕ). IsRequest t id) e r)

one_word : (kill : Bool) (text : List ℕ) (more : List (List ℕ)) → (kill ≡ false → text ≢ codes "-k") → (w : List ℕ) (ws : List (List ℕ)) → text ∷ more ≡ w ∷ ws
    → kill ≡ false → w ≢ codes "-k"
one_word kill text more other w ws e f there = let same : text ≡ w = cc in other f (same ∙ there)

bad-said : (kill : Bool) (text : List ℕ) (more : List (List ℕ)) (why : WordsCause) → IsNoRequest text why
    → from_word kill (text ∷ more) ≡ Err (fault_at (first_number kill) why)
bad-said kill text more cause.BadNumber h = rw ((requests_are_read text (Err BadNumber)).1 h) refl
bad-said kill text more cause.BadName h = rw ((requests_are_read text (Err BadName)).1 h) refl
bad-said kill text more cause.Unknown h = absurd h
bad-said kill text more cause.Missing h = absurd h
bad-said kill text more cause.Repeated h = absurd h
bad-said kill text more cause.Both h = absurd h
bad-said kill text more cause.BadMoment h = absurd h
bad-said kill text more cause.BadPath h = absurd h
bad-said kill text more cause.ScriptTooLong h = absurd h

nothing-said : (kill : Bool) → delete_of (kill_words kill) ≡ Err (fault_at (length (kill_words kill) + 1) cause.Missing)
unfolding delete_of
nothing-said true = refl
nothing-said false = refl

said : (words : List (List ℕ)) (answer : Read Command) → SaysDeleteOrFaults words answer → delete_of words ≡ answer
said words (Ok c) h =
    let other = one_word h.kill h.text [] (λ f. request_no_option h.text h.id h.request) in
    ap delete_of h.written ∙ (from-said h.kill (h.text ∷ []) other ∙ rw ((requests_are_read h.text (Ok h.id)).1 h.request)
    (ap (λ (d : Command). Ok d) (sym h.asks)))
said words (Err fault) (inl h) =
    ap delete_of h.1 ∙ (nothing-said h.0 ∙ ap (λ (f : WordsFault). Err f)
    (ap (λ (ws : List (List ℕ)). fault_at (length ws + 1) cause.Missing) (sym h.1) ∙ sym h.2))
said words (Err fault) (inr (inl h)) =
    ap delete_of h.4.written ∙ (from-said h.0 (h.1 ∷ h.2) (one_word h.0 h.1 h.2 h.4.no_option)
    ∙ (bad-said h.0 h.1 h.2 h.3 h.5 ∙ ap (λ (f : WordsFault). Err f) (sym h.6)))
said words (Err fault) (inr (inr h)) =
    let other = one_word h.0 h.1 (h.3 ∷ h.4) (λ f. request_no_option h.1 h.2 h.6) in
    ap delete_of h.5 ∙ (from-said h.0 (h.1 ∷ h.3 ∷ h.4) other ∙ (unknown h.0 h.1 h.2 h.3 h.4 h.6 ∙ ap (λ (f : WordsFault). Err f) (sym h.7)))
  where
    unknown : (kill : Bool) (text : List ℕ) (id : Named) (word : List ℕ) (more : List (List ℕ)) → IsRequest text id
        → from_word kill (text ∷ word ∷ more) ≡ Err (fault_at (length (kill_words kill) + 2) cause.Unknown)
    unknown kill text id word more r = rw ((requests_are_read text (Ok id)).1 r) (ap (λ (f : WordsFault). Err f) (unknown_at kill))

pub deletes_are_read : ReadsDeletes
deletes_are_read words answer = (
  (λ e. subst (SaysDeleteOrFaults words) e (read words)),
  said words answer,
)
