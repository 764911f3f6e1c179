-- Lists and deletions ask for nothing that has a limit.
use Rattle.std.proofs.Common.{◌≡◌, ℕ, ◌+◌, Bool, true, false, cond, List, [], ◌∷◌, refl, Ok, Err, IfOk}
use Rattle.nqs_types.specs.declared.event.Command.{Command}
use Rattle.nqs_rules.specs.Sane.{is_sane_command}
use Rattle.nqs_words.specs.Values.{named_of}
use Rattle.nqs_query.specs.Words.{Read, Asked, stat_of, named_or_fault, nothing_more, request_from, is_kill_option, delete_of}
use Rattle.nqs_language_acts.specs.Acts.{of_words, listed}
use Rattle.nqs_language_acts.specs.Laws.{ListsAreSane, DeletionsAreSane}
use Rattle.nqs_language_acts.proofs.Steps.{each_step}

abbrev IsSane : Command → Type 0
IsSane c = is_sane_command c ≡ true

pub lists_are_sane : ListsAreSane
lists_are_sane words = by (stat_of words)
  where
    by : (r : Read Asked) → is_sane_command (of_words (listed r)) ≡ true
    by (Ok asked) = refl
    by (Err fault) = refl

request_sane : (number : ℕ) (kill : Bool) (words : List (List ℕ)) → IfOk (request_from number kill words) IsSane
request_sane number kill [] = tt
request_sane number kill (word ∷ words) = each_step IsSane (named_or_fault number (named_of word)) _
    (λ id is. each_step IsSane (nothing_more (number + 1) words) _ (λ done no. refl))

delete_sane : (words : List (List ℕ)) → IfOk (delete_of words) IsSane
unfolding delete_of
delete_sane [] = request_sane 1 false []
delete_sane (word ∷ words) = by (is_kill_option word)
  where
    by : (t : Bool) → IfOk (cond t (request_from 2 true words) (request_from 1 false (word ∷ words))) IsSane
    by true = request_sane 2 true words
    by false = request_sane 1 false (word ∷ words)

pub deletions_are_sane : DeletionsAreSane
deletions_are_sane words = by (delete_of words) (delete_sane words)
  where
    by : (r : Read Command) → IfOk r IsSane → is_sane_command (of_words r) ≡ true
    by (Ok c) h = h
    by (Err fault) h = refl
