use Rattle.std.proofs.Common.{◌≡◌, List, ℕ, Ok, Some, refl, sym, drop}
use Rattle.nqs_query.specs.Words.{user_word, queues_from, of_user}
use Rattle.nqs_query.proofs.words.of_user.Goals as goal

asked : (words queues : List (List ℕ)) (user : List ℕ) → user_word words ≡ Ok user → queues_from 3 (drop 2 words) ≡ Ok queues
    → of_user words ≡ Ok (record { user = Some user; queues = queues })
asked words queues user u e = rw (u, e) refl

pub returns-in-Ok-2 : goal.returns-in-Ok-2
returns-in-Ok-2 c = (
  record { user = Some c.in-Ok.user; queues = c.in-Ok-2.queues },
  asked c.args.words.now c.in-Ok-2.queues c.in-Ok.user (sym c.in-Ok.ensures)
      (rw (c.in-Ok-2.is, c.behind_two.ensures) at c.in_ok-queues.ensures),
  refl,
)
