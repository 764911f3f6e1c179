use Rattle.std.proofs.Common.{◌≡◌, List, ℕ, Ok, None, refl}
use Rattle.nqs_query.specs.Words.{queues_from, of_all}
use Rattle.nqs_query.proofs.words.of_all.Goals as goal

asked : (words queues : List (List ℕ)) → queues_from 1 words ≡ Ok queues → of_all words ≡ Ok (record { user = None; queues = queues })
asked words queues e = rw e refl

pub returns-in-Ok : goal.returns-in-Ok
returns-in-Ok c = (record { user = None; queues = c.in-Ok.queues }, asked c.args.words.now c.in-Ok.queues (rw c.in-Ok.is at c.in_ok-queues.ensures), refl)
