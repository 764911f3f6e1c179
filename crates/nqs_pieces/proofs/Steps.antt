-- What a feed comes to: a message made whole, or messages with a piece more.
use Rattle.std.proofs.Common.{◌≡◌, ℕ, ◌-◌, true, false, List, length, Option, Some, None, sym, ap, ◌∙◌, inl, inr, arith}
use Rattle.std.proofs.lemmas.Bool.{cases_Bool, cond-true, cond-false}
use Rattle.std.proofs.lemmas.List.{length-drop}
use Rattle.nqs_pieces.specs.declared.piece.Piece.{Piece}
use Rattle.nqs_pieces.specs.declared.gather.Gathered.{Gathered}
use Rattle.nqs_pieces.specs.Gathering.{key_of, is_whole, message_of, grown, placed, forgotten, last_eight, Step, fed}
use Rattle.nqs_pieces.specs.Feeds.{is_awaited, ForgetsTheWhole, HoldsEight}
use Rattle.nqs_pieces.proofs.Places.{gone_forgotten, length-forgotten}

-- with the last piece that lacked
pub fed-whole : (q : Piece) (ms : List Gathered) → is_whole (grown q ms).slots ≡ true
    → fed q ms ≡ record { after = forgotten q ms; whole = Some (message_of (grown q ms).slots) }
unfolding fed
fed-whole q ms e = cond-true (is_whole (grown q ms).slots) _ _ e

-- with one after which others lack
pub fed-not : (q : Piece) (ms : List Gathered) → is_whole (grown q ms).slots ≡ false
    → fed q ms ≡ record { after = last_eight (placed q ms); whole = None }
unfolding fed
fed-not q ms e = cond-false (is_whole (grown q ms).slots) _ _ e

pub fed_forgets : (q : Piece) (ms : List Gathered) (message : List ℕ) → ForgetsTheWhole q ms message
fed_forgets q ms message is =
    elim (cases_Bool (is_whole (grown q ms).slots)) [
      | inl so ↦ ap (λ step. is_awaited (key_of q) step.after) (fed-whole q ms so) ∙ gone_forgotten q ms
      | inr isnt ↦ absurd (let nothing : Option (List ℕ) = None in let never : nothing ≡ Some message =
          ap (λ (step : Step). step.whole) (sym (fed-not q ms isnt)) ∙ is in cc)
    ]

pub fed_eight : (q : Piece) (ms : List Gathered) → HoldsEight q ms
fed_eight q ms few =
    elim (cases_Bool (is_whole (grown q ms).slots)) [
      | inl so ↦ omega (arith, ap (λ step. length step.after) (fed-whole q ms so), length-forgotten q ms)
      | inr isnt ↦ omega (arith, ap (λ step. length step.after) (fed-not q ms isnt), length-drop (length (placed q ms) - 8) (placed q ms))
    ]
