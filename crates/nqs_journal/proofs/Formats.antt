-- A front that has a payload's record.
use Rattle.std.proofs.Common.{ℕ, ◌≤◌, List, [], ◌∷◌, ◌++◌, length, ap, ◌∙◌}
use Rattle.std.proofs.lemmas.List.{append-nil}
use Rattle.nqs_outside.specs.History.{History}
use Rattle.nqs_journal.specs.Text.{header, records}
use Rattle.nqs_journal.specs.Opened.{IsOpen}

-- behind a front with its record the payload is told
pub one_told : (h : History) (payload : List ℕ) → length payload ≤ 65536 → IsOpen h (header ++ records (payload ∷ []))
    (length (header ++ records (payload ∷ []))) []
    → IsOpen h header (length (header ++ records (payload ∷ []))) (payload ∷ [])
one_told h payload short opened = record {
  stands = record {
    gate = opened.stands.gate;
    rest = opened.stands.rest;
    text = opened.stands.text ∙ ap (λ (l : List ℕ). l ++ opened.stands.gate ∷ opened.stands.rest) (append-nil (header ++ records (payload ∷ [])));
    closed = opened.stands.closed;
    short = (short, tt);
  };
  gate_place = λ _. length (header ++ records (payload ∷ []));
  quiet = opened.quiet;
}
