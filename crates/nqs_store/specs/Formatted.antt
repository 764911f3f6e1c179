-- A disk that was formatted.
use Rattle.std.specs.Prelude.{◌≡◌, ℕ, List, [], ◌∷◌, ◌++◌, length, Some}
use Rattle.nqs_types.specs.declared.ids.HostId.{HostId}
use Rattle.nqs_rules.specs.Format.{formatted}
use Rattle.nqs_outside.specs.History.{History}
use Rattle.nqs_journal.specs.Text.{header, records}
use Rattle.nqs_journal.specs.Opened.{IsOpen}
use Rattle.nqs_store.specs.Told.{told}

-- It is the journal of one record, which tells the formatted host. Nothing is pending.
pub record IsFormatted (h : History) (me : HostId) (site : List (List ℕ)) : Type 0 where
  pub payload : List ℕ
  pub opened : IsOpen h header (length (header ++ records (payload ∷ []))) (payload ∷ [])
  pub tells : told (payload ∷ []) ≡ Some (formatted me site)
