-- What may be left out, read by its tag.
use Rattle.std.proofs.Common.{◌≡◌, ℕ, List, refl}
use Rattle.nqs_records.specs.Reading.{Reading, ◌>>=◌, if_there}
use Rattle.nqs_records.specs.Fields.{bool_at, opt_at}

pub opt_is : {A : Type 0} (item : Reading A) (bytes : List ℕ) (place : ℕ)
    → opt_at item bytes place ≡ (bool_at bytes place >>= (λ tag. if_there tag.0 item bytes tag.1))
unfolding opt_at
opt_is item bytes place = refl
