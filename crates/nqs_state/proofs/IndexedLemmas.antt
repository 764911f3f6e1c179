-- An index that is there, or not.
use Rattle.std.proofs.Common.{◌≡◌, false, true≢false}
use Rattle.nqs_index.specs.declared.index.Index.{Index}
use Rattle.nqs_state.specs.declared.indexed.Indexed.{Indexed}
use Rattle.nqs_state.specs.declared.indexed.Indexed.TheVariants.{There, Lacking, NotYet}
use Rattle.nqs_state.specs.Kept.{IfThere, is_there}

-- what follows from what an index has
pub there_then : (P Q : Index → Type 0) (x : Indexed) → ((i : Index) → P i → Q i) → IfThere P x → IfThere Q x
there_then P Q (There i) then h = then i h
there_then P Q (Lacking m) then h = tt
there_then P Q NotYet then h = tt

-- one that isn't there has whatever is asked
pub not_there : (P : Index → Type 0) (x : Indexed) → is_there x ≡ false → IfThere P x
not_there P (There i) h = absurd (true≢false h)
not_there P (Lacking m) h = tt
not_there P NotYet h = tt
