-- What holds of all that a reading gives.
use Rattle.std.proofs.Common.{◌≡◌, Bool, true, false, cond, refl, Result, Ok, Err, IfOk}
use Rattle.nqs_base.specs.Reads.{◌>>=◌}

-- of the second of two steps
pub each_step : {A B E : Type 0} (P : B → Type 0) (r : Result A E) (f : A → Result B E) → ((a : A) → r ≡ Ok a → IfOk (f a) P) → IfOk (r >>= f) P
each_step P (Ok a) f h = h a refl
each_step P (Err e) f h = tt

-- of the second, where something holds of what the first gives
pub next_step : {A B E : Type 0} (P : A → Type 0) (Q : B → Type 0) (r : Result A E) (f : A → Result B E) → IfOk r P → ((a : A) → P a → IfOk (f a) Q)
    → IfOk (r >>= f) Q
next_step P Q (Ok a) f p h = h a p
next_step P Q (Err e) f p h = tt

-- of what is read where a test fails
pub unless : {A E : Type 0} (P : A → Type 0) (t : Bool) (e : E) (r : Result A E) → (t ≡ false → IfOk r P) → IfOk (cond t (Err e) r) P
unless P true e r h = tt
unless P false e r h = h refl
