-- What holds of an answer, from what holds of it in each case.
use Rattle.std.proofs.Common.{Result, Ok, Err, OnOk, OnErr}

module _ {T E : Type 0} where
  pub ok_three : (r : Result T E) (P Q R S : Type 0) → (P → Q → R → S) → OnOk r P → OnOk r Q → OnOk r R → OnOk r S
  ok_three (Ok x) P Q R S to p q r = to p q r
  ok_three (Err e) P Q R S to p q r = tt

  pub either_way : (r : Result T E) (P Q S : Type 0) → (P → S) → (Q → S) → OnOk r P → OnErr r Q → S
  either_way (Ok x) P Q S ok err p q = ok p
  either_way (Err e) P Q S ok err p q = err q
