-- Reading a list from its front.
use Rattle.std.proofs.Common.{◌≡◌, ℕ, suc, List, [], ◌∷◌, ◌++◌, refl, sym, ap, ◌∙◌, append_assoc, append-nil, Ok, Err}
use Rattle.nqs_records.specs.Reading.{Read, Reading, ◌>>=◌, repeated}
use Rattle.nqs_records.specs.declared.fault.RecordFault.{RecordFault}

-- with values in front of those that are read
abbrev pub after : {A : Type 0} → List A → Read (List A × ℕ) → Read (List A × ℕ)
after {A} front read = read >>= (λ v. Ok (front ++ v.0, v.1))

after_one : {A : Type 0} (front : List A) (x : A) (read : Read (List A × ℕ)) → after front (read >>= (λ xs. Ok (x ∷ xs.0, xs.1))) ≡ after (front ++ x ∷ []) read
after_one front x (Ok v) = ap (λ l. Ok (l, v.1)) (sym (append_assoc front (x ∷ []) v.0))
after_one front x (Err e) = refl

pub one_more : {A : Type 0} (whole : Read (List A × ℕ)) (front : List A) (n : ℕ) (item : Reading A) (bytes : List ℕ) (here : ℕ) (x : A) (next : ℕ)
    → whole ≡ after front (repeated (suc n) item bytes here) → item bytes here ≡ Ok (x, next) → whole ≡ after (front ++ x ∷ []) (repeated n item bytes next)
unfolding repeated
one_more whole front n item bytes here x next is found = (rw found at is) ∙ after_one front x (repeated n item bytes next)

pub stops : {A : Type 0} (whole : Read (List A × ℕ)) (front : List A) (n : ℕ) (item : Reading A) (bytes : List ℕ) (here : ℕ) (e : RecordFault)
    → whole ≡ after front (repeated (suc n) item bytes here) → item bytes here ≡ Err e → Err e ≡ whole
unfolding repeated
stops whole front n item bytes here e is fails = sym (rw fails at is)

pub all_read : {A : Type 0} (whole : Read (List A × ℕ)) (front : List A) (item : Reading A) (bytes : List ℕ) (here : ℕ)
    → whole ≡ after front (repeated 0 item bytes here) → Ok (front, here) ≡ whole
unfolding repeated
all_read whole front item bytes here is = ap (λ l. Ok (l, here)) (sym (append-nil front)) ∙ sym is
