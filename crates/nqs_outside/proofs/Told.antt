-- Told lists, one call after another.
use Rattle.std.proofs.Common.{◌≡◌, List, [], ◌++◌, ap, sym, ◌∙◌, append_assoc}
use Rattle.std.proofs.lemmas.List.{append-nil}
use Rattle.std.specs.declared.option.Option.{Option}
use Rattle.nqs_outside.specs.Told.{Extends}

pub extends_none : {A : Type 0} (now : Option (List A)) → Extends now now []
extends_none now l told = (l, told, sym (append-nil l))

pub extends_then : {A : Type 0} (was mid now : Option (List A)) (xs ys : List A) → Extends was mid xs → Extends mid now ys → Extends was now (xs ++ ys)
extends_then was mid now xs ys first second l told =
    let two = second l told in
    let one = first two.0 two.1 in
    (one.0, one.1, two.2 ∙ ap (λ k. k ++ ys) one.2 ∙ append_assoc one.0 xs ys)

pub extends_same : {A : Type 0} (was now : Option (List A)) (xs ys : List A) → xs ≡ ys → Extends was now xs → Extends was now ys
extends_same was now xs ys same told = rw same at told
