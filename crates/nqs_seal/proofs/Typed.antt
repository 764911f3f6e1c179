-- Tests of words as they are typed.
use Rattle.std.proofs.Common.{◌≡◌, ℕ, List, map, sym}
use Rattle.std.proofs.lemmas.List.Folds.{list_all-map}
use Rattle.std.specs.List.{list_all}
use Rattle.nqs_seal.specs.Caller.{is_other}

pub all_typed : {W : Type 0} (bytes : W → List ℕ) (words : List W) → list_all (λ w. is_other (bytes w)) words ≡ list_all is_other (map bytes words)
all_typed bytes words = sym (list_all-map is_other bytes words)
