-- A datagram by hand, and a site of two hosts.
use Rattle.std.specs.Prelude.{ℕ, List, [], ◌∷◌, codes}
use Rattle.nqs_serve.specs.Events.{Here}

-- DONE of handover 1 to host 0, from a host, in a version
abbrev pub done_by : ℕ → ℕ → List ℕ
done_by version host = version ∷ 5 ∷ host ∷ 0 ∷ 0 ∷ 0 ∷ 0 ∷ 0 ∷ 0 ∷ 0 ∷ 0 ∷ 1 ∷ []

-- the same in the version that hosts write
abbrev pub done_from : ℕ → List ℕ
done_from host = done_by 2 host

-- one of the two hosts
abbrev pub one_of_two : ℕ → Here
one_of_two me = record { me = record { 0 = me }; site = codes "alpha" ∷ codes "beta" ∷ [] }
