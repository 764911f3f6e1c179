-- What is told, one call after another.
use Rattle.std.proofs.Common.{◌≡◌, ℕ, List, [], ◌++◌}
use Rattle.std.proofs.lemmas.List.{append-nil}
use Rattle.nqs_outside.specs.Asked.{Traffic, Asked, Print, Filing}
use Rattle.nqs_outside.proofs.Told.{extends_none, extends_then, extends_same}
use Rattle.nqs_serve.specs.Tellings.{Telling, Adds, AddsNone, Passes, Does}

pub adds_none : (t : Telling) → AddsNone t t
adds_none t = record {
  traffic = extends_none t.traffic;
  asked = extends_none t.asked;
  prints = extends_none t.prints;
  filings = extends_none t.filings;
  given = extends_none t.given;
}

pub adds_then : {t u : List Traffic} {x y : List Asked} {p q : List Print} {f g : List Filing} {m n : List ℕ} (a b c : Telling) → Adds a b t x p f m
    → Adds b c u y q g n → Adds a c (t ++ u) (x ++ y) (p ++ q) (f ++ g) (m ++ n)
adds_then {t} {u} {x} {y} {p} {q} {f} {g} {m} {n} a b c one two = record {
  traffic = extends_then a.traffic b.traffic c.traffic t u one.traffic two.traffic;
  asked = extends_then a.asked b.asked c.asked x y one.asked two.asked;
  prints = extends_then a.prints b.prints c.prints p q one.prints two.prints;
  filings = extends_then a.filings b.filings c.filings f g one.filings two.filings;
  given = extends_then a.given b.given c.given m n one.given two.given;
}

-- a datagram is sent, and then the output is asked for
pub passes_then : {t : List Traffic} {x : List Asked} {p : List Print} {f : List Filing} (a b c : Telling) → Passes a b t → Does b c x p f
    → Adds a c t x p f []
passes_then {t} {x} {p} {f} a b c one two = record {
  traffic = extends_same a.traffic c.traffic (t ++ []) t (append-nil t) (extends_then a.traffic b.traffic c.traffic t [] one.traffic two.traffic);
  asked = extends_then a.asked b.asked c.asked [] x one.asked two.asked;
  prints = extends_then a.prints b.prints c.prints [] p one.prints two.prints;
  filings = extends_then a.filings b.filings c.filings [] f one.filings two.filings;
  given = extends_then a.given b.given c.given [] [] one.given two.given;
}

-- what passed the wire, said otherwise
pub passes_as : (was now : Telling) (xs ys : List Traffic) → xs ≡ ys → Passes was now xs → Passes was now ys
passes_as was now xs ys same one = record {
  traffic = extends_same was.traffic now.traffic xs ys same one.traffic;
  asked = one.asked;
  prints = one.prints;
  filings = one.filings;
  given = one.given;
}
