-- What the outside of a daemon tells of what it was asked, in one piece.
use Rattle.std.specs.Prelude.{ℕ, List, []}
use Rattle.std.specs.declared.option.Option.{Option}
use Rattle.nqs_outside.specs.Asked.{Traffic, Asked, Print, Filing}
use Rattle.nqs_outside.specs.Told.{Extends}

-- what the outside tells of what it was asked, where it tells it
pub record Telling : Type 0 where
  pub traffic : Option (List Traffic)
  pub asked : Option (List Asked)
  pub prints : Option (List Print)
  pub filings : Option (List Filing)
  pub given : Option (List ℕ)

-- what the wire, the launcher, the printer, the outlet and the clock tell
abbrev pub telling : Option (List Traffic) → Option (List Asked) → Option (List Print) → Option (List Filing) → Option (List ℕ) → Telling
telling t a p f c = record { traffic = t; asked = a; prints = p; filings = f; given = c }

-- what is told grew by just these
pub record Adds (was now : Telling) (t : List Traffic) (a : List Asked) (p : List Print) (f : List Filing) (c : List ℕ) : Type 0 where
  pub traffic : Extends was.traffic now.traffic t
  pub asked : Extends was.asked now.asked a
  pub prints : Extends was.prints now.prints p
  pub filings : Extends was.filings now.filings f
  pub given : Extends was.given now.given c

-- nothing was asked
abbrev pub AddsNone : Telling → Telling → Type 0
AddsNone was now = Adds was now [] [] [] [] []

-- only the wire was asked
abbrev pub Passes : Telling → Telling → List Traffic → Type 0
Passes was now t = Adds was now t [] [] [] []

-- only the launcher, the printer and the outlet were asked
abbrev pub Does : Telling → Telling → List Asked → List Print → List Filing → Type 0
Does was now a p f = Adds was now [] a p f []

-- only the clock was asked
abbrev pub Gives : Telling → Telling → List ℕ → Type 0
Gives was now c = Adds was now [] [] [] [] c
