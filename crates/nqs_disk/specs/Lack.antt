-- Why a disk in memory didn't keep a call, as the clauses name it.
use Rattle.std.specs.Prelude.{Result, Ok, Err, Option, Some}
use Rattle.nqs_disk.specs.declared.lack.Full.{Full}
use Rattle.nqs_disk.specs.declared.lack.Lack.{Lack}

-- a write past the greatest length: there is one such value
pub full : Full
full = record { past = record {} }

-- what a disk lacks after a call, by whether it was kept: the newest lack stays
abbrev pub newest : Result (Unit {0}) Lack → Option Lack → Option Lack
newest (Ok done) was = was
newest (Err lack) was = Some lack
