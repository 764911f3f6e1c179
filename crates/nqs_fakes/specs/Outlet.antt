-- What the outlet in memory tells.
use Rattle.std.specs.Prelude.{List}
use Rattle.std.specs.declared.option.Option.{Option}
use Rattle.nqs_outside.specs.Asked.{Filing, filed}
use Rattle.nqs_fakes.specs.Told.{told_of}
use Rattle.nqs_fakes.specs.declared.outlet.FileWritten.{FileWritten}
use Rattle.nqs_fakes.specs.declared.outlet.MemOutlet.{MemOutlet}

-- the file that was to be written in a call that is kept
abbrev pub filing_of : FileWritten → Filing
filing_of f = filed f.path f.bytes f.ok

-- the files that were to be written, unless memory ran out
abbrev pub filings_of : MemOutlet → Option (List Filing)
filings_of o = told_of o.starved filing_of o.kept
