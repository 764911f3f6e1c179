-- What the printer in memory tells.
use Rattle.std.specs.Prelude.{List}
use Rattle.std.specs.declared.option.Option.{Option}
use Rattle.nqs_outside.specs.Asked.{Print, printed}
use Rattle.nqs_fakes.specs.Told.{told_of}
use Rattle.nqs_fakes.specs.declared.printer.Printed.{Printed}
use Rattle.nqs_fakes.specs.declared.printer.MemPrinter.{MemPrinter}

-- what was to be printed in a call that is kept
abbrev pub print_of : Printed → Print
print_of p = printed p.device p.order p.bytes p.ok

-- what was to be printed, unless memory ran out
abbrev pub prints_of : MemPrinter → Option (List Print)
prints_of p = told_of p.starved print_of p.kept
