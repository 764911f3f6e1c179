-- What the launcher in memory tells.
use Rattle.std.specs.Prelude.{List}
use Rattle.std.specs.declared.option.Option.{Option}
use Rattle.nqs_outside.specs.Asked.{Asked, launched, killed}
use Rattle.nqs_fakes.specs.Told.{told_of}
use Rattle.nqs_fakes.specs.declared.launcher.LauncherCall.{LauncherCall}
use Rattle.nqs_fakes.specs.declared.launcher.LauncherCall.TheVariants.{Launch, Kill}
use Rattle.nqs_fakes.specs.declared.launcher.MemLauncher.{MemLauncher}

-- what was asked in a call that is kept
abbrev pub ask_of : LauncherCall → Asked
ask_of (Launch order script ok) = launched order script ok
ask_of (Kill id start ok) = killed id start ok

-- what it was asked, unless memory ran out
abbrev pub asked_of : MemLauncher → Option (List Asked)
asked_of l = told_of l.starved ask_of l.kept
