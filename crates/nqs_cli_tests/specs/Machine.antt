-- What a machine in memory tells.
use Rattle.nqs_fakes.specs.Told.{told_of}
use Rattle.nqs_cli.specs.Parts.{MachineTold}
use Rattle.nqs_cli_tests.specs.Told.{lent_of, back_of}
use Rattle.nqs_cli_tests.specs.declared.machine.MemMachine.{MemMachine}

-- all that it lent and took back since its lists began, unless memory for them ran out
abbrev pub machine_told : MemMachine → MachineTold
machine_told m =
    record { lent = told_of m.starved lent_of m.lent.items; back = told_of m.starved back_of m.back.items; faults = m.faults }
