-- Reading a line from the left: the first step that fails gives the answer.
use Rattle.std.specs.declared.result.Result.{Result}
pub use Rattle.nqs_base.specs.Reads.{◌>>=◌, or_fault}
use Rattle.nqs_types.specs.declared.fault.GrammarFault.{GrammarFault}

-- what a part of a line gives, or the first fault
abbrev pub Read : Type 0 → Type 0
Read A = Result A GrammarFault
