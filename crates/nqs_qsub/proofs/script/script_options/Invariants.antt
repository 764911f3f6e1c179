use Rattle.std.proofs.Common.{◌≡◌, ◌+◌, ◌-◌, ◌≤◌, length}
use Rattle.nqs_qsub.specs.Script.{script_options}
use Rattle.nqs_qsub.specs.Options.{no_options}
use Rattle.nqs_qsub.proofs.script.script_options.Given as goal

abbrev pub invariant-loop : goal.invariant-loop
invariant-loop l = record {
  inside : l.place ≤ length l.script;
  counted : l.line ≡ l.counter + 1;
  so_far : script_options (length l.script - l.counter) l.script l.line l.place l.options ≡ script_options (length l.script) l.script 1 0 no_options;
}
