-- Options of a script, line by line.
use Rattle.std.proofs.Common.{◌≡◌, ℕ, suc, ◌+◌, ◌-◌, ◌<◌, ◌≤◌, List, drop, ap, sym, ◌∙◌, Ok, Err, Bool, true, false, arith}
use Rattle.nqs_types.specs.declared.fault.WordsFault.{WordsFault}
use Rattle.nqs_qsub.specs.declared.options.Options.{Options}
use Rattle.nqs_qsub.specs.Tokens.{Read, ◌>>=◌}
use Rattle.nqs_qsub.specs.Script.{line_kind, line_options, go_on, next_line, script_options}

first : (n i : ℕ) (script : List ℕ) (line place : ℕ) (o : Options) → i < n
    → script_options (n - i) script line place o ≡ (line_options (line_kind (drop place script)) script line place o >>=
    (λ step. go_on step (script_options (n - (i + 1)) script (line + 1) (next_line script place))))
unfolding script_options
first n i script line place o less = let e : n - i ≡ suc (n - (i + 1)) = omega arith in ap (λ (k : ℕ). script_options k script line place o) e

pub line_fails : (n i : ℕ) (script : List ℕ) (line place : ℕ) (o : Options) (all : Read Options) (r : Read (Options × Bool)) (f : WordsFault)
    → i < n → r ≡ line_options (line_kind (drop place script)) script line place o → script_options (n - i) script line place o ≡ all → r ≡ Err f → Err f ≡ all
line_fails n i script line place o all r f less is before fails = rw (first n i script line place o less, ← is, fails) at before

pub line_ends : (n i : ℕ) (script : List ℕ) (line place : ℕ) (o : Options) (all : Read Options) (r : Read (Options × Bool)) (more : Options) (goes : Bool)
    → i < n → r ≡ line_options (line_kind (drop place script)) script line place o → script_options (n - i) script line place o ≡ all → r ≡ Ok (more, goes)
    → goes ≡ false → Ok more ≡ all
line_ends n i script line place o all r more goes less is before read ends = rw (first n i script line place o less, ← is, read, ends) at before

pub line_goes_on : (n i : ℕ) (script : List ℕ) (line place : ℕ) (o : Options) (all : Read Options) (r : Read (Options × Bool)) (more : Options) (goes : Bool)
    → i < n → r ≡ line_options (line_kind (drop place script)) script line place o → script_options (n - i) script line place o ≡ all → r ≡ Ok (more, goes)
    → goes ≡ true
    → script_options (n - (i + 1)) script (line + 1) (next_line script place) more ≡ all
line_goes_on n i script line place o all r more goes less is before read on = rw (first n i script line place o less, ← is, read, on) at before

pub lines_end : (n i : ℕ) (script : List ℕ) (line place : ℕ) (o : Options) (all : Read Options) → n ≤ i → script_options (n - i) script line place o ≡ all
    → Ok o ≡ all
unfolding script_options
lines_end n i script line place o all past before = let e : n - i ≡ 0 = omega arith in sym (ap (λ (k : ℕ). script_options k script line place o) e) ∙ before
