-- The lines of a script that hold options.
use Rattle.std.specs.Prelude.{ℕ, zero, suc, ◌+◌, ◌-◌, Bool, true, false, ◌==◌, ◌&&◌, nat_lt, List, [], ◌∷◌, length, take, drop, unwrap_or, if◌then◌else◌, Ok}
use Rattle.nqs_words.specs.Values.{place_of}
use Rattle.nqs_qsub.specs.declared.token.Source.TheVariants.{Script}
use Rattle.nqs_qsub.specs.declared.script.LineKind.{LineKind}
use Rattle.nqs_qsub.specs.declared.script.LineKind.TheVariants.{Last, Remark, Words}
use Rattle.nqs_qsub.specs.declared.options.Options.{Options}
use Rattle.nqs_qsub.specs.Tokens.{Read, ◌>>=◌}
use Rattle.nqs_qsub.specs.Options.{read_words}

-- does the script begin with `#@$`?
abbrev pub has_mark : List ℕ → Bool
has_mark (a ∷ b ∷ c ∷ rest) = a == 35 && (b == 64 && c == 36)
has_mark _ = false

-- does the line begin with `#`?
abbrev pub has_hash : List ℕ → Bool
has_hash [] = false
has_hash (b ∷ bs) = b == 35

-- does a line end here?
abbrev pub ends_line : List ℕ → Bool
ends_line [] = true
ends_line (b ∷ bs) = b == 10

-- what the line that begins here is: one with words, a remark, or one that ends the reading
unfoldable pub line_kind : List ℕ → LineKind
line_kind rest = if has_mark rest then (if ends_line (drop 3 rest) then Last else Words) else (if has_hash rest then Remark else Last)

-- where the line ends that begins there
unfoldable pub line_end : List ℕ → ℕ → ℕ
line_end script place = place + unwrap_or (place_of 10 (drop place script)) (length script - place)

-- where the next line begins, or the script's end
unfoldable pub next_line : List ℕ → ℕ → ℕ
next_line script place = if nat_lt (line_end script place) (length script) then line_end script place + 1 else length script

-- the options with those of a line, and whether the reading goes on
unfoldable pub line_options : LineKind → List ℕ → ℕ → ℕ → Options → Read (Options × Bool)
line_options Last script line place o = Ok (o, false)
line_options Remark script line place o = Ok (o, true)
line_options Words script line place o = read_words 13 Script [] (take (line_end script place) script) line 1 (place + 3) o >>= (λ more. Ok (more, true))

-- the options so far, or with those of the next lines, where the reading goes on
abbrev pub go_on : Options × Bool → (Options → Read Options) → Read Options
go_on p next = if p.1 then next p.0 else Ok p.0

-- the options of at most so many lines, from the line of this number and place on
unfoldable pub script_options : ℕ → List ℕ → ℕ → ℕ → Options → Read Options
script_options zero script line place o = Ok o
script_options (suc left) script line place o =
    line_options (line_kind (drop place script)) script line place o >>= (λ step. go_on step (script_options left script (line + 1) (next_line script place)))
