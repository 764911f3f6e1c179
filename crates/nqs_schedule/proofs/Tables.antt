-- Lines of what is seen.
use Rattle.std.proofs.Common.{◌≡◌, ℕ, ◌≤◌, List, [], ◌∷◌, ◌++◌, map, length, take, refl, ap, ◌∙◌}
use Rattle.std.specs.Prelude.{codes}
use Rattle.std.specs.List.{flat_map}
use Rattle.std.specs.Fmt.{decimal}
use Rattle.std.proofs.lemmas.List.{append-nil, take_all}
use Rattle.nqs_types.specs.declared.table_row.TableRow.{TableRow}
use Rattle.nqs_types.specs.declared.event.Reply.{Reply}
use Rattle.nqs_types.specs.declared.world.Seen.{Seen}
use Rattle.nqs_types.specs.declared.world.Seen.TheVariants as seen
use Rattle.nqs_rules.specs.Text.{Text, words}
use Rattle.nqs_rules.specs.Transcript.{line, table_line, seen_text}
use Rattle.nqs_schedule.specs.Seen.{seen_line, row_line}

fused : (site : List Text) (rows : List TableRow) → flat_map (row_line site) rows ≡ flat_map line (map (table_line site) rows)
fused site [] = refl
fused site (r ∷ rs) = ap (λ (l : Text). line (table_line site r) ++ l) (fused site rs)

pub table_put : (site : List Text) (rows : List TableRow) (i : ℕ) (out new : List ℕ) → length rows ≤ i
    → new ≡ out ++ (line (words (codes "table" ∷ decimal (length rows) ∷ [])) ++ flat_map (row_line site) (take i rows))
    → new ≡ out ++ seen_text site (seen.Table rows)
table_put site rows i out new past so_far =
    so_far ∙ ap (λ (l : Text). out ++ (line (words (codes "table" ∷ decimal (length rows) ∷ [])) ++ l))
    (ap (flat_map (row_line site)) (take_all i rows past) ∙ fused site rows)

-- what is seen in one line is that line with its end
pub one_line : (site : List Text) (x : Seen) → ((r : Reply) → x ≡ seen.Reply r → ⊥) → ((rows : List TableRow) → x ≡ seen.Table rows → ⊥)
    → seen_text site x ≡ seen_line site x ++ 10 ∷ []
one_line site (seen.Reply r) no_reply no_table = absurd (no_reply r refl)
one_line site (seen.Table rows) no_reply no_table = absurd (no_table rows refl)
one_line site (seen.Launch h id n) no_reply no_table = append-nil (seen_line site (seen.Launch h id n) ++ 10 ∷ [])
one_line site (seen.Print h id n d) no_reply no_table = append-nil (seen_line site (seen.Print h id n d) ++ 10 ∷ [])
one_line site (seen.Kill h id n) no_reply no_table = append-nil (seen_line site (seen.Kill h id n) ++ 10 ∷ [])
one_line site (seen.Write h f p l) no_reply no_table = append-nil (seen_line site (seen.Write h f p l) ++ 10 ∷ [])
one_line site (seen.Packet k f t kind n) no_reply no_table = append-nil (seen_line site (seen.Packet k f t kind n) ++ 10 ∷ [])
one_line site (seen.Ended h id n s) no_reply no_table = append-nil (seen_line site (seen.Ended h id n s) ++ 10 ∷ [])
one_line site (seen.Unlaunched h id n) no_reply no_table = append-nil (seen_line site (seen.Unlaunched h id n) ++ 10 ∷ [])
one_line site (seen.Again h id) no_reply no_table = append-nil (seen_line site (seen.Again h id) ++ 10 ∷ [])
one_line site (seen.Lost h id) no_reply no_table = append-nil (seen_line site (seen.Lost h id) ++ 10 ∷ [])
one_line site (seen.Boot h) no_reply no_table = append-nil (seen_line site (seen.Boot h) ++ 10 ∷ [])
one_line site (seen.Stop h) no_reply no_table = append-nil (seen_line site (seen.Stop h) ++ 10 ∷ [])
one_line site (seen.Down h) no_reply no_table = append-nil (seen_line site (seen.Down h) ++ 10 ∷ [])
one_line site (seen.Up h) no_reply no_table = append-nil (seen_line site (seen.Up h) ++ 10 ∷ [])
one_line site (seen.NoPacket k) no_reply no_table = append-nil (seen_line site (seen.NoPacket k) ++ 10 ∷ [])
one_line site (seen.Idle h) no_reply no_table = append-nil (seen_line site (seen.Idle h) ++ 10 ∷ [])
