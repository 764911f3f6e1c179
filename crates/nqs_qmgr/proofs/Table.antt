-- The table of lines: each is told by its keywords, and second keywords are just those of lines.
use Rattle.std.proofs.Common.{◌≡◌, Bool, true, false, cond, ◌&&◌, ◌||◌, List, [], ◌∷◌, map, refl, Option, is_some, Some}
use Rattle.std.specs.Prelude.{filter, find}
use Rattle.std.specs.List.{list_any}
use Rattle.nqs_words.specs.Keywords.{is_same, keyword_of}
use Rattle.nqs_words.specs.declared.keyword.Keyword.{Keyword}
use Rattle.nqs_qmgr.specs.Lines.{Line, table, is_of, is_line, verbs, nouns, shape_of}
use Rattle.nqs_qmgr.specs.Law.{EachLineIsTold, NounsAreOfLines}

pub each_line_is_told : EachLineIsTold
unfolding table verbs nouns shape_of keyword_of
each_line_is_told = refl

-- a line that is of the verb is found where it has the keyword, or further on
one_more : (same any : Bool) (l : Line) (found : Option Line) → any ≡ is_some found → (same || any) ≡ is_some (cond same (Some l) found)
one_more true any l found h = refl
one_more false any l found h = h

-- the same of any lines
among : (verb noun : Keyword) (ls : List Line)
    → list_any (is_same noun) (map (λ (l : Line). l.noun) (filter (is_of verb) ls)) ≡ is_some (find (is_line verb noun) ls)
among verb noun [] = refl
among verb noun (l ∷ ls) = by (is_of verb l) (among verb noun ls)
  where
    by : (of : Bool) → list_any (is_same noun) (map (λ (l : Line). l.noun) (filter (is_of verb) ls)) ≡ is_some (find (is_line verb noun) ls)
        → list_any (is_same noun) (map (λ (l : Line). l.noun) (cond of (l ∷ filter (is_of verb) ls) (filter (is_of verb) ls)))
        ≡ is_some (cond (of && is_same noun l.noun) (Some l) (find (is_line verb noun) ls))
    by true h = one_more (is_same noun l.noun) _ l _ h
    by false h = h

pub nouns_are_of_lines : NounsAreOfLines
unfolding nouns
nouns_are_of_lines verb noun = among verb noun table
