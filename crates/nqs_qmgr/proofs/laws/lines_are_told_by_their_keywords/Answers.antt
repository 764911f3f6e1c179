use Rattle.nqs_qmgr.proofs.Table.{each_line_is_told, nouns_are_of_lines}
use Rattle.nqs_qmgr.proofs.laws.lines_are_told_by_their_keywords.Goals as goal

pub returns : goal.returns
returns c = record { told = each_line_is_told; nouns = nouns_are_of_lines }
