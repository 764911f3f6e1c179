-- Replies of one line.
use Rattle.std.specs.Prelude.{List, [], get_or}
use Rattle.nqs_types.specs.declared.event.Reply.{Reply}
use Rattle.nqs_types.specs.declared.event.Reply.TheVariants as reply
use Rattle.nqs_rules.specs.Text.{Text}
use Rattle.nqs_rules.specs.Transcript.{reply_lines}

-- the text of a reply of one line, without its end; nothing for a list
abbrev pub reply_line : List Text → Reply → Text
reply_line site (reply.Lines ls) = []
reply_line site r = get_or (reply_lines site r) 0 []
