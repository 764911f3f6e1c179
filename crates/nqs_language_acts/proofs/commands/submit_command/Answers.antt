use Rattle.std.proofs.Common.{sym}
use Rattle.nqs_words.proofs.Requests.{is-name}
use Rattle.nqs_language_acts.proofs.Named.{named_is}
use Rattle.nqs_language_acts.proofs.commands.submit_command.Goals as goal

pub returns : goal.returns
returns c =
    rw (c.new.ensures, c.new-2.ensures, c.new-3.ensures) (sym (named_is c.args.user.now c.args.name.now
    (is-name c.args.name.now c.as_bytes-bytes.ensures.name)))
