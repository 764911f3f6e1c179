use Rattle.nqs_serve.proofs.Hearing.{heard_from_letters}
use Rattle.nqs_serve.proofs.laws.what_is_said_is_heard.Goals as goal

pub returns : goal.returns
returns c =
    heard_from_letters c.pieces_make_the_message.ensures c.pieces_are_read_back.ensures c.reads_the_spelling.ensures c.what_is_short_may_go.ensures
    c.each_letter_fits.ensures
