use Rattle.nqs_serve.proofs.Sendable.{sane_message, goes_to_host, has_its_number, words_short}
use Rattle.nqs_serve.proofs.said.may_be_sent.Goals as goal

pub body_is_typed-requires : goal.body_is_typed-requires
body_is_typed-requires c = has_its_number c.args.message.now c.requires.right

pub returns-clause-may : goal.returns-clause-may
returns-clause-may c =
    let m = c.args.message.now in
    c.what_is_sane_may_be_sent.ensures m c.body_is_typed.ensures (goes_to_host m c.requires.right) (sane_message m c.requires.right c.requires.short)

pub returns-clause-few : goal.returns-clause-few
returns-clause-few c = let m = c.args.message.now in words_short m.body (has_its_number m c.requires.right)
