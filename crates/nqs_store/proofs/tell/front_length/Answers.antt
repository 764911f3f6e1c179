use Rattle.std.proofs.Common.{sym}
use Rattle.nqs_store.proofs.Telling.{length-front_by}
use Rattle.nqs_store.proofs.tell.front_length.Goals as goal

pub returns : goal.returns
returns c = sym (length-front_by c.args.version c.args.snapshot.now c.if-version-eq0.false c.if-version-gt2.false)
