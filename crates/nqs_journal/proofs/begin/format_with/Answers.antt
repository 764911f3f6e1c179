use Rattle.std.proofs.Common.{◌∙◌, [], ◌∷◌, ◌++◌}
use Rattle.nqs_journal.specs.Text.{header, records}
use Rattle.nqs_journal.proofs.Formats.{one_told}
use Rattle.nqs_journal.proofs.begin.format_with.Goals as goal

pub returns-in-Ok-write_begin-clause-formatted : goal.returns-in-Ok-write_begin-clause-formatted
returns-in-Ok-write_begin-clause-formatted g c = λ told.
    let payload = c.args.payload.now in
    one_told _ payload c.requires (c.in-Ok-write_begin.ensures.open told (header ++ records (payload ∷ [])) (c.deref.ensures.value ∙ c.in-Ok.ensures))
