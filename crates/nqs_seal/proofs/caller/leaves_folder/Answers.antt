use Rattle.std.proofs.Common.{◌∙◌, string_bytes}
use Rattle.nqs_seal.proofs.Typed.{all_typed}
use Rattle.nqs_seal.proofs.caller.leaves_folder.Goals as goal

pub returns-then-has_folders : goal.returns-then-has_folders
returns-then-has_folders c = rw c.if-has_folders.true (c.all_others.ensures ∙ all_typed (λ s. string_bytes s) c.args.words.now)
