use Rattle.std.proofs.Common.{◌≡◌, ◌∙◌, ◌∷◌, [], refl, sym, ap, subst}
use Rattle.std.specs.Option.{option_copied}
use Rattle.nqs_store.specs.Accounts.{Takes}
use Rattle.nqs_store.specs.Frees.{part_of}
use Rattle.nqs_store.proofs.Freeing.{one_free}
use Rattle.nqs_store.proofs.free.free_one.Goals as goal

pub returns-in-Some-clause-tells : goal.returns-in-Some-clause-tells
returns-in-Some-clause-tells g c = λ part says live fewer tells takes.
    let v = c.in-Some.value.now in
    let told : c.part.result ≡ part v = says v c.part.result (record { shown = c.in-Some.value; shows = refl; says = record { met = c.part.ensures } }) in
    let list = ap (λ o. part_of part (option_copied o)) c.in-Some.is ∙ ap (λ x. x ∷ []) (sym told) in
    one_free c.args.spool.now c.free.new.self c.part.result c.free.ensures.tells live fewer tells (subst (λ l. Takes live l fewer) list takes)
