use Rattle.std.proofs.Common.{◌∙◌, ◌∷◌, [], cond, sym, ap, subst}
use Rattle.std.specs.Option.{option_copied}
use Rattle.nqs_state.specs.State.{content}
use Rattle.nqs_store.specs.Accounts.{Takes}
use Rattle.nqs_store.specs.Frees.{doubled}
use Rattle.nqs_store.proofs.Freeing.{one_free}
use Rattle.nqs_store.proofs.free.free_doubled.Goals as goal

pub returns-then-has : goal.returns-then-has
returns-then-has g c =
    let p = c.in-Some.promise.now in
    let found = sym c.get.ensures ∙ ap option_copied c.in-Some.is in
    let has = sym c.has.ensures ∙ c.if-has.true in
    let list = ap (doubled (content c.args.state.now)) found ∙ ap (λ b. cond b (p.row.script ∷ []) []) has in
    record {
      same = c.free.ensures.same;
      tells = λ live fewer was takes.
          one_free c.args.spool.now c.free.new.self p.row.script c.free.ensures.tells live fewer was (subst (λ l. Takes live l fewer) list takes);
    }
