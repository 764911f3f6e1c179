use Rattle.std.proofs.Common.{◌∷◌, [], cond, subst}
use Rattle.nqs_store.specs.Accounts.{Takes}
use Rattle.nqs_store.proofs.Freeing.{one_free, past_last}
use Rattle.nqs_store.proofs.free.free_unnumbered.Goals as goal

pub returns : goal.returns
returns g c = record {
  same = c.free.ensures.same;
  tells = λ live fewer was takes.
      let none = past_last c.args.state.now.file_next c.if-state-lt18446744073709551615.false in
      one_free c.args.spool.now c.free.new.self c.args.bytes.now c.free.ensures.tells live fewer was
      (subst (λ b. Takes live (cond b [] (c.args.bytes.now ∷ [])) fewer) none takes);
}
