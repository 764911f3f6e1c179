use Rattle.std.proofs.Common.{◌∙◌, map, drop, refl, sym, subst}
use Rattle.nqs_state.specs.State.{content}
use Rattle.nqs_rules.specs.Stepped.{part_bytes}
use Rattle.nqs_store.specs.Accounts.{Takes}
use Rattle.nqs_store.specs.Frees.{gone}
use Rattle.nqs_store.proofs.Freeing.{takes_split, nothing_gone}
use Rattle.nqs_store.proofs.free.free_gone.Goals as goal

pub returns-in-Ended : goal.returns-in-Ended
returns-in-Ended g c = record {
  same = c.free_behind.ensures.same ∙ c.free_row-in-Ended.ensures.same;
  tells = λ live fewer was takes.
      let host = content c.args.state.now in
      let parts = takes_split live _ _ fewer (subst (λ change. Takes live (gone change host) fewer) c.in-Ended.is takes) in
      c.free_behind.ensures.tells parts.0 fewer (c.free_row-in-Ended.ensures.tells live parts.0 was parts.1)
      (subst (λ l. Takes parts.0 l fewer) (λ j. drop (sym c.numbers_left.ensures j) (map part_bytes (sym c.as_slice.ensures j))) parts.2);
}

pub returns-in_default : goal.returns-in_default
returns-in_default g c = record {
  same = refl;
  tells = λ live fewer was takes.
      let n = c.in_default in
      let none = nothing_gone (content c.args.state.now) c.args.change.now n.not-Deleted n.not-Ended n.not-Unlaunched n.not-Boot n.not-Edited
      n.not-HandCommitted n.not-OldPromised n.not-Promised n.not-Accepted n.not-Dropped n.not-StageGot n.not-StageGone n.not-FileGone in
      subst (Rattle.nqs_spool.specs.Spooled.Tells c.args.spool.now) (subst (λ l. Takes live l fewer) none takes) was;
}
