use Rattle.std.proofs.Common.{◌≡◌, ◌+◌, ◌∙◌, map, drop, slice_get, Some, sym, ap, subst}
use Rattle.std.proofs.lemmas.List.{drop_all}
use Rattle.nqs_rules.specs.Stepped.{part_bytes}
use Rattle.nqs_spool.specs.Spooled.{Tells}
use Rattle.nqs_store.specs.Accounts.{Takes}
use Rattle.nqs_store.proofs.Lists.{get_at}
use Rattle.nqs_store.proofs.Freeing.{first_free, next_on, drop_most}
use Rattle.nqs_store.proofs.free.free_behind.Goals as goal

pub loop-part-preserved : goal.loop-part-preserved
loop-part-preserved g c =
    let inv = c.loop-part.invariant in
    let i = c.loop-part.part-index in
    let vs = c.split_at.result.1.now in
    let v = c.part-item.result in
    let at : slice_get vs i ≡ Some v = get_at vs i v c.loop-part-test.true ∙ ap Some (sym c.part-item.is) in
    record {
      same = c.free.ensures.same ∙ inv.same;
      tells = λ live fewer was takes.
          let so_far = inv.tells live fewer was takes in
          first_free c.loop-part.spool c.free.new.self v.bytes c.free.ensures.tells (map part_bytes (drop (i + 1) vs)) so_far.0 fewer so_far.1
          (subst (λ l. Takes so_far.0 l fewer) (next_on part_bytes (λ _. Rattle.std.proofs.Common.true) vs i v at) so_far.2);
    }

pub returns : goal.returns
returns g c =
    let ps = c.args.parts.now in
    let vs = c.split_at.result.1.now in
    let first = drop_most part_bytes ps c.args.from c.min-kept.result c.min-kept.ensures ∙ ap (map part_bytes) (sym c.split_at.ensures.back) in
    let none = drop_all c.loop-part.part-index vs c.loop-part-test.false in
    record {
      same = c.loop-part.invariant.same;
      tells = λ live fewer was takes.
          let so_far = c.loop-part.invariant.tells live fewer was (subst (λ l. Takes live l fewer) first takes) in
          subst (Tells c.loop-part.spool) (subst (λ l. Takes so_far.0 (map part_bytes l) fewer) none so_far.2) so_far.1;
    }
