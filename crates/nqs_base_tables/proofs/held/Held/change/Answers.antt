use Rattle.std.proofs.Common.{rules, ◌≡◌, ◌∙◌, sym, subst}
use Rattle.std.specs.Fn.{FnOnceReturnsAtMut}
use Rattle.nqs_base_tables.proofs.HeldLemmas.{the-is}
use Rattle.nqs_base_tables.proofs.held.Held.change.Goals as goal

pub returns : goal.returns
returns g c =
    let same : c.in-Some.inside ≡ c.args.self.now = sym (the-is c.self.inside.room.value c.self.inside.filled c.in-Some.inside
    (sym c.as_mut.ensures.value ∙ c.in-Some.is)) ∙ c.self.view_is in
    subst (λ v. FnOnceReturnsAtMut g.F.FnOnce c.args.f v tt c.f.new.arg2) same (search rules)
