use Rattle.std.proofs.Common.{◌≡◌, ◌∙◌, sym, subst, refl}
use Rattle.std.specs.Map.Calls.{CalledAtPair}
use Rattle.nqs_base_tables.proofs.HeldLemmas.{the-is}
use Rattle.nqs_base_tables.proofs.held.Held.ask.Goals as goal

pub returns : goal.returns
returns g c =
    let same : c.in-Some.inside ≡ c.args.self.now = sym (the-is c.self.inside.room.value c.self.inside.filled c.in-Some.inside
    (sym c.as_mut.ensures.value ∙ c.in-Some.is)) ∙ c.self.view_is in
    subst (λ v. CalledAtPair g.F.FnMut c.args.f.now c.args.key.now v c.f.result c.f.new.arg3 c.f.new.self) same
    (record { key = _; value = _; shows = (refl, refl); left = _; called = c.f.ensures; leaves = refl })
