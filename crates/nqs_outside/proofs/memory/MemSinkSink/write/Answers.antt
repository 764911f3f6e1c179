use Rattle.std.proofs.Common.{rules, ◌≡◌, inl, inr, length, true}
use Rattle.nqs_outside.specs.Memory.{is_due}
use Rattle.nqs_outside.proofs.memory.MemSinkSink.write.Goals as goal

pub returns-then-contains-clause-broken : goal.returns-then-contains-clause-broken
returns-then-contains-clause-broken c =
    let due : is_due c.args.self.now.fails.items (length c.args.self.now.calls.items) ≡ true = search rules in
    elim c.keep_call-kept.ensures.either [ inl made ↦ inl (due, made) | inr same ↦ inr same ]
