use Rattle.std.proofs.Common.{◌-◌, ◌∙◌, refl, sym, subst}
use Rattle.std.proofs.lemmas.Option.{same_Some}
use Rattle.nqs_index.specs.declared.lines.QueueLines.{QueueLines}
use Rattle.nqs_index.specs.Lines.{entry_at, TakesBy}
use Rattle.nqs_index.specs.Classes.{line_of, IsTaken}
use Rattle.nqs_index.proofs.PlaceLemmas.{key_kept, image_get}
use Rattle.nqs_index.proofs.QueueLineLemmas.{lent_back}
use Rattle.nqs_index.proofs.lines.take_here.Goals as goal

pub exchange-requires-clause-same : goal.exchange-requires-clause-same
exchange-requires-clause-same g c = image_get (λ (q : QueueLines). q.name) c.args.lines.now.items c.args.place c.at.result.now c.at.ensures

pub exchange-requires-2-clause-same : goal.exchange-requires-2-clause-same
exchange-requires-2-clause-same g c =
    let empty : QueueLines = record { name = c.at.result.now.name; classes = c.new.result } in
    rw c.exchange.ensures.items
    (key_kept (λ (q : QueueLines). q.name) c.args.lines.now.items c.args.place c.at.result.now c.exchange.new.value empty c.at.ensures c.exchange.ensures.out
    refl)

pub returns-clause-classes : goal.returns-clause-classes
returns-clause-classes g c =
    lent_back c.args.lines.now.items c.exchange.new.self.items c.exchange-2.new.self.items c.args.place c.exchange.new.value
    (record { name = c.at.result.now.name; classes = c.new.result }) c.take.new.classes c.exchange.ensures.out c.exchange.ensures.items
    c.exchange-2.ensures.items (IsTaken c.args.class.now (entry_at c.args.key c.args.id)) c.take.ensures.items

pub returns-clause-cost : goal.returns-clause-cost
returns-clause-cost g c v at =
    subst (λ (q : QueueLines). TakesBy c.args.key (line_of c.args.class.now q.classes.items) (c.take.new.steps - c.args.steps.now))
    (same_Some c.exchange.new.value v (sym c.exchange.ensures.out ∙ at)) c.take.ensures.cost
