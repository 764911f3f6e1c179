use Rattle.std.proofs.Common.{ap, List, length, length-append, arith}
use Rattle.std.specs.Option.{option_to_list}
use Rattle.nqs_serve.specs.Runs.{comeback_of}
use Rattle.nqs_serve.specs.declared.comeback.Comeback.{Comeback}
use Rattle.nqs_serve.proofs.Lists.{few_back}
use Rattle.nqs_serve.proofs.Tellings.{passes_then}
use Rattle.nqs_serve.proofs.carry.carry_one.Goals as goal

pub returns-clause-few : goal.returns-clause-few
returns-clause-few g c =
    omega (
      arith,
      ap (λ (l : List Comeback). length l) c.note.ensures.noted,
      length-append c.args.back.now.items
          (option_to_list (comeback_of c.args.output.now c.ask-ok.result)),
      few_back c.args.output.now c.ask-ok.result,
    )

pub returns-clause-adds : goal.returns-clause-adds
returns-clause-adds g c = passes_then _ _ _ c.send.ensures.sends c.ask-ok.ensures.asks
