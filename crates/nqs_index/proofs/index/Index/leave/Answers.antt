use Rattle.nqs_index.specs.declared.index.Index.{Index}
use Rattle.nqs_index.proofs.StandsLemmas.{left}
use Rattle.nqs_index.proofs.index.Index.leave.Goals as goal

pub returns-clause-stands : goal.returns-clause-stands
returns-clause-stands g c ts us stands more =
    let new : Index = record {
      counters = c.count_out.new.counters;
      lines = c.step_out.new.lines;
      nobody = c.args.self.now.nobody;
      runs = c.end_run.new.runs;
      most = c.args.self.now.most;
    } in
    left c.args.self.now new c.args.seat.now ts us
    stands more c.count_out.ensures c.step_out.ensures.classes c.end_run.ensures
