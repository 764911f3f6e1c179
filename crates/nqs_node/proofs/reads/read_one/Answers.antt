use Rattle.std.proofs.Common.{◌++◌, refl, ℕ, List, length, map, ap, ◌∙◌, arith}
use Rattle.nqs_back.specs.Bare.{without_bytes}
use Rattle.nqs_back.proofs.Plans.{filled_alike}
use Rattle.nqs_rules.specs.Edits.{change_at}
use Rattle.nqs_rules.specs.Stepped.{with_bytes}
use Rattle.nqs_store.specs.Stores.{bytes_of}
use Rattle.nqs_node.proofs.Places.{no_error}
use Rattle.nqs_node.proofs.reads.read_one.Goals as goal

pub returns-in-Err-clause-spool : goal.returns-in-Err-clause-spool
returns-in-Err-clause-spool g c = record {
  only = c.in-Err.ensures.only;
  stopped = c.in-Err.ensures.stopped.0;
  failed = c.in-Err.ensures.failed;
  reads = c.script.ensures.reads;
  stays = c.script.ensures.stays;
  tells = c.script.ensures.tells;
}

pub returns-in-Err-clause-fills : goal.returns-in-Err-clause-fills
returns-in-Err-clause-fills g c = record { as_many = refl; alike = refl; filled = λ yes host told live. tt; few = tt }

pub returns-in-Ok-clause-spool : goal.returns-in-Ok-clause-spool
returns-in-Ok-clause-spool g c = record {
  only = tt;
  stopped = λ is. absurd (no_error _ _ is);
  failed = λ is. absurd (no_error _ _ is);
  reads = c.script.ensures.reads;
  stays = c.script.ensures.stays;
  tells = c.script.ensures.tells;
}

pub returns-in-Ok-clause-fills : goal.returns-in-Ok-clause-fills
returns-in-Ok-clause-fills g c = record {
  as_many = c.fill_at.ensures.as_many;
  alike = ap (map without_bytes) c.fill_at.ensures.filled ∙ filled_alike c.args.read.now.output c.from_vec.result c.args.outputs.now.items;
  filled = λ yes host told live.
      let read = c.from_vec.ensures ∙ c.in-Ok.ensures.bytes yes host told live
      ∙ ap (λ l. l ++ bytes_of c.args.store.now c.args.read.now.extent) c.new-bytes.ensures.items in
      c.fill_at.ensures.filled ∙ ap (λ b. change_at c.args.read.now.output (with_bytes b) c.args.outputs.now.items) read;
  few = (
    c.from_vec.result,
    omega (arith, c.script.ensures.few, ap (λ (l : List ℕ). length l) c.from_vec.ensures),
    c.fill_at.ensures.filled,
  );
}
