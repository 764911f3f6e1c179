use Rattle.std.proofs.Common.{rules}
use Rattle.nqs_base.proofs.Plain.{anyway}
use Rattle.nqs_store.proofs.checkpoint.checkpoint_text.Goals as goal

pub returns : goal.returns
returns c = record {
  text = search rules;
  begins = search rules;
  reads = anyway c.snapshot_text.result (c.in_ok-write_state.ensures.reads_back c.requires.sound.consistent c.requires.sound.short);
}
