use Rattle.std.proofs.Common.{◌<◌, length, refl, arith}
use Rattle.nqs_base_tables.proofs.SlotLemmas.{raised-set, raised-none}
use Rattle.std.proofs.lemmas.Option.{slice_get_read}
use Rattle.nqs_base_tables.proofs.slots.lower.Goals as goal

pub returns-then-block-len : goal.returns-then-block-len
returns-then-block-len c =
    let within : c.args.block < length c.args.blocks.now.items = omega arith in
    raised-set c.args.blocks.now.items c.args.block c.index_mut.result.now within c.index_mut.ensures.value
    (c.requires c.index_mut.result.now (slice_get_read c.args.blocks.now.items (length c.args.blocks.now.items) c.args.block _ refl within
    c.index_mut.ensures.value))

pub returns-else-block-len : goal.returns-else-block-len
returns-else-block-len c = raised-none c.args.blocks.now.items c.args.block (omega arith)
