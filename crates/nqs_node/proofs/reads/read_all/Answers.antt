use Rattle.std.proofs.Common.{IsTrue, ◌+◌, drop, length, refl, sym, ap, subst, ◌∙◌, get_or, arith}
use Rattle.std.specs.List.{list_all}
use Rattle.std.proofs.lemmas.List.{at_drop_more, at_drop_all}
use Rattle.std.proofs.lemmas.Result.{err_from_is_err_and}
use Rattle.nqs_base.specs.Extents.{extent_bytes}
use Rattle.nqs_types.specs.declared.world.Which.TheVariants.{Spool}
use Rattle.nqs_types.specs.declared.event.PlanRead.{PlanRead}
use Rattle.nqs_outside.specs.History.{History, content}
use Rattle.nqs_rules.specs.Edits.{change_at}
use Rattle.nqs_rules.specs.Stepped.{with_bytes}
use Rattle.nqs_store.specs.Stores.{bytes_of}
use Rattle.nqs_node.specs.Reading.{read_into, zeros, IsLiveRead, sends_short, AreShort}
use Rattle.nqs_node.proofs.Carrying.{read_short}
use Rattle.nqs_node.proofs.Places.{no_error, all_at, reads_none, reads_then, failed_since}
use Rattle.nqs_store.specs.Reads.{of_spool}
use Rattle.nqs_store.proofs.Asking.{asks_same}
use Rattle.nqs_node.proofs.Asking.{asks_then, asks_more}
use Rattle.nqs_node.proofs.reads.read_all.Goals as goal

pub returns-in_err-read_one-clause-spool : goal.returns-in_err-read_one-clause-spool
returns-in_err-read_one-clause-spool g c =
    let p = err_from_is_err_and c.from_residual.result c.from_residual.ensures.1 in
    let v = c.loop-read.invariant in
    let one = c.in_err-read_one.ensures.spool in
    rw (p.1, p.2) (record {
      only = one.only;
      stopped = λ is. subst IsTrue v.stays.0 (one.stopped is);
      failed = λ failed. failed_since _ _ c.read_one.new.store Spool v.reads (one.failed failed);
      reads = reads_then _ _ _ v.reads one.reads;
      stays = (one.stays.0 ∙ v.stays.0, one.stays.1 ∙ v.stays.1);
      tells = λ yes host told. one.tells yes host (v.tells yes host told);
    })

pub returns-in_err-read_one-clause-fills : goal.returns-in_err-read_one-clause-fills
returns-in_err-read_one-clause-fills g c =
    let p = err_from_is_err_and c.from_residual.result c.from_residual.ensures.1 in
    let v = c.loop-read.invariant in
    let one = c.in_err-read_one.ensures.fills in
    rw (p.1, p.2) (record {
      as_many = one.as_many ∙ v.as_many;
      alike = one.alike ∙ v.alike;
      filled = λ yes host told live. tt;
      short = λ was. tt;
    })

pub returns-clause-spool : goal.returns-clause-spool
returns-clause-spool g c =
    let v = c.loop-read.invariant in
    record {
      only = tt;
      stopped = λ is. absurd (no_error _ _ is);
      failed = λ is. absurd (no_error _ _ is);
      reads = v.reads;
      stays = v.stays;
      tells = v.tells;
    }

pub loop-read-preserved : goal.loop-read-preserved
loop-read-preserved g c =
    let v = c.loop-read.invariant in
    let i = c.loop-read.read-index in
    let reads = c.args.reads.now in
    let f = bytes_of c.args.store.now in
    let none : PlanRead = record { output = 0; extent = record { place = 0; length = 0 } } in
    let x : PlanRead = get_or reads i none in
    let outputs = c.loop-read.outputs.items in
    record {
      filled = λ yes host told all.
          let read = c.in_ok-read_one.ensures.fills.filled yes host (v.tells yes host told) (all_at (IsLiveRead host) reads i none all c.loop-read-test.true) in
          let bytes = ap (λ (h : History). extent_bytes (content h) x.extent) (v.reads.same yes Spool) in
          ap (read_into f (drop (i + 1) reads)) (read ∙ ap (λ b. change_at x.output (with_bytes b) outputs) bytes)
          ∙ sym (at_drop_more (λ rs. read_into f rs outputs) reads i none c.loop-read-test.true) ∙ v.filled yes host told all;
      short = λ was.
          let read = c.in_ok-read_one.ensures.fills.few in
          let before = sym (at_drop_more (λ rs. list_all sends_short (read_into zeros rs outputs)) reads i none c.loop-read-test.true) ∙ v.short was in
          subst (λ os. AreShort (read_into zeros (drop (i + 1) reads) os)) (sym read.2)
          (read_short (drop (i + 1) reads) x.output x.extent read.0 read.1 outputs before);
      as_many = c.read_one.ensures.fills.as_many ∙ v.as_many;
      alike = c.read_one.ensures.fills.alike ∙ v.alike;
      reads = reads_then _ _ _ v.reads c.read_one.ensures.spool.reads;
      stays = (c.read_one.ensures.spool.stays.0 ∙ v.stays.0, c.read_one.ensures.spool.stays.1 ∙ v.stays.1);
      tells = λ yes host told. c.read_one.ensures.spool.tells yes host (v.tells yes host told);
      asks = asks_then c.args.store.now c.loop-read.store c.read_one.new.store i v.asks c.read_one.ensures.once;
      few = omega (arith, c.loop-read-test.true);
    }

pub returns-clause-fills : goal.returns-clause-fills
returns-clause-fills g c =
    let v = c.loop-read.invariant in
    let f = bytes_of c.args.store.now in
    let outputs = c.loop-read.outputs.items in
    record {
      as_many = v.as_many;
      alike = v.alike;
      filled = λ yes host told all.
          sym (at_drop_all (λ rs. read_into f rs outputs) c.args.reads.now c.loop-read.read-index c.loop-read-test.false) ∙ v.filled yes host told all;
      short = λ was.
          sym (at_drop_all (λ rs. list_all sends_short (read_into zeros rs outputs)) c.args.reads.now c.loop-read.read-index c.loop-read-test.false)
          ∙ v.short was;
    }

pub loop-read-init : goal.loop-read-init
loop-read-init g c = record {
  filled = λ yes host told all. refl;
  short = λ was. was;
  as_many = refl;
  alike = refl;
  reads = reads_none _;
  stays = (refl, refl);
  tells = λ yes host told. told;
  asks = asks_same c.args.store.now (of_spool 0);
  few = omega arith;
}

pub returns-in_err-read_one-clause-asks : goal.returns-in_err-read_one-clause-asks
returns-in_err-read_one-clause-asks g c =
    let v = c.loop-read.invariant in
    let i = c.loop-read.read-index in
    asks_more c.args.store.now c.read_one.new.store (i + 1) (length c.args.reads.now) (omega (arith, c.loop-read-test.true))
    (asks_then c.args.store.now c.loop-read.store c.read_one.new.store i v.asks c.read_one.ensures.once)

pub returns-clause-asks : goal.returns-clause-asks
returns-clause-asks g c =
    let v = c.loop-read.invariant in
    asks_more c.args.store.now c.loop-read.store c.loop-read.read-index (length c.args.reads.now) v.few v.asks
