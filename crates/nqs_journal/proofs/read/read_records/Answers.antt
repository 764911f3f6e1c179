use Rattle.std.proofs.Common.{◌≡◌, ℕ, ◌++◌, ◌∙◌, ◌∷◌, [], inr, ap, sym, subst, length, take, arith, rules}
use Rattle.std.specs.List.{AllByRecursion}
use Rattle.std.proofs.lemmas.Grind.{common_steps}
use Rattle.nqs_journal.specs.Text.{records, IsShort}
use Rattle.nqs_journal.proofs.Texts.{short-push, length-frame}
use Rattle.nqs_journal.proofs.Readings.{one_more, gate_more_behind}
use Rattle.std.proofs.lemmas.List.{length-append}
use Rattle.nqs_journal.proofs.read.read_records.Goals as goal

pub returns-then-byte-ne1-clause-stands : goal.returns-then-byte-ne1-clause-stands
returns-then-byte-ne1-clause-stands c =
    let first = c.in-Some.ensures.cases in
    record {
      gate = c.in-Some.byte.now;
      rest = c.in-Some.after.now;
      text = c.records.invariant.text ∙ ap (λ l. take c.args.front c.args.bytes.now ++ records c.records.payloads.items ++ l) first.0;
      closed = c.if-byte-ne1.true;
      short = c.records.invariant.short;
    }

pub returns-in_default-first_frame-clause-fault : goal.returns-in_default-first_frame-clause-fault
returns-in_default-first_frame-clause-fault c =
    let first = c.in-Some.ensures.cases in
    record {
      payloads = c.records.payloads.items;
      rest = c.records.rest.now;
      text = c.records.invariant.text;
      is_place = c.records.invariant.gate;
      short = c.records.invariant.short;
      bad = inr (
        c.in-Some.after.now,
        first.0 ∙ ap (λ b. b ∷ c.in-Some.after.now) c.if-byte-ne1.false,
        c.in_default-first_frame.ensures.none,
      );
    }

pub records-preserved : goal.records-preserved
records-preserved c =
    let first = c.in-Some.ensures.cases in
    let payload = c.in-Some-first_frame.payload.now in
    let so_far = c.records.payloads.items in
    let begins = c.records.invariant.text ∙ ap (λ l. take c.args.front c.args.bytes.now ++ records so_far ++ l)
    (first.0 ∙ ap (λ b. b ∷ c.in-Some.after.now) c.if-byte-ne1.false) in
    let pushed : c.push.new.self.items ≡ so_far ++ payload ∷ [] = search (rules, common_steps) in
    record {
      text = one_more _ _ _ _ payload so_far begins c.in-Some-first_frame.ensures.some
          ∙ ap (λ ps. take c.args.front c.args.bytes.now ++ records ps ++ c.in-Some-first_frame.more.now) (sym pushed);
      gate = gate_more_behind _ payload so_far c.records.gate c.records.invariant.gate
          ∙ ap (λ ps. length (take c.args.front c.args.bytes.now ++ records ps)) (sym pushed);
      size = omega (
        arith,
        c.records.invariant.size,
        ap length first.0,
        ap length c.in-Some-first_frame.ensures.some,
        length-append
            {A = ℕ},
        length-frame payload,
      );
      short = subst (AllByRecursion IsShort) (sym pushed) (short-push so_far payload c.records.invariant.short c.in-Some-first_frame.ensures.short);
    }
