use Rattle.std.proofs.Common.{◌≡◌, ℕ, ◌+◌, ◌-◌, ◌<◌, List, Option, ap, arith}
use Rattle.nqs_base_tables.specs.Slots.{filled}
use Rattle.nqs_base_tables.proofs.slots.Slots.previous.Goals as goal

back : {K V : Type 0} (es : List (K × Option V)) (slot : ℕ) → 0 < slot → filled es (slot - 1 + 1) ≡ filled es slot
back es slot some = (let e : slot - 1 + 1 ≡ slot = omega arith in ap (filled es) e)

pub returns-then-one-eq1-clause-place : goal.returns-then-one-eq1-clause-place
returns-then-one-eq1-clause-place g c =
    let e : filled c.args.self.now.entries (c.loop-slot.slot - 1 + 1) ≡ filled c.args.self.now.entries c.loop-slot.slot =
    back c.args.self.now.entries c.loop-slot.slot c.loop-slot-test.true in
    omega arith

pub returns-then-one-eq1-clause-filled : goal.returns-then-one-eq1-clause-filled
returns-then-one-eq1-clause-filled g c = record { within = omega arith; here = omega arith }

pub loop-slot-preserved : goal.loop-slot-preserved
loop-slot-preserved g c =
    let e : filled c.args.self.now.entries (c.loop-slot.slot - 1 + 1) ≡ filled c.args.self.now.entries c.loop-slot.slot =
    back c.args.self.now.entries c.loop-slot.slot c.loop-slot-test.true in
    record { same = omega arith; within = omega arith }

pub unreachable-requires : goal.unreachable-requires
unreachable-requires g c =
    let zero_slot : c.loop-slot.slot ≡ 0 = omega arith in
    let e : filled c.args.self.now.entries c.loop-slot.slot ≡ 0 = ap (filled c.args.self.now.entries) zero_slot in
    omega arith
