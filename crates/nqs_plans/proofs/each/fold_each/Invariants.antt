use Rattle.std.proofs.Common.{◌≡◌, drop}
use Rattle.std.specs.Prelude.{fold, IfOk}
use Rattle.std.specs.Fn.{AnyResult}
use Rattle.nqs_plans.proofs.each.fold_each.Given as goal

abbrev pub invariant-loop-place : goal.invariant-loop-place
invariant-loop-place g l = (h : _) → ((a : _) (w : _) → AnyResult g.F.Fn l.f (a, (w, tt)) (λ r. IfOk r (λ b. b ≡ h a w.now)))
    → fold h l.made (drop l.place l.table.items) ≡ fold h l.fn.start l.table.items
