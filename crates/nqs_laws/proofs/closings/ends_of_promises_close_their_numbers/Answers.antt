use Rattle.std.proofs.Common.{ℕ}
use Rattle.nqs_types.specs.declared.ids.HostId.{HostId}
use Rattle.nqs_laws.specs.Closed.{IsClosedBy, MayClose, ClosesOwn}
use Rattle.nqs_laws.proofs.Kept.{each_kept}
use Rattle.nqs_laws.proofs.ClosedNumbers.{closes_own, closes_only, for_state}
use Rattle.nqs_laws.proofs.closings.ends_of_promises_close_their_numbers.Goals as goal

pub returns : goal.returns
returns c = record {
  own = λ site acts few sane. each_kept _ site few acts sane (λ m sound k h s there way c is suits. for_state m.states h s (ClosesOwn c) there
      (closes_own site _ m sound k h s there way c is suits));
  only = λ site acts few sane. each_kept _ site few acts sane (λ m sound k h s there way c is suits. for_state m.states h s
      (λ t. (from : HostId) (number : ℕ) → IsClosedBy c from number t → MayClose c m.states h from number) there
      (closes_only site _ m sound k h s there way c is suits));
}
