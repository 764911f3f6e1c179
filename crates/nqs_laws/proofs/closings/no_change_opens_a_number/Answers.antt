use Rattle.std.proofs.Common.{◌≡◌, ℕ, true}
use Rattle.nqs_types.specs.declared.ids.HostId.{HostId}
use Rattle.nqs_rules.specs.Applied.{applied}
use Rattle.nqs_laws.specs.Handovers.{is_closed_for}
use Rattle.nqs_laws.proofs.Kept.{each_kept}
use Rattle.nqs_laws.proofs.ClosedNumbers.{closed_stays, for_state}
use Rattle.nqs_laws.proofs.closings.no_change_opens_a_number.Goals as goal

pub returns : goal.returns
returns c = λ site acts few sane. each_kept _ site few acts sane (λ m sound k h s there way c is suits. for_state m.states h s
    (λ t. (from : HostId) (number : ℕ) → is_closed_for from number t ≡ true → is_closed_for from number (applied c t) ≡ true) there
    (closed_stays site _ m sound k h s there way c is suits))
