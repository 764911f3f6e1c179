use Rattle.std.proofs.Common.{refl}
use Rattle.std.specs.Fmt.{digits}
use Rattle.nqs_worked.proofs.one_host.devices_and_forms.Goals as goal

pub returns : goal.returns
unfolding digits
returns c = refl
